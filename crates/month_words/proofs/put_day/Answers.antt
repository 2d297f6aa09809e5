-- `put_day` meets its contract: the book, then the posting.
-- Assumes nothing.
use Rattle.month_words.proofs.Lists.{day_put}
use Rattle.month_words.proofs.put_day.Goals as goal

pub returns : goal.returns
returns c = day_put c.put_list-next.ensures c.put_list.ensures
