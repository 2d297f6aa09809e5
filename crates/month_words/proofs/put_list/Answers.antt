-- `put_list` meets its contract: the length, then the words.
-- Assumes nothing.
use Rattle.month_words.proofs.Lists.{list_put}
use Rattle.month_words.proofs.put_list.Goals as goal

pub returns : goal.returns
returns c = list_put c.put_word.ensures c.put_words.ensures
