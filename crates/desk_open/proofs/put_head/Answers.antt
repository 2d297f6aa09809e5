-- `put_head` meets its contract: zeros, then the head among them.
-- Assumes nothing.
use Rattle.running.specs.Words.{desk_words}
use Rattle.desk_open.proofs.Puts.{zeros_front, head_put}
use Rattle.desk_open.proofs.put_head.Goals as goal

pub returns : goal.returns
returns c =
    let a = c.args in
    head_put a.count a.minute a.opening a.desk.now _
    (zeros_front desk_words a.desk.now _ c.requires (c.fill.ensures.after (λ y e. e)))
