-- `picks::front` meets its contract: each of its three answers is the first pick.
-- Assumes nothing.
use Rattle.picks.proofs.Fronts.{ready_pick, ahead_pick, none_picks}
use Rattle.picks.proofs.front.Goals as goal

pub returns-then-j-ne0 : goal.returns-then-j-ne0
returns-then-j-ne0 c = λ job t rest ready k s l late. ready_pick k s l c.if-j-ne0.true late

pub returns-then-next-n : goal.returns-then-next-n
returns-then-next-n c =
    λ job t rest ready k s l late. ahead_pick k s l c.if-j-ne0.false late
    c.if-next-n.true

pub returns : goal.returns
returns c = λ job t rest ready k s l late. (none_picks k s l c.if-j-ne0.false late c.if-next-n.false).0
