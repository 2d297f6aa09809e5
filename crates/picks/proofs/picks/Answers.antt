-- `picks::picks` meets its contract: in each of its three cases both picks are the desk's.
-- Assumes nothing.
use mathlib.Core.Path.{refl}
use Rattle.picks.proofs.Fronts.{found, least_row, can_next, ready_picks, ahead_picks, none_picks}
use Rattle.picks.proofs.picks.Goals as goal

pub next_after-j-requires : goal.next_after-j-requires
next_after-j-requires c = let e = c.requires.1 in can_next e.3 e.4
    (least_row e.3 e.4 (found c.lowest-i.ensures)) c.if-i-ne0.true

pub returns-then-i-ne0 : goal.returns-then-i-ne0
returns-then-i-ne0 c =
    λ job t rest k s late.
    ready_picks k s (least_row k s (found c.lowest-i.ensures)) c.if-i-ne0.true late
    c.next_after-j.ensures c.front.ensures

pub returns-then-next-n : goal.returns-then-next-n
returns-then-next-n c =
    λ job t rest k s late.
    ahead_picks k s (least_row k s (found c.lowest-i.ensures))
    c.if-i-ne0.false late
    c.if-next-n.true refl c.front-then-next-n.ensures

pub returns : goal.returns
returns c = λ job t rest k s late. none_picks k s (least_row k s (found c.lowest-i.ensures)) c.if-i-ne0.false late
    c.if-next-n.false
