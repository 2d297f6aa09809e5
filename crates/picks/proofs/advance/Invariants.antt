-- `picks::advance` meets its contract. The loop's invariant: what stood with the place and the set at the start stands with those of now.
-- Assumes nothing.
use Rattle.picks.proofs.Advances.{Toward}
use Rattle.picks.proofs.advance.Given as goal

abbrev pub invariant-loop-next : goal.invariant-loop-next
invariant-loop-next l = Toward l.release l.by l.n l.t l.from l.initial.ready l.next l.ready
