-- `picks::take` meets its contract: the row is one of the rows, the numbers fit, and it is in the set once the desk has moved on.
-- Assumes nothing.
use native.Mathlib.Omega.{arith}
use Rattle.picks.proofs.Takes.{row_high, can_take, at_end, can_clear, taken}
use Rattle.picks.proofs.take.Goals as goal

pub offset_bounds-release-i : goal.offset_bounds-release-i
offset_bounds-release-i c = let p = c.requires.tables in record { fits = omega (arith, row_high p.0 p.1.2 p.1.3) }

pub bounds-release-i : goal.bounds-release-i
bounds-release-i c = let p = c.requires.tables in omega (arith, row_high p.0 p.1.2 p.1.3)

pub offset_bounds-minutes-i : goal.offset_bounds-minutes-i
offset_bounds-minutes-i c = let p = c.requires.tables in record { fits = omega (arith, row_high p.0 p.1.2 p.1.3) }

pub bounds-minutes-i : goal.bounds-minutes-i
bounds-minutes-i c = let p = c.requires.tables in omega (arith, row_high p.0 p.1.2 p.1.3)

pub offset_bounds-due-i : goal.offset_bounds-due-i
offset_bounds-due-i c = let p = c.requires.tables in record { fits = omega (arith, row_high p.0 p.1.2 p.1.3) }

pub bounds-due-i : goal.bounds-due-i
bounds-due-i c = let p = c.requires.tables in omega (arith, row_high p.0 p.1.2 p.1.3)

pub take-after-requires : goal.take-after-requires
take-after-requires c = can_take c.requires.tables.0 c.requires.tables.1.2 c.requires.tables.1.3 c.requires.limits

pub advance-ahead-requires : goal.advance-ahead-requires
advance-ahead-requires c =
    let a = c.args in
    let p = c.requires.tables in
    (a.minutes.now, a.due.now, p.1.0, p.0, at_end p.0 p.1.2 p.1.3 c.take-after.ensures)

pub away-requires : goal.away-requires
away-requires c =
    let a = c.args in
    let p = c.requires.tables in
    let d = c.take-after.ensures in
    can_clear p.0 p.1.2 p.1.3 d (c.advance-ahead.ensures a.minutes.now a.due.now p.1.0 p.0
    (at_end p.0 p.1.2 p.1.3 d))

pub returns : goal.returns
returns c =
    λ rest count g m.
    let a = c.args in
    let d = c.take-after.ensures in
    taken c.requires.tables.0 g m d (c.advance-ahead.ensures a.minutes.now a.due.now rest c.requires.tables.0 (at_end c.requires.tables.0 g m d))
    c.requires.limits c.away.ensures
