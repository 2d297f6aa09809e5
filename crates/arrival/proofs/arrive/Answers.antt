-- `arrive` meets its contract: the rows that the sort writes are those by arrival, and the desk follows them.
-- Assumes nothing.
use lib.Seq.{length-take-le}
use Rattle.schedule.specs.Columns.{columns}
use Rattle.arrival.proofs.Arrived.{arrived_small, arrived_plan}
use mathlib.Core.Path.{sym}
use native.Mathlib.Omega.{arith}
use Rattle.arrival.proofs.arrive.Goals as goal

pub slice_bounds-follow-end : goal.slice_bounds-follow-end
slice_bounds-follow-end c =
    sym (length-take-le c.args.n _
    (omega (arith, c.rows_by_arrival.ensures.0, c.requires.n_le_most_rows.0)))

pub follow-desk-requires : goal.follow-desk-requires
follow-desk-requires c =
    let a = c.args in
    let order = c.rows_by_arrival.new.rows in
    let l = length-take-le a.n order (omega (arith, c.rows_by_arrival.ensures.0, c.requires.n_le_most_rows.0)) in
    let job = columns a.release.now a.minutes.now a.due.now in
    let small = arrived_small job a.n order c.requires.n_le_most_rows.0 c.rows_by_arrival.ensures.0 (c.rows_by_arrival.ensures.1 a.minutes.now) in record { limits = c.requires.limits; ends_in_time = (omega (arith, l, c.requires.n_le_most_rows.1), omega (arith, l, c.requires.n_le_most_rows.0), small) }

pub returns : goal.returns
returns c =
    let a = c.args in
    let job = columns a.release.now a.minutes.now a.due.now in
    arrived_plan job a.n c.rows_by_arrival.new.rows c.requires.n_le_most_rows.0 c.rows_by_arrival.ensures.0 (c.rows_by_arrival.ensures.1 a.minutes.now) a.free
    c.follow-desk.result c.follow-desk.ensures
