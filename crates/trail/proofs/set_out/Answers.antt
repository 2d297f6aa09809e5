-- `set_out` meets its contract: past the first run the search goes on with blocks.
-- Assumes nothing.
use Rattle.trail.proofs.Coming.{came_first}
use Rattle.trail.proofs.set_out.Goals as goal

pub start-begin-requires : goal.start-begin-requires
start-begin-requires c = ((c.args.minutes.now, c.args.due.now, c.requires.tables), c.requires.ends_in_time.0)

pub run_on-first-requires : goal.run_on-first-requires
run_on-first-requires c =
    let a = c.args in record { limits = c.requires.limits; tables = c.requires.tables; by_index = ((_, c.start-begin.ensures.0 a.minutes.now a.due.now c.requires.tables), c.requires.ends_in_time.1) }

pub onward-requires : goal.onward-requires
onward-requires c =
    let a = c.args in
    let s = c.start-begin.ensures in
    let r = c.run_on-first.ensures _ (s.0 a.minutes.now a.due.now c.requires.tables) in record { limits = c.requires.limits; tables = c.requires.tables; order_len = (r.places, c.requires.ends_in_time.2, (a.free, came_first _ _ _ c.requires.limits _ _ _ s.1 s.2 _ _ _ r _)) }

pub returns : goal.returns
returns c =
    let a = c.args in
    let s = c.start-begin.ensures in
    let r = c.run_on-first.ensures _ (s.0 a.minutes.now a.due.now c.requires.tables) in
    let o = c.onward.ensures in
    (o.0, o.1, o.2 a.free (came_first _ _ _ c.requires.limits _ _ _ s.1 s.2 _ _ _ r _))
