-- `put_day` meets its contract: the head, then one column after another.
-- Assumes nothing.
use native.Mathlib.Omega.{arith}
use Rattle.desk_open.proofs.OpenCall.{day_put}
use Rattle.desk_open.proofs.put_day.Goals as goal

pub returns : goal.returns
returns c =
    let a = c.args in
    λ rows count same paged. day_put a.opening (record { free = a.free; rows = rows }) (omega arith) a.desk.now a.n count
    a.release.now a.minutes.now a.due.now a.pages.now c.requires.2 c.requires.3 c.requires.4 c.requires.5 same paged
    _ _ _ _ _ c.put_head.ensures
    c.put_column.ensures
    c.put_column-2.ensures
    c.put_column-3.ensures c.put_column-4.ensures
