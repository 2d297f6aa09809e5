-- `store` meets its contract: the new times, put into their column.
-- Assumes nothing.
use native.Mathlib.Omega.{arith}
use mathlib.Core.Path.{refl, ap, ◌∙◌}
use mathlib.Core.List.{List}
use Prim.Native.Nat.{ℕ, ◌+◌}
use Rattle.running.specs.Words.{times, put}
use Rattle.running.proofs.Fits.{keeps_says}
use Rattle.desk_pace.specs.Paces.{time_by_pace}
use Rattle.desk_pace.proofs.Repaced.{column_filled}
use Rattle.desk_pace.proofs.store.Goals as goal

pub new_times-requires : goal.new_times-requires
new_times-requires c =
    let keeps = ((keeps_says _).0 c.requires.0) in
    let desk = keeps.desk in
    (c.requires.1, c.requires.2, desk.long, desk.count.1, desk.opening, λ i h g. (keeps.pages i h g).1, refl)

pub bounds-desk-0 : goal.bounds-desk-0
bounds-desk-0 c = omega (arith, ((keeps_says _).0 c.requires.0).desk.long)

pub overflow_cast-n : goal.overflow_cast-n
overflow_cast-n c = omega (arith, ((keeps_says _).0 c.requires.0).desk.count)

pub put_column-requires : goal.put_column-requires
put_column-requires c =
    let desk = ((keeps_says _).0 c.requires.0).desk in
    (desk.count.1, omega arith, desk.long, c.new_times.ensures.sized)

pub returns : goal.returns
returns c =
    let filled = c.new_times.ensures in
    let ws = c.args.desk.now in
    c.put_column.ensures ∙
    ap (λ (xs : List ℕ). put (times + 1) xs ws) (column_filled (time_by_pace ws c.args.pace) _ _ ((keeps_says _).0 c.requires.0).desk.count.1 filled)
