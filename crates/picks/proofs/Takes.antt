-- A row is taken: the numbers are within what the machine's words hold, the row is in the set once the desk has moved on, and what the
-- desk is then. Assumes nothing.
use Prim.Native.Nat.{ℕ, ◌+◌, ◌≤◌, ◌<◌}
use native.Mathlib.Omega.{arith}
use mathlib.Core.Bool.{Bool, true, false}
use mathlib.Core.Path.{◌≡◌, refl, ap}
use mathlib.Core.List.{List, Memᴰ}
use Rattle.theory.specs.Jobs.{Job, finish}
use Rattle.schedule.specs.Limits.{most_rows}
use Rattle.schedule.specs.Offset.{desk_after}
use Rattle.schedule.specs.Columns.{Limits}
use Rattle.schedule.specs.declared.Desk.{Desk}
use Rattle.schedule.proofs.Orders.{length_without}
use Rattle.picks.specs.declared.Standing.{Standing}
use Rattle.picks.specs.Bits.{mark, Words}
use Rattle.picks.specs.Standing.{Tables, Stands, Late, Sits, Taken}
use Rattle.picks.proofs.Standings.{stands_away, stands_later, in_set}

-- What `away` ensures.
abbrev Away : List ℕ → ℕ → List ℕ → Type 0
Away ws i less = (p : ℕ → Bool) → Words p ws → p i ≡ true → Words (mark i false p) less

module _ {n : ℕ} {job : ℕ → Job} {by : ℕ → ℕ} (r : Tables n job by) {rest : List ℕ} {s : Standing} (g : Sits n job by rest s) {i : ℕ}
    (m : Memᴰ i rest) where
  -- The row is one of the columns' rows, and the numbers are small.
  pub row_high : i ≤ most_rows
  row_high = omega (arith, (g.stands.rows i m).1, r.few)

  pub can_take : Limits job → (s.desk.minute ≤ 1000000000) × ((job i).release ≤ 1000000000) × ((job i).length ≤ 1000000000) ×
      ((job i).due ≤ 2147483647)
  can_take k = (
    omega (arith, g.minutes),
    omega (arith, k.releases i),
    omega (arith, k.lengths i),
    omega (arith, k.dues i),
  )

  module _ {d : Desk} (e : d ≡ desk_after s.desk (job i)) where
    end : d.minute ≡ finish (job i) s.desk.minute
    end = ap (λ (d : Desk). d.minute) e

    -- The desk moves on to the row's end,
    pub at_end : Stands n job by d.minute rest s.next s.ready
    unfolding finish
    at_end = stands_later r g.stands d.minute (omega (arith, end))

    -- the rows released by then are put into the set,
    module _ {next : ℕ} {more : List ℕ} (a : Stands n job by d.minute rest next more × Late n job by d.minute next) where
      on : a.0.set i ≡ true
      unfolding finish
      on = in_set r a.0 a.1 m (omega (arith, end))

      -- and the row, which is among them, is taken out.
      pub can_clear : (i < 320) × ((p : ℕ → Bool) × Words p more × (p i ≡ true))
      can_clear = (omega (arith, row_high), (a.0.set, a.0.words, on))

      pub taken : Limits job → {less : List ℕ} → Away more i less → Taken n job by rest s i
          (record { desk = d; count = s.count + 1; next = next; ready = less })
      unfolding finish
      taken k f = record {
        sits = record {
          stands = stands_away r a.0 on (f a.0.set a.0.words on);
          late = a.1;
          count = omega (arith, length_without i rest m, g.count);
          minutes = omega (arith, end, g.minutes, length_without i rest m, g.count, r.few, k.releases i, k.lengths i);
          lates = omega (arith, ap (λ (d : Desk). d.worst) e, g.minutes, length_without i rest m, g.lates, k.releases i, k.lengths i);
        };
        desk = e;
        count = refl;
      }
