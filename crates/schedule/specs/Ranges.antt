-- How late and how early an order can be, from the ranges of what its rows have.
-- Rests on: Desk. The proof is `in_range`, in proofs/Ranges.antt.
use Rattle.std.specs.Prelude.{ℕ, ◌+◌, ◌*◌, ◌≤◌, ◌<◌, length, pos, ◌≤ℤ◌}
use mathlib.Core.List.{List, Memᴰ}
use Rattle.std.proofs.Math.IntN.{sub_ℕ}
use Rattle.theory.specs.Jobs.{Job}
use Rattle.schedule.specs.Desk.{OrderOf, end_of, pair_of}

-- The minute and every release are at most `top`, lengths lie between `short` and `long`, dues are at most `late`, and there are at most
-- n rows.
pub record Ranged (top short long late n : ℕ) (job : ℕ → Job) (t : ℕ) (left : List ℕ) : Type 0 where
  pub early : t ≤ top
  pub few : length left ≤ n
  pub ranges : (i : ℕ) → Memᴰ i left → ((job i).release ≤ top) × (short ≤ (job i).length) × ((job i).length ≤ long) × ((job i).due ≤ late)

-- Then every order of the rows ends by `top` and n times `long`, is late by no more than that, and by no less than `short` less `late`.
abbrev pub InRange : Type 0
InRange = (top short long late n : ℕ) (job : ℕ → Job) (t : ℕ) (left : List ℕ) → Ranged top short long late n job t left → 0 < length left →
    (order : List ℕ) → OrderOf left order →
    (end_of job t order ≤ top + long * n) × ((pair_of job t order).late ≤ℤ pos (top + long * n)) ×
    (sub_ℕ short late ≤ℤ (pair_of job t order).late)
