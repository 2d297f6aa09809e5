-- The kind that is due at a place, and the range of a kind, taken apart.
-- Assumes nothing.
use Prim.Native.Nat.{ℕ, ◌+◌, ◌*◌, ◌≤◌}
use native.Mathlib.Omega.{arith}
use mathlib.Core.Path.{◌≡◌, refl}
use Rattle.schedule.specs.Limits.{latest_minute, latest_due}
use Rattle.grammar.specs.Words.{Wants, Ranged}

-- The kind k may stand at p: so it is the one of the place. Where two may, it is the one if it is not the other.
pub record Asked (p k : ℕ) : Type 0 where
  pub free : p ≡ 0 → k ≡ 1
  pub pace : p ≡ 1 → k ≡ 2
  pub first : p ≡ 2 → k ≡ 3
  pub number : (i : ℕ) → p ≡ 4 * i + 2 → ¬ (k ≡ 7) → k ≡ 3
  pub release : (i : ℕ) → p ≡ 4 * i + 3 → k ≡ 4
  pub pages : (i : ℕ) → p ≡ 4 * i + 4 → k ≡ 5
  pub due : (i : ℕ) → p ≡ 4 * i + 5 → ¬ (k ≡ 0) → k ≡ 6

pub asked : {p k : ℕ} → Wants p k → Asked p k
asked (Wants.free e h) = omega arith
asked (Wants.pace e h) = omega arith
asked (Wants.number i e h) = omega arith
asked (Wants.release i e h) = omega arith
asked (Wants.pages i e h) = omega arith
asked (Wants.due i e h) = omega arith
asked (Wants.class i e h) = omega arith
asked (Wants.end i e h) = omega arith

-- A value in the range of its kind.
pub record InRange (k v : ℕ) : Type 0 where
  pub free : k ≡ 1 → v ≤ latest_minute
  pub pace : k ≡ 2 → (4 ≤ v) × (v ≤ 120)
  pub release : k ≡ 4 → v ≤ latest_minute
  pub pages : k ≡ 5 → (1 ≤ v) × (v ≤ 2000)
  pub due : k ≡ 6 → v ≤ latest_due
  pub class : k ≡ 0 → v ≤ 7

pub in_range : {k v : ℕ} → Ranged k v → InRange k v
in_range (Ranged.free e l) = omega arith
in_range (Ranged.pace e l h) = omega arith
in_range (Ranged.number e) = omega arith
in_range (Ranged.release e l) = omega arith
in_range (Ranged.pages e l h) = omega arith
in_range (Ranged.due e l) = omega arith
in_range (Ranged.class e l) = omega arith
in_range (Ranged.end e) = omega arith

-- A kind that is neither 3 nor 7, with the range from lo to hi.
pub record Ranges (k lo hi : ℕ) : Type 0 where
  pub no_number : ¬ (k ≡ 3)
  pub no_end : ¬ (k ≡ 7)
  pub within : (v : ℕ) → Ranged k v → (lo ≤ v) × (v ≤ hi)
  pub ranged : (v : ℕ) → lo ≤ v → v ≤ hi → Ranged k v

pub free_ranges : Ranges 1 0 latest_minute
free_ranges = record {
  no_number = omega arith;
  no_end = omega arith;
  within = λ v r. (omega arith, (in_range r).free refl);
  ranged = λ v l h. Ranged.free refl h;
}

pub pace_ranges : Ranges 2 4 120
pace_ranges = record {
  no_number = omega arith;
  no_end = omega arith;
  within = λ v r. (in_range r).pace refl;
  ranged = λ v l h. Ranged.pace refl l h;
}

pub release_ranges : Ranges 4 0 latest_minute
release_ranges = record {
  no_number = omega arith;
  no_end = omega arith;
  within = λ v r. (omega arith, (in_range r).release refl);
  ranged = λ v l h. Ranged.release refl h;
}

pub pages_ranges : Ranges 5 1 2000
pages_ranges = record {
  no_number = omega arith;
  no_end = omega arith;
  within = λ v r. (in_range r).pages refl;
  ranged = λ v l h. Ranged.pages refl l h;
}

pub due_ranges : Ranges 6 0 latest_due
due_ranges = record {
  no_number = omega arith;
  no_end = omega arith;
  within = λ v r. (omega arith, (in_range r).due refl);
  ranged = λ v l h. Ranged.due refl h;
}

pub class_ranges : Ranges 0 0 7
class_ranges = record {
  no_number = omega arith;
  no_end = omega arith;
  within = λ v r. (omega arith, (in_range r).class refl);
  ranged = λ v l h. Ranged.class refl h;
}
