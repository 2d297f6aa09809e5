-- The rows ahead, one after another: the next one is put into the set, or all are late.
-- Assumes nothing.
use Prim.Native.Nat.{ℕ, ◌+◌, ◌≤◌, ◌<◌}
use native.Mathlib.Omega.{arith}
use mathlib.Core.Bool.{Bool, true, false}
use mathlib.Core.Path.{◌≡◌, ap, ◌∙◌, subst}
use mathlib.Core.List.{List}
use Rattle.theory.specs.Jobs.{Job}
use Rattle.schedule.specs.Limits.{most_rows}
use Rattle.schedule.specs.Columns.{at, columns}
use Rattle.picks.specs.Bits.{mark, Words}
use Rattle.picks.specs.Standing.{Tables, Stands, Late}
use Rattle.picks.proofs.Standings.{next_off, stands_put, late_from}

-- What `put` ensures.
abbrev pub Puts : List ℕ → ℕ → List ℕ → Type 0
Puts ws i more = (p : ℕ → Bool) → Words p ws → p i ≡ false → Words (mark i true p) more

module _ {n : ℕ} {job : ℕ → Job} {by : ℕ → ℕ} (r : Tables n job by) {next i : ℕ} (h : next < n) (w : i ≡ by next) where
  -- The next row ahead is one of the rows,
  pub next_high : i ≤ most_rows
  next_high = omega (arith, (r.by_release.rows next h).1, r.few)

  module _ {t : ℕ} {rest ws : List ℕ} (s : Stands n job by t rest next ws) where
    off : s.set i ≡ false
    off = ap s.set w ∙ next_off r s h

    -- can be put into the set,
    pub can_put : (i < 320) × ((p : ℕ → Bool) × Words p ws × (p i ≡ false))
    can_put = (omega (arith, next_high), (s.set, s.words, off))

    -- is put there,
    pub next_put : (job i).release ≤ t → {more : List ℕ} → Puts ws i more → Stands n job by t rest (next + 1) more
    next_put g {more} f =
        stands_put r s h (subst (λ (k : ℕ). (job k).release ≤ t) w g)
        (subst (λ (k : ℕ). Words (mark k true s.set) more) w (f s.set s.words off))

    -- or is late, and so are all after it.
    pub next_late : t < (job i).release → Late n job by t next
    next_late g = late_from r s h (subst (λ (k : ℕ). t < (job k).release) w g)

-- Past the last place no row is ahead.
pub late_past : {n : ℕ} {job : ℕ → Job} {by : ℕ → ℕ} {t next : ℕ} {rest ws : List ℕ} → Stands n job by t rest next ws → n ≤ next →
    Late n job by t next
late_past s h k u v = let z : ⊥ = omega arith in absurd z

-- From one place in the rows by release to a later one, whatever the rows left over.
abbrev pub Toward : (release by : List ℕ) (n t from : ℕ) (ready : List ℕ) (next : ℕ) (more : List ℕ) → Type 0
Toward release by n t from ready next more =
    (minutes due rest : List ℕ) → Tables n (columns release minutes due) (at by) → Stands n (columns release minutes due)
    (at by) t rest from ready →
    Stands n (columns release minutes due) (at by) t rest next more
