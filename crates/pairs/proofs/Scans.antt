-- The scans step by step: for an entry that passes a test, and for a row that clashes with a row above it.
-- Assumes nothing.
use Rattle.std.specs.Prelude.{Ok, Err}
use Prim.Native.Nat.{ℕ, suc, ◌+◌, ◌*◌, ◌≤◌, ◌<◌}
use native.Mathlib.Omega.{arith}
use mathlib.Core.Bool.{Bool, true, false, ◌||◌, or-false, or_assoc}
use mathlib.Core.Path.{◌≡◌, sym, ap}
use mathlib.Core.List.{List, [], ◌∷◌, ◌++◌}
use lib.ListN.{length, take, drop, get_or, drop_of_length-le}
use lib.Seq.{take-suc, drop-cons}
use Rattle.schedule.specs.declared.Row.{Row}
use Rattle.schedule.specs.Rows.{no_row}
use Rattle.refusals.specs.Tests.{Tested, refusal_at}
use Rattle.refusals.specs.Tests.{refuse_if, ◌then◌}
use Rattle.pairs.specs.Pairs.{some_entry, pair_tests_from}

-- The scan for an entry: one entry more.
some_more : {A : Type 0} (test : A → Bool) (xs : List A) (x : A) → some_entry test (xs ++ (x ∷ [])) ≡ (some_entry test xs || test x)
unfolding some_entry
some_more test [] x = or-false (test x)
some_more test (y ∷ ys) x = rw (some_more test ys x) (sym (or_assoc (test y) (some_entry test ys) (test x)))

pub some_on : {A : Type 0} (test : A → Bool) (xs : List A) (none : A) (i : ℕ) → i < length xs →
    some_entry test (take (suc i) xs) ≡ (some_entry test (take i xs) || test (get_or xs i none))
some_on test xs none i h = rw (take-suc xs i none h) (some_more test (take i xs) (get_or xs i none))

-- The scan for a clash, at the row in place i, places counted from 0.
module _ (clash : Row → Row → Bool) (number : ℕ) (rs : List Row) where
  abbrev pub pairs_at : ℕ → Tested
  pairs_at i = pair_tests_from clash number (4 * i + 2) (take i rs) (drop i rs)

  -- The row clashes with a row above it; with none; no row is left.
  pub pairs_here : (i : ℕ) → i < length rs → some_entry (clash (get_or rs i no_row)) (take i rs) ≡ true → pairs_at i ≡ Err (refusal_at number (4 * i + 2))
  unfolding pair_tests_from refuse_if ◌then◌
  pairs_here i h e = rw (drop-cons rs i no_row h, e)

  pub pairs_on : (i : ℕ) → i < length rs → some_entry (clash (get_or rs i no_row)) (take i rs) ≡ false → pairs_at i ≡ pairs_at (suc i)
  unfolding pair_tests_from refuse_if ◌then◌
  pairs_on i h e =
      let next : 4 * i + 2 + 4 ≡ 4 * suc i + 2 = omega arith in
      rw (drop-cons rs i no_row h, e, take-suc rs i no_row h)
      (ap (λ (p : ℕ). pair_tests_from clash number p (take i rs ++ (get_or rs i no_row ∷ [])) (drop (suc i) rs)) next)

  pub pairs_end : (i : ℕ) → length rs ≤ i → pairs_at i ≡ Ok tt
  unfolding pair_tests_from
  pairs_end i h = rw (drop_of_length-le rs h)
