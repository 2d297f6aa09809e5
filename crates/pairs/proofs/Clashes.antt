-- A test of row pairs by the rows: it passes exactly if no two rows clash, and otherwise stops at the earliest row that clashes with one
-- above it.
-- Assumes nothing.
use Rattle.std.specs.Prelude.{Ok, Err}
use Prim.Native.Nat.{ℕ, zero, suc, ◌+◌, ◌-◌, ◌*◌, ◌≤◌, ◌<◌}
use native.Mathlib.Omega.{arith}
use native.Mathlib.Decide.{dec_le}
use mathlib.Core.Bool.{Bool, true, false, ◌||◌}
use mathlib.Core.Path.{◌≡◌, refl, sym, subst, ◌∙◌}
use mathlib.Core.List.{List, [], ◌∷◌}
use lib.ListN.{length, take, get_or, length-take}
use lib.Seq.{get_or-take}
use Rattle.schedule.specs.declared.Row.{Row}
use Rattle.schedule.specs.Rows.{no_row, row}
use Rattle.schedule.proofs.Numbers.{count_range, from_mem}
use Rattle.schedule.proofs.Tests.{neither}
use Rattle.refusals.specs.Tests.{Tested, refusal_at}
use Rattle.refusals.proofs.Tests.{never}
use Rattle.pairs.specs.Pairs.{some_entry, pair_tests}
use Rattle.pairs.specs.Clashes.{Mutual, NoneClash, Earliest, PairsSettled, PairsSettle, unclashing, clashing}
use Rattle.pairs.proofs.Scans.{pairs_at, pairs_here, pairs_on, pairs_end}

-- An entry of a list that passes a test.
record Found {A : Type 0} (test : A → Bool) (xs : List A) (none : A) : Type 0 where
  at : ℕ
  below : at < length xs
  passes : test (get_or xs at none) ≡ true

some_found : {A : Type 0} (test : A → Bool) (xs : List A) (none : A) → some_entry test xs ≡ true → Found test xs none
unfolding some_entry
some_found test [] none e = never (cc)
some_found test (x ∷ xs) none e = go (test x) refl e (some_found test xs none)
  where
    go : (b : Bool) → test x ≡ b → (b || some_entry test xs) ≡ true → (some_entry test xs ≡ true → Found test xs none) →
        Found test (x ∷ xs) none
    go true h g later = record { at = 0; below = omega arith; passes = h }
    go false h g later = let f = later g in record { at = suc f.at; below = omega (arith, f.below); passes = f.passes }

some_none : {A : Type 0} (test : A → Bool) (xs : List A) (none : A) → some_entry test xs ≡ false → (i : ℕ) → i < length xs →
    test (get_or xs i none) ≡ false
unfolding some_entry
some_none test [] none e i l = let x : ⊥ = omega arith in absurd x
some_none test (x ∷ xs) none e zero l = (neither (test x) (some_entry test xs) e).0
some_none test (x ∷ xs) none e (suc i) l = some_none test xs none (neither (test x) (some_entry test xs) e).1 i (omega arith)

module _ {clash : Row → Row → Bool} (ways : Mutual clash) (number : ℕ) (rs : List Row) where
  -- By places, counted from 0: no two of the first n rows clash.
  abbrev NoClashBefore : ℕ → Type 0
  NoClashBefore n = (a b : ℕ) → a < b → b < n → clash (get_or rs b no_row) (get_or rs a no_row) ≡ false

  -- How the test comes out.
  data Tried : Tested → Type 0 where
    passed : NoClashBefore (length rs) → Tried (Ok tt)
    stopped : (a b : ℕ) → a < b → b < length rs → clash (get_or rs b no_row) (get_or rs a no_row) ≡ true → NoClashBefore b →
        Tried (Err (refusal_at number (4 * b + 2)))

  -- One row more that clashes with none above it.
  no_clash_on : (i : ℕ) → i < length rs → NoClashBefore i → some_entry (clash (get_or rs i no_row)) (take i rs) ≡ false → NoClashBefore (suc i)
  no_clash_on i l h e a b p q = go (dec_le i b)
    where
      go : Dec (i ≤ b) → clash (get_or rs b no_row) (get_or rs a no_row) ≡ false
      go (no g) = h a b p (omega arith)
      go (yes g) =
          let same : i ≡ b = omega arith in
          let n : clash (get_or rs i no_row) (get_or (take i rs) a no_row) ≡ false =
          some_none (clash (get_or rs i no_row)) (take i rs) no_row e a (omega (arith, length-take i rs)) in
          rw (← same, ← get_or-take i rs a no_row (omega arith)) n

  tried : (n i : ℕ) → i + n ≡ length rs → NoClashBefore i → Tried (pairs_at clash number rs i)
  tried zero i s h =
      let e : i ≡ length rs = omega arith in
      subst Tried (sym (pairs_end clash number rs i (omega arith))) (passed (subst NoClashBefore e h))
  tried (suc n) i s h = go (some_entry (clash (get_or rs i no_row)) (take i rs)) refl (tried n (suc i) (omega arith))
    where
      l : i < length rs
      l = omega arith

      go : (b : Bool) → some_entry (clash (get_or rs i no_row)) (take i rs) ≡ b →
          (NoClashBefore (suc i) → Tried (pairs_at clash number rs (suc i))) →
          Tried (pairs_at clash number rs i)
      go true e later =
          let f = some_found (clash (get_or rs i no_row)) (take i rs) no_row e in
          let below : f.at < i = omega (arith, f.below, length-take i rs) in
          subst Tried (sym (pairs_here clash number rs i l e))
          (stopped f.at i below l (rw (← get_or-take i rs f.at no_row below) f.passes) h)
      go false e later = subst Tried (sym (pairs_on clash number rs i l e)) (later (no_clash_on i l h e))

  all_tried : Tried (pair_tests clash number rs)
  all_tried = tried (length rs) 0 (omega arith) (λ a b p q. let x : ⊥ = omega arith in absurd x)

  -- By the rows' numbers.
  none_clash : NoClashBefore (length rs) → NoneClash clash rs
  none_clash h zero j m n = let x : ⊥ = omega (arith, (count_range 1 (length rs) m).0) in absurd x
  none_clash h (suc i) zero m n = let x : ⊥ = omega (arith, (count_range 1 (length rs) n).0) in absurd x
  none_clash h (suc i) (suc j) m n = go (dec_le i j) (dec_le j i)
    where
      k : i < length rs
      k = omega (arith, (count_range 1 (length rs) m).1)

      l : j < length rs
      l = omega (arith, (count_range 1 (length rs) n).1)

      go : Dec (i ≤ j) → Dec (j ≤ i) → clash (get_or rs i no_row) (get_or rs j no_row) ≡ false
      go (no p) q = h j i (omega arith) k
      go (yes p) (no q) = ways.swap (get_or rs i no_row) (get_or rs j no_row) ∙ h i j (omega arith) l
      go (yes p) (yes q) = let same : i ≡ j = omega arith in rw same (ways.self (get_or rs j no_row))

  earliest : (a b : ℕ) → a < b → b < length rs → clash (get_or rs b no_row) (get_or rs a no_row) ≡ true → NoClashBefore b →
      Earliest clash rs (suc a) (suc b)
  earliest a b p q e h = record { above = (omega arith, omega arith, omega arith); clashes = e; none_before = before }
    where
      before : (g k : ℕ) → 1 ≤ g → g < k → k < suc b → clash (row rs k) (row rs g) ≡ false
      before zero k l m n = let x : ⊥ = omega arith in absurd x
      before (suc g) zero l m n = let x : ⊥ = omega arith in absurd x
      before (suc g) (suc k) l m n = h g k (omega arith) (omega arith)

  tried_settled : (o : Tested) → Tried o → PairsSettled clash number rs o
  tried_settled (Ok _) (passed h) = unclashing (none_clash h)
  tried_settled (Err _) (stopped a b p q e h) =
      let same : b ≡ suc b - 1 = omega arith in
      subst (λ (k : ℕ). PairsSettled clash number rs (Err (refusal_at number (4 * k + 2)))) (sym same)
      (clashing (suc a) (suc b) (earliest a b p q e h))

pub pairs_settled : PairsSettle
pairs_settled clash ways number rows = tried_settled ways number rows (pair_tests clash number rows) (all_tried ways number rows)

-- Passed exactly if no two rows clash.
module _ {clash : Row → Row → Bool} (ways : Mutual clash) (number : ℕ) (rows : List Row) where
  pub passed_none : pair_tests clash number rows ≡ Ok tt → NoneClash clash rows
  passed_none e = go (pair_tests clash number rows) (pairs_settled clash ways number rows) e
    where
      go : (o : Tested) → PairsSettled clash number rows o → o ≡ Ok tt → NoneClash clash rows
      go (Ok _) (unclashing h) f = h
      go (Err refusal) s f = never (cc)

  pub none_passes : NoneClash clash rows → pair_tests clash number rows ≡ Ok tt
  none_passes h = go (pair_tests clash number rows) (pairs_settled clash ways number rows)
    where
      go : (o : Tested) → PairsSettled clash number rows o → o ≡ Ok tt
      go (Ok _) s = refl
      go (Err _) (clashing j k e) =
          let m = from_mem k 1 (length rows) (omega (arith, e.above)) (omega (arith, e.above)) in
          let n = from_mem j 1 (length rows) (omega (arith, e.above)) (omega (arith, e.above)) in
          let none : clash (row rows k) (row rows j) ≡ false = h k j m n in
          let some = e.clashes in
          never (cc)
