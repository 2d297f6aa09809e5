-- A change of pace on a running desk is turned down exactly as the table says.
-- Assumes nothing.
use Prim.Native.Nat.{ℕ, zero, suc, ◌+◌, ◌/◌, ◌≤◌, ◌<◌}
use native.Mathlib.Omega.{arith}
use native.Mathlib.Decide.{dec_lt}
use mathlib.Core.Bool.{Bool, true, false, not}
use mathlib.Core.Path.{◌≡◌, refl, sym, ap, ◌∙◌, subst}
use mathlib.Core.List.{List, Memᴰ}
use lib.ListN.{length}
use borrow.Author.Tests.{not-true}
use Rattle.std.specs.Prelude.{Ok, Err}
use Rattle.schedule.specs.Limits.{least_pace, most_pace}
use Rattle.schedule.specs.declared.Row.{Row}
use Rattle.schedule.specs.declared.Profile.TheVariants.{Ordering}
use Rattle.schedule.specs.Rows.{row, all_rows}
use Rattle.schedule.proofs.Numbers.{from_mem}
use Rattle.schedule.proofs.Tests.{false_is_true, true_is}
use Rattle.refusals.specs.Tests.{Tested, refusal_at}
use Rattle.refusals.specs.Refusals.{by_range, by_disorder}
use Rattle.pairs.specs.Pairs.{number_word}
use Rattle.pairs.specs.Clashes.{NoneClash, Earliest, PairsSettled, unclashing, clashing}
use Rattle.pairs.proofs.Clashes.{pairs_settled}
use Rattle.readers.specs.Rules.{clash_by, number_by, rule_tests}
use Rattle.readers.proofs.Rules.{clash_mutual}
use Rattle.promises.proofs.Clashes.{clash_says, no_clash_says}
use Rattle.running.specs.Running.{Running, between}
use Rattle.running.proofs.Fits.{between_two}
use Rattle.rows_left.specs.Left.{plain_row}
use Rattle.rows_left.proofs.LeftRows.{Rising}
use Rattle.rows_left.proofs.Plain.{plain_size, left_row, same_row, place_of, left_at}
use Rattle.desk_pace.specs.Paces.{job_by_pace, left_by_pace, pace_tests}
use Rattle.desk_pace.proofs.LeftTests.{back_passed, back_refused}
use Rattle.desk_pace.proofs.PaceLaws.{tests_outside, paced, tests_inside}
use Rattle.open_desk.specs.Table.{DisagreeBy, EarliestLeft, PaceTurned, range, disorder}

-- How the tests of a change come out: by one refusal, and the table has it and no other; or they are passed, the rows left agree, and the
-- table has none.
pub data Found (d : Running) (pace : ℕ) : Type 0 where
  refuses : (n p : ℕ) → 1 ≤ n → pace_tests d pace ≡ Err (refusal_at n p) → PaceTurned d pace n p →
      ((k q : ℕ) → PaceTurned d pace k q → (n ≡ k) × (p ≡ q)) → Found d pace
  passes : pace_tests d pace ≡ Ok tt → (least_pace ≤ pace) × (pace ≤ most_pace) →
      rule_tests Ordering (left_by_pace d pace) ≡ Ok tt → ((k q : ℕ) → ¬ PaceTurned d pace k q) → Found d pace

-- There is one earliest row left that disagrees with a row left above it.
one_earliest : (d : Running) (pace k l : ℕ) → EarliestLeft d pace k → EarliestLeft d pace l → k ≡ l
one_earliest d pace k l a b = step (dec_lt k l) (dec_lt l k)
  where
    before : (k l : ℕ) → EarliestLeft d pace k → EarliestLeft d pace l → k < l → ⊥
    before k l a b h =
        let j = a.disagrees in b.none_before j.0 k j.1 a.left j.2 h j.3

    step : Dec (k < l) → Dec (l < k) → k ≡ l
    step (yes h) e = absurd (before k l a b h)
    step (no h) (yes g) = absurd (before l k b a g)
    step (no h) (no g) = omega arith

module _ (d : Running) (pace n : ℕ) (rising : Rising n d.left) where
  abbrev rows : List Row
  rows = left_by_pace d pace

  -- The k-th of the rows left, and whether two of them disagree.
  abbrev number : ℕ → ℕ
  number = left_row (job_by_pace d pace) d.left

  abbrev Inside : ℕ → Type 0
  Inside k = (1 ≤ k) × (k ≤ length d.left)

  rises : (k l : ℕ) → Inside k → Inside l → k < l → number k < number l
  rises zero l h g f = let z : ⊥ = omega arith in absurd z
  rises (suc k) zero h g f = let z : ⊥ = omega arith in absurd z
  rises (suc k) (suc l) h g f = rising.rises k l (omega arith) (omega arith)

  rose : (k l : ℕ) → Inside k → Inside l → number k < number l → k < l
  rose k l h g f = step (dec_lt k l) (dec_lt l k)
    where
      step : Dec (k < l) → Dec (l < k) → k < l
      step (yes e) c = e
      step (no e) (yes c) = let z : ⊥ = omega (arith, rises l k g h c) in absurd z
      step (no e) (no c) = let same : k ≡ l = omega arith in let z : ⊥ = omega (arith, ap number same) in absurd z

  clash_at : (k l : ℕ) → Inside k → Inside l →
      clash_by Ordering (row rows k) (row rows l) ≡
      clash_by Ordering (plain_row (job_by_pace d pace (number k))) (plain_row (job_by_pace d pace (number l)))
  clash_at k l h g = λ x.
      clash_by Ordering (same_row (job_by_pace d pace) d.left k h.0 h.1 x) (same_row (job_by_pace d pace) d.left l g.0 g.1 x)

  disagree_at : (k l : ℕ) → Inside k → Inside l → clash_by Ordering (row rows k) (row rows l) ≡ true → DisagreeBy d pace (number k)
      (number l)
  disagree_at k l h g e = clash_says Ordering _ _ (sym (clash_at k l h g) ∙ e)

  agree_at : (k l : ℕ) → Inside k → Inside l → clash_by Ordering (row rows k) (row rows l) ≡ false → ¬ DisagreeBy d pace (number k)
      (number l)
  agree_at k l h g e = no_clash_says Ordering _ _ (sym (clash_at k l h g) ∙ e)

  -- The earliest row that clashes with one above it, among the rows left.
  earliest : (j k : ℕ) → Earliest (clash_by Ordering) rows j k → EarliestLeft d pace (number k)
  earliest j k e =
      let size = plain_size (job_by_pace d pace) d.left in
      let h : Inside k = (omega (arith, e.above), omega (arith, e.above, size)) in
      let g : Inside j = (e.above.0, omega (arith, e.above, size)) in
      record {
        left = left_at (job_by_pace d pace) d.left k h.0 h.1;
        disagrees = (
          number j,
          left_at (job_by_pace d pace) d.left j g.0 g.1,
          rises j k g h e.above.1,
          disagree_at k j h g e.clashes,
        );
        none_before = before k h e;
      }
    where
      before : (k : ℕ) → Inside k → Earliest (clash_by Ordering) rows j k → (a b : ℕ) → Memᴰ a d.left → Memᴰ b d.left → a
          < b →
          b < number k → ¬ DisagreeBy d pace b a
      before k h e a b m n l f =
          let p = place_of (job_by_pace d pace) d.left a m in
          let q = place_of (job_by_pace d pace) d.left b n in
          let ph : Inside p.0 = (p.1, p.2) in
          let qh : Inside q.0 = (q.1, q.2) in
          let pq = rose p.0 q.0 ph qh (omega (arith, p.3, q.3)) in
          let qk = rose q.0 k qh h (omega (arith, q.3)) in
          subst (λ (x : ℕ). ¬ DisagreeBy d pace b x) p.3 (subst (λ (x : ℕ). ¬ DisagreeBy d pace x (number p.0)) q.3
          (agree_at q.0 p.0 qh ph (e.none_before p.0 q.0 p.1 pq qk)))

  none : NoneClash (clash_by Ordering) rows → (k : ℕ) → ¬ EarliestLeft d pace k
  none h k e =
      let j = e.disagrees in
      let p = place_of (job_by_pace d pace) d.left k e.left in
      let q = place_of (job_by_pace d pace) d.left j.0 j.1 in
      let no = agree_at p.0 q.0 (p.1, p.2) (q.1, q.2) (h p.0 q.0 (inside p.0 (p.1, p.2)) (inside q.0 (
        q.1,
        q.2,
      ))) in
      subst (λ (x : ℕ). ¬ DisagreeBy d pace x j.0) p.3 (subst (λ (x : ℕ). ¬ DisagreeBy d pace (number p.0) x) q.3 no) j.3
    where
      inside : (k : ℕ) → Inside k → Memᴰ k (all_rows rows)
      inside k h = from_mem k 1 (length rows) h.0 (omega (arith, h.1, plain_size (job_by_pace d pace) d.left))

  -- Where there is such a row, two rows are left.
  pub two_left : (k : ℕ) → EarliestLeft d pace k → 2 ≤ length d.left
  two_left k e =
      let j = e.disagrees in
      let p = place_of (job_by_pace d pace) d.left k e.left in
      let q = place_of (job_by_pace d pace) d.left j.0 j.1 in
      let below = rose q.0 p.0 (q.1, q.2) (p.1, p.2) (omega (arith, p.3, q.3, j.2)) in
      omega (arith, below, q.1, p.2)

  pub found : Found d pace
  unfolding number_by
  found = step (not (between least_pace most_pace pace)) refl
    where
      settled : (within : not (between least_pace most_pace pace) ≡ false) →
          (o : Tested) → rule_tests Ordering rows ≡ o → PairsSettled (clash_by Ordering) (number_by Ordering) rows o → Found d pace
      settled within _ e (unclashing h) =
          passes (tests_inside d pace within ∙ back_passed d pace e) (paced d pace within) e never
        where
          never : (k q : ℕ) → ¬ PaceTurned d pace k q
          never _ _ (range f) = f (paced d pace within)
          never _ _ (disorder l m k g) = none h k g
      settled within _ e (clashing j k c) =
          let told : (number_word k + 2) / 4 ≡ k = omega (arith, c.above) in
          let p = paced d pace within in
          refuses by_disorder (number_word (number k)) (omega arith)
          (tests_inside d pace within ∙ back_refused d pace (refusal_at (number_by Ordering) (number_word k)) e ∙
          ap (λ (i : ℕ). Err (refusal_at by_disorder (number_word (number i)))) told)
          (disorder p.0 p.1 (number k) (earliest j k c)) only
        where
          only : (m q : ℕ) → PaceTurned d pace m q → (by_disorder ≡ m) × (number_word (number k) ≡ q)
          only _ _ (range f) = absurd (f (paced d pace within))
          only _ _ (disorder l m i g) = (refl, ap number_word (one_earliest d pace (number k) i (earliest j k c) g))

      step : (b : Bool) → not (between least_pace most_pace pace) ≡ b → Found d pace
      step true e = refuses by_range 0 (omega arith) (tests_outside d pace e) (range outside) only
        where
          outside : ¬ ((least_pace ≤ pace) × (pace ≤ most_pace))
          outside h =
              let b = between least_pace most_pace pace in
              false_is_true (sym (not-true b e) ∙ true_is b (between_two least_pace most_pace pace h))

          only : (m q : ℕ) → PaceTurned d pace m q → (by_range ≡ m) × (0 ≡ q)
          only _ _ (range f) = (refl, refl)
          only _ _ (disorder l m i g) = absurd (outside (l, m))
      step false e =
          settled e (rule_tests Ordering rows) refl (pairs_settled (clash_by Ordering) (clash_mutual Ordering) (number_by Ordering) rows)
