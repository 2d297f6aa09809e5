-- The entries of a posting, as a loop tests them: marks say what was seen.
-- Assumes nothing.
use Rattle.std.specs.Prelude.{Ok, Err}
use Prim.Native.Nat.{ℕ, zero, suc, ◌+◌, ◌≤◌, ◌<◌, min}
use native.Mathlib.Omega.{arith}
use native.Mathlib.Decide.{ℕ_discrete}
use native.Mathlib.Numerals.{add-one}
use mathlib.Core.Bool.{Bool, true, false, ◌||◌}
use mathlib.Core.Path.{◌≡◌, refl, sym, ap, ◌∙◌, subst}
use mathlib.Core.List.{List, [], ◌∷◌}
use lib.Dec.{ltb, eqb}
use lib.ListN.{length, drop, get_or, set, replicate}
use lib.Seq.{drop-cons, get_or-set_same, get_or-set_other, drop-length}
use borrow.Author.Tests.{eq-eqb, ne_eqb, ltb-false}
use Rattle.schedule.specs.Limits.{row_places}
use Rattle.schedule.specs.Rows.{stands}
use Rattle.schedule.proofs.Tests.{neither}
use Rattle.schedule.proofs.Stands.{stands_none, stands_more}
use Rattle.refusals.specs.Refusals.{by_not_posting}
use Rattle.refusals.specs.Tests.{refuse_if, ◌then◌, refusal_at}
use Rattle.postings.specs.Posting.{entry_tests, posting_tests}

-- The marks are those of the entries seen.
abbrev pub Marks : List Bool → List ℕ → Type 0
Marks seen s = (i : ℕ) → get_or seen i false ≡ stands i s

all_false : (n i : ℕ) → get_or (replicate n false) i false ≡ false
all_false zero i = refl
all_false (suc n) zero = refl
all_false (suc n) (suc i) = all_false n i

pub marks_none : Marks (replicate row_places false) []
marks_none i = all_false row_places i ∙ sym (stands_none i)

pub marks_more : (seen : List Bool) (s : List ℕ) (k : ℕ) → k < length seen → Marks seen s → Marks (set seen k true) (k ∷ s)
marks_more seen s k h m i = go (ℕ_discrete i k) ∙ sym (stands_more i k s)
  where
    go : Dec (i ≡ k) → get_or (set seen k true) i false ≡ (eqb i k || stands i s)
    go (yes e) = subst (λ (j : ℕ). get_or (set seen k true) j false ≡ (eqb j k || stands j s)) (sym e)
        (get_or-set_same seen k true false h ∙ rw (eq-eqb k k refl) refl)
    go (no e) = get_or-set_other seen k i true false e ∙ (m i ∙ rw (ne_eqb i k e) refl)

-- One entry's test: no row, past the last, or marked.
module _ (n entry : ℕ) (b : Bool) where
  pub stray_not : (eqb entry 0 || ltb n entry || b) ≡ false → entry ≤ n
  stray_not e = ltb-false n entry (neither (eqb entry 0) (ltb n entry) (neither (eqb entry 0 || ltb n entry) b e).0).1

module _ (n : ℕ) (posting s : List ℕ) (k : ℕ) (h : k < length posting) where
  entry_step : entry_tests n s k (drop k posting) ≡
      (refuse_if (eqb (get_or posting k 0) 0 || ltb n (get_or posting k 0) || stands (get_or posting k 0) s) by_not_posting k then
      entry_tests n (get_or posting k 0 ∷ s) (k + 1) (drop (k + 1) posting))
  unfolding entry_tests
  entry_step = rw (add-one k) (ap (entry_tests n s k) (drop-cons posting k 0 h) ∙ rw (add-one k) refl)

  pub entry_stray : (eqb (get_or posting k 0) 0 || ltb n (get_or posting k 0) || stands (get_or posting k 0) s) ≡ true →
      entry_tests n s k (drop k posting) ≡ Err (refusal_at by_not_posting k)
  unfolding refuse_if ◌then◌
  entry_stray e = entry_step ∙ rw e refl

  pub entry_fine : (eqb (get_or posting k 0) 0 || ltb n (get_or posting k 0) || stands (get_or posting k 0) s) ≡ false →
      entry_tests n s k (drop k posting) ≡ entry_tests n (get_or posting k 0 ∷ s) (k + 1) (drop (k + 1) posting)
  unfolding refuse_if ◌then◌
  entry_fine e = entry_step ∙ rw e refl

pub entries_end : (n : ℕ) (posting s : List ℕ) (k : ℕ) → k ≡ length posting → entry_tests n s k (drop k posting) ≡ Ok tt
unfolding entry_tests
entries_end n posting s k e = ap (entry_tests n s k) (ap (λ (m : ℕ). drop m posting) e ∙ drop-length posting)

-- The length of a posting.
pub posting_uneven : (n : ℕ) (posting : List ℕ) (m : ℕ) → (length posting ≡ n → ⊥) → m ≡ min (length posting) n →
    Err (refusal_at by_not_posting m) ≡ posting_tests n posting
unfolding posting_tests refuse_if ◌then◌
posting_uneven n posting m d e = rw (ne_eqb (length posting) n d, e) refl

pub posting_short : (n : ℕ) (posting : List ℕ) → length posting < n → Err (refusal_at by_not_posting (length posting)) ≡ posting_tests n posting
posting_short n posting h = posting_uneven n posting (length posting) (λ e. omega arith) (omega arith)

pub posting_long : (n : ℕ) (posting : List ℕ) → n < length posting → Err (refusal_at by_not_posting n) ≡ posting_tests n posting
posting_long n posting h = posting_uneven n posting n (λ e. omega arith) (omega arith)

pub posting_even : (n : ℕ) (posting : List ℕ) → length posting ≡ n → entry_tests n [] 0 posting ≡ posting_tests n posting
unfolding posting_tests refuse_if ◌then◌
posting_even n posting e = rw (eq-eqb (length posting) n e) refl
