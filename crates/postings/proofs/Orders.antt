-- Test 10 passes exactly the orders of the rows.
-- Assumes nothing.
use Rattle.std.specs.Prelude.{Ok}
use Prim.Native.Nat.{ℕ, zero, suc, ◌+◌, ◌≤◌, ◌<◌, min}
use native.Mathlib.Omega.{arith}
use mathlib.Core.Bool.{Bool, true, false, not, cond, ◌||◌}
use mathlib.Core.Path.{◌≡◌, refl, sym, ap, ◌∙◌, subst}
use mathlib.Core.List.{List, [], ◌∷◌, Memᴰ}
use mathlib.Core.List.{head-eq_of_cons-eq, tail-eq_of_cons-eq}
use mathlib.Core.Logic.{◌⊎◌, inl, inr}
use lib.Dec.{T, ltb, eqb, eqb→eq, eqb_refl, ltb→lt, nltb→le, T_not, not_T}
use lib.ListN.{length}
use Rattle.schedule.specs.Rows.{without, count_from}
use Rattle.schedule.specs.Plans.{orders_of}
use Rattle.schedule.proofs.Orders.{one, count, count_mem, count_without, length_without, orders_make, orders_cases}
use Rattle.schedule.proofs.Numbers.{count_range, from_mem, count_once}
use Rattle.schedule.proofs.Tests.{nor, nor_both, is_false}
use Rattle.schedule.proofs.Stands.{stands_none, stands_more}
use Rattle.refusals.specs.Refusals.{by_not_posting}
use Rattle.refusals.specs.Tests.{refuse_if}
use Rattle.schedule.specs.Rows.{stands}
use Rattle.refusals.proofs.Tests.{then_left, then_right, then_passes, not_refused}
use Rattle.postings.specs.Posting.{entry_tests, posting_tests}

not_eqb : (m n : ℕ) → ¬ (m ≡ n) → T (not (eqb m n))
not_eqb m n h = not_T (eqb m n) (λ t. h (eqb→eq m n t))

eqb_not : (m n : ℕ) → T (not (eqb m n)) → ¬ (m ≡ n)
eqb_not m n h e = T_not (eqb m n) h (subst (λ (k : ℕ). T (eqb m k)) e (eqb_refl m))

mem_other : {k : ℕ} (i : ℕ) (left : List ℕ) → ¬ (k ≡ i) → Memᴰ k left → Memᴰ k (without i left)
unfolding without
mem_other i [] h m = m
mem_other {k} i (j ∷ js) h m = step (eqb i j) (eqb→eq i j) (mathlib.Core.List.Memᴰ.cases_cons m) (mem_other i js h)
  where
    step : (b : Bool) → (T b → i ≡ j) → (k ≡ j) ⊎ Memᴰ k js → (Memᴰ k js → Memᴰ k (without i js)) →
        Memᴰ k (cond b js (j ∷ without i js))
    step true e (inl g) f = absurd (h (g ∙ sym (e tt)))
    step true e (inr n) f = n
    step false e (inl g) f = mathlib.Core.List.Memᴰ.head g
    step false e (inr n) f = mathlib.Core.List.Memᴰ.tail (f n)

one_self : (i : ℕ) → one (eqb i i) ≡ 1
one_self i = step (eqb i i) (eqb_refl i)
  where
    step : (b : Bool) → T b → one b ≡ 1
    step true t = refl
    step false t = absurd t

mem_count : {k : ℕ} (l : List ℕ) → Memᴰ k l → 0 < count k l
unfolding count
mem_count [] m = absurd (mathlib.Core.List.Memᴰ.not-nil m)
mem_count {k} (j ∷ js) m = step (mathlib.Core.List.Memᴰ.cases_cons m) (mem_count js)
  where
    step : (k ≡ j) ⊎ Memᴰ k js → (Memᴰ k js → 0 < count k js) → 0 < one (eqb k j) + count k js
    step (inl e) f = omega (arith, one_self k, ap (λ (x : ℕ). one (eqb k x)) e)
    step (inr n) f = omega (arith, f n)

-- The rows left over: those from 1 to n that were not seen, each once.
record Left (n : ℕ) (seen left : List ℕ) : Type 0 where
  all : (k : ℕ) → 0 < k → k ≤ n → T (not (stands k seen)) → Memᴰ k left
  row : (k : ℕ) → Memᴰ k left → (0 < k) × (k ≤ n) × T (not (stands k seen))
  once : (k : ℕ) → count k left ≤ 1

left_next : (n : ℕ) (seen left : List ℕ) (i : ℕ) → Left n seen left → Memᴰ i left → Left n (i ∷ seen) (without i left)
left_next n seen left i h m = record {
  all = λ k p q t. let s = nor_both (eqb k i) (stands k seen) (subst (λ (b : Bool). T (not b)) (stands_more k i seen) t) in
      mem_other i left (eqb_not k i s.0) (h.all k p q s.1);
  row = λ k g. let r = h.row k (below g) in (
    r.0,
    r.1,
    rw (stands_more k i seen) (nor (eqb k i) (stands k seen)
        (not_eqb k i (λ e. gone (subst (λ (x : ℕ). Memᴰ x (without i left)) e g))) r.2),
  );
  once = λ k. omega (arith, h.once k, count_without i left m k);
}
  where
    below : {k : ℕ} → Memᴰ k (without i left) → Memᴰ k left
    below {k} g = count_mem k left (omega (arith, count_without i left m k, mem_count (without i left) g))

    gone : Memᴰ i (without i left) → ⊥
    gone g = omega (arith, count_without i left m i, one_self i, mem_count (without i left) g, h.once i)

entries_order : (n : ℕ) (seen : List ℕ) (place : ℕ) (is left : List ℕ) → Left n seen left → length is ≡ length left →
    entry_tests n seen place is ≡ Ok tt →
    Memᴰ is (orders_of (length is) left)
unfolding entry_tests
entries_order n seen place [] left h l p = unfold orders_of in mathlib.Core.List.Memᴰ.head refl
entries_order n seen place (i ∷ is) left h l p =
    let stray = eqb i 0 || ltb n i || stands i seen in
    let q = not_refused stray by_not_posting place
    (then_left (refuse_if stray by_not_posting place) (entry_tests n (i ∷ seen) (place + 1) is) p) in
    let r = nor_both (eqb i 0 || ltb n i) (stands i seen) (is_false stray q) in
    let s = nor_both (eqb i 0) (ltb n i) r.0 in
    let m = h.all i (positive i (eqb_not i 0 s.0)) (nltb→le n i s.1) r.1 in
    orders_make (length is) left i is m
    (entries_order n (i ∷ seen) (place + 1) is (without i left) (left_next n seen left i h m) (omega (arith, length_without i left m))
    (then_right (refuse_if stray by_not_posting place) (entry_tests n (i ∷ seen) (place + 1) is) p))
  where
    positive : (i : ℕ) → ¬ (i ≡ 0) → 0 < i
    positive zero g = absurd (g refl)
    positive (suc i) g = omega arith

order_entries : (n : ℕ) (seen : List ℕ) (place k : ℕ) (is left : List ℕ) → Left n seen left → Memᴰ is (orders_of k left) →
    entry_tests n seen place is ≡ Ok tt
unfolding entry_tests orders_of
order_entries n seen place k [] left h m = refl
order_entries n seen place zero (i ∷ is) left h m = absurd (nothing (mathlib.Core.List.Memᴰ.cases_cons m))
  where
    no_cons : Path (List ℕ) (i ∷ is) [] → ⊥
    no_cons e = let z : length (i ∷ is) ≡ 0 = ap {B = ℕ} length e in omega arith

    nothing : (Path (List ℕ) (i ∷ is) []) ⊎ Memᴰ (i ∷ is) [] → ⊥
    nothing (inl e) = no_cons e
    nothing (inr n) = mathlib.Core.List.Memᴰ.not-nil n
order_entries n seen place (suc k) (i ∷ is) left h m =
    let c = orders_cases k left (i ∷ is) m in
    let e : i ≡ c.0 = head-eq_of_cons-eq c.4 in
    let g : Memᴰ i left = subst (λ (x : ℕ). Memᴰ x left) (sym e) c.2 in
    let f : Memᴰ is (orders_of k (without i left)) =
    subst (λ (x : ℕ). Memᴰ is (orders_of k (without x left))) (sym e)
    (subst (λ (o : List ℕ). Memᴰ o (orders_of k (without c.0 left))) (sym (tail-eq_of_cons-eq c.4)) c.3) in
    let r = h.row i g in
    then_passes (eqb i 0 || ltb n i || stands i seen) by_not_posting place (entry_tests n (i ∷ seen) (place + 1) is)
    (nor (eqb i 0 || ltb n i) (stands i seen)
    (nor (eqb i 0) (ltb n i) (not_eqb i 0 (λ z. omega (arith, r.0)))
    (not_T (ltb n i) (λ t. let l : n < i = ltb→lt n i t in omega (arith, r.1)))) r.2)
    (order_entries n (i ∷ seen) (place + 1) k is (without i left) (left_next n seen left i h g) f)

left_all : (n : ℕ) → Left n [] (count_from 1 n)
left_all n = record {
  all = λ k p q t. from_mem k 1 n p (omega arith);
  row = λ k m. let r = count_range 1 n m in
      (r.0, omega (arith, r.1), rw (stands_none k) tt);
  once = λ k. count_once k 1 n;
}

pub posting_order : (n : ℕ) (posting : List ℕ) → length (count_from 1 n) ≡ n → posting_tests n posting ≡ Ok tt →
    Memᴰ posting (orders_of n (count_from 1 n))
unfolding posting_tests
posting_order n posting l e =
    let size = refuse_if (not (eqb (length posting) n)) by_not_posting (min (length posting) n) in
    let k = same (eqb (length posting) n) (eqb→eq (length posting) n) (not_refused _ _ _ (then_left size (entry_tests n [] 0 posting) e)) in
    subst (λ (m : ℕ). Memᴰ posting (orders_of m (count_from 1 n))) k
    (entries_order n [] 0 posting (count_from 1 n) (left_all n) (k ∙ sym l) (then_right size (entry_tests n [] 0 posting) e))
  where
    same : (c : Bool) → (T c → length posting ≡ n) → not c ≡ false → length posting ≡ n
    same true f e = f tt
    same false f e = absurd (subst T e tt)

pub order_posting : (n : ℕ) (posting : List ℕ) → length posting ≡ n → Memᴰ posting (orders_of n (count_from 1 n)) →
    posting_tests n posting ≡ Ok tt
order_posting n posting l m =
    unfold posting_tests in then_passes (not (eqb (length posting) n)) by_not_posting (min (length posting) n) (entry_tests n [] 0 posting)
    (twice (eqb (length posting) n) (subst (λ (k : ℕ). T (eqb (length posting) k)) l (eqb_refl (length posting))))
    (order_entries n [] 0 n posting (count_from 1 n) (left_all n) m)
  where
    twice : (b : Bool) → T b → T (not (not b))
    twice true t = tt
    twice false t = t
