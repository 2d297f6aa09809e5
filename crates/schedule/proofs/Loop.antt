-- The list as a loop makes it, front to back, with no count of questions: what code that asks for ever smaller bounds is proved by.
-- Assumes nothing.
use Prim.Native.Nat.{ℕ, zero, suc, ◌+◌, ◌-◌, ◌≤◌, ◌<◌}
use native.Mathlib.Omega.{arith}
use mathlib.Core.Bool.{Bool, true, false, cond}
use mathlib.Core.Path.{◌≡◌, refl, sym, ap, ◌∙◌}
use mathlib.Core.List.Permᴰ
use mathlib.Core.List.{List, [], ◌∷◌, ◌++◌, append_assoc}
use mathlib.Core.Option.{none, some}
use lib.Dec.{T, eqb, eqb→eq}
use lib.ListN.{length, length-append}
use lib.IntN.{ℤ, pos, pred_ℤ}
use Rattle.theory.specs.Jobs.{Job}
use Rattle.schedule.specs.Desk.{Pair, pair_of}
use Rattle.schedule.specs.Picks.{order_for}
use Rattle.schedule.specs.Plans.{attained, plans, ahead_of, list_from}
use Rattle.schedule.specs.Cover.{Fits32}
use Rattle.schedule.proofs.Signed.{up, down, ◌≼◌, pred_level}
use Rattle.schedule.proofs.Orders.{perm_orders}
use Rattle.schedule.proofs.Front.{rising_unique}
use Rattle.schedule.proofs.Pareto.{Lists}
use Rattle.schedule.proofs.Best.{Plannable, best_for, none_keeps, order_pair, pair_kept}
use Rattle.schedule.proofs.Listing.{late_least, list_from_lem, same_from, top, few_plans}

-- Questions enough from the bound y down.
abbrev pub questions : ℤ → ℕ
questions y = (up y + 2147483649) - down y

pub lists_unique : (all : List Pair) (y : ℤ) (ps qs : List Pair) → Lists all y ps → Lists all y qs → ps ≡ qs
lists_unique all y ps qs l m =
    rising_unique ps qs l.rise m.rise (λ p n. let s = l.sound p n in m.complete p s.0 s.1)
    (λ p n. let s = m.sound p n in l.complete p s.0 s.1)

same_pair : (p q : Pair) (b : Bool) → eqb p.end q.end ≡ b → (ps : List Pair) → ahead_of p (ahead_of q ps) ≡ cond b (ahead_of q ps)
    (p ∷ ahead_of q ps)
unfolding ahead_of
same_pair p q b e [] = ap (λ (c : Bool). cond c (q ∷ []) (p ∷ q ∷ [])) e
same_pair p q b e (r ∷ rs) = step (eqb q.end r.end) (eqb→eq q.end r.end)
  where
    step : (c : Bool) → (T c → q.end ≡ r.end) → ahead_of p (cond c (r ∷ rs) (q ∷ r ∷ rs)) ≡ cond b (cond c (r ∷ rs) (q ∷ r ∷ rs))
        (p ∷ cond c (r ∷ rs) (q ∷ r ∷ rs))
    step true h = ap (λ (d : Bool). cond d (r ∷ rs) (p ∷ r ∷ rs)) (ap (eqb p.end) (sym (h tt)) ∙ e)
    step false h = ap (λ (d : Bool). cond d (q ∷ r ∷ rs) (p ∷ q ∷ r ∷ rs)) e

module _ (job : ℕ → Job) (t : ℕ) (left : List ℕ) where
  -- The list from the bound y down.
  pub from : ℤ → List Pair
  from y = list_from job t left (questions y) y

  -- What a loop keeps: `done` is written for good, `last` may yet be replaced, and y is the next bound.
  pub Going : List Pair → Pair → ℤ → Type 0
  Going done last y = plans job t left ≡ done ++ ahead_of last (from y)

module _ {job : ℕ → Job} {t : ℕ} {left : List ℕ} (a : Plannable job t left) (fits : Fits32 job t left) where
  from_any : (n : ℕ) (y : ℤ) → up y + 2147483648 < n + down y → list_from job t left n y ≡ from job t left y
  unfolding from
  from_any n y h = lists_unique (attained job t left) y (list_from job t left n y) (list_from job t left (questions y) y)
      (list_from_lem a fits n y h) (list_from_lem a fits (questions y) y (omega arith))

  -- The lateness of an order, and the next bound, are in range.
  pub late_range : (y : ℤ) (order : List ℕ) → order_for job t left y ≡ some order → ((pair_of job t order).late ≼ y) ×
      (down (pair_of job t order).late ≤ up (pair_of job t order).late + 2147483648)
  late_range y order e =
      let b = best_for a y order e in
      (pair_kept a y order b.whole b.kept, late_least a fits (pair_of job t order) (order_pair job t left order b.whole))

  -- A question.
  pub from_none : (y : ℤ) → order_for job t left y ≡ none → from job t left y ≡ []
  unfolding from list_from
  from_none y e = step (questions y)
    where
      step : (n : ℕ) → list_from job t left n y ≡ []
      step zero = refl
      step (suc n) = rw (e, list_from)

  pub from_some : (y : ℤ) (order : List ℕ) → order_for job t left y ≡ some order → from job t left y ≡ ahead_of (pair_of job t order)
      (from job t left (pred_ℤ (pair_of job t order).late))
  from_some y order e = step (questions y) refl
    where
      p : Pair
      p = pair_of job t order

      more : (n : ℕ) → list_from job t left (suc n) y ≡ ahead_of p (list_from job t left n (pred_ℤ p.late))
      more n = unfold list_from in rw (e, list_from)

      step : (n : ℕ) → questions y ≡ n → from job t left y ≡ ahead_of p (from job t left (pred_ℤ p.late))
      step zero q = let r = late_range y order e in let z : ⊥ = omega (arith, r.0, r.1) in absurd z
      step (suc n) q =
          let r = late_range y order e in
          sym (from_any (suc n) y (omega arith)) ∙ more n ∙ ap (ahead_of p)
          (from_any n (pred_ℤ p.late) (omega (arith, r.0, r.1, pred_level p.late)))

  -- The largest signed 32-bit number is kept, and from it on the list is whole.
  pub top_kept : order_for job t left (pos 2147483647) ≡ none → ⊥
  top_kept e =
      let o = perm_orders (length left) left left refl (Permᴰ.refl left) in
      none_keeps a (pos 2147483647) e left o (top a fits left o)

  pub going_first : (order : List ℕ) → order_for job t left (pos 2147483647) ≡ some order →
      Going job t left [] (pair_of job t order) (pred_ℤ (pair_of job t order).late)
  unfolding Going from
  going_first order e =
      sym (same_from a fits (questions (pos 2147483647)) (pos 2147483647) (omega arith) (top a fits)) ∙ from_some (pos 2147483647) order e

  pub going_same : (done : List Pair) (last : Pair) (y : ℤ) (order : List ℕ) → Going job t left done last y → order_for job t left y ≡
      some order → eqb last.end (pair_of job t order).end ≡ true →
      Going job t left done (pair_of job t order) (pred_ℤ (pair_of job t order).late)
  unfolding Going
  going_same done last y order g e h = g ∙ ap (λ (ps : List Pair). done ++ ps)
      (ap (ahead_of last) (from_some y order e) ∙ same_pair last (pair_of job t order) true h _)

  pub going_next : (done : List Pair) (last : Pair) (y : ℤ) (order : List ℕ) → Going job t left done last y → order_for job t left y ≡
      some order → eqb last.end (pair_of job t order).end ≡ false →
      Going job t left (done ++ (last ∷ [])) (pair_of job t order) (pred_ℤ (pair_of job t order).late)
  unfolding Going
  going_next done last y order g e h =
      g ∙ ap (λ (ps : List Pair). done ++ ps) (ap (ahead_of last) (from_some y order e) ∙ same_pair last (pair_of job t order) false h _) ∙
      sym (append_assoc done (last ∷ []) _)

  pub going_end : (done : List Pair) (last : Pair) (y : ℤ) → Going job t left done last y → order_for job t left y ≡ none →
      plans job t left ≡ done ++ (last ∷ [])
  unfolding Going ahead_of
  going_end done last y g e = g ∙ ap (λ (ps : List Pair). done ++ ahead_of last ps) (from_none y e)

  -- There is room for the last pair.
  pub going_room : (done : List Pair) (last : Pair) (y : ℤ) → Going job t left done last y → length done < length left
  unfolding Going
  going_room done last y g = omega (
    arith,
    few_plans a,
    ap {B = ℕ} length g,
    length-append done (ahead_of last (from job t left y)),
    some_first (from job t left y),
  )
    where
      some_first : (ps : List Pair) → 0 < length (ahead_of last ps)
      some_first [] = unfold ahead_of in omega arith
      some_first (q ∷ qs) = unfold ahead_of in step (eqb last.end q.end)
        where
          step : (b : Bool) → 0 < length (cond b (q ∷ qs) (last ∷ q ∷ qs))
          step true = omega arith
          step false = omega arith
