-- The list by its definition: its pairs are those attained and unbeaten, each once, by rising end; and no other list is so.
-- Assumes nothing.
use Prim.Native.Nat.{ℕ, ◌<◌, compare, Ordering}
use native.Mathlib.Omega.{arith}
use mathlib.Core.Bool.{Bool, true, false, not, cond}
use mathlib.Core.Path.{◌≡◌, refl, sym, ap, ◌∙◌, subst}
use mathlib.Core.List.Memᴰ
use mathlib.Core.List.{List, [], ◌∷◌, Memᴰ}
use mathlib.Core.Logic.{◌⊎◌, inl, inr}
use lib.Dec.{T}
use Rattle.theory.specs.Jobs.{Job}
use Rattle.schedule.specs.Desk.{Pair}
use Rattle.schedule.specs.Plans.{beats, beaten_by, unbeaten, by_order, placed_by_end, by_end, attained, plans}
use Rattle.schedule.proofs.Tests.{Compared, compared}
use Rattle.schedule.proofs.Beats.{same_end}
use Rattle.schedule.proofs.Tests.{nor, nor_both}
use Rattle.schedule.proofs.Sorted.{Sorted, sorted_unique}

-- A pair that is attained, and beaten by none that is.
pub record Listed (all : List Pair) (p : Pair) : Type 0 where
  pub found : Memᴰ p all
  pub none_beats : (q : Pair) → Memᴰ q all → T (not (beats q p))

not_beaten : (all : List Pair) (p : Pair) → T (not (beaten_by all p)) → (q : Pair) → Memᴰ q all → T (not (beats q p))
unfolding beaten_by
not_beaten [] p t q m = absurd (Memᴰ.not-nil m)
not_beaten (r ∷ rs) p t q m = go (not_beaten rs p (nor_both (beats r p) (beaten_by rs p) t).1 q) (Memᴰ.cases_cons m)
  where
    go : (Memᴰ q rs → T (not (beats q p))) → (q ≡ r) ⊎ Memᴰ q rs → T (not (beats q p))
    go f (inl e) = subst (λ x. T (not (beats x p))) (sym e) (nor_both (beats r p) (beaten_by rs p) t).0
    go f (inr n) = f n

not_beaten_by : (all : List Pair) (p : Pair) → ((q : Pair) → Memᴰ q all → T (not (beats q p))) → T (not (beaten_by all p))
unfolding beaten_by
not_beaten_by [] p f = tt
not_beaten_by (r ∷ rs) p f = nor (beats r p) (beaten_by rs p) (f r (Memᴰ.head refl)) (not_beaten_by rs p (λ q m. f q (Memᴰ.tail m)))

-- What is kept of a list by a test.
kept_sound : (all qs : List Pair) (p : Pair) → Memᴰ p (unbeaten all qs) → Memᴰ p qs × T (not (beaten_by all p))
unfolding unbeaten
kept_sound all [] p m = absurd (Memᴰ.not-nil m)
kept_sound all (q ∷ qs) p m = go (beaten_by all q) refl m (kept_sound all qs p)
  where
    down : Memᴰ p qs × T (not (beaten_by all p)) → Memᴰ p (q ∷ qs) × T (not (beaten_by all p))
    down r = (Memᴰ.tail r.0, r.1)

    go : (b : Bool) → beaten_by all q ≡ b → Memᴰ p (cond b (unbeaten all qs) (q ∷ unbeaten all qs)) →
        (Memᴰ p (unbeaten all qs) → Memᴰ p qs × T (not (beaten_by all p))) → Memᴰ p (q ∷ qs) × T (not (beaten_by all p))
    go true e m f = down (f m)
    go false e m f = cases (Memᴰ.cases_cons m)
      where
        cases : (p ≡ q) ⊎ Memᴰ p (unbeaten all qs) → Memᴰ p (q ∷ qs) × T (not (beaten_by all p))
        cases (inl h) = (Memᴰ.head h, subst (λ x. T (not x)) (sym (ap (beaten_by all) h ∙ e)) tt)
        cases (inr n) = down (f n)

kept_complete : (all qs : List Pair) (p : Pair) → Memᴰ p qs → T (not (beaten_by all p)) → Memᴰ p (unbeaten all qs)
unfolding unbeaten
kept_complete all [] p m t = absurd (Memᴰ.not-nil m)
kept_complete all (q ∷ qs) p m t = go (beaten_by all q) refl (Memᴰ.cases_cons m) (λ n. kept_complete all qs p n t)
  where
    go : (b : Bool) → beaten_by all q ≡ b → (p ≡ q) ⊎ Memᴰ p qs → (Memᴰ p qs → Memᴰ p (unbeaten all qs)) →
        Memᴰ p (cond b (unbeaten all qs) (q ∷ unbeaten all qs))
    go true e (inl h) f = absurd (subst (λ x. T (not x)) (ap (beaten_by all) h ∙ e) t)
    go true e (inr n) f = f n
    go false e (inl h) f = Memᴰ.head h
    go false e (inr n) f = Memᴰ.tail (f n)

-- Every end of a list is above e; and the ends rise.
abbrev pub Above : ℕ → List Pair → Type 0
Above e [] = Unit {0}
Above e (p ∷ ps) = (e < p.end) × Above e ps

abbrev pub Rising : List Pair → Type 0
Rising [] = Unit {0}
Rising (p ∷ ps) = Above p.end ps × Rising ps

pub above_less : {e f : ℕ} → e < f → (ps : List Pair) → Above f ps → Above e ps
above_less h [] a = tt
above_less h (p ∷ ps) a = (omega arith, above_less h ps a.1)

placed_sound : (q : Pair) (ps : List Pair) (p : Pair) → Memᴰ p (placed_by_end q ps) → (p ≡ q) ⊎ Memᴰ p ps
unfolding placed_by_end
placed_sound q [] p m = Memᴰ.cases_cons m
placed_sound q (r ∷ rs) p m = go (compare q.end r.end) (placed_sound q rs p) m
  where
    go : (o : Ordering) → (Memᴰ p (placed_by_end q rs) → (p ≡ q) ⊎ Memᴰ p rs) →
        Memᴰ p (by_order o (q ∷ r ∷ rs) (r ∷ rs) (r ∷ placed_by_end q rs)) → (p ≡ q) ⊎ Memᴰ p (r ∷ rs)
    go Ordering.lt f m = Memᴰ.cases_cons m
    go Ordering.eq f m = inr m
    go Ordering.gt f m = cases (Memᴰ.cases_cons m)
      where
        later : (p ≡ q) ⊎ Memᴰ p rs → (p ≡ q) ⊎ Memᴰ p (r ∷ rs)
        later (inl e) = inl e
        later (inr n) = inr (Memᴰ.tail n)

        cases : (p ≡ r) ⊎ Memᴰ p (placed_by_end q rs) → (p ≡ q) ⊎ Memᴰ p (r ∷ rs)
        cases (inl e) = inr (Memᴰ.head e)
        cases (inr n) = later (f n)

placed_keeps : (q : Pair) (ps : List Pair) (p : Pair) → Memᴰ p ps → Memᴰ p (placed_by_end q ps)
unfolding placed_by_end
placed_keeps q [] p m = absurd (Memᴰ.not-nil m)
placed_keeps q (r ∷ rs) p m = go (compare q.end r.end) (placed_keeps q rs p) (Memᴰ.cases_cons m)
  where
    go : (o : Ordering) → (Memᴰ p rs → Memᴰ p (placed_by_end q rs)) → (p ≡ r) ⊎ Memᴰ p rs →
        Memᴰ p (by_order o (q ∷ r ∷ rs) (r ∷ rs) (r ∷ placed_by_end q rs))
    go Ordering.lt f c = Memᴰ.tail m
    go Ordering.eq f c = m
    go Ordering.gt f (inl e) = Memᴰ.head e
    go Ordering.gt f (inr n) = Memᴰ.tail (f n)

-- A pair with the end of q is there.
placed_end : (q : Pair) (ps : List Pair) → (r : Pair) × Memᴰ r (placed_by_end q ps) × (r.end ≡ q.end)
unfolding placed_by_end
placed_end q [] = (q, Memᴰ.head refl, refl)
placed_end q (r ∷ rs) = go (compare q.end r.end) (compared q.end r.end) (placed_end q rs)
  where
    go : (o : Ordering) → Compared q.end r.end o → ((s : Pair) × Memᴰ s (placed_by_end q rs) × (s.end ≡ q.end)) →
        (s : Pair) × Memᴰ s (by_order o (q ∷ r ∷ rs) (r ∷ rs) (r ∷ placed_by_end q rs)) × (s.end ≡ q.end)
    go Ordering.lt c f = (q, Memᴰ.head refl, refl)
    go Ordering.eq c f = (r, Memᴰ.head refl, sym c)
    go Ordering.gt c f = (f.0, Memᴰ.tail f.1, f.2)

placed_above : {e : ℕ} (q : Pair) (ps : List Pair) → e < q.end → Above e ps → Above e (placed_by_end q ps)
unfolding placed_by_end
placed_above q [] h a = (h, tt)
placed_above {e} q (r ∷ rs) h a = go (compare q.end r.end) (placed_above q rs h a.1)
  where
    go : (o : Ordering) → Above e (placed_by_end q rs) → Above e (by_order o (q ∷ r ∷ rs) (r ∷ rs) (r ∷ placed_by_end q rs))
    go Ordering.lt f = (h, a)
    go Ordering.eq f = a
    go Ordering.gt f = (a.0, f)

placed_rising : (q : Pair) (ps : List Pair) → Rising ps → Rising (placed_by_end q ps)
unfolding placed_by_end
placed_rising q [] h = (tt, tt)
placed_rising q (r ∷ rs) h = go (compare q.end r.end) (compared q.end r.end) (placed_rising q rs h.1)
  where
    go : (o : Ordering) → Compared q.end r.end o → Rising (placed_by_end q rs) → Rising
        (by_order o (q ∷ r ∷ rs) (r ∷ rs) (r ∷ placed_by_end q rs))
    go Ordering.lt c f = ((c, above_less c rs h.0), h)
    go Ordering.eq c f = h
    go Ordering.gt c f = (placed_above q rs c h.0, f)

by_end_sound : (ps : List Pair) (p : Pair) → Memᴰ p (by_end ps) → Memᴰ p ps
unfolding by_end
by_end_sound [] p m = m
by_end_sound (q ∷ ps) p m = go (placed_sound q (by_end ps) p m) (by_end_sound ps p)
  where
    go : (p ≡ q) ⊎ Memᴰ p (by_end ps) → (Memᴰ p (by_end ps) → Memᴰ p ps) → Memᴰ p (q ∷ ps)
    go (inl e) f = Memᴰ.head e
    go (inr n) f = Memᴰ.tail (f n)

by_end_rising : (ps : List Pair) → Rising (by_end ps)
unfolding by_end
by_end_rising [] = tt
by_end_rising (p ∷ ps) = placed_rising p (by_end ps) (by_end_rising ps)

by_end_end : (ps : List Pair) (p : Pair) → Memᴰ p ps → (r : Pair) × Memᴰ r (by_end ps) × (r.end ≡ p.end)
unfolding by_end
by_end_end [] p m = absurd (Memᴰ.not-nil m)
by_end_end (q ∷ ps) p m = go (Memᴰ.cases_cons m) (by_end_end ps p)
  where
    go : (p ≡ q) ⊎ Memᴰ p ps → (Memᴰ p ps → (r : Pair) × Memᴰ r (by_end ps) × (r.end ≡ p.end)) →
        (r : Pair) × Memᴰ r (placed_by_end q (by_end ps)) × (r.end ≡ p.end)
    go (inl e) f = let s = placed_end q (by_end ps) in (s.0, s.1, s.2 ∙ ap (λ (x : Pair). x.end) (sym e))
    go (inr n) f = let s = f n in (s.0, placed_keeps q (by_end ps) s.0 s.1, s.2)

module _ (job : ℕ → Job) (t : ℕ) (left : List ℕ) where
  -- Every pair of the list is attained and unbeaten,
  pub plans_sound : (p : Pair) → Memᴰ p (plans job t left) → Listed (attained job t left) p
  unfolding plans
  plans_sound p m =
      let all = attained job t left in
      let k = kept_sound all all p (by_end_sound (unbeaten all all) p m) in
      record { found = k.0; none_beats = not_beaten all p k.1 }

  -- every pair that is attained and unbeaten is on it,
  pub plans_complete : (p : Pair) → Listed (attained job t left) p → Memᴰ p (plans job t left)
  unfolding plans
  plans_complete p l = Memᴰ.cast (same_end p r.0 (sym r.2) (u.none_beats p l.found) (l.none_beats r.0 u.found)) r.1
    where
      all : List Pair
      all = attained job t left

      r : (q : Pair) × Memᴰ q (by_end (unbeaten all all)) × (q.end ≡ p.end)
      r = by_end_end (unbeaten all all) p (kept_complete all all p l.found (not_beaten_by all p l.none_beats))

      u : Listed all r.0
      u = plans_sound r.0 r.1

  -- and their ends rise.
  pub plans_rising : Rising (plans job t left)
  unfolding plans
  plans_rising = by_end_rising (unbeaten (attained job t left) (attained job t left))

pub above_mem : {e : ℕ} (ps : List Pair) {r : Pair} → Above e ps → Memᴰ r ps → e < r.end
above_mem [] a m = absurd (Memᴰ.not-nil m)
above_mem {e} (p ∷ ps) {r} a m = go (Memᴰ.cases_cons m) (above_mem ps a.1)
  where
    go : (r ≡ p) ⊎ Memᴰ r ps → (Memᴰ r ps → e < r.end) → e < r.end
    go (inl h) f = subst (λ (x : Pair). e < x.end) (sym h) a.0
    go (inr n) f = f n

-- Two lists with rising ends and the same pairs are equal: the list is fixed by what is on it.
pub rising_unique : (l m : List Pair) → Rising l → Rising m → ((p : Pair) → Memᴰ p l → Memᴰ p m) →
    ((p : Pair) → Memᴰ p m → Memᴰ p l) → l ≡ m
rising_unique l m h k = sorted_unique Sooner (λ p q h k. omega arith) l m (sorted l h) (sorted m k)
  where
    Sooner : Pair → Pair → Type 0
    Sooner p q = p.end < q.end

    sorted : (ps : List Pair) → Rising ps → Sorted Sooner ps
    sorted [] r = tt
    sorted (p ∷ ps) r = (λ q m. above_mem ps r.0 m, sorted ps r.1)
