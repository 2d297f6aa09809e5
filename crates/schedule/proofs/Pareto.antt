-- Pairs that no pair of a list beats: below each pair there is one, and how a list of them grows by ever smaller bounds.
-- Assumes nothing.
use Prim.Native.Nat.{ℕ, suc, ◌+◌, ◌≤◌, ◌<◌}
use native.Mathlib.Omega.{arith}
use native.Mathlib.Decide.{dec_le, dec_lt}
use mathlib.Core.Bool.{Bool, true, false, not, cond}
use mathlib.Core.Path.{◌≡◌, refl, sym, ap, ◌∙◌, subst}
use mathlib.Core.List.Memᴰ
use mathlib.Core.List.{List, [], ◌∷◌, Memᴰ}
use mathlib.Core.Logic.{◌⊎◌, inl, inr}
use lib.Dec.{T, eqb, eqb→eq, eqb_refl, not_T}
use lib.IntN.{ℤ, pred_ℤ}
use Rattle.schedule.specs.Desk.{Pair}
use Rattle.schedule.specs.Plans.{beats, ahead_of}
use Rattle.schedule.proofs.Beats.{NoWorse, beats_worse, unbeaten_worse, alike}
use Rattle.schedule.proofs.Front.{Listed, Rising, above_less, above_mem}
use Rattle.schedule.proofs.Signed.{up, down, ◌≼◌, pred_level}

-- Below each pair, one that none of the list beats: it, or one of the list.
below : (all : List Pair) (q : Pair) → (p : Pair) × ((p ≡ q) ⊎ Memᴰ p all) × NoWorse p q ×
    ((r : Pair) → Memᴰ r all → T (not (beats r p)))
below [] q = (q, inl refl, (omega arith, omega arith), λ r m. absurd (Memᴰ.not-nil m))
below (x ∷ xs) q = step (beats x q) refl (below xs x) (below xs q)
  where
    Below : Pair → List Pair → Type 0
    Below q all = (p : Pair) × ((p ≡ q) ⊎ Memᴰ p all) × NoWorse p q × ((r : Pair) → Memᴰ r all → T (not (beats r p)))

    all_of : (p : Pair) → T (not (beats x p)) → ((r : Pair) → Memᴰ r xs → T (not (beats r p))) → (r : Pair) →
        (r ≡ x) ⊎ Memᴰ r xs → T (not (beats r p))
    all_of p h f r (inl e) = subst (λ (z : Pair). T (not (beats z p))) (sym e) h
    all_of p h f r (inr m) = f r m

    from_x : {p : Pair} → (p ≡ x) ⊎ Memᴰ p xs → (p ≡ q) ⊎ Memᴰ p (x ∷ xs)
    from_x (inl e) = inr (Memᴰ.head e)
    from_x (inr m) = inr (Memᴰ.tail m)

    from_q : {p : Pair} → (p ≡ q) ⊎ Memᴰ p xs → (p ≡ q) ⊎ Memᴰ p (x ∷ xs)
    from_q (inl e) = inl e
    from_q (inr m) = inr (Memᴰ.tail m)

    step : (b : Bool) → beats x q ≡ b → Below x xs → Below q xs → Below q (x ∷ xs)
    step true e u v =
        let w = (beats_worse x q (subst T (sym e) tt)).0 in
        let free = not_T (beats x u.0) (λ t. (beats_worse x u.0 t).1 u.2) in
        (u.0, from_x u.1, (omega (arith, u.2, w), omega (arith, u.2, w)), λ r m. all_of u.0 free u.3 r (Memᴰ.cases_cons m))
    step false e u v =
        let free = not_T (beats x v.0) (λ t. let w = beats_worse x v.0 t in
        let n = unbeaten_worse x q (subst (λ (b : Bool). T (not b)) (sym e) tt) (omega (arith, w.0, v.2), omega (arith, w.0, v.2)) in
        w.1 (omega (arith, n, v.2), omega (arith, n, v.2))) in
        (v.0, from_q v.1, v.2, λ r m. all_of v.0 free v.3 r (Memᴰ.cases_cons m))

-- A pair in front of a list, no end of which is below its own.
not_same : (m n : ℕ) → eqb m n ≡ false → m ≡ n → ⊥
not_same m n e h = subst T (ap (eqb m) h ∙ e) (eqb_refl m)

ahead_rising : (p : Pair) (ps : List Pair) → ((q : Pair) → Memᴰ q ps → p.end ≤ q.end) → Rising ps → Rising (ahead_of p ps)
unfolding ahead_of
ahead_rising p [] h r = (tt, tt)
ahead_rising p (q ∷ qs) h r = step (eqb p.end q.end) (not_same p.end q.end)
  where
    step : (b : Bool) → (b ≡ false → p.end ≡ q.end → ⊥) → Rising (cond b (q ∷ qs) (p ∷ q ∷ qs))
    step true n = r
    step false n = let l : p.end < q.end = lt_of (h q (Memᴰ.head refl)) (n refl) in ((l, above_less l qs r.0), r)
      where
        lt_of : p.end ≤ q.end → (p.end ≡ q.end → ⊥) → p.end < q.end
        lt_of h n = go (dec_lt p.end q.end)
          where
            go : Dec (p.end < q.end) → p.end < q.end
            go (yes l) = l
            go (no l) = absurd (n (omega arith))

-- One of the new list is one of the old, or the new pair, which then ends before all of the old.
ahead_sound : (p : Pair) (ps : List Pair) (r : Pair) → Rising (ahead_of p ps) → Memᴰ r (ahead_of p ps) → Memᴰ r ps ⊎
    ((r ≡ p) × ((q : Pair) → Memᴰ q ps → p.end < q.end))
unfolding ahead_of
ahead_sound p [] r h m = inr (single (Memᴰ.cases_cons m), λ q n. absurd (Memᴰ.not-nil n))
  where
    single : (r ≡ p) ⊎ Memᴰ r [] → r ≡ p
    single (inl e) = e
    single (inr n) = absurd (Memᴰ.not-nil n)
ahead_sound p (q ∷ qs) r h m = step (eqb p.end q.end) h m
  where
    step : (b : Bool) → Rising (cond b (q ∷ qs) (p ∷ q ∷ qs)) → Memᴰ r (cond b (q ∷ qs) (p ∷ q ∷ qs)) →
        Memᴰ r (q ∷ qs) ⊎ ((r ≡ p) × ((s : Pair) → Memᴰ s (q ∷ qs) → p.end < s.end))
    step true h m = inl m
    step false h m = cases (Memᴰ.cases_cons m)
      where
        cases : (r ≡ p) ⊎ Memᴰ r (q ∷ qs) → Memᴰ r (q ∷ qs) ⊎ ((r ≡ p) × ((s : Pair) → Memᴰ s (q ∷ qs) → p.end < s.end))
        cases (inl e) = inr (e, λ s n. above_mem (q ∷ qs) h.0 n)
        cases (inr n) = inl n

ahead_keeps : (p : Pair) (ps : List Pair) (r : Pair) → Memᴰ r ps → Memᴰ r (ahead_of p ps)
unfolding ahead_of
ahead_keeps p [] r m = absurd (Memᴰ.not-nil m)
ahead_keeps p (q ∷ qs) r m = step (eqb p.end q.end)
  where
    step : (b : Bool) → Memᴰ r (cond b (q ∷ qs) (p ∷ q ∷ qs))
    step true = m
    step false = Memᴰ.tail m

ahead_first : (p : Pair) (ps : List Pair) → ((q : Pair) → Memᴰ q ps → ¬ (p.end ≡ q.end)) → Memᴰ p (ahead_of p ps)
unfolding ahead_of
ahead_first p [] h = Memᴰ.head refl
ahead_first p (q ∷ qs) h = step (eqb p.end q.end) (eqb→eq p.end q.end)
  where
    step : (b : Bool) → (T b → p.end ≡ q.end) → Memᴰ p (cond b (q ∷ qs) (p ∷ q ∷ qs))
    step true e = absurd (h q (Memᴰ.head refl) (e tt))
    step false e = Memᴰ.head refl

module _ (all : List Pair) where
  pub listed_below : (q : Pair) → Memᴰ q all → (p : Pair) × Listed all p × NoWorse p q
  listed_below q m = let u = below all q in (u.0, record { found = found u.0 u.1; none_beats = u.3 }, u.2)
    where
      found : (p : Pair) → (p ≡ q) ⊎ Memᴰ p all → Memᴰ p all
      found p (inl e) = subst (λ (z : Pair). Memᴰ z all) (sym e) m
      found p (inr n) = n

  -- The list of the unbeaten pairs whose lateness is at most y.
  pub record Lists (y : ℤ) (ps : List Pair) : Type 0 where
    pub rise : Rising ps
    pub sound : (p : Pair) → Memᴰ p ps → Listed all p × (p.late ≼ y)
    pub complete : (p : Pair) → Listed all p → p.late ≼ y → Memᴰ p ps

  pub lists_none : (y : ℤ) → ((q : Pair) → Memᴰ q all → ¬ (q.late ≼ y)) → Lists y []
  lists_none y h = record { rise = tt; sound = λ p m. absurd (Memᴰ.not-nil m); complete = λ p l k. absurd (h p l.found k) }

  -- One more question: the pair found for the bound y, in front of the list from one below its lateness.
  pub lists_more : (y : ℤ) (p : Pair) (ps : List Pair) → Memᴰ p all → p.late ≼ y →
      ((q : Pair) → Memᴰ q all → q.late ≼ y → p.end ≤ q.end) →
      Lists (pred_ℤ p.late) ps → Lists y (ahead_of p ps)
  lists_more y p ps m k soonest l = record {
    rise = rise;
    sound = λ r n. old_or_new r (ahead_sound p ps r rise n);
    complete =
        λ r h g. by_late r h g (dec_le (up r.late + down (pred_ℤ p.late)) (up (pred_ℤ p.late) + down r.late));
  }
    where
      one : suc (up (pred_ℤ p.late) + down p.late) ≡ up p.late + down (pred_ℤ p.late)
      one = pred_level p.late

      no_sooner : (q : Pair) → Memᴰ q ps → p.end ≤ q.end
      no_sooner q n = let s = l.sound q n in soonest q s.0.found (omega (arith, s.1, k, one))

      rise : Rising (ahead_of p ps)
      rise = ahead_rising p ps no_sooner l.rise

      new : ((q : Pair) → Memᴰ q ps → p.end < q.end) → Listed all p
      new h = record {
        found = m;
        none_beats = λ s n. not_T (beats s p) (λ t.
            let w = beats_worse s p t in
            let e = soonest s n (omega (arith, w.0, k)) in
            let u = listed_below s n in
            less s w e u.0 u.1 u.2 (dec_le (up p.late + down s.late) (up s.late + down p.late)));
      }
        where
          less : (s : Pair) → NoWorse s p × ¬ NoWorse p s → p.end ≤ s.end → (u : Pair) → Listed all u → NoWorse u s → Dec
              (p.late ≼ s.late) → ⊥
          less s w e u x v (yes g) = w.1 (e, g)
          less s w e u x v (no g) = omega (arith, h u (l.complete u x (omega (arith, v, one))), v, w.0)

      old_or_new : (r : Pair) → Memᴰ r ps ⊎ ((r ≡ p) × ((q : Pair) → Memᴰ q ps → p.end < q.end)) → Listed all r × (r.late ≼ y)
      old_or_new r (inl n) = let s = l.sound r n in (s.0, omega (arith, s.1, k, one))
      old_or_new r (inr n) = subst (λ (z : Pair). Listed all z × (z.late ≼ y)) (sym n.0) (new n.1, k)

      by_late : (r : Pair) → Listed all r → r.late ≼ y → Dec (r.late ≼ pred_ℤ p.late) → Memᴰ r (ahead_of p ps)
      by_late r h g (yes d) = ahead_keeps p ps r (l.complete r h d)
      by_late r h g (no d) =
          let w : NoWorse p r = (soonest r h.found g, omega (arith, one)) in
          let e = alike p r w (unbeaten_worse p r (h.none_beats p m) w) in
          subst (λ (z : Pair). Memᴰ z (ahead_of p ps)) e (ahead_first p ps (λ q n c.
          let s = l.sound q n in
          let b = unbeaten_worse q r (h.none_beats q s.0.found) (omega (arith, c, w.0), omega (arith, s.1, one, w.1)) in
          omega (arith, b, s.1, one, w.1)))
