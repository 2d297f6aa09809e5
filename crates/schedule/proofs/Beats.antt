-- When one pair beats another.
-- Assumes nothing.
use Prim.Native.Nat.{◌+◌, ◌≤◌, ◌<◌}
use native.Mathlib.Omega.{arith}
use native.Mathlib.Decide.{dec_le}
use mathlib.Core.Bool.{not, ◌&&◌, ◌||◌}
use mathlib.Core.Path.{◌≡◌}
use mathlib.Core.Logic.{◌⊎◌, inl, inr, ◌↔◌}
use lib.Dec.{T, leb, ltb, leb→le, le→leb, ltb→lt, lt→ltb, T_not, not_T}
use lib.Signed.{le_z, lt_z, ◌<ℤ◌}
use Rattle.schedule.specs.Desk.{Pair}
use Rattle.schedule.specs.Plans.{beats, Beats}
use Rattle.schedule.proofs.Signed.{up, down, ◌≼◌, le_z→, →le_z, lt_z→, →lt_z, level}
use Rattle.schedule.proofs.Tests.{both, parts, or_cases, or_left, or_right}

-- Both numbers no greater.
abbrev pub NoWorse : Pair → Pair → Type 0
NoWorse p q = (p.end ≤ q.end) × (p.late ≼ q.late)

pub beats_worse : (p q : Pair) → T (beats p q) → NoWorse p q × ¬ NoWorse q p
unfolding beats
beats_worse p q t =
    let a = parts (leb p.end q.end && le_z p.late q.late) (ltb p.end q.end || lt_z p.late q.late) t in
    let b = parts (leb p.end q.end) (le_z p.late q.late) a.0 in (
      (leb→le p.end q.end b.0, le_z→ p.late q.late b.1),
      λ n. less n
          (or_cases (ltb p.end q.end) (lt_z p.late q.late) a.1),
    )
  where
    less : NoWorse q p → T (ltb p.end q.end) ⊎ T (lt_z p.late q.late) → ⊥
    less n (inl t) = omega (arith, n.0, ltb→lt p.end q.end t)
    less n (inr t) = omega (arith, n.1, lt_z→ p.late q.late t)

pub unbeaten_worse : (p q : Pair) → T (not (beats p q)) → NoWorse p q → NoWorse q p
unfolding beats
unbeaten_worse p q t n = (ends (dec_le q.end p.end), lates (dec_le (up q.late + down p.late) (up p.late + down q.late)))
  where
    beaten : T (ltb p.end q.end || lt_z p.late q.late) → ⊥
    beaten s = T_not (beats p q) t (
        both (leb p.end q.end && le_z p.late q.late) (ltb p.end q.end || lt_z p.late q.late)
        (both (leb p.end q.end) (le_z p.late q.late) (le→leb p.end q.end n.0) (→le_z p.late q.late n.1)) s
        )

    ends : Dec (q.end ≤ p.end) → q.end ≤ p.end
    ends (yes h) = h
    ends (no h) = absurd (beaten (or_left (ltb p.end q.end) (lt_z p.late q.late) (lt→ltb p.end q.end (omega arith))))

    lates : Dec (q.late ≼ p.late) → q.late ≼ p.late
    lates (yes h) = h
    lates (no h) = absurd (beaten (or_right (ltb p.end q.end) (lt_z p.late q.late) (→lt_z p.late q.late (omega arith))))

-- The test of two pairs says whether one beats the other.
pub beats_says : (p q : Pair) → T (beats p q) ↔ Beats p q
unfolding beats
beats_says p q = (
  λ t. (
      let a = parts (leb p.end q.end && le_z p.late q.late) (ltb p.end q.end || lt_z p.late q.late) t in
      let b = parts (leb p.end q.end) (le_z p.late q.late) a.0 in
      record {
        ends = leb→le p.end q.end b.0;
        lates = record { le = b.1 };
        less = less (or_cases (ltb p.end q.end) (lt_z p.late q.late) a.1);
      }),
  λ h. (
      both (leb p.end q.end && le_z p.late q.late) (ltb p.end q.end || lt_z p.late q.late)
      (both (leb p.end q.end) (le_z p.late q.late) (le→leb p.end q.end h.ends) h.lates.le) (some_less h.less)),
)
  where
    less : T (ltb p.end q.end) ⊎ T (lt_z p.late q.late) → (p.end < q.end) ⊎ (p.late <ℤ q.late)
    less (inl t) = inl (ltb→lt p.end q.end t)
    less (inr t) = inr (record { lt = t })

    some_less : (p.end < q.end) ⊎ (p.late <ℤ q.late) → T (ltb p.end q.end || lt_z p.late q.late)
    some_less (inl l) = or_left (ltb p.end q.end) (lt_z p.late q.late) (lt→ltb p.end q.end l)
    some_less (inr l) = or_right (ltb p.end q.end) (lt_z p.late q.late) l.lt

pub unbeaten_says : (p q : Pair) → T (not (beats p q)) ↔ (¬ Beats p q)
unbeaten_says p q = (λ t h. T_not (beats p q) t ((beats_says p q).1 h), λ n. not_T (beats p q) (λ t. n ((beats_says p q).0 t)))

pub alike : (p q : Pair) → NoWorse p q → NoWorse q p → p ≡ q
alike p q h k = λ i. record { end = e i; late = l i }
  where
    e : p.end ≡ q.end
    e = omega (arith, h.0, k.0)

    l : p.late ≡ q.late
    l = level p.late q.late (omega (arith, h.1, k.1))

-- Two pairs with one end, neither of which beats the other, are equal.
pub same_end : (p q : Pair) → p.end ≡ q.end → T (not (beats p q)) → T (not (beats q p)) → p ≡ q
same_end p q e h k = step (dec_le (up p.late + down q.late) (up q.late + down p.late))
  where
    step : Dec (p.late ≼ q.late) → p ≡ q
    step (yes l) = let n : NoWorse p q = (omega arith, l) in alike p q n (unbeaten_worse p q h n)
    step (no l) = let n : NoWorse q p = (omega arith, omega arith) in alike p q (unbeaten_worse q p k n) n
