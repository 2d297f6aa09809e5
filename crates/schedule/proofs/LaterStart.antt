-- A later start moves ends and latenesses by no more than itself, and so the list.
-- Assumes nothing.
use Prim.Native.Nat.{ℕ, suc, ◌+◌, ◌-◌, ◌≤◌}
use native.Mathlib.Omega.{arith}
use mathlib.Core.Path.{◌≡◌, subst}
use mathlib.Core.List.{List, [], ◌∷◌, Memᴰ}
use lib.Dec.{T}
use lib.IntN.{ℤ, pos, negsuc, ◌+ℤ◌}
use lib.Signed.{le_z}
use Rattle.theory.specs.Jobs.{Job, finish}
use Rattle.schedule.specs.Desk.{Pair, worst_of, at_most, lateness, end_of, latenesses, pair_of, keeps}
use Rattle.schedule.specs.Plans.{plans}
use Rattle.schedule.specs.LaterStart.{LaterStart}
use Rattle.schedule.proofs.Signed.{up, down, ◌≼◌, le_z→, →le_z, sub_level}
use Rattle.schedule.proofs.Tests.{both, parts}
use Rattle.schedule.proofs.DeskLaws.{keeps_late, late_keeps}
use Rattle.schedule.proofs.Cover.{signed, listed, covers}

-- A signed number raised by a natural.
pub add_level : (z : ℤ) (d : ℕ) → up (z +ℤ pos d) + down z ≡ up z + d + down (z +ℤ pos d)
add_level (pos a) d = omega arith
add_level (negsuc a) d = omega (arith, sub_level d (suc a))

-- From a minute s that is at most d past t, an order ends at most d later and is at most d later at worst. (With d = 0: no later.)
module _ (job : ℕ → Job) where
  finish_moves : (i s t d : ℕ) → s ≤ t + d → finish (job i) s ≤ finish (job i) t + d
  unfolding finish
  finish_moves i s t d h = omega arith

  pub end_moves : (order : List ℕ) (s t d : ℕ) → s ≤ t + d → end_of job s order ≤ end_of job t order + d
  unfolding end_of
  end_moves [] s t d h = h
  end_moves (i ∷ is) s t d h = end_moves is (finish (job i) s) (finish (job i) t) d (finish_moves i s t d h)

  -- So an order that keeps a bound from t keeps one that is d larger from s.
  keeps_moves : (y z : ℤ) (d : ℕ) → up y + d + down z ≤ up z + down y → (order : List ℕ) (s t : ℕ) → s ≤ t + d →
      T (keeps job y t order) → T (keeps job z s order)
  unfolding latenesses at_most
  keeps_moves y z d g [] s t h k = tt
  keeps_moves y z d g (i ∷ is) s t h k =
      let p = parts (le_z (lateness job t i) y) (keeps job y (finish (job i) t) is) k in
      let m = finish_moves i s t d h in
      let own = le_z→ (lateness job t i) y p.0 in
      both (le_z (lateness job s i) z) (keeps job z (finish (job i) s) is)
      (→le_z (lateness job s i) z
      (omega (arith, own, sub_level (finish (job i) t) (job i).due, sub_level (finish (job i) s) (job i).due)))
      (keeps_moves y z d g is (finish (job i) s) (finish (job i) t) m p.1)

  pub late_moves : (order : List ℕ) (s t d : ℕ) → s ≤ t + d → (pair_of job s order).late ≼ ((pair_of job t order).late +ℤ pos d)
  unfolding latenesses worst_of
  late_moves [] s t d h = omega arith
  late_moves (i ∷ is) s t d h =
      let y : ℤ = (pair_of job t (i ∷ is)).late in
      keeps_late job (y +ℤ pos d) s (i ∷ is) (omega arith)
      (keeps_moves y (y +ℤ pos d) d (omega (arith, add_level y d)) (i ∷ is) s t h
      (late_keeps job y t (i ∷ is) (omega arith) (omega arith)))

-- A plan of one list is that of an order, which the other list covers from its own minute.
module _ (job : ℕ → Job) (left : List ℕ) where
  met : (s t d : ℕ) → s ≤ t + d → (p : Pair) → Memᴰ p (plans job t left) →
      (q : Pair) × Memᴰ q (plans job s left) × (q.end ≤ p.end + d) × (q.late ≼ (p.late +ℤ pos d))
  met s t d h p m =
      let a = ((listed job t left p).0 m).0 in
      let order : List ℕ = a.0 in
      let c = covers job s left order a.1.0 in
      subst (λ (r : Pair). (q : Pair) × Memᴰ q (plans job s left) × (q.end ≤ r.end + d) × (q.late ≼ (r.late +ℤ pos d))) a.1.1 (
        c.0,
        c.1,
        omega (arith, c.2, end_moves job order s t d h),
        omega (arith, le_z→ c.0.late (pair_of job s order).late c.3.le, late_moves job order s t d h),
      )

pub later_start : LaterStart
later_start job t later h = record {
  orders = λ order. record {
    no_sooner = omega (arith, end_moves job order t later 0 (omega arith));
    no_less_late = signed (omega (arith, late_moves job order t later 0 (omega arith), add_level (pair_of job later order).late 0));
    ends = end_moves job order later t (later - t) (omega arith);
    lates = signed (late_moves job order later t (later - t) (omega arith));
  };
  lists = λ left. record {
    met_earlier = λ p m. let u = met job left t later 0 (omega arith) p m in
        (u.0, u.1, omega (arith, u.2), signed (omega (arith, u.3, add_level p.late 0)));
    met_later = λ p m. let u = met job left later t (later - t) (omega arith) p m in (u.0, u.1, u.2, signed u.3);
  };
}
