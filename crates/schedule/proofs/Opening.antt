-- Rows that take time to open: when they end and how late they are, the rule, rank, arrival, and the sum.
-- Assumes nothing.
use Prim.Native.Nat.{ℕ, ◌+◌, ◌*◌, max, compare, Ordering}
use native.Mathlib.Omega.{arith}
use native.Mathlib.Nat.{suc-mul}
use mathlib.Core.Bool.{cond}
use mathlib.Core.Path.{◌≡◌, refl, ap, ◌∙◌}
use mathlib.Core.List.{List, [], ◌∷◌}
use mathlib.Core.Logic.{◌↔◌}
use lib.ListN.{length}
use lib.IntN.{sub_ℕ}
use Rattle.theory.specs.Jobs.{Job, finish}
use Rattle.schedule.specs.declared.Profile.{Profile}
use Rattle.schedule.specs.declared.Profile.TheVariants.{Ordering as OrderingRule, FirstCome}
use Rattle.schedule.specs.Desk.{lateness, lengths_of}
use Rattle.schedule.specs.Picks.{outranks, earliest_end}
use Rattle.schedule.specs.Arrival.{comes_before, placed_by_arrival, by_arrival}
use Rattle.schedule.specs.Profiles.{Obeys}
use Rattle.schedule.specs.Opening.{opened_job, OpeningHolds}
use Rattle.schedule.proofs.Tests.{Compared, compared}
use Rattle.schedule.proofs.DeskLaws.{idle_sum}

-- Two numbers that both rise by the same compare as they did.
compare_raised : (o a b : ℕ) → compare (o + a) (o + b) ≡ compare a b
compare_raised o a b = step (compare (o + a) (o + b)) (compare a b) (compared (o + a) (o + b)) (compared a b)
  where
    step : (x y : Ordering) → Compared (o + a) (o + b) x → Compared a b y → x ≡ y
    step Ordering.lt Ordering.lt p q = refl
    step Ordering.eq Ordering.eq p q = refl
    step Ordering.gt Ordering.gt p q = refl
    step Ordering.lt Ordering.eq p q = let z : ⊥ = omega arith in absurd z
    step Ordering.lt Ordering.gt p q = let z : ⊥ = omega arith in absurd z
    step Ordering.eq Ordering.lt p q = let z : ⊥ = omega arith in absurd z
    step Ordering.eq Ordering.gt p q = let z : ⊥ = omega arith in absurd z
    step Ordering.gt Ordering.lt p q = let z : ⊥ = omega arith in absurd z
    step Ordering.gt Ordering.eq p q = let z : ⊥ = omega arith in absurd z

module _ (opening : ℕ) (job : ℕ → Job) where
  ends_at : (i t : ℕ) → finish (opened_job opening job i) t ≡ max t (job i).release + opening + (job i).length
  unfolding finish
  ends_at i t = omega arith

  lates_at_lem : (i t : ℕ) → lateness (opened_job opening job) t i ≡ sub_ℕ (max t (job i).release + opening + (job i).length) (job i).due
  lates_at_lem i t = ap (λ (end : ℕ). sub_ℕ end (job i).due) (ends_at i t)

  unopened : opening ≡ 0 → (i : ℕ) → opened_job opening job i ≡ job i
  unopened e i = let own : opening + (job i).length ≡ (job i).length = omega arith in
      λ x. record { release = (job i).release; length = own x; due = (job i).due }

  raised_end : (i : ℕ) → earliest_end (opened_job opening job i) ≡ opening + earliest_end (job i)
  raised_end i = omega arith

  ranks : (i j : ℕ) → outranks (opened_job opening job) i j ≡ outranks job i j
  unfolding outranks
  ranks i j = rw (raised_end i, raised_end j, compare_raised opening (earliest_end (job i)) (earliest_end (job j)))

  placed : (i : ℕ) (left : List ℕ) → placed_by_arrival (opened_job opening job) i left ≡ placed_by_arrival job i left
  unfolding placed_by_arrival comes_before
  placed i [] = refl
  placed i (j ∷ js) = ap {B = List ℕ} (λ ks. cond (comes_before job i j) (i ∷ j ∷ js) (j ∷ ks)) (placed i js)

  arrives : (left : List ℕ) → by_arrival (opened_job opening job) left ≡ by_arrival job left
  unfolding by_arrival
  arrives [] = refl
  arrives (i ∷ is) = placed i (by_arrival (opened_job opening job) is) ∙ ap (placed_by_arrival job i) (arrives is)

  rules : (profile : Profile) (left : List ℕ) → Obeys profile (opened_job opening job) left ↔ Obeys profile job left
  rules OrderingRule left = ((λ a i j m n h. omega (arith, a i j m n h)), (λ a i j m n h. omega (arith, a i j m n h)))
  rules FirstCome left = ((λ a. a), (λ a. a))

  openings : (order : List ℕ) → lengths_of (opened_job opening job) order ≡ length order * opening + lengths_of job order
  unfolding lengths_of
  openings [] = omega arith
  openings (i ∷ is) = omega (arith, openings is, suc-mul (length is) opening)

pub opening_laws : OpeningHolds
opening_laws opening job = record {
  ends = ends_at opening job;
  lates = lates_at_lem opening job;
  none = unopened opening job;
  rule = rules opening job;
  rank = ranks opening job;
  arrival = arrives opening job;
  sum = λ t n order e. omega (arith, idle_sum (opened_job opening job) t order, openings opening job order, ap (λ (k : ℕ). k * opening) e);
}
