-- A desk with nothing done yet: all rows are left over, and all are ahead.
-- Assumes nothing.
use Prim.Native.Nat.{ℕ, zero, suc, ◌*◌}
use native.Mathlib.Omega.{arith}
use mathlib.Core.Bool.{false}
use mathlib.Core.Path.{◌≡◌, refl, sym, ◌∙◌, subst}
use mathlib.Core.List.{List}
use lib.ListN.{get_or, replicate, length-replicate}
use Rattle.theory.specs.Jobs.{Job}
use Rattle.schedule.specs.Limits.{EndsInTime}
use Rattle.schedule.specs.Rows.{count_from}
use Rattle.schedule.specs.Offset.{desk_at}
use Rattle.schedule.specs.declared.Desk.{Desk}
use Rattle.schedule.proofs.Numbers.{length_count, count_range, from_mem}
use Rattle.schedule.proofs.Tests.{false_is_true}
use Rattle.picks.specs.Standing.{Distinct, Tables, Stands, Late, Sits}
use Rattle.picks.proofs.Bits.{word_zero}

count_distinct : (i m : ℕ) → Distinct (count_from i m)
unfolding count_from
count_distinct i zero = tt
count_distinct i (suc m) = (λ h. omega (arith, (count_range (suc i) m h).0), count_distinct (suc i) m)

zeroes : (k i : ℕ) → get_or {A = ℕ} (replicate k 0) i 0 ≡ 0
zeroes zero i = refl
zeroes (suc k) zero = refl
zeroes (suc k) (suc i) = zeroes k i

pub at_start : {n : ℕ} {job : ℕ → Job} {by : ℕ → ℕ} → Tables n job by → (t : ℕ) → Stands n job by t (count_from 1 n) 0
    (replicate {A = ℕ} 5 0)
at_start {n} {job} {by} r t = record {
  set = λ j. false;
  words = record {
    size = length-replicate {A = ℕ} 5 0;
    each = λ q h. zeroes 5 q ∙ sym
        (word_zero (λ j. false) (64 * q) 64 (λ j u v. refl));
  };
  distinct = count_distinct 1 n;
  rows = λ i m. let a = count_range 1 n m in (a.0, omega (arith, a.1));
  on = λ i e. false_is_true e;
  off = λ i m e. let a = count_range 1 n m in let p = r.by_release.place i a.0 (omega (arith, a.1)) in
      (p.0, omega arith, p.1, p.2);
  ahead = λ k h g. let a = r.by_release.rows k g in (from_mem (by k) 1 n a.0 (omega (arith, a.1)), refl);
  place = omega arith;
}

-- The rows released by the free minute are put into the set, and so the desk sits.
pub started : {n : ℕ} {job : ℕ → Job} {by : ℕ → ℕ} {free next : ℕ} {ready : List ℕ} {d : Desk} → EndsInTime free n → d ≡ desk_at free →
    Stands n job by free (count_from 1 n) next ready × Late n job by free next → Sits n job by (count_from 1 n)
    (record { desk = d; count = 0; next = next; ready = ready })
started {n} {job} {by} {free} {next} {ready} h e a =
    subst (λ (d : Desk). Sits n job by (count_from 1 n) (record { desk = d; count = 0; next = next; ready = ready })) (sym e)
    (record {
      stands = a.0;
      late = a.1;
      count = omega (arith, length_count 1 n);
      minutes = omega (arith, length_count 1 n);
      lates =
          omega arith;
    })
