-- Picks: which of two rows is ahead, and that the first pick is ahead of every row left over. The steps of a run.
-- Assumes nothing.
use Prim.Native.Nat.{ℕ, suc, ◌≤◌, ◌<◌, compare, Ordering}
use native.Mathlib.Omega.{arith}
use mathlib.Core.Bool.{Bool, true, false, not, cond}
use mathlib.Core.Path.{◌≡◌, refl, sym, subst}
use mathlib.Core.List.Memᴰ
use mathlib.Core.List.{List, [], ◌∷◌, Memᴰ}
use mathlib.Core.Logic.{◌⊎◌, inl, inr}
use lib.Dec.{T, ltb→lt, nltb→le}
use Rattle.theory.specs.Jobs.{Job, ready, finish}
use Rattle.schedule.specs.Picks.{ahead, earliest_end, outranks, before, least_of, first_pick, decided, others, run_for}
use Rattle.schedule.proofs.Tests.{Compared, compared}

-- A comparison with what follows it: P where it says yes, Q where it says no.
pub ahead_says : {P Q : Type 0} (a b : ℕ) (next : Bool) → (a < b → P) → (b < a → Q) → (a ≡ b → (T next → P) × (T (not next) → Q)) →
    (T (ahead (compare a b) next) → P) × (T (not (ahead (compare a b) next)) → Q)
ahead_says {P} {Q} a b next less more same = go (compare a b) (compared a b)
  where
    go : (o : Ordering) → Compared a b o → (T (ahead o next) → P) × (T (not (ahead o next)) → Q)
    go Ordering.lt c = (λ h. less c, λ h. absurd h)
    go Ordering.eq c = same c
    go Ordering.gt c = (λ h. absurd h, λ h. more c)

module _ (job : ℕ → Job) where
  -- One step of a run.
  pub run_step : (n t i : ℕ) (is : List ℕ) → decided job t (i ∷ is) ≡ true →
      run_for job (suc n) t (i ∷ is) ≡ first_pick job t (i ∷ is) ∷ run_for job n (finish (job (first_pick job t (i ∷ is))) t)
      (others job t (i ∷ is))
  unfolding run_for
  run_step n t i is h = rw (h, run_for)

  pub run_stop : (n t i : ℕ) (is : List ℕ) → decided job t (i ∷ is) ≡ false → run_for job (suc n) t (i ∷ is) ≡ []
  unfolding run_for
  run_stop n t i is h = rw (h, run_for)

  -- The pick is one of the rows left over.
  pub least_mem : (t i : ℕ) (js : List ℕ) → Memᴰ (least_of job t i js) (i ∷ js)
  unfolding least_of
  least_mem t i [] = Memᴰ.head refl
  least_mem t i (j ∷ js) = go (before job t j i) (least_mem t j js) (least_mem t i js)
    where
      weaken : {a b c : ℕ} {l : List ℕ} → Memᴰ a (b ∷ l) → Memᴰ a (b ∷ c ∷ l)
      weaken (Memᴰ.head e) = Memᴰ.head e
      weaken (Memᴰ.tail m) = Memᴰ.tail (Memᴰ.tail m)

      go : (b : Bool) → Memᴰ (least_of job t j js) (j ∷ js) → Memᴰ (least_of job t i js) (i ∷ js) → Memᴰ
          (least_of job t (cond b j i) js) (i ∷ j ∷ js)
      go true m k = Memᴰ.tail m
      go false m k = weaken k

  -- Row i is picked before row j, or is j.
  pub record Ahead (t i j : ℕ) : Type 0 where
    pub by_ready : ready (job i) t ≤ ready (job j) t
    pub by_due : ready (job j) t ≤ ready (job i) t → (job i).due ≤ (job j).due
    pub by_end_lem : ready (job j) t ≤ ready (job i) t → (job j).due ≤ (job i).due → earliest_end (job i) ≤ earliest_end (job j)
    pub by_row : ready (job j) t ≤ ready (job i) t → (job j).due ≤ (job i).due → earliest_end (job j) ≤ earliest_end (job i) → i ≤ j

  -- Ahead by one comparison, the ones before it being equal.
  ready_ahead : {t i j : ℕ} → ready (job i) t < ready (job j) t → Ahead t i j
  ready_ahead l = record { by_ready = omega arith; by_due = λ h. omega arith; by_end_lem = λ h g. omega arith; by_row = λ h g f. omega arith }

  module _ {t i j : ℕ} (r : ready (job i) t ≡ ready (job j) t) where
    due_ahead : (job i).due < (job j).due → Ahead t i j
    due_ahead l = record { by_ready = omega arith; by_due = λ h. omega arith; by_end_lem = λ h g. omega arith; by_row = λ h g f. omega arith }

    module _ (d : (job i).due ≡ (job j).due) where
      end_ahead : earliest_end (job i) < earliest_end (job j) → Ahead t i j
      end_ahead l = record { by_ready = omega arith; by_due = λ h. omega arith; by_end_lem = λ h g. omega arith; by_row = λ h g f. omega arith }

      row_ahead : earliest_end (job i) ≡ earliest_end (job j) → i ≤ j → Ahead t i j
      row_ahead e l = record {
        by_ready = omega arith;
        by_due = λ h. omega arith;
        by_end_lem = λ h g. omega arith;
        by_row =
            λ h g f. omega arith;
      }

  pub ahead_refl : (t i : ℕ) → Ahead t i i
  ahead_refl t i = row_ahead refl refl refl (omega arith)

  pub ahead_trans : {t i j k : ℕ} → Ahead t i j → Ahead t j k → Ahead t i k
  ahead_trans {t} {i} {j} {k} a b = record {
    by_ready = omega (arith, a.by_ready, b.by_ready);
    by_due = λ h. omega (arith, a.by_due (readies h).0, b.by_due (readies h).1);
    by_end_lem = λ h g. omega (arith, a.by_end_lem (readies h).0 (dues h g).0, b.by_end_lem (readies h).1 (dues h g).1);
    by_row = λ h g f. omega (
      arith,
      a.by_row (readies h).0 (dues h g).0 (ends h g f).0,
      b.by_row (readies h).1 (dues h g).1
          (ends h g f).1,
    );
  }
    where
      -- Where i and k are equal, j is equal to both.
      readies : ready (job k) t ≤ ready (job i) t → (ready (job j) t ≤ ready (job i) t) × (ready (job k) t ≤ ready (job j) t)
      readies h = (omega (arith, b.by_ready), omega (arith, a.by_ready))

      dues : ready (job k) t ≤ ready (job i) t → (job k).due ≤ (job i).due → ((job j).due ≤ (job i).due) × ((job k).due ≤ (job j).due)
      dues h g = (omega (arith, b.by_due (readies h).1), omega (arith, a.by_due (readies h).0))

      ends : ready (job k) t ≤ ready (job i) t → (job k).due ≤ (job i).due → earliest_end (job k) ≤ earliest_end (job i) →
          (earliest_end (job j) ≤ earliest_end (job i)) × (earliest_end (job k) ≤ earliest_end (job j))
      ends h g f = (omega (arith, b.by_end_lem (readies h).1 (dues h g).1), omega (arith, a.by_end_lem (readies h).0 (dues h g).0))

  -- Two rows, each ahead of the other, are one.
  pub ahead_same : {t i j : ℕ} → Ahead t i j → Ahead t j i → i ≡ j
  ahead_same {t} {i} {j} a b =
      let dues : (job i).due ≤ (job j).due = a.by_due b.by_ready in
      let dues' : (job j).due ≤ (job i).due = b.by_due a.by_ready in
      let ends : earliest_end (job i) ≤ earliest_end (job j) = a.by_end_lem b.by_ready dues' in
      let ends' : earliest_end (job j) ≤ earliest_end (job i) = b.by_end_lem a.by_ready dues in
      omega (arith, a.by_row b.by_ready dues' ends', b.by_row a.by_ready dues ends)

  -- The test says which of two rows is ahead.
  module _ (t i j : ℕ) where
    tested : (T (before job t i j) → Ahead t i j) × (T (not (before job t i j)) → Ahead t j i)
    unfolding before outranks
    tested =
        ahead_says (ready (job i) t) (ready (job j) t) _ ready_ahead ready_ahead (λ r.
        ahead_says (job i).due (job j).due _ (due_ahead r) (due_ahead (sym r)) (λ d.
        ahead_says (earliest_end (job i)) (earliest_end (job j)) _ (end_ahead r d) (end_ahead (sym r) (sym d)) (λ e.
        (λ h. let l : i < j = ltb→lt i j h in row_ahead r d e (omega arith), λ h. row_ahead (sym r) (sym d) (sym e) (nltb→le i j h)))))

    pub before_ahead : T (before job t i j) → Ahead t i j
    before_ahead = tested.0

    pub not_before_ahead : T (not (before job t i j)) → Ahead t j i
    not_before_ahead = tested.1

  -- The pick is ahead of every row left over.
  same_ahead : {t i k : ℕ} → k ≡ i → Ahead t i k
  same_ahead {t} {i} e = subst (λ k. Ahead t i k) (sym e) (ahead_refl t i)

  pub least_ahead : (t i : ℕ) (js : List ℕ) {k : ℕ} → Memᴰ k (i ∷ js) → Ahead t (least_of job t i js) k
  unfolding least_of
  least_ahead t i [] m = same_ahead (Memᴰ.eq_of_singleton m)
  least_ahead t i (j ∷ js) {k} m =
      go (before job t j i) (before_ahead t j i) (not_before_ahead t j i) (λ k' m'. least_ahead t j js {k = k'} m')
      (λ k' m'. least_ahead t i js {k = k'} m')
      (Memᴰ.cases_cons m)
    where
      go : (b : Bool) → (T b → Ahead t j i) → (T (not b) → Ahead t i j) →
          ((k : ℕ) → Memᴰ k (j ∷ js) → Ahead t (least_of job t j js) k) →
          ((k : ℕ) → Memᴰ k (i ∷ js) → Ahead t (least_of job t i js) k) →
          (k ≡ i) ⊎ Memᴰ k (j ∷ js) → Ahead t (least_of job t (cond b j i) js) k
      go true first other lj li (inl e) = ahead_trans (lj j (Memᴰ.head refl)) (ahead_trans (first tt) (same_ahead e))
      go true first other lj li (inr m) = lj k m
      go false first other lj li (inl e) = li k (Memᴰ.head e)
      go false first other lj li (inr m) = later (Memᴰ.cases_cons m)
        where
          later : (k ≡ j) ⊎ Memᴰ k js → Ahead t (least_of job t i js) k
          later (inl e) = ahead_trans (li i (Memᴰ.head refl)) (ahead_trans (other tt) (same_ahead e))
          later (inr m') = li k (Memᴰ.tail m')
