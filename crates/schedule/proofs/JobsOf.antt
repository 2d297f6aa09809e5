-- The rows of a table as jobs of the theory: ends, orders, and bounds kept. Here alone signed lateness meets the theory: the bound y is
-- its bound `up y` at the bias `down y`. Assumes nothing.
use Prim.Native.Nat.{ℕ, zero, suc}
use native.Mathlib.Omega.{arith}
use mathlib.Core.Path.{◌≡◌, refl, sym, ap, ◌∙◌, subst}
use mathlib.Core.List.Memᴰ
use mathlib.Core.List.{List, [], ◌∷◌, map, Memᴰ}
use mathlib.Core.Bool.{Bool, true, false, cond}
use mathlib.Core.Logic.{◌⊎◌, inl, inr}
use lib.Dec.{T, eqb, eqb→eq, eqb_refl}
use lib.ListN.{length}
use lib.IntN.{ℤ}
use lib.Signed.{le_z}
use Rattle.theory.specs.Jobs.{Job, finish, Keeps, In, first, later, Ins, here, there, Order, done, next}
use Rattle.schedule.specs.Rows.{without}
use Rattle.schedule.specs.Desk.{lateness, latenesses, at_most, keeps, end_of}
use Rattle.schedule.specs.Plans.{orders_of}
use Rattle.schedule.proofs.Orders.{orders_cases, length_without}
use Rattle.schedule.proofs.Signed.{up, down, le_z→, →le_z, sub_level}
use Rattle.schedule.proofs.Tests.{both, parts}

module _ (job : ℕ → Job) where
  -- The jobs of some rows.
  abbrev pub jobs : List ℕ → List Job
  jobs order = map job order

  pub jobs_end : (t : ℕ) (order : List ℕ) → Rattle.theory.specs.Jobs.end_of t (jobs order) ≡ end_of job t order
  unfolding end_of
  jobs_end t [] = refl
  jobs_end t (i ∷ is) = jobs_end (finish (job i) t) is

  -- What holds of the job of each number of a list.
  pub on_jobs : (P : Job → Type 0) (left : List ℕ) → ((i : ℕ) → Memᴰ i left → P (job i)) → (j : Job) → In j (jobs left) → P j
  on_jobs P [] h j m = elim m [ ]
  on_jobs P (i ∷ is) h j first = h i (Memᴰ.head refl)
  on_jobs P (i ∷ is) h j (later m) = on_jobs P is (λ k n. h k (Memᴰ.tail n)) j m

  -- A row of the list, taken out.
  pub jobs_without : (i : ℕ) (left : List ℕ) → Memᴰ i left → Ins (job i) (jobs (without i left)) (jobs left)
  unfolding without
  jobs_without i [] m = absurd (Memᴰ.not-nil m)
  jobs_without i (j ∷ js) m = go (eqb i j) refl (Memᴰ.cases_cons m) (jobs_without i js)
    where
      go : (b : Bool) → eqb i j ≡ b → (i ≡ j) ⊎ Memᴰ i js → (Memᴰ i js → Ins (job i) (jobs (without i js)) (jobs js)) →
          Ins (job i) (jobs (cond b js (j ∷ without i js))) (job j ∷ jobs js)
      go true e c f = let h : i ≡ j = eqb→eq i j (subst T (sym e) tt) in subst (λ (k : ℕ). Ins (job i) (jobs js) (job k ∷ jobs js)) h here
      go false e (inl h) f = absurd (subst T (ap (eqb i) h ∙ e) (eqb_refl i))
      go false e (inr n) f = there (f n)

  -- The orders of a list of rows are the orders of its jobs,
  pub jobs_order : (n : ℕ) (left o : List ℕ) → length left ≡ n → Memᴰ o (orders_of n left) → Order (jobs o) (jobs left)
  unfolding orders_of
  jobs_order zero [] o l m = go (Memᴰ.cases_cons m)
    where
      go : (o ≡ []) ⊎ Memᴰ o [] → Order (jobs o) []
      go (inl e) = rw e done
      go (inr k) = absurd (Memᴰ.not-nil k)
  jobs_order zero (j ∷ js) o l m = let z : ⊥ = omega arith in absurd z
  jobs_order (suc n) left o l m =
      let c = orders_cases n left o m in
      let h : length left ≡ suc (length (without c.0 left)) = length_without c.0 left c.2 in
      let k : Order (jobs c.1) (jobs (without c.0 left)) = jobs_order n (without c.0 left) c.1 (omega arith) c.3 in
      rw c.4 (next (jobs_without c.0 left c.2) k)

  -- An order keeps the signed bound where its jobs keep the theory's.
  pub keeps_kept : (y : ℤ) (t : ℕ) (order : List ℕ) → T (keeps job y t order) → Keeps (down y) (up y) t (jobs order)
  unfolding at_most latenesses
  keeps_kept y t [] h = tt
  keeps_kept y t (i ∷ is) h =
      let p = parts (le_z (lateness job t i) y) (keeps job y (finish (job i) t) is) h in (
        omega (arith, le_z→ (lateness job t i) y p.0, sub_level (finish (job i) t) (job i).due),
        keeps_kept y (finish (job i) t) is
            p.1,
      )

  pub kept_keeps : (y : ℤ) (t : ℕ) (order : List ℕ) → Keeps (down y) (up y) t (jobs order) → T (keeps job y t order)
  unfolding at_most latenesses
  kept_keeps y t [] h = tt
  kept_keeps y t (i ∷ is) h =
      both (le_z (lateness job t i) y) (keeps job y (finish (job i) t) is)
      (→le_z (lateness job t i) y (omega (arith, h.0, sub_level (finish (job i) t) (job i).due)))
      (kept_keeps y (finish (job i) t) is h.1)
