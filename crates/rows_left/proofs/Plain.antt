-- Rows of some numbers, of which nothing is known but their jobs: how many they are, the job of each, and that they agree exactly if the
-- jobs do. Assumes nothing.
use Prim.Native.Nat.{ℕ, zero, suc, ◌+◌, ◌≤◌, ◌<◌}
use native.Mathlib.Omega.{arith}
use mathlib.Core.Path.{◌≡◌, sym, ap, ◌∙◌, subst}
use mathlib.Core.List.Memᴰ
use mathlib.Core.List.{List, ◌∷◌, map, Memᴰ}
use mathlib.Core.Logic.{◌↔◌}
use lib.ListN.{length, get_or, length-map}
use lib.Seq.{ext_get_or}
use Rattle.theory.specs.Jobs.{Job}
use Rattle.schedule.specs.Rows.{no_row, row, job_of, job, all_rows}
use Rattle.schedule.specs.Cover.{Agreeing}
use Rattle.schedule.specs.Columns.{at}
use Rattle.schedule.proofs.Numbers.{length_count, count_range, from_mem}
use Rattle.schedule.proofs.Filling.{mapped_at}
use Rattle.running.proofs.Fits.{counted_at}
use Rattle.rows_left.specs.Left.{plain_row, plain_rows}

-- Two jobs agree.
abbrev pub Agree : Job → Job → Type 0
Agree a b = a.due < b.due → a.release + a.length + b.due ≤ b.release + b.length + a.due

module _ (f : ℕ → Job) (left : List ℕ) where
  pub plain_size : length (plain_rows f left) ≡ length left
  plain_size = length-map left (λ (i : ℕ). plain_row (f i))

  plain_row_lem : (k : ℕ) → k < length left → row (plain_rows f left) (suc k) ≡ plain_row (f (get_or left k 0))
  plain_row_lem k h = mapped_at (λ (i : ℕ). plain_row (f i)) left k 0 no_row h

  pub plain_job : (k : ℕ) → k < length left → job (plain_rows f left) (suc k) ≡ f (get_or left k 0)
  plain_job k h = ap job_of (plain_row_lem k h)

  -- The k-th of the numbers, counted from 1.
  abbrev pub left_row : ℕ → ℕ
  left_row = at (0 ∷ left)

  abbrev numbers : List ℕ
  numbers = all_rows (plain_rows f left)

  all_left : map left_row numbers ≡ left
  all_left =
      let size : length (map left_row numbers) ≡ length left =
      length-map numbers left_row ∙ length_count 1 (length (plain_rows f left)) ∙ plain_size in
      ext_get_or 0 (map left_row numbers) left size (λ k h.
      counted_at left_row 0 1 (length (plain_rows f left)) k (omega (arith, size, plain_size)) ∙ shifted k)
    where
      shifted : (k : ℕ) → left_row (1 + k) ≡ at left k
      shifted k = let e : 1 + k ≡ suc k = omega arith in ap left_row e

  pub same_row : (k : ℕ) → 1 ≤ k → k ≤ length left → row (plain_rows f left) k ≡ plain_row (f (left_row k))
  same_row zero h g = let z : ⊥ = omega arith in absurd z
  same_row (suc k) h g = plain_row_lem k (omega arith)

  numbered : (k : ℕ) → Memᴰ k numbers → (1 ≤ k) × (k ≤ length left)
  numbered k m = let r = count_range 1 (length (plain_rows f left)) m in (omega (arith, r), omega (arith, r, plain_size))

  same : (k : ℕ) → Memᴰ k numbers → job (plain_rows f left) k ≡ f (left_row k)
  same k m = let r = numbered k m in ap job_of (same_row k r.0 r.1)

  -- Each of the numbers has its place, and each place its number.
  pub place_of : (i : ℕ) → Memᴰ i left → (k : ℕ) × (1 ≤ k) × (k ≤ length left) × (left_row k ≡ i)
  place_of i m =
      let p = Memᴰ.of_map left_row numbers (subst (Memᴰ i) (sym all_left) m) in
      let r = numbered p.0 p.1 in
      (p.0, r.0, r.1, p.2)

  pub left_at : (k : ℕ) → 1 ≤ k → k ≤ length left → Memᴰ (left_row k) left
  left_at k h g =
      subst (Memᴰ (left_row k)) all_left
      (Memᴰ.map left_row (from_mem k 1 (length (plain_rows f left)) h (omega (arith, plain_size))))

  left_agree : Agreeing (job (plain_rows f left)) numbers → Agreeing f left
  left_agree a i j m n =
      let p = Memᴰ.of_map left_row numbers (subst (Memᴰ i) (sym all_left) m) in
      let q = Memᴰ.of_map left_row numbers (subst (Memᴰ j) (sym all_left) n) in
      let e = same p.0 p.1 ∙ ap f p.2 in
      let g = same q.0 q.1 ∙ ap f q.2 in
      subst (λ (x : Job). Agree x (f j)) e (subst (Agree (job (plain_rows f left) p.0)) g (a p.0 q.0 p.1 q.1))

  plain_agree : Agreeing f left → Agreeing (job (plain_rows f left)) numbers
  plain_agree a k l m n =
      let p = subst (Memᴰ (left_row k)) all_left (Memᴰ.map left_row m) in
      let q = subst (Memᴰ (left_row l)) all_left (Memᴰ.map left_row n) in
      subst (λ (x : Job). Agree x (job (plain_rows f left) l)) (sym (same k m))
      (subst (Agree (f (left_row k))) (sym (same l n)) (a (left_row k) (left_row l) p q))

  pub plain_agrees : Agreeing (job (plain_rows f left)) numbers ↔ Agreeing f left
  plain_agrees = (left_agree, plain_agree)
