-- The picks of a desk in planning: they are rows left over, and with them the test that the desk is decided is the schedule's.
-- Assumes nothing.
use Prim.Native.Nat.{ℕ, suc, ◌≤◌, ◌<◌}
use native.Mathlib.Omega.{arith}
use mathlib.Core.Bool.{Bool, true, false, ◌||◌}
use mathlib.Core.Path.{◌≡◌, refl, sym, ap, ◌∙◌, subst}
use mathlib.Core.List.{List, [], ◌∷◌, Memᴰ}
use lib.Dec.{leb, eqb}
use lib.ListN.{length}
use borrow.Author.Tests.{eqb-true, eqb-false, ne_eqb, le-leb, lt-leb}
use Rattle.theory.specs.Jobs.{Job}
use Rattle.schedule.specs.Limits.{most_rows}
use Rattle.schedule.specs.Rows.{without}
use Rattle.schedule.specs.Picks.{first_pick, others, second_pick, decided}
use Rattle.schedule.proofs.Tests.{false_is_true, neither}
use Rattle.schedule.proofs.PickLaws.{least_mem}
use Rattle.schedule.proofs.Orders.{length_without, mem_without}
use Rattle.picks.specs.declared.Standing.{Standing}
use Rattle.picks.specs.Standing.{Tables, Sits}

module _ (job : ℕ → Job) (t : ℕ) where
  -- The pick is one of the rows.
  pub pick_mem : (j : ℕ) (js : List ℕ) → Memᴰ (first_pick job t (j ∷ js)) (j ∷ js)
  unfolding first_pick
  pick_mem j js = least_mem job t j js

  pick_some : (i : ℕ) (js : List ℕ) → i ≡ first_pick job t js → (i ≡ 0 → ⊥) → Memᴰ i js
  pick_some i [] e n = absurd (n (unfold first_pick in e))
  pick_some i (j ∷ js) e n = subst (λ (k : ℕ). Memᴰ k (j ∷ js)) (sym e) (pick_mem j js)

  -- There is no second pick exactly where one row is left.
  none_other : (m : ℕ) (js : List ℕ) → ((k : ℕ) → Memᴰ k js → 1 ≤ k) → m ≡ suc (length js) → eqb (first_pick job t js) 0 ≡ leb m 1
  none_other m [] p e = unfold first_pick in sym (le-leb m 1 (omega arith))
  none_other m (j ∷ js) p e =
      let h : 1 ≤ first_pick job t (j ∷ js) = p (first_pick job t (j ∷ js)) (pick_mem j js) in
      ne_eqb (first_pick job t (j ∷ js)) 0 (λ z. omega arith) ∙ sym (lt-leb m 1 (omega arith))

  decided_is : (js : List ℕ) (i : ℕ) → Memᴰ i js → ((k : ℕ) → Memᴰ k js → 1 ≤ k) →
      let first = first_pick job t js in
      let second = second_pick job t js in
      (eqb second 0 || leb (job first).due (job second).due) ≡ decided job t js
  unfolding decided second_pick others
  decided_is [] k m p = absurd (mathlib.Core.List.Memᴰ.not-nil m)
  decided_is (i ∷ is) k m p =
      let f = first_pick job t (i ∷ is) in
      ap (λ (b : Bool). b || leb (job f).due (job (second_pick job t (i ∷ is))).due)
      (none_other (length (i ∷ is)) (without f (i ∷ is)) (λ k m. p k (mem_without f (i ∷ is) m))
      (length_without f (i ∷ is) (pick_mem i is)))

module _ (n : ℕ) (job : ℕ → Job) (by : ℕ → ℕ) (tables : Tables n job by) (rest : List ℕ) (s : Standing) (sits : Sits n job by rest s) where
  abbrev now : ℕ
  now = s.desk.minute

  -- A row that is left over.
  pub row_high : (i : ℕ) → Memᴰ i rest → (1 ≤ i) × (i ≤ most_rows)
  row_high i m = ((sits.stands.rows i m).0, omega (arith, (sits.stands.rows i m).1, tables.few))

  pub room : (i : ℕ) → Memᴰ i rest → s.count < most_rows
  room i m = omega (arith, length_without i rest m, sits.count, tables.few)

  no_row : (js : List ℕ) → js ≡ rest → first_pick job now js ≡ 0 → js ≡ []
  no_row [] e z = refl
  no_row (j ∷ js) e z =
      let m : Memᴰ (first_pick job now (j ∷ js)) rest = subst (λ (l : List ℕ). Memᴰ (first_pick job now (j ∷ js)) l) e
      (pick_mem job now j js) in
      let b : ⊥ = omega (arith, (row_high (first_pick job now (j ∷ js)) m).0) in
      absurd b

  -- The first pick i, and the second pick j.
  module _ (i : ℕ) (first : i ≡ first_pick job now rest) where
    pub none_left : i ≡ 0 → rest ≡ []
    none_left z = no_row rest refl (sym first ∙ z)

    pub first_mem : (i ≡ 0 → ⊥) → Memᴰ i rest
    first_mem z = pick_some job now i rest first z

    pub first_within_lem : i ≤ most_rows
    first_within_lem = go (eqb i 0) refl
      where
        go : (c : Bool) → eqb i 0 ≡ c → i ≤ most_rows
        go true e = omega (arith, eqb-true i 0 e)
        go false e = (row_high i (first_mem (eqb-false i 0 e))).1

  module _ (j : ℕ) (second : j ≡ second_pick job now rest) where
    pub second_mem : (j ≡ 0 → ⊥) → Memᴰ j rest
    unfolding second_pick others
    second_mem z = mem_without (first_pick job now rest) rest (pick_some job now j (without (first_pick job now rest) rest) second z)

    pub second_within : j ≤ most_rows
    second_within = go (eqb j 0) refl
      where
        go : (c : Bool) → eqb j 0 ≡ c → j ≤ most_rows
        go true e = omega (arith, eqb-true j 0 e)
        go false e = (row_high j (second_mem (eqb-false j 0 e))).1

  module _ (i j : ℕ) (first : i ≡ first_pick job now rest) (second : j ≡ second_pick job now rest) where
    -- What the code's test says.
    pub deciding : (d : Bool) → d ≡ (eqb j 0 || leb (job i).due (job j).due) → (i ≡ 0 → ⊥) → d ≡ decided job now rest
    deciding d says z =
        says ∙ ((λ x. eqb (second x) 0 || leb (job (first x)).due (job (second x)).due) ∙
        decided_is job now rest i (first_mem i first z) (λ k o. (row_high k o).0))

    -- Where the desk is not decided there are two picks.
    module _ (torn : decided job now rest ≡ false) where
      pub torn_first : i ≡ 0 → ⊥
      unfolding decided
      torn_first z = false_is_true (sym torn ∙ ap (decided job now) (none_left i first z))

      pub torn_second : j ≡ 0 → ⊥
      torn_second z =
          eqb-false j 0
          (neither (eqb j 0) (leb (job i).due (job j).due)
          (deciding (eqb j 0 || leb (job i).due (job j).due) refl torn_first ∙ torn)).0 z
