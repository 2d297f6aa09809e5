-- The rows left on a desk as its words hold them: how many they are, which, and that they rise; and how they are noted row by row.
-- Assumes nothing.
use Prim.Native.Nat.{ℕ, zero, suc, ◌+◌, ◌-◌, ◌≤◌, ◌<◌}
use native.Mathlib.Omega.{arith}
use native.Mathlib.Decide.{dec_lt}
use native.Mathlib.Numerals.{add-one}
use mathlib.Core.Bool.{Bool, true, false, cond}
use mathlib.Core.Path.{◌≡◌, sym, ap, ◌∙◌, subst}
use mathlib.Core.List.Memᴰ
use mathlib.Core.List.{List, [], ◌∷◌, ◌++◌, Memᴰ}
use mathlib.Core.Logic.{◌⊎◌, inl, inr}
use lib.Dec.{eqb}
use lib.ListN.{length, get_or, set, length-append, get_or-append}
use lib.Seq.{get_or_at}
use Rattle.schedule.specs.Limits.{most_rows, row_places}
use Rattle.schedule.specs.Columns.{at}
use Rattle.schedule.specs.Filled.{Filled, from}
use Rattle.schedule.proofs.Filling.{filled_next, filled_same}
use Rattle.running.specs.Words.{marks, left_to}

-- Rising numbers from 1 to n.
pub record Rising (n : ℕ) (xs : List ℕ) : Type 0 where
  pub few : length xs ≤ n
  pub range : (k : ℕ) → k < length xs → (1 ≤ get_or xs k 0) × (get_or xs k 0 ≤ n)
  pub rises : (a b : ℕ) → a < b → b < length xs → get_or xs a 0 < get_or xs b 0

rising_none : Rising 0 []
rising_none = record {
  few = omega arith;
  range = λ k h. let z : ⊥ = omega arith in absurd z;
  rises = λ a b h g. let z : ⊥ = omega arith in absurd z;
}

module _ (n : ℕ) (xs : List ℕ) (r : Rising n xs) where
  rising_on : Rising (suc n) xs
  rising_on = record {
    few = omega (arith, r.few);
    range = λ k h. let s = r.range k h in (s.0, omega (arith, s.1));
    rises = r.rises;
  }

  abbrev more : List ℕ
  more = xs ++ (suc n ∷ [])

  grown : length more ≡ length xs + 1
  grown = length-append xs (suc n ∷ [])

  before : (k : ℕ) → k < length xs → get_or more k 0 ≡ get_or xs k 0
  before k h = get_or-append xs (suc n ∷ []) 0 k h

  last : (k : ℕ) → length xs ≡ k → get_or more k 0 ≡ suc n
  last k e = get_or_at xs (suc n) [] 0 k e

  rising_more : Rising (suc n) more
  rising_more = record { few = omega (arith, grown, r.few); range = λ k h. range k h (dec_lt k (length xs)); rises = rises }
    where
      range : (k : ℕ) → k < length more → Dec (k < length xs) → (1 ≤ get_or more k 0) × (get_or more k 0 ≤ suc n)
      range k h (yes l) = omega (arith, before k l, r.range k l)
      range k h (no l) = omega (arith, last k (omega (arith, grown)))

      rises : (a b : ℕ) → a < b → b < length more → get_or more a 0 < get_or more b 0
      rises a b h g = step (dec_lt b (length xs))
        where
          step : Dec (b < length xs) → get_or more a 0 < get_or more b 0
          step (yes l) = omega (arith, before a (omega arith), before b l, r.rises a b h l)
          step (no l) =
              let e : a < length xs = omega (arith, grown) in
              omega (arith, before a e, r.range a e, last b (omega (arith, grown)))

-- The rows left among the first n rise.
pub left_rising : (ws : List ℕ) (n : ℕ) → Rising n (left_to ws n)
unfolding left_to
left_rising ws zero = rising_none
left_rising ws (suc n) = step (eqb (at ws (marks + suc n)) 0) (left_rising ws n)
  where
    step : (b : Bool) → Rising n (left_to ws n) → Rising (suc n) (cond b (left_to ws n ++ (suc n ∷ [])) (left_to ws n))
    step true r = rising_more n (left_to ws n) r
    step false r = rising_on n (left_to ws n) r

-- Each is one of these numbers.
pub left_mem : (ws : List ℕ) (n : ℕ) {i : ℕ} → Memᴰ i (left_to ws n) → (1 ≤ i) × (i ≤ n)
unfolding left_to
left_mem ws zero m = absurd (Memᴰ.not-nil m)
left_mem ws (suc n) {i} m = step (eqb (at ws (marks + suc n)) 0) (λ h. left_mem ws n h) m
  where
    last : (Memᴰ i (left_to ws n) → (1 ≤ i) × (i ≤ n)) → Memᴰ i (left_to ws n) ⊎ Memᴰ i (suc n ∷ []) → (1 ≤ i) × (i ≤ suc n)
    last f (inl h) = omega (arith, f h)
    last f (inr h) = omega (arith, Memᴰ.eq_of_singleton h)

    step : (b : Bool) → (Memᴰ i (left_to ws n) → (1 ≤ i) × (i ≤ n)) →
        Memᴰ i (cond b (left_to ws n ++ (suc n ∷ [])) (left_to ws n)) → (1 ≤ i) × (i ≤ suc n)
    step true f h = last f (Memᴰ.append_cases (left_to ws n) h)
    step false f h = omega (arith, f h)

-- The rows left among the first i, m of them, are noted from place 1 on.
abbrev pub NotedTo : (xs : List ℕ) (i m : ℕ) (rows : List ℕ) → Type 0
NotedTo xs i m rows = (m ≡ length xs) × (m ≤ i) × Filled row_places (from 1) (λ k. get_or xs k 0) m rows

module _ (xs : List ℕ) (i m : ℕ) (rows : List ℕ) (inside : i < most_rows) (noted : NotedTo xs i m rows) where
  abbrev next : List ℕ
  next = xs ++ (suc i ∷ [])

  noted_more : (v : ℕ) → v ≡ suc i → NotedTo next (i + 1) (m + 1) (set rows (m + 1) v)
  noted_more v e =
      let same : (k : ℕ) → k < m → get_or xs k 0 ≡ get_or next k 0 =
      λ k h. sym (get_or-append xs (suc i ∷ []) 0 k (omega (arith, noted.0))) in
      let here : v ≡ get_or next m 0 = e ∙ sym (get_or_at xs (suc i) [] 0 m (sym noted.0)) in
      let filled = filled_same row_places (from 1) _ (λ k. get_or next k 0) m rows same noted.2 in (
        omega (arith, noted.0, length-append xs (suc i ∷ [])),
        omega (arith, noted.1),
        filled_next row_places (from 1) (λ k. get_or next k 0) m rows filled v here (omega (arith, noted.1)) (λ k h g. omega arith),
      )

  noted_by : (b : Bool) (r : ℕ) (new : List ℕ) → r ≡ cond b (m + 1) m → new ≡ cond b (set rows (m + 1) (i + 1)) rows →
      NotedTo (cond b next xs) (i + 1) r new
  noted_by true r new e f = rw (e, f) (noted_more (i + 1) (omega arith))
  noted_by false r new e f = rw (e, f) (noted.0, omega (arith, noted.1), noted.2)

-- One row more is noted if its mark is 0.
pub noted_next : (ws : List ℕ) (i m : ℕ) (rows : List ℕ) → i < most_rows → NotedTo (left_to ws i) i m rows → (r : ℕ) (new : List ℕ) →
    r ≡ cond (eqb (at ws (marks + (i + 1))) 0) (m + 1) m →
    new ≡ cond (eqb (at ws (marks + (i + 1))) 0) (set rows (m + 1) (i + 1)) rows → NotedTo (left_to ws (i + 1)) (i + 1) r new
unfolding left_to
noted_next ws i m rows inside noted r new e f =
    let g : left_to ws (i + 1) ≡ cond (eqb (at ws (marks + (i + 1))) 0) (left_to ws i ++ (suc i ∷ [])) (left_to ws i) = rw add-one in
    subst (λ (xs : List ℕ). NotedTo xs (i + 1) r new) (sym g)
    (noted_by (left_to ws i) i m rows inside noted (eqb (at ws (marks + (i + 1))) 0) r new e f)

-- The rows left before row i, m of them, are noted; and that row too, if its mark is 0.
abbrev pub NotedBefore : (ws : List ℕ) (i m : ℕ) (rows : List ℕ) → Type 0
NotedBefore ws i m rows = NotedTo (left_to ws (i - 1)) (i - 1) m rows

pub noted_row : (ws : List ℕ) (i m : ℕ) (rows : List ℕ) → 1 ≤ i → i ≤ most_rows → NotedBefore ws i m rows → (r : ℕ) (new : List ℕ) →
    r ≡ cond (eqb (at ws (marks + i)) 0) (m + 1) m → new ≡ cond (eqb (at ws (marks + i)) 0) (set rows (m + 1) i) rows →
    NotedBefore ws (i + 1) r new
noted_row ws i m rows first last noted r new e f =
    let same : i ≡ i - 1 + 1 = omega arith in
    let next : i - 1 + 1 ≡ i + 1 - 1 = omega arith in
    subst (λ (k : ℕ). NotedTo (left_to ws k) k r new) next
    (noted_next ws (i - 1) m rows (omega arith) noted r new
    (e ∙ ap (λ (j : ℕ). cond (eqb (at ws (marks + j)) 0) (m + 1) m) same)
    (f ∙ ap (λ (j : ℕ). cond (eqb (at ws (marks + j)) 0) (set rows (m + 1) j) rows) same))

-- All rows are noted once the last is.
pub noted_all : (ws : List ℕ) (n i m : ℕ) (rows : List ℕ) → i ≡ n + 1 → NotedBefore ws i m rows →
    (m ≡ length (left_to ws n)) × Filled row_places (from 1) (λ k. get_or (left_to ws n) k 0) m rows
noted_all ws n i m rows e noted =
    let last : i - 1 ≡ n = omega arith in
    let all = subst (λ (k : ℕ). NotedTo (left_to ws k) k m rows) last noted in
    (all.0, all.2)
