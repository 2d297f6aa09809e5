-- A column is tested word by word; the test of a desk says what `IsDesk` does; and the rows that the words hold, by their numbers.
-- Assumes nothing.
use Prim.Native.Nat.{ℕ, zero, suc, ◌+◌, ◌≤◌, ◌<◌}
use native.Mathlib.Omega.{arith}
use native.Mathlib.Numerals.{add-one}
use native.Mathlib.Decide.{dec_le}
use mathlib.Core.Bool.{Bool, true, ◌&&◌, ◌||◌}
use mathlib.Core.Path.{◌≡◌, refl, ap, ◌∙◌, subst}
use mathlib.Core.List.{List, map}
use mathlib.Core.Logic.{◌↔◌, ◌⊎◌, inl, inr}
use lib.Dec.{T, leb, eqb, leb→le, le→leb}
use lib.ListN.{length, take, drop, get_or, length-map}
use lib.Seq.{get_or-take, get_or-drop}
use Rattle.std.proofs.lemmas.List.{length-take}
use borrow.Author.Tests.{eqb-true}
use Rattle.schedule.specs.Limits.{most_rows, latest_minute, longest_length, latest_due, most_pages, most_opening, latest_stand}
use Rattle.schedule.specs.Rows.{count_from}
use Rattle.schedule.specs.Columns.{at}
use Rattle.schedule.proofs.Numbers.{length_count}
use Rattle.schedule.proofs.Tests.{both, parts, or_cases, or_left, or_right, is_true, true_is}
use Rattle.running.specs.Running.{between, no_job, job_in, pages_in}
use Rattle.running.specs.Words.{desk_words, count_in, minute_in, worst_in, opening_in, releases, times, dues, marks, pages, job_at, rows_in}
use Rattle.running.specs.Words.{pages_held, column_fits, rows_fit, head_fits, is_desk, IsDesk, keeps_pages, KeepsPages}
use Rattle.running.specs.Words.{least_raised, most_raised}

is_zero : (n : ℕ) → T (eqb n 0) → n ≡ 0
is_zero n h = eqb-true n 0 (true_is _ h)

zero_is : (n : ℕ) → n ≡ 0 → T (eqb n 0)
zero_is n e = rw e tt

-- A number that lies between two others.
pub lies : (least most x : ℕ) → T (between least most x) → (least ≤ x) × (x ≤ most)
lies least most x t = let p = parts (leb least x) (leb x most) t in (leb→le least x p.0, leb→le x most p.1)

pub between_two : (least most x : ℕ) → (least ≤ x) × (x ≤ most) → T (between least most x)
between_two least most x h = both (leb least x) (leb x most) (le→leb least x h.0) (le→leb x most h.1)

module _ (before least most : ℕ) (ws : List ℕ) where
  pub fits_none : column_fits before least most ws 0 ≡ true
  unfolding column_fits
  fits_none = refl

  pub fits_one : (n : ℕ) → column_fits before least most ws (n + 1) ≡
      (column_fits before least most ws n && between least most (at ws (before + (n + 1))))
  unfolding column_fits
  fits_one n = rw add-one

  -- One word more of a part of a run: the one behind those tested.
  pub fits_more : (m i : ℕ) (fit b : Bool) → i < length (take m (drop (before + 1) ws)) → fit ≡ column_fits before least most ws i →
      b ≡ between least most (at (take m (drop (before + 1) ws)) i) → (fit && b) ≡ column_fits before least most ws (i + 1)
  fits_more m i fit b h e f =
      let few : i < m = omega (arith, length-take m (drop (before + 1) ws)) in
      let place : before + 1 + i ≡ before + (i + 1) = omega arith in
      let word : at (take m (drop (before + 1) ws)) i ≡ at ws (before + (i + 1)) =
      get_or-take m (drop (before + 1) ws) i 0 few ∙ get_or-drop (before + 1) ws i 0 ∙ ap (at ws) place in
      rw (fits_one i, e, f, word) refl

  abbrev Between : ℕ → Type 0
  Between i = (least ≤ at ws (before + i)) × (at ws (before + i) ≤ most)

  fitting : (n : ℕ) → T (column_fits before least most ws n) → (i : ℕ) → 1 ≤ i → i ≤ n → Between i
  unfolding column_fits
  fitting zero t i h g = let z : ⊥ = omega arith in absurd z
  fitting (suc n) t i h g = step (dec_le i n) (fitting n (parts (column_fits before least most ws n) _ t).0 i h)
    where
      step : Dec (i ≤ n) → (i ≤ n → Between i) → Between i
      step (yes l) below = below l
      step (no l) below =
          let last : suc n ≡ i = omega arith in
          subst Between last (lies least most _ (parts (column_fits before least most ws n) _ t).1)

  fits_all : (n : ℕ) → ((i : ℕ) → 1 ≤ i → i ≤ n → Between i) → T (column_fits before least most ws n)
  unfolding column_fits
  fits_all zero h = tt
  fits_all (suc n) h =
      both (column_fits before least most ws n) _ (fits_all n (λ i l g. h i l (omega arith)))
      (between_two least most _ (h (suc n) (omega arith) (omega arith)))

module _ (ws : List ℕ) where
  abbrev n : ℕ
  n = count_in ws

  -- The least and the most time of a row.
  abbrev short : ℕ
  short = opening_in ws + 1

  abbrev long : ℕ
  long = opening_in ws + longest_length

  -- The tests of the rows and of the head.
  rows_say : T (rows_fit ws n) → (i : ℕ) → 1 ≤ i → i ≤ n →
      (at ws (releases + i) ≤ latest_minute) × (short ≤ at ws (times + i)) × (at ws (times + i) ≤ long) ×
      (at ws (dues + i) ≤ latest_due) × (at ws (marks + i) ≤ 1)
  unfolding rows_fit
  rows_say t i h g =
      let a = parts (column_fits releases 0 latest_minute ws n) _ t in
      let b = parts (column_fits times short long ws n) _ a.1 in
      let c = parts (column_fits dues 0 latest_due ws n) _ b.1 in
      let l = fitting times short long ws n b.0 i h g in (
        (fitting releases 0 latest_minute ws n a.0 i h g).1,
        l.0,
        l.1,
        (fitting dues 0 latest_due ws n c.0 i h g).1,
        (fitting marks 0 1 ws n c.1 i h g).1,
      )

  say_rows : IsDesk ws → T (rows_fit ws n)
  unfolding rows_fit
  say_rows d =
      both (column_fits releases 0 latest_minute ws n) _
      (fits_all releases 0 latest_minute ws n (λ i h g. (omega arith, (d.rows i h g).0)))
      (both (column_fits times short long ws n) _
      (fits_all times short long ws n (λ i h g. ((d.rows i h g).1, (d.rows i h g).2)))
      (both (column_fits dues 0 latest_due ws n) _
      (fits_all dues 0 latest_due ws n (λ i h g. (omega arith, (d.rows i h g).3)))
      (fits_all marks 0 1 ws n (λ i h g. (omega arith, (d.rows i h g).4)))))

  worst_says : T (eqb (worst_in ws) 0) ⊎ T (between least_raised most_raised (worst_in ws)) →
      (worst_in ws ≡ 0) ⊎ ((least_raised ≤ worst_in ws) × (worst_in ws ≤ most_raised))
  worst_says (inl h) = inl (is_zero _ h)
  worst_says (inr h) = inr (lies least_raised most_raised _ h)

  says_worst : (worst_in ws ≡ 0) ⊎ ((least_raised ≤ worst_in ws) × (worst_in ws ≤ most_raised)) →
      T (eqb (worst_in ws) 0 || between least_raised most_raised (worst_in ws))
  says_worst (inl h) = or_left (eqb (worst_in ws) 0) _ (zero_is _ h)
  says_worst (inr h) = or_right (eqb (worst_in ws) 0) _ (between_two least_raised most_raised _ h)

  says_desk : is_desk ws ≡ true → IsDesk ws
  unfolding is_desk head_fits
  says_desk e =
      let a = parts (leb desk_words (length ws)) _ (is_true _ e) in
      let b = parts (head_fits ws) (rows_fit ws n) a.1 in
      let c = parts (between 1 most_rows n) _ b.0 in
      let m = parts (leb (minute_in ws) latest_stand) _ c.1 in
      let o = parts (leb (opening_in ws) most_opening) _ m.1 in
      record {
        long = leb→le desk_words (length ws) a.0;
        count = lies 1 most_rows n c.0;
        early = leb→le (minute_in ws) latest_stand m.0;
        opening = leb→le (opening_in ws) most_opening o.0;
        worst = worst_says (or_cases (eqb (worst_in ws) 0) _ o.1);
        rows = rows_say b.1;
      }

  desk_says_so : IsDesk ws → is_desk ws ≡ true
  unfolding is_desk head_fits
  desk_says_so d =
      true_is _
      (both (leb desk_words (length ws)) _ (le→leb desk_words (length ws) d.long)
      (both (head_fits ws) (rows_fit ws n)
      (both (between 1 most_rows n) _ (between_two 1 most_rows n d.count)
      (both (leb (minute_in ws) latest_stand) _ (le→leb (minute_in ws) latest_stand d.early)
      (both (leb (opening_in ws) most_opening) _ (le→leb (opening_in ws) most_opening d.opening) (says_worst d.worst))))
      (say_rows d)))

  -- The test of a desk says what the statement does.
  pub desk_says : (is_desk ws ≡ true) ↔ IsDesk ws
  desk_says = (says_desk, desk_says_so)

  -- So does that of a desk with its pages.
  pub keeps_says : (keeps_pages ws ≡ true) ↔ KeepsPages ws
  unfolding keeps_pages
  keeps_says = (
    λ e. let p = parts (is_desk ws) _ (is_true _ e) in
        record { desk = says_desk (true_is _ p.0); pages = fitting pages 1 most_pages ws n p.1 },
    λ k. true_is _ (both (is_desk ws) _ (is_true _ (desk_says_so k.desk)) (fits_all pages 1 most_pages ws n k.pages)),
  )

-- A head that fits counts no more than the most rows, and its opening is no more than the most.
pub head_says : (ws : List ℕ) → head_fits ws ≡ true → (count_in ws ≤ most_rows) × (opening_in ws ≤ most_opening)
unfolding head_fits
head_says ws e =
    let c = parts (between 1 most_rows (count_in ws)) _ (is_true _ e) in
    let m = parts (leb (minute_in ws) latest_stand) _ c.1 in
    ((lies 1 most_rows (count_in ws) c.0).1, leb→le (opening_in ws) most_opening (parts (leb (opening_in ws) most_opening) _ m.1).0)

-- The rows that the words hold, by their numbers.
pub counted_at : {A : Type 0} (f : ℕ → A) (none : A) (k n i : ℕ) → i < n → get_or (map f (count_from k n)) i none ≡ f (k + i)
unfolding count_from
counted_at f none k zero i h = let z : ⊥ = omega arith in absurd z
counted_at f none k (suc n) zero h = let e : k ≡ k + 0 = omega arith in ap f e
counted_at f none k (suc n) (suc i) h =
    let e : suc k + i ≡ k + suc i = omega arith in
    counted_at f none (suc k) n i (omega arith) ∙ ap f e

pub row_held : (ws : List ℕ) (i : ℕ) → 1 ≤ i → i ≤ count_in ws → job_in (rows_in ws) i ≡ job_at ws i
row_held ws zero h g = let z : ⊥ = omega arith in absurd z
row_held ws (suc i) h g =
    let e : 1 + i ≡ suc i = omega arith in
    counted_at (job_at ws) no_job 1 (count_in ws) i (omega arith) ∙ ap (job_at ws) e

pub rows_length : (ws : List ℕ) → length (rows_in ws) ≡ count_in ws
rows_length ws = length-map (count_from 1 (count_in ws)) (job_at ws) ∙ length_count 1 (count_in ws)

pub pages_held_lem : (ws : List ℕ) (i : ℕ) → 1 ≤ i → i ≤ count_in ws → pages_in (pages_held ws) i ≡ at ws (pages + i)
pages_held_lem ws zero h g = let z : ⊥ = omega arith in absurd z
pages_held_lem ws (suc i) h g =
    let e : 1 + i ≡ suc i = omega arith in
    counted_at (λ k. at ws (pages + k)) 0 1 (count_in ws) i (omega arith) ∙ ap (λ (k : ℕ). at ws (pages + k)) e
