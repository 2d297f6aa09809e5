-- A book's table and plans stand in the definition: the line of each plan. And signed words.
-- Assumes nothing.
use Prim.Native.Nat.{ℕ, zero, suc, ◌+◌, ◌*◌, ◌≤◌, ◌<◌}
use mathlib.Core.Path.{◌≡◌, refl, ap, sym, ◌∙◌}
use mathlib.Core.List.{List, [], ◌∷◌, ◌++◌, append-nil, map}
use mathlib.Core.Option.{some}
use native.Mathlib.Omega.{arith}
use native.Mathlib.Decide.{dec_lt}
use mir.Syntax.{w32}
use mir.Val.{to_z, of_z}
use borrow.Author.Tests.{lt-ltb, le-ltb}
use lib.IntN.{ℤ, negsuc}
use Rattle.std.proofs.lemmas.Int.{of_z-to_z}
use lib.ListN.{length, take, get_or, replicate, length-append, length-map, length-replicate}
use lib.Seq.{take-append_seam, drop-length}
use Rattle.schedule.specs.Limits.{most_rows}
use Rattle.schedule.specs.Rows.{Day, row}
use Rattle.schedule.specs.Desk.{Pair}
use Rattle.book.specs.declared.Table.{Table}
use Rattle.schedule.specs.declared.Profile.TheVariants.{Ordering}
use Rattle.book.specs.Rows.{accepted}
use Rattle.book.specs.Tables.{table_rows}
use Rattle.readers.specs.Reads.{read_by}
use Rattle.readers.proofs.Accepted.{accepted_day}
use Rattle.results.specs.Results.{written, signed, plans_in}
use Rattle.outcomes.specs.Outcomes.{OrderAnswer}
use Rattle.outcomes.specs.Planning.{Outcome, nth, planning_of}
use Rattle.outcomes.proofs.OutcomeLaws.{order_some}
use Rattle.calls.specs.Calls.{bound_call}
use Rattle.calls.specs.Lines.{Line, listing, numbers_of, line_of, printed}
use Rattle.calls.proofs.CallLaws.{bound_of}
use Rattle.promises.proofs.Listed.{nth_mem}
use Rattle.promises.proofs.Promise.{day_sound}
use Rattle.sheet.specs.Printing.{slate_terms}
use Rattle.schedule.specs.Profiles.{plans_by}
use Rattle.schedule.proofs.Numbers.{length_count}
use Rattle.schedule.proofs.Orders.{perm_count}
use Rattle.lines.specs.LineBytes.{rows_line}
use Rattle.sheet.specs.Shown.{plan_lines, bytes_of}
use Rattle.sheet.specs.Parts.{listed_lines, lines_of, line_for, Listed}
use Rattle.sheet.proofs.Naming.{Numbers}

-- The number that a word in two's complement stands for, as the machine holds it.
pub word_signed : (w : ℕ) → to_z w32 w ≡ signed w
unfolding signed
word_signed w = step (dec_lt w 2147483648)
  where
    step : Dec (w < 2147483648) → to_z w32 w ≡ signed w
    step (yes h) = rw (lt-ltb w 2147483648 h) refl
    step (no h) = rw (le-ltb w 2147483648 (omega arith)) (ap negsuc (omega arith))

pub signed_word : (w : ℕ) → w < 4294967296 → (z : ℤ) → z ≡ signed w → to_z w32 (of_z w32 z) ≡ signed w
signed_word w b z e = ap (λ (y : ℤ). to_z w32 (of_z w32 y)) (e ∙ sym (word_signed w)) ∙ (ap (to_z w32) (of_z-to_z w32 w b) ∙ word_signed w)

-- Plan k of those that stand in a buffer.
abbrev pub pair_in : List ℕ → ℕ → Pair
pair_in ws k = record { end = get_or ws (2 * k) 0; late = signed (get_or ws (2 * k + 1) 0) }

plan_in : (n k : ℕ) (ws : List ℕ) → k < n → 2 * n ≤ length ws → nth (plans_in n ws) (suc k) ≡ some (pair_in ws k)
unfolding plans_in nth
plan_in zero k ws h l = let z : ⊥ = omega arith in absurd z
plan_in (suc n) k [] h l = let z : ⊥ = omega arith in absurd z
plan_in (suc n) k (e ∷ []) h l = let z : ⊥ = omega arith in absurd z
plan_in (suc n) zero (e ∷ w ∷ ws) h l = refl
plan_in (suc n) (suc k) (e ∷ w ∷ ws) h l =
    let a : 2 * suc k ≡ suc (suc (2 * k)) = omega arith in
    let b : 2 * suc k + 1 ≡ suc (suc (2 * k + 1)) = omega arith in
    rw (b, a) (plan_in n k ws (omega arith) (omega arith))

nth_map : (f : Pair → Line) (ps : List Pair) (k : ℕ) (p : Pair) → nth ps k ≡ some p → nth (map f ps) k ≡ some (f p)
unfolding nth
nth_map f [] zero p e = let z : ◌≡◌ {A = ℕ} 0 1 = cc in absurd (omega arith)
nth_map f [] (suc k) p e = let z : ◌≡◌ {A = ℕ} 0 1 = cc in absurd (omega arith)
nth_map f (q ∷ ps) zero p e = let z : ◌≡◌ {A = ℕ} 0 1 = cc in absurd (omega arith)
nth_map f (q ∷ ps) (suc zero) p e = ap some (ap f (cc))
nth_map f (q ∷ ps) (suc (suc k)) p e = nth_map f ps (suc k) p e

written_whole : (order b : List ℕ) → length order ≡ length b → written order b ≡ order
unfolding written
written_whole order b e = rw (e, drop-length b) (append-nil order)

-- The day that a table holds, its plans, and their lines.
abbrev pub day_in : Table → Day
day_in t = record { free = t.free; rows = table_rows t }

abbrev pub plans_of : Table → List Pair
plans_of t = (planning_of Ordering 0 (day_in t)).plans

-- The book is accepted, the table has its rows, and the buffer its plans.
pub record Heard (book : List ℕ) (t : Table) (count : ℕ) (plans : List ℕ) : Type 0 where
  pub read : read_by slate_terms book ≡ accepted (day_in t)
  pub few : t.count ≤ most_rows
  pub fits : count ≤ most_rows
  pub rows : length (table_rows t) ≡ t.count
  pub size : length plans ≡ 512
  pub counted : length (plans_of t) ≡ count
  pub listed : plans_in count plans ≡ plans_of t

module _ (book : List ℕ) (t : Table) (count : ℕ) (plans : List ℕ) (h : Heard book t count plans) where
  pub printed_is : printed slate_terms book ≡ listing t.count (map (line_of slate_terms (day_in t)) (plans_of t))
  unfolding printed
  printed_is = rw (printed, h.read, h.rows) refl

  lines_are : lines_of book ≡ map (line_of slate_terms (day_in t)) (plans_of t)
  lines_are = ap listed_lines printed_is

  lines_counted : length (lines_of book) ≡ count
  lines_counted = ap length lines_are ∙ (length-map (plans_of t) (line_of slate_terms (day_in t)) ∙ h.counted)

  -- The lines that are shown.
  pub listing_shown : bytes_of (printed slate_terms book) ≡ rows_line t.count count ++ plan_lines 1 (lines_of book)
  unfolding bytes_of
  listing_shown = rw (lines_are, ← lines_counted, lines_are, printed_is) refl

  -- The plan stands in the list.
  plan_at : (k : ℕ) → k < count → nth (plans_of t) (suc k) ≡ some (pair_in plans k)
  plan_at k l = ap (λ (ps : List Pair). nth ps (suc k)) (sym h.listed) ∙ plan_in count k plans l (omega (arith, h.size, h.fits))

  there : (k : ℕ) → k < count →
      (order : List ℕ) × ((planning_of Ordering 0 (day_in t)).orders (pair_in plans k).late ≡ some order) × (length order ≡ t.count)
  unfolding plans_by
  there k l =
      let s = day_sound (accepted_day slate_terms book (day_in t) h.read) in
      let u = s.promise.attains (pair_in plans k) (nth_mem (plans_of t) (suc k) (pair_in plans k) (plan_at k l)) in
      (u.0, u.1, (perm_count u.2.0).0 ∙ (length_count 1 (length (table_rows t)) ∙ h.rows))

  line_at : (k : ℕ) → k < count → nth (lines_of book) (suc k) ≡ some (line_of slate_terms (day_in t) (pair_in plans k))
  line_at k l =
      ap (λ (ls : List Line). nth ls (suc k)) lines_are ∙
      nth_map (line_of slate_terms (day_in t)) (plans_of t) (suc k) (pair_in plans k) (plan_at k l)

  module _ (numbers : List ℕ) (n : Numbers numbers (table_rows t)) where
    -- The line of plan k + 1, from the order that the call for its bound writes, with the order numbers in the places of the rows.
    line_stands : (k : ℕ) → k < count →
        nth (lines_of book) (suc k) ≡ some (line_for book numbers t.count (get_or plans (2 * k) 0) (get_or plans (2 * k + 1) 0))
    unfolding line_of numbers_of
    line_stands k l =
        let o = there k l in
        let y = (pair_in plans k).late in
        let b : List ℕ = replicate t.count 0 in
        let f : length b ≡ t.count = length-replicate {A = ℕ} t.count 0 in
        let held : (bound_call slate_terms book y b).buffer ≡ o.0 =
        ap (λ (x : Outcome OrderAnswer). x.buffer)
        (bound_of slate_terms book (day_in t) h.read y b ∙
        order_some (planning_of Ordering 0 (day_in t)) y b (omega (arith, f, h.rows, length_count 1 (length (table_rows t)))) o.0 o.1) ∙
        written_whole o.0 b (o.2 ∙ sym f) in
        let named : map (λ i. (row (table_rows t) i).number) o.0 ≡ map (λ i. get_or numbers i 0) (bound_call slate_terms book y b).buffer =
        sym (ap (map (λ i. get_or numbers i 0)) held ∙ ap (λ (g : ℕ → ℕ). map g o.0) (λ j i. n.1 i j)) in
        line_at k l ∙
        ap (λ (ns : List ℕ). some (record { end = get_or plans (2 * k) 0; late = signed (get_or plans (2 * k + 1) 0); numbers = ns }))
        (ap (numbers_of (table_rows t)) o.1 ∙ named)

    pub all_listed : Listed book numbers t.count count plans
    all_listed =
        record { few = h.few; fits = h.fits; places = n.0; size = h.size; counted = lines_counted; each = line_stands }

-- Room for an order: its first n words.
pub front_blank : (n m : ℕ) → n ≤ m → take n (replicate {A = ℕ} m 0) ≡ replicate n 0
front_blank zero m h = refl
front_blank (suc n) zero h = let z : ⊥ = omega arith in absurd z
front_blank (suc n) (suc m) h = ap (λ (ws : List ℕ). 0 ∷ ws) (front_blank n m (omega arith))

-- A buffer whose first n words were lent, and come back as others.
module _ (n : ℕ) (shown rest : List ℕ) (e : length shown ≡ n) where
  pub lent_front : take n (shown ++ rest) ≡ shown
  lent_front = rw (← e) (take-append_seam shown rest)

  pub lent_room : n ≤ length (shown ++ rest)
  lent_room = omega (arith, length-append shown rest)

  pub lent_count : n ≡ length (take n (shown ++ rest))
  lent_count = sym (ap length lent_front ∙ e)
