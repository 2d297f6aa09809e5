-- The table of refusals: under which condition a call is refused, number by number, with the place. 1 to 7 are in the grammar (`Wrong`,
-- `FirstWrong`); here are the others, and the sequence: opening, words, then 8 or 13, then 10, 11, 9, 12. The proofs are in
-- proofs/Refused.antt.
-- Rests on: Vocabulary, the grammar of books.
use Rattle.std.specs.Prelude.{ℕ, min, ◌*◌, ◌≤◌, ◌<◌, ◌≡◌, List, ◌⊎◌, length, get_or, ℤ, ◌≤ℤ◌}
use Rattle.schedule.specs.Limits.{most_opening}
use Rattle.schedule.specs.declared.Row.{Row}
use Rattle.schedule.specs.declared.Profile.{Profile}
use Rattle.schedule.specs.declared.Profile.TheVariants.{Ordering, FirstCome}
use Rattle.schedule.specs.Rows.{row, Day}
use Rattle.refusals.specs.Refusals.{by_range, by_disorder, by_narrow, by_not_posting, by_unlisted, by_unkept, by_crossed}
use Rattle.pairs.specs.Pairs.{number_word}
use Rattle.grammar.specs.Words.{FirstWrong}
use Rattle.grammar.specs.Books.{Tells}
use Rattle.readers.specs.declared.Terms.{Terms}
use Rattle.outcomes.specs.Planning.{Planning}
use Rattle.promises.specs.Vocabulary.{ReaderOrder, late_by, Disagree, Cross, Takes}

-- Row k is the earliest of the rows that clashes with any row above it.
pub record EarliestClash (Clash : Row → Row → Type 0) (rows : List Row) (k : ℕ) : Type 0 where
  pub inside : (1 ≤ k) × (k ≤ length rows)
  pub clashes : (j : ℕ) × (1 ≤ j) × (j < k) × Clash (row rows k) (row rows j)
  pub none_before : (g h : ℕ) → 1 ≤ g → g < h → h < k → ¬ Clash (row rows h) (row rows g)

-- How a book is refused n at p: by its first wrong word, 1 to 7; or its words are right, and by the rule of the profile, at the number
-- word of a row.
pub data BookRefused (profile : Profile) (book : List ℕ) : (n p : ℕ) → Type 0 where
  by_word : (n p : ℕ) → FirstWrong book n p → BookRefused profile book n p
  disorder : profile ≡ Ordering → (day : Day) → Tells book day → (k : ℕ) → EarliestClash Disagree day.rows k →
      BookRefused profile book by_disorder (number_word k)
  crossed : profile ≡ FirstCome → (day : Day) → Tells book day → (k : ℕ) → EarliestClash Cross day.rows k →
      BookRefused profile book by_crossed (number_word k)

-- How a call is: by the opening minutes, whatever the book and the buffer are; then by the book; then, of a book that it takes, under a
-- condition of its own.
pub data Turned (terms : Terms) (book : List ℕ) (Own : Day → (n p : ℕ) → Type 0) : (n p : ℕ) → Type 0 where
  by_opening : most_opening < terms.opening → Turned terms book Own by_range 0
  by_book : (n p : ℕ) → terms.opening ≤ most_opening → BookRefused terms.profile book n p → Turned terms book Own n p
  by_call : (n p : ℕ) → (day : Day) → Takes terms book day → Own day n p → Turned terms book Own n p

-- The list needs two words for each row.
pub data ListTurned (planning : Planning) (b : List ℕ) : (n p : ℕ) → Type 0 where
  narrow : length b < 2 * length planning.left → ListTurned planning b by_narrow 0

-- The order for a bound needs one word for each row; then, no order keeps the bound.
pub data BoundTurned (planning : Planning) (y : ℤ) (b : List ℕ) : (n p : ℕ) → Type 0 where
  narrow : length b < length planning.left → BoundTurned planning y b by_narrow 0
  unkept : length planning.left ≤ length b → ((order : List ℕ) → ReaderOrder planning order → ¬ (late_by planning order ≤ℤ y)) →
      BoundTurned planning y b by_unkept 0

-- The order of a listed plan: no plan has that number; then, one word for each row.
pub data PlanTurned (planning : Planning) (k : ℕ) (b : List ℕ) : (n p : ℕ) → Type 0 where
  unlisted : ¬ ((1 ≤ k) × (k ≤ length planning.plans)) → PlanTurned planning k b by_unlisted (length planning.plans)
  narrow : 1 ≤ k → k ≤ length planning.plans → length b < length planning.left → PlanTurned planning k b by_narrow 0

-- An entry of a posting that is no row, or came before.
abbrev pub Stray : (rows : ℕ) → List ℕ → ℕ → Type 0
Stray rows posting p =
    (get_or posting p 0 ≡ 0) ⊎ (rows < get_or posting p 0) ⊎ ((q : ℕ) × (q < p) × (get_or posting q 0 ≡ get_or posting p 0))

-- The verdict: a wrong length is tested first, with the smaller of length and row count as place; otherwise the place is the first entry
-- that is no row or came before.
pub data VerdictTurned (rows : ℕ) (posting : List ℕ) : (n p : ℕ) → Type 0 where
  wrong_length : ¬ (length posting ≡ rows) → VerdictTurned rows posting by_not_posting (min (length posting) rows)
  stray : length posting ≡ rows → (p : ℕ) → p < length posting → Stray rows posting p → ((q : ℕ) → q < p → ¬ Stray rows posting q) →
      VerdictTurned rows posting by_not_posting p

-- A row's place and words: no row has that number.
pub data RowTurned (rows k : ℕ) : (n p : ℕ) → Type 0 where
  unlisted : ¬ ((1 ≤ k) × (k ≤ rows)) → RowTurned rows k by_unlisted rows
