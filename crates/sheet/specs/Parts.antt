-- What the crate's parts hold.
-- Rests on: Printing.
use Rattle.std.specs.Prelude.{ℕ, suc, ◌+◌, ◌*◌, ◌≤◌, ◌<◌, ◌≡◌, List, [], map, length, get_or, replicate, Ok}
use Rattle.std.proofs.Math.Option.{some}
use Rattle.schedule.specs.Limits.{most_rows, row_places}
use Rattle.results.specs.Results.{signed}
use Rattle.outcomes.specs.Planning.{gives, nth}
use Rattle.calls.specs.Calls.{list_call, bound_call}
use Rattle.calls.specs.Lines.{Line, Printed, refusal, listing, printed}
use Rattle.sheet.specs.Printing.{slate_terms}

-- The bytes of a sheet.
abbrev pub sheet_bytes : ℕ
sheet_bytes = 750000

-- The call for the list answered so many plans, and wrote them into a buffer of 512 words.
abbrev pub Answered : (book : List ℕ) (count : ℕ) (plans : List ℕ) → Type 0
Answered book count plans = (b : List ℕ) × (length b ≡ 512) × (gives (Ok count) plans ≡ list_call slate_terms book b)

-- The lines of a book's plans.
abbrev pub listed_lines : Printed → List Line
listed_lines (refusal n p) = []
listed_lines (listing n ls) = ls

abbrev pub lines_of : List ℕ → List Line
lines_of book = listed_lines (printed slate_terms book)

-- The order numbers of the order for a bound, which the call writes into a buffer of one word for each row.
abbrev pub order_numbers : (book numbers : List ℕ) (rows late : ℕ) → List ℕ
order_numbers book numbers rows late = map (λ i. get_or numbers i 0) (bound_call slate_terms book (signed late) (replicate rows 0)).buffer

abbrev pub line_for : (book numbers : List ℕ) (rows end late : ℕ) → Line
line_for book numbers rows end late = record { end = end; late = signed late; numbers = order_numbers book numbers rows late }

-- A book is listed: its plans stand in a buffer, and each has its line.
pub record Listed (book numbers : List ℕ) (rows count : ℕ) (plans : List ℕ) : Type 0 where
  pub few : rows ≤ most_rows
  pub fits : count ≤ most_rows
  pub places : length numbers ≡ row_places
  pub size : length plans ≡ 512
  pub counted : length (lines_of book) ≡ count
  pub each : (k : ℕ) → k < count →
      nth (lines_of book) (suc k) ≡ some (line_for book numbers rows (get_or plans (2 * k) 0) (get_or plans (2 * k + 1) 0))
