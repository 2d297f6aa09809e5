-- A month as it is written, and that it is read as written, and nothing else is read. The proof is `written_and_read`, in
-- proofs/WrittenMonth.antt. Rests on: Layout.
use Rattle.std.specs.Prelude.{ℕ, ◌/◌, ◌%◌, ◌≤◌, ◌<◌, ◌≡◌, ◌↔◌, length}
use mathlib.Core.List.{List, [], ◌∷◌, ◌++◌, Memᴰ}
use Rattle.std.proofs.Math.Option.{some}
use Rattle.month_input.specs.Layout.{PostedDay, most_days, most_book, most_posting, month_in}

-- Words as bytes, the lowest first.
unfoldable pub bytes_of : List ℕ → List ℕ
bytes_of [] = []
bytes_of (w ∷ ws) = (w % 256) ∷ (w / 256 % 256) ∷ (w / 256 / 256 % 256) ∷ (w / 256 / 256 / 256 % 256) ∷ bytes_of ws

-- A day: the book's length, the book, the posting's length, the posting. And days one after another.
abbrev pub day_words : PostedDay → List ℕ
day_words d = length d.book ∷ (d.book ++ (length d.posting ∷ d.posting))

unfoldable pub month_words : List PostedDay → List ℕ
month_words [] = []
month_words (d ∷ ds) = day_words d ++ month_words ds

-- Each of a list is below a number.
abbrev pub Below : ℕ → List ℕ → Type 0
Below most ns = (n : ℕ) → Memᴰ n ns → n < most

-- A day that fits the layout: 32-bit words, no more of them than a book and a posting may have.
pub record FitsLayout (d : PostedDay) : Type 0 where
  pub book : length d.book ≤ most_book
  pub posting : length d.posting ≤ most_posting
  pub book_words : Below 4294967296 d.book
  pub posting_words : Below 4294967296 d.posting

-- An input of 0 to 31 whole days in the layout.
pub record InLayout (input : List ℕ) (days : List PostedDay) : Type 0 where
  pub few : length days ≤ most_days
  pub fit : (d : PostedDay) → Memᴰ d days → FitsLayout d
  pub written : input ≡ bytes_of (month_words days)

-- Of every input of bytes: these days are read exactly if the input is these days in the layout.
abbrev pub WrittenAndRead : Type 0
WrittenAndRead = (input : List ℕ) (days : List PostedDay) → Below 256 input → (month_in input ≡ some days) ↔ InLayout input days

-- Opens every definition of this file: name it on an `unfolding` line where all is to be computed.
unfoldable pub open_written_month : Unit {0}
unfolding bytes_of month_words
open_written_month = tt
