-- Days worked through: how a table of questions and expected answers is written, and what it is for such a table to hold of the
-- definitions. The tables are in planner/specs/Days and first_come/specs/Days. Rests on: Calls, Lines, the readers, the grammar's books.
use Rattle.std.specs.Prelude.{ℕ, ◌≡◌, ℤ, Some}
use Rattle.std.proofs.Common.{sym, ap, ◌∙◌, Ok, Err}
use Rattle.refusals.specs.Tests.{refusal_at}
use mathlib.Core.List.{List, [], ◌∷◌, map, Memᴰ, head-eq_of_cons-eq, tail-eq_of_cons-eq}
use Rattle.row_reader.specs.NearestMinute.{length_of as lengthFor}
use Rattle.book.specs.Rows.{Contents, accepted}
use Rattle.grammar.specs.Books as books
use Rattle.grammar.specs.Books.{Entry}
use Rattle.readers.specs.declared.Terms.{Terms}
use Rattle.row_calls.specs.Places.{RowPlace, place_call, words_call}
use Rattle.readers.specs.Reads.{read_by}
use Rattle.outcomes.specs.Outcomes.{ListAnswer, OrderAnswer, VerdictAnswer}
use Rattle.outcomes.specs.Planning.{Outcome, gives}
use Rattle.calls.specs.Calls.{list_call, bound_call, plan_call, verdict_call}
use Rattle.calls.specs.Lines.{Line, Printed, printed}

-- A row of a book as the days give it: number, release, pages and due, or class.
abbrev pub entry : ℕ → ℕ → ℕ → ℕ → Entry
entry n r p d = record { number = n; release = r; pages = p; sold = books.due d }

abbrev pub sold : ℕ → ℕ → ℕ → ℕ → Entry
sold n r p c = record { number = n; release = r; pages = p; sold = books.class c }

-- What is asked: the reading of a book, what slate prints, one of the calls, or a length.
pub data Asked : Type 0 where
  reading : List ℕ → Asked
  printing : List ℕ → Asked
  list : List ℕ → List ℕ → Asked
  bound : List ℕ → ℤ → List ℕ → Asked
  plan : List ℕ → ℕ → List ℕ → Asked
  posting : List ℕ → List ℕ → Asked
  row_words_of : List ℕ → ℕ → Asked
  row_place_of : List ℕ → ℕ → Asked
  length_of : (pages pace : ℕ) → Asked

-- What is answered.
pub data Reply : Type 0 where
  reads : Contents → Reply
  prints : Printed → Reply
  lists : Outcome ListAnswer → Reply
  orders : Outcome OrderAnswer → Reply
  judges : VerdictAnswer → Reply
  words : List ℕ → Reply
  finds : RowPlace → Reply
  takes : ℕ → Reply

-- By the terms of the calls. (A length is by none.)
abbrev pub answer_to : Terms → Asked → Reply
answer_to terms (reading b) = reads (read_by terms b)
answer_to terms (printing b) = prints (printed terms b)
answer_to terms (list b buffer) = lists (list_call terms b buffer)
answer_to terms (bound b y buffer) = orders (bound_call terms b y buffer)
answer_to terms (plan b k buffer) = orders (plan_call terms b k buffer)
answer_to terms (posting b order) = judges (verdict_call terms b order)
answer_to terms (row_words_of b k) = words (words_call terms.profile b k)
answer_to terms (row_place_of b k) = finds (place_call terms.profile b k)
answer_to terms (length_of pages pace) = takes (lengthFor pages pace)

-- A question of the table with its answer: with no opening, or with so many opening minutes.
pub record Worked : Type 0 where
  pub opening : ℕ
  pub asked : Asked
  pub told : Reply

abbrev pub ◌gets◌ : Asked → Reply → Worked
a gets b = record { opening = 0; asked = a; told = b }

infix 10 ◌gets◌
abbrev pub with_minutes : (opening : ℕ) → Worked → Worked
with_minutes opening d = record { opening = opening; asked = d.asked; told = d.told }

-- How answers are written in the table: a book of one row with its length, due, class and pages, or of length and pages 5; plans with
-- the buffer; an order's end and lateness with the buffer; a refusal with the buffer; a line.
abbrev pub lasts : (minutes due class pages : ℕ) → Reply
lasts n d c p =
    reads (accepted (record {
      free = 0;
      rows = record { number = 901; release = 10; length = n; due = d; class = Some c; pages = p } ∷ [];
    }))

abbrev pub due : ℕ → ℕ → Reply
due d c = lasts 5 d c 5

abbrev pub plans : ℕ → List ℕ → Reply
plans k b = lists (gives (Ok k) b)

abbrev pub order : ℕ → ℤ → List ℕ → Reply
order e y b = orders (gives (Ok (record { end = e; late = y })) b)

abbrev pub turned_down : ℕ → ℕ → List ℕ → Reply
turned_down n p b = orders (gives (Err (refusal_at n p)) b)

abbrev pub line : ℕ → ℤ → List ℕ → Line
line e y ns = record { end = e; late = y; numbers = ns }

-- Two functions that give one list over a list agree at each of its elements.
pub agree : {A B : Type 0} (f g : A → B) {a : A} {l : List A} → map f l ≡ map g l → Memᴰ a l → f a ≡ g a
agree f g e (Memᴰ.head p) = ap f p ∙ head-eq_of_cons-eq e ∙ ap g (sym p)
agree f g e (Memᴰ.tail m) = agree f g (tail-eq_of_cons-eq e) m

-- A table of days holds by a rule: each is answered, with its opening, as the table says.
abbrev pub answer_by : (rule : ℕ → Terms) → Worked → Reply
answer_by rule d = answer_to (rule d.opening) d.asked

abbrev pub Hold : (rule : ℕ → Terms) → List Worked → Type 0
Hold rule table = (d : Worked) → Memᴰ d table → answer_by rule d ≡ d.told

pub hold : (rule : ℕ → Terms) (table : List Worked) → map (answer_by rule) table ≡ map (λ (d : Worked). d.told) table → Hold rule table
hold rule table e d = agree (answer_by rule) (λ (d : Worked). d.told) e
