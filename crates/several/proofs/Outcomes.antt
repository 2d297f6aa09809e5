-- What the outcomes of the call are, case by case. Assumes nothing.
use Prim.Native.Nat.{ℕ, ◌≤◌, ◌<◌}
use mathlib.Core.Bool.{true, false}
use mathlib.Core.Path.{◌≡◌, ap}
use mathlib.Core.List.{List, flatten}
use mathlib.Core.Option.{none, some}
use lib.ListN.{length}
use borrow.Author.Tests.{lt-ltb, le-ltb}
use Rattle.std.specs.Prelude.{Ok, Err}
use Rattle.schedule.specs.Rows.{Day}
use Rattle.readers.specs.Reads.{ordering_rule}
use Rattle.results.specs.Results.{written}
use Rattle.outcomes.specs.Planning.{gives}
use Rattle.overtime.specs.Choices.{Chosen, best_choice}
use Rattle.several_lent.specs.Lent.{books_of, lent_amiss}
use Rattle.several_books.specs.Held.{refusal_of}
use Rattle.several_books.specs.Days.{refused_at, days, read_desks, rows_of}
use Rattle.several.specs.Calls.{SeveralAnswer, chosen_at, desks_of, choice_outcome, days_outcome, books_outcome, several_call}

-- An answer, with what the buffer holds.
pub answers : {x y : SeveralAnswer} (b : List ℕ) → x ≡ y → gives x b ≡ gives y b
answers b e = ap (λ (a : SeveralAnswer). gives a b) e

module _ (opening : ℕ) (closings : List ℕ) (limit : ℕ) (b : List ℕ) (ds : List Day) where
  pub days_narrow : length b < rows_of ds → days_outcome opening closings limit b ds ≡ gives (Err (refusal_of 9 0 0)) b
  unfolding days_outcome
  days_narrow h = rw (lt-ltb (length b) (rows_of ds) h, days_outcome)

  module _ (h : rows_of ds ≤ length b) where
    pub days_none : best_choice limit closings (desks_of opening ds) ≡ none →
        days_outcome opening closings limit b ds ≡ gives (Err (refusal_of 16 0 0)) b
    unfolding days_outcome choice_outcome
    days_none e = rw (le-ltb (length b) (rows_of ds) h, e, days_outcome)

    pub days_some : (a : Chosen) → best_choice limit closings (desks_of opening ds) ≡ some a →
        days_outcome opening closings limit b ds ≡
        gives (Ok (chosen_at a.late a.overtime)) (written (flatten a.orders) b)
    unfolding days_outcome choice_outcome
    days_some a e = rw (le-ltb (length b) (rows_of ds) h, e, days_outcome)

module _ (opening : ℕ) (books lengths closings : List ℕ) (limit : ℕ) (b : List ℕ) where
  pub call_amiss : lent_amiss opening (length books) lengths closings limit ≡ true →
      several_call opening books lengths closings limit b ≡ gives (Err (refusal_of 3 0 0)) b
  unfolding several_call
  call_amiss e = rw (e, several_call)

  module _ (right : lent_amiss opening (length books) lengths closings limit ≡ false) where
    pub call_refused : (n p d : ℕ) → read_desks (ordering_rule opening) 1 (books_of lengths books) ≡ refused_at n p d →
        several_call opening books lengths closings limit b ≡ gives (Err (refusal_of n p d)) b
    unfolding several_call books_outcome
    call_refused n p d e = rw (right, e, several_call)

    pub call_days : (ds : List Day) → read_desks (ordering_rule opening) 1 (books_of lengths books) ≡ days ds →
        several_call opening books lengths closings limit b ≡ days_outcome opening closings limit b ds
    unfolding several_call books_outcome
    call_days ds e = rw (right, e, several_call)
