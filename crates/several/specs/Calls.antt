-- The whole outcome of the call for several desks: from what it is told and lent to its answer and the buffer's contents at exit.
-- What is lent amiss comes first, then the books desk by desk, then 9, then 16. Rests on: the books of several desks, what is chosen.
use Rattle.std.specs.Prelude.{ℕ, ℤ, true, false, ltb, length, Result, Ok, Err}
use mathlib.Core.List.{List, map, flatten}
use Rattle.std.proofs.Math.Option.{Option, none, some}
use Rattle.schedule.specs.Rows.{Day}
use Rattle.refusals.specs.Refusals.{by_range, by_narrow, by_overtime}
use Rattle.readers.specs.Reads.{ordering_rule}
use Rattle.results.specs.Results.{written}
use Rattle.outcomes.specs.Planning.{Outcome, gives, Planning}
use Rattle.calls.specs.Planned.{planned}
use Rattle.several.specs.declared.Chosen.{Chosen as Answer}
use Rattle.overtime.specs.Choices.{Chosen, best_choice, open_choices}
use Rattle.several_lent.specs.Lent.{books_of, lent_amiss, open_lent}
use Rattle.several_books.specs.declared.DeskRefusal.{DeskRefusal}
use Rattle.several_books.specs.Held.{refusal_of}
use Rattle.several_books.specs.Days.{DesksRead, refused_at, days, read_desks, rows_of, open_days}

-- The answer: what the chosen orders come to, or the refusal with the desk that it concerns.
abbrev pub SeveralAnswer : Type 0
SeveralAnswer = Result Answer DeskRefusal

abbrev pub chosen_at : (late : ℤ) (overtime : ℕ) → Answer
chosen_at late overtime = record { late = late; overtime = overtime }

-- What is planned of the days of several desks; one opening serves all.
abbrev pub desks_of : (opening : ℕ) → List Day → List Planning
desks_of opening ds = map (planned (ordering_rule opening)) ds

-- The choice, with the orders desk after desk.
unfoldable pub choice_outcome : Option Chosen → (buffer : List ℕ) → Outcome SeveralAnswer
choice_outcome none b = gives (Err (refusal_of by_overtime 0 0)) b
choice_outcome (some a) b = gives (Ok (chosen_at a.late a.overtime)) (written (flatten a.orders) b)

module _ (opening : ℕ) (closings : List ℕ) (limit : ℕ) (b : List ℕ) where
  -- Of books that are all accepted: one word for each row of all of them, then the choice.
  unfoldable pub days_outcome : List Day → Outcome SeveralAnswer
  days_outcome ds = elim (ltb (length b) (rows_of ds)) [
    | true ↦ gives (Err (refusal_of by_narrow 0 0)) b
    | false ↦ choice_outcome (best_choice limit closings (desks_of opening ds)) b
  ]

  unfoldable pub books_outcome : DesksRead → Outcome SeveralAnswer
  books_outcome (refused_at n p d) = gives (Err (refusal_of n p d)) b
  books_outcome (days ds) = days_outcome ds

unfoldable pub several_call : (opening : ℕ) (books lengths closings : List ℕ) (limit : ℕ) (buffer : List ℕ) → Outcome SeveralAnswer
several_call opening books lengths closings limit b = elim (lent_amiss opening (length books) lengths closings limit) [
  | true ↦ gives (Err (refusal_of by_range 0 0)) b
  | false ↦ books_outcome opening closings limit b (read_desks (ordering_rule opening) 1 (books_of lengths books))
]

-- Opens every definition of this file: name it on an `unfolding` line where all is to be computed.
unfoldable pub open_several : Unit {0}
unfolding open_choices open_lent open_days choice_outcome days_outcome books_outcome several_call
open_several = tt
