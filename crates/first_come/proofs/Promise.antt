-- The three properties of the calls by first come, first due hold, and what is promised of a later start; and they have one plan.
-- Assumes nothing.
use Prim.Native.Nat.{ℕ, ◌*◌, ◌≤◌}
use native.Mathlib.Omega.{arith}
use native.Mathlib.Decide.{dec_le}
use mathlib.Core.Path.{◌≡◌, sym, ap, ◌∙◌}
use mathlib.Core.List.{List}
use lib.ListN.{length}
use Rattle.std.specs.Prelude.{Ok}
use Rattle.schedule.specs.declared.Profile.TheVariants.{Ordering, FirstCome}
use Rattle.schedule.specs.Rows.{job, Day, jobs, row_numbers}
use Rattle.schedule.specs.Desk.{Pair}
use Rattle.schedule.proofs.Arrival.{arrival_promised}
use Rattle.schedule.proofs.Opening.{opening_laws}
use Rattle.book.specs.Rows.{accepted}
use Rattle.readers.specs.Reads.{ordering_rule, first_come, read_by}
use Rattle.readers.specs.Accepted.{AcceptedDay}
use Rattle.readers.proofs.Accepted.{accepted_day}
use Rattle.readers.proofs.OneDay.{one_day}
use Rattle.results.specs.Results.{written, plan_words}
use Rattle.outcomes.specs.Outcomes.{list_outcome}
use Rattle.outcomes.specs.Planning.{gives, Planning}
use Rattle.outcomes.proofs.OutcomeLaws.{list_narrow, list_is}
use Rattle.calls.specs.Answers.{said_list}
use Rattle.calls.specs.Planned.{planned}
use Rattle.calls.proofs.CallLaws.{list_of}
use Rattle.promises.specs.Vocabulary.{told, list, Takes}
use Rattle.promises.specs.Promise.{Property1, Property2, Property3}
use Rattle.promises.specs.LaterStart.{LaterStartHolds}
use Rattle.promises.proofs.Accepted.{accepts, takes}
use Rattle.promises.proofs.Promise as of_calls
use Rattle.promises.proofs.Promise.{some_rows, day_sound}
use Rattle.promises.proofs.LaterStart as later_start
use Rattle.first_come.specs.Promise.{OnePlan, OnePlanHolds}

pub lent_memory : (opening : ℕ) → Property1 (first_come opening)
lent_memory opening = of_calls.lent_memory (first_come opening)

pub definitions_hold : (opening : ℕ) → Property2 (first_come opening)
definitions_hold opening = of_calls.definitions_hold (first_come opening)

pub cover_holds : (opening : ℕ) → Property3 (first_come opening)
cover_holds opening = of_calls.cover_holds (first_come opening)

pub later_start_holds : (opening : ℕ) (rest : List ℕ) → LaterStartHolds (first_come opening) rest
later_start_holds opening = later_start.later_start_holds (first_come opening)

one_plan : (opening : ℕ) (book : List ℕ) (day : Day) → Takes (first_come opening) book day → OnePlan opening day
one_plan opening book day t =
    let a : AcceptedDay (first_come opening) day = accepted_day (first_come opening) book day ((takes (first_come opening) book day).1 t) in
    let laws = opening_laws opening (job day.rows) in
    let same = laws.arrival (row_numbers day) in
    let own = arrival_promised (job day.rows) day.free (row_numbers day) ((laws.rule FirstCome (row_numbers day)).0 a.rule)
    (some_rows a) in
    let p = arrival_promised (jobs opening day) day.free (row_numbers day) a.rule (some_rows a) in
    record { whole = own.whole; sorted = own.sorted; least = rw (← same) p.least; one_plan = rw (← same) p.one_plan }

-- A book that both profiles accept has one list: both are the list by its definition.
module _ (opening : ℕ) (book : List ℕ) (day : Day) (e : read_by (first_come opening) book ≡ accepted day)
    (f : read_by (ordering_rule opening) book ≡ accepted day) (b : List ℕ) where
  abbrev arriving : Planning
  arriving = planned (first_come opening) day

  abbrev ordering : Planning
  ordering = planned (ordering_rule opening) day

  plans_same : arriving.plans ≡ ordering.plans
  plans_same =
      (day_sound (accepted_day (first_come opening) book day e)).front ∙
      sym (day_sound (accepted_day (ordering_rule opening) book day f)).front

  outcome_same : list_outcome arriving b ≡ list_outcome ordering b
  outcome_same = step (dec_le (2 * length (row_numbers day)) (length b))
    where
      step : Dec (2 * length (row_numbers day) ≤ length b) → list_outcome arriving b ≡ list_outcome ordering b
      step (yes h) =
          list_is arriving b h ∙
          ap (λ (ps : List Pair). gives (Ok (length ps)) (written (plan_words ps) b)) plans_same ∙
          sym (list_is ordering b h)
      step (no h) = list_narrow arriving b (omega arith) ∙ sym (list_narrow ordering b (omega arith))

  same_list : list (first_come opening) book b ≡ list (ordering_rule opening) book b
  same_list = ap (told said_list)
      (list_of (first_come opening) book day e b ∙ outcome_same ∙ sym (list_of (ordering_rule opening) book day f b))

pub one_plan_holds : OnePlanHolds
one_plan_holds = record {
  one_plan = one_plan;
  same_day = λ book day other a b.
      one_day FirstCome Ordering book day other ((accepts FirstCome book day).1 a) ((accepts Ordering book other).1 b);
  same_list = λ opening book day a b.
      same_list opening book day ((takes (first_come opening) book day).1 a) ((takes (ordering_rule opening) book day).1 b);
}
