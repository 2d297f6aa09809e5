-- What each call gives once it is known what is planned: its answer, and the buffer's contents at exit.
-- Refusals in their sequence: 10, 11, 9, 12. Rests on: Planning, postings, result words, the table of refusals.
use Rattle.std.specs.Prelude.{ℕ, ◌*◌, true, false, List, ltb, length, ℤ, Result, Ok, Err}
use Rattle.std.proofs.Math.Option.{Option, none, some}
use Rattle.schedule.specs.Desk.{Pair, pair_of}
use Rattle.schedule.specs.Plans.{first_beating}
use Rattle.refusals.specs.declared.Refusal.{Refusal}
use Rattle.refusals.specs.Refusals.{by_narrow, by_unlisted, by_unkept}
use Rattle.refusals.specs.Tests.{refusal_at}
use Rattle.postings.specs.Posting.{posting_tests}
use Rattle.results.specs.Results.{written, plan_words}
use Rattle.outcomes.specs.Planning.{Outcome, gives, nth, Planning}
use Rattle.outcomes.specs.declared.Attained.{Attained}
use Rattle.outcomes.specs.declared.Verdict.{Verdict}
use Rattle.outcomes.specs.declared.Verdict.TheVariants as verdict

-- The answers: to the call for the list, the count of plans; to a call for an order, what it attains; to the call for a verdict, the verdict.
abbrev pub ListAnswer : Type 0
ListAnswer = Result ℕ Refusal

abbrev pub OrderAnswer : Type 0
OrderAnswer = Result Attained Refusal

abbrev pub VerdictAnswer : Type 0
VerdictAnswer = Result Verdict Refusal

-- A pair and the first listed plan that beats it, or unbeaten.
unfoldable pub judged_of : Pair → Option ℕ → Verdict
judged_of p none = verdict.Unbeaten p.end p.late
judged_of p (some k) = verdict.Beaten p.end p.late k

module _ (planning : Planning) where
  -- The list: the count of plans, and two words for each.
  unfoldable pub list_outcome : (buffer : List ℕ) → Outcome ListAnswer
  list_outcome b = elim (ltb (length b) (2 * length planning.left)) [
    | true ↦ gives (Err (refusal_at by_narrow 0)) b
    | false ↦ gives (Ok (length planning.plans)) (written (plan_words planning.plans) b)
  ]

  -- The order for the bound y, with its own pair, and one word for each row.
  unfoldable pub order_outcome : ℤ → (buffer : List ℕ) → Outcome OrderAnswer
  order_outcome y b = elim (ltb (length b) (length planning.left)) [
    | true ↦ gives (Err (refusal_at by_narrow 0)) b
    | false ↦ elim (planning.orders y) [
      | none ↦ gives (Err (refusal_at by_unkept 0)) b
      | some order ↦
          let pair = pair_of planning.job planning.minute order in
          gives (Ok (record { end = pair.end; late = pair.late })) (written order b)
    ]
  ]

  -- The order of the listed plan k, counted from 1: the order for the bound equal to its lateness.
  unfoldable pub plan_outcome : ℕ → (buffer : List ℕ) → Outcome OrderAnswer
  plan_outcome k b = elim (nth planning.plans k) [
    | none ↦ gives (Err (refusal_at by_unlisted (length planning.plans))) b
    | some p ↦ order_outcome p.late b
  ]

  -- The verdict on a posting of all rows 1 to n.
  unfoldable pub verdict_outcome : (posting : List ℕ) → VerdictAnswer
  verdict_outcome posting = elim (posting_tests (length planning.left) posting) [
    | Err refusal ↦ Err refusal
    | Ok _ ↦
        let pair = pair_of planning.job planning.minute posting in
        Ok (judged_of pair (first_beating 1 planning.plans pair))
  ]

-- Opens every definition of this file: name it on an `unfolding` line where all is to be computed.
unfoldable pub open_outcomes : Unit {0}
unfolding nth judged_of list_outcome order_outcome plan_outcome verdict_outcome
open_outcomes = tt
