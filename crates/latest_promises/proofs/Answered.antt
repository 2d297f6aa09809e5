-- What the call answers of a book that it takes. Assumes nothing.
use Prim.Native.Nat.{ℕ, ◌≤◌, ◌<◌}
use native.Mathlib.Omega.{arith}
use mathlib.Core.Path.{◌≡◌, refl, ap, ◌∙◌}
use mathlib.Core.List.{List}
use mathlib.Core.Option.{Option, none, some}
use lib.ListN.{length}
use lib.IntN.{ℤ, pos}
use Rattle.theory.specs.Jobs.{Job}
use Rattle.schedule.specs.Rows.{Day, jobs, row_numbers}
use Rattle.schedule.specs.Desk.{end_of, pair_of}
use Rattle.schedule.specs.Picks.{order_for}
use Rattle.schedule.specs.Cover.{PlansPromise}
use Rattle.schedule.proofs.Numbers.{length_count}
use Rattle.schedule.proofs.Cover.{signed, promised}
use Rattle.schedule.proofs.Signed.{le_z→}
use Rattle.refusals.specs.Refusals.{by_narrow, by_unreachable}
use Rattle.book.specs.Rows.{accepted}
use Rattle.readers.specs.Accepted.{AcceptedDay}
use Rattle.readers.specs.Reads.{ordering_rule, read_by}
use Rattle.readers.proofs.Accepted.{accepted_day}
use Rattle.results.specs.Results.{written}
use Rattle.outcomes.specs.Planning.{Outcome, gives}
use Rattle.calls.specs.Answers.{Said, said_no}
use Rattle.promises.specs.Vocabulary.{told}
use Rattle.how_late.specs.Latest.{OrderFrom, latest_order}
use Rattle.how_late.specs.Laws.{LatestLaws}
use Rattle.how_late.proofs.Latest.{how_late}
use Rattle.latest_free.specs.Answers.{said_from, said_latest}
use Rattle.latest_free.specs.Calls.{from_outcome}
use Rattle.latest_free.proofs.Outcomes.{latest_narrow, latest_is, call_of}
use Rattle.latest_promises.specs.Promise.{latest, LatestWith, Answered, from, unreachable}

module _ (opening : ℕ) (book : List ℕ) (end late : ℤ) (b : List ℕ) (day : Day) (reads : read_by (ordering_rule opening) book ≡ accepted day)
  where
    abbrev job : ℕ → Job
    job = jobs opening day

    abbrev rows : List ℕ
    rows = row_numbers day

    abbrev o : Outcome Said
    o = latest opening book end late b

    a : AcceptedDay (ordering_rule opening) day
    a = accepted_day (ordering_rule opening) book day reads

    pub rows_length : length rows ≡ length day.rows
    rows_length = length_count 1 (length day.rows)

    some_row : 0 < length rows
    some_row = omega (arith, rows_length, a.some_row)

    pub laws : LatestLaws job rows end late
    laws = (how_late job rows end late).1 a.rule some_row

    three : (t : ℕ) → PlansPromise job t rows (order_for job t rows)
    three t = promised job t rows a.rule some_row

    pub says_narrow : length b < length day.rows → o ≡ gives (said_no by_narrow 0) b
    says_narrow h =
        ap (told said_latest) (call_of opening book end late b day reads ∙
        latest_narrow job rows end late b (omega (arith, rows_length)))

    module _ (wide : length day.rows ≤ length b) where
      from_says : (x : Option OrderFrom) → latest_order job rows end late ≡ x → o ≡ told said_latest (from_outcome job x b)
      from_says x e =
          ap (told said_latest) (call_of opening book end late b day reads ∙
          (latest_is job rows end late b (omega (arith, rows_length)) ∙ ap (λ (x : Option OrderFrom). from_outcome job x b) e))

      pub says_unreachable : latest_order job rows end late ≡ none → o ≡ gives (said_no by_unreachable 0) b
      unfolding from_outcome
      says_unreachable e = from_says none e

      pub says_from : (s : OrderFrom) → latest_order job rows end late ≡ some s →
          o ≡ gives (said_from s.minute (pair_of job s.minute s.order)) (written s.order b)
      unfolding from_outcome
      says_from s e = from_says (some s) e

      pub latest_with : (s : OrderFrom) → latest_order job rows end late ≡ some s → LatestWith opening day end late s.minute s.order
      latest_with s e =
          let l = (laws.order_from s).0 e in
          let m = l.0 in
          let best = (three s.minute).best late s.order l.1 in
          let other = (m.exactly s.minute m.in_range).1 (omega arith) in
          record {
            minute = m;
            its_order = l.1;
            keeps = record {
              whole = best.0;
              ends = signed (omega (
                arith,
                best.2 other.0 other.1.whole other.1.lates,
                le_z→ (pos (end_of job s.minute other.0)) end other.1.ends.le,
              ));
              lates = best.1;
            };
            soonest = best.2;
          }

      pub is_answered : Answered opening day end late b o
      is_answered = step (latest_order job rows end late) refl
        where
          step : (x : Option OrderFrom) → latest_order job rows end late ≡ x → Answered opening day end late b o
          step none e = unreachable (laws.no_order.0 e) (says_unreachable e)
          step (some s) e = from s.minute s.order (latest_with s e) (says_from s e)
