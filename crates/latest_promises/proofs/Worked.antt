-- The worked days hold: what is told is computed by the orders at the minute told and at the next, which is enough. Assumes nothing.
use Prim.Native.Nat.{ℕ, suc, ◌≤◌}
use native.Mathlib.Omega.{arith}
use mathlib.Core.Bool.{Bool, true, false, not, ◌&&◌, ◌||◌}
use mathlib.Core.Path.{◌≡◌, refl, ap, ◌∙◌}
use mathlib.Core.List.{List, map}
use mathlib.Core.Option.{Option, none, some, some-injective, none-ne-some}
use lib.Dec.{leb, ltb, leb→le}
use lib.ListN.{length}
use lib.IntN.{ℤ}
use borrow.Author.Tests.{ltb-true, ltb-false, not-true}
use Rattle.schedule.proofs.Tests.{parts, or_second, is_true, true_is}
use Rattle.schedule.specs.Limits.{latest_minute}
use Rattle.schedule.specs.Rows.{Day, jobs, row_numbers, open_rows}
use Rattle.schedule.specs.Desk.{pair_of, open_desk}
use Rattle.schedule.specs.Picks.{order_for, open_picks}
use Rattle.refusals.specs.Refusals.{by_narrow, by_unreachable}
use Rattle.book.specs.Rows.{Contents, refused, accepted}
use Rattle.readers.specs.Reads.{ordering_rule, read_by, open_reads}
use Rattle.results.specs.Results.{written, open_results}
use Rattle.outcomes.specs.Planning.{Outcome, gives}
use Rattle.calls.specs.Answers.{Said, said_no}
use Rattle.calls.specs.Days.{agree}
use Rattle.promises.specs.Vocabulary.{told}
use Rattle.how_late.specs.Latest.{OrderFrom}
use Rattle.how_late.specs.Laws.{in_time}
use Rattle.how_late.proofs.Latest.{how_late}
use Rattle.latest_free.specs.Answers.{said_from, said_latest}
use Rattle.latest_free.proofs.Outcomes.{call_refused}
use Rattle.latest_promises.specs.Promise.{latest}
use Rattle.latest_promises.specs.Worked.{Wanted, wanted_days, WantedHold}
use Rattle.latest_promises.proofs.Answered.{laws, says_narrow, says_unreachable, says_from}

module _ (opening : ℕ) (end late : ℤ) (b : List ℕ) (t : ℕ) where
  -- The minute t is in time, and the next is not, if there is one.
  abbrev last : Day → Bool
  last day =
      leb t latest_minute && (in_time (jobs opening day) (row_numbers day) end late t &&
      (leb latest_minute t || not (in_time (jobs opening day) (row_numbers day) end late (suc t))))

  -- What is told by the order from t, where t is the last in time; where minute 0 is not in time; or nothing is shown.
  abbrev by_order : Day → Option (List ℕ) → Option (Outcome Said)
  by_order day none = none
  by_order day (some order) = some (gives (said_from t (pair_of (jobs opening day) t order)) (written order b))

  abbrev by_tests : Day → (last zero : Bool) → Option (Outcome Said)
  by_tests day true zero = by_order day (order_for (jobs opening day) t (row_numbers day) late)
  by_tests day false true = none
  by_tests day false false = some (gives (said_no by_unreachable 0) b)

  abbrev by_room : Day → (short : Bool) → Option (Outcome Said)
  by_room day true = some (gives (said_no by_narrow 0) b)
  by_room day false = by_tests day (last day) (in_time (jobs opening day) (row_numbers day) end late 0)

  abbrev shown : Contents → Option (Outcome Said)
  shown (refused n p) = some (gives (said_no n p) b)
  shown (accepted day) = by_room day (ltb (length b) (length day.rows))

  module _ (book : List ℕ) where
    abbrev o : Outcome Said
    o = latest opening book end late b

    module _ (day : Day) (reads : read_by (ordering_rule opening) book ≡ accepted day) where
      by_order_lem : length day.rows ≤ length b → last day ≡ true → (x : Option (List ℕ)) →
          order_for (jobs opening day) t (row_numbers day) late ≡ x → (told : Outcome Said) → by_order day x ≡ some told → o ≡ told
      by_order_lem wide l none e told s = absurd (none-ne-some told s)
      by_order_lem wide l (some order) e told s =
          let test = in_time (jobs opening day) (row_numbers day) end late in
          let k = laws opening book end late b day reads in
          let early = parts (leb t latest_minute) (test t && (leb latest_minute t || not (test (suc t)))) (is_true _ l) in
          let timed = parts (test t) (leb latest_minute t || not (test (suc t))) early.1 in
          let free = k.next t (leb→le t latest_minute early.0) (true_is (test t) timed.0)
          (λ h. not-true (test (suc t)) (true_is (not (test (suc t))) (or_second (leb latest_minute t) (not (test (suc t))) timed.1
          (λ w. omega (arith, h, leb→le latest_minute t w))))) in
          let it : OrderFrom = record { minute = t; order = order } in
          let is-it = (k.order_from it).1 (((how_late (jobs opening day) (row_numbers day) end late).0.found t).0 free, e) in
          says_from opening book end late b day reads wide it is-it ∙ some-injective _ told s

      by_tests_lem : length day.rows ≤ length b → (x y : Bool) → last day ≡ x →
          in_time (jobs opening day) (row_numbers day) end late 0 ≡ y → (told : Outcome Said) → by_tests day x y ≡ some told → o ≡ told
      by_tests_lem wide true y l z told s = by_order_lem wide l (order_for (jobs opening day) t (row_numbers day) late) refl told s
      by_tests_lem wide false true l z told s = absurd (none-ne-some told s)
      by_tests_lem wide false false l z told s =
          let k = laws opening book end late b day reads in
          let free = k.never z in
          let no_order = k.no_order.1 ((how_late (jobs opening day) (row_numbers day) end late).0.unreachable.0 free) in
          says_unreachable opening book end late b day reads wide no_order ∙ some-injective _ told s

      by_room_lem : (x : Bool) → ltb (length b) (length day.rows) ≡ x → (told : Outcome Said) → by_room day x ≡ some told → o ≡ told
      by_room_lem true e told s =
          says_narrow opening book end late b day reads (ltb-true (length b) (length day.rows) e) ∙ some-injective _ told s
      by_room_lem false e told s =
          by_tests_lem (ltb-false (length b) (length day.rows) e) (last day) (in_time (jobs opening day) (row_numbers day) end late 0) refl
          refl told s

    by_contents : (x : Contents) → read_by (ordering_rule opening) book ≡ x → (told : Outcome Said) → shown x ≡ some told → o ≡ told
    by_contents (refused n p) e said s =
        ap (told said_latest) (call_refused opening book end late b n p e) ∙ some-injective _ said s
    by_contents (accepted day) e said s = by_room_lem day e (ltb (length b) (length day.rows)) refl said s

-- What is shown of a worked day by the minute that the table has.
abbrev shown_of : Wanted → Option (Outcome Said)
shown_of d =
    shown d.opening d.end d.late d.buffer d.told.answer.minute (read_by (ordering_rule d.opening) d.book)

abbrev told_of : Wanted → Option (Outcome Said)
told_of d = some d.told

all_shown : map shown_of wanted_days ≡ map told_of wanted_days
unfolding open_rows open_desk open_picks open_reads open_results
all_shown = refl

pub wanted_hold : WantedHold
wanted_hold d m =
    by_contents d.opening d.end d.late d.buffer d.told.answer.minute d.book
    (read_by (ordering_rule d.opening) d.book) refl d.told (agree shown_of told_of all_shown m)
