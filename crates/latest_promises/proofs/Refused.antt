-- How the call is refused, exactly. Assumes nothing.
use Prim.Native.Nat.{ℕ, ◌≤◌, ◌<◌}
use native.Mathlib.Omega.{arith}
use native.Mathlib.Decide.{dec_le}
use mathlib.Core.Path.{◌≡◌, refl, ap}
use mathlib.Core.List.{List}
use mathlib.Core.Logic.{◌↔◌}
use mathlib.Core.Option.{Option, none, some}
use lib.ListN.{length}
use lib.IntN.{ℤ}
use Rattle.schedule.specs.Rows.{Day, jobs, row_numbers}
use Rattle.refusals.specs.Refusals.{by_narrow, by_unreachable}
use Rattle.book.specs.Rows.{accepted}
use Rattle.readers.specs.Reads.{ordering_rule, read_by}
use Rattle.outcomes.specs.Planning.{Outcome}
use Rattle.calls.specs.Answers.{Said}
use Rattle.promises.specs.Vocabulary.{told, Refuses}
use Rattle.promises.specs.Table.{Turned}
use Rattle.promises.proofs.Refused.{says_no, says_yes, turned}
use Rattle.how_late.specs.Latest.{OrderFrom, latest_order}
use Rattle.latest_free.specs.Answers.{said_latest}
use Rattle.latest_free.proofs.Outcomes.{call_refused}
use Rattle.latest_promises.specs.Promise.{latest, LatestTurned, narrow, unreachable}
use Rattle.latest_promises.proofs.Answered.{laws, says_narrow, says_unreachable, says_from}

module _ (opening : ℕ) (book : List ℕ) (end late : ℤ) (b : List ℕ) where
  abbrev said : Said
  said = (latest opening book end late b).answer

  -- Of a book that is accepted.
  own : (day : Day) → read_by (ordering_rule opening) book ≡ accepted day → (n p : ℕ) →
      Refuses said n p ↔ LatestTurned opening day end late b n p
  own day reads = room (dec_le (length day.rows) (length b))
    where
      Turns : (n p : ℕ) → Type 0
      Turns = LatestTurned opening day end late b

      one_narrow : length b < length day.rows → (n p : ℕ) → Turns n p → (by_narrow ≡ n) × (0 ≡ p)
      one_narrow h _ _ (narrow l) = (refl, refl)
      one_narrow h _ _ (unreachable wide none_allowed) = let z : ⊥ = omega arith in absurd z

      one_unreachable : length day.rows ≤ length b → (n p : ℕ) → Turns n p → (by_unreachable ≡ n) × (0 ≡ p)
      one_unreachable h _ _ (narrow l) = let z : ⊥ = omega arith in absurd z
      one_unreachable h _ _ (unreachable wide none_allowed) = (refl, refl)

      not_turned : length day.rows ≤ length b → (s : OrderFrom) → latest_order (jobs opening day) (row_numbers day) end late ≡ some s →
          (n p : ℕ) → ¬ Turns n p
      not_turned h s e _ _ (narrow l) = omega arith
      not_turned h s e _ _ (unreachable wide none_allowed) =
          let m = (((laws opening book end late b day reads).order_from s).0 e).0 in
          none_allowed ((m.exactly 0 (omega arith)).1 (omega arith))

      search : length day.rows ≤ length b → (x : Option OrderFrom) → latest_order (jobs opening day) (row_numbers day) end late ≡ x →
          (n p : ℕ) → Refuses said n p ↔ Turns n p
      search h none e =
          says_no said Turns by_unreachable 0 (omega arith)
          (ap (λ (o : Outcome Said). o.answer) (says_unreachable opening book end late b day reads h e))
          (unreachable h ((laws opening book end late b day reads).no_order.0 e)) (one_unreachable h)
      search h (some s) e =
          says_yes said Turns (ap (λ (o : Outcome Said). o.answer.number) (says_from opening book end late b day reads h s e))
          (not_turned h s e)

      room : Dec (length day.rows ≤ length b) → (n p : ℕ) → Refuses said n p ↔ Turns n p
      room (yes h) = search h (latest_order (jobs opening day) (row_numbers day) end late) refl
      room (no h) =
          says_no said Turns by_narrow 0 (omega arith)
          (ap (λ (o : Outcome Said). o.answer) (says_narrow opening book end late b day reads (omega arith))) (narrow (omega arith))
          (one_narrow (omega arith))

  pub exactly : (n p : ℕ) → Refuses said n p ↔ Turned (ordering_rule opening) book (λ day. LatestTurned opening day end late b) n p
  exactly =
      turned (ordering_rule opening) book (λ day. LatestTurned opening day end late b) said
      (λ n p e. ap (λ o. (told said_latest o).answer) (call_refused opening book end late b n p e)) own
