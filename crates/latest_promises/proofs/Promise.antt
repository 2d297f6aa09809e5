-- What is promised of the call holds. Assumes nothing.
use Prim.Native.Nat.{ℕ, ◌≤◌}
use native.Mathlib.Omega.{arith}
use native.Mathlib.Decide.{dec_le}
use mathlib.Core.Path.{◌≡◌, refl, sym, ap, subst}
use mathlib.Core.List.{List}
use mathlib.Core.Logic.{◌⊎◌, inl, inr}
use mathlib.Core.Option.{Option, none, some}
use lib.ListN.{length}
use lib.IntN.{ℤ}
use Rattle.schedule.specs.Rows.{Day, jobs, row_numbers}
use Rattle.schedule.specs.Desk.{pair_of}
use Rattle.schedule.proofs.Orders.{perm_count}
use Rattle.book.specs.Rows.{Contents, refused, accepted}
use Rattle.readers.specs.Reads.{ordering_rule, read_by}
use Rattle.outcomes.specs.Planning.{Outcome}
use Rattle.calls.specs.Answers.{Said}
use Rattle.promises.specs.Vocabulary.{told}
use Rattle.promises.specs.Table.{Turned, by_opening, by_book, by_call}
use Rattle.promises.proofs.Accepted.{takes}
use Rattle.promises.proofs.Numbers.{ordering_numbered}
use Rattle.promises.proofs.Memory.{Kept, kept_no, kept_yes}
use Rattle.how_late.specs.Latest.{OrderFrom, latest_order}
use Rattle.latest_free.specs.Answers.{said_from, said_latest}
use Rattle.latest_free.proofs.Outcomes.{call_refused}
use Rattle.latest_promises.specs.Promise.{latest, LatestTurned, narrow, unreachable, LatestPromise}
use Rattle.latest_promises.proofs.Answered.{rows_length, says_narrow, says_unreachable, says_from, latest_with, is_answered}
use Rattle.latest_promises.proofs.Refused.{exactly}
use Rattle.latest_promises.proofs.FreeWord.{free_unused}
use Rattle.latest_promises.proofs.Bounds.{bound_from, next_late}

-- The numbers that the conditions tell.
numbers : {opening : ℕ} {book : List ℕ} {end late : ℤ} {b : List ℕ} {n p : ℕ} →
    Turned (ordering_rule opening) book (λ day. LatestTurned opening day end late b) n p → ((1 ≤ n) × (n ≤ 9)) ⊎ (n ≡ 17)
numbers (by_opening h) = inl (omega arith, omega arith)
numbers (by_book n p h r) = let k = ordering_numbered r in inl (k.0, omega (arith, k.1))
numbers (by_call n p day t (narrow l)) = inl (omega arith, omega arith)
numbers (by_call n p day t (unreachable wide none_allowed)) = inr refl

-- Buffers.
module _ (opening : ℕ) (book : List ℕ) (end late : ℤ) (b : List ℕ) where
  is : {x : Outcome Said} → latest opening book end late b ≡ x → Kept b x → Kept b (latest opening book end late b)
  is e k = subst (Kept b) (sym e) k

  of_order : (day : Day) (reads : read_by (ordering_rule opening) book ≡ accepted day) → length day.rows ≤ length b →
      (x : Option OrderFrom) → latest_order (jobs opening day) (row_numbers day) end late ≡ x → Kept b (latest opening book end late b)
  of_order day reads wide none e = is (says_unreachable opening book end late b day reads wide e) kept_no
  of_order day reads wide (some s) e =
      let k = (latest_with opening book end late b day reads wide s e).keeps in
      is (says_from opening book end late b day reads wide s e)
      (kept_yes (said_from s.minute (pair_of (jobs opening day) s.minute s.order)) s.order b refl
      (omega (arith, wide, (perm_count k.whole).0, rows_length opening book end late b day reads)))

  of_day : (day : Day) (reads : read_by (ordering_rule opening) book ≡ accepted day) → Dec (length day.rows ≤ length b) →
      Kept b (latest opening book end late b)
  of_day day reads (yes h) = of_order day reads h (latest_order (jobs opening day) (row_numbers day) end late) refl
  of_day day reads (no h) = is (says_narrow opening book end late b day reads (omega arith)) kept_no

  kept : Kept b (latest opening book end late b)
  kept = step (read_by (ordering_rule opening) book) refl
    where
      step : (x : Contents) → read_by (ordering_rule opening) book ≡ x → Kept b (latest opening book end late b)
      step (refused n p) e = is (ap (told said_latest) (call_refused opening book end late b n p e)) kept_no
      step (accepted day) e = of_day day e (dec_le (length day.rows) (length b))

pub latest_free_holds : LatestPromise
latest_free_holds = record {
  memory = λ opening book end late b. let k = kept opening book end late b in record {
    number = λ h. numbers ((exactly opening book end late b _ _).0 (h, refl, refl));
    buffer = k.refused;
    same_length = k.same_length;
  };
  refused = exactly;
  answered = λ opening book end late b day t wide.
      is_answered opening book end late b day ((takes (ordering_rule opening) book day).1 t) wide;
  free_word = free_unused;
  as_bound = bound_from;
  next_minute = next_late;
}
