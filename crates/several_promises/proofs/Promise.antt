-- What is promised of the call for several desks holds. Assumes nothing.
use Prim.Native.Nat.{ℕ, ◌*◌, ◌≤◌}
use native.Mathlib.Omega.{arith}
use native.Mathlib.Decide.{dec_le}
use mathlib.Core.Bool.{Bool, true, false}
use mathlib.Core.Path.{◌≡◌, refl, sym, ◌∙◌, subst}
use mathlib.Core.List.{List, [], ◌∷◌, flatten, Memᴰ}
use mathlib.Core.Logic.{◌⊎◌, inl, inr}
use mathlib.Core.Option.{Option, none, some}
use lib.ListN.{length, length-append}
use Rattle.schedule.specs.Limits.{latest_book_end}
use Rattle.schedule.specs.Rows.{Day}
use Rattle.schedule.proofs.Orders.{perm_count}
use Rattle.schedule.proofs.Numbers.{length_count}
use Rattle.readers.specs.Reads.{ordering_rule}
use Rattle.readers.specs.Accepted.{AcceptedDay}
use Rattle.outcomes.specs.Planning.{Outcome, gives}
use Rattle.promises.proofs.Memory.{Kept, kept_no, kept_yes}
use Rattle.promises.proofs.Promise.{ranges}
use Rattle.promises.proofs.Numbers.{ordering_numbered}
use Rattle.overtime.specs.Choices.{overtimes, Chosen, best_choice}
use Rattle.overtime.specs.Best.{ChoiceOf, pairs_by}
use Rattle.overtime.proofs.Best.{measured}
use Rattle.several_lent.specs.Lent.{books_of, lent_amiss}
use Rattle.several_books.specs.Days.{DesksRead, refused_at, days, read_desks, rows_of}
use Rattle.several_lent.proofs.Sums.{lent_right}
use Rattle.several.specs.Calls.{SeveralAnswer, desks_of, days_outcome, several_call}
use Rattle.several.specs.Answers.{said_several, said_chosen}
use Rattle.several.proofs.Outcomes.{days_narrow, days_none, days_some, call_amiss, call_refused}
use Rattle.several_promises.specs.Table.{TakesAll, Right, SeveralTurned, lent, book, narrow, overtime}
use Rattle.several_promises.specs.Promise.{SeveralPromise}
use Rattle.several_promises.proofs.Books.{days_taken}
use Rattle.several_promises.proofs.Answered.{all_accepted, promise, call_of_days, is_answered}
use Rattle.several_promises.proofs.Refused.{exactly}

-- The numbers that the conditions tell.
numbers : {opening : ℕ} {books lengths closings : List ℕ} {limit : ℕ} {b : List ℕ} {n p d : ℕ} →
    SeveralTurned opening books lengths closings limit b n p d → ((1 ≤ n) × (n ≤ 9)) ⊎ (n ≡ 16)
numbers (lent w) = inl (omega arith, omega arith)
numbers (book right n p e l before r) = let h = ordering_numbered r in inl (h.0, omega (arith, h.1))
numbers (narrow right ds t l) = inl (omega arith, omega arith)
numbers (overtime right ds t wide n) = inr refl

-- The orders of a choice have a word for each row.
choice_rows : (opening : ℕ) (ds : List Day) (orders : List (List ℕ)) → ChoiceOf (desks_of opening ds) orders →
    length (flatten orders) ≡ rows_of ds
unfolding flatten rows_of
choice_rows opening [] [] c = refl
choice_rows opening [] (o ∷ os) c = absurd c
choice_rows opening (d ∷ ds) [] c = absurd c
choice_rows opening (d ∷ ds) (o ∷ os) c =
    length-append o (flatten os) ∙
    omega (arith, (perm_count c.0).0, length_count 1 (length d.rows), choice_rows opening ds os c.1)

-- Overtimes of days whose rows are in range.
most : (opening : ℕ) (closings : List ℕ) (ds : List Day) → ((day : Day) → Memᴰ day ds → AcceptedDay (ordering_rule opening) day) →
    (orders : List (List ℕ)) → ChoiceOf (desks_of opening ds) orders →
    overtimes closings (pairs_by (desks_of opening ds) orders) ≤ latest_book_end * length ds
unfolding overtimes pairs_by
most opening [] ds a os c = omega arith
most opening (k ∷ ks) [] a os c = omega arith
most opening (k ∷ ks) (d ∷ ds) a [] c = absurd c
most opening (k ∷ ks) (d ∷ ds) a (o ∷ os) c =
    omega (arith, (ranges (a d (Memᴰ.head refl)) o c.0).0, most opening ks ds (λ day m. a day (Memᴰ.tail m)) os c.1)

-- Buffers.
module _ (opening : ℕ) (books lengths closings : List ℕ) (limit : ℕ) (b : List ℕ) where
  abbrev KeptBy : Outcome SeveralAnswer → Type 0
  KeptBy x = Kept b (gives (said_several x.answer).said x.buffer)

  abbrev call : Outcome SeveralAnswer
  call = several_call opening books lengths closings limit b

  is : {x : Outcome SeveralAnswer} → call ≡ x → KeptBy x → KeptBy call
  is e k = subst KeptBy (sym e) k

  module _ (right : Right opening books lengths closings limit b) where
    of_days : (ds : List Day) → TakesAll opening books lengths ds → KeptBy call
    of_days ds t = room (dec_le (rows_of ds) (length b))
      where
        is_days : call ≡ days_outcome opening closings limit b ds
        is_days = call_of_days opening books lengths closings limit b ds right t

        best : rows_of ds ≤ length b → (x : Option Chosen) → best_choice limit closings (desks_of opening ds) ≡ x → KeptBy call
        best wide none e = is (is_days ∙ days_none opening closings limit b ds wide e) kept_no
        best wide (some a) e =
            let c = ((promise opening books lengths closings limit b ds right t).best a e).kept.0 in
            is (is_days ∙ days_some opening closings limit b ds wide a e)
            (kept_yes (said_chosen a.late a.overtime).said (flatten a.orders) b refl
            (omega (arith, choice_rows opening ds a.orders c)))

        room : Dec (rows_of ds ≤ length b) → KeptBy call
        room (yes wide) = best wide (best_choice limit closings (desks_of opening ds)) refl
        room (no l) = is (is_days ∙ days_narrow opening closings limit b ds (omega arith)) kept_no

    of_books : (x : DesksRead) → read_desks (ordering_rule opening) 1 (books_of lengths books) ≡ x → KeptBy call
    of_books (days ds) e = of_days ds ((days_taken opening books lengths ds).0 e)
    of_books (refused_at n p d) e =
        is (call_refused opening books lengths closings limit b ((lent_right opening (length books) lengths closings limit).1 right) n p
        d e)
        kept_no

  of_lent : (x : Bool) → lent_amiss opening (length books) lengths closings limit ≡ x → KeptBy call
  of_lent true e = is (call_amiss opening books lengths closings limit b e) kept_no
  of_lent false e =
      of_books ((lent_right opening (length books) lengths closings limit).0 e)
      (read_desks (ordering_rule opening) 1 (books_of lengths books)) refl

  kept : KeptBy call
  kept = of_lent (lent_amiss opening (length books) lengths closings limit) refl

pub several_desks_hold : SeveralPromise
several_desks_hold = record {
  measures = measured;
  memory = λ opening books lengths closings limit b. let k = kept opening books lengths closings limit b in record {
    number = λ h. numbers ((exactly opening books lengths closings limit b _ _ _).0 ((h, refl, refl), refl));
    buffer = k.refused;
    same_length = k.same_length;
  };
  refused = exactly;
  answered = λ opening books lengths closings limit b ds right t wide.
      is_answered opening books lengths closings limit b ds right t wide;
  most_overtime = λ opening books lengths closings ds t orders c.
      most opening closings ds (all_accepted opening books lengths ds t) orders c;
}
