-- The place of a row in its book, and the four words that stand there.
-- Assumes nothing.
use Rattle.refusals.specs.Tests.{refusal_at}
use Rattle.std.specs.Prelude.{Ok, Err}
use Prim.Native.Nat.{ℕ, ◌+◌, ◌*◌, ◌≤◌}
use native.Mathlib.Omega.{arith}
use mathlib.Core.Bool.{Bool, true, false, cond, ◌||◌}
use mathlib.Core.Path.{◌≡◌, refl, sym, ◌∙◌}
use mathlib.Core.List.{List, []}
use lib.Dec.{ltb, eqb}
use lib.ListN.{length, take, drop}
use borrow.Author.Tests.{ltb-false, eqb-false}
use Rattle.schedule.specs.declared.Profile.{Profile}
use Rattle.schedule.specs.Rows.{Day}
use Rattle.schedule.proofs.Tests.{neither}
use Rattle.refusals.specs.declared.Refusal.{Refusal}
use Rattle.refusals.specs.Refusals.{by_unlisted}
use Rattle.refusals.proofs.Tests.{never}
use Rattle.pairs.specs.Pairs.{number_word}
use Rattle.book.specs.Rows.{Contents, refused, accepted}
use Rattle.book.proofs.Whole.{whole_words}
use Rattle.readers.specs.Reads.{without_opening, read_by}
use Rattle.readers.proofs.Accepted.{read_words_gave}
use Rattle.row_calls.specs.Places.{RowPlace, place_in, place_call, row_words_at}
use Rattle.row_calls.specs.Cited.{WordsInside}

-- The book is refused.
pub place_refused : (x : Contents) (refusal : Refusal) (k : ℕ) → x ≡ refused refusal.number refusal.place → Err refusal ≡ place_in x k
unfolding place_in
place_refused x refusal k e = rw e refl

-- It has no row of that number; it has one. `count` is how many rows it has.
module _ (count : ℕ) (day : Day) (counts : count ≡ length day.rows) (k : ℕ) where
  pub place_unlisted : (eqb k 0 || ltb count k) ≡ true → Err (refusal_at by_unlisted count) ≡ place_in (accepted day) k
  unfolding place_in
  place_unlisted f = rw (← counts, f) refl

  pub place_listed : (eqb k 0 || ltb count k) ≡ false → Ok (number_word k) ≡ place_in (accepted day) k
  unfolding place_in
  place_listed f = rw (← counts, f) refl

-- A row that is found: its four words stand in the book.
pub inside : (profile : Profile) (book : List ℕ) (k : ℕ) (x : RowPlace) → x ≡ place_call profile book k → WordsInside x book
unfolding place_in
inside profile book k x g a h = go (read_by (without_opening profile) book) refl (sym h ∙ g)
  where
    listed : (count : ℕ) (b : Bool) → (eqb k 0 || ltb count k) ≡ b → length book ≡ 4 * count + 3 →
        Ok a ≡ cond b (Err (refusal_at by_unlisted count)) (Ok (number_word k)) → a + 4 ≤ length book
    listed count true t w e = never (cc)
    listed count false t w e =
        let z : k ≡ 0 → ⊥ = eqb-false k 0 (neither (eqb k 0) (ltb count k) t).0 in
        let l : k ≤ count = ltb-false count k (neither (eqb k 0) (ltb count k) t).1 in
        let p : a ≡ number_word k = cc in
        omega arith

    go : (y : Contents) → read_by (without_opening profile) book ≡ y → Ok a ≡ place_in y k → a + 4 ≤ length book
    go (refused n p) r e = never (cc)
    go (accepted day) r e =
        listed (length day.rows) (eqb k 0 || ltb (length day.rows) k) refl
        (whole_words book day (read_words_gave (without_opening profile) book day r)).words e

-- The words at a place, and at none.
pub words_found : (book : List ℕ) (x : RowPlace) (a : ℕ) → x ≡ Ok a → take 4 (drop a book) ≡ row_words_at x book
words_found book x a e = rw e

pub words_refused : (book : List ℕ) (x : RowPlace) (refusal : Refusal) → x ≡ Err refusal → ◌≡◌ {A = List ℕ} [] (row_words_at x book)
words_refused book x refusal e = rw e
