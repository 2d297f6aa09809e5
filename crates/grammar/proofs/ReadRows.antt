-- Four words that pass the tests of a row are those of a row in range with a new number.
-- Assumes nothing.
use Prim.Native.Nat.{ℕ, ◌<◌}
use native.Mathlib.Omega.{arith}
use mathlib.Core.Bool.{Bool, true, false, cond}
use mathlib.Core.Path.{◌≡◌, refl}
use mathlib.Core.List.{List, [], ◌∷◌}
use lib.Dec.{eqb}
use lib.ListN.{length, drop}
use borrow.Author.Tests.{eqb-true}
use Rattle.schedule.specs.Limits.{latest_minute, latest_due}
use Rattle.std.specs.Prelude.{None, Some, Ok}
use Rattle.schedule.specs.Rows.{stands}
use Rattle.refusals.specs.Refusals.{by_twice}
use Rattle.refusals.proofs.Tests.{then_left, then_right, not_refused}
use Rattle.words.specs.Words.{kind, value, word}
use Rattle.words.proofs.Words.{word_fits}
use Rattle.row_reader.specs.Due.{class_of, tests_by, due_tests}
use Rattle.row_reader.specs.RowWords.{number_tests, row_tests}
use Rattle.row_reader.proofs.Tests.{Fit, row_fits}
use Rattle.grammar.specs.Books.{Sold, due, class, Entry, sold_word, SoldInRange, EntryInRange}
use Rattle.grammar.proofs.WordValues.{value_low, word_of_lem}
use Rattle.grammar.proofs.PassedWords.{kind_passed, word_passed}
use Rattle.grammar.proofs.WrittenRows.{words_before}

-- A due word or a class word.
pub record SoldTold (w : ℕ) : Type 0 where
  pub sold : Sold
  pub is_word : w ≡ sold_word sold
  pub ranged : SoldInRange sold

sold_told : (place : ℕ) (ws : List ℕ) → due_tests place ws ≡ Ok tt → SoldTold (word ws 3)
unfolding class_of tests_by
sold_told place ws t = go (eqb (kind (word ws 3)) 0) refl t
  where
    go : (b : Bool) → eqb (kind (word ws 3)) 0 ≡ b → tests_by (cond b (Some (value (word ws 3))) None) place ws ≡ Ok tt →
        SoldTold (word ws 3)
    go true e t = record {
      sold = class (value (word ws 3));
      is_word = word_of_lem 0 (word ws 3) (eqb-true (kind (word ws 3)) 0 e);
      ranged = (word_fits 0 0 7 place ws 3 t).most;
    }
    go false e t = record {
      sold = due (value (word ws 3));
      is_word = word_of_lem 6 (word ws 3) (word_passed 6 place ws 3 0 latest_due t);
      ranged = (word_fits 6 0 latest_due place ws 3 t).most;
    }

-- The words of a row.
pub record RowTold (numbers ws : List ℕ) : Type 0 where
  pub entry : Entry
  pub is_words : ws ≡ words_before entry (drop 4 ws)
  pub ranged : EntryInRange entry
  pub new : stands entry.number numbers ≡ false

-- Four words and the rest.
four : {a b c d : ℕ} (ws : List ℕ) → 3 < length ws → word ws 0 ≡ a → word ws 1 ≡ b → word ws 2 ≡ c → word ws 3 ≡ d →
    ws ≡ a ∷ b ∷ c ∷ d ∷ drop 4 ws
four [] h p q r s = let x : ⊥ = omega arith in absurd x
four (_ ∷ []) h p q r s = let x : ⊥ = omega arith in absurd x
four (_ ∷ _ ∷ []) h p q r s = let x : ⊥ = omega arith in absurd x
four (_ ∷ _ ∷ _ ∷ []) h p q r s = let x : ⊥ = omega arith in absurd x
four (_ ∷ _ ∷ _ ∷ _ ∷ ws) h p q r s = rw (p, q, r, s) refl

pub row_told : (numbers : List ℕ) (place : ℕ) (ws : List ℕ) → row_tests numbers place ws ≡ Ok tt → RowTold numbers ws
unfolding row_tests number_tests
row_told numbers place ws t =
    let f : Fit numbers ws = row_fits numbers place ws t in
    let n = then_left _ _ t in
    let r = then_right _ _ t in
    let p = then_right _ _ r in
    let s = sold_told place ws (then_right _ _ p) in
    let number = word_of_lem 3 (word ws 0) (kind_passed 3 place ws 0 (then_left _ _ n)) in
    let release = word_of_lem 4 (word ws 1) (word_passed 4 place ws 1 0 latest_minute (then_left _ _ r)) in
    let pages = word_of_lem 5 (word ws 2) (word_passed 5 place ws 2 1 2000 (then_left _ _ p)) in
    record {
      entry = record { number = value (word ws 0); release = value (word ws 1); pages = value (word ws 2); sold = s.sold };
      is_words = four ws f.due.there number release pages s.is_word;
      ranged = record {
        number = value_low (word ws 0);
        release = f.release.most;
        pages = (f.pages.least, f.pages.most);
        sold = s.ranged;
      };
      new = not_refused _ by_twice place (then_right _ _ (then_right _ _ n));
    }
