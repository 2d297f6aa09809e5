-- What passed tests say of the words of a row.
-- Assumes nothing.
use Prim.Native.Nat.{ℕ, zero, suc, ◌≤◌, ◌<◌}
use native.Mathlib.Omega.{arith}
use mathlib.Core.Bool.{Bool, true, false, cond, ◌&&◌}
use mathlib.Core.Path.{◌≡◌, refl}
use mathlib.Core.List.{List, [], ◌∷◌}
use lib.Dec.{leb, eqb}
use lib.ListN.{length, get_or}
use borrow.Author.Tests.{leb-false, leb-true}
use Rattle.schedule.specs.Limits.{latest_due, latest_minute, longest_length, most_rows}
use Rattle.std.specs.Prelude.{Option, None, Some, Ok}
use Rattle.refusals.proofs.Tests.{never, then_left, then_right, not_refused}
use Rattle.words.specs.Words.{kind, value, word}
use Rattle.words.proofs.Words.{Word, word_fits}
use Rattle.row_reader.specs.Due.{class_of, tests_by, due_tests, due_by, due_of}
use Rattle.row_reader.specs.Cited.{Margined}
use Rattle.row_reader.specs.Margins.{margins, margin}
use Rattle.row_reader.specs.RowWords.{number_tests, row_tests}

-- Bools taken apart.
pub and_left : (a b : Bool) → (a && b) ≡ true → a ≡ true
and_left true b e = refl
and_left false b e = e

pub and_right : (a b : Bool) → (a && b) ≡ true → b ≡ true
and_right true b e = e
and_right false b e = never (cc)

-- The margins: no entry of a table is above m if the test of all of them says so.
abbrev all_at_most : ℕ → List ℕ → Bool
all_at_most m [] = true
all_at_most m (x ∷ xs) = leb x m && all_at_most m xs

entry_most : (m : ℕ) (xs : List ℕ) → all_at_most m xs ≡ true → (i : ℕ) → get_or xs i 0 ≤ m
entry_most m [] e i = omega arith
entry_most m (x ∷ xs) e zero = leb-true x m (and_left (leb x m) (all_at_most m xs) e)
entry_most m (x ∷ xs) e (suc i) = entry_most m xs (and_right (leb x m) (all_at_most m xs) e) i

pub margin_most : (c : ℕ) → margin c ≤ 43200
margin_most c = entry_most 43200 margins refl c

-- A class is the value of its word.
class_value : (ws : List ℕ) (c : ℕ) → class_of ws ≡ Some c → c ≡ value (word ws 3)
unfolding class_of
class_value ws c e = go (eqb (kind (word ws 3)) 0) e
  where
    go : (b : Bool) → cond b (Some (value (word ws 3))) None ≡ Some c → c ≡ value (word ws 3)
    go true g = cc
    go false g = never (cc)

-- A due word or a class word that passed, and the due that it gives.
pub record DueFit (ws : List ℕ) : Type 0 where
  pub there : 3 < length ws
  pub class : Margined (class_of ws)
  pub most : (release minutes : ℕ) → release ≤ latest_minute → minutes ≤ longest_length → due_of release minutes ws ≤ latest_due

due_fits : (place : ℕ) (ws : List ℕ) → due_tests place ws ≡ Ok tt → DueFit ws
unfolding tests_by due_by
due_fits place ws e = let g = go (class_of ws) (class_value ws) e in record { there = g.0; class = g.1; most = g.2 }
  where
    go : (k : Option ℕ) → ((c : ℕ) → k ≡ Some c → c ≡ value (word ws 3)) → tests_by k place ws ≡ Ok tt →
        (3 < length ws) × Margined k × ((release minutes : ℕ) → release ≤ latest_minute → minutes ≤ longest_length →
        due_by k release minutes (value (word ws 3)) ≤ latest_due)
    go None same f = let w = word_fits 6 0 latest_due place ws 3 f in (w.there, tt, λ release minutes r l. w.most)
    go (Some c) same f =
        let w = word_fits 0 0 7 place ws 3 f in
        let v : c ≡ value (word ws 3) = same c refl in
        (w.there, omega (arith, w.most), λ release minutes r l. omega (arith, margin_most c))

-- The four words of a row that passed, after the numbers read so far.
pub record Fit (numbers ws : List ℕ) : Type 0 where
  pub room : length numbers < most_rows
  pub release : Word 0 latest_minute ws 1
  pub pages : Word 1 2000 ws 2
  pub due : DueFit ws

pub row_fits : (numbers : List ℕ) (place : ℕ) (ws : List ℕ) → row_tests numbers place ws ≡ Ok tt → Fit numbers ws
unfolding row_tests number_tests
row_fits numbers place ws e =
    let n = then_right _ _ (then_left _ _ e) in
    let r = then_right _ _ e in
    let p = then_right _ _ r in
    record {
      room = leb-false most_rows (length numbers) (not_refused _ _ _ (then_left _ _ n));
      release = word_fits 4 0 latest_minute place ws 1 (then_left _ _ r);
      pages = word_fits 5 1 2000 place ws 2 (then_left _ _ p);
      due = due_fits place ws (then_right _ _ p);
    }
