-- What a book has whose rows are all read: its length in words, its count of rows, and every number in its range.
-- Assumes nothing.
use Prim.Native.Nat.{ℕ, zero, suc, ◌+◌, ◌*◌, ◌≤◌, ◌<◌}
use native.Mathlib.Omega.{arith}
use mathlib.Core.Bool.{Bool, true, false, ◌&&◌}
use mathlib.Core.Path.{◌≡◌, refl, sym, ap, ◌∙◌, subst}
use mathlib.Core.List.{List, [], ◌∷◌, ◌++◌, Memᴰ}
use lib.Dec.{ltb, eqb}
use lib.ListN.{length, drop, get_or, length-drop, length-append, get_or-append}
use lib.Seq.{get_or_at}
use borrow.Author.Tests.{ltb-true, ltb-false}
use Rattle.schedule.specs.Limits.{latest_due, latest_minute, longest_length, most_rows, least_pace, most_pace, most_pages}
use Rattle.schedule.specs.declared.Row.{Row}
use Rattle.std.specs.Prelude.{Option, None, Some, Ok, Err}
use Rattle.schedule.specs.Rows.{no_row, row, Day, all_rows}
use Rattle.schedule.proofs.Numbers.{count_range}
use Rattle.refusals.specs.Tests.{Tested}
use Rattle.refusals.specs.Refusals.{by_tail}
use Rattle.words.specs.Words.{kind, value, word}
use Rattle.row_reader.specs.Due.{class_of, due_by}
use Rattle.row_reader.specs.Cited.{Margined}
use Rattle.row_reader.specs.Margins.{margin, ClassDue}
use Rattle.row_reader.specs.RowWords.{numbers_of, row_tests, row_of}
use Rattle.row_reader.specs.NearestMinute.{length_of}
use Rattle.book.specs.Rows.{Contents, refused, accepted, day_of, refused_or, end_stands, end_tests, tried_rows, read_rows}
use Rattle.book.specs.Book.{head_tests, read_words}
use Rattle.refusals.proofs.Tests.{never, then_right, not_refused}
use Rattle.row_reader.proofs.Tests.{and_left, and_right, Fit, row_fits}
use Rattle.book.proofs.Tests.{HeadFit, head_fits_lem}
use Rattle.row_reader.proofs.NearestMinute.{length_least, length_most}
use Rattle.book.proofs.Reached.{read_end, read_on_lem}

-- Contents that are accepted passed the test before them.
no_contents : {n p : ℕ} {day : Day} → refused n p ≡ accepted day → ⊥
no_contents e = never (cc)

pub or_tests : (o : Tested) (c : Contents) {day : Day} → refused_or o c ≡ accepted day → o ≡ Ok tt
or_tests (Ok _) c e = refl
or_tests (Err refusal) c e = absurd (no_contents e)

pub or_contents : (o : Tested) (c : Contents) {day : Day} → refused_or o c ≡ accepted day → c ≡ accepted day
or_contents (Ok _) c e = e
or_contents (Err refusal) c e = absurd (no_contents e)

-- The ranges of a row, and the due of its class.
pub record RowRanged (r : Row) : Type 0 where
  pub release : r.release ≤ latest_minute
  pub least : 1 ≤ r.length
  pub most : r.length ≤ longest_length
  pub class : ClassDue r
  pub due : r.due ≤ latest_due
  pub pages : (1 ≤ r.pages) × (r.pages ≤ most_pages)

abbrev pub AllRanged : List Row → Type 0
AllRanged rs = (i : ℕ) → i < length rs → RowRanged (get_or rs i no_row)

pub by_number : (rows : List Row) → AllRanged rows → (i : ℕ) → Memᴰ i (all_rows rows) → RowRanged (row rows i)
by_number rows r zero m = let x : ⊥ = omega (arith, (count_range 1 (length rows) m).0) in absurd x
by_number rows r (suc i) m = r i (omega (arith, (count_range 1 (length rows) m).1))

-- The due that a class gives.
class_due : (k : Option ℕ) (release minutes told c : ℕ) → Margined k → k ≡ Some c →
    (c < 8) × (due_by k release minutes told ≡ release + minutes + margin c)
unfolding due_by
class_due None release minutes told c m e = never (cc)
class_due (Some d) release minutes told c m e = let s : d ≡ c = cc in rw (← s) ((m, refl))

-- A pace that a book may tell.
abbrev pub Paced : ℕ → Type 0
Paced pace = (least_pace ≤ pace) × (pace ≤ most_pace)

row_ranged : (numbers : List ℕ) (pace : ℕ) (ws : List ℕ) → Paced pace → Fit numbers ws → RowRanged (row_of pace ws)
row_ranged numbers pace ws h f =
    let m = length_most (value (word ws 2)) pace f.pages.most h.0 in
    record {
      release = f.release.most;
      least = length_least (value (word ws 2)) pace f.pages.least h.0 h.1;
      most = m;
      class = λ c. class_due (class_of ws) (value (word ws 1)) (length_of (value (word ws 2)) pace) (value (word ws 3)) c f.due.class;
      due = f.due.most (value (word ws 1)) (length_of (value (word ws 2)) pace) f.release.most m;
      pages = (f.pages.least, f.pages.most);
    }

ranged_on : (rows : List Row) (r : Row) → AllRanged rows → RowRanged r → AllRanged (rows ++ (r ∷ []))
ranged_on rows r h g i l = go (ltb i (length rows)) (ltb-true i (length rows)) (ltb-false i (length rows))
  where
    go : (b : Bool) → (b ≡ true → i < length rows) → (b ≡ false → length rows ≤ i) → RowRanged (get_or (rows ++ (r ∷ [])) i no_row)
    go true p q = let k : i < length rows = p refl in rw (get_or-append rows (r ∷ []) no_row i k) (h i k)
    go false p q =
        let k : length rows ≤ i = q refl in
        let e : length rows ≡ i = omega (arith, length-append rows (r ∷ [])) in
        rw (get_or_at rows r [] no_row i e) g

-- The rows `rows` and the rest `ws` gave the day.
pub record Taken (free pace : ℕ) (rows : List Row) (ws : List ℕ) (day : Day) : Type 0 where
  pub same_free : day.free ≡ free
  pub few : length day.rows ≤ most_rows
  pub some : 1 ≤ length day.rows
  pub words : length ws + 4 * length rows ≡ 4 * length day.rows + 1
  pub ranged : Paced pace → AllRanged rows → AllRanged day.rows

end_taken : (free pace : ℕ) (rows : List Row) (place : ℕ) (ws : List ℕ) (day : Day) → length rows ≤ most_rows →
    end_stands (length rows) ws ≡ true →
    refused_or (end_tests (length rows) place ws) (accepted (day_of free rows)) ≡ accepted day → Taken free pace rows ws day
unfolding end_stands end_tests
end_taken free pace rows place ws day few e r =
    let o = or_tests (end_tests (length rows) place ws) (accepted (day_of free rows)) r in
    let k : accepted (day_of free rows) ≡ accepted day = or_contents (end_tests (length rows) place ws) (accepted (day_of free rows)) r in
    let frees : day.free ≡ free = cc in
    let sames : day.rows ≡ rows = cc in
    let n : length day.rows ≡ length rows = ap length sames in
    let seven = eqb (kind (word ws 0)) 7 in
    let one : length ws ≤ 1 = ltb-false 1 (length ws) (not_refused (ltb 1 (length ws)) by_tail (place + 1) (then_right _ _ o)) in
    let i : 0 < length rows = ltb-true 0 (length rows) (and_left (ltb 0 (length rows)) (ltb 0 (length ws) && seven) e) in
    let j : 0 < length ws =
    ltb-true 0 (length ws) (and_left (ltb 0 (length ws)) seven (and_right (ltb 0 (length rows)) (ltb 0 (length ws) && seven) e)) in
    record { same_free = frees; few = omega arith; some = omega arith; words = omega arith; ranged = λ p h. subst AllRanged (sym sames) h }

pub taken : (more free pace : ℕ) (rows : List Row) (place : ℕ) (ws : List ℕ) (day : Day) → length rows + more ≡ tried_rows →
    read_rows more free pace rows place ws ≡ accepted day → Taken free pace rows ws day
unfolding read_rows
taken zero free pace rows place ws day h r = absurd (no_contents r)
taken (suc more) free pace rows place ws day h r =
    go (end_stands (length rows) ws) refl (λ n. taken more free pace (rows ++ (row_of pace ws ∷ [])) (place + 4) (drop 4 ws) day n)
  where
    next : Contents
    next = read_rows more free pace (rows ++ (row_of pace ws ∷ [])) (place + 4) (drop 4 ws)

    go : (b : Bool) → end_stands (length rows) ws ≡ b →
        (length (rows ++ (row_of pace ws ∷ [])) + more ≡ tried_rows → next ≡ accepted day →
        Taken free pace (rows ++ (row_of pace ws ∷ [])) (drop 4 ws) day) →
        Taken free pace rows ws day
    go true e later = end_taken free pace rows place ws day (omega arith) e (sym (read_end more free pace rows place ws e) ∙ r)
    go false e later =
        let tests = row_tests (numbers_of rows) place ws in
        let q : refused_or tests next ≡ accepted day = sym (read_on_lem more free pace rows place ws e) ∙ r in
        let fit = row_fits (numbers_of rows) place ws (or_tests tests next q) in
        let n : length (rows ++ (row_of pace ws ∷ [])) ≡ length rows + 1 = length-append rows (row_of pace ws ∷ []) in
        let w = later (omega arith) (or_contents tests next q) in
        record {
          same_free = w.same_free;
          few = w.few;
          some = w.some;
          words = omega (arith, w.words, fit.due.there, length-drop 4 ws);
          ranged = λ p g. w.ranged p (ranged_on rows (row_of pace ws) g (row_ranged (numbers_of rows) pace ws p fit));
        }

-- The rows of a book whose head passed.
abbrev pub book_rows : List ℕ → Contents
book_rows ws = read_rows tried_rows (value (word ws 0)) (value (word ws 1)) [] 2 (drop 2 ws)

-- A book that passed tests 1 to 7: its head, its rows, and its length in words.
pub record WholeBook (ws : List ℕ) (day : Day) : Type 0 where
  pub head : HeadFit ws
  pub free : day.free ≡ value (word ws 0)
  pub few : length day.rows ≤ most_rows
  pub some : 1 ≤ length day.rows
  pub words : length ws ≡ 4 * length day.rows + 3
  pub ranged : AllRanged day.rows

pub whole_words : (ws : List ℕ) (day : Day) → read_words ws ≡ accepted day → WholeBook ws day
unfolding read_words
whole_words ws day e =
    let h = head_fits_lem ws (or_tests (head_tests ws) (book_rows ws) e) in
    let t = taken tried_rows (value (word ws 0)) (value (word ws 1)) [] 2 (drop 2 ws) day refl
    (or_contents (head_tests ws) (book_rows ws) e) in
    record {
      head = h;
      free = t.same_free;
      few = t.few;
      some = t.some;
      words = omega (arith, t.words, h.pace.there, length-drop 2 ws);
      ranged = t.ranged (h.pace.least, h.pace.most) (λ i l. let x : ⊥ = omega arith in absurd x);
    }
