-- The rest of a book after the rows read so far: it gives a day exactly if it is written from more rows and the end word.
-- Assumes nothing.
use Prim.Native.Nat.{ℕ, zero, suc, ◌+◌, ◌≤◌}
use native.Mathlib.Omega.{arith}
use mathlib.Core.Bool.{Bool, true, false}
use mathlib.Core.Path.{◌≡◌, refl, sym, ap, ◌∙◌, subst}
use mathlib.Core.List.{List, [], ◌∷◌, ◌++◌, map, append_assoc, append-nil, Memᴰ}
use mathlib.Core.List.Memᴰ
use mathlib.Core.Logic.{◌⊎◌, inl, inr}
use lib.ListN.{length, drop, length-append, length-map}
use Rattle.schedule.specs.Limits.{most_rows}
use Rattle.schedule.specs.declared.Row.{Row}
use Rattle.schedule.specs.Rows.{Day}
use Rattle.refusals.proofs.Tests.{never}
use Rattle.row_reader.specs.RowWords.{numbers_of, row_tests, row_of}
use Rattle.book.specs.Rows.{Contents, accepted, day_of, refused_or, end_stands, end_tests, tried_rows, read_rows}
use Rattle.book.proofs.Reached.{read_end, read_on_lem}
use Rattle.book.proofs.Whole.{or_tests, or_contents}
use Rattle.grammar.specs.Books.{Entry, word_of, entry_words, row_by, EntryInRange, NumbersDiffer}
use Rattle.grammar.proofs.WrittenRows.{words_before, row_made, row_passes}
use Rattle.grammar.proofs.ReadRows.{RowTold, row_told}
use Rattle.grammar.proofs.NewNumbers.{New, new_on, new_back, differ_back}
use Rattle.grammar.proofs.EndWord.{end_not_yet, end_here, end_passes, end_told}

-- Entries that may follow the rows read so far.
pub record MayFollow (rows : List Row) (es : List Entry) : Type 0 where
  pub some_row : 1 ≤ length rows + length es
  pub few_rows : length rows + length es ≤ most_rows
  pub ranged : (e : Entry) → Memᴰ e es → EntryInRange e
  pub differ : NumbersDiffer es
  pub new : New rows es

-- The words of such entries, and the end word.
abbrev pub rest_of : List Row → List Entry → List ℕ
rest_of rows es = entry_words es ++ (word_of 7 (length rows + length es) ∷ [])

rest_end : (rows : List Row) → rest_of rows [] ≡ word_of 7 (length rows) ∷ []
rest_end rows = let none : length rows + 0 ≡ length rows = omega arith in rw none refl

-- One row more is read.
module _ (pace : ℕ) (rows : List Row) (e : Entry) (es : List Entry) where
  abbrev more_rows : List Row
  more_rows = rows ++ (row_by pace e ∷ [])

  count_on : length more_rows + length es ≡ length rows + length (e ∷ es)
  count_on = omega (arith, length-append rows (row_by pace e ∷ []))

  rest_on : rest_of rows (e ∷ es) ≡ words_before e (rest_of more_rows es)
  rest_on = rw count_on refl

  rows_on : more_rows ++ map (row_by pace) es ≡ rows ++ map (row_by pace) (e ∷ es)
  rows_on = append_assoc rows (row_by pace e ∷ []) (map (row_by pace) es)

  follow_on : MayFollow rows (e ∷ es) → MayFollow more_rows es
  follow_on m = record {
    some_row = omega (arith, m.some_row, count_on);
    few_rows = omega (arith, m.few_rows, count_on);
    ranged = λ f k. m.ranged f (Memᴰ.tail k);
    differ = m.differ.1;
    new = new_on rows (row_by pace e) e es refl m.new m.differ;
  }

-- What is written is read.
pub rest_read : (more free pace : ℕ) (rows : List Row) (place : ℕ) (es : List Entry) → length rows + more ≡ tried_rows →
    MayFollow rows es → read_rows more free pace rows place (rest_of rows es) ≡ accepted (day_of free (rows ++ map (row_by pace) es))
rest_read zero free pace rows place es h m = let x : ⊥ = omega (arith, m.few_rows) in absurd x
rest_read (suc more) free pace rows place [] h m =
    let n = length rows in
    let ws = word_of 7 n ∷ [] in
    rw (rest_end rows, append-nil rows)
    (read_end more free pace rows place ws (end_here n (omega (arith, m.some_row)) (omega (arith, m.few_rows)))
    ∙ rw (end_passes n place (omega (arith, m.few_rows))) refl)
rest_read (suc more) free pace rows place (e ∷ es) h m =
    let on = more_rows pace rows e es in
    let rest = rest_of on es in
    let ws = words_before e rest in
    let r = m.ranged e (Memᴰ.head refl) in
    let later = rest_read more free pace on (place + 4) es (omega (arith, length-append rows (row_by pace e ∷ [])))
    (follow_on pace rows e es m) in
    let tests = row_passes e r rest (numbers_of rows) place (omega (arith, m.few_rows, length-map rows (λ (r : Row). r.number)))
    (m.new e (Memᴰ.head refl)) in
    rw (rest_on pace rows e es)
    (read_on_lem more free pace rows place ws (end_not_yet (length rows) e.number _ r.number)
    ∙ rw (tests, row_made e r rest pace) (later ∙ ap (λ (rs : List Row). accepted (day_of free rs)) (rows_on pace rows e es)))

-- The entries of a rest.
pub record RestTold (free pace : ℕ) (rows : List Row) (ws : List ℕ) (day : Day) : Type 0 where
  pub entries : List Entry
  pub may : MayFollow rows entries
  pub is_words : ws ≡ rest_of rows entries
  pub is_day : day ≡ day_of free (rows ++ map (row_by pace) entries)

end_rest : (free pace : ℕ) (rows : List Row) (place : ℕ) (ws : List ℕ) (day : Day) → length rows ≤ most_rows →
    end_stands (length rows) ws ≡ true → refused_or (end_tests (length rows) place ws) (accepted (day_of free rows)) ≡ accepted day →
    RestTold free pace rows ws day
end_rest free pace rows place ws day few e r =
    let tests = end_tests (length rows) place ws in
    let told = end_told (length rows) place ws e (or_tests tests (accepted (day_of free rows)) r) in
    let one : accepted (day_of free rows) ≡ accepted day = or_contents tests (accepted (day_of free rows)) r in
    let same : day ≡ day_of free rows = cc in
    record {
      entries = [];
      may = record {
        some_row = omega (arith, told.0);
        few_rows = omega arith;
        ranged = λ f m. absurd (Memᴰ.not-nil m);
        differ = tt;
        new = λ f m. absurd (Memᴰ.not-nil m);
      };
      is_words = told.1 ∙ sym (rest_end rows);
      is_day = rw (append-nil rows) same;
    }

row_rest : (free pace : ℕ) (rows : List Row) (ws : List ℕ) (day : Day) (t : RowTold (numbers_of rows) ws) →
    RestTold free pace (rows ++ (row_by pace t.entry ∷ [])) (drop 4 ws) day → RestTold free pace rows ws day
row_rest free pace rows ws day t later =
    let e = t.entry in
    let es = later.entries in
    let r = row_by pace e in
    let count = count_on pace rows e es in
    record {
      entries = e ∷ es;
      may = record {
        some_row = omega arith;
        few_rows = omega (arith, later.may.few_rows);
        ranged = λ f m. ranged_back e es t.ranged later.may.ranged f (Memᴰ.cases_cons m);
        differ = differ_back rows r e es refl later.may.new later.may.differ;
        new = new_back rows r e es refl t.new later.may.new;
      };
      is_words = t.is_words ∙ ap (words_before e) later.is_words ∙ sym (rest_on pace rows e es);
      is_day = later.is_day ∙ ap (day_of free) (rows_on pace rows e es);
    }
  where
    ranged_back : (e : Entry) (es : List Entry) → EntryInRange e → ((f : Entry) → Memᴰ f es → EntryInRange f) →
        (f : Entry) → (f ≡ e) ⊎ Memᴰ f es → EntryInRange f
    ranged_back e es r h f (inl p) = rw p r
    ranged_back e es r h f (inr m) = h f m

-- What is read is written.
pub rest_told : (more free pace : ℕ) (rows : List Row) (place : ℕ) (ws : List ℕ) (day : Day) → length rows + more ≡ tried_rows →
    read_rows more free pace rows place ws ≡ accepted day → RestTold free pace rows ws day
unfolding read_rows
rest_told zero free pace rows place ws day h r = never (cc)
rest_told (suc more) free pace rows place ws day h r =
    go (end_stands (length rows) ws) refl (λ n. rest_told more free pace (rows ++ (row_of pace ws ∷ [])) (place + 4) (drop 4 ws) day n)
  where
    next : Contents
    next = read_rows more free pace (rows ++ (row_of pace ws ∷ [])) (place + 4) (drop 4 ws)

    go : (b : Bool) → end_stands (length rows) ws ≡ b →
        (length (rows ++ (row_of pace ws ∷ [])) + more ≡ tried_rows → next ≡ accepted day →
        RestTold free pace (rows ++ (row_of pace ws ∷ [])) (drop 4 ws) day) →
        RestTold free pace rows ws day
    go true e later = end_rest free pace rows place ws day (omega arith) e (sym (read_end more free pace rows place ws e) ∙ r)
    go false e later =
        let tests = row_tests (numbers_of rows) place ws in
        let q : refused_or tests next ≡ accepted day = sym (read_on_lem more free pace rows place ws e) ∙ r in
        let t = row_told (numbers_of rows) place ws (or_tests tests next q) in
        let made : row_of pace ws ≡ row_by pace t.entry =
        ap (row_of pace) t.is_words ∙ row_made t.entry t.ranged (drop 4 ws) pace in
        let rest = later (omega (arith, length-append rows (row_of pace ws ∷ []))) (or_contents tests next q) in
        row_rest free pace rows ws day t (subst (λ (x : Row). RestTold free pace (rows ++ (x ∷ [])) (drop 4 ws) day) made rest)
