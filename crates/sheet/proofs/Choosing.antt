-- The choice of the lines: what the odd bytes and the answer of the list make of them.
-- Assumes nothing.
use Prim.Native.Nat.{ℕ, ◌*◌, ◌/◌, ◌≤◌}
use mathlib.Core.Bool.{true, false}
use mathlib.Core.Path.{◌≡◌, refl, ap, sym, ◌∙◌}
use mathlib.Core.List.{List}
use native.Mathlib.Omega.{arith}
use lib.ListN.{length, length-take}
use Rattle.std.specs.Prelude.{Result, Ok, Err}
use Rattle.schedule.specs.declared.Profile.TheVariants.{Ordering}
use Rattle.schedule.specs.Rows.{Day}
use Rattle.schedule.specs.Profiles.{plans_by}
use Rattle.schedule.proofs.Numbers.{length_count}
use Rattle.refusals.proofs.Tests.{never}
use Rattle.refusals.specs.Tests.{refusal_at}
use Rattle.book.specs.declared.Table.{Table}
use Rattle.refusals.specs.declared.Refusal.{Refusal}
use Rattle.book.specs.Rows.{Contents, refused, accepted}
use Rattle.book.specs.Book.{read_words}
use Rattle.book.specs.Tables.{table_of, table_rows, reading_of}
use Rattle.book.proofs.Tables.{table_rows_lem}
use Rattle.readers.specs.Reads.{read_by}
use Rattle.readers.proofs.Accepted.{read_words_gave, accepted_day}
use Rattle.outcomes.specs.Outcomes.{ListAnswer}
use Rattle.outcomes.specs.Planning.{Outcome, gives, planning_of}
use Rattle.outcomes.proofs.OutcomeLaws.{list_is}
use Rattle.calls.specs.Answers.{said_list}
use Rattle.calls.specs.Calls.{list_call}
use Rattle.calls.specs.Lines.{refusal, printed}
use Rattle.calls.proofs.CallLaws.{list_refused, list_of}
use Rattle.promises.specs.Vocabulary.{told, listed}
use Rattle.promises.proofs.Kept.{listed_same}
use Rattle.promises.proofs.Promise.{day_sound}
use Rattle.sheet.specs.Printing.{slate_terms, prints}
use Rattle.planner.proofs.Promise.{lent_memory}
use Rattle.input.specs.Input.{words_in, odd, Counted}
use Rattle.lines.specs.LineBytes.{refused_line}
use Rattle.lines.specs.Added.{Added}
use Rattle.sheet.specs.Shown.{bytes_of, shown}
use Rattle.sheet.proofs.Standing.{day_in, plans_of, Heard}

pub odd_shown : (input : List ℕ) → odd input ≡ true → shown input ≡ refused_line 1 (length input / 4)
unfolding shown bytes_of prints
odd_shown input o = rw (prints, o) refl

pub even_shown : (input book : List ℕ) → book ≡ words_in 1028 input → odd input ≡ false → shown input ≡ bytes_of (printed slate_terms book)
unfolding shown prints
even_shown input book e o = rw (prints, o, e) refl

module _ (book b after : List ℕ) (room : length b ≡ 512) where
  -- A list of an accepted day, in a buffer of 512 words.
  wide : (day : Day) → read_by slate_terms book ≡ accepted day → 2 * length (planning_of Ordering 0 day).left ≤ length b
  wide day r = omega (arith, (accepted_day slate_terms book day r).few_rows, length_count 1 (length day.rows))

  turned : (x : Contents) → read_by slate_terms book ≡ x → (n p : ℕ) →
      gives (Err (refusal_at n p)) after ≡ list_call slate_terms book b → printed slate_terms book ≡ refusal n p
  unfolding printed
  turned (refused m q) r n p g =
      let a : Err (refusal_at n p) ≡ Err (refusal_at m q) =
      ap (λ (y : Outcome ListAnswer). y.answer) (g ∙ list_refused slate_terms book m q r b) in
      let one : ◌≡◌ {A = Refusal} (refusal_at n p) (refusal_at m q) = cc in
      let i : n ≡ m = ap (λ (r : Refusal). r.number) one in
      let j : p ≡ q = ap (λ (r : Refusal). r.place) one in
      rw (printed, r, i, j) refl
  turned (accepted day) r n p g =
      let is = list_of slate_terms book day r b ∙ list_is (planning_of Ordering 0 day) b (wide day r) in
      let a : Err (refusal_at n p) ≡ Ok (length (planning_of Ordering 0 day).plans) =
      ap (λ (y : Outcome ListAnswer). y.answer) (g ∙ is) in
      never (cc)

  -- The list is refused: so is the book.
  pub list_turned : (n p : ℕ) → gives (Err (refusal_at n p)) after ≡ list_call slate_terms book b →
      bytes_of (printed slate_terms book) ≡ refused_line n p
  unfolding bytes_of
  list_turned n p g = ap bytes_of (turned (read_by slate_terms book) refl n p g)

  heard : (count : ℕ) (t : Table) → read_by slate_terms book ≡ accepted (day_in t) → length (table_rows t) ≡ t.count →
      gives (Ok count) after ≡ list_call slate_terms book b → Heard book t count after
  unfolding plans_by
  heard count t r n e =
      let g = planning_of Ordering 0 (day_in t) in
      let a = accepted_day slate_terms book (day_in t) r in
      let s = day_sound a in
      let is = list_of slate_terms book (day_in t) r b ∙ list_is g b (wide (day_in t) r) in
      let c : count ≡ length (plans_of t) = cc (ap (λ (y : Outcome ListAnswer). y.answer) (e ∙ is)) in
      let few : length (plans_of t) ≤ length g.left = s.promise.few.1 in
      record {
        read = r;
        few = omega (arith, a.few_rows, n);
        fits = omega (arith, c, few, a.few_rows, length_count 1 (length (table_rows t)));
        rows = n;
        size = ap length (ap (λ (y : Outcome ListAnswer). y.buffer) e) ∙ (((lent_memory 0).of_list book b).same_length ∙ room);
        counted = sym c;
        listed = ap (λ (y : Outcome ListAnswer). listed (told said_list y)) (e ∙ list_of slate_terms book (day_in t) r b) ∙
            listed_same g s b (wide (day_in t) r);
      }

  listed_day : (count : ℕ) (x : Contents) → read_by slate_terms book ≡ x →
      gives (Ok count) after ≡ list_call slate_terms book b → (day : Day) × (read_by slate_terms book ≡ accepted day)
  listed_day count (accepted day) r g = (day, r)
  listed_day count (refused m q) r g =
      let a : ◌≡◌ {A = ListAnswer} (Ok count) (Err (refusal_at m q)) =
      ap (λ (y : Outcome ListAnswer). y.answer) (g ∙ list_refused slate_terms book m q r b) in
      never (cc)

  -- The plans are listed: the book has a table, which is heard with them.
  pub list_heard : (count : ℕ) (r : Result Table Refusal) → r ≡ reading_of (read_words book) →
      gives (Ok count) after ≡ list_call slate_terms book b → (t : Table) × (r ≡ Ok t) × Heard book t count after
  unfolding reading_of table_of
  list_heard count r f g =
      let d = listed_day count (read_by slate_terms book) refl g in
      let words = read_words_gave slate_terms book d.0 d.1 in
      let same : day_in (table_of d.0) ≡ d.0 = λ x. record { free = d.0.free; rows = table_rows_lem d.0 x } in (
        table_of d.0,
        f ∙ ap reading_of words,
        heard count (table_of d.0) (d.1 ∙ ap accepted (sym same)) (ap length (table_rows_lem d.0)) g,
      )

-- A sheet that had nothing has the bytes added.
pub all_counted : {r m : ℕ} {before bytes after : List ℕ} → Added r 0 m before bytes after → Counted r after bytes
all_counted {r = r} {after = after} a = record { few = omega (arith, a.size, length-take r after); size = a.size; holds = a.holds }

pub same_counted : {n : ℕ} {buffer a b : List ℕ} → a ≡ b → Counted n buffer a → Counted n buffer b
same_counted e c = record { few = c.few; size = c.size; holds = c.holds ∙ e }
