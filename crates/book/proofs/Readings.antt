-- Readings: from the rows to the whole book, and what a caller knows of the table.
-- Assumes nothing.
use Rattle.std.specs.Prelude.{Ok, Err}
use Prim.Native.Nat.{ℕ, zero, suc, ◌≤◌}
use native.Mathlib.Omega.{arith}
use mathlib.Core.Path.{◌≡◌, refl, ap}
use mathlib.Core.List.{List}
use lib.ListN.{length}
use Rattle.schedule.specs.Limits.{most_rows, latest_minute, longest_length, latest_due}
use Rattle.schedule.specs.declared.Row.{Row}
use Rattle.schedule.specs.Rows.{row, Day}
use Rattle.book.specs.declared.Table.{Table}
use Rattle.refusals.specs.declared.Refusal.{Refusal}
use Rattle.refusals.proofs.Tests.{never}
use Rattle.book.specs.Rows.{Contents, refused, accepted}
use Rattle.book.specs.Book.{head_tests, read_words}
use Rattle.book.specs.Tables.{table_of, table_rows, reading_of}
use Rattle.book.proofs.Tables.{table_rows_lem}
use Rattle.book.proofs.Whole.{AllRanged, book_rows, whole_words}

-- The head: it is refused; it passed, and the rows are left.
pub head_refused : (ws : List ℕ) (refusal : Refusal) → head_tests ws ≡ Err refusal → Err refusal ≡ reading_of (read_words ws)
unfolding read_words reading_of
head_refused ws refusal e = rw e refl

pub head_passed : (ws : List ℕ) → head_tests ws ≡ Ok tt → read_words ws ≡ book_rows ws
unfolding read_words
head_passed ws e = rw e refl

-- Rows that keep the limits of a book.
abbrev pub AllLimited : List Row → Type 0
AllLimited rows = (i : ℕ) → 1 ≤ i → i ≤ length rows →
    ((row rows i).release ≤ latest_minute) × ((row rows i).length ≤ longest_length) × ((row rows i).due ≤ latest_due)

pub all_limited : (rows : List Row) → AllRanged rows → AllLimited rows
all_limited rows h zero l m = let x : ⊥ = omega arith in absurd x
all_limited rows h (suc i) l m = let r = h i (omega arith) in (r.release, r.most, r.due)

-- A reading's table counts its rows, has at most 256, and they keep the limits.
pub record Fits (t : Table) : Type 0 where
  pub few : t.count ≤ most_rows
  pub size : length (table_rows t) ≡ t.count
  pub limited : AllLimited (table_rows t)

reading_fits : (x : Contents) (t : Table) → ((day : Day) → x ≡ accepted day → (length day.rows ≤ most_rows) × AllLimited day.rows) →
    Ok t ≡ reading_of x → Fits t
unfolding reading_of table_of
reading_fits (refused m q) t h e = never (cc)
reading_fits (accepted day) t h e =
    let g = h day refl in
    let same : t ≡ table_of day = cc in
    rw same (record { few = g.0; size = ap length (table_rows_lem day); limited = rw (table_rows_lem day) g.1 })

pub read_fits : (ws : List ℕ) (t : Table) → Ok t ≡ reading_of (read_words ws) → Fits t
read_fits ws t e =
    reading_fits (read_words ws) t (λ day f. let w = whole_words ws day f in (w.few, all_limited day.rows w.ranged)) e
