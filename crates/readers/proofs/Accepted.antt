-- An accepted day: its rows keep the rule of the profile, and every number is in its range; so the schedule's promises hold of it.
-- Assumes nothing.
use Prim.Native.Nat.{ℕ, zero, suc, ◌≤◌}
use native.Mathlib.Omega.{arith}
use native.Mathlib.Decide.{dec_le}
use mathlib.Core.Path.{◌≡◌}
use mathlib.Core.List.{List}
use lib.ListN.{length, get_or-eq_default}
use Rattle.schedule.specs.Limits.{most_rows, latest_minute, longest_length, longest_time, latest_due}
use Rattle.schedule.specs.declared.Row.{Row}
use Rattle.schedule.specs.declared.Profile.{Profile}
use Rattle.schedule.specs.Rows.{no_row, job, Day, jobs, row_numbers}
use Rattle.schedule.specs.Ranges.{Ranged}
use Rattle.schedule.proofs.Numbers.{length_count}
use Rattle.schedule.proofs.Opening.{opening_laws}
use Rattle.pairs.proofs.Clashes.{passed_none}
use Rattle.book.specs.Rows.{accepted}
use Rattle.book.specs.Book.{read_words}
use Rattle.book.proofs.Whole.{by_number, whole_words}
use Rattle.book.proofs.Readings.{AllLimited, all_limited}
use Rattle.rows.specs.InColumns.{Within}
use Rattle.readers.specs.declared.Terms.{Terms}
use Rattle.readers.specs.Rules.{number_by, rule_tests}
use Rattle.readers.specs.Reads.{read_for, read_by}
use Rattle.readers.specs.Accepted.{AcceptedDay, DaysAccepted}
use Rattle.readers.proofs.Rules.{clash_mutual, obeys}
use Rattle.readers.proofs.Contents.{tested_contents, tested_passed}
use Rattle.readers.proofs.Told.{accepted_told, accepted_for}

-- A number that no row has stands for no row, which keeps the limits too.
limits : (rows : List Row) → AllLimited rows → (i : ℕ) → Within latest_minute longest_length latest_due (job rows i)
limits rows h zero = (omega arith, omega arith, omega arith)
limits rows h (suc i) = go (dec_le (suc i) (length rows))
  where
    go : Dec (suc i ≤ length rows) → Within latest_minute longest_length latest_due (job rows (suc i))
    go (yes l) = h (suc i) (omega arith) l
    go (no l) = let past : length rows ≤ i = omega arith in rw (get_or-eq_default rows no_row past)
        ((omega arith, omega arith, omega arith))

-- An accepted book passed tests 1 to 7.
pub words_gave : (profile : Profile) (book : List ℕ) (day : Day) → read_for profile book ≡ accepted day → read_words book ≡ accepted day
unfolding read_for
words_gave profile book = tested_contents (rule_tests profile) (read_words book)

pub read_words_gave : (terms : Terms) (book : List ℕ) (day : Day) → read_by terms book ≡ accepted day → read_words book ≡ accepted day
read_words_gave terms book day e = words_gave terms.profile book day (accepted_for terms book day e)

pub accepted_day : DaysAccepted
unfolding read_for
accepted_day terms book day e =
    let rows = day.rows in
    let profile = terms.profile in
    let w = whole_words book day (read_words_gave terms book day e) in
    let passed = tested_passed (rule_tests profile) (read_words book) day (accepted_for terms book day e) in
    record {
      opening = accepted_told terms book day e;
      rule = ((opening_laws terms.opening (job rows)).rule profile (row_numbers day)).1
          (obeys profile rows (passed_none (clash_mutual profile) (number_by profile) rows passed));
      early = omega (arith, w.free, w.head.free.most);
      some_row = w.some;
      few_rows = w.few;
      ranged = λ i m. let r = by_number rows w.ranged i m in (r.release, r.least, r.most, r.due);
      pages = λ i m. (by_number rows w.ranged i m).pages;
      limits = limits rows (all_limited rows w.ranged);
    }

-- The ranges as the schedule asks for them: so ends are at most 17,687,680 and lateness lies between -19,999,999 and 17,687,680.
pub accepted_ranged : {terms : Terms} {day : Day} → AcceptedDay terms day →
    Ranged latest_minute 1 longest_time latest_due most_rows (jobs terms.opening day) day.free (row_numbers day)
accepted_ranged {terms} {day} a = record {
  early = a.early;
  few = omega (arith, length_count 1 (length day.rows), a.few_rows);
  ranges = λ i m. let r = a.ranged i m in (r.0, omega (arith, r.1), omega (arith, r.2, a.opening), r.3);
}
