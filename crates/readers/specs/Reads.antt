-- What a call reads: the book by what it is told beside it.
-- Rests on: Rules, the book, the rows in columns.
use Rattle.std.specs.Prelude.{ℕ, ◌≡◌, List, ltb, length, Result, Ok, Err}
use Rattle.schedule.specs.Limits.{most_opening}
use Rattle.schedule.specs.declared.Row.{Row}
use Rattle.schedule.specs.declared.Profile.{Profile}
use Rattle.schedule.specs.declared.Profile.TheVariants.{Ordering, FirstCome}
use Rattle.schedule.specs.Rows.{Day, jobs}
use Rattle.refusals.specs.declared.Refusal.{Refusal}
use Rattle.refusals.specs.Tests.{Tested, refusal_at}
use Rattle.refusals.specs.Refusals.{by_range}
use Rattle.refusals.specs.Tests.{refuse_if}
use Rattle.book.specs.Rows.{Contents, refused, accepted, refused_or}
use Rattle.book.specs.Book.{read_words, open_book}
use Rattle.rows.specs.InColumns.{InColumns, Column}
use Rattle.readers.specs.declared.Terms.{Terms}
use Rattle.readers.specs.declared.Given.{Given}
use Rattle.readers.specs.Rules.{rule_tests, open_rules}

-- What a call by the ordering rule is told, with so many opening minutes: no two rows of the book may disagree, and planning gives all its
-- plans.
abbrev pub ordering_rule : (opening : ℕ) → Terms
ordering_rule opening = record { profile = Ordering; opening = opening }

-- What a call first come, first due is told: no two rows may cross, and there is one plan, by release, then due, then row.
abbrev pub first_come : (opening : ℕ) → Terms
first_come opening = record { profile = FirstCome; opening = opening }

-- What a call is told that works out no ends: no opening.
abbrev pub without_opening : Profile → Terms
without_opening profile = record { profile = profile; opening = 0 }

-- The opening minutes lie between 0 and 30: otherwise range, at place 0.
unfoldable pub opening_tests : ℕ → Tested
opening_tests opening = refuse_if (ltb most_opening opening) by_range 0

-- A test of the rows comes last, once they are read.
unfoldable pub tested_by : (List Row → Tested) → Contents → Contents
tested_by tests (refused n p) = refused n p
tested_by tests (accepted day) = refused_or (tests day.rows) (accepted day)

-- The book by a profile: tests 1 to 7, then the test of the profile's rule.
unfoldable pub read_for : Profile → List ℕ → Contents
read_for profile book = tested_by (rule_tests profile) (read_words book)

-- The book by these terms: the opening is tested before the book is looked at.
unfoldable pub read_by : Terms → List ℕ → Contents
read_by terms book = refused_or (opening_tests terms.opening) (read_for terms.profile book)

-- How the tests came out.
abbrev pub outcome_of : Contents → Tested
outcome_of (refused n p) = Err (refusal_at n p)
outcome_of (accepted day) = Ok tt

-- What a reader gives of an accepted day: the free minute, the count of rows, in columns what planning sees of the rows, and their pages.
pub record GivesDay (opening : ℕ) (day : Day) (given : Given) : Type 0 where
  pub free : given.free ≡ day.free
  pub count : given.count ≡ length day.rows
  pub columns : InColumns (jobs opening day) (length day.rows) given.columns
  pub pages : Column (λ row. row.pages) given.columns.pages day.rows

-- What a reader answers of these contents: the refusal, or what it gives of the day.
abbrev pub Gives : (opening : ℕ) → Contents → Result Given Refusal → Type 0
Gives opening (refused n p) r = r ≡ Err (refusal_at n p)
Gives opening (accepted day) r = (given : Given) × (r ≡ Ok given) × GivesDay opening day given

-- Opens every definition of this file and of those that it rests on: name it on an `unfolding` line where all is to be computed.
unfoldable pub open_reads : Unit {0}
unfolding open_book open_rules refuse_if opening_tests tested_by read_for read_by
open_reads = tt
