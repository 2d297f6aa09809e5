-- What a call is told: opening minutes past 30 are refused, whatever the book; others leave what the book gives by the profile.
-- Assumes nothing.
use Prim.Native.Nat.{ℕ, ◌≤◌, ◌<◌}
use mathlib.Core.Bool.{Bool, true, false}
use mathlib.Core.Path.{◌≡◌, refl, sym, ◌∙◌}
use mathlib.Core.List.{List}
use lib.Dec.{ltb}
use borrow.Author.Tests.{ltb-false, le-ltb, lt-ltb}
use Rattle.schedule.specs.Limits.{most_opening}
use Rattle.schedule.specs.Rows.{Day}
use Rattle.refusals.specs.Refusals.{by_range}
use Rattle.refusals.specs.Tests.{refuse_if}
use Rattle.refusals.proofs.Tests.{never}
use Rattle.book.specs.Rows.{refused, accepted, refused_or}
use Rattle.readers.specs.declared.Terms.{Terms}
use Rattle.readers.specs.Reads.{opening_tests, read_for, read_by}

module _ (terms : Terms) (book : List ℕ) where
  pub untold_refused : most_opening < terms.opening → read_by terms book ≡ refused by_range 0
  unfolding opening_tests refuse_if read_by
  untold_refused h = rw (lt-ltb most_opening terms.opening h)

  pub told_reads : terms.opening ≤ most_opening → read_by terms book ≡ read_for terms.profile book
  unfolding opening_tests refuse_if read_by
  told_reads h = rw (le-ltb most_opening terms.opening h)

  -- So a book is accepted by opening minutes in their range alone, and as the profile does.
  pub accepted_told : (day : Day) → read_by terms book ≡ accepted day → terms.opening ≤ most_opening
  unfolding opening_tests refuse_if read_by
  accepted_told day = go (ltb most_opening terms.opening) refl
    where
      go : (b : Bool) → ltb most_opening terms.opening ≡ b →
          refused_or (refuse_if b by_range 0) (read_for terms.profile book) ≡ accepted day → terms.opening ≤ most_opening
      go true e f = never (cc)
      go false e f = ltb-false most_opening terms.opening e

  pub accepted_for : (day : Day) → read_by terms book ≡ accepted day → read_for terms.profile book ≡ accepted day
  accepted_for day e = sym (told_reads (accepted_told day e)) ∙ e
