-- Contents that are tested once more: what is accepted passed, and how the tests came out.
-- Assumes nothing.
use Rattle.std.specs.Prelude.{Ok}
use mathlib.Core.Path.{◌≡◌, sym, ap, ◌∙◌}
use mathlib.Core.List.{List}
use Rattle.schedule.specs.declared.Row.{Row}
use Rattle.schedule.specs.Rows.{Day}
use Rattle.refusals.specs.Tests.{Tested}
use Rattle.refusals.proofs.Tests.{never}
use Rattle.book.specs.Rows.{Contents, refused, accepted, refused_or}
use Rattle.book.proofs.Whole.{or_tests, or_contents}
use Rattle.readers.specs.Reads.{tested_by}

-- A day that is accepted is one day.
pub same_day : {a b : Day} → accepted a ≡ accepted b → a ≡ b
same_day e = cc

module _ (tests : List Row → Tested) where
  -- What is accepted after one test more was accepted before it, and passes it.
  pub tested_contents : (x : Contents) (day : Day) → tested_by tests x ≡ accepted day → x ≡ accepted day
  unfolding tested_by
  tested_contents (refused n p) day e = e
  tested_contents (accepted d) day e = or_contents (tests d.rows) (accepted d) e

  pub tested_passed : (x : Contents) (day : Day) → tested_by tests x ≡ accepted day → tests day.rows ≡ Ok tt
  unfolding tested_by
  tested_passed (refused n p) day e = never (cc)
  tested_passed (accepted d) day e = ap (λ (z : Day). tests z.rows) (sym (same_day (or_contents (tests d.rows) (accepted d) e)))
      ∙ or_tests (tests d.rows) (accepted d) e

  -- What the test leaves of an accepted day.
  pub tested_by_lem : (x : Contents) (day : Day) → x ≡ accepted day → (o : Tested) → tests day.rows ≡ o →
      tested_by tests x ≡ refused_or o (accepted day)
  unfolding tested_by
  tested_by_lem x day e o f = rw (e, f)
