-- `keeps_pages` meets its contract: the test of a desk, then that of its pages.
-- Assumes nothing.
use native.Mathlib.Omega.{arith}
use Rattle.std.proofs.Common.{ℕ, List, Bool, true}
use mathlib.Core.Path.{◌≡◌, sym, ◌∙◌}
use Rattle.running.specs.Words.{IsDesk, is_desk, keeps_pages}
use Rattle.running.proofs.Fits.{desk_says}
use Rattle.running.proofs.keeps_pages.Goals as goal

-- What is known once the words hold a desk.
held : {ws : List ℕ} {b : Bool} → b ≡ is_desk ws → b ≡ true → IsDesk ws
held e h = (desk_says _).0 (sym e ∙ h)

pub bounds-desk-0 : goal.bounds-desk-0
bounds-desk-0 c = omega (arith, (held c.is_desk.ensures c.if-is_desk.true).long)

pub column_fits-requires : goal.column_fits-requires
column_fits-requires c = ((held c.is_desk.ensures c.if-is_desk.true).count.1, omega arith, (held c.is_desk.ensures c.if-is_desk.true).long)

pub returns-then-is_desk : goal.returns-then-is_desk
unfolding keeps_pages
returns-then-is_desk c =
    rw (sym c.is_desk.ensures ∙ c.if-is_desk.true) c.column_fits.ensures

pub returns-else-is_desk : goal.returns-else-is_desk
unfolding keeps_pages
returns-else-is_desk c = rw (c.if-is_desk.false, sym c.is_desk.ensures ∙ c.if-is_desk.false)
