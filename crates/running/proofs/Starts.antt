-- A start that is not turned down: what its tests have found.
-- Assumes nothing.
use Prim.Native.Nat.{ℕ, ◌≤◌}
use mathlib.Core.Bool.{true, not}
use mathlib.Core.Path.{◌≡◌}
use lib.Dec.{ltb}
use lib.ListN.{length}
use borrow.Author.Tests.{ltb-false, not-false}
use Rattle.std.specs.Prelude.{Ok}
use Rattle.schedule.specs.Limits.{latest_start}
use Rattle.schedule.specs.Rows.{stands}
use Rattle.schedule.proofs.Tests.{neither, is_true}
use Rattle.refusals.specs.Tests.{Tested, refuse_if}
use Rattle.refusals.specs.Refusals.{by_unlisted, by_done, by_early}
use Rattle.refusals.proofs.Tests.{then_left, then_right, not_refused}
use Rattle.running.specs.Running.{Running, between, job_in, start_tests}
use Rattle.running.proofs.Fits.{lies}

-- The row is one of the desk and is left; the minute is not before the desk's or the release, and not past the latest start. (That the row
-- is a member of the rows left: `stands_mem`.)
pub record MayStart (d : Running) (i m : ℕ) : Type 0 where
  pub listed : (1 ≤ i) × (i ≤ length d.rows)
  pub left : stands i d.left ≡ true
  pub after : d.minute ≤ m
  pub released : (job_in d.rows i).release ≤ m
  pub early : m ≤ latest_start

pub may_start : (d : Running) (i m : ℕ) → start_tests d i m ≡ Ok tt → MayStart d i m
unfolding start_tests
may_start d i m e =
    let n = length d.rows in
    let unlisted : Tested = refuse_if (not (between 1 n i)) by_unlisted n in
    let done : Tested = refuse_if (not (stands i d.left)) by_done i in
    let rest = then_right unlisted _ e in
    let a = not-false (between 1 n i) (not_refused _ by_unlisted n (then_left unlisted _ e)) in
    let b = not_refused _ by_early 0 (then_right done _ rest) in
    let c = neither (ltb m d.minute) _ b in
    let f = neither (ltb m (job_in d.rows i).release) _ c.1 in
    record {
      listed = lies 1 n i (is_true (between 1 n i) a);
      left = not-false (stands i d.left) (not_refused _ by_done i (then_left done _ rest));
      after = ltb-false m d.minute c.0;
      released = ltb-false m (job_in d.rows i).release f.0;
      early = ltb-false latest_start m f.1;
    }
