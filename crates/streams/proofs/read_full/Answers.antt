-- One more read adds what it gave.
use Rattle.std.proofs.Common.{rules}
use Rattle.streams.proofs.Filled.{consumes_more}
use Rattle.streams.proofs.read_full.Goals as goal

pub loop-done-preserved : goal.loop-done-preserved
loop-done-preserved g c = (
  search rules,
  consumes_more _ _ _ _ _ _ _ _ c.loop-done.invariant.0 (search rules) c.loop-done.invariant.1 c.in_ok-count.ensures.bytes.0,
)
