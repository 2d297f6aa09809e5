-- `put_plans` meets its contract: a line more for each plan.
use Rattle.std.proofs.Common.{◌+◌, ◌*◌, ap, arith, get_or}
use lib.Seq.{take_all}
use Rattle.lines.proofs.Adding.{none_added, then_added, same_added}
use Rattle.sheet.specs.Shown.{plan_lines}
use Rattle.sheet.specs.Parts.{lines_of, line_for}
use Rattle.sheet.proofs.Plans.{next_line}
use Rattle.sheet.proofs.put_plans.Goals as goal

pub loop-k-init : goal.loop-k-init
unfolding plan_lines
loop-k-init c = none_added c.args.at c.args.sheet.now (omega arith)

pub loop-k-preserved : goal.loop-k-preserved
loop-k-preserved c =
    let a = c.args in
    let h = c.requires.0 in
    let k = c.loop-k.k in
    let line = line_for a.book.now a.numbers.now a.rows (get_or a.plans.now (2 * k) 0) (get_or a.plans.now (2 * k + 1) 0) in
    let e = next_line (lines_of a.book.now) k line (omega (arith, h.counted)) (h.each k (omega arith)) in
    same_added (omega arith) e (then_added c.loop-k.invariant c.put_plan-next.ensures)

pub returns : goal.returns
returns c =
    let l = c.loop-k in
    same_added (omega arith) (ap (plan_lines 1) (take_all l.k (lines_of c.args.book.now) (omega (arith, c.requires.0.counted)))) l.invariant
