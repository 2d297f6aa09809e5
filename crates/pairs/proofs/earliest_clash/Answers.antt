-- `earliest_clash` meets its contract: the scan stops at the first row that clashes with a row above it.
-- Assumes nothing.
use Prim.Native.Nat.{◌+◌, ◌-◌}
use native.Mathlib.Omega.{arith}
use mathlib.Core.Path.{◌≡◌, sym, ◌∙◌}
use borrow.Author.Rules.{rules}
use mathlib.Core.Bool.{false}
use Rattle.pairs.proofs.Columns.{above_none, above_turn, above_here, scan_start, scan_on, scan_here, scan_end}
use Rattle.pairs.proofs.earliest_clash.Goals as goal

pub loop-i-init : goal.loop-i-init
loop-i-init c = (search rules, scan_start c.args.dues.now c.args.seconds.now c.args.count c.args.number)

pub loop-j-init : goal.loop-j-init
loop-j-init c = above_none _ _ _

pub loop-j-preserved : goal.loop-j-preserved
loop-j-preserved c =
    let p = c.pair_clashes in
    let l = c.loop-j in
    let a = c.args in
    sym (above_turn a.dues.now a.seconds.now
    c.loop-i.i l.j (search rules) false false
    (sym l.invariant) (sym c.if-pair_clashes.false ∙ p.ensures))

pub loop-i-preserved : goal.loop-i-preserved
loop-i-preserved c =
    let a = c.args in
    let i = c.loop-i.i in
    let last : c.loop-j.j ≡ i = omega arith in (
      omega arith,
      scan_on a.dues.now a.seconds.now a.count a.number i (search rules) (search rules)
          (rw last at c.loop-j.invariant) c.loop-i.invariant.1,
    )

pub returns : goal.returns
returns c =
    let a = c.args in
    scan_end a.dues.now a.seconds.now a.count a.number c.loop-i.i (search rules) c.loop-i.invariant.1

pub returns-2 : goal.returns-2
returns-2 c =
    let a = c.args in
    let i = c.loop-i.i in
    let last : c.loop-j.j ≡ i = omega arith in
    let all : i ≡ a.count = omega arith in
    scan_end a.dues.now a.seconds.now a.count a.number (i + 1) (omega arith)
    (scan_on a.dues.now a.seconds.now a.count a.number i (search rules) (search rules)
    (rw last at c.loop-j.invariant) c.loop-i.invariant.1)

pub returns-then-pair_clashes : goal.returns-then-pair_clashes
returns-then-pair_clashes c =
    let l = c.loop-j in
    let a = c.args in
    let i = c.loop-i.i in
    let found = above_here a.dues.now a.seconds.now i (i - 1) l.j (search rules) (search rules)
    (sym c.pair_clashes.ensures ∙ c.if-pair_clashes.true) in
    scan_here a.dues.now a.seconds.now a.count a.number i (search rules) (search rules) found c.loop-i.invariant.1
