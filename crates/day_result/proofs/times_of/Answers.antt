-- `times_of` meets its contract: the chain adds up the lengths of rows 1 to n.
-- Assumes nothing.
use borrow.Author.Rules.{rules}
use Prim.Native.Nat.{◌<◌}
use mathlib.Core.Path.{◌≡◌, ◌∙◌}
use native.Mathlib.Omega.{arith}
use lib.ListN.{take, drop}
use Rattle.std.specs.List.{sum}
use Rattle.day_result.proofs.Idle.{part_lengths, lengths_within}
use Rattle.day_result.proofs.times_of.Goals as goal

pub sum-requires-clause-fits : goal.sum-requires-clause-fits
sum-requires-clause-fits c =
    let a = c.args in
    let small : sum (take a.n (drop 1 a.minutes.now)) < 4294967296 =
    omega (arith, part_lengths a.minutes.now a.n 1 (omega arith), lengths_within a.minutes.now a.n 1 c.requires.1) in
    search rules

pub returns : goal.returns
returns c =
    let a = c.args in
    let e : c.sum.result ≡ sum (take a.n (drop 1 a.minutes.now)) = search rules in
    e ∙ part_lengths a.minutes.now a.n 1 (omega arith)
