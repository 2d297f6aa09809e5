-- The sheet has the fields of the numbers passed.
use Rattle.std.proofs.Common.{◌*◌, take}
use Rattle.lines.specs.LineBytes.{number_fields}
use Rattle.lines.specs.Added.{Added}
use Rattle.lines.proofs.put_numbers.Given as goal

abbrev pub invariant-loop-number : goal.invariant-loop-number
invariant-loop-number l = Added l.end l.at (11 * l.number-index) l.initial.sheet (number_fields (take l.number-index l.numbers)) l.sheet
