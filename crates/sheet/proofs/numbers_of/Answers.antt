-- `numbers_of` meets its contract: of no row there is no number.
use Rattle.sheet.proofs.Naming.{no_numbers}
use Rattle.sheet.proofs.numbers_of.Goals as goal

pub loop-i-init : goal.loop-i-init
loop-i-init c = no_numbers
