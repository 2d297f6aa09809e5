-- `signed_of` meets its contract: the definition reads two's complement as the machine does.
use Rattle.std.proofs.Common.{◌∙◌, arith}
use Rattle.sheet.proofs.Standing.{signed_word, word_signed}
use Rattle.sheet.proofs.signed_of.Goals as goal

pub returns : goal.returns
returns c = signed_word c.args.word (omega arith) c.cast_signed.result (c.cast_signed.ensures ∙ word_signed c.args.word)
