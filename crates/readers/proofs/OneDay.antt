-- Each profile accepts the day that tests 1 to 7 gave: so two profiles that accept a book accept one day.
-- Assumes nothing.
use mathlib.Core.Path.{sym, ◌∙◌}
use Rattle.readers.specs.OneDay.{OneDay}
use Rattle.readers.proofs.Contents.{same_day}
use Rattle.readers.proofs.Accepted.{words_gave}

pub one_day : OneDay
one_day p q book d e x y = same_day (sym (words_gave p book d x) ∙ words_gave q book e y)
