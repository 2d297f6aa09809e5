-- What passed tests say of the head of a book.
-- Assumes nothing.
use Rattle.std.specs.Prelude.{Ok}
use Prim.Native.Nat.{ℕ}
use mathlib.Core.Path.{◌≡◌}
use mathlib.Core.List.{List}
use Rattle.schedule.specs.Limits.{latest_minute}
use Rattle.refusals.proofs.Tests.{then_left, then_right}
use Rattle.words.proofs.Words.{Word, word_fits}
use Rattle.book.specs.Book.{head_tests}

-- A free minute and a pace that passed.
pub record HeadFit (ws : List ℕ) : Type 0 where
  pub free : Word 0 latest_minute ws 0
  pub pace : Word 4 120 ws 1

pub head_fits_lem : (ws : List ℕ) → head_tests ws ≡ Ok tt → HeadFit ws
unfolding head_tests
head_fits_lem ws e = record { free = word_fits 1 0 latest_minute 0 ws 0 (then_left _ _ e); pace = word_fits 2 4 120 0 ws 1 (then_right _ _ e) }
