-- `take_day` meets its contract: the end of the input, a 32nd day, or the day at the start of the window's words.
-- Assumes nothing.
use native.Mathlib.Omega.{arith}
use mathlib.Core.Path.{refl, subst}
use mathlib.Core.List.{List}
use Prim.Native.Nat.{ℕ, ◌*◌}
use lib.ListN.{length}
use Rattle.month_input.specs.Layout.{most_words, cut_day}
use Rattle.totals.specs.Held.{days}
use Rattle.month_step.specs.declared.Step.TheVariants.{End, Broken}
use Rattle.month_step.specs.Turns.{next_of}
use Rattle.month_step.specs.Steps.{Stepped, StepWithin}
use Rattle.month_step.proofs.Steps.{no_bytes, too_many, next_cut, stepped_as, step_within}
use Rattle.month_step.proofs.take_day.Goals as goal

pub returns-then-window-eq0 : goal.returns-then-window-eq0
returns-then-window-eq0 c =
    let a = c.args in
    (stepped_as a.totals End (no_bytes (days a.totals) a.window.now (omega arith)) refl, tt)

pub returns-then-totals-eq-DAYS : goal.returns-then-totals-eq-DAYS
returns-then-totals-eq-DAYS c =
    let a = c.args in
    (stepped_as a.totals Broken (too_many (days a.totals) a.window.now (omega arith) (omega arith)) refl, tt)

pub returns : goal.returns
returns c =
    let a = c.args in
    let d = c.day_of in
    let words = c.words_within-count.ensures.counted.holds in
    let stepped = subst (λ (ws : List ℕ). Stepped a.totals (next_of (cut_day ws)) d.result) words d.ensures.0 in
    let within = subst (λ (ws : List ℕ). StepWithin (4 * length ws) d.result) words d.ensures.1 in (
      stepped_as a.totals d.result (next_cut (days a.totals) a.window.now (omega arith) (omega arith)) stepped,
      step_within most_words a.window.now d.result within,
    )
