-- The rows left on a running desk: whether they can be planned. On a desk that was opened and started on they always can; on other
-- words that look like a desk they may not.
-- Rests on: the running desk and its words, the rule of rows (readers).
use Rattle.std.specs.Prelude.{ℕ, ◌+◌, ◌*◌, Bool, true, false, ◌&&◌, List, map, leb, length, None, Ok, Err}
use Rattle.theory.specs.Jobs.{Job}
use Rattle.schedule.specs.Limits.{longest_time, latest_end}
use Rattle.schedule.specs.declared.Row.{Row}
use Rattle.schedule.specs.declared.Profile.TheVariants.{Ordering}
use Rattle.refusals.specs.Tests.{Tested}
use Rattle.readers.specs.Rules.{rule_tests}
use Rattle.running.specs.Running.{Running, job_in}
use Rattle.running.specs.Words.{running, is_desk}

-- A row of which nothing is known but its job; rows of these numbers, so; and the rows left, as they are.
abbrev pub plain_row : Job → Row
plain_row j = record { number = 0; release = j.release; length = j.length; due = j.due; class = None; pages = 0 }

abbrev pub plain_rows : (ℕ → Job) → List ℕ → List Row
plain_rows job left = map (λ i. plain_row (job i)) left

abbrev pub plain_left : Running → List Row
plain_left d = plain_rows (job_in d.rows) d.left

abbrev pub has_passed : Tested → Bool
has_passed (Ok _) = true
has_passed (Err refusal) = false

-- Rows fit to be planned from a minute on: it leaves room for them, so that they end by 27,687,680, and no two of them disagree.
abbrev pub fit_from : (minute : ℕ) → List Row → Bool
fit_from t rows = leb (t + longest_time * length rows) latest_end && has_passed (rule_tests Ordering rows)

-- The rows left can be planned from the desk's minute on.
unfoldable pub can_plan : Running → Bool
can_plan d = fit_from d.minute (plain_left d)

-- The words hold a desk whose rows left can be planned.
unfoldable pub plans_here : List ℕ → Bool
plans_here ws = is_desk ws && can_plan (running ws)
