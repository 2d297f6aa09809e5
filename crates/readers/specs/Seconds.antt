-- How the rule of a profile is tested on columns of numbers. Only contracts cite it.
-- Rests on: Rules.
use Rattle.std.specs.Prelude.{ℕ, ◌+◌, ◌-◌, ◌≤◌, ◌≡◌, List, length}
use Rattle.theory.specs.Jobs.{Job}
use Rattle.schedule.specs.Limits.{latest_minute, longest_time}
use Rattle.schedule.specs.declared.Row.{Row}
use Rattle.schedule.specs.declared.Profile.{Profile}
use Rattle.schedule.specs.declared.Profile.TheVariants.{Ordering, FirstCome}
use Rattle.schedule.specs.Rows.{job}
use Rattle.refusals.specs.Tests.{Tested}
use Rattle.readers.specs.Rules.{rule_tests}

-- The second number that the rows are compared by, beside the due: the spare, raised by the most that release and time at the desk come to,
-- so that none is below 0; or how long before the latest minute the release is.
unfoldable pub second_by : Profile → Job → ℕ
second_by Ordering j = j.due + (latest_minute + longest_time) - (j.release + j.length)
second_by FirstCome j = latest_minute - j.release

-- What the profile's test of some rows in columns answers: the test of any rows that have these jobs.
abbrev pub JobsTested : Profile → (ℕ → Job) → (count : ℕ) → Tested → Type 0
JobsTested profile jobs count o = (rows : List Row) → length rows ≡ count → ((i : ℕ) → 1 ≤ i → i ≤ count → jobs i ≡ job rows i) →
    o ≡ rule_tests profile rows
