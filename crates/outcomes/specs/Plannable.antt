-- What planning asks of rows 1 to n from the minute t on.
-- Rests on: the schedule's limits and profiles.
use Rattle.std.specs.Prelude.{ℕ, ◌≤◌}
use Rattle.theory.specs.Jobs.{Job}
use Rattle.schedule.specs.Limits.{most_rows, EndsInTime}
use Rattle.schedule.specs.declared.Profile.{Profile}
use Rattle.schedule.specs.Rows.{count_from}
use Rattle.schedule.specs.Profiles.{Obeys}
use Rattle.schedule.specs.Columns.{Limits}

pub record Plannable (profile : Profile) (job : ℕ → Job) (t n : ℕ) : Type 0 where
  pub limits : Limits job
  pub low : 1 ≤ n
  pub few : n ≤ most_rows
  pub early : EndsInTime t n
  pub rule : Obeys profile job (count_from 1 n)
