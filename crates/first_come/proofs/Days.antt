-- Every entry of the table of worked days holds of the definitions, by computation. Assumes nothing.
use mathlib.Core.Path.{◌≡◌, refl}
use mathlib.Core.List.{map}
use Rattle.schedule.specs.Rows.{open_rows}
use Rattle.schedule.specs.Desk.{open_desk}
use Rattle.schedule.specs.Plans.{open_plans}
use Rattle.schedule.specs.Arrival.{open_arrival}
use Rattle.schedule.specs.Profiles.{open_profiles}
use Rattle.row_calls.specs.Places.{open_places}
use Rattle.postings.specs.Posting.{open_posting}
use Rattle.results.specs.Results.{open_results}
use Rattle.calls.specs.Calls.{open_calls}
use Rattle.calls.specs.Days.{Worked, answer_by, hold}
use Rattle.readers.specs.Reads.{first_come}
use Rattle.first_come.specs.Days.{days, DaysHold}

answered : map (answer_by first_come) days ≡ map (λ (d : Worked). d.told) days
unfolding open_rows open_desk open_plans open_arrival open_profiles open_places open_posting open_results open_calls
answered = refl

pub days_hold : DaysHold
days_hold = hold first_come days answered
