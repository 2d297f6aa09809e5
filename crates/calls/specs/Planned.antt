-- What is planned of a day, by what a call is told: the profile, and the opening minutes.
-- Rests on: the terms (readers), what is planned (outcomes).
use Rattle.schedule.specs.Rows.{Day}
use Rattle.readers.specs.declared.Terms.{Terms}
use Rattle.outcomes.specs.Planning.{Planning, planning_of}

abbrev pub planned : Terms → Day → Planning
planned terms day = planning_of terms.profile terms.opening day
