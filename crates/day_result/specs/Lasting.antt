-- Jobs that say how long they last and nothing else, for the sum of their lengths.
-- Rests on: the jobs of the theory.
use Rattle.std.specs.Prelude.{ℕ, List, get_or}
use Rattle.theory.specs.Jobs.{Job}

abbrev pub lasting : List ℕ → ℕ → Job
lasting minutes i = record { release = 0; length = get_or minutes i 0; due = 0 }
