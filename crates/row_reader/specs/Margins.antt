-- The margins of the turnaround classes.
-- Rests on: the rows of a table.
use Rattle.std.specs.Prelude.{ℕ, ◌+◌, ◌<◌, ◌≡◌, List, [], ◌∷◌, get_or, Some}
use Rattle.schedule.specs.declared.Row.{Row}

-- The margins of the classes 0 to 7, in minutes, and the margin of one class.
abbrev pub margins : List ℕ
margins = 60 ∷ 120 ∷ 480 ∷ 1440 ∷ 4320 ∷ 10080 ∷ 20160 ∷ 43200 ∷ []

abbrev pub margin : ℕ → ℕ
margin c = get_or margins c 0

-- The class of a row of the table is one of 0 to 7, and the row is due its length and the class's margin after its release.
abbrev pub ClassDue : Row → Type 0
ClassDue r = (c : ℕ) → r.class ≡ Some c → (c < 8) × (r.due ≡ r.release + r.length + margin c)
