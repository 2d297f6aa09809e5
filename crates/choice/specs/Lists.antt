-- The lists of several desks as the code holds them, and what is taken of them. Only contracts cite it.
-- Rests on: the lists of plans (listing), what is chosen (overtime).
use Rattle.std.specs.Prelude.{ℕ, suc, ◌+◌, ◌*◌, ◌≤◌, ◌<◌, cond, ◌≡◌, List, [], ◌∷◌, map, leb, length, get_or, take}
use Rattle.std.specs.Prelude.{Option as CodeOption, None, Some}
use Rattle.std.proofs.Math.Option.{Option, none, some}
use Rattle.schedule.specs.Limits.{most_rows, most_desks}
use Rattle.schedule.specs.Rows.{count_from}
use Rattle.schedule.specs.Desk.{Pair}
use Rattle.schedule.specs.Cover.{Rising}
use Rattle.schedule.specs.Offset.{raised}
use Rattle.schedule.specs.Columns.{at}
use Rattle.listing.specs.Fronts.{pairs_of}
use Rattle.overtime.specs.Choices.{overtimes, greatest_late, LeastPlans, best_plans}
use Rattle.choice.specs.declared.Taken.{Taken}

-- The ends and the raised latenesses of desk e, counted from 0; its list; and the lists of all m desks.
abbrev pub ends_at : (fronts : List (List ℕ)) → ℕ → List ℕ
ends_at fronts e = get_or fronts (2 * e) []

abbrev pub lates_at : (fronts : List (List ℕ)) → ℕ → List ℕ
lates_at fronts e = get_or fronts (2 * e + 1) []

abbrev pub list_at : (plans : List ℕ) (fronts : List (List ℕ)) → ℕ → List Pair
list_at plans fronts e = pairs_of (take (at plans e) (ends_at fronts e)) (take (at plans e) (lates_at fronts e))

abbrev pub lists_in : (plans : List ℕ) (fronts : List (List ℕ)) (m : ℕ) → List (List Pair)
lists_in plans fronts m = map (list_at plans fronts) (count_from 0 m)

-- The first place of a number that is at most the bound; past the last where there is none.
unfoldable pub place_within : (bound : ℕ) → List ℕ → ℕ
place_within bound [] = 0
place_within bound (l ∷ ls) = cond (leb l bound) 0 (suc (place_within bound ls))

-- The lists of m desks: each has room, rises, and its raised latenesses are 32-bit numbers from 1 on.
pub record ListedAt (count : ℕ) (ends lates : List ℕ) : Type 0 where
  pub few : count ≤ most_rows
  pub end_places : length ends ≡ most_rows
  pub late_places : length lates ≡ most_rows
  pub rising : Rising (pairs_of (take count ends) (take count lates))
  pub ranged : (k : ℕ) → k < count → (1 ≤ at lates k) × (at lates k ≤ 4294967295)

abbrev pub Listed : (plans : List ℕ) (fronts : List (List ℕ)) (m : ℕ) → Type 0
Listed plans fronts m = (e : ℕ) → e < m → ListedAt (at plans e) (ends_at fronts e) (lates_at fronts e)

-- The place of the first plan of desk e within the bound; and cursors that are not past these places.
abbrev pub place_at : (plans : List ℕ) (fronts : List (List ℕ)) (bound : ℕ) → ℕ → ℕ
place_at plans fronts bound e = place_within bound (take (at plans e) (lates_at fronts e))

pub record Behind (plans : List ℕ) (fronts : List (List ℕ)) (m bound : ℕ) (cursors : List ℕ) : Type 0 where
  pub places : length cursors ≡ most_desks
  pub behind : (e : ℕ) → e < m → at cursors e ≤ place_at plans fronts bound e

-- The plans with this greatest lateness, raised, and these overtimes added up.
abbrev pub taken_at : (late overtime : ℕ) → Taken
taken_at y o = record { late = y; overtime = o }

-- What some plans come to as the code tells it; and what the plans that are chosen do.
unfoldable pub taken_of : (closings : List ℕ) → Option (List Pair) → CodeOption Taken
taken_of closings none = None
taken_of closings (some ps) = Some (taken_at (raised (greatest_late ps)) (overtimes closings ps))

unfoldable pub taken_by : (closings : List ℕ) → Option LeastPlans → CodeOption Taken
taken_by closings none = None
taken_by closings (some w) = Some (taken_at (raised w.late) (overtimes closings w.plans))

abbrev pub best_of : (limit : ℕ) (closings : List ℕ) (lists : List (List Pair)) → CodeOption Taken
best_of limit closings lists = taken_by closings (best_plans limit closings lists)
