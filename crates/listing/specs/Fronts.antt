-- The list of plans as the code holds it: ends and raised latenesses in two columns; and how one pair more is put there.
-- Rests on: the schedule's pairs, and the search's answers.
use Rattle.std.specs.Prelude.{ℕ, zero, suc, ◌+◌, ◌≤◌, cond, ◌≡◌, List, [], ◌∷◌, map, eqb, length, get_or, set, take}
use Rattle.schedule.specs.Limits.{most_rows}
use Rattle.schedule.specs.Desk.{Pair}
use Rattle.schedule.specs.Offset.{raised, lowered}
use Rattle.listing.specs.declared.Front.{Front}

-- A pair of an end and a raised lateness; such pairs, from two columns in step; and the plans that a list holds.
abbrev pub pair_at : ℕ → ℕ → Pair
pair_at end late = record { end = end; late = lowered late }

unfoldable pub pairs_of : List ℕ → List ℕ → List Pair
pairs_of (e ∷ es) (l ∷ ls) = pair_at e l ∷ pairs_of es ls
pairs_of (e ∷ es) [] = []
pairs_of [] ls = []

abbrev pub held : Front → List Pair
held f = pairs_of (take f.count f.ends) (take f.count f.lates)

-- A list has room for as many plans as a book has rows.
pub record Sized (f : Front) : Type 0 where
  pub few : f.count ≤ most_rows
  pub ends : length f.ends ≡ most_rows
  pub lates : length f.lates ≡ most_rows

-- The whole outcome of the call for the list of n rows, where ps are the plans: how many, and the end and the raised lateness of each.
pub record HoldsPlans (ps : List Pair) (n : ℕ) (r : Front) : Type 0 where
  pub counted : r.count ≡ length ps
  pub few : r.count ≤ n
  pub ends : take r.count r.ends ≡ map (λ p. p.end) ps
  pub lates : take r.count r.lates ≡ map (λ p. raised p.late) ps
  pub end_places : length r.ends ≡ most_rows
  pub late_places : length r.lates ≡ most_rows

-- The place of the next pair on the list: that of the last pair where both have one end, otherwise the place after it.
unfoldable pub pair_place : List ℕ → ℕ → ℕ → ℕ
pair_place ends zero end = 0
pair_place ends (suc k) end = cond (eqb (get_or ends k 0) end) k (suc k)

-- The list with one pair more.
abbrev pub put_pair : Front → ℕ → ℕ → Front
put_pair front end late =
    let k = pair_place front.ends front.count end in
    record { count = k + 1; ends = set front.ends k end; lates = set front.lates k late }
