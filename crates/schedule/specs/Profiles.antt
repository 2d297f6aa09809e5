-- The profiles: what each asks of the rows, its list of plans, and its order for a bound. `job` says of each row number what planning
-- sees of the row, t is the desk's minute, `left` the rows. Rests on: Picks, Plans, Cover, Arrival. The proof of `ProfilesPromised` is
-- `profiles_promised`, in proofs/Profiles.antt.
use Rattle.std.specs.Prelude.{ℕ, ◌<◌, ◌≡◌, List, [], ◌∷◌, length, ℤ}
use Rattle.std.proofs.Math.Option.{Option}
use Rattle.theory.specs.Jobs.{Job}
use Rattle.schedule.specs.declared.Profile.{Profile}
use Rattle.schedule.specs.declared.Profile.TheVariants.{Ordering, FirstCome}
use Rattle.schedule.specs.Desk.{Pair, pair_of}
use Rattle.schedule.specs.Picks.{order_for}
use Rattle.schedule.specs.Plans.{plans}
use Rattle.schedule.specs.Cover.{Agreeing, PlansPromise}
use Rattle.schedule.specs.Arrival.{Uncrossed, by_arrival, arrival_for}

-- The rows keep the profile's rule: no two disagree, or no two cross.
abbrev pub Obeys : Profile → (ℕ → Job) → List ℕ → Type 0
Obeys Ordering = Agreeing
Obeys FirstCome = Uncrossed

-- The profile's list: by the ordering rule every plan, first come, first due the one plan by release, then due, then row.
unfoldable pub plans_by : Profile → (ℕ → Job) → ℕ → List ℕ → List Pair
plans_by Ordering job t left = plans job t left
plans_by FirstCome job t left = pair_of job t (by_arrival job left) ∷ []

-- The profile's order for the bound y; none where it is unkept.
unfoldable pub order_by : Profile → (ℕ → Job) → ℕ → List ℕ → ℤ → Option (List ℕ)
order_by Ordering job t left y = order_for job t left y
order_by FirstCome job t left y = arrival_for job t left y

-- Of at least one row that keeps the rule, from any minute on: the profile's list is the list by its definition, the pairs that some
-- order attains and no order beats; and property 3 holds with its orders.
abbrev pub ProfilesPromised : Type 0
ProfilesPromised = (profile : Profile) (job : ℕ → Job) (t : ℕ) (left : List ℕ) → Obeys profile job left → 0 < length left →
    (plans_by profile job t left ≡ plans job t left) × PlansPromise job t left (order_by profile job t left)

-- Opens every definition of this file: name it on an `unfolding` line where all is to be computed.
unfoldable pub open_profiles : Unit {0}
unfolding plans_by order_by
open_profiles = tt
