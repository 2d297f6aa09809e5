-- Of either profile: the answer for its order.
-- Assumes nothing.
use Prim.Native.Nat.{ℕ}
use mathlib.Core.Path.{◌≡◌, sym, subst}
use mathlib.Core.List.{List}
use Rattle.theory.specs.Jobs.{Job}
use Rattle.schedule.specs.declared.Profile.{Profile}
use Rattle.schedule.specs.Offset.{lowered}
use Rattle.schedule.specs.Profiles.{order_by}
use Rattle.listing.specs.PlanFor.{Planned}
use Rattle.arrival.specs.Given.{OrderGiven}

-- What is given by one name of a profile is given by the other.
pub given_by : (job : ℕ → Job) (free : ℕ) (rows : List ℕ) (bound : ℕ) (profile same : Profile) → profile ≡ same →
    (b : List ℕ) (answer : Planned) (after : List ℕ) →
    OrderGiven job free (order_by same job free rows (lowered bound)) bound b answer after →
    OrderGiven job free (order_by profile job free rows (lowered bound)) bound b answer after
given_by job free rows bound profile same e b answer after g =
    subst (λ (p : Profile). OrderGiven job free (order_by p job free rows (lowered bound)) bound b answer after) (sym e) g
