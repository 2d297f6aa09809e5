-- The rows of a posting, followed one after another.
-- Assumes nothing.
use Prim.Native.Nat.{ℕ, ◌+◌, ◌-◌, ◌≤◌, ◌<◌}
use native.Mathlib.Omega.{arith}
use native.Mathlib.Numerals.{add-one}
use mathlib.Core.Path.{◌≡◌, sym, ap, ◌∙◌}
use mathlib.Core.List.{List}
use lib.ListN.{length, get_or, drop}
use lib.Seq.{drop-cons, drop-length}
use Rattle.theory.specs.Jobs.{Job, finish}
use Rattle.schedule.specs.Limits.{EndsInTime, latest_raised, most_rows}
use Rattle.schedule.specs.declared.Desk.{Desk}
use Rattle.schedule.specs.Offset.{desk_at, desk_after}
use Rattle.schedule.specs.Columns.{Limits}
use Rattle.search.specs.Taking.{desk_through}
use Rattle.arrival.specs.Given.{Followed}
use Rattle.search.proofs.Signs.{through_late, followed_end, followed_raised}

module _ (job : ℕ → Job) (free : ℕ) (posting : List ℕ) where
  -- What the loop keeps: from here the rest of the posting leads where all of it leads from the start.
  pub record Following (desk : Desk) (k : ℕ) : Type 0 where
    pub past : k ≤ length posting
    pub few : length posting ≤ most_rows
    pub minutes : EndsInTime desk.minute (length posting - k)
    pub lates : desk.worst ≤ latest_raised
    pub same : desk_through job desk (drop k posting) ≡ desk_through job (desk_at free) posting

  pub following_first : length posting ≤ most_rows → EndsInTime free (length posting) → (desk : Desk) → desk ≡ desk_at free → Following desk 0
  following_first few h desk e = record {
    past = omega arith;
    few = few;
    minutes = omega (arith, ap (λ (d : Desk). d.minute) e);
    lates = omega (arith, ap (λ (d : Desk). d.worst) e);
    same = ap (λ (d : Desk). desk_through job d posting) e;
  }

  module _ (limits : Limits job) (desk : Desk) (k : ℕ) (f : Following desk k) where
    -- What a row asks for.
    pub may_follow : (i : ℕ) → (desk.minute ≤ 1000000000) × ((job i).release ≤ 1000000000) × ((job i).length ≤ 1000000000) ×
        ((job i).due ≤ 2147483647)
    may_follow i = (
      omega (arith, f.minutes, f.past),
      omega (arith, limits.releases i),
      omega (arith, limits.lengths i),
      omega (arith, limits.dues i),
    )

    pub following_next : k < length posting → (next : Desk) → next ≡ desk_after desk (job (get_or posting k 0)) → Following next (k + 1)
    unfolding desk_through finish
    following_next h next e =
        let i = get_or posting k 0 in
        record {
          past = omega arith;
          few = f.few;
          minutes = omega (arith, f.minutes, f.few, ap (λ (d : Desk). d.minute) e, limits.releases i, limits.lengths i);
          lates = omega (arith, f.minutes, f.lates, ap (λ (d : Desk). d.worst) e, limits.releases i, limits.lengths i);
          same =
              (λ x. desk_through job (e x) (drop (add-one k x) posting)) ∙
              (ap (desk_through job desk) (sym (drop-cons posting k 0 h)) ∙ f.same);
        }

    followed : length posting ≤ k → desk ≡ desk_through job (desk_at free) posting
    unfolding desk_through
    followed h =
        let e : k ≡ length posting = omega (arith, f.past) in
        ap (desk_through job desk) (sym (ap (λ (m : ℕ). drop m posting) e ∙ drop-length posting)) ∙ f.same

    pub following_last : length posting ≤ k → Followed job free posting desk
    following_last h =
        let e = followed h in
        record {
          desk = e;
          end = ap (λ (d : Desk). d.minute) e ∙ followed_end job limits free posting;
          late = λ some. ap (λ (d : Desk). d.worst) e ∙ followed_raised job limits free posting some;
          low = λ some. omega (arith, ap (λ (d : Desk). d.worst) e, through_late job limits (desk_at free) posting some);
          high = f.lates;
        }
