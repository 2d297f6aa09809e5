-- From the searches at single minutes to the latest free minute. Assumes nothing.
use Prim.Native.Nat.{ℕ, suc, ◌+◌, ◌-◌, ◌/◌, ◌≤◌, ◌<◌}
use native.Mathlib.Omega.{arith}
use mathlib.Core.Bool.{Bool, true, false, ◌&&◌}
use mathlib.Core.Path.{◌≡◌, refl, sym, ap, ◌∙◌, subst}
use mathlib.Core.List.{List}
use lib.Dec.{leb}
use lib.ListN.{take}
use lib.IntN.{ℤ, pos}
use lib.Signed.{le_z}
use borrow.Author.Tests.{leb-true, leb-false}
use Rattle.theory.specs.Jobs.{Job}
use Rattle.schedule.specs.Limits.{latest_minute}
use Rattle.schedule.specs.declared.Desk.{Desk}
use Rattle.schedule.specs.Desk.{end_of}
use Rattle.schedule.specs.Offset.{lowered}
use Rattle.schedule.specs.Columns.{Limits}
use Rattle.schedule.proofs.Tests.{false_is_true}
use Rattle.schedule.proofs.Signed.{level, sub_level}
use Rattle.schedule.proofs.Raised.{lowered_le}
use Rattle.picks.specs.declared.Standing.{Standing}
use Rattle.search.specs.Searched.{Searched}
use Rattle.search.proofs.Signs.{followed_end}
use Rattle.how_late.specs.Laws.{ends_by}
use Rattle.latest_search.specs.Found.{in_time_at, Reached, HalvedAt}
use Rattle.latest_search.specs.Halvings.{halvings}
use Rattle.latest_search.proofs.Halvings.{halvings_fall}

-- A minute against the wanted end, raised.
end_raised : (m end : ℕ) → le_z (pos m) (lowered end) ≡ leb (m + 2147483648) end
end_raised m end =
    let e : pos m ≡ lowered (m + 2147483648) =
    level (pos m) (lowered (m + 2147483648)) (omega (arith, sub_level (m + 2147483648) 2147483648)) in
    ap (λ (z : ℤ). le_z z (lowered end)) e ∙ lowered_le (m + 2147483648) end

-- Where the halving stands: `low` is in time, and the minute after `high` is not, if there is one.
pub record Between (job : ℕ → Job) (n end bound low high : ℕ) (desk : Desk) (best : List ℕ) : Type 0 where
  pub ordered : low ≤ high
  pub high_within : high ≤ latest_minute
  pub low_reached : Reached job n end bound low desk best
  pub above : high < latest_minute → in_time_at job n end bound (suc high) ≡ false

-- # One minute
module _ (job : ℕ → Job) (limits : Limits job) (n end bound : ℕ) where
  -- What is tested of the desk after the search tells whether the minute is in time.
  in_time_is : (t : ℕ) (s : Standing) (order : List ℕ) → Searched job n t bound s order → (b : Bool) →
      b ≡ (leb s.desk.worst bound && leb (s.desk.minute + 2147483648) end) → b ≡ in_time_at job n end bound t
  in_time_is t s order g b e = e ∙ step (leb s.desk.worst bound) refl
    where
      step : (c : Bool) → leb s.desk.worst bound ≡ c →
          (leb s.desk.worst bound && leb (s.desk.minute + 2147483648) end) ≡ in_time_at job n end bound t
      step true h =
          let k = g.kept (leb-true s.desk.worst bound h) in
          let m : end_of job t (take n order) ≡ s.desk.minute =
          sym (ap (λ (d : Desk). d.minute) k.1 ∙ followed_end job limits t (take n order)) in
          let kept_in_time : in_time_at job n end bound t ≡ leb (s.desk.minute + 2147483648) end =
          ap (ends_by job (lowered end) t) k.0 ∙ (ap (λ (x : ℕ). le_z (pos x) (lowered end)) m ∙ end_raised s.desk.minute end) in
          rw h (sym kept_in_time)
      step false h = rw h (sym (ap (ends_by job (lowered end) t) (g.over (leb-false s.desk.worst bound h))))

  pub not_in_time : (t : ℕ) (s : Standing) (order : List ℕ) → Searched job n t bound s order → (b : Bool) →
      b ≡ (leb s.desk.worst bound && leb (s.desk.minute + 2147483648) end) → b ≡ false → in_time_at job n end bound t ≡ false
  not_in_time t s order g b e f = sym (in_time_is t s order g b e) ∙ f

  pub reached_at : (t : ℕ) (s : Standing) (order : List ℕ) → Searched job n t bound s order → (b : Bool) →
      b ≡ (leb s.desk.worst bound && leb (s.desk.minute + 2147483648) end) → b ≡ true → Reached job n end bound t s.desk order
  reached_at t s order g b e f = record {
    standing = s;
    searched = g;
    after = refl;
    kept = within (leb s.desk.worst bound) refl (sym e ∙ f);
    kept_in_time = sym (in_time_is t s order g b e) ∙ f;
  }
    where
      within : (c : Bool) → leb s.desk.worst bound ≡ c →
          (leb s.desk.worst bound && leb (s.desk.minute + 2147483648) end) ≡ true → s.desk.worst ≤ bound
      within true h x = leb-true s.desk.worst bound h
      within false h x = false_is_true (sym (ap (λ (c : Bool). c && leb (s.desk.minute + 2147483648) end) h) ∙ x)

  -- # The halving
  pub between_first : (desk : Desk) (best : List ℕ) → Reached job n end bound 0 desk best →
      Between job n end bound 0 latest_minute desk best
  between_first desk best r =
      record { ordered = omega arith; high_within = omega arith; low_reached = r; above = λ l. absurd (omega arith) }

  pub between_later : (low high middle : ℕ) (desk desk' : Desk) (best best' : List ℕ) →
      Between job n end bound low high desk best → middle ≤ high → Reached job n end bound middle desk' best' →
      Between job n end bound middle high desk' best'
  between_later low high middle desk desk' best best' b l r =
      record { ordered = l; high_within = b.high_within; low_reached = r; above = b.above }

  pub between_sooner : (low high middle : ℕ) (desk : Desk) (best : List ℕ) →
      Between job n end bound low high desk best → low < middle → middle ≤ high →
      in_time_at job n end bound middle ≡ false → Between job n end bound low (middle - 1) desk best
  between_sooner low high middle desk best b g l f =
      let e : suc (middle - 1) ≡ middle = omega arith in
      record {
        ordered = omega arith;
        high_within = omega (arith, b.high_within);
        low_reached = b.low_reached;
        above = λ h. ap (in_time_at job n end bound) e ∙ f;
      }

  pub halved_found : (low high : ℕ) (desk : Desk) (best : List ℕ) → Between job n end bound low high desk best → high ≤ low →
      HalvedAt job n end bound (record { minute = low; desk = desk; order = best })
  halved_found low high desk best b l =
      let e : high ≡ low = omega (arith, b.ordered) in
      record {
        within = omega (arith, b.ordered, b.high_within);
        reached = b.low_reached;
        next = λ h. subst (λ (t : ℕ). t < latest_minute → in_time_at job n end bound (suc t) ≡ false) e b.above h;
      }

-- The middle of two minutes; on either side of it there are fewer halvings left.
pub middle_between : (low high : ℕ) → low < high → (low < high - (high - low) / 2) × (high - (high - low) / 2 ≤ high)
middle_between low high l = (omega arith, omega arith)

pub upper_half : (low high : ℕ) → low < high → high ≤ latest_minute → halvings (high - (high - (high - low) / 2)) < halvings (high - low)
upper_half low high l h = halvings_fall.falls (high - (high - (high - low) / 2)) (high - low) (omega arith) (omega arith) (omega arith)

pub lower_half : (low high : ℕ) → low < high → high ≤ latest_minute → halvings (high - (high - low) / 2 - 1 - low) < halvings (high - low)
lower_half low high l h = halvings_fall.falls (high - (high - low) / 2 - 1 - low) (high - low) (omega arith) (omega arith) (omega arith)
