-- From what a book gives, and the list of its rows, to what is held of its desk.
-- Assumes nothing.
use Prim.Native.Nat.{ℕ, zero, suc, ◌≤◌, ◌<◌}
use native.Mathlib.Omega.{arith}
use mathlib.Core.Path.{◌≡◌, refl, sym, ap, ◌∙◌, subst}
use mathlib.Core.List.{List, [], ◌∷◌, Memᴰ}
use lib.ListN.{length, take, get_or, set}
use lib.Seq.{get_or-take}
use lib.IntN.{ℤ, pos, negsuc}
use lib.Signed.{◌≤ℤ◌}
use Rattle.std.specs.Prelude.{Result, Ok, Err}
use Rattle.schedule.specs.Limits.{most_desks}
use Rattle.schedule.specs.declared.Profile.TheVariants.{Ordering}
use Rattle.schedule.specs.Rows.{Day, count_from, jobs}
use Rattle.schedule.specs.Desk.{Pair, pair_of}
use Rattle.schedule.specs.Cover.{Rising}
use Rattle.schedule.specs.Profiles.{plans_by, order_by}
use Rattle.schedule.specs.Offset.{raised, desk_at}
use Rattle.schedule.specs.Columns.{at}
use Rattle.schedule.proofs.Signed.{le_z→}
use Rattle.schedule.proofs.SameJobs.{same_list, same_order}
use Rattle.schedule.proofs.Filling.{mapped_at}
use Rattle.search.proofs.Signs.{followed_raised, through_late}
use Rattle.refusals.proofs.Tests.{never}
use Rattle.refusals.specs.declared.Refusal.{Refusal}
use Rattle.refusals.specs.Tests.{Tested}
use Rattle.book.specs.Rows.{refused, accepted}
use Rattle.rows.specs.InColumns.{jobs_of, InColumns}
use Rattle.readers.specs.declared.Given.{Given}
use Rattle.readers.specs.Reads.{ordering_rule, read_by, outcome_of, Gives}
use Rattle.readers.proofs.Readings.{given_passed, given_refused}
use Rattle.listing.specs.declared.Front.{Front}
use Rattle.listing.specs.Fronts.{pairs_of, HoldsPlans}
use Rattle.listing.proofs.Fronts.{plans_held}
use Rattle.outcomes.specs.Planning.{Planning, planning_in}
use Rattle.outcomes.specs.Plannable.{Plannable}
use Rattle.outcomes.proofs.Columns.{sound_in, order_length, plan_lowers}
use Rattle.calls.proofs.Ready.{same, plannable}
use Rattle.several_books.specs.Held.{Slot, jobs_in, planning_at, SlotReady, Holds, RoomForDesks, ReadInto}
use Rattle.several_books.proofs.Slots.{columns_put, fronts_put, slot_put, put_here, put_other, put_sized}

-- The desk of what a book gave, with its list.
abbrev pub slot_of : Given → Front → Slot
slot_of r f = record {
  free = r.free;
  rows = r.count;
  plans = f.count;
  release = r.columns.release;
  minutes = r.columns.length;
  due = r.columns.due;
  ends = f.ends;
  lates = f.lates;
}

raised_most : (z : ℤ) → z ≤ℤ pos 2147483647 → raised z ≤ 4294967295
raised_most (pos n) h = omega (arith, le_z→ (pos n) (pos 2147483647) h.le)
raised_most (negsuc n) h = omega arith

pub at_mem : (ps : List Pair) (k : ℕ) (q : Pair) → k < length ps → Memᴰ (get_or ps k q) ps
at_mem [] k q h = let z : ⊥ = omega arith in absurd z
at_mem (p ∷ ps) zero q h = Memᴰ.head refl
at_mem (p ∷ ps) (suc k) q h = Memᴰ.tail (at_mem ps k q (omega arith))

-- A list of rows that can be planned.
module _ (s : Slot) (p : Plannable Ordering (jobs_in s) s.free s.rows) where
  abbrev g : Planning
  g = planning_at s

  -- A listed lateness, raised.
  late_raised : (q : Pair) → Memᴰ q g.plans → (1 ≤ raised q.late) × (raised q.late ≤ 4294967295)
  late_raised q m =
      let k = sound_in p in
      let u = ((k.promise.belongs q).0 (subst (Memᴰ q) k.front m)).0 in
      let n : 1 ≤ length u.0 = omega (arith, order_length p u.1.0, p.low) in
      let r = followed_raised g.job p.limits s.free u.0 n in
      subst (λ (x : Pair). (1 ≤ raised x.late) × (raised x.late ≤ 4294967295)) u.1.1 (
        omega (arith, r, through_late g.job p.limits (desk_at s.free) u.0 n),
        raised_most (pair_of g.job s.free u.0).late (k.fits u.0 u.1.0).1,
      )

  pub ready_with : HoldsPlans g.plans s.rows (record { count = s.plans; ends = s.ends; lates = s.lates }) → SlotReady s
  ready_with h = record {
    plannable = p;
    listed = record {
      few = omega (arith, h.few, p.few);
      end_places = h.end_places;
      late_places = h.late_places;
      rising = subst Rising (sym list) (rw (sound_in p).front (sound_in p).promise.rising);
      ranged = ranged;
    };
    list = list;
  }
    where
      list : pairs_of (take s.plans s.ends) (take s.plans s.lates) ≡ g.plans
      list = plans_held g.plans s.rows (record { count = s.plans; ends = s.ends; lates = s.lates }) h (plan_lowers p)

      ranged : (k : ℕ) → k < s.plans → (1 ≤ at s.lates k) × (at s.lates k ≤ 4294967295)
      ranged k l =
          let q : Pair = record { end = 0; late = pos 0 } in
          let n : k < length g.plans = omega (arith, h.counted) in
          let e : at s.lates k ≡ raised (get_or g.plans k q).late =
          sym (get_or-take s.plans s.lates k 0 l) ∙ ap (λ (ls : List ℕ). at ls k) h.lates ∙
          mapped_at (λ (x : Pair). raised x.late) g.plans k q 0 n in
          let r = late_raised (get_or g.plans k q) (at_mem g.plans k q n) in
          (omega (arith, r.0), omega (arith, r.1))

-- The desk of an accepted book.
module _ (opening : ℕ) (book : List ℕ) (r : Given) (day : Day) (reads : read_by (ordering_rule opening) book ≡ accepted day)
    (free : r.free ≡ day.free) (count : r.count ≡ length day.rows)
    (columns : InColumns (jobs opening day) (length day.rows) r.columns) where
  pub can_plan_lem : Plannable Ordering (jobs_of r.columns) r.free r.count
  can_plan_lem = plannable (ordering_rule opening) book r day reads free count columns

  pub holds_day : (f : Front) → HoldsPlans (planning_in Ordering (jobs_of r.columns) r.free r.count).plans r.count f →
      Holds opening day (slot_of r f)
  holds_day f h =
      let s = same (ordering_rule opening) book r day reads free count columns in
      record {
        ready = ready_with (slot_of r f) can_plan_lem h;
        rows = count;
        plans = same_list (jobs_of r.columns) (jobs opening day) r.count s Ordering r.free ∙
            (λ i. plans_by Ordering (jobs opening day) (free i) (count_from 1 (count i)));
        orders = λ y. same_order (jobs_of r.columns) (jobs opening day) r.count s Ordering r.free y ∙
            (λ i. order_by Ordering (jobs opening day) (free i) (count_from 1 (count i)) y);
      }

-- The book of desk d is read: refused, or put into its place.
module _ (opening : ℕ) (book : List ℕ) (read : Result Given Refusal) (gives : Gives opening (read_by (ordering_rule opening) book) read)
    (free rows plans : List ℕ) (columns fronts : List (List ℕ)) (sized : RoomForDesks free rows plans columns fronts) (d : ℕ) where
  pub into_refused : (refusal : Refusal) → read ≡ Err refusal → (r : Tested) → r ≡ Err refusal →
      ReadInto (ordering_rule opening) book d free rows plans columns fronts free rows plans columns fronts r
  into_refused refusal e r f =
      let x = given_refused opening (read_by (ordering_rule opening) book) read refusal gives e in
      record {
        outcome = f ∙ ap outcome_of (sym x);
        sized = sized;
        here = λ day a. never_both (sym x ∙ a);
        others = λ e n. refl;
      }
    where
      never_both : {A : Type 0} {n p : ℕ} {day : Day} → refused n p ≡ accepted day → A
      never_both e = never (cc)

  pub into_accepted : d < most_desks → (r : Given) → read ≡ Ok r → (f : Front) →
      HoldsPlans (planning_in Ordering (jobs_of r.columns) r.free r.count).plans r.count f →
      ReadInto (ordering_rule opening) book d free rows plans columns fronts (set free d r.free) (set rows d r.count)
      (set plans d f.count)
      (columns_put columns fronts d (slot_of r f)) (fronts_put columns fronts d (slot_of r f)) (Ok tt)
  into_accepted h r e f p =
      let x = given_passed opening (read_by (ordering_rule opening) book) read r gives e in
      record {
        outcome = ap outcome_of (sym x.contents);
        sized = put_sized free rows plans columns fronts sized d h (slot_of r f);
        here = λ day a.
            let same : x.day ≡ day = one (sym x.contents ∙ a) in
            subst (λ (y : Day). Holds opening y (slot_put free rows plans columns fronts sized d h (slot_of r f) d)) same
            (subst (Holds opening x.day) (sym (put_here free rows plans columns fronts sized d h (slot_of r f)))
            (holds_day opening book r x.day x.contents x.free x.count x.columns f p));
        others = λ e n. put_other free rows plans columns fronts sized d h (slot_of r f) e n;
      }
    where
      one : {a b : Day} → accepted a ≡ accepted b → a ≡ b
      one e = cc
