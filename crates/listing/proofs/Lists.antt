-- The list of plans in its arrays, one pair after another: what the loop keeps, and how it begins, goes on and ends.
-- Assumes nothing.
use Prim.Native.Nat.{ℕ, zero, suc, ◌+◌, ◌-◌, ◌≤◌, ◌<◌}
use native.Mathlib.Omega.{arith}
use native.Mathlib.Numerals.{add-one}
use mathlib.Core.Bool.{Bool, true, false, cond}
use mathlib.Core.Path.{◌≡◌, refl, sym, ap, ◌∙◌, subst}
use mathlib.Core.List.{List, [], ◌∷◌, ◌++◌, map, map-append}
use mathlib.Core.Logic.{◌⊎◌, inl, inr}
use mathlib.Core.Option.{Option, none, some}
use lib.Dec.{eqb}
use lib.IntN.{ℤ, pred_ℤ}
use lib.ListN.{length, get_or, set, take, length-set, length-append}
use lib.Seq.{get_or-set_same, take-set-le, take-suc}
use borrow.Author.Tests.{eq-eqb, ne_eqb}
use Rattle.std.specs.Prelude.{Some, None}
use Rattle.theory.specs.Jobs.{Job}
use Rattle.schedule.specs.Limits.{EndsInTime, latest_due, latest_end, longest_time, most_rows}
use Rattle.schedule.specs.Rows.{count_from}
use Rattle.schedule.specs.declared.Desk.{Desk}
use Rattle.schedule.specs.Desk.{Pair, OrderOf, end_of, pair_of}
use Rattle.schedule.specs.Picks.{order_for}
use Rattle.schedule.specs.Plans.{plans}
use Rattle.schedule.specs.Cover.{Agreeing, Fits32}
use Rattle.schedule.specs.Offset.{raised, lowered}
use Rattle.schedule.proofs.Best.{Plannable}
use Rattle.schedule.proofs.Ranges.{fits_32}
use Rattle.schedule.proofs.Loop.{Going, top_kept, going_first, going_same, going_next, going_end, going_room}
use Rattle.schedule.proofs.Orders.{perm_count}
use Rattle.schedule.proofs.Cover.{promised}
use Rattle.schedule.proofs.Numbers.{length_count}
use Rattle.listing.specs.declared.Front.{Front}
use Rattle.schedule.specs.Columns.{Limits}
use Rattle.listing.specs.Fronts.{pair_place, put_pair, HoldsPlans}
use Rattle.listing.specs.PlanFor.{Planned, planned_of, Paired}
use Rattle.search.specs.Searched.{order_at_raised}
use Rattle.search.proofs.Signs.{lowered_pred, late_lowers}

-- The place of the next pair.
module _ (ends : List ℕ) where
  pub place_none : (count end : ℕ) → count ≡ 0 → 0 ≡ pair_place ends count end
  unfolding pair_place
  place_none count end e = ap (λ (k : ℕ). pair_place ends k end) (sym e)

  pub place_same : (count end : ℕ) → (count ≡ 0 → ⊥) → get_or ends (count - 1) 0 ≡ end → count - 1 ≡ pair_place ends count end
  unfolding pair_place
  place_same zero end z e = absurd (z refl)
  place_same (suc k) end z e =
      let s : suc k - 1 ≡ k = omega arith in
      s ∙ ap (λ (b : Bool). cond b k (suc k)) (sym (eq-eqb (get_or ends k 0) end (ap (λ (m : ℕ). get_or ends m 0) (sym s) ∙ e)))

  pub place_next : (count end : ℕ) → (count ≡ 0 → ⊥) → (get_or ends (count - 1) 0 ≡ end → ⊥) → count ≡ pair_place ends count end
  unfolding pair_place
  place_next zero end z e = absurd (z refl)
  place_next (suc k) end z e =
      let s : suc k - 1 ≡ k = omega arith in
      ap (λ (b : Bool). cond b k (suc k)) (sym (ne_eqb (get_or ends k 0) end (λ h. e (ap (λ (m : ℕ). get_or ends m 0) s ∙ h))))

-- A column that holds a number of each pair, with one pair more.
pub length_more : (ps : List Pair) (p : Pair) → length (ps ++ (p ∷ [])) ≡ suc (length ps)
length_more ps p = omega (arith, length-append ps (p ∷ []))

column_more : (f : Pair → ℕ) (xs : List ℕ) (done : List Pair) (last : Pair) → length done < length xs →
    take (length done) xs ≡ map f done → get_or xs (length done) 0 ≡ f last →
    take (suc (length done)) xs ≡ map f (done ++ (last ∷ []))
column_more f xs done last h e g =
    take-suc xs (length done) 0 h ∙ ((λ x. e x ++ (g x ∷ [])) ∙ sym (map-append f done (last ∷ [])))

module _ (job : ℕ → Job) (n free : ℕ) where
  abbrev rows : List ℕ
  rows = count_from 1 n

  abbrev late_of : Pair → ℕ
  late_of p = raised p.late

  -- Some pairs are listed: `done` for good, `last` may yet be replaced.
  pub record Begun (front : Front) (bound : ℕ) : Type 0 where
    pub done : List Pair
    pub last : Pair
    pub count : front.count ≡ suc (length done)
    pub ends : take (length done) front.ends ≡ map (λ p. p.end) done
    pub lates : take (length done) front.lates ≡ map (λ p. raised p.late) done
    pub end : get_or front.ends (length done) 0 ≡ last.end
    pub late : get_or front.lates (length done) 0 ≡ raised last.late
    pub going : Going job free (count_from 1 n) done last (lowered bound)

  -- What the loop keeps.
  pub record Listing (front : Front) (bound : ℕ) : Type 0 where
    pub end_places : length front.ends ≡ most_rows
    pub late_places : length front.lates ≡ most_rows
    pub so_far : ((front.count ≡ 0) × (bound ≡ 4294967295)) ⊎ Begun front bound

  pub listing_first : (front : Front) → front.count ≡ 0 → length front.ends ≡ most_rows → length front.lates ≡ most_rows →
      Listing front 4294967295
  listing_first front c e l = record { end_places = e; late_places = l; so_far = inl (c, refl) }

  -- The order behind an answer.
  answer_some : (x : Option (List ℕ)) (desk : Desk) → Some desk ≡ planned_of job free x → (o : List ℕ) × (x ≡ some o) ×
      (desk.minute ≡ end_of job free o) × (desk.worst ≡ raised (pair_of job free o).late)
  unfolding planned_of
  answer_some none desk h = let z : ◌≡◌ {A = ℕ} 0 1 = cc in let x : ⊥ = omega arith in absurd x
  answer_some (some o) desk h = (o, refl, ap end_in h, ap late_in h)
    where
      end_in : Planned → ℕ
      end_in None = 0
      end_in (Some d) = d.minute

      late_in : Planned → ℕ
      late_in None = 0
      late_in (Some d) = d.worst

  answer_none : (x : Option (List ℕ)) → None ≡ planned_of job free x → x ≡ none
  unfolding planned_of
  answer_none none h = refl
  answer_none (some o) h = let z : ◌≡◌ {A = ℕ} 0 1 = cc in let x : ⊥ = omega arith in absurd x

  module _ (limits : Limits job) (low : 1 ≤ n) (small : n ≤ most_rows) (early : EndsInTime free n)
      (agreeing : Agreeing job (count_from 1 n)) where
    some_row : 0 < length rows
    some_row = omega (arith, length_count 1 n)

    plannable : Plannable job free rows
    plannable = record { agreeing = agreeing; some_row = some_row }

    pub fits : Fits32 job free rows
    fits =
        fits_32 latest_end 0 longest_time latest_due most_rows (omega arith) (omega arith)
        (record {
          early = omega (arith, early);
          few = omega (arith, length_count 1 n);
          ranges = λ i m. (omega (arith, limits.releases i), omega arith, limits.lengths i, limits.dues i);
        })
        some_row

    order_rows : (o : List ℕ) → OrderOf rows o → 1 ≤ length o
    order_rows o w = omega (arith, (perm_count w).0, some_row)

    module _ (front : Front) (bound : ℕ) (s : Listing front bound) where
      -- The bound is not kept: the list is at its end.
      pub listing_last : Paired job n free bound None → HoldsPlans (plans job free (count_from 1 n)) n front
      listing_last a = go s.so_far
        where
          unkept : order_for job free rows (lowered bound) ≡ none
          unkept = answer_none (order_at_raised job n free bound) a.answered

          go : ((front.count ≡ 0) × (bound ≡ 4294967295)) ⊎ Begun front bound → HoldsPlans (plans job free (count_from 1 n)) n front
          go (inl h) = absurd (top_kept plannable fits (ap (λ (b : ℕ). order_for job free rows (lowered b)) (sym h.1) ∙ unkept))
          go (inr b) =
              let e = going_end plannable fits b.done b.last (lowered bound) b.going unkept in
              let room = going_room plannable fits b.done b.last (lowered bound) b.going in
              let k = length_count 1 n in
              record {
                counted = b.count ∙ (sym (length_more b.done b.last) ∙ ap length (sym e));
                few = omega (arith, b.count, room, k);
                ends =
                    ap (λ (m : ℕ). take m front.ends) b.count ∙
                    (column_more (λ p. p.end) front.ends b.done b.last (omega (arith, s.end_places, room, k)) b.ends
                    b.end ∙ ap (map (λ (p : Pair). p.end)) (sym e));
                lates =
                    ap (λ (m : ℕ). take m front.lates) b.count ∙
                    (column_more late_of front.lates b.done b.last (omega (arith, s.late_places, room, k)) b.lates
                    b.late ∙ ap (map late_of) (sym e));
                end_places = s.end_places;
                late_places = s.late_places;
              }

      -- One pair more.
      module _ (desk : Desk) (a : Paired job n free bound (Some desk)) where
        found : (o : List ℕ) × (order_for job free rows (lowered bound) ≡ some o) × (desk.minute ≡ end_of job free o) ×
            (desk.worst ≡ raised (pair_of job free o).late)
        found = answer_some (order_at_raised job n free bound) desk a.answered

        abbrev pair : Pair
        pair = pair_of job free found.0

        found_rows : 1 ≤ length found.0
        found_rows = order_rows found.0 ((promised job free rows agreeing some_row).best (lowered bound) found.0 found.1).0

        next_bound : pred_ℤ pair.late ≡ lowered (desk.worst - 1)
        next_bound =
            ap pred_ℤ (sym (late_lowers job limits free found.0 found_rows) ∙ ap lowered (sym found.3)) ∙
            sym (lowered_pred desk.worst a.bounded.0)

        -- Where the pair goes: what is done for good then, and the place after it.
        record Placed : Type 0 where
          pub done : List Pair
          pub place : pair_place front.ends front.count desk.minute ≡ length done
          pub room : length done < n
          pub ends : take (length done) front.ends ≡ map (λ p. p.end) done
          pub lates : take (length done) front.lates ≡ map (λ p. raised p.late) done
          pub going : Going job free rows done pair (lowered (desk.worst - 1))

        onward : (done : List Pair) → Going job free rows done pair (pred_ℤ pair.late) → Going job free rows done pair (lowered (desk.worst - 1))
        onward done g = subst (λ (y : ℤ). Going job free rows done pair y) next_bound g

        room_for : (done : List Pair) → Going job free rows done pair (lowered (desk.worst - 1)) → length done < n
        room_for done g = omega (arith, going_room plannable fits done pair (lowered (desk.worst - 1)) g, length_count 1 n)

        placed : Placed
        placed = go s.so_far
          where
            go : ((front.count ≡ 0) × (bound ≡ 4294967295)) ⊎ Begun front bound → Placed
            go (inl h) =
                let g = onward [] (going_first plannable fits found.0
                (ap (λ (b : ℕ). order_for job free rows (lowered b)) (sym h.1) ∙ found.1)) in
                record {
                  done = [];
                  place = sym (place_none front.ends front.count desk.minute h.0);
                  room = low;
                  ends = refl;
                  lates = refl;
                  going = g;
                }
            go (inr b) = test (eqb b.last.end pair.end) refl
              where
                at : (t : Bool) → eqb b.last.end pair.end ≡ t →
                    pair_place front.ends front.count desk.minute ≡ cond t (length b.done) (suc (length b.done))
                at t h =
                    ap (λ (k : ℕ). pair_place front.ends k desk.minute) b.count ∙
                    unfold pair_place in ap (λ (c : Bool). cond c (length b.done) (suc (length b.done)))
                    ((λ x. eqb (b.end x) (found.2 x)) ∙ h)

                test : (t : Bool) → eqb b.last.end pair.end ≡ t → Placed
                test true h =
                    let g = onward b.done (going_same plannable fits b.done b.last (lowered bound) found.0 b.going
                    found.1 h) in
                    record { done = b.done; place = at true h; room = room_for b.done g; ends = b.ends; lates = b.lates; going = g }
                test false h =
                    let done = b.done ++ (b.last ∷ []) in
                    let more = length_more b.done b.last in
                    let g = onward done (going_next plannable fits b.done b.last (lowered bound) found.0 b.going
                    found.1 h) in
                    let r = room_for done g in
                    record {
                      done = done;
                      place = at false h ∙ sym more;
                      room = r;
                      ends = ap (λ (k : ℕ). take k front.ends) more ∙
                          column_more (λ p. p.end) front.ends b.done b.last (omega (arith, s.end_places, r, more)) b.ends
                          b.end;
                      lates = ap (λ (k : ℕ). take k front.lates) more ∙
                          column_more late_of front.lates b.done b.last (omega (arith, s.late_places, r, more)) b.lates
                          b.late;
                      going = g;
                    }

        pub listing_room : (front.count ≤ most_rows) × (pair_place front.ends front.count desk.minute < most_rows)
        listing_room = (go s.so_far, omega (arith, placed.place, placed.room))
          where
            go : ((front.count ≡ 0) × (bound ≡ 4294967295)) ⊎ Begun front bound → front.count ≤ most_rows
            go (inl h) = omega (arith, h.0)
            go (inr b) = omega (arith, b.count, going_room plannable fits b.done b.last (lowered bound) b.going, length_count 1 n)

        pub listing_next : (r : Front) → r ≡ put_pair front desk.minute desk.worst → Listing r (desk.worst - 1)
        listing_next r made =
            let k = length placed.done in
            let x : r.ends ≡ set front.ends k desk.minute = ap (λ (f : Front). f.ends) made ∙
            ap (λ (m : ℕ). set front.ends m desk.minute) placed.place in
            let y : r.lates ≡ set front.lates k desk.worst = ap (λ (f : Front). f.lates) made ∙
            ap (λ (m : ℕ). set front.lates m desk.worst) placed.place in
            let h : k ≤ k = omega arith in
            record {
              end_places = ap length x ∙ (length-set front.ends k desk.minute ∙ s.end_places);
              late_places = ap length y ∙ (length-set front.lates k desk.worst ∙ s.late_places);
              so_far = inr (record {
                done = placed.done;
                last = pair;
                count = ap (λ (f : Front). f.count) made ∙ (ap (λ (m : ℕ). m + 1) placed.place ∙ add-one k);
                ends = ap (take k) x ∙ (take-set-le k front.ends k desk.minute h ∙ placed.ends);
                lates = ap (take k) y ∙ (take-set-le k front.lates k desk.worst h ∙ placed.lates);
                end = ap (λ (xs : List ℕ). get_or xs k 0) x ∙
                    (get_or-set_same front.ends k desk.minute 0 (omega (arith, placed.room, s.end_places)) ∙ found.2);
                late = ap (λ (xs : List ℕ). get_or xs k 0) y ∙
                    (get_or-set_same front.lates k desk.worst 0 (omega (arith, placed.room, s.late_places)) ∙ found.3);
                going = placed.going;
              });
            }
