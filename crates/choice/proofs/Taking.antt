-- The first plans of several lists within a bound, as a loop takes them desk by desk.
-- Assumes nothing.
use Prim.Native.Nat.{ℕ, zero, suc, ◌+◌, ◌*◌, ◌≤◌, ◌<◌, max}
use native.Mathlib.Omega.{arith}
use native.Mathlib.Decide.{ℕ_discrete}
use native.Mathlib.Numerals.{add-one}
use mathlib.Core.Bool.{Bool, true, false, cond}
use mathlib.Core.Path.{◌≡◌, refl, sym, ap, ap₂, ◌∙◌, subst}
use mathlib.Core.List.{List, [], ◌∷◌, ◌++◌, map, map-append}
use mathlib.Core.Option.{Option, none, some}
use lib.Dec.{leb}
use Rattle.std.specs.Prelude.{Some, None}
use lib.ListN.{length, length-map, length-set, take, set}
use lib.IntN.{ℤ}
use lib.Seq.{length-take-le, get_or-take, take-suc, take-length, get_or-set_same, get_or-set_other}
use Rattle.schedule.specs.Limits.{most_rows, most_desks}
use Rattle.schedule.specs.Rows.{count_from}
use Rattle.schedule.specs.Desk.{Pair, max_z, worst_of}
use Rattle.schedule.specs.Offset.{raised, lowered}
use Rattle.schedule.specs.Columns.{at}
use Rattle.schedule.proofs.Numbers.{length_count, count_last}
use Rattle.schedule.proofs.SignedWords.{raised_lowered}
use Rattle.schedule.proofs.Raised.{lowered_le, max_lowered}
use Rattle.listing.specs.Fronts.{pair_at, pairs_of}
use Rattle.overtime.specs.Choices.{overtime, overtimes, greatest_late, first_within, in_front, first_plans}
use Rattle.choice.specs.Lists.{ends_at, lates_at, list_at, lists_in, place_within, ListedAt, Listed, place_at, Behind, taken_at, taken_of}
use Rattle.choice.proofs.Places.{place_low}

-- The first pair within a bound, of two columns of one length, is that at the place.
first_pair : (b : ℕ) (es ls : List ℕ) → length es ≡ length ls → place_within b ls < length ls →
    first_within (lowered b) (pairs_of es ls) ≡ some (pair_at (at es (place_within b ls)) (at ls (place_within b ls)))
unfolding first_within pairs_of place_within
first_pair b [] [] h k = let z : ⊥ = omega arith in absurd z
first_pair b [] (l ∷ ls) h k = let z : ⊥ = omega arith in absurd z
first_pair b (e ∷ es) [] h k = let z : ⊥ = omega arith in absurd z
first_pair b (e ∷ es) (l ∷ ls) h k = rw (lowered_le l b) (step (leb l b) k (first_pair b es ls (omega arith)))
  where
    step : (t : Bool) → cond t 0 (suc (place_within b ls)) < suc (length ls) →
        (place_within b ls < length ls →
        first_within (lowered b) (pairs_of es ls) ≡ some (pair_at (at es (place_within b ls)) (at ls (place_within b ls)))) →
        cond t (some (pair_at e l)) (first_within (lowered b) (pairs_of es ls)) ≡
        some (pair_at (at (e ∷ es) (cond t 0 (suc (place_within b ls)))) (at (l ∷ ls) (cond t 0 (suc (place_within b ls)))))
    step true k f = refl
    step false k f = f (omega arith)

no_pair_lem : (b : ℕ) (es ls : List ℕ) → length es ≡ length ls → place_within b ls ≡ length ls → first_within (lowered b) (pairs_of es ls) ≡ none
unfolding first_within pairs_of place_within
no_pair_lem b [] ls h k = refl
no_pair_lem b (e ∷ es) [] h k = refl
no_pair_lem b (e ∷ es) (l ∷ ls) h k = rw (lowered_le l b) (step (leb l b) k (no_pair_lem b es ls (omega arith)))
  where
    step : (t : Bool) → cond t 0 (suc (place_within b ls)) ≡ suc (length ls) →
        (place_within b ls ≡ length ls → first_within (lowered b) (pairs_of es ls) ≡ none) →
        cond t (some (pair_at e l)) (first_within (lowered b) (pairs_of es ls)) ≡ none
    step true k f = let z : ⊥ = omega arith in absurd z
    step false k f = f (omega arith)

-- The first plans of lists that are numbered.
module _ (y : ℤ) (f : ℕ → List Pair) where
  plans_all : (g : ℕ → Pair) (n i : ℕ) → ((e : ℕ) → i ≤ e → e < i + n → first_within y (f e) ≡ some (g e)) →
      first_plans y (map f (count_from i n)) ≡ some (map g (count_from i n))
  unfolding first_plans count_from
  plans_all g zero i h = refl
  plans_all g (suc n) i h =
      rw (h i (omega arith) (omega arith), plans_all g n (suc i) (λ e l k. h e (omega arith) (omega arith)))

  behind_none : (a : Option Pair) → in_front a none ≡ none
  behind_none none = refl
  behind_none (some p) = refl

  plans_none : (n i d : ℕ) → i ≤ d → d < i + n → first_within y (f d) ≡ none → first_plans y (map f (count_from i n)) ≡ none
  unfolding first_plans count_from
  plans_none zero i d l k e = let z : ⊥ = omega arith in absurd z
  plans_none (suc n) i d l k e = step (ℕ_discrete i d) (λ h. plans_none n (suc i) d h (omega arith) e)
    where
      step : Dec (i ≡ d) → (suc i ≤ d → first_plans y (map f (count_from (suc i) n)) ≡ none) →
          in_front (first_within y (f i)) (first_plans y (map f (count_from (suc i) n))) ≡ none
      step (yes same) g =
          let h : first_within y (f i) ≡ none = ap (λ (x : ℕ). first_within y (f x)) same ∙ e in
          ap (λ (a : Option Pair). in_front a (first_plans y (map f (count_from (suc i) n)))) h
      step (no other) g =
          ap (λ (b : Option (List Pair)). in_front (first_within y (f i)) b) (g (omega arith)) ∙ behind_none (first_within y (f i))

-- The greatest of some latenesses, raised; 0 of none.
pub top_late : List Pair → ℕ
top_late [] = 0
top_late (p ∷ ps) = max (raised p.late) (top_late ps)

module _ (ends lates : ℕ → ℕ) where
  abbrev pairs : List ℕ → List Pair
  pairs xs = map (λ e. pair_at (ends e) (lates e)) xs

  top_lowered : (x : ℕ) (xs : List ℕ) → lowered (top_late (pairs (x ∷ xs))) ≡ greatest_late (pairs (x ∷ xs))
  unfolding top_late worst_of
  top_lowered x [] = let m : max (raised (lowered (lates x))) 0 ≡ lates x = omega (arith, raised_lowered (lates x)) in ap lowered m
  top_lowered x (w ∷ ws) =
      max_lowered (raised (lowered (lates x))) (top_late (pairs (w ∷ ws))) ∙
      ap₂ max_z (ap lowered (raised_lowered (lates x))) (top_lowered w ws)

  top_greatest : (n : ℕ) → 1 ≤ n → top_late (pairs (count_from 0 n)) ≡ raised (greatest_late (pairs (count_from 0 n)))
  unfolding count_from
  top_greatest zero h = let z : ⊥ = omega arith in absurd z
  top_greatest (suc n) h = sym (raised_lowered (top_late (pairs (0 ∷ count_from 1 n)))) ∙ ap raised (top_lowered 0 (count_from 1 n))

-- One more at the end.
top_more : (ps : List Pair) (p : Pair) → top_late (ps ++ (p ∷ [])) ≡ max (top_late ps) (raised p.late)
unfolding top_late
top_more [] p = omega arith
top_more (q ∷ ps) p = omega (arith, top_more ps p)

overtimes_more : (cs : List ℕ) (ps : List Pair) (c : ℕ) (p : Pair) → length cs ≡ length ps →
    overtimes (cs ++ (c ∷ [])) (ps ++ (p ∷ [])) ≡ overtimes cs ps + overtime p.end c
unfolding overtimes
overtimes_more [] [] c p h = omega arith
overtimes_more [] (q ∷ ps) c p h = let z : ⊥ = omega arith in absurd z
overtimes_more (d ∷ cs) [] c p h = let z : ⊥ = omega arith in absurd z
overtimes_more (d ∷ cs) (q ∷ ps) c p h = omega (arith, overtimes_more cs ps c p (omega arith))

pub map_last : {A : Type 0} (f : ℕ → A) (n : ℕ) → map f (count_from 0 (suc n)) ≡ map f (count_from 0 n) ++ (f n ∷ [])
map_last {A} f n =
    let z : 0 + n ≡ n = omega arith in
    ap (map f) (count_last 0 n) ∙ map-append f (count_from 0 n) ((0 + n) ∷ []) ∙
    ap (λ (i : ℕ). map f (count_from 0 n) ++ (f i ∷ [])) z

module _ (plans : List ℕ) (fronts : List (List ℕ)) (closings : List ℕ) (bound : ℕ) where
  abbrev place : ℕ → ℕ
  place e = place_at plans fronts bound e

  abbrev pub first_at : ℕ → Pair
  first_at e = pair_at (at (ends_at fronts e) (place e)) (at (lates_at fronts e) (place e))

  abbrev pub firsts_to : ℕ → List Pair
  firsts_to d = map first_at (count_from 0 d)

  -- What is taken of the first d desks.
  pub record Taking (cursors : List ℕ) (late sum d : ℕ) : Type 0 where
    pub within_count : d ≤ length closings
    pub behind : Behind plans fronts (length closings) bound cursors
    pub all_within : (e : ℕ) → e < d → place e < at plans e
    pub greatest : late ≡ top_late (firsts_to d)
    pub total : sum ≡ overtimes (take d closings) (firsts_to d)
    pub small : sum ≤ 4294967295 * d

  pub taking_none : (cursors : List ℕ) → Behind plans fronts (length closings) bound cursors → Taking cursors 0 0 0
  unfolding top_late overtimes count_from
  taking_none cursors b = record {
    within_count = omega arith;
    behind = b;
    all_within = λ e h. let z : ⊥ = omega arith in absurd z;
    greatest = refl;
    total = refl;
    small = omega arith;
  }

  module _ (listed : Listed plans fronts (length closings)) where
    module _ (e : ℕ) (h : e < length closings) where
      abbrev l : ListedAt (at plans e) (ends_at fronts e) (lates_at fronts e)
      l = listed e h

      abbrev es : List ℕ
      es = take (at plans e) (ends_at fronts e)

      abbrev ls : List ℕ
      ls = take (at plans e) (lates_at fronts e)

      ends_length : length es ≡ at plans e
      ends_length = length-take-le (at plans e) (ends_at fronts e) (omega (arith, l.few, l.end_places))

      lates_length : length ls ≡ at plans e
      lates_length = length-take-le (at plans e) (lates_at fronts e) (omega (arith, l.few, l.late_places))

      place_in : place e ≤ at plans e
      place_in = place_low bound (at plans e) (lates_at fronts e) (omega (arith, l.few, l.late_places))

      pub inside : (k : ℕ) → k ≡ place e → ¬ (k ≡ at plans e) → (k < at plans e) × (k < most_rows)
      inside k s n = (omega (arith, place_in), omega (arith, place_in, l.few))

      within : place e < at plans e → first_within (lowered bound) (list_at plans fronts e) ≡ some (first_at e)
      within k =
          first_pair bound es ls (ends_length ∙ sym lates_length) (omega (arith, lates_length)) ∙
          ap some (ap₂ pair_at (get_or-take (at plans e) (ends_at fronts e) (place e) 0 k)
          (get_or-take (at plans e) (lates_at fronts e) (place e) 0 k))

      pub none_within : place e ≡ at plans e →
          None ≡ taken_of closings (first_plans (lowered bound) (lists_in plans fronts (length closings)))
      unfolding taken_of
      none_within k =
          let w = no_pair_lem bound es ls (ends_length ∙ sym lates_length) (k ∙ sym lates_length) in
          sym (ap (taken_of closings)
          (plans_none (lowered bound) (list_at plans fronts) (length closings) 0 e (omega arith) (omega arith) w))

    -- Each desk has a plan within the bound: these are the first plans.
    pub firsts_all : ((e : ℕ) → e < length closings → place e < at plans e) →
        first_plans (lowered bound) (lists_in plans fronts (length closings)) ≡ some (firsts_to (length closings))
    firsts_all h =
        plans_all (lowered bound) (list_at plans fronts) first_at (length closings) 0
        (λ i l k. within i (omega arith) (h i (omega arith)))

    module _ (cursors : List ℕ) (late sum d : ℕ) (t : Taking cursors late sum d) where
      -- One desk more.
      taking_next : d < length closings → d < most_desks → place d < at plans d → (worse more : ℕ) →
          worse ≡ max late (at (lates_at fronts d) (place d)) → more ≡ overtime (at (ends_at fronts d) (place d)) (at closings d) →
          more ≤ 4294967295 → Taking (set cursors d (place d)) worse (sum + more) (d + 1)
      taking_next h few k worse more w o small =
          let f : firsts_to (suc d) ≡ firsts_to d ++ (first_at d ∷ []) = map_last first_at d in
          let n : length (take d closings) ≡ length (firsts_to d) =
          length-take-le d closings (omega arith) ∙ sym (length-map (count_from 0 d) first_at ∙ length_count 0 d) in
          let x : overtimes (take (suc d) closings) (firsts_to (suc d)) ≡
          overtimes (take d closings ++ (at closings d ∷ [])) (firsts_to d ++ (first_at d ∷ [])) =
          (λ i. overtimes (take-suc closings d 0 h i) (f i)) in
          rw (add-one d) (record {
            within_count = omega arith;
            behind = record { places = simp length-set t.behind.places; behind = λ e g. moved e (ℕ_discrete e d) g };
            all_within = λ e g. below e (ℕ_discrete e d) g;
            greatest = omega (
              arith,
              w,
              t.greatest,
              ap {B = ℕ} top_late f,
              top_more (firsts_to d) (first_at d),
              raised_lowered (at (lates_at fronts d) (place d)),
            );
            total = omega (arith, t.total, o, x, overtimes_more (take d closings) (firsts_to d) (at closings d) (first_at d) n);
            small = omega (arith, t.small);
          })
        where
          moved : (e : ℕ) → Dec (e ≡ d) → e < length closings → at (set cursors d (place d)) e ≤ place e
          moved e (yes same) g = rw same (omega (arith, get_or-set_same cursors d (place d) 0 (omega (arith, t.behind.places))))
          moved e (no other) g = rw (get_or-set_other cursors d e (place d) 0 other) (t.behind.behind e g)

          below : (e : ℕ) → Dec (e ≡ d) → e < suc d → place e < at plans e
          below e (yes same) g = rw same k
          below e (no other) g = t.all_within e (omega arith)

      pub taking_more : d < length closings → d < most_desks → (k : ℕ) → k ≡ place d → k < at plans d → (worse more : ℕ) →
          worse ≡ max late (at (lates_at fronts d) k) → more ≡ overtime (at (ends_at fronts d) k) (at closings d) → more ≤ 4294967295 →
          Taking (set cursors d k) worse (sum + more) (d + 1)
      taking_more h few k e l worse more w o small =
          rw e (taking_next h few (subst (λ (k : ℕ). k < at plans d) e l) worse more
          (w ∙ ap (λ (k : ℕ). max late (at (lates_at fronts d) k)) e)
          (o ∙ ap (λ (k : ℕ). overtime (at (ends_at fronts d) k) (at closings d)) e) small)

      pub taken_all : d ≡ length closings → 1 ≤ length closings →
          Some (taken_at late sum) ≡ taken_of closings (first_plans (lowered bound) (lists_in plans fronts (length closings)))
      unfolding taken_of
      taken_all e some_desk =
          let m : ℕ = length closings in
          let all = firsts_all (λ i h. t.all_within i (omega arith)) in
          let y : late ≡ raised (greatest_late (firsts_to m)) = t.greatest ∙ ap (λ (n : ℕ). top_late (firsts_to n)) e ∙
          top_greatest (λ i. at (ends_at fronts i) (place i)) (λ i. at (lates_at fronts i) (place i)) m some_desk in
          let s : sum ≡ overtimes closings (firsts_to m) = t.total ∙ ap (λ (n : ℕ). overtimes (take n closings) (firsts_to n)) e ∙
          ap (λ (cs : List ℕ). overtimes cs (firsts_to m)) (take-length closings) in
          ap₂ (λ (l o : ℕ). Some (taken_at l o)) y s ∙ sym (ap (taken_of closings) all)
