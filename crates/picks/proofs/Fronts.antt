-- The picks of a desk in planning: the least row of the set, or else the next row ahead, or else none.
-- Assumes nothing.
use Prim.Native.Nat.{ℕ, ◌+◌, ◌*◌, ◌≤◌, ◌<◌, compare, Ordering}
use native.Mathlib.Omega.{arith}
use mathlib.Core.Bool.{Bool, true, false}
use mathlib.Core.Path.{◌≡◌, refl, sym, ap, ◌∙◌, subst}
use mathlib.Core.List.{List, [], ◌∷◌, Memᴰ}
use lib.ListN.{get_or}
use mathlib.Core.Logic.{◌⊎◌, inl, inr}
use Rattle.theory.specs.Jobs.{Job}
use Rattle.schedule.specs.Rows.{without}
use Rattle.schedule.specs.Picks.{first_pick, others, second_pick}
use Rattle.schedule.proofs.Tests.{false_is_true, Compared, compared}
use Rattle.schedule.proofs.PickLaws.{Ahead, ahead_refl}
use Rattle.picks.specs.Bits.{mark, word, Words, Least}
use Rattle.picks.specs.Standing.{Tables, Stands, Late}
use Rattle.picks.proofs.Sets.{away_words}
use Rattle.picks.proofs.Firsts.{pick_is, sooner, ranked, second_is}
use Rattle.picks.proofs.Standings.{no_zero, stands_away, stands_next}

-- What `lowest`, `next_after` and `front` ensure.
abbrev pub Lowest : List ℕ → ℕ → Type 0
Lowest ws i = (p : ℕ → Bool) → Words p ws → p 0 ≡ false → Least p i

-- `lowest` from the first word on.
pub found : {ws : List ℕ} {i : ℕ} → ((p : ℕ → Bool) → ((q : ℕ) → 0 ≤ q → q < 5 → get_or ws q 0 ≡ word p (64 * q) 64) →
    ((j : ℕ) → j < 64 * 0 → p j ≡ false) → p 0 ≡ false → Least p i) → Lowest ws i
found f p s e = f p (λ q h g. s.each q g) (λ j h. let z : ⊥ = omega arith in absurd z) e

abbrev pub NextAfter : List ℕ → (i j : ℕ) → Type 0
NextAfter ws i j = (p : ℕ → Bool) → Words p ws → p 0 ≡ false → p i ≡ true → ((k : ℕ) → k < i → p k ≡ false) → Least (mark i false p) j

abbrev pub Front : (n : ℕ) (by : ℕ → ℕ) (j next k : ℕ) → Type 0
Front n by j next k =
    (job : ℕ → Job) (t : ℕ) (rest ws : List ℕ) → Tables n job by → (s : Stands n job by t rest next ws) → Least s.set j →
    Late n job by t next → k ≡ first_pick job t rest

-- The least row of the set, as `lowest` finds it.
pub least_row : {n : ℕ} {job : ℕ → Job} {by : ℕ → ℕ} → Tables n job by → {t : ℕ} {rest : List ℕ} {next : ℕ} {ws : List ℕ}
    (s : Stands n job by t rest next ws) {i : ℕ} → Lowest ws i → Least s.set i
least_row r s l = l s.set s.words (no_zero r s)

module _ {n : ℕ} {job : ℕ → Job} {by : ℕ → ℕ} (r : Tables n job by) {t : ℕ} {rest : List ℕ} {next : ℕ} {ws : List ℕ}
    (s : Stands n job by t rest next ws) {i : ℕ} (least : Least s.set i) where
  module _ (some : i ≡ 0 → ⊥) where
    on : s.set i ≡ true
    on = (least.some some).0

    -- After the least row of the set the next one can be sought.
    pub can_next : (i < 320) × ((p : ℕ → Bool) × Words p ws × (p i ≡ true))
    can_next = (least.below, (s.set, s.words, on))

    module _ (late : Late n job by t next) where
      -- It is the first pick: before the rows of the set by rank, before the rows ahead because it is released.
      pub ready_pick : i ≡ first_pick job t rest
      ready_pick = pick_is i rest (s.on i on).0 (λ j m. go j m (s.set j) refl)
        where
          go : (j : ℕ) → Memᴰ j rest → (c : Bool) → s.set j ≡ c → Ahead job t i j
          go j m true e = cases (compare i j) (compared i j)
            where
              cases : (o : Ordering) → Compared i j o → Ahead job t i j
              cases Ordering.lt h =
                  ranked (omega (arith, (s.on i on).1)) (r.in_rank i j (s.rows i (s.on i on).0).0 h (s.rows j m).1)
              cases Ordering.eq h = subst (Ahead job t i) h (ahead_refl job t i)
              cases Ordering.gt h = false_is_true (sym ((least.some some).1 j h) ∙ e)
          go j m false e =
              let k = s.off j m e in
              let g : (job (by k.0)).release ≡ (job j).release = ap (λ (x : ℕ). (job x).release) k.3 in
              sooner (omega (arith, (s.on i on).1, late k.0 k.1 k.2)) (omega (arith, late k.0 k.1 k.2))

      pub ready_picks : {j k : ℕ} → NextAfter ws i j → Front n by j next k → (i ≡ first_pick job t rest) × (k ≡ second_pick job t rest)
      unfolding stands_away
      ready_picks {j} {k} a f =
          let l = a s.set s.words (no_zero r s) on (least.some some).1 in
          let w = away_words s.words i least.below on in
          (ready_pick, second_is job t rest i k ready_pick (f job t (without i rest) _ r (stands_away r s on w) l late))

  module _ (none : i ≡ 0) (late : Late n job by t next) where
    -- Where the set is empty each row left over stands at a place ahead,
    at_place : (j : ℕ) → Memᴰ j rest → (k : ℕ) × (next ≤ k) × (k < n) × (by k ≡ j)
    at_place j m = s.off j m (least.none none j (omega (arith, (s.rows j m).1, r.few)))

    module _ (h : next < n) where
      -- and the row at the next one is the first pick.
      pub ahead_pick : by next ≡ first_pick job t rest
      ahead_pick = pick_is (by next) rest (s.ahead next (omega arith) h).0
          (λ j m. let k = at_place j m in subst (Ahead job t (by next)) k.3 (go k.0 k.1 k.2))
        where
          go : (k : ℕ) → next ≤ k → k < n → Ahead job t (by next) (by k)
          go k g l = cases (compare next k) (compared next k)
            where
              by_release : next < k → ((job (by next)).release < (job (by k)).release) ⊎
                  (((job (by next)).release ≡ (job (by k)).release) × (by next < by k)) → Ahead job t (by next) (by k)
              by_release d (inl x) = sooner x (late k g l)
              by_release d (inr x) =
                  ranked (omega (arith, x.0)) (r.in_rank (by next) (by k) (r.by_release.rows next h).0 x.1
                  (r.by_release.rows k l).1)

              cases : (o : Ordering) → Compared next k o → Ahead job t (by next) (by k)
              cases Ordering.lt d = by_release d (r.by_release.sorted next k d l)
              cases Ordering.eq d = subst (λ (x : ℕ). Ahead job t (by next) (by x)) d (ahead_refl job t (by next))
              cases Ordering.gt d = let z : ⊥ = omega arith in absurd z

      pub ahead_picks : {j k : ℕ} → k ≡ by next → Front n by 0 (next + 1) j → (k ≡ first_pick job t rest) × (j ≡ second_pick job t rest)
      unfolding stands_next
      ahead_picks {j} e f =
          let l = subst (Least s.set) none least in (
            e ∙ ahead_pick,
            second_is job t rest (by next) j ahead_pick
                (f job t (without (by next) rest) ws r (stands_next r s h) l (λ k u v. late k (omega arith) v)),
          )

    -- With no place ahead none is left over.
    none_left : n ≤ next → rest ≡ []
    none_left h = go rest (λ j m. let k = at_place j m in omega (arith, k.1, k.2))
      where
        go : (js : List ℕ) → ((j : ℕ) → Memᴰ j js → ⊥) → js ≡ []
        go [] f = refl
        go (j ∷ js) f = absurd (f j (Memᴰ.head refl))

    pub none_picks : n ≤ next → (0 ≡ first_pick job t rest) × (0 ≡ second_pick job t rest)
    unfolding first_pick second_pick others without
    none_picks h = (ap (first_pick job t) (sym (none_left h)), ap (second_pick job t) (sym (none_left h)))
