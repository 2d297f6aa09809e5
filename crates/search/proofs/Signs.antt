-- Raised latenesses and signed ones: the desk's worst lateness is within a raised bound exactly where every lateness is within the
-- signed one.
-- Assumes nothing.
use Prim.Native.Nat.{ℕ, ◌+◌, ◌-◌, ◌≤◌, max}
use native.Mathlib.Omega.{arith}
use mathlib.Core.Bool.{Bool, true, false, ◌&&◌}
use mathlib.Core.Path.{◌≡◌, refl, sym, ap, ◌∙◌}
use mathlib.Core.List.{List, [], ◌∷◌, ◌++◌}
use lib.Dec.{leb}
use lib.ListN.{length}
use lib.IntN.{ℤ, sub_ℕ, pred_ℤ}
use lib.Signed.{le_z}
use borrow.Author.Tests.{le-leb, lt-leb, leb-true, leb-false}
use Rattle.theory.specs.Jobs.{Job, finish}
use Rattle.schedule.specs.declared.Desk.{Desk}
use Rattle.schedule.specs.Desk.{max_z, worst_of, at_most, latenesses, end_of, keeps, pair_of}
use Rattle.schedule.specs.Offset.{raised, lowered, desk_at, desk_after}
use Rattle.schedule.proofs.SignedWords.{raised_lowered}
use Rattle.schedule.proofs.Raised.{lowered_le, late_lowered, max_lowered}
use Rattle.schedule.proofs.Signed.{level, sub_level, pred_level}
use Rattle.schedule.specs.Columns.{Limits}
use Rattle.search.specs.Taking.{desk_through}

-- The bound one below.
pub lowered_pred : (n : ℕ) → 1 ≤ n → lowered (n - 1) ≡ pred_ℤ (lowered n)
lowered_pred n h = level (lowered (n - 1)) (pred_ℤ (lowered n))
    (omega (arith, sub_level (n - 1) 2147483648, sub_level n 2147483648, pred_level (lowered n)))

-- The test of a raised lateness.
late_within : (end due bound : ℕ) → due ≤ 2147483648 → leb (end + 2147483648 - due) bound ≡ le_z (sub_ℕ end due) (lowered bound)
late_within end due bound h = sym (lowered_le (end + 2147483648 - due) bound) ∙
    ap (λ (z : ℤ). le_z z (lowered bound)) (late_lowered end due h)

max_within : (a b c : ℕ) → leb (max a b) c ≡ (leb a c && leb b c)
max_within a b c = go (leb a c) (leb b c) refl refl
  where
    go : (p q : Bool) → leb a c ≡ p → leb b c ≡ q → leb (max a b) c ≡ (p && q)
    go true true x y = le-leb (max a b) c (omega (arith, leb-true a c x, leb-true b c y))
    go true false x y = lt-leb (max a b) c (omega (arith, leb-false b c y))
    go false q x y = lt-leb (max a b) c (omega (arith, leb-false a c x))

and_assoc : (a b c : Bool) → ((a && b) && c) ≡ (a && (b && c))
and_assoc true b c = refl
and_assoc false b c = refl

and_true : (a : Bool) → a ≡ (a && true)
and_true true = refl
and_true false = refl

module _ (job : ℕ → Job) where
  -- The minute after an order is its end.
  pub through_minute : (d : Desk) (o : List ℕ) → (desk_through job d o).minute ≡ end_of job d.minute o
  unfolding desk_through end_of
  through_minute d [] = refl
  through_minute d (i ∷ is) = through_minute (desk_after d (job i)) is

  -- Rows after rows.
  pub through_append : (d : Desk) (o p : List ℕ) → desk_through job d (o ++ p) ≡ desk_through job (desk_through job d o) p
  unfolding desk_through
  through_append d [] p = refl
  through_append d (i ∷ is) p = through_append (desk_after d (job i)) is p

  module _ (limits : Limits job) where
    -- The desk's worst lateness after an order is within a bound exactly where it was before and the order keeps the bound.
    pub through_within : (bound : ℕ) (d : Desk) (o : List ℕ) →
        leb (desk_through job d o).worst bound ≡ (leb d.worst bound && keeps job (lowered bound) d.minute o)
    unfolding desk_through at_most latenesses
    through_within bound d [] = and_true (leb d.worst bound)
    through_within bound d (i ∷ is) =
        let end = finish (job i) d.minute in
        let late = end + 2147483648 - (job i).due in
        let more = keeps job (lowered bound) end is in
        through_within bound (desk_after d (job i)) is ∙
        (ap (λ (b : Bool). b && more) (max_within d.worst late bound) ∙
        (and_assoc (leb d.worst bound) (leb late bound) more ∙
        ap (λ (b : Bool). leb d.worst bound && (b && more)) (late_within end (job i).due bound (omega (arith, limits.dues i)))))

    -- The worst lateness only grows, and is at least 1 after a row.
    pub through_grows : (d : Desk) (o : List ℕ) → d.worst ≤ (desk_through job d o).worst
    unfolding desk_through
    through_grows d [] = omega arith
    through_grows d (i ∷ is) = omega (arith, through_grows (desk_after d (job i)) is)

    pub through_late : (d : Desk) (o : List ℕ) → 1 ≤ length o → 1 ≤ (desk_through job d o).worst
    unfolding desk_through
    through_late d [] h = let z : ⊥ = omega arith in absurd z
    through_late d (i ∷ is) h = omega (arith, through_grows (desk_after d (job i)) is, limits.dues i)

    -- The worst of an order's raised latenesses; 0 where there is none.
    raised_worst : ℕ → List ℕ → ℕ
    raised_worst t [] = 0
    raised_worst t (i ∷ is) = max (finish (job i) t + 2147483648 - (job i).due) (raised_worst (finish (job i) t) is)

    through_worst : (d : Desk) (o : List ℕ) → (desk_through job d o).worst ≡ max d.worst (raised_worst d.minute o)
    unfolding desk_through raised_worst
    through_worst d [] = omega arith
    through_worst d (i ∷ is) = omega (arith, through_worst (desk_after d (job i)) is)

    worst_lowered : (t i : ℕ) (is : List ℕ) → lowered (raised_worst t (i ∷ is)) ≡ worst_of (latenesses job t (i ∷ is))
    unfolding raised_worst worst_of latenesses
    worst_lowered t i [] =
        let late = finish (job i) t + 2147483648 - (job i).due in
        let m : max late 0 ≡ late = omega arith in
        ap lowered m ∙ late_lowered (finish (job i) t) (job i).due (omega (arith, limits.dues i))
    worst_lowered t i (j ∷ js) =
        max_lowered (finish (job i) t + 2147483648 - (job i).due) (raised_worst (finish (job i) t) (j ∷ js)) ∙
        (λ x. max_z (late_lowered (finish (job i) t) (job i).due (omega (arith, limits.dues i)) x)
        (worst_lowered (finish (job i) t) j js x))

    -- The pair of an order of at least one row, from a desk with nothing done yet.
    pub followed_late : (free : ℕ) (o : List ℕ) → 1 ≤ length o → lowered (desk_through job (desk_at free) o).worst ≡ (pair_of job free o).late
    followed_late free [] h = let z : ⊥ = omega arith in absurd z
    followed_late free (i ∷ is) h =
        let w : (desk_through job (desk_at free) (i ∷ is)).worst ≡ raised_worst free (i ∷ is) = omega
        (arith, through_worst (desk_at free) (i ∷ is)) in
        ap lowered w ∙ worst_lowered free i is

    pub followed_raised : (free : ℕ) (o : List ℕ) → 1 ≤ length o → (desk_through job (desk_at free) o).worst ≡ raised (pair_of job free o).late
    followed_raised free o h = sym (raised_lowered (desk_through job (desk_at free) o).worst) ∙ ap raised (followed_late free o h)

    pub followed_end : (free : ℕ) (o : List ℕ) → (desk_through job (desk_at free) o).minute ≡ end_of job free o
    followed_end free o = through_minute (desk_at free) o

    -- The raised lateness of an order lowers to its lateness.
    pub late_lowers : (free : ℕ) (o : List ℕ) → 1 ≤ length o → lowered (raised (pair_of job free o).late) ≡ (pair_of job free o).late
    late_lowers free o h = ap lowered (sym (followed_raised free o h)) ∙ followed_late free o h
