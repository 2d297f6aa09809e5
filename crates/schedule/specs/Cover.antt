-- Property 3 of the definitions: what is promised of any rows in agreement, from any minute on. Its proof is `promised`, in
-- proofs/Cover.antt. Rests on: Desk, Picks, Plans.
use Rattle.std.specs.Prelude.{ℕ, ◌+◌, ◌≤◌, ◌<◌, ◌≡◌, ◌↔◌, length, ℤ, pos, negsuc, ◌≤ℤ◌, ◌<ℤ◌}
use mathlib.Core.List.{List, [], ◌∷◌, Memᴰ}
use Rattle.std.proofs.Math.Option.{Option, none, some}
use Rattle.theory.specs.Jobs.{Job}
use Rattle.schedule.specs.Desk.{Pair, OrderOf, Attains, pair_of, end_of, idle_of, lengths_of}
use Rattle.schedule.specs.Picks.{order_for}
use Rattle.schedule.specs.Plans.{Beats, plans, list_by_bounds}

-- Of two rows the one due later has no more spare (due minus release minus length). This is the ordering rule, freed of places in a book.
abbrev pub Agreeing : (ℕ → Job) → List ℕ → Type 0
Agreeing job left = (i j : ℕ) → Memᴰ i left → Memᴰ j left → (job i).due < (job j).due →
    (job i).release + (job i).length + (job j).due ≤ (job j).release + (job j).length + (job i).due

-- From each pair to all after it the end rises and the lateness falls.
abbrev pub Rising : List Pair → Type 0
Rising [] = Unit {0}
Rising (p ∷ ps) = ((q : Pair) → Memᴰ q ps → (p.end < q.end) × (q.late <ℤ p.late)) × Rising ps

-- Every order's worst lateness is a signed 32-bit number.
abbrev pub Fits32 : (ℕ → Job) → ℕ → List ℕ → Type 0
Fits32 job t left = (order : List ℕ) → OrderOf left order →
    (negsuc 2147483647 ≤ℤ (pair_of job t order).late) × ((pair_of job t order).late ≤ℤ pos 2147483647)

-- `orders` gives the order for each bound, or none.
module _ (job : ℕ → Job) (t : ℕ) (left : List ℕ) (orders : ℤ → Option (List ℕ)) where
  pub record PlansPromise : Type 0 where
    -- The order for a bound is an order of the rows, keeps the bound, and ends no later than any order that keeps it.
    pub best : (y : ℤ) (order : List ℕ) → orders y ≡ some order →
        OrderOf left order × ((pair_of job t order).late ≤ℤ y) ×
        ((other : List ℕ) → OrderOf left other → (pair_of job t other).late ≤ℤ y → end_of job t order ≤ end_of job t other)
    -- A bound is unkept exactly if no order keeps it.
    pub unkept : (y : ℤ) → (orders y ≡ none) ↔ ((order : List ℕ) → OrderOf left order → ¬ ((pair_of job t order).late ≤ℤ y))
    -- A pair is listed exactly if some order attains it and no order beats it.
    pub belongs : (p : Pair) → Memᴰ p (plans job t left) ↔
        (((order : List ℕ) × Attains job t left order p) × ((other : List ℕ) → OrderOf left other → ¬ Beats (pair_of job t other) p))
    -- Every order is covered: some listed pair has both numbers no greater.
    pub cover : (order : List ℕ) → OrderOf left order →
        (p : Pair) × Memᴰ p (plans job t left) × (p.end ≤ end_of job t order) × (p.late ≤ℤ (pair_of job t order).late)
    -- Listed pairs rise strictly in end and fall strictly in lateness.
    pub rising : Rising (plans job t left)
    -- There is a plan, and there are no more plans than rows.
    pub few : (1 ≤ length (plans job t left)) × (length (plans job t left) ≤ length left)
    -- The order for a listed pair's lateness attains that pair.
    pub attains : (p : Pair) → Memᴰ p (plans job t left) →
        (order : List ℕ) × (orders p.late ≡ some order) × Attains job t left order p

-- The whole of property 3, for rows that agree. (Of no rows at all there is one plan, of the empty order: so at least one row.)
abbrev pub Promised : Type 0
Promised = (job : ℕ → Job) (t : ℕ) (left : List ℕ) → Agreeing job left → 0 < length left → PlansPromise job t left (order_for job t left)

-- Asking for ever smaller bounds gives the list, where every lateness is a signed 32-bit number.
abbrev pub SameList : Type 0
SameList = (job : ℕ → Job) (t : ℕ) (left : List ℕ) → Agreeing job left → 0 < length left → Fits32 job t left →
    list_by_bounds job t left ≡ plans job t left

-- Idle plus all lengths equals end minus the minute at the start.
abbrev pub IdleSum : Type 0
IdleSum = (job : ℕ → Job) (t : ℕ) (order : List ℕ) → t + (idle_of job t order + lengths_of job order) ≡ end_of job t order
