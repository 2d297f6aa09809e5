-- A later start: how far an order's pair, and so the list, can move when the desk's minute does.
-- `job` says of each row number what planning sees of the row, opening minutes with it, and `left` the rows. The proof is `later_start`, in
-- proofs/LaterStart.antt. Rests on: Desk, Plans.
use Rattle.std.specs.Prelude.{ℕ, ◌+◌, ◌-◌, ◌≤◌, pos, ◌+ℤ◌, ◌≤ℤ◌}
use mathlib.Core.List.{List, Memᴰ}
use Rattle.theory.specs.Jobs.{Job}
use Rattle.schedule.specs.Desk.{Pair, pair_of}
use Rattle.schedule.specs.Plans.{plans}

-- What an order comes to from two minutes, the second d minutes later: it ends no sooner and is no less late, and both numbers are at most
-- the difference larger.
pub record PairMoves (d : ℕ) (earlier later : Pair) : Type 0 where
  pub no_sooner : earlier.end ≤ later.end
  pub no_less_late : earlier.late ≤ℤ later.late
  pub ends : later.end ≤ earlier.end + d
  pub lates : later.late ≤ℤ (earlier.late +ℤ pos d)

-- Two lists of plans, the second from d minutes later.
pub record ListMoves (d : ℕ) (earlier later : List Pair) : Type 0 where
  -- Each plan of the later list is met by one of the earlier list, with end and lateness no greater.
  pub met_earlier : (p : Pair) → Memᴰ p later →
      (q : Pair) × Memᴰ q earlier × (q.end ≤ p.end) × (q.late ≤ℤ p.late)
  -- Each plan of the earlier list is met by one of the later list, with both at most the difference larger.
  pub met_later : (p : Pair) → Memᴰ p earlier →
      (q : Pair) × Memᴰ q later × (q.end ≤ p.end + d) × (q.late ≤ℤ (p.late +ℤ pos d))

-- So it is of any rows and any two minutes: of every order of row numbers whatsoever, and of the list, which is by its definition what no
-- order beats. (It asks for no agreement and no row.)
module _ (job : ℕ → Job) (t later : ℕ) where
  pub record StartMoves : Type 0 where
    pub orders : (order : List ℕ) → PairMoves (later - t) (pair_of job t order) (pair_of job later order)
    pub lists : (left : List ℕ) → ListMoves (later - t) (plans job t left) (plans job later left)

abbrev pub LaterStart : Type 0
LaterStart = (job : ℕ → Job) (t later : ℕ) → t ≤ later → StartMoves job t later
