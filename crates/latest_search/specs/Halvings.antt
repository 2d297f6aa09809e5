-- How often a number can be halved until it is 0. The halving of the minutes is measured by it, which is why it tries at most 24 minutes
-- after minute 0. The proof of `HalvingsFall` is `halvings_fall`, in proofs/Halvings.antt. Rests on nothing.
use Rattle.std.specs.Prelude.{ℕ, zero, suc, ◌+◌, ◌^◌, ◌≤◌, ◌<◌, cond, leb}

-- The least power of two above the number, up to the k-th.
unfoldable pub bits : (k w : ℕ) → ℕ
bits zero w = 0
bits (suc k) w = cond (leb (2 ^ k) w) (suc k) (bits k w)

abbrev pub most_halvings : ℕ
most_halvings = 24

abbrev pub halvings : ℕ → ℕ
halvings w = bits most_halvings w

-- There are at most 24, and of half a number there are fewer.
pub record HalvingsFall : Type 0 where
  pub most : (w : ℕ) → halvings w ≤ most_halvings
  pub falls : (v w : ℕ) → 0 < w → w < 2 ^ most_halvings → v + v ≤ w → halvings v < halvings w
