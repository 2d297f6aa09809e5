-- The way to the order for a bound, and for each smaller one: the blocks from the first run on. Rows are numbered by rank.
-- Rests on: Taking, Searched.
use Rattle.std.specs.Prelude.{ℕ, ◌≤◌, ◌≡◌, List, length}
use Rattle.theory.specs.Jobs.{Job}
use Rattle.schedule.specs.Picks.{joined, blocks_for}
use Rattle.schedule.specs.Offset.{lowered, desk_at}
use Rattle.picks.specs.declared.Standing.{Standing}
use Rattle.picks.specs.Standing.{Sits}
use Rattle.search.specs.Taking.{desk_through}
use Rattle.search.specs.Searched.{order_at_raised}

module _ (n : ℕ) (job : ℕ → Job) (by : ℕ → ℕ) (free : ℕ) where
  -- The desk s is on the way to the order for each bound up to `bound`, as long as its worst lateness is within that bound:
  -- the rows `done`, then what the blocks from here on give.
  pub record Way (bound : ℕ) (done rest : List ℕ) (s : Standing) : Type 0 where
    pub fuel : ℕ
    pub sits : Sits n job by rest s
    pub desk : s.desk ≡ desk_through job (desk_at free) done
    pub count : s.count ≡ length done
    pub enough : length rest ≤ fuel
    pub leads : (b : ℕ) → b ≤ bound → s.desk.worst ≤ b →
        order_at_raised job n free b ≡ joined done (blocks_for job fuel (lowered b) s.desk.minute rest)
