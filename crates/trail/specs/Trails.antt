-- The way to a plan: the blocks from the first run on, as the trail holds them, so that a smaller bound goes on from one of them.
-- Rows are numbered by rank. Rests on: Taking, Searched.
use Rattle.std.specs.Prelude.{ℕ, zero, suc, ◌≤◌, ◌<◌, Bool, true, false, cond, ◌≡◌, List, [], ◌∷◌, length, get_or}
use Rattle.std.proofs.Math.Option.{none}
use Rattle.theory.specs.Jobs.{Job}
use Rattle.schedule.specs.Limits.{most_rows}
use Rattle.schedule.specs.Picks.{decided, block_one, block_two}
use Rattle.schedule.specs.Columns.{at}
use Rattle.picks.specs.declared.Standing.{Standing}
use Rattle.picks.specs.Bits.{bit}
use Rattle.trail.specs.declared.Reached.{Reached}
use Rattle.search.specs.Taking.{Stuck, desk_through}
use Rattle.search.specs.Searched.{order_at_raised}
use Rattle.search.specs.Ways.{Way}

-- A desk on the way and whether block two was taken there, as ten words.
abbrev pub words_of : Standing → Bool → List ℕ
words_of s second = s.desk.minute ∷ s.desk.worst ∷ s.count ∷ s.next ∷ bit second ∷ s.ready

-- What a desk on the way is within, so that its words hold it.
pub record Fits (s : Standing) : Type 0 where
  pub minute : s.desk.minute ≤ 4294967295
  pub worst : s.desk.worst ≤ 4294967295
  pub count : s.count ≤ most_rows
  pub next : s.next ≤ most_rows
  pub ready : length s.ready ≡ 5

-- The words at a place of the trail; and the worst lateness before the block that began there.
abbrev pub trail_words : List (List ℕ) → ℕ → List ℕ
trail_words trail k = get_or trail k []

abbrev pub worst_at : List (List ℕ) → ℕ → ℕ
worst_at trail k = at (trail_words trail k) 1

-- Of the blocks on the trail, the first k: the last of them began within the bound, those after it did not.
pub record Back (trail : List (List ℕ)) (bound depth k : ℕ) : Type 0 where
  pub some : k ≤ depth
  pub begun : (e : ℕ) → k ≡ suc e → worst_at trail e ≤ bound
  pub past : (e : ℕ) → k ≤ e → e < depth → bound < worst_at trail e

module _ (n : ℕ) (job : ℕ → Job) (by : ℕ → ℕ) (free : ℕ) where
  -- The block at the place k of the trail: where it began, which it is, and the worst lateness `after` it.
  pub record Entry (bound k : ℕ) (words : List ℕ) (after : ℕ) : Type 0 where
    pub from : Standing
    pub second : Bool
    pub held : words ≡ words_of from second
    pub place : k ≤ from.count
    pub done : List ℕ
    pub rest : List ℕ
    pub way : Way n job by free bound done rest from
    pub torn : decided job from.desk.minute rest ≡ false
    pub late : after ≡ (desk_through job from.desk
        (cond second (block_two job from.desk.minute rest) (block_one job from.desk.minute rest))).worst
    pub first_over : second ≡ true → bound < (desk_through job from.desk (block_one job from.desk.minute rest)).worst

  -- The trail holds as many blocks, `worst` being the worst lateness after them; of none it is that of the first run.
  abbrev pub OnTrail : ℕ → List (List ℕ) → ℕ → ℕ → Type 0
  OnTrail bound trail zero worst = (b : ℕ) → b < worst → order_at_raised job n free b ≡ none
  OnTrail bound trail (suc k) worst = Entry bound k (trail_words trail k) worst × OnTrail bound trail k (worst_at trail k)

  -- The search has come to the desk s with as many blocks on the trail; or no order keeps the bound.
  pub record Here (bound : ℕ) (trail : List (List ℕ)) (depth : ℕ) (s : Standing) : Type 0 where
    pub done : List ℕ
    pub rest : List ℕ
    pub way : Way n job by free bound done rest s
    pub stuck : Stuck n job by s.desk.minute rest
    pub place : depth ≤ s.count
    pub held : OnTrail bound trail depth s.desk.worst

  pub record Came (bound : ℕ) (trail : List (List ℕ)) (depth : ℕ) (s : Standing) : Type 0 where
    pub kept : s.desk.worst ≤ bound → Here bound trail depth s
    pub over : bound < s.desk.worst → order_at_raised job n free bound ≡ none

  -- The search is at its end: no row is left, or no order keeps the bound.
  pub record Ended (bound : ℕ) (trail : List (List ℕ)) (r : Reached) : Type 0 where
    pub came : Came bound trail r.depth r.at
    pub all : r.at.desk.worst ≤ bound → r.at.count ≡ n

  -- A plan was found for the bound `before`, and the bound is now one below its worst lateness.
  pub record Lowered (before bound : ℕ) (trail : List (List ℕ)) (r : Reached) : Type 0 where
    pub found : Ended before trail r
    pub kept : r.at.desk.worst ≤ before
    pub less : r.at.desk.worst ≡ suc bound
