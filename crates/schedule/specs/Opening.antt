-- Opening a file: what follows where each row takes opening plus length at the desk (`with_opening`). `job` says what each row has of its
-- own, without opening. The proof is `opening_laws`, in proofs/Opening.antt. Rests on: Rows, Desk, Picks, Arrival, Profiles.
use Rattle.std.specs.Prelude.{ℕ, ◌+◌, ◌*◌, max, ◌≡◌, List, ◌↔◌, length}
use Rattle.std.proofs.Math.IntN.{sub_ℕ}
use Rattle.theory.specs.Jobs.{Job, finish}
use Rattle.schedule.specs.declared.Profile.{Profile}
use Rattle.schedule.specs.Rows.{with_opening}
use Rattle.schedule.specs.Desk.{lateness, end_of, idle_of, lengths_of}
use Rattle.schedule.specs.Picks.{outranks}
use Rattle.schedule.specs.Arrival.{by_arrival}
use Rattle.schedule.specs.Profiles.{Obeys}

module _ (opening : ℕ) (job : ℕ → Job) where
  -- What planning sees of each row number.
  abbrev pub opened_job : ℕ → Job
  opened_job i = with_opening opening (job i)

  pub record OpeningLaws : Type 0 where
    -- A row ends at its start, the later of the minute and its release, plus opening plus length.
    pub ends : (i t : ℕ) → finish (opened_job i) t ≡ max t (job i).release + opening + (job i).length
    -- It is late by that less its own due, which counts no opening, be it a class due or not.
    pub lates : (i t : ℕ) → lateness opened_job t i ≡ sub_ℕ (max t (job i).release + opening + (job i).length) (job i).due
    -- With no opening, planning sees the rows as they are.
    pub none : opening ≡ 0 → (i : ℕ) → opened_job i ≡ job i
    -- Neither disorder nor crossing counts opening: with one opening for all rows no comparison of spares changes, and releases and dues
    -- are the rows' own. So rows keep the rule with opening exactly if they keep it without.
    pub rule : (profile : Profile) (left : List ℕ) → Obeys profile opened_job left ↔ Obeys profile job left
    -- Ranks do not count opening either: equal picks are decided by due, then release plus length, then row, of the rows' own. Nor does
    -- the order by arrival.
    pub rank : (i j : ℕ) → outranks opened_job i j ≡ outranks job i j
    pub arrival : (left : List ℕ) → by_arrival opened_job left ≡ by_arrival job left
    -- Idle plus openings plus lengths is end minus the minute at the start: of an order of n rows, openings are n times the opening.
    pub sum : (t n : ℕ) (order : List ℕ) → length order ≡ n →
        t + (idle_of opened_job t order + n * opening + lengths_of job order) ≡ end_of opened_job t order

abbrev pub OpeningHolds : Type 0
OpeningHolds = (opening : ℕ) (job : ℕ → Job) → OpeningLaws opening job
