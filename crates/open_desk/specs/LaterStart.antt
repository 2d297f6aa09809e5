-- A later start on an open desk: the list of the rows left moves with the desk's minute as a book's list does with its free minute. This is
-- of any words whatever whose list is not refused, so of every desk after any calls. The proof is `later_desk`, in proofs/LaterStart.antt.
-- Rests on: History, the running desk, the schedule's LaterStart.
use Rattle.std.specs.Prelude.{ℕ, ◌-◌, ◌≤◌, ◌≡◌, List}
use Rattle.schedule.specs.LaterStart.{ListMoves}
use Rattle.promises.specs.Vocabulary.{listed}
use Rattle.running.specs.Words.{running}
use Rattle.open_desk.specs.History.{desk_start, desk_list}

pub record LaterDesk : Type 0 where
  -- Two desks that hold the same rows, of which the same are left, at two minutes.
  pub same_left : (ws vs b c : List ℕ) → (running vs).rows ≡ (running ws).rows → (running vs).left ≡ (running ws).left →
      (running ws).minute ≤ (running vs).minute → (desk_list ws b).answer.number ≡ 0 → (desk_list vs c).answer.number ≡ 0 →
      ListMoves ((running vs).minute - (running ws).minute) (listed (desk_list ws b)) (listed (desk_list vs c))
  -- So it is where the next row is started at one minute or at a later one.
  pub next : (ws b c : List ℕ) (i m later : ℕ) → m ≤ later →
      let soon = desk_start ws i m in
      let late = desk_start ws i later in
      soon.answer.number ≡ 0 → late.answer.number ≡ 0 →
      (desk_list soon.buffer b).answer.number ≡ 0 → (desk_list late.buffer c).answer.number ≡ 0 →
      ListMoves (later - m) (listed (desk_list soon.buffer b)) (listed (desk_list late.buffer c))
