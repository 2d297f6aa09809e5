-- The open desk: what is promised of it. A desk is a lent run of words that is filled from a book when it is opened; a history is a list of
-- calls on it. The proofs are `desk_memory`, `desk_definitions` and `open_desk_lem`, in proofs/Promise.antt. That each function does what is
-- said here of its call is its contract (src/lib.rt). Rests on: History, Table, the promises of a book's calls.
use Rattle.std.specs.Prelude.{ℕ, ◌+◌, ◌*◌, ◌≤◌, ◌<◌, ◌≡◌, ◌↔◌, ◌⊎◌, length, drop, get_or, pos, ◌≤ℤ◌}
use mathlib.Core.List.{List, [], ◌∷◌, ◌++◌, map, Memᴰ}
use Rattle.schedule.specs.Limits.{latest_start, latest_end, least_lateness, longest_time, least_pace, most_pace}
use Rattle.schedule.specs.Rows.{Day}
use Rattle.schedule.specs.Desk.{worst_of}
use Rattle.schedule.specs.Plans.{plans}
use Rattle.readers.specs.Reads.{ordering_rule}
use Rattle.results.specs.Results.{written, plan_words}
use Rattle.outcomes.specs.Planning.{gives, Planning}
use Rattle.promises.specs.Vocabulary.{Refuses, said_count, listed, ReaderOrder, end_by, late_by, Takes}
use Rattle.promises.specs.Table.{Turned, ListTurned, PlanTurned}
use Rattle.promises.specs.Promise.{Lent, Covered, PlanOrders}
use Rattle.running.specs.Running.{Running}
use Rattle.running.specs.Words.{desk_words, running, times, marks, IsDesk, KeepsPages}
use Rattle.desk_plans.specs.Plans.{planning_left}
use Rattle.open_desk.specs.Answers.{said_opened, said_moved, said_changed}
use Rattle.open_desk.specs.History.{desk_open, desk_start, desk_pace, desk_list, desk_plan, Call, after, Start, Move, accepted_moves}
use Rattle.open_desk.specs.History.{as_call, starts_among, pace_after, pace_for, end_of_start, lateness_of_start, standing}
use Rattle.open_desk.specs.Table.{OpenTurned, StartTurned, PaceTurned, CanPlan, DeskTurned}

-- # 1. The lent memory, of any words whatever
-- A refused call leaves what it is lent for writing, word for word, and its number is one of these; no call makes a run longer or shorter
-- (`Lent`, of the promises of a book's calls).
pub record DeskProperty1 : Type 0 where
  pub of_open : (opening : ℕ) (book ws : List ℕ) → Lent (λ n. (1 ≤ n) × (n ≤ 9)) ws (desk_open opening book ws)
  pub of_start : (ws : List ℕ) (i m : ℕ) → Lent (λ n. (n ≡ 3) ⊎ (n ≡ 11) ⊎ (n ≡ 14) ⊎ (n ≡ 15)) ws (desk_start ws i m)
  pub of_pace : (ws : List ℕ) (pace : ℕ) → Lent (λ n. (n ≡ 3) ⊎ (n ≡ 8)) ws (desk_pace ws pace)
  pub of_list : (ws b : List ℕ) → Lent (λ n. (n ≡ 3) ⊎ (n ≡ 9)) b (desk_list ws b)
  pub of_plan : (ws : List ℕ) (k : ℕ) (b : List ℕ) → Lent (λ n. (n ≡ 3) ⊎ (n ≡ 9) ⊎ (n ≡ 11)) b (desk_plan ws k b)
  -- A desk that is opened has its 1,288 words written, and a start writes three of them: the minute, the worst lateness so far, and the
  -- mark of its row.
  pub open_writes : (opening : ℕ) (book ws : List ℕ) → drop desk_words (desk_open opening book ws).buffer ≡ drop desk_words ws
  pub start_writes : (ws : List ℕ) (i m place : ℕ) → ¬ (place ≡ 1) → ¬ (place ≡ 2) → ¬ (place ≡ marks + i) →
      get_or (desk_start ws i m).buffer place 0 ≡ get_or ws place 0
  -- A change of pace writes the times of the rows left, and nothing else: not a row done, not a due, not the desk's minute, not the worst
  -- lateness so far.
  pub pace_writes : (ws : List ℕ) (pace place : ℕ) → ((i : ℕ) → Memᴰ i (running ws).left → ¬ (place ≡ times + i)) →
      get_or (desk_pace ws pace).buffer place 0 ≡ get_or ws place 0

-- # 2. The definitions, of any words whatever
-- A call is refused n at p exactly if the condition holds and no earlier one does.
pub record DeskProperty2 : Type 0 where
  pub open_refused : (opening : ℕ) (book ws : List ℕ) (n p : ℕ) → Refuses (desk_open opening book ws).answer n p ↔
      Turned (ordering_rule opening) book (λ day. OpenTurned ws) n p
  pub start_refused : (ws : List ℕ) (i m n p : ℕ) → Refuses (desk_start ws i m).answer n p ↔
      DeskTurned (IsDesk ws) (StartTurned (running ws) i m) n p
  pub pace_refused : (ws : List ℕ) (pace n p : ℕ) → Refuses (desk_pace ws pace).answer n p ↔
      DeskTurned (KeepsPages ws) (PaceTurned (running ws) pace) n p
  pub list_refused : (ws b : List ℕ) (n p : ℕ) → Refuses (desk_list ws b).answer n p ↔
      DeskTurned (CanPlan ws) (ListTurned (planning_left (running ws)) b) n p
  pub plan_refused : (ws : List ℕ) (k : ℕ) (b : List ℕ) (n p : ℕ) → Refuses (desk_plan ws k b).answer n p ↔
      DeskTurned (CanPlan ws) (PlanTurned (planning_left (running ws)) k b) n p

-- # 3. The open desk, over any series of calls
-- A desk is opened with so many opening minutes and a book, which tells this pace and this day. It has these words; then these calls are
-- made on it.
module _ (opening pace : ℕ) (day : Day) (opened : List ℕ) (calls : List Call) where
  -- The accepted starts and changes of pace, in their order.
  abbrev pub moves : List Move
  moves = accepted_moves opened calls

  abbrev pub here : List ℕ
  here = after opened calls

  -- The desk that they alone give.
  abbrev pub desk_now : Running
  desk_now = standing opening pace day moves

  -- What is planned now: the rows left, from the desk's minute on.
  abbrev pub planned : Planning
  planned = planning_left desk_now

  pub record AfterCalls : Type 0 where
    -- The desk holds what the accepted starts and changes alone give: word for word what it would hold if they alone had been called ..
    pub word_for_word : here ≡ after opened (map as_call moves)
    -- .. and they give this: the opening, releases, dues and pages are those that it was opened with; a row done has the length of the pace
    -- at which it was started, a row left that of the pace now; the rows that no start took are left; the desk stands at the end of the
    -- last start, its minute plus opening plus length; the worst lateness so far is the largest of the starts'.
    pub holds : running here ≡ desk_now
    -- The next start is refused exactly so. Otherwise it answers the desk's new minute, its end, and the worst lateness so far, the largest
    -- of its own and of those before it. Where the desk's minute is past 20,000,000, none is accepted.
    pub start_refused : (i m n p : ℕ) → Refuses (desk_start here i m).answer n p ↔ StartTurned desk_now i m n p
    pub start_moves : (s : Start) → (desk_start here s.row s.minute).answer.number ≡ 0 →
        let pace_of = pace_for pace moves in
        (desk_start here s.row s.minute).answer ≡
        said_moved (end_of_start opening day pace_of s) (worst_of (map (lateness_of_start opening day pace_of) (starts_among moves ++ (s ∷ []))))
    pub none_past : latest_start < planned.minute → (i m : ℕ) → ¬ ((desk_start here i m).answer.number ≡ 0)
    -- The next change of pace is refused exactly so; with one row left or none, only for a pace outside 4 to 120. Otherwise it says nothing
    -- more. The pace in force, told again, is accepted and changes no word.
    pub pace_refused : (p n q : ℕ) → Refuses (desk_pace here p).answer n q ↔ PaceTurned desk_now p n q
    pub pace_changes : (p : ℕ) → (desk_pace here p).answer.number ≡ 0 → (desk_pace here p).answer ≡ said_changed
    pub one_left : length planned.left ≤ 1 → (p : ℕ) → least_pace ≤ p → p ≤ most_pace → (desk_pace here p).answer.number ≡ 0
    pub same_pace : desk_pace here (pace_after pace moves) ≡ gives said_changed here
    -- The list and an order are refused for a short buffer, and an order for a plan's number that is not on the list; for nothing else.
    pub list_refused : (b : List ℕ) (n p : ℕ) → Refuses (desk_list here b).answer n p ↔ ListTurned planned b n p
    pub plan_refused : (k : ℕ) (b : List ℕ) (n p : ℕ) → Refuses (desk_plan here k b).answer n p ↔ PlanTurned planned k b n p
    -- As long as a row is left, the list is the one by its definition: the pairs that some order of the rows left attains and none beats.
    pub lists : 0 < length planned.left → (b : List ℕ) → 2 * length planned.left ≤ length b →
        let front = plans planned.job planned.minute planned.left in
        desk_list here b ≡ gives (said_count (length front)) (written (plan_words front) b)
    -- As long as a row is left, all that property 3 says of a book's list holds of this one: it covers each way of finishing the rest, on
    -- both sides of a change of pace.
    pub covered : 0 < length planned.left → (b : List ℕ) → 2 * length planned.left ≤ length b →
        Covered planned (listed (desk_list here b)) × PlanOrders planned (listed (desk_list here b)) (desk_plan here)
    -- With none left there are no plans.
    pub none_left : planned.left ≡ [] → (b : List ℕ) → (desk_list here b).answer ≡ said_count 0
    -- Ends and latenesses are at most 27,687,680: the minute plus 30,030 for each row left never passes it.
    pub room : planned.minute + longest_time * length planned.left ≤ latest_end
    pub ranges : 0 < length planned.left → (order : List ℕ) → ReaderOrder planned order →
        (end_by planned order ≤ latest_end) × (late_by planned order ≤ℤ pos latest_end) × (least_lateness ≤ℤ late_by planned order)

-- Whatever accepted book and opening minutes a desk is opened with, and whatever calls come after. (The pace is the book's: that of the
-- words that it is written from.)
abbrev pub OpenDesk : Type 0
OpenDesk = (opening : ℕ) (book ws : List ℕ) (day : Day) (takes : Takes (ordering_rule opening) book day) → desk_words ≤ length ws →
    ((desk_open opening book ws).answer ≡ said_opened (length day.rows) day.free) ×
    ((calls : List Call) → AfterCalls opening takes.accepts.tells.pace day (desk_open opening book ws).buffer calls)
