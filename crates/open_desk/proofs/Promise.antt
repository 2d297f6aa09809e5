-- What is promised of the open desk holds.
-- Assumes nothing.
use Prim.Native.Nat.{ℕ, zero, suc, ◌+◌, ◌-◌, ◌*◌, ◌≤◌, ◌<◌}
use native.Mathlib.Omega.{arith}
use mathlib.Core.Bool.{Bool, true, false, not}
use mathlib.Core.Path.{◌≡◌, refl, sym, ap, ◌∙◌, subst}
use mathlib.Core.List.{List, [], ◌∷◌, ◌++◌, map, Memᴰ}
use mathlib.Core.Logic.{◌↔◌, ◌⊎◌, inl, inr}
use lib.ListN.{length, length-map}
use lib.IntN.{pos}
use lib.Signed.{◌≤ℤ◌}
use Rattle.theory.specs.Jobs.{Job}
use Rattle.schedule.specs.Limits.{
  most_rows,
  latest_minute,
  longest_time,
  latest_due,
  latest_start,
  latest_end,
  least_lateness,
  least_pace,
  most_pace,
}
use Rattle.schedule.specs.declared.Row.{Row}
use Rattle.schedule.specs.Columns.{at}
use Rattle.schedule.specs.Cover.{Agreeing}
use Rattle.schedule.specs.Desk.{Pair, worst_of}
use Rattle.schedule.specs.Plans.{plans}
use Rattle.schedule.specs.Rows.{no_row, Day, with_opening}
use Rattle.schedule.proofs.Filling.{mapped_at}
use Rattle.schedule.proofs.Ranges.{in_range}
use Rattle.schedule.proofs.Tests.{true_is}
use Rattle.refusals.specs.Tests.{refusal_at}
use Rattle.row_reader.specs.NearestMinute.{length_of}
use Rattle.grammar.specs.Books.{Entry, due, row_by, day_by, Tells}
use Rattle.readers.specs.Reads.{ordering_rule}
use Rattle.readers.proofs.Accepted.{accepted_day}
use Rattle.results.specs.Results.{written, plan_words}
use Rattle.results.proofs.ResultWords.{plan_length}
use Rattle.outcomes.specs.Planning.{gives, Planning}
use Rattle.outcomes.specs.Outcomes.{list_outcome, plan_outcome}
use Rattle.outcomes.proofs.OutcomeLaws.{list_is, plan_unlisted}
use Rattle.calls.specs.Answers.{said_list, said_order}
use Rattle.promises.specs.Vocabulary.{told, said_count, Refuses, listed, ReaderOrder, end_by, late_by}
use Rattle.promises.specs.Table.{ListTurned, PlanTurned}
use Rattle.promises.specs.Table as book-table
use Rattle.promises.specs.Promise.{Covered, PlanOrders}
use Rattle.promises.proofs.Accepted.{takes}
use Rattle.promises.proofs.Kept.{list_front, covered, orders_of_plans}
use Rattle.promises.proofs.Memory as memory
use Rattle.running.specs.Running.{Running, job_in, between, end_at, worst_at}
use Rattle.running.specs.Words.{count_in, opening_in, times, pages, left_to, running, is_desk, keeps_pages}
use Rattle.running.proofs.Fits.{between_two, desk_says, keeps_says, row_held, pages_held_lem}
use Rattle.running.proofs.Starts.{may_start}
use Rattle.rows_left.specs.Left.{plans_here}
use Rattle.rows_left.proofs.LeftRows.{left_rising, left_mem}
use Rattle.rows_left.proofs.Gathering.{left_ranged}
use Rattle.desk_open.specs.Opens.{opened_words}
use Rattle.desk_open.proofs.OpenedWords.{opened_held}
use Rattle.desk_open.proofs.OpenCall.{open_yes}
use Rattle.desk_start.proofs.StartLaws.{start_yes}
use Rattle.desk_pace.specs.Paces.{job_by_pace}
use Rattle.desk_pace.proofs.LeftTests.{back_passed}
use Rattle.desk_pace.proofs.PaceLaws.{tests_inside, pace_no, pace_yes}
use Rattle.desk_pace.proofs.Repaced.{same_words}
use Rattle.desk_pace.proofs.Agreed.{same_passes}
use Rattle.desk_plans.specs.Plans.{planning_left}
use Rattle.desk_plans.proofs.PlanCalls.{list_away, list_here, plan_away, plan_here, no_plans, none_numbered}
use Rattle.open_desk.specs.Answers.{said_open, said_start, said_moved, said_pace, said_changed}
use Rattle.open_desk.specs.History.{desk_open, desk_start, desk_pace, desk_list, desk_plan, Call, after, Start, Move, accepted_moves}
use Rattle.open_desk.specs.History.{starts_among, pace_after, pace_for, end_of_start, lateness_of_start, standing}
use Rattle.open_desk.specs.Table.{StartTurned, PaceTurned, CanPlan, DeskTurned, no_desk, by_call}
use Rattle.open_desk.specs.Table as table
use Rattle.open_desk.specs.Promise.{DeskProperty1, DeskProperty2, AfterCalls, OpenDesk}
use Rattle.open_desk.proofs.Standing.{ReadAt, worst_told, end_told, left_read}
use Rattle.open_desk.proofs.Starts.{start_passed}
use Rattle.open_desk.proofs.Paces as paced
use Rattle.open_desk.proofs.Histories.{alone, State, first, of_day, leaves}
use Rattle.open_desk.proofs.Refused as refused
use Rattle.open_desk.proofs.Memory.{open_writes, start_writes, pace_writes}

-- Ends and latenesses of a running desk: the minute leaves room for the rows left.
abbrev LeftRanged : Running → Type 0
LeftRanged d = (i : ℕ) → Memᴰ i d.left →
    ((job_in d.rows i).release ≤ latest_minute) × (1 ≤ (job_in d.rows i).length) × ((job_in d.rows i).length ≤ longest_time) ×
    ((job_in d.rows i).due ≤ latest_due)

kept_in_time : (d : Running) → LeftRanged d → length d.left ≤ most_rows → d.minute + longest_time * length d.left ≤ latest_end →
    0 < length d.left → (order : List ℕ) → ReaderOrder (planning_left d) order →
    (end_by (planning_left d) order ≤ latest_end) × (late_by (planning_left d) order ≤ℤ pos latest_end) ×
    (least_lateness ≤ℤ late_by (planning_left d) order)
kept_in_time d ranged few room some order o =
    let n = length d.left in
    let top = latest_end - longest_time * n in
    let all : top + longest_time * n ≡ latest_end = omega arith in
    let r = in_range top 1 longest_time latest_due n (job_in d.rows) d.minute d.left
    (record {
      early = omega arith;
      few = omega arith;
      ranges = λ i m. let u = ranged i m in (omega (arith, u.0), u.1, u.2, u.3);
    }) some order o in
    (omega (arith, r.0, all), subst (λ (e : ℕ). late_by (planning_left d) order ≤ℤ pos e) all r.1, r.2)

module _ (ws : List ℕ) where
  abbrev g : Planning
  g = planning_left (running ws)

  -- # 1. The lent memory
  list_buffer : (b : List ℕ) → memory.Kept b (desk_list ws b)
  list_buffer b = step (plans_here ws) refl
    where
      rows : CanPlan ws → (is : List ℕ) → (running ws).left ≡ is → memory.Kept b (told said_list (list_outcome g b))
      rows c [] e =
          let none = no_plans (running ws) e in
          rw (list_is g b (omega (arith, ap (λ (js : List ℕ). length js) e)))
          (memory.kept_yes (said_count (length g.plans)) (plan_words g.plans) b refl
          (omega (arith, plan_length g.plans, ap (λ (ps : List Pair). length ps) none)))
      rows c (i ∷ is) e = memory.list_kept g (refused.sound ws c (omega (arith, ap (λ (js : List ℕ). length js) e))) b

      step : (t : Bool) → plans_here ws ≡ t → memory.Kept b (desk_list ws b)
      step false e = rw (list_away ws b e) memory.kept_no
      step true e = rw (list_here ws b e) (rows (refused.here ws e) (running ws).left refl)

  plan_buffer : (k : ℕ) (b : List ℕ) → memory.Kept b (desk_plan ws k b)
  plan_buffer k b = step (plans_here ws) refl
    where
      rows : CanPlan ws → (is : List ℕ) → (running ws).left ≡ is → memory.Kept b (told said_order (plan_outcome g k b))
      rows c [] e = rw (plan_unlisted g k b (none_numbered (running ws) e k)) memory.kept_no
      rows c (i ∷ is) e = memory.plan_kept g (refused.sound ws c (omega (arith, ap (λ (js : List ℕ). length js) e))) k b

      step : (t : Bool) → plans_here ws ≡ t → memory.Kept b (desk_plan ws k b)
      step false e = rw (plan_away ws b k e) memory.kept_no
      step true e = rw (plan_here ws b k e) (rows (refused.here ws e) (running ws).left refl)

  list_numbers : (b : List ℕ) (n p : ℕ) → DeskTurned (CanPlan ws) (ListTurned g b) n p → (n ≡ 3) ⊎ (n ≡ 9)
  list_numbers b _ _ (no_desk f) = inl refl
  list_numbers b _ _ (by_call n p c (book-table.narrow h)) = inr refl

  plan_numbers : (k : ℕ) (b : List ℕ) (n p : ℕ) → DeskTurned (CanPlan ws) (PlanTurned g k b) n p → (n ≡ 3) ⊎ (n ≡ 9) ⊎ (n ≡ 11)
  plan_numbers k b _ _ (no_desk f) = inl refl
  plan_numbers k b _ _ (by_call n p c (book-table.unlisted f)) = inr (inr refl)
  plan_numbers k b _ _ (by_call n p c (book-table.narrow f h l)) = inr (inl refl)

pub desk_memory : DeskProperty1
desk_memory = record {
  of_open = λ opening book ws. (open_writes opening book ws).0;
  of_start = λ ws i m. (start_writes ws i m).0;
  of_pace = λ ws p. (pace_writes ws p).0;
  of_list = λ ws b. let k = list_buffer ws b in record {
    number = λ h. list_numbers ws b _ _ ((refused.list_refused ws b _ _).0 (h, refl, refl));
    buffer = k.refused;
    same_length = k.same_length;
  };
  of_plan = λ ws k b. let u = plan_buffer ws k b in record {
    number = λ h. plan_numbers ws k b _ _ ((refused.plan_refused ws k b _ _).0 (h, refl, refl));
    buffer = u.refused;
    same_length = u.same_length;
  };
  open_writes = λ opening book ws. (open_writes opening book ws).1;
  start_writes = λ ws i m. (start_writes ws i m).1;
  pace_writes = λ ws p. (pace_writes ws p).1;
}

-- # 2. The definitions
pub desk_definitions : DeskProperty2
desk_definitions = record {
  open_refused = refused.open_turned;
  start_refused = refused.start_turned;
  pace_refused = refused.pace_turned;
  list_refused = refused.list_refused;
  plan_refused = refused.plan_refused;
}

-- # 3. The open desk: of words that hold the desk as moves on a day have left it
module _ (opening pace : ℕ) (day : Day) (first_words : List ℕ) (calls : List Call)
    (s : State opening pace day (accepted_moves first_words calls) (after first_words calls)) where
  abbrev done : List Move
  done = accepted_moves first_words calls

  abbrev words : List ℕ
  words = after first_words calls

  abbrev now_held : Running
  now_held = standing opening pace day done

  -- What is said of the desk that the words hold is said of the desk after the moves, and the other way about.
  held : (P : Running → Type 0) → P (running words) → P now_held
  held P h = subst P s.held h

  back : (P : Running → Type 0) → P now_held → P (running words)
  back P h = subst P (sym s.held) h

  can : CanPlan words
  can = record {
    desk = s.keeps.desk;
    room = back (λ d. d.minute + longest_time * length d.left ≤ latest_end) s.room;
    agree = back (λ d. Agreeing (job_in d.rows) d.left) s.agree;
  }

  desk : is_desk words ≡ true
  desk = (desk_says words).1 s.keeps.desk

  keeps : keeps_pages words ≡ true
  keeps = (keeps_says words).1 s.keeps

  abbrev pace_of : ℕ → ℕ
  pace_of = pace_for pace done

  start_moves : (i m : ℕ) → (desk_start words i m).answer.number ≡ 0 →
      let s : Start = record { row = i; minute = m } in
      (desk_start words i m).answer ≡
      said_moved (end_of_start opening day pace_of s) (worst_of (map (lateness_of_start opening day pace_of) (starts_among done ++ (s ∷ []))))
  start_moves i m accepted-it =
      let passed = (start_passed words i m accepted-it).1 in
      let row = of_day opening pace day done words s i m passed in
      ap (λ o. said_start o.answer) (start_yes words i m desk passed) ∙
      (ap (λ (d : Running). said_moved (end_at d i m) (worst_at d i m)) s.held ∙
      (λ x. said_moved (end_told opening pace day done i m row x) (worst_told opening pace day done i m row x)))

  none_past : latest_start < now_held.minute → (i m : ℕ) → ¬ ((desk_start words i m).answer.number ≡ 0)
  none_past late i m accepted-it =
      let may = may_start (running words) i m (start_passed words i m accepted-it).1 in
      omega (arith, late, may.after, may.early, ap (λ (d : Running). d.minute) s.held)

  -- Changes of pace.
  abbrev found_pace : (p : ℕ) → paced.Found (running words) p
  found_pace p = paced.found (running words) p (count_in words) (left_rising words (count_in words))

  pace_changes : (p : ℕ) → (desk_pace words p).answer.number ≡ 0 → (desk_pace words p).answer ≡ said_changed
  pace_changes p accepted-it = step (found_pace p)
    where
      step : paced.Found (running words) p → (desk_pace words p).answer ≡ said_changed
      step (paced.refuses n q l t u only) =
          let no = ap (λ o. (said_pace o.answer).number) (pace_no words p keeps (refusal_at n q) t) in
          let z : ⊥ = omega (arith, accepted-it, no, l) in
          absurd z
      step (paced.passes t within r never) = ap (λ o. said_pace o.answer) (pace_yes words p keeps t)

  one_left : length (running words).left ≤ 1 → (p : ℕ) → least_pace ≤ p → p ≤ most_pace → (desk_pace words p).answer.number ≡ 0
  one_left few p slow fast = step (found_pace p)
    where
      none : (n q : ℕ) → PaceTurned (running words) p n q → ⊥
      none _ _ (table.range f) = f (slow, fast)
      none _ _ (table.disorder l m k e) =
          omega (arith, few, paced.two_left (running words) p (count_in words) (left_rising words (count_in words)) k e)

      step : paced.Found (running words) p → (desk_pace words p).answer.number ≡ 0
      step (paced.refuses n q l t u only) = absurd (none n q u)
      step (paced.passes t within r never) = ap (λ o. (said_pace o.answer).number) (pace_yes words p keeps t)

  -- The pace in force, told again.
  abbrev in_force : ℕ
  in_force = pace_after pace done

  read : (i : ℕ) → Memᴰ i (running words).left →
      job_in (running words).rows i ≡ with_opening (running words).opening (job_by_pace (running words) in_force i)
  read = back (λ d. (i : ℕ) → Memᴰ i d.left → job_in d.rows i ≡ with_opening d.opening (job_by_pace d in_force i))
      (left_read opening pace day done)

  same_time : (i : ℕ) → Memᴰ i (left_to words (count_in words)) →
      opening_in words + length_of (at words (pages + i)) in_force ≡ at words (times + i)
  same_time i m =
      let r = left_mem words (count_in words) m in
      ap (λ (n : ℕ). opening_in words + length_of n in_force) (sym (pages_held_lem words i r.0 r.1)) ∙
      sym (ap (λ (j : Job). j.length) (read i m)) ∙ ap (λ (j : Job). j.length) (row_held words i r.0 r.1)

  same_pace : desk_pace words in_force ≡ gives said_changed words
  same_pace =
      let p = s.paced in
      let within : not (between least_pace most_pace in_force) ≡ false =
      ap not (true_is (between least_pace most_pace in_force) (between_two least_pace most_pace in_force p)) in
      let rows = same_passes (running words) in_force read can.agree in
      let passed = tests_inside (running words) in_force within ∙ back_passed (running words) in_force rows in
      ap (told said_pace) (pace_yes words in_force keeps passed) ∙
      ap (gives said_changed) (same_words words s.keeps in_force same_time)

  list_given : 0 < length (running words).left → (b : List ℕ) → 2 * length (running words).left ≤ length b →
      let g = planning_left (running words) in
      let front = plans g.job g.minute g.left in
      desk_list words b ≡ gives (said_count (length front)) (written (plan_words front) b)
  list_given some b wide =
      let g = planning_left (running words) in
      ap (told said_list) (list_here words b (refused.here_is words can)) ∙ list_front g (refused.sound words can some) b wide

  list_covers : 0 < length (running words).left → (b : List ℕ) → 2 * length (running words).left ≤ length b →
      Covered (planning_left (running words)) (listed (desk_list words b)) ×
      PlanOrders (planning_left (running words)) (listed (desk_list words b)) (desk_plan words)
  list_covers some b wide =
      let g = planning_left (running words) in
      let ok = refused.sound words can some in
      let here = refused.here_is words can in (
        rw (list_here words b here) (covered g ok b wide),
        λ k p c. rw (list_here words b here, plan_here words c k here)
            (orders_of_plans g ok b wide k p c),
      )

  none_left : (running words).left ≡ [] → (b : List ℕ) → (desk_list words b).answer ≡ said_count 0
  none_left e b =
      let g = planning_left (running words) in
      ap (λ o. said_list o.answer) (list_here words b (refused.here_is words can) ∙
      list_is g b (omega (arith, ap (λ (js : List ℕ). length js) e))) ∙
      ap (λ (ps : List Pair). said_count (length ps)) (no_plans (running words) e)

  after_calls : AfterCalls opening pace day first_words calls
  after_calls = record {
    word_for_word = sym (alone first_words calls);
    holds = s.held;
    start_refused = λ i m n p.
        held (λ d. Refuses (desk_start words i m).answer n p ↔ StartTurned d i m n p) (refused.start_own words i m desk n p);
    start_moves = λ s. start_moves s.row s.minute;
    none_past = none_past;
    pace_refused = λ p n q.
        held (λ d. Refuses (desk_pace words p).answer n q ↔ PaceTurned d p n q) (refused.pace_own words p keeps n q);
    pace_changes = pace_changes;
    one_left = held (λ d. length d.left ≤ 1 → (p : ℕ) → least_pace ≤ p → p ≤ most_pace → (desk_pace words p).answer.number ≡ 0) one_left;
    same_pace = same_pace;
    lists = held (λ d. 0 < length d.left → (b : List ℕ) → 2 * length d.left ≤ length b →
        let g = planning_left d in
        let front = plans g.job g.minute g.left in
        desk_list words b ≡ gives (said_count (length front)) (written (plan_words front) b)) list_given;
    list_refused = λ b n p.
        held (λ d. Refuses (desk_list words b).answer n p ↔ ListTurned (planning_left d) b n p)
        (refused.list_own words can b n p);
    plan_refused = λ k b n p.
        held (λ d. Refuses (desk_plan words k b).answer n p ↔ PlanTurned (planning_left d) k b n p)
        (refused.plan_own words can k b n p);
    covered = held (λ d. 0 < length d.left → (b : List ℕ) → 2 * length d.left ≤ length b →
        Covered (planning_left d) (listed (desk_list words b)) ×
        PlanOrders (planning_left d) (listed (desk_list words b)) (desk_plan words)) list_covers;
    none_left = held (λ d. d.left ≡ [] → (b : List ℕ) → (desk_list words b).answer ≡ said_count 0) none_left;
    room = s.room;
    ranges = kept_in_time now_held (held LeftRanged (left_ranged s.keeps.desk)) s.few s.room;
  }

-- The rows of a book have their lengths by its pace.
book_read : {book : List ℕ} {day : Day} (t : Tells book day) → ReadAt t.pace day
book_read t = subst (ReadAt t.pace) (sym t.is_day) own
  where
    no_entry : Entry
    no_entry = record { number = 0; release = 0; pages = 0; sold = due 0 }

    own : ReadAt t.pace (day_by t.free t.pace t.entries)
    own zero h = let z : ⊥ = omega arith in absurd z
    own (suc i) h =
        let e = mapped_at (row_by t.pace) t.entries i no_entry no_row (omega (arith, length-map t.entries (row_by t.pace))) in
        ap (λ (r : Row). r.length) e ∙ ap (λ (r : Row). length_of r.pages t.pace) (sym e)

pub open_desk_lem : OpenDesk
open_desk_lem opening book ws day taken wide =
    let terms = ordering_rule opening in
    let tells = taken.accepts.tells in
    let pace = tells.pace in
    let reads = (takes terms book day).1 taken in
    let a = accepted_day terms book day reads in
    let opens = open_yes opening book ws day reads wide in
    let h = opened_held opening day ws a wide in
    let begun = subst (State opening pace day []) (sym (ap (λ o. o.buffer) opens))
    (first opening pace day a tells.may.pace_range (book_read tells) (written (opened_words opening day) ws) h.0 h.1) in
    let words = (desk_open opening book ws).buffer in (
      ap (λ o. said_open o.answer) opens,
      λ calls. after_calls opening pace day words calls (leaves opening pace day [] words begun calls),
    )
