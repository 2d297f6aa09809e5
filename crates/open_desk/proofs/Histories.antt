-- Histories: what a desk holds after calls, one after another.
-- Assumes nothing.
use Prim.Native.Nat.{ℕ, suc, ◌+◌, ◌*◌, ◌≤◌}
use native.Mathlib.Omega.{arith}
use mathlib.Core.Bool.{Bool, true, false}
use mathlib.Core.Path.{◌≡◌, refl, sym, ap, ◌∙◌, subst}
use mathlib.Core.List.{List, [], ◌∷◌, ◌++◌, map, append-nil, append_assoc, Memᴰ}
use lib.Dec.{eqb}
use lib.ListN.{length}
use borrow.Author.Tests.{eqb-false, ne_eqb}
use Rattle.std.specs.Prelude.{Ok}
use Rattle.schedule.specs.Limits.{most_rows, latest_end, longest_time, least_pace, most_pace}
use Rattle.schedule.specs.declared.Profile.TheVariants.{Ordering}
use Rattle.schedule.specs.Offset.{raised}
use Rattle.schedule.specs.Rows.{Day, row_numbers}
use Rattle.schedule.specs.Cover.{Agreeing}
use Rattle.schedule.proofs.Numbers.{length_count, count_range}
use Rattle.schedule.proofs.Orders.{length_without, mem_without}
use Rattle.schedule.proofs.Stands.{stands_mem}
use Rattle.refusals.specs.Tests.{refusal_at}
use Rattle.readers.specs.Rules.{rule_tests}
use Rattle.readers.specs.Reads.{ordering_rule}
use Rattle.readers.specs.Accepted.{AcceptedDay}
use Rattle.running.specs.Running.{Running, job_in, opened, start_tests, end_at, worst_at, moved}
use Rattle.running.specs.Words.{count_in, running, is_desk, keeps_pages, KeepsPages, moved_words}
use Rattle.running.proofs.Fits.{desk_says, keeps_says, rows_length}
use Rattle.running.proofs.Starts.{may_start}
use Rattle.running.proofs.Moves.{moved_held, moved_keeps}
use Rattle.rows_left.proofs.LeftRows.{left_rising, left_mem}
use Rattle.desk_start.proofs.StartLaws.{start_no, start_yes}
use Rattle.desk_pace.specs.Paces.{left_by_pace, repaced, repaced_words}
use Rattle.desk_pace.proofs.PaceLaws.{pace_no, pace_yes}
use Rattle.desk_pace.proofs.Repaced.{repaced_held}
use Rattle.desk_pace.proofs.Agreed.{repaced_agree}
use Rattle.open_desk.specs.Answers.{said_start, said_pace}
use Rattle.open_desk.specs.History.{desk_start, desk_pace, Call, starts, paces, lists, orders, after_call, after, Move, started, changed}
use Rattle.open_desk.specs.History.{with_move, with_call, accepted_moves, as_call, pace_after, standing}
use Rattle.open_desk.proofs.Standing.{OfDay, ReadAt, in_force_start, in_force_change, seen_length, at_first, seen_first}
use Rattle.open_desk.proofs.Standing.{one_start, one_change}
use Rattle.open_desk.proofs.Memory.{start_writes, pace_writes}
use Rattle.open_desk.proofs.Starts.{Found, refuses, passes, found}
use Rattle.open_desk.proofs.Paces as paced

-- The desk after the accepted moves alone is the desk after all calls: a refused one leaves every word.
alone_move : (ws new : List ℕ) (n : ℕ) (m : Move) → after_call ws (as_call m) ≡ new → (1 ≤ n → new ≡ ws) →
    (rest : List Move) (cs : List Call) → after new (map as_call rest) ≡ after new cs →
    after ws (map as_call (with_move n m rest)) ≡ after new cs
unfolding after
alone_move ws new n m moves kept rest cs later = step (eqb n 0) refl
  where
    step : (b : Bool) → eqb n 0 ≡ b → after ws (map as_call (with_move n m rest)) ≡ after new cs
    step true e = rw e (ap (λ (v : List ℕ). after v (map as_call rest)) moves ∙ later)
    step false e =
        let refused = eqb-false n 0 e in
        rw e (ap (λ (v : List ℕ). after v (map as_call rest)) (sym (kept (omega (arith, refused)))) ∙ later)

pub alone : (ws : List ℕ) (calls : List Call) → after ws (map as_call (accepted_moves ws calls)) ≡ after ws calls
unfolding after accepted_moves
alone ws [] = refl
alone ws (starts i m ∷ cs) =
    let new = (desk_start ws i m).buffer in
    alone_move ws new (desk_start ws i m).answer.number (started (record { row = i; minute = m })) refl (start_writes ws i m).0.buffer
    (accepted_moves new cs) cs (alone new cs)
alone ws (paces p ∷ cs) =
    let new = (desk_pace ws p).buffer in
    alone_move ws new (desk_pace ws p).answer.number (changed p) refl (pace_writes ws p).0.buffer (accepted_moves new cs) cs (alone new
    cs)
alone ws (lists b ∷ cs) = alone ws cs
alone ws (orders k b ∷ cs) = alone ws cs

-- What holds of a desk's words after moves on a day's desk.
pub record State (opening pace : ℕ) (day : Day) (done : List Move) (ws : List ℕ) : Type 0 where
  pub keeps : KeepsPages ws
  pub held : running ws ≡ standing opening pace day done
  pub paced : (least_pace ≤ pace_after pace done) × (pace_after pace done ≤ most_pace)
  pub few : length (standing opening pace day done).left ≤ most_rows
  pub room : (standing opening pace day done).minute + longest_time * length (standing opening pace day done).left ≤ latest_end
  pub agree : Agreeing (job_in (standing opening pace day done).rows) (standing opening pace day done).left

abbrev Agreed : Running → Type 0
Agreed d = Agreeing (job_in d.rows) d.left

module _ (opening pace : ℕ) (day : Day) where
  pub first : AcceptedDay (ordering_rule opening) day → (least_pace ≤ pace) × (pace ≤ most_pace) → ReadAt pace day →
      (ws : List ℕ) → KeepsPages ws → running ws ≡ opened opening day → State opening pace day [] ws
  unfolding pace_after
  first a within own ws keeps held = record {
    keeps = keeps;
    held = held ∙ sym begins;
    paced = within;
    few = omega (arith, count, a.few_rows);
    room = omega (arith, count, minute, a.few_rows, a.early);
    agree = subst Agreed (sym begins) agreed;
  }
    where
      begins : standing opening pace day [] ≡ opened opening day
      begins = at_first opening pace day own

      count : length (standing opening pace day []).left ≡ length day.rows
      count = ap (λ (d : Running). length d.left) begins ∙ length_count 1 (length day.rows)

      minute : (standing opening pace day []).minute ≡ day.free
      minute = ap (λ (d : Running). d.minute) begins

      of_row : (i : ℕ) → Memᴰ i (row_numbers day) → OfDay day i
      of_row i m = let r = count_range 1 (length day.rows) m in (omega (arith, r), omega (arith, r))

      agreed : Agreed (opened opening day)
      agreed i j m n = rw (seen_first opening day i (of_row i m), seen_first opening day j (of_row j n)) (a.rule i j m n)

  module _ (done : List Move) (ws : List ℕ) (s : State opening pace day done ws) where
    abbrev old : Running
    old = standing opening pace day done

    -- One start more.
    module _ (i m : ℕ) where
      abbrev next : Move
      next = started (record { row = i; minute = m })

      module _ (passed : start_tests (running ws) i m ≡ Ok tt) where
        abbrev new : List ℕ
        new = moved_words ws i (end_at (running ws) i m) (raised (worst_at (running ws) i m))

        pub of_day : OfDay day i
        of_day =
            let may = may_start (running ws) i m passed in
            omega (arith, may.listed, ap (λ (d : Running). length d.rows) s.held, seen_length opening pace day done)

        on : standing opening pace day (done ++ (next ∷ [])) ≡ moved old i m
        on = one_start opening pace day done i m of_day

        held : running new ≡ standing opening pace day (done ++ (next ∷ []))
        held = (moved_held ws s.keeps.desk i m passed).1 ∙ (ap (λ (d : Running). moved d i m) s.held ∙ sym on)

        -- One row fewer is left, and the desk stands at 20,030,030 at the latest.
        fewer : suc (length (standing opening pace day (done ++ (next ∷ []))).left) ≡ length old.left
        fewer =
            let may = may_start (running ws) i m passed in
            let there = subst (λ (d : Running). Memᴰ i d.left) s.held (stands_mem i (running ws).left may.left) in
            ap (λ (d : Running). suc (length d.left)) on ∙ sym (length_without i old.left there)

        moves : State opening pace day (done ++ (next ∷ [])) new
        moves =
            let keeps = moved_keeps ws s.keeps.desk i m passed s.keeps in
            let minute = ap (λ (d : Running). d.minute) held in
            record {
              keeps = keeps;
              held = held;
              paced = rw (in_force_start pace done (record { row = i; minute = m })) s.paced;
              few = omega (arith, fewer, s.few);
              room = omega (arith, fewer, s.few, keeps.desk.early, minute);
              agree = subst Agreed (sym on) (λ j k a b. s.agree j k (mem_without i old.left a) (mem_without i old.left b));
            }

    -- One change of pace more.
    module _ (p : ℕ) (within : (least_pace ≤ p) × (p ≤ most_pace)) (passed : rule_tests Ordering (left_by_pace (running ws) p) ≡
        Ok tt) where
      over : standing opening pace day (done ++ (changed p ∷ [])) ≡ repaced old p
      over = one_change opening pace day done p

      inside : (i : ℕ) → Memᴰ i (running ws).left → (1 ≤ i) × (i ≤ length (running ws).rows)
      inside i m = let r = left_mem ws (count_in ws) m in (r.0, omega (arith, r.1, rows_length ws))

      changes : State opening pace day (done ++ (changed p ∷ [])) (repaced_words ws p)
      changes =
          let h = repaced_held ws s.keeps p within in
          let left = ap (λ (d : Running). length d.left) over in
          let minute = ap (λ (d : Running). d.minute) over in
          record {
            keeps = h.0;
            held = h.1 ∙ ap (λ (d : Running). repaced d p) s.held ∙ sym over;
            paced = rw (in_force_change pace done p) within;
            few = omega (arith, left, s.few);
            room = omega (arith, left, minute, s.room);
            agree = subst Agreed (sym over)
                (subst (λ (d : Running). Agreed (repaced d p)) s.held (repaced_agree (running ws) p inside passed));
          }

    -- A call leaves the desk as it is, or is an accepted move. `more` is the move, or none.
    record Taken (c : Call) : Type 0 where
      more : List Move
      state : State opening pace day (done ++ more) (after_call ws c)
      counted : (rest : List Move) → with_call ws c rest ≡ more ++ rest

    untouched : (c : Call) → after_call ws c ≡ ws → ((rest : List Move) → with_call ws c rest ≡ rest) → Taken c
    untouched c e f = record {
      more = [];
      state = subst (State opening pace day (done ++ [])) (sym e) (subst (λ ds. State opening pace day ds ws) (sym (append-nil done)) s);
      counted = f;
    }

    taken : (c : Call) → Taken c
    taken (lists b) = untouched (lists b) refl (λ rest. refl)
    taken (orders k b) = untouched (orders k b) refl (λ rest. refl)
    taken (starts i m) = step (found (running ws) i m)
      where
        desk : is_desk ws ≡ true
        desk = (desk_says ws).1 s.keeps.desk

        step : Found (running ws) i m → Taken (starts i m)
        step (refuses n p l t u only) =
            let e = start_no ws i m desk (refusal_at n p) t in
            untouched (starts i m) (ap (λ o. o.buffer) e)
            (λ rest. ap (λ o. with_move (said_start o.answer).number (next i m) rest) e ∙
            rw (ne_eqb n 0 (λ z. omega arith)))
        step (passes t never) =
            let e = start_yes ws i m desk t in
            record {
              more = next i m ∷ [];
              state = subst (State opening pace day (done ++ (next i m ∷ []))) (sym (ap (λ o. o.buffer) e)) (moves i m t);
              counted = λ rest. ap (λ o. with_move (said_start o.answer).number (next i m) rest) e;
            }
    taken (paces p) = step (paced.found (running ws) p (count_in ws) (left_rising ws (count_in ws)))
      where
        keeps : keeps_pages ws ≡ true
        keeps = (keeps_says ws).1 s.keeps

        step : paced.Found (running ws) p → Taken (paces p)
        step (paced.refuses n q l t u only) =
            let e = pace_no ws p keeps (refusal_at n q) t in
            untouched (paces p) (ap (λ o. o.buffer) e)
            (λ rest. ap (λ o. with_move (said_pace o.answer).number (changed p) rest) e ∙ rw (ne_eqb n 0 (λ z. omega arith)))
        step (paced.passes t within r never) =
            let e = pace_yes ws p keeps t in
            record {
              more = changed p ∷ [];
              state = subst (State opening pace day (done ++ (changed p ∷ []))) (sym (ap (λ o. o.buffer) e)) (changes p within r);
              counted = λ rest. ap (λ o. with_move (said_pace o.answer).number (changed p) rest) e;
            }

  -- After any calls the desk stands as the accepted moves among them have left it.
  pub leaves : (done : List Move) (ws : List ℕ) → State opening pace day done ws → (calls : List Call) →
      State opening pace day (done ++ accepted_moves ws calls) (after ws calls)
  unfolding after accepted_moves
  leaves done ws s [] = subst (λ ds. State opening pace day ds ws) (sym (append-nil done)) s
  leaves done ws s (c ∷ cs) =
      let t = taken done ws s c in
      let rest = accepted_moves (after_call ws c) cs in
      subst (λ ds. State opening pace day ds (after (after_call ws c) cs))
      (append_assoc done t.more rest ∙ ap (λ ds. done ++ ds) (sym (t.counted rest)))
      (leaves (done ++ t.more) (after_call ws c) t.state cs)
