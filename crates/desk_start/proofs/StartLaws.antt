-- The tests of a start by the desk's words, and the outcome by what they have found.
-- Assumes nothing.
use Prim.Native.Nat.{ℕ, ◌+◌, ◌-◌, ◌≤◌, max}
use native.Mathlib.Omega.{arith}
use mathlib.Core.Bool.{true, false, not, ◌||◌}
use mathlib.Core.Path.{◌≡◌, sym, ◌∙◌}
use mathlib.Core.List.{List}
use lib.Dec.{eqb, ltb}
use borrow.Author.Tests.{not-false}
use Rattle.std.specs.Prelude.{Ok, Err}
use Rattle.theory.specs.Jobs.{finish}
use Rattle.schedule.specs.Limits.{latest_start}
use Rattle.schedule.specs.Columns.{at}
use Rattle.schedule.specs.Offset.{raised, lowered, desk_after}
use Rattle.schedule.proofs.Tests.{is_true}
use Rattle.refusals.specs.declared.Refusal.{Refusal}
use Rattle.refusals.specs.Refusals.{by_range, by_unlisted, by_done, by_early}
use Rattle.refusals.specs.Tests.{refuse_if, ◌then◌, refusal_at}
use Rattle.outcomes.specs.Planning.{gives}
use Rattle.running.specs.Running.{between, start_tests, end_at, worst_at}
use Rattle.running.specs.Words.{count_in, minute_in, worst_in, releases, times, dues, marks, running, is_desk, IsDesk, moved_words, job_at}
use Rattle.running.proofs.Fits.{lies, desk_says, row_held, rows_length}
use Rattle.running.proofs.Left.{left_stands}
use Rattle.running.proofs.Moves.{StartFits, end_held, worst_held_lem, worst_raised}
use Rattle.desk_start.specs.Starts.{start_outcome, start_call}

module _ (ws : List ℕ) (i m : ℕ) where
  -- No such row; and the tests of a row that is one.
  pub tests_unlisted : not (between 1 (count_in ws) i) ≡ true → Err (refusal_at by_unlisted (count_in ws)) ≡ start_tests (running ws) i m
  unfolding start_tests refuse_if ◌then◌
  tests_unlisted h = rw (rows_length ws, h)

  module _ (h : not (between 1 (count_in ws) i) ≡ false) where
    pub row_listed : (1 ≤ i) × (i ≤ count_in ws)
    row_listed = lies 1 (count_in ws) i (is_true (between 1 (count_in ws) i) (not-false (between 1 (count_in ws) i) h))

    pub tests_listed : (refuse_if (not (eqb (at ws (marks + i)) 0)) by_done i then
        refuse_if (ltb m (minute_in ws) || (ltb m (at ws (releases + i)) || ltb latest_start m)) by_early 0) ≡ start_tests (running ws) i m
    unfolding start_tests refuse_if ◌then◌
    tests_listed =
        let l = row_listed in
        rw (rows_length ws, h, left_stands ws (count_in ws) i l.0 l.1, row_held ws i l.0 l.1)

  -- No desk; a start that is turned down; one that is not.
  pub start_none : is_desk ws ≡ false → start_call ws i m ≡ gives (Err (refusal_at by_range 0)) ws
  unfolding start_call
  start_none e = rw (e, start_call)

  module _ (desk : is_desk ws ≡ true) where
    pub start_no : (refusal : Refusal) → start_tests (running ws) i m ≡ Err refusal → start_call ws i m ≡ gives (Err refusal) ws
    unfolding start_call start_outcome
    start_no refusal e = rw (desk, start_call, e, start_outcome)

    pub start_yes : start_tests (running ws) i m ≡ Ok tt →
        start_call ws i m ≡ gives (Ok (record { minute = end_at (running ws) i m; late = worst_at (running ws) i m }))
        (moved_words ws i (end_at (running ws) i m) (raised (worst_at (running ws) i m)))
    unfolding start_call start_outcome
    start_yes e = rw (desk, start_call, e, start_outcome)

    -- The end and the worst lateness so far, from the words.
    abbrev end : ℕ
    end = m + at ws (times + i)

    abbrev worst : ℕ
    worst = max (worst_in ws) (end + 2147483648 - at ws (dues + i))

    -- A desk at the start's minute, which is not before the release, after the row.
    pub taken : StartFits ws i m →
        desk_after (record { minute = m; worst = worst_in ws }) (job_at ws i) ≡ record { minute = end; worst = worst }
    unfolding finish
    taken f = let ready : max m (at ws (releases + i)) ≡ m = omega (arith, f) in rw ready

    pub start_moved : start_tests (running ws) i m ≡ Ok tt →
        gives (Ok (record { minute = end; late = lowered worst })) (moved_words ws i end worst) ≡ start_call ws i m
    start_moved e =
        let d : IsDesk ws = (desk_says ws).0 desk in
        (λ x. gives (Ok (record { minute = end_held ws d i m e x; late = worst_held_lem ws d i m e x }))
        (moved_words ws i (end_held ws d i m e x) (worst_raised ws d i m e x))) ∙ sym (start_yes e)
