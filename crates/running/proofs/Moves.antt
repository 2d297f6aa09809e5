-- The words after a start hold the desk after it.
-- Assumes nothing.
use Prim.Native.Nat.{ℕ, zero, suc, ◌+◌, ◌-◌, ◌≤◌, max}
use native.Mathlib.Omega.{arith}
use native.Mathlib.Decide.{ℕ_discrete}
use mathlib.Core.Path.{◌≡◌, refl, sym, ap, ◌∙◌}
use mathlib.Core.List.{List, map}
use mathlib.Core.Logic.{◌⊎◌, inl, inr}
use mathlib.Core.Option.{some}
use lib.ListN.{length, set, length-set}
use lib.Seq.{get_or-set_same, get_or-set_other}
use lib.IntN.{sub_ℕ}
use borrow.Author.Tests.{eqb-true}
use Rattle.std.specs.Prelude.{Ok}
use Rattle.theory.specs.Jobs.{Job}
use Rattle.schedule.specs.Limits.{most_rows, longest_time, latest_due, latest_start}
use Rattle.schedule.specs.Rows.{count_from, without}
use Rattle.schedule.specs.Columns.{at}
use Rattle.schedule.specs.Offset.{raised, lowered}
use Rattle.schedule.proofs.Numbers.{count_range}
use Rattle.schedule.proofs.SameJobs.{map_same}
use Rattle.schedule.proofs.Raised.{late_lowered, max_lowered}
use Rattle.schedule.proofs.SignedWords.{raised_lowered}
use Rattle.running.specs.Running.{Running, job_in, start_tests, worse, end_at, worst_at, moved}
use Rattle.running.specs.Words.{desk_words, count_in, worst_in, releases, times, dues, marks, pages, job_at, rows_in, pages_held}
use Rattle.running.specs.Words.{left_to, worst_held, running, IsDesk, KeepsPages, least_raised, most_raised, moved_words}
use Rattle.running.proofs.Fits.{row_held, rows_length}
use Rattle.running.proofs.Left.{left_stands, left_without}
use Rattle.running.proofs.Starts.{MayStart, may_start}

-- The worst lateness so far with one more is the larger of two words.
worse_word : (w late : ℕ) → worse (worst_held w) (lowered late) ≡ lowered (max w late)
unfolding worse
worse_word zero late = let m : late ≡ max 0 late = omega arith in ap lowered m
worse_word (suc w) late = sym (max_lowered (suc w) late)

held_some : (w : ℕ) → 1 ≤ w → worst_held w ≡ some (lowered w)
held_some zero h = let z : ⊥ = omega arith in absurd z
held_some (suc w) h = refl

-- The words after a start, whatever its end and worst lateness: as many as before, and three of them written.
module _ (ws : List ℕ) (i end worst : ℕ) where
  pub moved_length : length (moved_words ws i end worst) ≡ length ws
  moved_length = length-set (set (set ws 1 end) 2 worst) (marks + i) 1 ∙ (length-set (set ws 1 end) 2 worst ∙ length-set ws 1 end)

  pub moved_other : (place : ℕ) → ¬ (place ≡ 1) → ¬ (place ≡ 2) → ¬ (place ≡ marks + i) → at (moved_words ws i end worst) place ≡ at ws place
  moved_other place a b c =
      get_or-set_other (set (set ws 1 end) 2 worst) (marks + i) place 1 0 c ∙
      (get_or-set_other (set ws 1 end) 2 place worst 0 b ∙ get_or-set_other ws 1 place end 0 a)

-- The ranges of the numbers of a start.
abbrev pub StartFits : List ℕ → ℕ → ℕ → Type 0
StartFits ws i m =
    (desk_words ≤ length ws) × (i ≤ most_rows) × (m ≤ latest_start) × (1 ≤ at ws (times + i)) × (at ws (times + i) ≤ longest_time) ×
    (at ws (dues + i) ≤ latest_due) × (at ws (releases + i) ≤ m)

module _ (ws : List ℕ) (desk : IsDesk ws) (i m : ℕ) (passed : start_tests (running ws) i m ≡ Ok tt) where
  abbrev d : Running
  d = running ws

  abbrev time : ℕ
  time = at ws (times + i)

  abbrev due : ℕ
  due = at ws (dues + i)

  may : MayStart d i m
  may = may_start d i m passed

  low : 1 ≤ i
  low = may.listed.0

  high : i ≤ count_in ws
  high = omega (arith, may.listed.1, rows_length ws)

  -- What the row's words are.
  job_held : job_in (rows_in ws) i ≡ job_at ws i
  job_held = row_held ws i low high

  unmarked : at ws (marks + i) ≡ 0
  unmarked = eqb-true _ 0 (sym (left_stands ws (count_in ws) i low high) ∙ may.left)

  pub start_fits : StartFits ws i m
  start_fits =
      let r = desk.rows i low high in
      let released = ap (λ (j : Job). j.release) job_held in (
        desk.long,
        omega (arith, high, desk.count),
        may.early,
        omega (arith, r.1),
        omega (arith, r.2, desk.opening),
        r.3,
        omega (arith, released, may.released),
      )

  -- The end and the worst lateness, in words.
  pub end_held : m + time ≡ end_at d i m
  end_held = ap (λ (j : Job). m + j.length) (sym job_held)

  abbrev worst : ℕ
  worst = max (worst_in ws) (m + time + 2147483648 - due)

  pub worst_held_lem : lowered worst ≡ worst_at d i m
  worst_held_lem =
      sym (worse_word (worst_in ws) (m + time + 2147483648 - due)) ∙
      (ap (worse (worst_held (worst_in ws))) (late_lowered (m + time) due (omega (arith, start_fits))) ∙
      ap (λ (j : Job). worse (worst_held (worst_in ws)) (sub_ℕ (m + j.length) j.due)) (sym job_held))

  pub worst_raised : worst ≡ raised (worst_at d i m)
  worst_raised = sym (raised_lowered worst) ∙ ap raised worst_held_lem

  worst_fits : (worst_in ws ≡ 0) ⊎ ((least_raised ≤ worst_in ws) × (worst_in ws ≤ most_raised)) → (least_raised ≤ worst) × (worst ≤ most_raised)
  worst_fits (inl h) = omega (arith, start_fits)
  worst_fits (inr h) = omega (arith, start_fits)

  -- The words after the start, place by place.
  abbrev end : ℕ
  end = end_at d i m

  abbrev w : ℕ
  w = raised (worst_at d i m)

  abbrev new : List ℕ
  new = moved_words ws i end w

  minute_new : at new 1 ≡ end
  minute_new =
      get_or-set_other (set (set ws 1 end) 2 w) (marks + i) 1 1 0 (λ e. omega arith) ∙
      (get_or-set_other (set ws 1 end) 2 1 w 0 (λ e. omega arith) ∙ get_or-set_same ws 1 end 0 (omega (arith, desk.long)))

  worst_new : at new 2 ≡ w
  worst_new =
      get_or-set_other (set (set ws 1 end) 2 w) (marks + i) 2 1 0 (λ e. omega arith) ∙
      get_or-set_same (set ws 1 end) 2 w 0 (omega (arith, desk.long, length-set ws 1 end))

  mark_new : at new (marks + i) ≡ 1
  mark_new =
      get_or-set_same (set (set ws 1 end) 2 w) (marks + i) 1 0
      (omega (arith, desk.long, start_fits, length-set (set ws 1 end) 2 w, length-set ws 1 end))

  count_new : count_in new ≡ count_in ws
  count_new = moved_other ws i end w 0 (λ e. omega arith) (λ e. omega arith) (λ e. omega arith)

  marks_new : (k : ℕ) → ¬ (k ≡ i) → at new (marks + k) ≡ at ws (marks + k)
  marks_new k n = moved_other ws i end w (marks + k) (λ e. omega arith) (λ e. omega arith) (λ e. n (omega arith))

  marks_fit : (k : ℕ) → at ws (marks + k) ≤ 1 → at new (marks + k) ≤ 1
  marks_fit k h = step (ℕ_discrete k i)
    where
      step : Dec (k ≡ i) → at new (marks + k) ≤ 1
      step (yes e) = rw e (omega (arith, mark_new))
      step (no n) = omega (arith, marks_new k n)

  column_new : (p : ℕ) → 3 ≤ p → p ≤ marks → at new p ≡ at ws p
  column_new p a b = moved_other ws i end w p (λ e. omega arith) (λ e. omega arith) (λ e. omega (arith, low))

  opening_new : at new 3 ≡ at ws 3
  opening_new = column_new 3 (omega arith) (omega arith)

  job_new : (k : ℕ) → k ≤ most_rows → job_at new k ≡ job_at ws k
  job_new k h = λ x. record {
    release = column_new (releases + k) (omega arith) (omega arith) x;
    length = column_new (times + k) (omega arith) (omega arith) x;
    due = column_new (dues + k) (omega arith) (omega arith) x;
  }

  rows_new : rows_in new ≡ rows_in ws
  rows_new =
      ap (λ (n : ℕ). map (job_at new) (count_from 1 n)) count_new ∙
      map_same (job_at new) (job_at ws) (count_from 1 (count_in ws))
      (λ k h. job_new k (omega (arith, count_range 1 (count_in ws) h, desk.count)))

  page_new : (k : ℕ) → 1 ≤ k → at new (pages + k) ≡ at ws (pages + k)
  page_new k l = moved_other ws i end w (pages + k) (λ e. omega arith) (λ e. omega arith) (λ e. omega (arith, start_fits))

  pages_new : pages_held new ≡ pages_held ws
  pages_new =
      ap (λ (n : ℕ). map (λ k. at new (pages + k)) (count_from 1 n)) count_new ∙
      map_same _ _ (count_from 1 (count_in ws)) (λ k h. page_new k (omega (arith, count_range 1 (count_in ws) h)))

  left_new : left_to new (count_in new) ≡ without i (left_to ws (count_in ws))
  left_new = ap (left_to new) count_new ∙ left_without ws new i unmarked mark_new marks_new (count_in ws)

  worst_some : worst_held (at new 2) ≡ some (worst_at d i m)
  worst_some =
      ap worst_held (worst_new ∙ sym worst_raised) ∙
      (held_some worst (omega (arith, worst_fits desk.worst)) ∙ ap some worst_held_lem)

  new_desk : IsDesk new
  new_desk = record {
    long = omega (arith, desk.long, moved_length ws i end w);
    count = omega (arith, desk.count, count_new);
    early = omega (arith, minute_new, end_held, start_fits);
    opening = omega (arith, desk.opening, opening_new);
    worst = inr (omega (arith, worst_new, worst_raised, worst_fits desk.worst));
    rows = λ k l h.
        let r = desk.rows k l (omega (arith, count_new)) in
        let few : k ≤ most_rows = omega (arith, count_new, desk.count) in
        let release = column_new (releases + k) (omega arith) (omega arith) in
        let time = column_new (times + k) (omega arith) (omega arith) in
        let due = column_new (dues + k) (omega arith) (omega arith) in
        omega (arith, r, release, time, due, opening_new, marks_fit k r.4);
  }

  -- The words hold a desk again, the one after the start, and are as many as before.
  pub moved_held : IsDesk new × (running new ≡ moved d i m) × (length new ≡ length ws)
  moved_held = (
    new_desk,
    λ x. record {
      opening = opening_new x;
      rows = rows_new x;
      pages = pages_new x;
      left = left_new x;
      minute = minute_new x;
      worst = worst_some x;
    },
    moved_length ws i end w,
  )

  -- And they keep the pages.
  pub moved_keeps : KeepsPages ws → KeepsPages new
  moved_keeps k = record {
    desk = new_desk;
    pages = λ j l h. omega (arith, page_new j l, k.pages j l (omega (arith, count_new)));
  }
