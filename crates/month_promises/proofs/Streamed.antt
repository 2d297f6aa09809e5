-- One day at a time comes to what is shown of the whole input. Assumes nothing.
use Prim.Native.Nat.{ℕ, zero, suc, ◌+◌, ◌*◌, ◌<◌}
use native.Mathlib.Omega.{arith}
use native.Mathlib.Decide.{ℕ_discrete}
use mathlib.Core.Path.{◌≡◌, refl, sym, ap, ◌∙◌}
use mathlib.Core.List.{List, [], ◌∷◌, ◌++◌, map, append_assoc, append-nil}
use mathlib.Core.Option.{Option, none, some}
use lib.ListN.{length, take, drop, length-take}
use Rattle.day_result.specs.declared.DayResult.{DayResult}
use Rattle.input.specs.Input.{words_in}
use Rattle.input.proofs.InputWords.{first_words}
use Rattle.month_input.specs.Layout.{PostedDay, most_words, size_of, Cut, whole, broken, cut_day, day_before, input_days}
use Rattle.month_input.proofs.Windows.{read_on, none_left, day_left, all_left}
use Rattle.totals.specs.Report.{Report, with_day, report_of}
use Rattle.totals.proofs.Report.{day_more}
use Rattle.report_lines.specs.ReportBytes.{report_bytes, refused_bytes}
use Rattle.month_step.specs.Turns.{result_for, Next, day, ended, astray, next_of, next_day}
use Rattle.month_step.proofs.Steps.{no_bytes, too_many, next_cut}
use Rattle.month_promises.specs.Shown.{lines_of}
use Rattle.month_promises.specs.Streamed.{turns, Streamed}

-- One turn, by what comes next.
module _ (n : ℕ) (report : Report) (k : ℕ) (left : List ℕ) where
  abbrev next : Next
  next = next_day k (take (4 * most_words) left)

  turn_ended : next ≡ ended → turns (suc n) report k left ≡ report_bytes report
  unfolding turns
  turn_ended e = rw (e, turns)

  turn_astray : next ≡ astray → turns (suc n) report k left ≡ refused_bytes
  unfolding turns
  turn_astray e = rw (e, turns)

  turn_day : (d : PostedDay) → next ≡ day d →
      turns (suc n) report k left ≡ turns n (with_day (result_for d) report) (suc k) (drop (4 * size_of d) left)
  unfolding turns
  turn_day d e = rw (e, turns)

-- The lines of the days so far, by their results, and of those that are left.
lines_from : List DayResult → Option (List PostedDay) → List ℕ
lines_from done none = refused_bytes
lines_from done (some days) = report_bytes (report_of (done ++ map result_for days))

day_done : (done : List DayResult) (d : PostedDay) (o : Option (List PostedDay)) →
    lines_from (done ++ (result_for d ∷ [])) o ≡ lines_from done (day_before d o)
unfolding lines_from
day_done done d none = refl
day_done done d (some days) =
    ap (λ (rs : List DayResult). report_bytes (report_of rs)) (append_assoc done (result_for d ∷ []) (map result_for days))

module _ (left : List ℕ) where
  window_bytes : 0 < length left → 0 < length (take (4 * most_words) left)
  window_bytes h = omega (arith, length-take (4 * most_words) left)

  window_next : (k : ℕ) → 0 < length left → k < 31 → next zero (report_of []) k left ≡ next_of (cut_day (words_in most_words left))
  window_next k h l =
      next_cut k (take (4 * most_words) left) (window_bytes h) l ∙
      ap (λ (ws : List ℕ). next_of (cut_day ws)) (first_words most_words left)

-- From a turn on, with m days still to come at most.
module _ (done : List DayResult) (left : List ℕ) where
  abbrev Comes : ℕ → ℕ → Type 0
  Comes m k = turns (suc m) (report_of done) k left ≡ lines_from done (input_days m left)

  at_the_end : (m k : ℕ) → length left ≡ 0 → Comes m k
  unfolding lines_from
  at_the_end m k h =
      turn_ended m (report_of done) k left (no_bytes k (take (4 * most_words) left) (omega (arith, length-take (4 * most_words) left))) ∙
      (ap (λ (rs : List DayResult). report_bytes (report_of rs)) (sym (append-nil done)) ∙
      sym (ap (lines_from done) (all_left m left h)))

  past_the_last : (k : ℕ) → k ≡ 31 → 0 < length left → Comes zero k
  unfolding lines_from
  past_the_last k e h =
      turn_astray zero (report_of done) k left (too_many k (take (4 * most_words) left) (window_bytes left h) (omega arith)) ∙
      sym (ap (lines_from done) (none_left left h))

  -- By the day that a window shows, where the turns after it are known.
  one_more : (m k : ℕ) → k < 31 → 0 < length left →
      ((d : PostedDay) → turns (suc m) (report_of (done ++ (result_for d ∷ []))) (suc k) (drop (4 * size_of d) left) ≡
      lines_from (done ++ (result_for d ∷ [])) (input_days m (drop (4 * size_of d) left))) →
      (c : Cut) → cut_day (words_in most_words left) ≡ c → Comes (suc m) k
  unfolding lines_from
  one_more m k l h go broken e =
      turn_astray (suc m) (report_of done) k left (window_next left k h l ∙ ap next_of e) ∙
      sym (ap (lines_from done) (day_left left h m ∙ ap (read_on m left) e))
  one_more m k l h go (whole d) e =
      turn_day (suc m) (report_of done) k left d (window_next left k h l ∙ ap next_of e) ∙
      (ap (λ (r : Report). turns (suc m) r (suc k) (drop (4 * size_of d) left)) (sym (day_more done (result_for d))) ∙
      (go d ∙ (day_done done d (input_days m (drop (4 * size_of d) left)) ∙
      sym (ap (lines_from done) (day_left left h m ∙ ap (read_on m left) e)))))

from : (m k : ℕ) (done : List DayResult) (left : List ℕ) → k + m ≡ 31 → Comes done left m k
from zero k done left e = step (ℕ_discrete (length left) 0)
  where
    step : Dec (length left ≡ 0) → Comes done left zero k
    step (yes h) = at_the_end done left zero k h
    step (no h) = past_the_last done left k (omega arith) (omega arith)
from (suc m) k done left e =
    step (ℕ_discrete (length left) 0)
    (λ d. from m (suc k) (done ++ (result_for d ∷ [])) (drop (4 * size_of d) left) (omega arith))
  where
    step : Dec (length left ≡ 0) →
        ((d : PostedDay) → Comes (done ++ (result_for d ∷ [])) (drop (4 * size_of d) left) m (suc k)) → Comes done left (suc m) k
    step (yes h) go = at_the_end done left (suc m) k h
    step (no h) go = one_more done left m k (omega arith) (omega arith) go (cut_day (words_in most_words left)) refl

same_lines : (o : Option (List PostedDay)) → lines_from [] o ≡ lines_of o
unfolding lines_from lines_of
same_lines none = refl
same_lines (some days) = refl

pub streamed : Streamed
streamed input = from 31 0 [] input refl ∙ same_lines (input_days 31 input)
