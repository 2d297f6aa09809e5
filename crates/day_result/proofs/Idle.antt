-- The idle minutes of a posting, by its end: idle and all lengths make up what lies between the free minute and the end, and the lengths of
-- a posting are those of the rows. Assumes nothing.
use Prim.Native.Nat.{ℕ, zero, suc, ◌+◌, ◌*◌, ◌≤◌}
use native.Mathlib.Omega.{arith}
use mathlib.Core.Path.{◌≡◌, refl, sym, ap, ◌∙◌, subst}
use mathlib.Core.List.{List, [], ◌∷◌, Permᴰ}
use mathlib.Core.Option.{Option, none, some}
use lib.ListN.{length, get_or, take, drop}
use lib.Seq.{drop-cons}
use Rattle.std.specs.Prelude.{Ok, Err}
use Rattle.std.specs.List.{sum}
use Rattle.std.proofs.lemmas.List.Sums.{sum_by-cons}
use Rattle.schedule.specs.Limits.{longest_time}
use Rattle.theory.specs.Jobs.{Job}
use Rattle.schedule.specs.declared.Profile.TheVariants.{Ordering}
use Rattle.schedule.specs.Rows.{count_from}
use Rattle.schedule.specs.Desk.{Pair, idle_of, lengths_of, pair_of}
use Rattle.schedule.specs.Plans.{first_beating}
use Rattle.schedule.specs.Columns.{columns}
use Rattle.schedule.proofs.DeskLaws.{idle_sum}
use Rattle.schedule.proofs.Numbers.{length_count}
use Rattle.refusals.specs.Tests.{Tested}
use Rattle.postings.specs.Posting.{posting_tests}
use Rattle.outcomes.specs.Outcomes.{VerdictAnswer, judged_of, verdict_outcome}
use Rattle.outcomes.specs.Planning.{Planning, planning_in}
use Rattle.outcomes.specs.Plannable.{Plannable}
use Rattle.outcomes.proofs.OutcomeLaws.{verdict_no, verdict_is}
use Rattle.outcomes.proofs.Columns.{posting_order}
use Rattle.outcomes.specs.declared.Verdict.TheVariants as verdict
use Rattle.day_result.specs.declared.DayResult.TheVariants.{Unbeaten, Beaten}
use Rattle.day_result.specs.DayResults.{result_of}
use Rattle.day_result.specs.Lasting.{lasting}

-- Whatever order rows are taken in, their lengths come to the same.
lengths_any_order : (job : ℕ → Job) {a b : List ℕ} → Permᴰ a b → lengths_of job a ≡ lengths_of job b
unfolding lengths_of
lengths_any_order job Permᴰ.nil = refl
lengths_any_order job (Permᴰ.cons e d) = omega (arith, lengths_any_order job d, ap (λ (i : ℕ). (job i).length) e)
lengths_any_order job (Permᴰ.swap e f) = omega (arith, ap (λ (i : ℕ). (job i).length) e, ap (λ (i : ℕ). (job i).length) f)
lengths_any_order job (Permᴰ.trans c d) = lengths_any_order job c ∙ lengths_any_order job d

-- Lengths are all that their sum looks at.
pub lengths_alone : (release minutes due order : List ℕ) →
    lengths_of (columns release minutes due) order ≡ lengths_of (lasting minutes) order
unfolding lengths_of
lengths_alone release minutes due [] = refl
lengths_alone release minutes due (i ∷ is) = omega (arith, lengths_alone release minutes due is)

-- Of n rows from row i on: what the library adds up of their part of the column; and no row lasts longer than the longest.
pub part_lengths : (minutes : List ℕ) (n i : ℕ) → i + n ≤ length minutes →
    sum (take n (drop i minutes)) ≡ lengths_of (lasting minutes) (count_from i n)
unfolding lengths_of count_from
part_lengths minutes zero i h = refl
part_lengths minutes (suc n) i h =
    rw (drop-cons minutes i 0 (omega arith))
    (sum_by-cons (λ x. x) (get_or minutes i 0) (take n (drop (suc i) minutes)) ∙
    ap (λ (m : ℕ). get_or minutes i 0 + m) (part_lengths minutes n (suc i) (omega arith)))

pub lengths_within : (minutes : List ℕ) (n i : ℕ) → ((k : ℕ) → get_or minutes k 0 ≤ longest_time) →
    lengths_of (lasting minutes) (count_from i n) ≤ longest_time * n
unfolding lengths_of count_from
lengths_within minutes zero i h = omega arith
lengths_within minutes (suc n) i h = omega (arith, h i, lengths_within minutes n (suc i) h)

-- A verdict whose end, if it tells one, is the minute t, so many idle minutes and so many of all lengths.
abbrev pub Ends : (t idle lengths : ℕ) → VerdictAnswer → Type 0
Ends t idle lengths (Err refusal) = Unit {0}
Ends t idle lengths (Ok (verdict.Unbeaten e y)) = t + (idle + lengths) ≡ e
Ends t idle lengths (Ok (verdict.Beaten e y k)) = t + (idle + lengths) ≡ e

-- So it is of a posting of rows 1 to n from the minute t on, with its own idle minutes.
module _ {job : ℕ → Job} {t n : ℕ} (p : Plannable Ordering job t n) (posting : List ℕ) where
  abbrev planning : Planning
  planning = planning_in Ordering job t n

  abbrev Ended : VerdictAnswer → Type 0
  Ended v = Ends t (idle_of job t posting) (lengths_of job (count_from 1 n)) v

  judged : (q : Pair) (k : Option ℕ) → t + (idle_of job t posting + lengths_of job (count_from 1 n)) ≡ q.end → Ended (Ok (judged_of q k))
  unfolding judged_of
  judged q none s = s
  judged q (some k) s = s

  ended : Ended (verdict_outcome planning posting)
  ended = step (posting_tests (length planning.left) posting) refl
    where
      step : (r : Tested) → posting_tests (length planning.left) posting ≡ r → Ended (verdict_outcome planning posting)
      step (Err refusal) e = subst Ended (sym (verdict_no planning posting refusal e)) tt
      step (Ok _) e =
          let o = posting_order p posting (subst (λ (m : ℕ). posting_tests m posting ≡ Ok tt) (length_count 1 n) e) in
          let pair = pair_of job t posting in
          subst Ended (sym (verdict_is planning posting e))
          (judged pair (first_beating 1 planning.plans pair)
          (ap (λ (l : ℕ). t + (idle_of job t posting + l)) (sym (lengths_any_order job o)) ∙ idle_sum job t posting))

-- Of columns: the verdict v, by whatever name w, and what it says of the day's result.
module _ (release minutes due : List ℕ) {t n : ℕ} (p : Plannable Ordering (columns release minutes due) t n) (posting : List ℕ)
    (v w : VerdictAnswer) (told : v ≡ verdict_outcome (planning p posting) posting) (known : v ≡ w) where
  abbrev idle : ℕ
  idle = idle_of (columns release minutes due) t posting

  abbrev times : ℕ
  times = lengths_of (lasting minutes) (count_from 1 n)

  pub own_idle : Ends t idle times w
  own_idle =
      subst (λ (l : ℕ). Ends t idle l w) (lengths_alone release minutes due (count_from 1 n))
      (subst (Ended p posting) (sym told ∙ known) (ended p posting))

  -- Idle minutes that make up the end are the posting's.
  pub idle_found : (r : ℕ) → Ends t r times w → result_of r w ≡ result_of idle (verdict_outcome (planning p posting) posting)
  unfolding result_of
  idle_found r s = step w s own_idle ∙ ap (result_of idle) (sym known ∙ told)
    where
      step : (w : VerdictAnswer) → Ends t r times w → Ends t idle times w → result_of r w ≡ result_of idle w
      step (Err refusal) a b = refl
      step (Ok (verdict.Unbeaten e y)) a b = ap (λ (i : ℕ). Unbeaten i y) (omega arith)
      step (Ok (verdict.Beaten e y k)) a b = ap (λ (i : ℕ). Beaten i y) (omega arith)
