-- What a day counts as. Assumes nothing.
use Prim.Native.Nat.{ℕ, suc, ◌*◌}
use native.Mathlib.Omega.{arith}
use mathlib.Core.Bool.{Bool, true, false, cond}
use mathlib.Core.Path.{◌≡◌, refl, sym, ap, ◌∙◌, subst}
use mathlib.Core.List.{List, [], ◌∷◌, Memᴰ}
use mathlib.Core.Option.{Option, none, some}
use lib.ListN.{length, replicate, length-replicate}
use Rattle.std.specs.Prelude.{Ok, Err}
use Rattle.schedule.specs.Rows.{Day, jobs}
use Rattle.schedule.specs.Desk.{Pair, idle_of}
use Rattle.schedule.specs.Plans.{beats, Beats, first_beating}
use Rattle.schedule.proofs.Beats.{beats_says}
use Rattle.schedule.proofs.Numbers.{length_count}
use Rattle.schedule.proofs.Tests.{is_true}
use Rattle.refusals.specs.declared.Refusal.{Refusal}
use Rattle.refusals.specs.Tests.{Tested}
use Rattle.book.specs.Rows.{Contents, refused as bookRefused, accepted}
use Rattle.readers.specs.Reads.{read_by}
use Rattle.readers.proofs.Accepted.{accepted_day}
use Rattle.postings.specs.Posting.{posting_tests}
use Rattle.outcomes.specs.Outcomes.{VerdictAnswer, judged_of, verdict_outcome}
use Rattle.outcomes.specs.Planning.{Planning}
use Rattle.outcomes.proofs.OutcomeLaws.{verdict_no, verdict_is}
use Rattle.outcomes.proofs.Sound.{posted}
use Rattle.calls.specs.Answers.{said_verdict}
use Rattle.calls.specs.Planned.{planned}
use Rattle.calls.proofs.CallLaws.{verdict_of}
use Rattle.promises.specs.Vocabulary.{ReaderOrder, pair_by, NoneBeats, Takes}
use Rattle.promises.proofs.Accepted.{not_both, takes}
use Rattle.promises.proofs.Promise.{day_sound, cover_holds}
use Rattle.day_result.specs.DayResults.{month_terms, result_of}
use Rattle.day_result.proofs.Days.{day_refused, day_of_lem}
use Rattle.month_input.specs.Layout.{PostedDay}
use Rattle.month_step.specs.Turns.{result_for}
use Rattle.month_promises.specs.Promise.{AcceptedPosting, CountsAs, refused, unbeaten, beaten}

-- A plan that is named as the first that beats a pair stands on the list and beats it.
named : (i : ℕ) (ps : List Pair) (q : Pair) (k : ℕ) → first_beating i ps q ≡ some k → (p : Pair) × Memᴰ p ps × Beats p q
unfolding first_beating
named i [] q k e = let z : ◌≡◌ {A = ℕ} 0 1 = cc in absurd (omega arith)
named i (p ∷ ps) q k e = step (beats p q) refl e (named (suc i) ps q k)
  where
    step : (b : Bool) → beats p q ≡ b → cond b (some i) (first_beating (suc i) ps q) ≡ some k →
        (first_beating (suc i) ps q ≡ some k → (r : Pair) × Memᴰ r ps × Beats r q) → (r : Pair) × Memᴰ r (p ∷ ps) × Beats r q
    step true t f go = (p, Memᴰ.head refl, (beats_says p q).0 (is_true _ t))
    step false t f go = let r = go f in (r.0, Memᴰ.tail r.1, r.2)

same_accepted : {c d : Day} → accepted c ≡ accepted d → c ≡ d
same_accepted e = cc

passed_not : {refusal : Refusal} → ◌≡◌ {A = Tested} (Ok tt) (Err refusal) → ⊥
passed_not e = let z : ◌≡◌ {A = ℕ} 0 1 = cc in omega arith

module _ (d : PostedDay) where
  -- The book is refused.
  by_book : (n p : ℕ) → read_by month_terms d.book ≡ bookRefused n p → CountsAs d (result_for d)
  by_book n p e =
      subst (CountsAs d) (sym (day_refused d.book d.posting n p e))
      (refused (λ a. not_both (sym ((takes month_terms d.book a.day).1 a.takes) ∙ e)))

  module _ (day : Day) (reads : read_by month_terms d.book ≡ accepted day) where
    abbrev g : Planning
    g = planned month_terms day

    abbrev rows : ℕ
    rows = length day.rows

    abbrev own : Pair
    own = pair_by g d.posting

    abbrev idle : ℕ
    idle = idle_of (jobs 0 day) day.free d.posting

    takes_day : Takes month_terms d.book day
    takes_day = (takes month_terms d.book day).0 reads

    result : result_for d ≡ result_of idle (verdict_outcome g d.posting)
    result = day_of_lem d.book d.posting day reads

    -- The posting is refused: whatever day the book gives, it is this one.
    by_posting : (refusal : Refusal) → posting_tests (length g.left) d.posting ≡ Err refusal → CountsAs d (result_for d)
    unfolding result_of
    by_posting refusal e =
        subst (CountsAs d) (sym (result ∙ ap (result_of idle) (verdict_no g d.posting refusal e))) (refused none_there)
      where
        none_there : ¬ AcceptedPosting d
        none_there a =
            let same = same_accepted (sym ((takes month_terms d.book a.day).1 a.takes) ∙ reads) in
            let o = subst (λ (c : Day). ReaderOrder (planned month_terms c) d.posting) same a.order in
            passed_not (sym ((posted rows d.posting).1 o) ∙
            (ap (λ (m : ℕ). posting_tests m d.posting) (sym (length_count 1 rows)) ∙ e))

    module _ (passes : posting_tests (length g.left) d.posting ≡ Ok tt) where
      order : ReaderOrder g d.posting
      order = (posted rows d.posting).0 (ap (λ (m : ℕ). posting_tests m d.posting) (sym (length_count 1 rows)) ∙ passes)

      abbrev whole : AcceptedPosting d
      whole = record { day = day; takes = takes_day; order = order }

      judged : (k : Option ℕ) → first_beating 1 g.plans own ≡ k → verdict_outcome g d.posting ≡ Ok (judged_of own k)
      judged k e = verdict_is g d.posting passes ∙ ap (λ (o : Option ℕ). Ok (judged_of own o)) e

      -- No plan beats it: no order does.
      none_beats : first_beating 1 g.plans own ≡ none → NoneBeats g own
      unfolding judged_of
      none_beats e =
          let b : List ℕ = replicate (2 * rows) 0 in
          let wide = (cover_holds month_terms d.book day takes_day).lists b (omega (arith, length-replicate {A = ℕ} (2 * rows) 0)) in
          (wide.verdicts d.posting order).unbeaten.0
          (ap (λ (v : VerdictAnswer). (said_verdict v).count) (verdict_of month_terms d.book day reads d.posting ∙ judged none e))

      by_plans : (k : Option ℕ) → first_beating 1 g.plans own ≡ k → CountsAs d (result_for d)
      unfolding result_of judged_of
      by_plans none e =
          subst (CountsAs d) (sym (result ∙ ap (result_of idle) (judged none e))) (unbeaten whole (none_beats e))
      by_plans (some k) e =
          let p = named 1 g.plans own k e in
          let s = day_sound (accepted_day month_terms d.book day reads) in
          let u = ((s.promise.belongs p.0).0 (subst (Memᴰ p.0) s.front p.1)).0 in
          subst (CountsAs d) (sym (result ∙ ap (result_of idle) (judged (some k) e)))
          (beaten whole u.0 u.1.0 (subst (λ (q : Pair). Beats q own) (sym u.1.1) p.2))

pub each_day : (d : PostedDay) → CountsAs d (result_for d)
each_day d = book (read_by month_terms d.book) refl
  where
    posting : (day : Day) → read_by month_terms d.book ≡ accepted day → (t : Tested) →
        posting_tests (length (planned month_terms day).left) d.posting ≡ t → CountsAs d (result_for d)
    posting day e (Err refusal) f = by_posting d day e refusal f
    posting day e (Ok _) f = by_plans d day e f (first_beating 1 (planned month_terms day).plans (own d day e)) refl

    book : (c : Contents) → read_by month_terms d.book ≡ c → CountsAs d (result_for d)
    book (bookRefused n p) e = by_book d n p e
    book (accepted day) e = posting day e (posting_tests (length (planned month_terms day).left) d.posting) refl
