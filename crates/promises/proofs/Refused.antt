-- Each call is refused exactly as the table of refusals says.
-- Assumes nothing.
use Prim.Native.Nat.{ℕ, zero, suc, ◌-◌, ◌*◌, ◌≤◌, ◌<◌}
use native.Mathlib.Omega.{arith}
use native.Mathlib.Decide.{dec_le}
use mathlib.Core.Bool.{Bool, true, false, cond, ◌||◌}
use mathlib.Core.Path.{◌≡◌, refl, sym, ap, ◌∙◌, subst}
use mathlib.Core.List.{List, Memᴰ}
use mathlib.Core.Logic.{◌↔◌}
use mathlib.Core.Option.{Option, none, some, none-ne-some}
use lib.Dec.{ltb, eqb}
use lib.ListN.{length, get_or}
use lib.IntN.{ℤ, pos}
use borrow.Author.Tests.{lt-ltb, le-ltb, ne_eqb}
use Rattle.std.specs.Prelude.{Ok, Err}
use Rattle.schedule.specs.Limits.{most_opening}
use Rattle.schedule.specs.Rows.{Day}
use Rattle.schedule.specs.Desk.{Pair, pair_of}
use Rattle.schedule.specs.Plans.{first_beating}
use Rattle.schedule.proofs.Tests.{false_is_true}
use Rattle.refusals.specs.Tests.{Tested, refusal_at}
use Rattle.refusals.specs.Refusals.{by_range, by_unlisted, by_narrow, by_unkept}
use Rattle.pairs.specs.Pairs.{number_word}
use Rattle.book.specs.Rows.{Contents, refused, accepted}
use Rattle.readers.specs.declared.Terms.{Terms}
use Rattle.readers.specs.Reads.{read_by}
use Rattle.readers.proofs.Told.{told_reads, untold_refused}
use Rattle.row_calls.specs.Places.{RowPlace, place_in}
use Rattle.postings.specs.Posting.{posting_tests}
use Rattle.outcomes.specs.Outcomes.{judged_of, list_outcome, order_outcome, plan_outcome, verdict_outcome}
use Rattle.outcomes.specs.Planning.{nth, Planning}
use Rattle.outcomes.proofs.Sound.{Sound}
use Rattle.outcomes.proofs.Plans.{nth_in, nth_zero, nth_out}
use Rattle.outcomes.proofs.OutcomeLaws.{list_narrow, list_is, plan_is, plan_unlisted, verdict_no, verdict_is}
use Rattle.outcomes.proofs.OutcomeLaws.{order_narrow, order_some, order_none}
use Rattle.calls.specs.Answers.{Said, said_no, said_list, said_order, said_verdict, said_place}
use Rattle.promises.specs.Vocabulary.{Refuses}
use Rattle.promises.specs.Table as table
use Rattle.promises.specs.Table.{Turned, by_opening, by_book, by_call, ListTurned, BoundTurned, PlanTurned, VerdictTurned, RowTurned}
use Rattle.promises.proofs.Listed.{nth_mem}
use Rattle.promises.proofs.Accepted.{refusal_is, takes, book_refused}
use Rattle.promises.proofs.Numbers.{from_1, book_numbered}
use Rattle.promises.proofs.Posted.{posting_turned}

-- A call that says a refusal, or none; and a condition that holds of that number and place alone, or of none.
module _ (said : Said) (Turns : (n p : ℕ) → Type 0) where
  pub says_no : (m q : ℕ) → 1 ≤ m → said ≡ said_no m q → Turns m q → ((n p : ℕ) → Turns n p → (m ≡ n) × (q ≡ p)) →
      (n p : ℕ) → Refuses said n p ↔ Turns n p
  says_no m q low e t one n p = (
    λ h. let f : m ≡ n = sym (ap (λ (s : Said). s.number) e) ∙ h.1 in
        let g : q ≡ p = sym (ap (λ (s : Said). s.place) e) ∙ h.2 in
        subst (λ (x : ℕ). Turns x p) f (subst (Turns m) g t),
    λ u. let f = one n p u in
        (omega (arith, f.0), ap (λ (s : Said). s.number) e ∙ f.0, ap (λ (s : Said). s.place) e ∙ f.1),
  )

  pub says_yes : said.number ≡ 0 → ((n p : ℕ) → ¬ Turns n p) → (n p : ℕ) → Refuses said n p ↔ Turns n p
  says_yes e f n p = (λ h. let z : ⊥ = omega (arith, h.0, h.1) in absurd z, λ t. absurd (f n p t))

-- A refusal of the opening or the book, by its number and place, whatever a call's own conditions are.
pub contents_turned : (terms : Terms) (book : List ℕ) (Own : Day → (n p : ℕ) → Type 0) (n p : ℕ) → read_by terms book ≡ refused n p →
    Turned terms book Own n p
contents_turned terms book Own n p e = step (dec_le terms.opening most_opening)
  where
    step : Dec (terms.opening ≤ most_opening) → Turned terms book Own n p
    step (yes h) = by_book n p h ((book_refused terms.profile book n p).0 (sym (told_reads terms book h) ∙ e))
    step (no h) =
        let s = refusal_is (sym (untold_refused terms book (omega arith)) ∙ e) in
        subst (λ (m : ℕ). Turned terms book Own m p) s.0
        (subst (Turned terms book Own by_range) s.1 (by_opening (omega arith)))

-- By the opening minutes, by the book, and by a condition of the call's own.
module _ (terms : Terms) (book : List ℕ) (Own : Day → (n p : ℕ) → Type 0) (said : Said) where
  pub turned : ((n p : ℕ) → read_by terms book ≡ refused n p → said ≡ said_no n p) →
      ((day : Day) → read_by terms book ≡ accepted day → (n p : ℕ) → Refuses said n p ↔ Own day n p) →
      (n p : ℕ) → Refuses said n p ↔ Turned terms book Own n p
  turned book-no own n p = (λ h. there h (read_by terms book) refl, back n p)
    where
      there : Refuses said n p → (x : Contents) → read_by terms book ≡ x → Turned terms book Own n p
      there h (refused m q) e =
          let s = book-no m q e in
          let f : m ≡ n = sym (ap (λ (s : Said). s.number) s) ∙ h.1 in
          let g : q ≡ p = sym (ap (λ (s : Said). s.place) s) ∙ h.2 in
          contents_turned terms book Own n p (e ∙ (λ i. refused (f i) (g i)))
      there h (accepted day) e = by_call n p day ((takes terms book day).0 e) ((own day e n p).0 h)

      refuses : (m q : ℕ) → 1 ≤ m → read_by terms book ≡ refused m q → Refuses said m q
      refuses m q low e =
          let s = book-no m q e in
          (low, ap (λ (s : Said). s.number) s, ap (λ (s : Said). s.place) s)

      back : (m q : ℕ) → Turned terms book Own m q → Refuses said m q
      back _ _ (by_opening h) = refuses by_range 0 (omega arith) (untold_refused terms book h)
      back _ _ (by_book m q h r) =
          refuses m q (from_1 terms.profile (book_numbered r)) (told_reads terms book h ∙ (book_refused terms.profile book m q).1 r)
      back _ _ (by_call m q day t o) = (own day ((takes terms book day).1 t) m q).1 o

-- The calls on what is planned.
module _ (g : Planning) where
  pub list_turned : (b : List ℕ) (n p : ℕ) → Refuses (said_list (list_outcome g b).answer) n p ↔ ListTurned g b n p
  list_turned b = step (dec_le (2 * length g.left) (length b))
    where
      only : (n p : ℕ) → ListTurned g b n p → (by_narrow ≡ n) × (0 ≡ p)
      only _ _ (table.narrow h) = (refl, refl)

      wide : 2 * length g.left ≤ length b → (n p : ℕ) → ¬ ListTurned g b n p
      wide h _ _ (table.narrow l) = omega arith

      step : Dec (2 * length g.left ≤ length b) →
          (n p : ℕ) → Refuses (said_list (list_outcome g b).answer) n p ↔ ListTurned g b n p
      step (yes h) =
          says_yes (said_list (list_outcome g b).answer) (ListTurned g b) (ap (λ o. (said_list o.answer).number) (list_is g b h)) (wide h)
      step (no h) =
          says_no (said_list (list_outcome g b).answer) (ListTurned g b) by_narrow 0 (omega arith)
          (ap (λ o. said_list o.answer) (list_narrow g b (omega arith)))
          (table.narrow (omega arith)) only

  module _ (s : Sound g) where
    pub bound_turned : (y : ℤ) (b : List ℕ) (n p : ℕ) → Refuses (said_order (order_outcome g y b).answer) n p ↔ BoundTurned g y b n p
    bound_turned y b = step (dec_le (length g.left) (length b))
      where
        narrow_only : length b < length g.left → (n p : ℕ) → BoundTurned g y b n p → (by_narrow ≡ n) × (0 ≡ p)
        narrow_only h _ _ (table.narrow l) = (refl, refl)
        narrow_only h _ _ (table.unkept l k) = let z : ⊥ = omega arith in absurd z

        unkept_only : length g.left ≤ length b → (n p : ℕ) → BoundTurned g y b n p → (by_unkept ≡ n) × (0 ≡ p)
        unkept_only h _ _ (table.narrow l) = let z : ⊥ = omega arith in absurd z
        unkept_only h _ _ (table.unkept l k) = (refl, refl)

        kept : length g.left ≤ length b → (order : List ℕ) → g.orders y ≡ some order → (n p : ℕ) → ¬ BoundTurned g y b n p
        kept h order e _ _ (table.narrow l) = omega arith
        kept h order e _ _ (table.unkept l k) = none-ne-some order (sym ((s.promise.unkept y).1 k) ∙ e)

        search : length g.left ≤ length b → (o : Option (List ℕ)) → g.orders y ≡ o →
            (n p : ℕ) → Refuses (said_order (order_outcome g y b).answer) n p ↔ BoundTurned g y b n p
        search h none e = says_no (said_order (order_outcome g y b).answer) (BoundTurned g y b) by_unkept 0 (omega arith)
            (ap (λ o. said_order o.answer) (order_none g y b h e)) (table.unkept h ((s.promise.unkept y).0 e)) (unkept_only h)
        search h (some order) e = says_yes (said_order (order_outcome g y b).answer) (BoundTurned g y b)
            (ap (λ o. (said_order o.answer).number) (order_some g y b h order e)) (kept h order e)

        step : Dec (length g.left ≤ length b) →
            (n p : ℕ) → Refuses (said_order (order_outcome g y b).answer) n p ↔ BoundTurned g y b n p
        step (yes h) = search h (g.orders y) refl
        step (no h) =
            let l : length b < length g.left = omega arith in
            says_no (said_order (order_outcome g y b).answer) (BoundTurned g y b) by_narrow 0 (omega arith)
            (ap (λ o. said_order o.answer) (order_narrow g y b l))
            (table.narrow l) (narrow_only l)

    pub plan_turned : (k : ℕ) (b : List ℕ) (n p : ℕ) → Refuses (said_order (plan_outcome g k b).answer) n p ↔ PlanTurned g k b n p
    plan_turned k b = step (dec_le 1 k) (dec_le k (length g.plans))
      where
        Same : Type 0
        Same = (n p : ℕ) → Refuses (said_order (plan_outcome g k b).answer) n p ↔ PlanTurned g k b n p

        unlisted_only : ¬ ((1 ≤ k) × (k ≤ length g.plans)) → (n p : ℕ) → PlanTurned g k b n p →
            (by_unlisted ≡ n) × (length g.plans ≡ p)
        unlisted_only d _ _ (table.unlisted f) = (refl, refl)
        unlisted_only d _ _ (table.narrow f h l) = absurd (d (f, h))

        narrow_only : 1 ≤ k → k ≤ length g.plans → (n p : ℕ) → PlanTurned g k b n p → (by_narrow ≡ n) × (0 ≡ p)
        narrow_only f h _ _ (table.unlisted d) = absurd (d (f, h))
        narrow_only f h _ _ (table.narrow u v l) = (refl, refl)

        neither : 1 ≤ k → k ≤ length g.plans → length g.left ≤ length b → (n p : ℕ) → ¬ PlanTurned g k b n p
        neither f h w _ _ (table.unlisted d) = d (f, h)
        neither f h w _ _ (table.narrow u v l) = omega arith

        unlisted : nth g.plans k ≡ none → ¬ ((1 ≤ k) × (k ≤ length g.plans)) → Same
        unlisted e d = says_no (said_order (plan_outcome g k b).answer) (PlanTurned g k b) by_unlisted (length g.plans) (omega arith)
            (ap (λ o. said_order o.answer) (plan_unlisted g k b e)) (table.unlisted d) (unlisted_only d)

        plan₀ : Pair
        plan₀ = record { end = 0; late = pos 0 }

        listed : 1 ≤ k → k ≤ length g.plans → Dec (length g.left ≤ length b) → Same
        listed f h (no w) =
            let e = nth_in g.plans k plan₀ f h in
            let l : length b < length g.left = omega arith in
            says_no (said_order (plan_outcome g k b).answer) (PlanTurned g k b) by_narrow 0 (omega arith)
            (ap (λ o. said_order o.answer) (plan_is g k _ b e ∙ order_narrow g _ b l)) (table.narrow f h l) (narrow_only f h)
        listed f h (yes w) =
            let p : Pair = get_or g.plans (k - 1) plan₀ in
            let e : nth g.plans k ≡ some p = nth_in g.plans k plan₀ f h in
            let u = s.promise.attains p (subst (Memᴰ p) s.front (nth_mem g.plans k p e)) in
            says_yes (said_order (plan_outcome g k b).answer) (PlanTurned g k b)
            (ap (λ o. (said_order o.answer).number) (plan_is g k p b e ∙ order_some g p.late b w u.0 u.1)) (neither f h w)

        step : Dec (1 ≤ k) → Dec (k ≤ length g.plans) → Same
        step (no f) d =
            let z : k ≡ 0 = omega arith in
            unlisted (ap (nth g.plans) z ∙ nth_zero g.plans) (λ h. f h.0)
        step (yes f) (no d) = unlisted (nth_out g.plans k (omega arith)) (λ h. d h.1)
        step (yes f) (yes h) = listed f h (dec_le (length g.left) (length b))

  pub verdict_turned : (posting : List ℕ) (n p : ℕ) →
      Refuses (said_verdict (verdict_outcome g posting)) n p ↔ VerdictTurned (length g.left) posting n p
  verdict_turned posting n p = (λ h. there h (posting_tests (length g.left) posting) refl, back)
    where
      said_zero : (q : Pair) (o : Option ℕ) → (said_verdict (Ok (judged_of q o))).number ≡ 0
      said_zero q none = unfold judged_of in refl
      said_zero q (some k) = unfold judged_of in refl

      there : Refuses (said_verdict (verdict_outcome g posting)) n p → (t : Tested) → posting_tests (length g.left) posting ≡ t →
          VerdictTurned (length g.left) posting n p
      there h (Ok _) e =
          let q = pair_of g.job g.minute posting in
          let z = ap (λ v. (said_verdict v).number) (verdict_is g posting e) ∙ said_zero q (first_beating 1 g.plans q) in
          let x : ⊥ = omega (arith, h.0, h.1) in
          absurd x
      there h (Err refusal) e =
          let v = verdict_no g posting refusal e in
          let f : refusal.number ≡ n = sym (ap (λ v. (said_verdict v).number) v) ∙ h.1 in
          let k : refusal.place ≡ p = sym (ap (λ v. (said_verdict v).place) v) ∙ h.2 in
          (posting_turned (length g.left) posting n p).0 (e ∙ (λ i. Err (refusal_at (f i) (k i))))

      ten : {m q : ℕ} → VerdictTurned (length g.left) posting m q → 1 ≤ m
      ten (table.wrong_length d) = omega arith
      ten (table.stray l q i x f) = omega arith

      back : VerdictTurned (length g.left) posting n p → Refuses (said_verdict (verdict_outcome g posting)) n p
      back t =
          let e = (posting_turned (length g.left) posting n p).1 t in
          let v = verdict_no g posting (refusal_at n p) e in (
            ten t,
            ap (λ v. (said_verdict v).number) v,
            ap (λ v. (said_verdict v).place) v,
          )

-- The call for a row of a day.
pub row_at : (day : Day) (k : ℕ) → 1 ≤ k → k ≤ length day.rows → place_in (accepted day) k ≡ Ok (number_word k)
unfolding place_in
row_at day k l h = rw (ne_eqb k 0 (λ e. omega arith), le-ltb (length day.rows) k h)

row_out : (day : Day) (k : ℕ) → ¬ ((1 ≤ k) × (k ≤ length day.rows)) →
    said_place (place_in (accepted day) k) ≡ said_no by_unlisted (length day.rows)
unfolding place_in
row_out day k d = step (eqb k 0) refl (dec_le k (length day.rows))
  where
    step : (b : Bool) → eqb k 0 ≡ b → Dec (k ≤ length day.rows) →
        said_place (cond (eqb k 0 || ltb (length day.rows) k) (Err (refusal_at by_unlisted (length day.rows))) (Ok (number_word k))) ≡
        said_no by_unlisted (length day.rows)
    step true e h = rw e refl
    step false e (no h) = rw (e, lt-ltb (length day.rows) k (omega arith)) refl
    step false e (yes h) = absurd (d (positive k e, h))
      where
        positive : (k : ℕ) → eqb k 0 ≡ false → 1 ≤ k
        positive zero f = false_is_true (sym f)
        positive (suc k) f = omega arith

pub row_turned : (day : Day) (k n p : ℕ) → Refuses (said_place (place_in (accepted day) k)) n p ↔ RowTurned (length day.rows) k n p
row_turned day k = step (dec_le 1 k) (dec_le k (length day.rows))
  where
    Same : Type 0
    Same = (n p : ℕ) → Refuses (said_place (place_in (accepted day) k)) n p ↔ RowTurned (length day.rows) k n p

    only : (n p : ℕ) → RowTurned (length day.rows) k n p → (by_unlisted ≡ n) × (length day.rows ≡ p)
    only _ _ (table.unlisted f) = (refl, refl)

    out : ¬ ((1 ≤ k) × (k ≤ length day.rows)) → Same
    out d =
        says_no (said_place (place_in (accepted day) k)) (RowTurned (length day.rows) k) by_unlisted (length day.rows) (omega arith)
        (row_out day k d) (table.unlisted d) only

    inside : 1 ≤ k → k ≤ length day.rows → (n p : ℕ) → ¬ RowTurned (length day.rows) k n p
    inside f h _ _ (table.unlisted d) = d (f, h)

    step : Dec (1 ≤ k) → Dec (k ≤ length day.rows) → Same
    step (no f) h = out (λ u. f u.0)
    step (yes f) (no h) = out (λ u. h u.1)
    step (yes f) (yes h) =
        says_yes (said_place (place_in (accepted day) k)) (RowTurned (length day.rows) k)
        (ap (λ (x : RowPlace). (said_place x).number) (row_at day k f h)) (inside f h)
