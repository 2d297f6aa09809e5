-- Property 3 of the calls: it holds of whatever is planned whose list is the list by its definition and whose orders for a bound are best.
-- Assumes nothing.
use Prim.Native.Nat.{ℕ, suc, ◌*◌, ◌≤◌, ◌<◌}
use native.Mathlib.Omega.{arith}
use mathlib.Core.Path.{◌≡◌, refl, sym, ap, ◌∙◌, subst}
use mathlib.Core.List.{List, Memᴰ}
use mathlib.Core.Logic.{◌↔◌, ◌⊎◌, inl, inr}
use mathlib.Core.Option.{Option, none, some, none-ne-some, some-injective}
use lib.ListN.{length, drop, get_elem?}
use lib.IntN.{ℤ, pos, negsuc}
use lib.Signed.{◌≤ℤ◌, ◌<ℤ◌}
use Rattle.std.specs.Prelude.{Ok}
use Rattle.schedule.specs.Rows.{count_from}
use Rattle.schedule.specs.Desk.{Pair, OrderOf}
use Rattle.schedule.specs.Plans.{Beats, plans, first_beating}
use Rattle.schedule.proofs.Numbers.{length_count}
use Rattle.schedule.proofs.Signed.{le_z→, →le_z, lt_z→, →lt_z}
use Rattle.postings.specs.Posting.{posting_tests}
use Rattle.results.specs.Results.{written, complement, signed, plan_words, or_zero}
use Rattle.outcomes.specs.Outcomes.{judged_of, list_outcome, order_outcome, plan_outcome, verdict_outcome}
use Rattle.outcomes.specs.Planning.{gives, nth, Planning}
use Rattle.outcomes.proofs.Sound.{Sound, posted}
use Rattle.outcomes.proofs.OutcomeLaws.{list_is, plan_is, verdict_is, order_some, order_none}
use Rattle.calls.specs.Answers.{said_list, said_order, said_verdict}
use Rattle.promises.specs.Vocabulary.{told, said_count, said_pair, said_judged, listed, ReaderOrder, end_by, late_by, pair_by}
use Rattle.promises.specs.Vocabulary.{NoneBeats, EndsSooner, LessLate}
use Rattle.promises.specs.Promise.{Covered, PlanOrders, NamesSooner, ListsLess, Judged, BoundAnswered, kept, unkept}
use Rattle.promises.proofs.Listed.{signed_back, plans_back, First, first_beating_lem, mem_elem, elem_mem, nth_mem, later_ends}

-- Signed numbers in a row.
pub le_trans : {a b c : ℤ} → a ≤ℤ b → b ≤ℤ c → a ≤ℤ c
le_trans {a} {b} {c} h k = record { le = →le_z a c (omega (arith, le_z→ a b h.le, le_z→ b c k.le)) }

lt_trans : {a b c : ℤ} → a ≤ℤ b → b <ℤ c → a <ℤ c
lt_trans {a} {b} {c} h k = record { lt = →lt_z a c (omega (arith, le_z→ a b h.le, lt_z→ b c k.lt)) }

pub lt_le : {a b : ℤ} → a <ℤ b → a ≤ℤ b
lt_le {a} {b} h = record { le = →le_z a b (omega (arith, lt_z→ a b h.lt)) }

module _ (g : Planning) (s : Sound g) where
  abbrev pub defined : List Pair
  defined = plans g.job g.minute g.left

  -- The list, by its definition.
  pub list_front : (b : List ℕ) → 2 * length g.left ≤ length b →
      told said_list (list_outcome g b) ≡ gives (said_count (length defined)) (written (plan_words defined) b)
  list_front b h =
      ap (told said_list) (list_is g b h) ∙
      ap (λ (ps : List Pair). gives (said_count (length ps)) (written (plan_words ps) b)) s.front

  pub plan_front : (k : ℕ) (p : Pair) (c : List ℕ) → nth defined k ≡ some p → plan_outcome g k c ≡ order_outcome g p.late c
  plan_front k p c e = plan_is g k p c (ap (λ (ps : List Pair). nth ps k) s.front ∙ e)

  -- A listed lateness is a signed 32-bit number, and its word gives it back.
  word_back : (p : Pair) → Memᴰ p defined → signed (complement p.late) ≡ p.late
  word_back p m =
      let u = ((s.promise.belongs p).0 m).0 in
      let r = s.fits u.0 u.1.0 in
      let l = le_z→ (negsuc 2147483647) (late_by g u.0) r.0.le in
      let h = le_z→ (late_by g u.0) (pos 2147483647) r.1.le in
      subst (λ (q : Pair). signed (complement q.late) ≡ q.late) u.1.1
      (signed_back (late_by g u.0) (omega (arith, h)) (omega (arith, l)))

  -- The plans in a buffer are those of the definition: what holds of these holds of them.
  pub listed_same : (b : List ℕ) → 2 * length g.left ≤ length b → listed (told said_list (list_outcome g b)) ≡ defined
  unfolding written
  listed_same b wide = ap listed (list_front b wide) ∙ plans_back defined (drop (length (plan_words defined)) b) word_back

  on_listed : (P : List Pair → Type 0) → P defined → (b : List ℕ) → 2 * length g.left ≤ length b →
      P (listed (told said_list (list_outcome g b)))
  on_listed P h b wide = subst P (sym (listed_same b wide)) h

  pub covered : (b : List ℕ) → 2 * length g.left ≤ length b → Covered g (listed (told said_list (list_outcome g b)))
  covered = on_listed (Covered g) (record {
    cover = s.promise.cover;
    rising = s.promise.rising;
    belongs = s.promise.belongs;
    few = s.promise.few;
  })

  of_plan : PlanOrders g defined (λ k c. told said_order (plan_outcome g k c))
  of_plan k p c e wide =
      let u = s.promise.attains p (nth_mem defined k p e) in (
        u.0,
        u.1,
        u.2,
        ap (told said_order) (plan_front k p c e ∙ order_some g p.late c wide u.0 u.1) ∙
            ap (λ (q : Pair). gives (said_pair q) (written u.0 c)) u.2.1,
      )

  pub orders_of_plans : (b : List ℕ) → 2 * length g.left ≤ length b →
      PlanOrders g (listed (told said_list (list_outcome g b))) (λ k c. told said_order (plan_outcome g k c))
  orders_of_plans = on_listed (λ ps. PlanOrders g ps (λ k c. told said_order (plan_outcome g k c))) of_plan

  pub bound_answered : (y : ℤ) (c : List ℕ) → length g.left ≤ length c → BoundAnswered g y c (told said_order (order_outcome g y c))
  bound_answered y c wide = step (g.orders y) refl
    where
      step : (o : Option (List ℕ)) → g.orders y ≡ o → BoundAnswered g y c (told said_order (order_outcome g y c))
      step none e = unkept ((s.promise.unkept y).0 e) (ap (told said_order) (order_none g y c wide e))
      step (some order) e =
          let v = s.promise.best y order e in
          kept order e v.0 v.1 v.2 (ap (told said_order) (order_some g y c wide order e))

  -- A listed plan is attained by some order of the rows.
  attained : (p : Pair) → Memᴰ p defined → (order : List ℕ) × ReaderOrder g order × (pair_by g order ≡ p)
  attained p m = let u = ((s.promise.belongs p).0 m).0 in (u.0, u.1.0, u.1.1)

  -- A listed plan that covers an order, at its place on the list.
  record CoveredBy (other : List ℕ) : Type 0 where
    at : ℕ
    plan : Pair
    is_there : get_elem? defined at ≡ some plan
    ends : plan.end ≤ end_by g other
    lates : plan.late ≤ℤ late_by g other

  covered_by : (other : List ℕ) → ReaderOrder g other → CoveredBy other
  covered_by other o =
      let u = s.promise.cover other o in
      let m = mem_elem defined u.1 in
      record { at = m.0; plan = u.0; is_there = m.1; ends = u.2; lates = u.3 }

  -- The pair of a posting, against the list.
  module _ (posting : List ℕ) where
    abbrev own : Pair
    own = pair_by g posting

    -- What covers an order that beats the posting beats it too.
    covered_beats : (other : List ℕ) (u : CoveredBy other) → Beats (pair_by g other) own → Beats u.plan own
    covered_beats other u b =
        record { ends = omega (arith, u.ends, b.ends); lates = le_trans u.lates b.lates; less = go b.less }
      where
        go : (end_by g other < own.end) ⊎ (late_by g other <ℤ own.late) → (u.plan.end < own.end) ⊎ (u.plan.late <ℤ own.late)
        go (inl h) = inl (omega (arith, u.ends))
        go (inr h) = inr (lt_trans u.lates h)

    sooner_beats : (h : EndsSooner g posting) → Beats (pair_by g h.other) own
    sooner_beats h = record { ends = omega (arith, h.ends); lates = h.lates; less = inl h.ends }

    less_beats : (h : LessLate g posting) → Beats (pair_by g h.other) own
    less_beats h = record { ends = h.ends; lates = lt_le h.lates; less = inr h.lates }

    -- If none of the list beats the posting, none beats it at all.
    none_at_all : First 1 defined own none → (other : List ℕ) → ReaderOrder g other → ¬ Beats (pair_by g other) own
    none_at_all f other o b =
        let u = covered_by other o in
        f u.plan (elem_mem defined u.at u.plan u.is_there) (covered_beats other u b)

    -- By the first listed plan that beats it.
    unbeaten_by : (o : Option ℕ) → First 1 defined own o → (or_zero o ≡ 0) ↔ NoneBeats g own
    unbeaten_by none f = (λ e. none_at_all f, λ h. refl)
    unbeaten_by (some k) (j, e, p, at, b, least) = (
      λ z. absurd (never z),
      λ h. let u = attained p (elem_mem defined j p at) in absurd (h u.0 u.1 (subst (λ (q : Pair). Beats q own) (sym u.2) b)),
    )
      where
        never : k ≡ 0 → ⊥
        never z = omega arith

    sooner_by : (o : Option ℕ) → First 1 defined own o → EndsSooner g posting ↔ NamesSooner g defined posting (or_zero o)
    unfolding nth
    sooner_by none f = (
      λ h. absurd (none_at_all f h.other h.whole (sooner_beats h)),
      λ h. absurd (none-ne-some h.plan h.is_named),
    )
    sooner_by (some k) (j, e, p, at, b, least) = (
      λ h. let u = covered_by h.other h.whole in
          let l = least u.at u.plan u.is_there (covered_beats h.other u (sooner_beats h)) in
          let n = later_ends defined s.promise.rising j u.at p u.plan at u.is_there l in
          record { plan = p; is_named = at_k; ends = omega (arith, n, u.ends, h.ends) },
      λ h. let u = attained p (elem_mem defined j p at) in
          let same : p ≡ h.plan = some-injective p h.plan (sym at_k ∙ h.is_named) in
          record {
            other = u.0;
            whole = u.1;
            ends = omega (arith, ap (λ (q : Pair). q.end) u.2, ap (λ (q : Pair). q.end) same, h.ends);
            lates = subst (λ (q : Pair). q.late ≤ℤ own.late) (sym u.2) b.lates;
          },
    )
      where
        at_k : nth defined k ≡ some p
        at_k = let next : k ≡ suc j = omega arith in ap (nth defined) next ∙ at

    less_late_by : (o : Option ℕ) → First 1 defined own o → LessLate g posting ↔ ListsLess g defined posting (or_zero o)
    less_late_by o f = (
      there o f,
      λ h.
          let u = attained h.plan (nth_mem defined h.number h.plan h.is_listed) in
          record {
            other = u.0;
            whole = u.1;
            ends = omega (arith, ap (λ (q : Pair). q.end) u.2, h.ends);
            lates = subst (λ (q : Pair). q.late <ℤ own.late) (sym u.2) h.lates;
          },
    )
      where
        there : (o : Option ℕ) → First 1 defined own o → LessLate g posting → ListsLess g defined posting (or_zero o)
        there none f h = absurd (none_at_all f h.other h.whole (less_beats h))
        there (some k) (j, e, p, at, b, least) h =
            let u = covered_by h.other h.whole in
            let l = least u.at u.plan u.is_there (covered_beats h.other u (less_beats h)) in
            record {
              number = suc u.at;
              plan = u.plan;
              from_named = (omega arith, omega arith);
              is_listed = unfold nth in u.is_there;
              ends = omega (arith, u.ends, h.ends);
              lates = lt_trans u.lates h.lates;
            }

    judged_defined : Judged g defined posting (said_judged own (or_zero (first_beating 1 defined own)))
    judged_defined =
        let o = first_beating 1 defined own in
        let f = first_beating_lem 1 defined own in
        record { own = refl; unbeaten = unbeaten_by o f; sooner = sooner_by o f; less_late = less_late_by o f }

    said_judged_lem : (q : Pair) (o : Option ℕ) → said_verdict (Ok (judged_of q o)) ≡ said_judged q (or_zero o)
    unfolding judged_of
    said_judged_lem q none = refl
    said_judged_lem q (some k) = refl

    -- Postings: here the rows are 1 to n.
    module _ (n : ℕ) (rows : g.left ≡ count_from 1 n) (o : ReaderOrder g posting) where
      passes : posting_tests (length g.left) posting ≡ Ok tt
      passes = rw (rows, length_count 1 n) ((posted n posting).1 (subst (λ left. OrderOf left posting) rows o))

      pub verdict_front : said_verdict (verdict_outcome g posting) ≡ said_judged own (or_zero (first_beating 1 defined own))
      verdict_front =
          ap said_verdict (verdict_is g posting passes) ∙
          ap (λ (ps : List Pair). said_verdict (Ok (judged_of own (first_beating 1 ps own)))) s.front ∙
          said_judged_lem own (first_beating 1 defined own)

      pub judged : (b : List ℕ) → 2 * length g.left ≤ length b →
          Judged g (listed (told said_list (list_outcome g b))) posting (said_verdict (verdict_outcome g posting))
      judged = on_listed (λ ps. Judged g ps posting (said_verdict (verdict_outcome g posting)))
          (subst (Judged g defined posting) (sym verdict_front) judged_defined)
