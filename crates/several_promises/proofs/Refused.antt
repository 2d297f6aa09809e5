-- How the call for several desks is refused, exactly. Assumes nothing.
use Prim.Native.Nat.{ℕ, ◌+◌, ◌≤◌}
use native.Mathlib.Omega.{arith}
use native.Mathlib.Decide.{dec_le}
use mathlib.Core.Bool.{Bool, true, false}
use mathlib.Core.Path.{◌≡◌, refl, sym, ap, ◌∙◌, subst}
use mathlib.Core.List.{List}
use mathlib.Core.Logic.{◌↔◌}
use mathlib.Core.Option.{Option, none, some}
use lib.ListN.{length}
use Rattle.std.specs.Prelude.{Err}
use Rattle.schedule.specs.declared.Profile.TheVariants.{Ordering}
use Rattle.schedule.specs.Rows.{Day}
use Rattle.schedule.proofs.Tests.{false_is_true}
use Rattle.refusals.specs.Refusals.{by_range, by_narrow, by_overtime}
use Rattle.readers.specs.Reads.{ordering_rule}
use Rattle.readers.proofs.Told.{told_reads}
use Rattle.outcomes.specs.Planning.{Outcome, gives}
use Rattle.promises.proofs.Accepted.{takes, book_refused}
use Rattle.promises.proofs.Numbers.{ordering_numbered}
use Rattle.overtime.specs.Choices.{Chosen, best_choice}
use Rattle.several_lent.specs.Lent.{books_of, lent_amiss}
use Rattle.several_books.specs.Held.{refusal_of}
use Rattle.several_books.specs.Days.{DesksRead, refused_at, days, read_desks, rows_of}
use Rattle.several_lent.proofs.Sums.{lent_right}
use Rattle.several.specs.Calls.{SeveralAnswer, desks_of, days_outcome, several_call}
use Rattle.several.specs.Answers.{SaidOfDesks, said_no_at}
use Rattle.several.proofs.Outcomes.{days_narrow, days_none, days_some, call_amiss, call_refused}
use Rattle.several_promises.specs.Table.{several, RefusesAt, book_at, TakesAll, Right, SeveralTurned, lent, book, narrow, overtime}
use Rattle.several_promises.proofs.Books.{days_taken, refused_at_lem, at_refused}
use Rattle.several_promises.proofs.Answered.{promise, call_of_days, told_as}

module _ (opening : ℕ) (books lengths closings : List ℕ) (limit : ℕ) (b : List ℕ) where
  abbrev o : Outcome SaidOfDesks
  o = several opening books lengths closings limit b

  abbrev call : Outcome SeveralAnswer
  call = several_call opening books lengths closings limit b

  abbrev Turned : (n p d : ℕ) → Type 0
  Turned = SeveralTurned opening books lengths closings limit b

  -- A refusal that the call gives is the one that it tells.
  said_no_lem : (n p d : ℕ) → call ≡ gives (Err (refusal_of n p d)) b → o ≡ gives (said_no_at n p d) b
  said_no_lem n p d e = told_as opening books lengths closings limit b _ e

  refuses : (n p d : ℕ) → 1 ≤ n → call ≡ gives (Err (refusal_of n p d)) b → RefusesAt o.answer n p d
  refuses n p d low e =
      let s = said_no_lem n p d e in (
        (low, ap (λ (x : Outcome SaidOfDesks). x.answer.said.number) s, ap (λ (x : Outcome SaidOfDesks). x.answer.said.place) s),
        ap (λ (x : Outcome SaidOfDesks). x.answer.desk) s,
      )

  told_so : {n p d : ℕ} (m q k : ℕ) → RefusesAt o.answer n p d → call ≡ gives (Err (refusal_of m q k)) b → Turned m q k →
      Turned n p d
  told_so {n} {p} {d} m q k h e t =
      let s = said_no_lem m q k e in
      let x : m ≡ n = sym (ap (λ (x : Outcome SaidOfDesks). x.answer.said.number) s) ∙ h.0.1 in
      let y : q ≡ p = sym (ap (λ (x : Outcome SaidOfDesks). x.answer.said.place) s) ∙ h.0.2 in
      let z : k ≡ d = sym (ap (λ (x : Outcome SaidOfDesks). x.answer.desk) s) ∙ h.1 in
      subst (λ (i : ℕ). Turned i p d) x (subst (λ (i : ℕ). Turned m i d) y (subst (Turned m q) z t))

  abbrev amiss : Bool
  amiss = lent_amiss opening (length books) lengths closings limit

  abbrev read : DesksRead
  read = read_desks (ordering_rule opening) 1 (books_of lengths books)

  -- What is lent is right.
  module _ (right : Right opening books lengths closings limit b) where
    not_amiss : amiss ≡ false
    not_amiss = (lent_right opening (length books) lengths closings limit).1 right

    by_days : (ds : List Day) → TakesAll opening books lengths ds → {n p d : ℕ} → RefusesAt o.answer n p d → Turned n p d
    by_days ds t {n} {p} {d} h = room (dec_le (rows_of ds) (length b))
      where
        is_days : call ≡ days_outcome opening closings limit b ds
        is_days = call_of_days opening books lengths closings limit b ds right t

        best : rows_of ds ≤ length b → (x : Option Chosen) → best_choice limit closings (desks_of opening ds) ≡ x → Turned n p d
        best wide none e =
            told_so by_overtime 0 0 h (is_days ∙ days_none opening closings limit b ds wide e)
            (overtime right ds t wide ((promise opening books lengths closings limit b ds right t).none_keep.0 e))
        best wide (some a) e =
            let s = told_as opening books lengths closings limit b _ (is_days ∙ days_some opening closings limit b ds wide a e) in
            let z : ⊥ = omega (arith, h.0.0, h.0.1, ap {B = ℕ} (λ (x : Outcome SaidOfDesks). x.answer.said.number) s) in
            absurd z

        room : Dec (rows_of ds ≤ length b) → Turned n p d
        room (yes wide) = best wide (best_choice limit closings (desks_of opening ds)) refl
        room (no l) =
            told_so by_narrow 0 0 h (is_days ∙ days_narrow opening closings limit b ds (omega arith)) (narrow right ds t (omega arith))

    by_books : (x : DesksRead) → read ≡ x → {n p d : ℕ} → RefusesAt o.answer n p d → Turned n p d
    by_books (days ds) e h = by_days ds ((days_taken opening books lengths ds).0 e) h
    by_books (refused_at m q k) e h =
        let u = refused_at_lem opening books lengths m q k e in
        let r = u.2 in
        told_so m q k h (call_refused opening books lengths closings limit b not_amiss m q k e)
        (subst (Turned m q) (sym u.1) (book right m q u.0 r.inside
        (λ i l. let v = r.before i l in (v.0, (takes (ordering_rule opening) (book_at lengths books i) v.0).0 v.1))
        ((book_refused Ordering (book_at lengths books u.0) m q).0
        (sym (told_reads (ordering_rule opening) (book_at lengths books u.0) right.in_opening) ∙ r.here))))

  by_lent : (x : Bool) → amiss ≡ x → {n p d : ℕ} → RefusesAt o.answer n p d → Turned n p d
  by_lent true e h =
      told_so by_range 0 0 h (call_amiss opening books lengths closings limit b e)
      (lent (λ r. false_is_true (sym ((lent_right opening (length books) lengths closings limit).1 r) ∙ e)))
  by_lent false e h = by_books ((lent_right opening (length books) lengths closings limit).0 e) read refl h

  is_refused : (n p d : ℕ) → Turned n p d → RefusesAt o.answer n p d
  is_refused _ _ _ (lent w) = refuses by_range 0 0 (omega arith) (call_amiss opening books lengths closings limit b (wrong amiss refl))
    where
      wrong : (x : Bool) → amiss ≡ x → amiss ≡ true
      wrong true e = e
      wrong false e = absurd (w ((lent_right opening (length books) lengths closings limit).0 e))
  is_refused _ _ _ (book right n p e l before r) =
      refuses n p (e + 1) (ordering_numbered r).0
      (call_refused opening books lengths closings limit b (not_amiss right) n p (e + 1) (at_refused opening books lengths n p e (record {
        inside = l;
        before = λ i h. let v = before i h in (v.0, (takes (ordering_rule opening) (book_at lengths books i) v.0).1 v.1);
        here = told_reads (ordering_rule opening) (book_at lengths books e) right.in_opening ∙
            (book_refused Ordering (book_at lengths books e) n p).1 r;
      })))
  is_refused _ _ _ (narrow right ds t l) =
      refuses by_narrow 0 0 (omega arith)
      (call_of_days opening books lengths closings limit b ds right t ∙ days_narrow opening closings limit b ds l)
  is_refused _ _ _ (overtime right ds t wide n) =
      refuses by_overtime 0 0 (omega arith)
      (call_of_days opening books lengths closings limit b ds right t ∙ days_none opening closings limit b ds wide
      ((promise opening books lengths closings limit b ds right t).none_keep.1 n))

  pub exactly : (n p d : ℕ) → RefusesAt o.answer n p d ↔ Turned n p d
  exactly n p d = (λ h. by_lent amiss refl h, λ t. is_refused n p d t)
