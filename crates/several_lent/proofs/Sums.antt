-- Lengths added up one after another, and closing minutes tested; and what is lent amiss, test by test.
-- Assumes nothing.
use Prim.Native.Nat.{ℕ, ◌+◌, ◌≤◌, ◌<◌}
use native.Mathlib.Omega.{arith}
use native.Mathlib.Numerals.{add-one}
use mathlib.Core.Bool.{true, false}
use mathlib.Core.Path.{◌≡◌, refl, ap}
use mathlib.Core.List.{List}
use mathlib.Core.Logic.{◌↔◌}
use lib.Dec.{leb}
use lib.ListN.{length, drop}
use lib.Seq.{drop-cons}
use borrow.Author.Tests.{le-leb, le-ltb, eq-eqb, ne_eqb, leb-true, ltb-false, eqb-true, eqb-false, not-false}
use Rattle.std.proofs.lemmas.List.Recursion.{and_at, and_from_places}
use Rattle.schedule.specs.Limits.{most_opening, most_desks, latest_closing, largest_limit}
use Rattle.schedule.specs.Columns.{at}
use Rattle.schedule.proofs.Tests.{neither}
use Rattle.several_lent.specs.Lent.{total, all_open, lent_amiss, LentRight}

-- From the place d on.
pub total_next : (xs : List ℕ) (d : ℕ) → d < length xs → total (drop d xs) ≡ at xs d + total (drop (d + 1) xs)
unfolding total
total_next xs d h = rw (add-one d) (ap total (drop-cons xs d 0 h))

-- Every closing minute is in its range exactly if each is.
open_each : (cs : List ℕ) → all_open cs ≡ true → (e : ℕ) → e < length cs → at cs e ≤ latest_closing
unfolding all_open
open_each cs h e l =
    leb-true (at cs e) latest_closing (and_at all_open (λ c. leb c latest_closing) refl (λ _ _. refl) cs e 0 l h)

each_open : (cs : List ℕ) → ((e : ℕ) → e < length cs → at cs e ≤ latest_closing) → all_open cs ≡ true
unfolding all_open
each_open cs h =
    and_from_places all_open (λ c. leb c latest_closing) refl (λ _ _. refl) cs 0 (λ e l. le-leb (at cs e) latest_closing (h e l))

-- Nothing is lent amiss exactly if all is right.
pub lent_right : (opening run : ℕ) (lengths closings : List ℕ) (limit : ℕ) →
    (lent_amiss opening run lengths closings limit ≡ false) ↔ LentRight opening run lengths closings limit
lent_right opening run lengths closings limit = (λ h. right h, λ r. not_amiss r)
  where
    right : lent_amiss opening run lengths closings limit ≡ false → LentRight opening run lengths closings limit
    right h = unfold lent_amiss in
        let a = neither _ _ h in
        let b = neither _ _ a.1 in
        let c = neither _ _ b.1 in
        let d = neither _ _ c.1 in
        let e = neither _ _ d.1 in
        let f = neither _ _ e.1 in
        let some_desk = eqb-false (length lengths) 0 c.0 in
        record {
          in_opening = ltb-false most_opening opening a.0;
          in_limit = ltb-false largest_limit limit b.0;
          some_desk = omega arith;
          few_desks = ltb-false most_desks (length lengths) d.0;
          even = eqb-true (length closings) (length lengths) (not-false _ e.0);
          in_closing = open_each closings (not-false _ f.0);
          adds_up = eqb-true (total lengths) run (not-false _ f.1);
        }

    not_amiss : LentRight opening run lengths closings limit → lent_amiss opening run lengths closings limit ≡ false
    not_amiss r = unfold lent_amiss in
        simp (
          le-ltb most_opening opening r.in_opening,
          le-ltb largest_limit limit r.in_limit,
          ne_eqb (length lengths) 0 (λ z. omega (arith, r.some_desk)),
          le-ltb most_desks (length lengths) r.few_desks,
          eq-eqb (length closings) (length lengths) r.even,
          each_open closings r.in_closing,
          eq-eqb (total lengths) run r.adds_up,
        )
