-- Rows whose numbers stand in none of the rows read so far: one row read more.
-- Assumes nothing.
use Prim.Native.Nat.{ℕ}
use mathlib.Core.Bool.{Bool, true, false, ◌||◌, or-false, or_assoc}
use mathlib.Core.Path.{◌≡◌, refl, sym, ◌∙◌}
use mathlib.Core.List.Memᴰ
use mathlib.Core.List.{List, [], ◌∷◌, ◌++◌, Memᴰ}
use mathlib.Core.Logic.{◌⊎◌, inl, inr}
use lib.Dec.{eqb}
use borrow.Author.Tests.{eqb-false, ne_eqb}
use Rattle.schedule.specs.declared.Row.{Row}
use Rattle.schedule.specs.Rows.{stands}
use Rattle.refusals.proofs.Tests.{never}
use Rattle.row_reader.specs.RowWords.{numbers_of}
use Rattle.grammar.specs.Books.{Entry, NumbersDiffer}

abbrev pub New : List Row → List Entry → Type 0
New rows es = (e : Entry) → Memᴰ e es → stands e.number (numbers_of rows) ≡ false

stands_behind : (n : ℕ) (rows : List Row) (r : Row) →
    stands n (numbers_of (rows ++ (r ∷ []))) ≡ (stands n (numbers_of rows) || eqb n r.number)
unfolding stands
stands_behind n [] r = or-false (eqb n r.number)
stands_behind n (q ∷ qs) r = rw (stands_behind n qs r) (sym (or_assoc (eqb n q.number) (stands n (numbers_of qs)) (eqb n r.number)))

or_left : (a b : Bool) → (a || b) ≡ false → a ≡ false
or_left true b e = e
or_left false b e = refl

or_right : (a b : Bool) → (a || b) ≡ false → b ≡ false
or_right true b e = never (cc)
or_right false b e = e

-- No number stands in no rows.
pub new_start : (es : List Entry) → New [] es
unfolding stands
new_start es e m = refl

module _ (rows : List Row) (r : Row) (e : Entry) (es : List Entry) (same : r.number ≡ e.number) where
  -- The numbers after a row that is read: new, and other than its own.
  pub new_on : New rows (e ∷ es) → NumbersDiffer (e ∷ es) → New (rows ++ (r ∷ [])) es
  new_on new differ f m =
      let other : eqb f.number r.number ≡ false = ne_eqb f.number r.number (λ p. differ.0 f m (sym same ∙ sym p)) in
      stands_behind f.number rows r ∙ rw (new f (Memᴰ.tail m), other) refl

  -- .. and back.
  pub new_back : stands e.number (numbers_of rows) ≡ false → New (rows ++ (r ∷ [])) es → New rows (e ∷ es)
  new_back own new f m = go (Memᴰ.cases_cons m)
    where
      go : (f ≡ e) ⊎ Memᴰ f es → stands f.number (numbers_of rows) ≡ false
      go (inl p) = rw p own
      go (inr k) = or_left _ (eqb f.number r.number) (sym (stands_behind f.number rows r) ∙ new f k)

  pub differ_back : New (rows ++ (r ∷ [])) es → NumbersDiffer es → NumbersDiffer (e ∷ es)
  differ_back new differ = (
    λ f m p. eqb-false f.number r.number
        (or_right (stands f.number (numbers_of rows)) _ (sym (stands_behind f.number rows r) ∙ new f m)) (sym p ∙ sym same),
    differ,
  )
