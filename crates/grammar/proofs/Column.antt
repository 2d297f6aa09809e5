-- The numbers of the rows read so far: those of the number words, and whether one stands among them.
-- Assumes nothing.
use Prim.Native.Nat.{ℕ, zero, suc, ◌+◌, ◌*◌, ◌<◌}
use native.Mathlib.Omega.{arith}
use mathlib.Core.Bool.{Bool, true, false, ◌||◌}
use mathlib.Core.Path.{◌≡◌, refl, sym, ◌∙◌}
use mathlib.Core.List.{List, [], ◌∷◌, ◌++◌}
use lib.Dec.{ltb, eqb}
use lib.ListN.{length, get_or, length-append, get_or-append}
use lib.Seq.{get_or_at}
use borrow.Author.Tests.{ltb-true, ltb-false, eqb-true, eqb-false}
use Rattle.schedule.specs.Rows.{stands}
use Rattle.schedule.proofs.Tests.{false_is_true, neither}
use Rattle.grammar.specs.Words.{value_at}

-- A number that stands in a list has a place in it ..
pub stands_where : (v : ℕ) (ns : List ℕ) → stands v ns ≡ true → (j : ℕ) × (j < length ns) × (get_or ns j 0 ≡ v)
unfolding stands
stands_where v [] e = false_is_true e
stands_where v (n ∷ ns) e = go (eqb v n) refl e (stands_where v ns)
  where
    go : (b : Bool) → eqb v n ≡ b → (b || stands v ns) ≡ true →
        (stands v ns ≡ true → (j : ℕ) × (j < length ns) × (get_or ns j 0 ≡ v)) →
        (j : ℕ) × (j < length (n ∷ ns)) × (get_or (n ∷ ns) j 0 ≡ v)
    go true s f later = (zero, omega arith, sym (eqb-true v n s))
    go false s f later = let (j, l, g) = later f in (suc j, omega arith, g)

-- .. and one that does not is at none of them.
pub stands_nowhere : (v : ℕ) (ns : List ℕ) → stands v ns ≡ false → (j : ℕ) → j < length ns → ¬ (get_or ns j 0 ≡ v)
unfolding stands
stands_nowhere v [] e j l g = omega arith
stands_nowhere v (n ∷ ns) e zero l g = eqb-false v n (neither (eqb v n) (stands v ns) e).0 (sym g)
stands_nowhere v (n ∷ ns) e (suc j) l g = stands_nowhere v ns (neither (eqb v n) (stands v ns) e).1 j (omega arith) g

module _ (book : List ℕ) where
  -- The numbers are those of the first number words of the book.
  abbrev pub Column : List ℕ → Type 0
  Column ns = (j : ℕ) → j < length ns → get_or ns j 0 ≡ value_at book (4 * j + 2)

  pub column_none : Column []
  column_none j l = let x : ⊥ = omega arith in absurd x

  pub column_on : (ns : List ℕ) (v : ℕ) → Column ns → v ≡ value_at book (4 * length ns + 2) → Column (ns ++ (v ∷ []))
  column_on ns v h e j l = go (ltb j (length ns)) refl
    where
      go : (b : Bool) → ltb j (length ns) ≡ b → get_or (ns ++ (v ∷ [])) j 0 ≡ value_at book (4 * j + 2)
      go true s = let k = ltb-true j (length ns) s in get_or-append ns (v ∷ []) 0 j k ∙ h j k
      go false s =
          let k : length ns ≡ j = omega (arith, ltb-false j (length ns) s, length-append ns (v ∷ [])) in
          get_or_at ns v [] 0 j k ∙ (rw k at e)
