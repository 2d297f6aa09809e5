-- Laws of the digits of a word: one more digit, the last one, and when the number is too large.
-- Assumes nothing.
use Prim.Native.Nat.{ℕ, ◌+◌, ◌-◌, ◌*◌, ◌≤◌, ◌<◌}
use native.Mathlib.Numerals.{add-one}
use native.Mathlib.Omega.{arith}
use mathlib.Core.Bool.{Bool, true, false, ◌&&◌}
use mathlib.Core.List.{List, [], ◌∷◌}
use mathlib.Core.Path.{◌≡◌, refl, ap, sym, ◌∙◌}
use lib.ListN.{length, drop, get_or}
use lib.Seq.{drop-cons, drop-length}
use borrow.Author.Tests.{lt-ltb, le-ltb}
use Rattle.std.specs.Prelude.{Ok, Err, IfOk}
use Rattle.text_words.specs.declared.Wrong.TheVariants.{Missing, Strange, Large}
use Rattle.std.specs.List.{list_all}
use Rattle.std.proofs.Math.Decide.{dec_lt}
use Rattle.text_words.specs.Numbers.{Number, is_digit, all_digits, decimal, sized, number_of}

split : (w : List ℕ) (i : ℕ) → i < length w → drop i w ≡ get_or w i 0 ∷ drop (i + 1) w
split w i h = rw add-one (drop-cons w i 0 h)

ended : (w : List ℕ) (i : ℕ) → i ≡ length w → drop i w ≡ []
ended w i e = rw e (drop-length w)

pub digits_all : (w : List ℕ) → all_digits w ≡ list_all is_digit w
unfolding all_digits
digits_all [] = refl
digits_all (b ∷ bs) = ap (λ (t : Bool). is_digit b && t) (digits_all bs)

-- One more digit, d.
pub decimal_step : (v d : ℕ) (w : List ℕ) (i : ℕ) → i < length w → d ≡ get_or w i 0 - 48 → decimal v (drop i w) ≡ decimal (10 * v + d) (drop (i + 1) w)
unfolding decimal
decimal_step v d w i h e = ap (decimal v) (split w i h) ∙ ap (λ (n : ℕ). decimal (10 * v + n) (drop (i + 1) w)) (sym e)

pub decimal_end : (v : ℕ) (w : List ℕ) (i : ℕ) → i ≡ length w → decimal v (drop i w) ≡ v
unfolding decimal
decimal_end v w i e = ap (decimal v) (ended w i e)

-- Further digits never make a number smaller.
pub decimal_grows : (v : ℕ) (bs : List ℕ) → v ≤ decimal v bs
unfolding decimal
decimal_grows v [] = omega arith
decimal_grows v (b ∷ bs) = omega (arith, decimal_grows (10 * v + (b - 48)) bs)

pub sized_small : (v : ℕ) → v < 536870912 → sized v ≡ Ok v
sized_small v h = rw (lt-ltb v 536870912 h, sized)

pub sized_large : (v : ℕ) → 536870912 ≤ v → sized v ≡ Err Large
sized_large v h = rw (le-ltb v 536870912 h, sized)

pub number_none : (w : List ℕ) → length w ≡ 0 → number_of w ≡ Err Missing
unfolding number_of
number_none [] e = refl
number_none (b ∷ bs) e = absurd (omega arith)

pub number_strange : (w : List ℕ) → (length w ≡ 0 → ⊥) → all_digits w ≡ false → number_of w ≡ Err Strange
unfolding number_of
number_strange [] h e = absurd (h refl)
number_strange (b ∷ bs) h e = rw (e, number_of)

pub number_digits : (w : List ℕ) → (length w ≡ 0 → ⊥) → all_digits w ≡ true → number_of w ≡ sized (decimal 0 w)
unfolding number_of
number_digits [] h e = absurd (h refl)
number_digits (b ∷ bs) h e = rw (e, number_of)

sized_bound : (v : ℕ) → Dec (v < 536870912) → IfOk (sized v) (λ n. n < 536870912)
sized_bound v (yes h) = rw (sized_small v h) h
sized_bound v (no h) = rw (sized_large v (omega arith)) tt

tested : (t : Bool) (v : ℕ) → IfOk (elim t as (λ x. Number) [ true ↦ sized v | false ↦ Err Strange ]) (λ n. n < 536870912)
tested true v = sized_bound v (dec_lt v 536870912)
tested false v = tt

-- A number has 29 bits.
pub number_bound : (w : List ℕ) → IfOk (number_of w) (λ n. n < 536870912)
unfolding number_of
number_bound [] = tt
number_bound (b ∷ bs) = tested (all_digits (b ∷ bs)) (decimal 0 (b ∷ bs))
