-- Words as sums of bits: how one number of a set counts in its word, when a word is 0, and the zeros below its lowest bit.
-- Assumes nothing.
use Prim.Native.Nat.{ℕ, zero, suc, ◌+◌, ◌-◌, ◌*◌, ◌/◌, ◌%◌, ◌^◌, ◌≤◌, ◌<◌}
use native.Mathlib.Omega.{arith}
use native.Mathlib.Nat.{pow-suc}
use mathlib.Core.Bool.{Bool, true, false, cond}
use mathlib.Core.Path.{◌≡◌, refl, sym, ap, ◌∙◌, subst}
use lib.Dec.{eqb}
use lib.Count.{count_trailing_zeros, under}
use borrow.Author.Tests.{eq-eqb, ne_eqb, eqb-true, eqb-false}
use Rattle.picks.specs.Bits.{bit, word, mark}

bit_small : (b : Bool) → bit b ≤ 1
bit_small true = omega arith
bit_small false = omega arith

pub word_small : (p : ℕ → Bool) (i m : ℕ) → word p i m < 2 ^ m
unfolding word
word_small p i zero = omega arith
word_small p i (suc m) = omega (arith, bit_small (p i), word_small p (suc i) m, pow-suc 2 m)

pub word_same : (p r : ℕ → Bool) (i m : ℕ) → ((j : ℕ) → i ≤ j → j < i + m → p j ≡ r j) → word p i m ≡ word r i m
unfolding word
word_same p r i zero f = refl
word_same p r i (suc m) f =
    let a = f i (omega arith) (omega arith) in
    let b = word_same p r (suc i) m (λ j g h. f j (omega arith) (omega arith)) in
    λ x. bit (a x) + 2 * b x

pub mark_same : (k : ℕ) (b : Bool) (p : ℕ → Bool) → mark k b p k ≡ b
mark_same k b p = ap (λ (c : Bool). cond c b (p k)) (eq-eqb k k refl)

pub mark_other : (k : ℕ) (b : Bool) (p : ℕ → Bool) (j : ℕ) → (j ≡ k → ⊥) → mark k b p j ≡ p j
mark_other k b p j h = ap (λ (c : Bool). cond c b (p j)) (ne_eqb j k h)

pub mark_out : (k : ℕ) (p : ℕ → Bool) (j : ℕ) → p j ≡ false → mark k false p j ≡ false
mark_out k p j h = go (eqb j k)
  where
    go : (c : Bool) → cond c false (p j) ≡ false
    go true = refl
    go false = h

-- A word with k put in or taken out: the words are equal but for k's own bit.
pub word_split : (p : ℕ → Bool) (b : Bool) (k i m : ℕ) → i ≤ k → k < i + m → word p i m + bit b * 2 ^ (k - i) ≡ word
    (mark k b p) i m + bit (p k) * 2 ^ (k - i)
unfolding word
word_split p b k i zero h g = let z : ⊥ = omega arith in absurd z
word_split p b k i (suc m) h g = go (eqb k i) refl (λ l. word_split p b k (suc i) m l (omega arith))
  where
    Goal : Type 0
    Goal = bit (p i) + 2 * word p (suc i) m + bit b * 2 ^ (k - i) ≡ bit (mark k b p i) + 2 * word (mark k b p) (suc i) m + bit (p k) * 2 ^
        (k - i)

    go : (c : Bool) → eqb k i ≡ c → (suc i ≤ k → word p (suc i) m + bit b * 2 ^ (k - suc i) ≡ word (mark k b p) (suc i) m + bit
        (p k) * 2 ^ (k - suc i)) → Goal
    go true e f =
        let x : k ≡ i = eqb-true k i e in
        let w : word (mark k b p) (suc i) m ≡ word p (suc i) m = word_same (mark k b p) p (suc i) m
        (λ j u v. mark_other k b p j (λ y. omega arith)) in
        let y : mark k b p i ≡ b = ap (mark k b p) (sym x) ∙ mark_same k b p in
        let d : k - i ≡ 0 = omega arith in
        let o : 2 ^ (k - i) ≡ 1 = ap (λ (d : ℕ). 2 ^ d) d in
        let s : p i ≡ p k = ap p (sym x) in
        rw (w, y, o, s) (omega arith)
    go false e f =
        let x : k ≡ i → ⊥ = eqb-false k i e in
        let y : mark k b p i ≡ p i = mark_other k b p i (λ z. x (sym z)) in
        let d : k - i ≡ suc (k - suc i) = omega arith in
        let o : 2 ^ (k - i) ≡ 2 ^ (k - suc i) * 2 = ap (λ (z : ℕ). 2 ^ z) d ∙ pow-suc 2 (k - suc i) in
        rw (y, o) (by_bits (p i) b (p k) (2 ^ (k - suc i)) (word p (suc i) m) (word (mark k b p) (suc i) m) (f (omega arith)))
      where
        by_bits : (a b c : Bool) (o u v : ℕ) → u + bit b * o ≡ v + bit c * o → bit a + 2 * u + bit b * (o * 2) ≡ bit a + 2 * v + bit c *
            (o * 2)
        by_bits a true true o u v q = omega arith
        by_bits a true false o u v q = omega arith
        by_bits a false true o u v q = omega arith
        by_bits a false false o u v q = omega arith

-- A word is 0 where the set has none of its numbers, and only there.
pub word_none : (p : ℕ → Bool) (i m : ℕ) → word p i m ≡ 0 → (j : ℕ) → i ≤ j → j < i + m → p j ≡ false
unfolding word
word_none p i zero e j h g = let z : ⊥ = omega arith in absurd z
word_none p i (suc m) e j h g = go (eqb j i) refl (p i) refl (λ f l. word_none p (suc i) m f j l (omega arith))
  where
    go : (c : Bool) → eqb j i ≡ c → (b : Bool) → p i ≡ b → (word p (suc i) m ≡ 0 → suc i ≤ j → p j ≡ false) → p j ≡ false
    go c d true s f = let x : bit (p i) ≡ 1 = ap bit s in let z : ⊥ = omega arith in absurd z
    go true d false s f = ap p (eqb-true j i d) ∙ s
    go false d false s f = let n = eqb-false j i d in f (omega (arith, e)) (omega arith)

pub word_zero : (p : ℕ → Bool) (i m : ℕ) → ((j : ℕ) → i ≤ j → j < i + m → p j ≡ false) → word p i m ≡ 0
unfolding word
word_zero p i zero f = refl
word_zero p i (suc m) f =
    omega (arith, ap bit (f i (omega arith) (omega arith)), word_zero p (suc i) m (λ j g h. f j (omega arith) (omega arith)))

-- Of the m numbers from i on the first z are not in the set, and the next one is.
pub record Zeros (p : ℕ → Bool) (i m z : ℕ) : Type 0 where
  pub most : z ≤ m
  pub clear : (j : ℕ) → i ≤ j → j < i + z → p j ≡ false
  pub there : z < m → p (i + z) ≡ true

pub zeros : (p : ℕ → Bool) (i m : ℕ) → Zeros p i m (count_trailing_zeros m (word p i m))
unfolding count_trailing_zeros word
zeros p i zero = record {
  most = omega arith;
  clear = λ j g h. let z : ⊥ = omega arith in absurd z;
  there = λ h. let z : ⊥ =
      omega arith in absurd z;
}
zeros p i (suc m) = go (p i) refl (zeros p (suc i) m)
  where
    x : ℕ
    x = word p (suc i) m

    go : (b : Bool) → p i ≡ b → Zeros p (suc i) m (count_trailing_zeros m x) → Zeros p i (suc m)
        (under ((bit (p i) + 2 * x) % 2) (count_trailing_zeros m ((bit (p i) + 2 * x) / 2)))
    go true e r =
        let o : (bit (p i) + 2 * x) % 2 ≡ 1 = omega (arith, ap bit e) in
        subst (λ (d : ℕ). Zeros p i (suc m) (under d (count_trailing_zeros m ((bit (p i) + 2 * x) / 2)))) (sym o)
        (record { most = omega arith; clear = λ j g h. let z : ⊥ = omega arith in absurd z; there = λ h. ap p (omega arith) ∙ e })
    go false e r =
        let o : (bit (p i) + 2 * x) % 2 ≡ 0 = omega (arith, ap bit e) in
        let h : (bit (p i) + 2 * x) / 2 ≡ x = omega (arith, ap bit e) in
        subst (λ (d : ℕ). Zeros p i (suc m) (under d (count_trailing_zeros m ((bit (p i) + 2 * x) / 2)))) (sym o)
        (subst (λ (y : ℕ). Zeros p i (suc m) (suc (count_trailing_zeros m y))) (sym h) (more r))
      where
        more : {z : ℕ} → Zeros p (suc i) m z → Zeros p i (suc m) (suc z)
        more {z} r = record {
          most = omega (arith, r.most);
          clear = λ j g h. first j g h (eqb j i) refl;
          there = λ h. ap p a ∙ r.there (omega arith);
        }
          where
            a : i + suc z ≡ suc i + z
            a = omega arith

            first : (j : ℕ) → i ≤ j → j < i + suc z → (c : Bool) → eqb j i ≡ c → p j ≡ false
            first j g h true d = ap p (eqb-true j i d) ∙ e
            first j g h false d = let n = eqb-false j i d in r.clear j (omega arith) (omega arith)
