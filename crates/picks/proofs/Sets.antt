-- Sets in five words: a number put in or taken out, and the least number, as the code finds it.
-- Assumes nothing.
use Prim.Native.Nat.{ℕ, ◌+◌, ◌-◌, ◌*◌, ◌/◌, ◌%◌, ◌^◌, ◌≤◌, ◌<◌}
use native.Mathlib.Omega.{arith}
use native.Mathlib.Nat.{mod-eq_of_lt}
use mathlib.Core.Bool.{Bool, true, false}
use mathlib.Core.Path.{◌≡◌, refl, sym, ap, ◌∙◌, subst}
use mathlib.Core.List.{List}
use lib.Dec.{eqb, ltb}
use lib.Count.{count_trailing_zeros}
use lib.Pow.{pow-lt}
use lib.ListN.{get_or, set, length-set}
use lib.Seq.{get_or-set_same, get_or-set_other}
use borrow.Author.Tests.{eqb-true, eqb-false, ltb-true, ltb-false}
use Rattle.schedule.proofs.Tests.{false_is_true}
use Rattle.picks.specs.Bits.{bit, word, mark, Words, Least}
use Rattle.picks.proofs.Bits.{word_small, word_same, mark_other, mark_out, word_split, word_none, word_zero, Zeros, zeros}

-- The code's power of two.
abbrev power : ℕ → ℕ
power i = 1 * 2 ^ (i % 64) % 18446744073709551616

is_power : (i : ℕ) → power i ≡ 2 ^ (i - 64 * (i / 64))
is_power i =
    let k : i % 64 < 64 = omega arith in
    let l : 2 ^ (i % 64) < 18446744073709551616 = pow-lt {j = 64} k in
    let m : 1 * 2 ^ (i % 64) < 18446744073709551616 = omega (arith, l) in
    let e : i % 64 ≡ i - 64 * (i / 64) = omega arith in
    let o : 1 * 2 ^ (i % 64) ≡ 2 ^ (i % 64) = omega arith in
    mod-eq_of_lt m ∙ (o ∙ ap (λ (x : ℕ). 2 ^ x) e)

module _ {p : ℕ → Bool} {ws : List ℕ} (s : Words p ws) (i : ℕ) (high : i < 320) where
  here : get_or ws (i / 64) 0 ≡ word p (64 * (i / 64)) 64
  here = s.each (i / 64) (omega arith)

  split : (b : Bool) → word p (64 * (i / 64)) 64 + bit b * power i ≡ word (mark i b p) (64 * (i / 64)) 64 + bit (p i) * power i
  split b = rw (is_power i) (word_split p b i (64 * (i / 64)) 64 (omega arith) (omega arith))

  elsewhere : (b : Bool) (q : ℕ) → q < 5 → (q ≡ i / 64 → ⊥) → word p (64 * q) 64 ≡ word (mark i b p) (64 * q) 64
  elsewhere b q h n = word_same p (mark i b p) (64 * q) 64 (λ j u v. sym (mark_other i b p j (λ e. n (omega arith))))

  changed : (b : Bool) (v : ℕ) → v ≡ word (mark i b p) (64 * (i / 64)) 64 → Words (mark i b p) (set ws (i / 64) v)
  changed b v e = record { size = simp length-set s.size; each = λ q h. go q h (eqb q (i / 64)) refl }
    where
      go : (q : ℕ) → q < 5 → (c : Bool) → eqb q (i / 64) ≡ c → get_or (set ws (i / 64) v) q 0 ≡ word (mark i b p) (64 * q) 64
      go q h true d =
          let x : q ≡ i / 64 = eqb-true q (i / 64) d in
          ap (λ (y : ℕ). get_or (set ws (i / 64) v) y 0) x ∙
          (get_or-set_same ws (i / 64) v 0 (omega (arith, s.size)) ∙ (e ∙ ap (λ (y : ℕ). word (mark i b p) (64 * y) 64) (sym x)))
      go q h false d =
          let n = eqb-false q (i / 64) d in
          get_or-set_other ws (i / 64) q v 0 n ∙ (s.each q h ∙ elsewhere b q h n)

  module _ (out : p i ≡ false) where
    put_is : get_or ws (i / 64) 0 + power i ≡ word (mark i true p) (64 * (i / 64)) 64
    put_is = omega (arith, here, rw out at (split true))

    pub put_fits : get_or ws (i / 64) 0 + power i < 18446744073709551616
    put_fits = omega (arith, put_is, word_small (mark i true p) (64 * (i / 64)) 64)

    pub put_words : Words (mark i true p) (set ws (i / 64) (get_or ws (i / 64) 0 + power i))
    put_words = changed true _ put_is

  module _ (on : p i ≡ true) where
    away_is : word (mark i false p) (64 * (i / 64)) 64 + power i ≡ get_or ws (i / 64) 0
    away_is = omega (arith, here, rw on at (split false))

    pub away_fits : power i ≤ get_or ws (i / 64) 0
    away_fits = omega (arith, away_is)

    pub away_words : Words (mark i false p) (set ws (i / 64) (get_or ws (i / 64) 0 - power i))
    away_words = changed false _ (omega (arith, away_is))

-- The search for the least number of a set p: the words before q hold nothing.
abbrev pub Clear : (ℕ → Bool) → ℕ → Type 0
Clear p q = (j : ℕ) → j < 64 * q → p j ≡ false

pub clear_first : (p : ℕ → Bool) → Clear p 0
clear_first p j h = let z : ⊥ = omega arith in absurd z

module _ {p : ℕ → Bool} (q : ℕ) (before : Clear p q) where
  -- All words with nothing in them.
  pub least_none : 5 ≤ q → Least p 0
  least_none e = record {
    below = omega arith;
    none = λ z j h. before j (omega arith);
    some = λ n. absurd (n refl);
  }

  module _ {w : ℕ} (is : w ≡ word p (64 * q) 64) where
    -- Another word with nothing in it.
    pub clear_next : w ≡ 0 → Clear p (q + 1)
    clear_next e j g = go (ltb j (64 * q)) refl
      where
        go : (c : Bool) → ltb j (64 * q) ≡ c → p j ≡ false
        go true d = before j (ltb-true j (64 * q) d)
        go false d = word_none p (64 * q) 64 (sym is ∙ e) j (ltb-false j (64 * q) d) (omega arith)

    -- A word with something in it.
    module _ (h : q < 5) (more : w ≡ 0 → ⊥) where
      abbrev z : ℕ
      z = count_trailing_zeros 64 w

      found : Zeros p (64 * q) 64 z
      found = subst (λ (w : ℕ). Zeros p (64 * q) 64 (count_trailing_zeros 64 w)) (sym is) (zeros p (64 * q) 64)

      small : z < 64
      small = go (ltb z 64) refl
        where
          go : (c : Bool) → ltb z 64 ≡ c → z < 64
          go true d = ltb-true z 64 d
          go false d = absurd (more (is ∙ word_zero p (64 * q) 64 (λ j u v. found.clear j u (omega (arith, ltb-false z 64 d)))))

      pub least_some : p 0 ≡ false → Least p (q * 64 + z)
      least_some f =
          let e : q * 64 + z ≡ 64 * q + z = omega arith in
          let t : p (q * 64 + z) ≡ true = ap p e ∙ found.there small in
          record {
            below = omega (arith, small);
            none = λ y. false_is_true (sym f ∙ (ap p (sym y) ∙ t));
            some = λ n. (t, λ j g. go j g (ltb j (64 * q)) refl);
          }
        where
          go : (j : ℕ) → j < q * 64 + z → (c : Bool) → ltb j (64 * q) ≡ c → p j ≡ false
          go j g true d = before j (ltb-true j (64 * q) d)
          go j g false d = found.clear j (ltb-false j (64 * q) d) (omega arith)

-- The search for the least number after i, where i is the least: that for the least of the set without i, begun at i's word w.
module _ {p : ℕ → Bool} {ws : List ℕ} (s : Words p ws) (i : ℕ) (high : i < 320) (on : p i ≡ true) (first : (j : ℕ) → j < i → p j ≡ false) where
  without : get_or ws (i / 64) 0 - power i ≡ word (mark i false p) (64 * (i / 64)) 64
  without = omega (arith, away_is s i high on)

  before_clear : Clear (mark i false p) (i / 64)
  before_clear j h = mark_out i p j (first j (omega arith))

  -- The next one is in i's word,
  pub after_some : (get_or ws (i / 64) 0 - power i ≡ 0 → ⊥) → p 0 ≡ false → Least (mark i false p)
      (i / 64 * 64 + count_trailing_zeros 64 (get_or ws (i / 64) 0 - power i))
  after_some more f = least_some (i / 64) before_clear without (omega arith) more (mark_out i p 0 f)

  -- or in the words after it, which are those of the set with i.
  pub after_words : (q : ℕ) → i / 64 + 1 ≤ q → q < 5 → get_or ws q 0 ≡ word (mark i false p) (64 * q) 64
  after_words q h g = s.each q g ∙ elsewhere s i high false q g (λ x. omega arith)

  pub after_clear : get_or ws (i / 64) 0 - power i ≡ 0 → Clear (mark i false p) (i / 64 + 1)
  after_clear e = clear_next (i / 64) before_clear without e

  pub after_zero : p 0 ≡ false → mark i false p 0 ≡ false
  after_zero f = mark_out i p 0 f
