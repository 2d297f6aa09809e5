-- The seven conditions at one word, in turn: each is past where it does not hold.
-- Assumes nothing.
use Prim.Native.Nat.{ℕ, ◌+◌, ◌*◌, ◌<◌}
use native.Mathlib.Omega.{arith}
use mathlib.Core.Path.{◌≡◌, refl, sym, subst}
use mathlib.Core.List.{List}
use lib.ListN.{length}
use Rattle.schedule.specs.Limits.{most_rows}
use Rattle.refusals.specs.Refusals.{by_cut, by_kind, by_range, by_twice, by_full, by_count, by_tail}
use Rattle.grammar.specs.Words.{Wants, Ranged, kind_at, value_at, EndsAfter, Due, Wrong, cut, kind, range, twice, full, count, tail}
use Rattle.grammar.proofs.Order.{look, Clear, clear_on}

module _ (book : List ℕ) where
  -- The book stops at p.
  pub is_cut : {p : ℕ} → p ≡ length book → Due book p → Wrong book by_cut p
  is_cut e = subst (λ (z : ℕ). Due book z → Wrong book by_cut z) (sym e) cut

  no_cut : {p : ℕ} → p < length book → ¬ Wrong book by_cut p
  no_cut l (cut d) = omega arith

  pub past_cut : (p : ℕ) → p < length book → Clear book (look by_cut p) → Clear book (look by_kind p)
  past_cut p l = clear_on book by_cut p (look by_kind p) (omega arith) (omega arith) (no_cut l)

  no_kind : {p : ℕ} → Wants p (kind_at book p) → ¬ Wrong book by_kind p
  no_kind h (kind p d l n) = n h

  pub past_kind : (p : ℕ) → Wants p (kind_at book p) → Clear book (look by_kind p) → Clear book (look by_full p)
  past_kind p h = clear_on book by_kind p (look by_full p) (omega arith) (omega arith) (no_kind h)

  -- Full: a number word opens row 257 here; or none does.
  pub is_full : {p : ℕ} → p ≡ 4 * most_rows + 2 → Due book p → p < length book → kind_at book p ≡ 3 → Wrong book by_full p
  is_full e = subst (λ (z : ℕ). Due book z → z < length book → kind_at book z ≡ 3 → Wrong book by_full z) (sym e) full

  abbrev NotFull : ℕ → Type 0
  NotFull p = p ≡ 4 * most_rows + 2 → ¬ (kind_at book p ≡ 3)

  no_full : {p : ℕ} → NotFull p → ¬ Wrong book by_full p
  no_full h (full d l k) = h refl k

  pub past_full : (p : ℕ) → NotFull p → Clear book (look by_full p) → Clear book (look by_range p)
  past_full p h = clear_on book by_full p (look by_range p) (omega arith) (omega arith) (no_full h)

  no_range : {p : ℕ} → Ranged (kind_at book p) (value_at book p) → ¬ Wrong book by_range p
  no_range h (range p d l n) = n h

  pub past_range : (p : ℕ) → Ranged (kind_at book p) (value_at book p) → Clear book (look by_range p) → Clear book (look by_twice p)
  past_range p h = clear_on book by_range p (look by_twice p) (omega arith) (omega arith) (no_range h)

  -- Twice: a row before has the number of the number word here; or none has.
  pub is_twice : {p : ℕ} (i j : ℕ) → p ≡ 4 * j + 2 → Due book p → p < length book → kind_at book p ≡ 3 → i < j →
      value_at book (4 * i + 2) ≡ value_at book p → Wrong book by_twice p
  is_twice i j e = subst
      (λ (z : ℕ). Due book z → z < length book → kind_at book z ≡ 3 → i < j → value_at book (4 * i + 2) ≡ value_at book z →
      Wrong book by_twice z) (sym e) (twice i j)

  abbrev NotTwice : ℕ → Type 0
  NotTwice p = (i j : ℕ) → p ≡ 4 * j + 2 → kind_at book p ≡ 3 → i < j → ¬ (value_at book (4 * i + 2) ≡ value_at book p)

  no_twice : {p : ℕ} → NotTwice p → ¬ Wrong book by_twice p
  no_twice h (twice i j d l k o e) = h i j refl k o e

  pub past_twice : (p : ℕ) → NotTwice p → Clear book (look by_twice p) → Clear book (look by_count p)
  past_twice p h = clear_on book by_twice p (look by_count p) (omega arith) (omega arith) (no_twice h)

  -- Count: an end word here differs from the rows read; or tells them.
  pub is_count : {p : ℕ} (n : ℕ) → p ≡ 4 * n + 2 → Due book p → EndsAfter book n → ¬ (value_at book p ≡ n) → Wrong book by_count p
  is_count n e = subst (λ (z : ℕ). Due book z → EndsAfter book n → ¬ (value_at book z ≡ n) → Wrong book by_count z) (sym e) (count n)

  abbrev NotCount : ℕ → Type 0
  NotCount p = (n : ℕ) → p ≡ 4 * n + 2 → EndsAfter book n → value_at book p ≡ n

  no_count : {p : ℕ} → NotCount p → ¬ Wrong book by_count p
  no_count h (count n d e v) = v (h n refl e)

  pub past_count : (p : ℕ) → NotCount p → Clear book (look by_count p) → Clear book (look by_tail p)
  past_count p h = clear_on book by_count p (look by_tail p) (omega arith) (omega arith) (no_count h)

  -- Tail: no word follows an end word.
  no_tail : {p : ℕ} → Due book p → ¬ Wrong book by_tail p
  no_tail h (tail n d e l) = h n (omega arith) e

  pub past_tail : (p : ℕ) → Due book p → Clear book (look by_tail p) → Clear book (look by_cut (p + 1))
  past_tail p h = clear_on book by_tail p (look by_cut (p + 1)) (omega arith) (omega arith) (no_tail h)
