-- Cut, kind and range at a word that is due, and the word after it.
-- Assumes nothing.
use Prim.Native.Nat.{ℕ, ◌+◌, ◌*◌, ◌≤◌, ◌<◌}
use native.Mathlib.Omega.{arith}
use mathlib.Core.Bool.{Bool, true, false, ◌||◌}
use mathlib.Core.Path.{◌≡◌, refl, ap, sym, ◌∙◌, subst}
use mathlib.Core.List.{List}
use lib.Dec.{ltb, eqb}
use lib.ListN.{length, drop}
use borrow.Author.Tests.{ltb-true, ltb-false, eqb-true, eqb-false}
use Rattle.schedule.proofs.Tests.{neither}
use Rattle.refusals.specs.Refusals.{by_range, by_count}
use Rattle.words.specs.Words.{word, value as value_of}
use Rattle.words.specs.WordTests.{outside, word_tests}
use Rattle.grammar.specs.Words.{Ranged, kind_at, value_at, EndsAfter, Due, range, FirstWrong}
use Rattle.grammar.proofs.Order.{look, Clear, first_wrong}
use Rattle.grammar.proofs.Conditions.{past_full, past_range, past_twice, past_count, past_tail}
use Rattle.grammar.proofs.Asked.{Ranges}
use Rattle.grammar.proofs.Tests.{Leaves, then_leaves, if_leaves, At, Kinded, Asks, same_word, kind_leaves}

-- A value outside of a range is below or above it.
out : (v lo hi : ℕ) → outside v lo hi ≡ true → ¬ ((lo ≤ v) × (v ≤ hi))
out v lo hi e h = go (ltb v lo) (ltb hi v) refl refl e
  where
    go : (a b : Bool) → ltb v lo ≡ a → ltb hi v ≡ b → (a || b) ≡ true → ⊥
    go true b s t f = omega (arith, ltb-true v lo s)
    go false b s t f = omega (arith, ltb-true hi v (t ∙ f))

module _ (book : List ℕ) where
  -- No end word stands at p, so the next word is due; and nothing is wrong before it.
  pub word_done : (p next : ℕ) → next ≡ p + 1 → Due book p → p < length book → ¬ (kind_at book p ≡ 7) → Clear book (look by_count p) →
      At book next
  word_done p next s d l k c =
      subst (At book) (sym s) (record { clear = past_tail book p d (past_count book p none c); due = due; reached = omega arith })
    where
      here : (n : ℕ) → p ≡ 4 * n + 2 → ¬ EndsAfter book n
      here n e h = k (ap (kind_at book) e ∙ h.is_end)

      none : (n : ℕ) → p ≡ 4 * n + 2 → EndsAfter book n → value_at book p ≡ n
      none n e h = absurd (here n e h)

      due : Due book (p + 1)
      due n o h = go (eqb p (4 * n + 2)) refl
        where
          go : (b : Bool) → eqb p (4 * n + 2) ≡ b → ⊥
          go true e = here n (eqb-true p (4 * n + 2) e) h
          go false e = let m = eqb-false p (4 * n + 2) e in d n (omega arith) h

  pub word_leaves : (k lo hi place i next : ℕ) → Ranges k lo hi → next ≡ place + i + 1 → At book (place + i) → Asks book (place + i) k →
      Leaves book (At book next) (word_tests k lo hi place (drop place book) i)
  unfolding word_tests
  word_leaves k lo hi place i next r s at asks =
      then_leaves book (kind_leaves book k place i at asks) (λ h. if_leaves book _ (beyond h) (fits h))
    where
      is_value : value_of (word (drop place book) i) ≡ value_at book (place + i)
      is_value = ap value_of (same_word book place i)

      clear : Kinded book (place + i) k → Clear book (look by_range (place + i))
      clear h = past_full book (place + i) (λ e g. r.no_number (sym h.is ∙ g)) h.clear

      beyond : Kinded book (place + i) k → outside (value_of (word (drop place book) i)) lo hi ≡ true → FirstWrong book by_range (place + i)
      beyond h e =
          let o = out (value_at book (place + i)) lo hi (rw is_value at e) in
          let w = range (place + i) h.due h.inside (λ g. o (r.within _ (rw h.is at g))) in
          first_wrong book by_range (place + i) w (clear h)

      fits : Kinded book (place + i) k → outside (value_of (word (drop place book) i)) lo hi ≡ false → At book next
      fits h e =
          let v = value_at book (place + i) in
          let o = neither (ltb v lo) (ltb hi v) (rw is_value at e) in
          let g : Ranged (kind_at book (place + i)) v = rw h.is (r.ranged v (ltb-false v lo o.0) (ltb-false hi v o.1)) in
          let c = past_twice book (place + i) (λ a j q u. absurd (r.no_number (sym h.is ∙ u)))
          (past_range book (place + i) g (clear h)) in
          word_done (place + i) next s h.due h.inside (λ u. r.no_end (sym h.is ∙ u)) c
