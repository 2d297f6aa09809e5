-- The end word: where it stands, and what the tests of count and tail leave.
-- Assumes nothing.
use Prim.Native.Nat.{ℕ, ◌+◌, ◌-◌, ◌*◌, ◌<◌}
use native.Mathlib.Omega.{arith}
use mathlib.Core.Bool.{Bool, true, false, not, ◌&&◌}
use mathlib.Core.Path.{◌≡◌, refl, ap, sym, ◌∙◌, subst}
use mathlib.Core.List.{List}
use lib.Dec.{ltb, eqb}
use lib.ListN.{length, drop, length-drop}
use borrow.Author.Tests.{ltb-true, ltb-false, lt-ltb, eqb-true, eqb-false, eq-eqb, not-true, not-false}
use Rattle.schedule.proofs.Tests.{false_is_true}
use Rattle.refusals.specs.Refusals.{by_count, by_tail}
use Rattle.words.specs.Words.{word, kind as kind_of, value as value_of}
use Rattle.row_reader.proofs.Tests.{and_left, and_right}
use Rattle.book.specs.Rows.{end_stands, end_tests}
use Rattle.grammar.specs.Words.{Wants, Ranged, kind_at, EndsAfter, Due, Wrong, turn, FirstWrong, cut, kind, range, twice, full, count, tail}
use Rattle.grammar.proofs.Order.{look, turned, Clear, first_wrong}
use Rattle.grammar.proofs.Conditions.{past_cut, past_kind, past_full, past_range, past_twice, is_count, past_count, past_tail}
use Rattle.grammar.proofs.Tests.{Leaves, then_leaves, if_leaves, At, same_word}

-- What is still wrong after the end word: a tail.
record IsTail (book : List ℕ) (n m q : ℕ) : Type 0 where
  pub number : m ≡ by_tail
  pub place : q ≡ 4 * n + 3
  pub inside : q < length book

module _ (book : List ℕ) (n : ℕ) (ends : EndsAfter book n) where
  after_end : {m q : ℕ} → Wrong book m q → 4 * n + 2 < q → IsTail book n m q
  after_end (cut d) l = absurd (d n l ends)
  after_end (kind p d i w) l = absurd (d n l ends)
  after_end (range p d i w) l = absurd (d n l ends)
  after_end (twice i j d o k h e) l = absurd (d n l ends)
  after_end (full d i k) l = absurd (d n l ends)
  after_end (count k d e v) l = absurd (d n l ends)
  after_end (tail k d e i) l = go (ltb n k) refl
    where
      go : (b : Bool) → ltb n k ≡ b → IsTail book n by_tail (4 * k + 3)
      go true s = let o = ltb-true n k s in absurd (d n (omega arith) ends)
      go false s = let o = ltb-false n k s in record { number = refl; place = omega arith; inside = i }

module _ (book : List ℕ) (n place : ℕ) (is_place : place ≡ 4 * n + 2) where
  is_word : word (drop place book) 0 ≡ word book place
  is_word = same_word book place 0 ∙ ap (word book) (omega arith)

  -- The end word stands here, or it does not.
  pub end_stands_lem : end_stands n (drop place book) ≡ true → EndsAfter book n
  unfolding end_stands
  end_stands_lem e =
      let ws = drop place book in
      let seven = eqb (kind_of (word ws 0)) 7 in
      let f = and_right (ltb 0 n) (ltb 0 (length ws) && seven) e in
      let k = sym (ap kind_of is_word) ∙ eqb-true (kind_of (word ws 0)) 7 (and_right (ltb 0 (length ws)) seven f) in
      record {
        some_row = ltb-true 0 n (and_left (ltb 0 n) (ltb 0 (length ws) && seven) e);
        inside = omega (arith, length-drop place book, ltb-true 0 (length ws) (and_left (ltb 0 (length ws)) seven f));
        is_end = rw is_place at k;
      }

  pub no_end_stands : end_stands n (drop place book) ≡ false → ¬ EndsAfter book n
  unfolding end_stands
  no_end_stands e h =
      let ws = drop place book in
      let some = lt-ltb 0 n h.some_row in
      let inside = lt-ltb 0 (length ws) (omega (arith, length-drop place book, h.inside)) in
      let k : kind_of (word ws 0) ≡ 7 = ap kind_of is_word ∙ ap (kind_at book) is_place ∙ h.is_end in
      false_is_true (sym e ∙ rw (some, inside, eq-eqb (kind_of (word ws 0)) 7 k))

  module _ (at : At book place) (ends : EndsAfter book n) where
    is_end : kind_at book place ≡ 7
    is_end = ap (kind_at book) is_place ∙ ends.is_end

    clear : Clear book (look by_count place)
    clear =
        let w : Wants place (kind_at book place) = Wants.end (n - 1) (omega (arith, ends.some_row)) is_end in
        past_twice book place (λ i j p k. let x : ⊥ = omega (arith, is_end) in absurd x)
        (past_range book place (Ranged.end is_end)
        (past_full book place (λ p k. omega (arith, is_end))
        (past_kind book place w (past_cut book place (omega (arith, ends.inside)) at.clear))))

    pub end_leaves : Leaves book ((m q : ℕ) → ¬ Wrong book m q) (end_tests n place (drop place book))
    unfolding end_tests
    end_leaves = then_leaves book (if_leaves book _ differs tells) (λ c. if_leaves book _ (follows c) (stops c))
      where
        differs : not (eqb (value_of (word (drop place book) 0)) n) ≡ true → FirstWrong book by_count place
        differs e =
            let v = eqb-false (value_of (word (drop place book) 0)) n (not-true _ e) in
            first_wrong book by_count place (is_count book n is_place at.due ends (λ s. v (ap value_of is_word ∙ s))) clear

        -- The count is told, so what is wrong is a tail.
        tells : not (eqb (value_of (word (drop place book) 0)) n) ≡ false → (m q : ℕ) → Wrong book m q → IsTail book n m q
        tells e m q w =
            let v = sym (ap value_of is_word) ∙ eqb-true (value_of (word (drop place book) 0)) n (not-false _ e) in
            let c = past_count book place (λ k p h. v ∙ omega arith) clear in
            after_end book n ends w (omega (arith, past_tail book place at.due c m q w, turned book w))

        follows : ((m q : ℕ) → Wrong book m q → IsTail book n m q) → ltb 1 (length (drop place book)) ≡ true →
            FirstWrong book by_tail (place + 1)
        follows c e =
            let l = ltb-true 1 (length (drop place book)) e in
            let p : 4 * n + 3 ≡ place + 1 = omega arith in
            let due = subst (λ (z : ℕ). Due book z) is_place at.due in
            let w = tail n due ends (omega (arith, length-drop place book)) in
            subst (FirstWrong book by_tail) p (first_wrong book by_tail (4 * n + 3) w (λ m q v. let t = c m q v in
            omega (arith, ap turn t.number)))

        stops : ((m q : ℕ) → Wrong book m q → IsTail book n m q) → ltb 1 (length (drop place book)) ≡ false → (m q : ℕ) → ¬ Wrong book m q
        stops c e m q w = omega (arith, c m q w, length-drop place book, ltb-false 1 (length (drop place book)) e, ends.inside)
