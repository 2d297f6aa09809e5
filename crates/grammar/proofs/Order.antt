-- The order in which the conditions of a book are looked at: one look after another, and which of them are behind.
-- Assumes nothing.
use Prim.Native.Nat.{ℕ, ◌+◌, ◌*◌, ◌≤◌}
use native.Mathlib.Omega.{arith}
use mathlib.Core.Bool.{Bool, true, false, cond}
use mathlib.Core.Logic.{inl, inr}
use mathlib.Core.Path.{◌≡◌, refl, ap, subst, sym, ◌∙◌}
use mathlib.Core.List.{List, [], ◌∷◌}
use lib.Dec.{ltb, eqb}
use borrow.Author.Tests.{ltb-true, ltb-false, eqb-true, eqb-false}
use Rattle.grammar.specs.Words.{Wrong, cut, kind, range, twice, full, count, tail, turn, Earlier, FirstWrong}

-- The number whose turn it is.
abbrev first_with : (t : ℕ) → List ℕ → ℕ
first_with t [] = 0
first_with t (n ∷ ns) = cond (eqb t (turn n)) n (first_with t ns)

abbrev number_at : ℕ → ℕ
number_at t = first_with t (1 ∷ 2 ∷ 3 ∷ 4 ∷ 5 ∷ 6 ∷ 7 ∷ [])

-- A number has one of seven turns, and the turn tells the number.
pub record Turned (m : ℕ) : Type 0 where
  pub least : 1 ≤ turn m
  pub most : turn m ≤ 7
  pub back : number_at (turn m) ≡ m

same_turn : (m n : ℕ) → Turned m → Turned n → turn m ≡ turn n → m ≡ n
same_turn m n s t e = sym s.back ∙ ap number_at e ∙ t.back

-- Looks are counted: seven at each word.
abbrev pub look : (number place : ℕ) → ℕ
look n p = 7 * p + turn n

module _ (book : List ℕ) where
  pub turned : {m q : ℕ} → Wrong book m q → Turned m
  turned (cut d) = omega arith
  turned (kind p d l w) = omega arith
  turned (range p d l w) = omega arith
  turned (twice i j d l k h e) = omega arith
  turned (full d l k) = omega arith
  turned (count n d e v) = omega arith
  turned (tail n d e l) = omega arith

  -- Nothing is wrong before look k.
  abbrev pub Clear : ℕ → Type 0
  Clear k = (m q : ℕ) → Wrong book m q → k ≤ look m q

  pub clear_start : Clear 1
  clear_start m q w = omega (arith, turned w)

  -- One look more: the condition n does not hold at p.
  pub clear_on : (n p next : ℕ) → Turned n → next ≤ look n p + 1 → ¬ Wrong book n p → Clear (look n p) → Clear next
  clear_on n p next t l none c m q w = go (eqb (look m q) (look n p)) refl
    where
      go : (b : Bool) → eqb (look m q) (look n p) ≡ b → next ≤ look m q
      go true e =
          let h : look m q ≡ look n p = eqb-true (look m q) (look n p) e in
          let s : q ≡ p = omega (arith, turned w, t) in
          let r : m ≡ n = same_turn m n (turned w) t (omega arith) in
          let v : Wrong book n p = subst (λ (z : ℕ). Wrong book n z) s (subst (λ (z : ℕ). Wrong book z q) r w) in
          absurd (none v)
      go false e = let h = eqb-false (look m q) (look n p) e in omega (arith, c m q w, h)

  -- The condition n holds at p, and nothing is wrong before its look.
  pub first_wrong : (n p : ℕ) → Wrong book n p → Clear (look n p) → FirstWrong book n p
  first_wrong n p w c = record { wrong = w; first = first }
    where
      first : (m q : ℕ) → Wrong book m q → ¬ Earlier m q n p
      first m q v (inl l) = omega (arith, turned v, turned w, c m q v)
      first m q v (inr e) = omega (arith, c m q v)

  -- What is wrong first has nothing wrong before its look; so it is one thing.
  first_clear : {n p : ℕ} → FirstWrong book n p → Clear (look n p)
  first_clear {n} {p} f m q w = go (ltb (look m q) (look n p)) refl (ltb q p) refl
    where
      go : (a : Bool) → ltb (look m q) (look n p) ≡ a → (b : Bool) → ltb q p ≡ b → look n p ≤ look m q
      go false e b d = ltb-false (look m q) (look n p) e
      go true e true d = absurd (f.first m q w (inl (ltb-true q p d)))
      go true e false d =
          let l = ltb-true (look m q) (look n p) e in
          let g = ltb-false q p d in
          absurd (f.first m q w (inr (omega (arith, turned w, turned f.wrong))))

  pub first_same : {m q n p : ℕ} → FirstWrong book m q → FirstWrong book n p → (m ≡ n) × (q ≡ p)
  first_same {m} {q} {n} {p} f g =
      let a = first_clear f n p g.wrong in
      let b = first_clear g m q f.wrong in
      let s = turned f.wrong in
      let t = turned g.wrong in
      (same_turn m n s t (omega arith), omega arith)
