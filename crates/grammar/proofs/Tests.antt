-- The tests of a word: what they leave, refused or passed.
-- Assumes nothing.
use Prim.Native.Nat.{ℕ, ◌+◌, ◌≤◌, ◌<◌}
use native.Mathlib.Omega.{arith}
use mathlib.Core.Bool.{Bool, true, false, not}
use mathlib.Core.Path.{◌≡◌, refl, ap, ◌∙◌, sym, subst}
use mathlib.Core.List.{List}
use lib.Dec.{leb, eqb}
use lib.ListN.{length, drop, length-drop}
use lib.Seq.{get_or-drop}
use borrow.Author.Tests.{leb-true, leb-false, eqb-true, eqb-false, not-true, not-false}
use Rattle.std.specs.Prelude.{Ok, Err}
use Rattle.refusals.specs.Tests.{Tested, refusal_at, refuse_if, ◌then◌}
use Rattle.refusals.specs.Refusals.{by_cut, by_kind, by_full}
use Rattle.words.specs.Words.{word, kind as kind_of}
use Rattle.words.specs.WordTests.{kind_tests}
use Rattle.grammar.specs.Words.{Wants, kind_at, Due, kind, FirstWrong}
use Rattle.grammar.proofs.Order.{look, Clear, first_wrong}
use Rattle.grammar.proofs.Conditions.{is_cut, past_cut, past_kind}

module _ (book : List ℕ) where
  -- What a test leaves: passed, P; refused, it tells what is wrong first.
  pub data Leaves (P : Type 0) : Tested → Type 0 where
    passes : P → Leaves P (Ok tt)
    refuses : (n p : ℕ) → FirstWrong book n p → Leaves P (Err (refusal_at n p))

  pub then_leaves : {P Q : Type 0} {a b : Tested} → Leaves P a → (P → Leaves Q b) → Leaves Q (a then b)
  unfolding ◌then◌
  then_leaves (passes h) f = f h
  then_leaves (refuses n p w) f = refuses n p w

  pub leaves_so : {P Q : Type 0} {a : Tested} → Leaves P a → (P → Q) → Leaves Q a
  leaves_so (passes h) f = passes (f h)
  leaves_so (refuses n p w) f = refuses n p w

  pub if_leaves : {P : Type 0} (t : Bool) {n p : ℕ} → (t ≡ true → FirstWrong book n p) → (t ≡ false → P) → Leaves P (refuse_if t n p)
  unfolding refuse_if
  if_leaves true f g = refuses _ _ (f refl)
  if_leaves false f g = passes (g refl)

  -- The word at p is due, and nothing is wrong before it.
  pub record At (p : ℕ) : Type 0 where
    pub clear : Clear book (look by_cut p)
    pub due : Due book p
    pub reached : p ≤ length book

  -- It stands there, and is of the kind k, which is due.
  pub record Kinded (p k : ℕ) : Type 0 where
    pub clear : Clear book (look by_full p)
    pub due : Due book p
    pub inside : p < length book
    pub is : kind_at book p ≡ k

  -- A word of the kind k is due at p, and no other that stands there.
  pub record Asks (p k : ℕ) : Type 0 where
    pub only : p < length book → Wants p (kind_at book p) → kind_at book p ≡ k
    pub wants : Wants p k

  -- Word i of the rest.
  pub same_word : (place i : ℕ) → word (drop place book) i ≡ word book (place + i)
  same_word place i = get_or-drop place book i 0

  pub kind_leaves : (k place i : ℕ) → At (place + i) → Asks (place + i) k →
      Leaves (Kinded (place + i) k) (kind_tests k place (drop place book) i)
  unfolding kind_tests
  kind_leaves k place i at asks = then_leaves (if_leaves _ stops goes) (λ l. if_leaves _ (other l) (same l))
    where
      stops : leb (length (drop place book)) i ≡ true → FirstWrong book by_cut (place + length (drop place book))
      stops e =
          let n = length-drop place book in
          let l = leb-true (length (drop place book)) i e in
          let s : place + i ≡ length book = omega (arith, at.reached) in
          let r : place + i ≡ place + length (drop place book) = omega arith in
          subst (FirstWrong book by_cut) r (first_wrong book by_cut (place + i) (is_cut book s at.due) at.clear)

      goes : leb (length (drop place book)) i ≡ false → place + i < length book
      goes e = omega (arith, length-drop place book, leb-false (length (drop place book)) i e)

      is_kind : kind_of (word (drop place book) i) ≡ kind_at book (place + i)
      is_kind = ap kind_of (same_word place i)

      other : place + i < length book → not (eqb (kind_of (word (drop place book) i)) k) ≡ true → FirstWrong book by_kind (place + i)
      other l e =
          let no-k = eqb-false (kind_of (word (drop place book) i)) k (not-true _ e) in
          let w = kind (place + i) at.due l (λ h. no-k (is_kind ∙ asks.only l h)) in
          first_wrong book by_kind (place + i) w (past_cut book (place + i) l at.clear)

      same : place + i < length book → not (eqb (kind_of (word (drop place book) i)) k) ≡ false → Kinded (place + i) k
      same l e =
          let s = sym is_kind ∙ eqb-true (kind_of (word (drop place book) i)) k (not-false _ e) in
          record {
            clear = past_kind book (place + i) (subst (Wants (place + i)) (sym s) asks.wants) (past_cut book (place + i) l at.clear);
            due = at.due;
            inside = l;
            is = s;
          }
