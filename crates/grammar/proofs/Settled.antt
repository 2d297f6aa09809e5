-- Tests 1 to 7: a book is refused exactly with what is wrong first, and passes exactly if nothing is wrong with it.
-- Assumes nothing.
use Prim.Native.Nat.{ℕ}
use mathlib.Core.Path.{◌≡◌, refl, subst}
use mathlib.Core.List.{List}
use Rattle.schedule.specs.Rows.{Day}
use Rattle.book.specs.Rows.{Contents, refused, accepted}
use Rattle.grammar.specs.Words.{Wrong, FirstWrong, WordsSettled}
use Rattle.grammar.proofs.Order.{first_same}
use Rattle.grammar.proofs.Outcomes.{Outcome, wrong, right, outcome}

module _ (book : List ℕ) where
  -- What the contents say, taken apart.
  refused_says : {n p : ℕ} → Outcome book (refused n p) → FirstWrong book n p
  refused_says (wrong n p f) = f

  accepted_says : {day : Day} → Outcome book (accepted day) → (n p : ℕ) → ¬ Wrong book n p
  accepted_says (right day none) = none

  -- What is wrong first is what the book is refused with.
  first_refuses : {c : Contents} {n p : ℕ} → Outcome book c → FirstWrong book n p → c ≡ refused n p
  first_refuses (wrong m q g) f = let (e, d) = first_same book g f in rw (e, d)
  first_refuses (right day none) f = absurd (none _ _ f.wrong)

  -- A book with nothing wrong is accepted.
  none_accepts : {c : Contents} → Outcome book c → ((n p : ℕ) → ¬ Wrong book n p) → (day : Day) × (c ≡ accepted day)
  none_accepts (wrong n p f) none = absurd (none n p f.wrong)
  none_accepts (right day g) none = (day, refl)

pub words_settled : (book : List ℕ) → WordsSettled book
words_settled book = record {
  refusals = λ n p. (λ e. refused_says book (subst (Outcome book) e (outcome book)), first_refuses book (outcome book));
  passes = (λ d. accepted_says book (subst (Outcome book) d.1 (outcome book)), none_accepts book (outcome book));
}
