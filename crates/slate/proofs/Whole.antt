-- What is shown of the first 4,112 bytes of an input is what is shown of all of it.
use Rattle.std.proofs.Common.{◌≡◌, ℕ, zero, suc, ◌+◌, ◌*◌, ◌≤◌, ◌<◌, List, [], ◌∷◌, ◌++◌, Some, None, IfSome, OnOk, Result, Ok, Err, length, take, refl, ap, sym, subst, ◌∙◌, inl, inr, arith, append-nil, length-append, length-take-le}
use Rattle.std.proofs.lemmas.Bool.{cases_lt}
use Rattle.std.specs.Prelude.{Option}
use Rattle.std.specs.Io.KnownBytes.{Appends, Consumes, IsAtEnd}
use borrow.Author.Tests.{le-ltb}
use Rattle.input.specs.Input.{words_in}
use Rattle.sheet.specs.Printing.{prints}
use Rattle.sheet.specs.Shown.{shown}

-- The first n words of an input stand in its first 4 n bytes.
words_front : (n : ℕ) (front rest : List ℕ) → length front ≡ 4 * n → words_in n (front ++ rest) ≡ words_in n front
unfolding words_in
words_front zero front rest e = refl
words_front (suc n) [] rest e = absurd (omega arith)
words_front (suc n) (a ∷ []) rest e = absurd (omega arith)
words_front (suc n) (a ∷ b ∷ []) rest e = absurd (omega arith)
words_front (suc n) (a ∷ b ∷ c ∷ []) rest e = absurd (omega arith)
words_front (suc n) (a ∷ b ∷ c ∷ d ∷ front) rest e =
    ap (λ words. (a + 256 * b + 65536 * c + 16777216 * d) ∷ words) (words_front n front rest (omega arith))

-- A long input has no odd bytes, so its words tell what is shown.
long_shown : (a b : List ℕ) → 4112 ≤ length a → 4112 ≤ length b → words_in 1028 a ≡ words_in 1028 b → shown a ≡ shown b
unfolding shown prints
long_shown a b h k e = rw (le-ltb (length a) 4112 h, le-ltb (length b) 4112 k, e)

-- The bytes that were read show what the whole input does.
pub whole_shown : (old new : Option (List ℕ)) (n : ℕ) (buffer : List ℕ) → length buffer ≡ 4112 → n ≤ length buffer
    → Consumes old new (take n buffer) → (n < length buffer → IsAtEnd new) → IfSome old (λ bytes. shown (take n buffer) ≡ shown bytes)
whole_shown None new n buffer e h p q = tt
whole_shown (Some bytes) None n buffer e h p q = absurd p
whole_shown (Some bytes) (Some rest) n buffer e h p q =
    elim (cases_lt n 4112) [
      | inl less ↦ ap shown (sym (p ∙ ap (λ l. take n buffer ++ l) (q (omega arith)) ∙ append-nil (take n buffer)))
      | inr most ↦
          let size : length (take n buffer) ≡ 4112 = length-take-le n buffer h ∙ omega arith in
          rw p (long_shown (take n buffer) (take n buffer ++ rest) (omega arith) (omega (arith, length-append (take n buffer) rest))
          (sym (words_front 1028 (take n buffer) rest size)))
    ]

-- What is written is what is shown.
pub shown_written : {T E : Type 0} (result : Result T E) (old before after : Option (List ℕ)) (bytes : List ℕ)
    → OnOk result (Appends before after bytes) → IfSome old (λ all. bytes ≡ shown all)
    → OnOk result (IfSome old (λ all. Appends before after (shown all)))
shown_written (Err e) old before after bytes p q = tt
shown_written (Ok x) None before after bytes p q = tt
shown_written (Ok x) (Some all) before after bytes p q = subst (Appends before after) q p
