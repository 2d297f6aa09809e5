-- Laws of the words of an input: none in fewer than four bytes, and one more word at each turn of the loop that takes them.
-- Assumes nothing.
use Prim.Native.Nat.{ℕ, zero, suc, ◌+◌, ◌-◌, ◌*◌, ◌/◌, ◌≤◌, ◌<◌, min}
use mathlib.Core.Path.{◌≡◌, refl, sym, ap, ◌∙◌}
use mathlib.Core.List.{List, [], ◌∷◌, ◌++◌, append_assoc, append-nil}
use native.Mathlib.Omega.{arith}
use native.Mathlib.Decide.{dec_lt}
use native.Mathlib.Numerals.{add-one, unary_clauses}
use lib.ListN.{length, take, drop, set, length-append, length-drop}
use lib.Seq.{drop-cons, take-suc-set, take_all}
use Rattle.std.proofs.lemmas.List.{take_at}
use Rattle.input.specs.Input.{word_at, words_in, Counted}

pub short : (n : ℕ) (bytes : List ℕ) → length bytes < 4 → words_in n bytes ≡ []
unfolding words_in
short zero bytes h = refl
short (suc n) [] h = refl
short (suc n) (a ∷ []) h = refl
short (suc n) (a ∷ b ∷ []) h = refl
short (suc n) (a ∷ b ∷ c ∷ []) h = refl
short (suc n) (a ∷ b ∷ c ∷ d ∷ bytes) h = absurd (omega (arith, h))

pub no_more : (n : ℕ) (bytes : List ℕ) → n ≡ 0 → words_in n bytes ≡ []
unfolding words_in
no_more n bytes e = rw e refl

pub long : (n at : ℕ) (bytes : List ℕ) → at + 4 ≤ length bytes →
    words_in (suc n) (drop at bytes) ≡ word_at bytes at ∷ words_in n (drop (at + 4) bytes)
unfolding words_in
long n at bytes h =
    rw (
      drop-cons bytes at 0 (omega arith),
      drop-cons bytes (suc at) 0 (omega arith),
      drop-cons bytes (suc (suc at)) 0 (omega arith),
      drop-cons bytes (suc (suc (suc at))) 0 (omega arith),
    )
    (simp unary_clauses)

-- One word more, and no byte past the words counts.
next_word : (n : ℕ) → ((bytes : List ℕ) → words_in n (take (4 * n) bytes) ≡ words_in n bytes) → (bytes : List ℕ) →
    words_in (suc n) (take (suc (suc (suc (suc (4 * n))))) bytes) ≡ words_in (suc n) bytes
unfolding words_in
next_word n f [] = refl
next_word n f (a ∷ []) = refl
next_word n f (a ∷ b ∷ []) = refl
next_word n f (a ∷ b ∷ c ∷ []) = refl
next_word n f (a ∷ b ∷ c ∷ d ∷ bytes) = ap (λ (ws : List ℕ). (a + 256 * b + 65536 * c + 16777216 * d) ∷ ws) (f bytes)

pub first_words : (n : ℕ) (bytes : List ℕ) → words_in n (take (4 * n) bytes) ≡ words_in n bytes
unfolding words_in
first_words zero bytes = refl
first_words (suc n) bytes = let e : 4 * suc n ≡ suc (suc (suc (suc (4 * n)))) = omega arith in rw e (next_word n (first_words n) bytes)

-- Nothing is taken yet.
pub none_taken : (input words : List ℕ) →
    take 0 words ++ words_in (length words - 0) (drop (4 * 0) input) ≡ words_in (length words) input
none_taken input words = let e : length words - 0 ≡ length words = omega arith in rw e refl

-- What the loop has taken of n words, with what is still to come, is all.
module _ (input words : List ℕ) (n k : ℕ) where
  pub taken : 4 * k + 4 ≤ length input → k < n → k < length words →
      take (k + 1) (set words k (word_at input (4 * k))) ++ words_in (n - (k + 1)) (drop (4 * (k + 1)) input) ≡
      take k words ++ words_in (n - k) (drop (4 * k) input)
  taken a b c =
      let e : n - k ≡ suc (n - (k + 1)) = omega arith in
      let m : 4 * (k + 1) ≡ 4 * k + 4 = omega arith in
      rw (e, m, long (n - (k + 1)) (4 * k) input a, add-one k, take-suc-set words k (word_at input (4 * k)) c, append_assoc)
      refl

-- No word is left once all that there is room for, or all that the bytes make, are taken.
none_left : (input : List ℕ) (n k : ℕ) → k ≡ min n (length input / 4) → words_in (n - k) (drop (4 * k) input) ≡ []
none_left input n k e = step (dec_lt k n)
  where
    step : Dec (k < n) → words_in (n - k) (drop (4 * k) input) ≡ []
    step (yes h) = short (n - k) (drop (4 * k) input) (simp length-drop (omega arith))
    step (no h) = no_more (n - k) (drop (4 * k) input) (omega arith)

-- The words that are taken stand at the front of the room.
pub all_taken : (input words rest : List ℕ) (n k : ℕ) → length words ≡ k → k ≡ min n (length input / 4) →
    take k words ++ words_in (n - k) (drop (4 * k) input) ≡ words_in n input → Counted k (words ++ rest) (words_in n input)
all_taken input words rest n k h e all =
    let front : take k (words ++ rest) ≡ words = take_at words rest k h in record {
      few = omega (arith, length-append words rest);
      size = sym h ∙ ap length (sym front);
      holds = front ∙ (sym (append-nil words) ∙ (ap (λ (l : List ℕ). words ++ l) (sym (none_left input n k e)) ∙
          (ap (λ (l : List ℕ). l ++ words_in (n - k) (drop (4 * k) input)) (sym (take_all k words (omega arith))) ∙ all)));
    }
