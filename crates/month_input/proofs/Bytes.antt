-- Words and their bytes: each comes back from the other. And the words of an input after some of them. Assumes nothing.
use Prim.Native.Nat.{ℕ, zero, suc, ◌+◌, ◌*◌, ◌/◌, ◌%◌, ◌≤◌, ◌<◌}
use native.Mathlib.Omega.{arith}
use mathlib.Core.Path.{◌≡◌, refl, ap, ◌∙◌}
use mathlib.Core.List.{List, [], ◌∷◌, Memᴰ}
use lib.ListN.{length, take, drop}
use lib.Seq.{take_all}
use Rattle.input.specs.Input.{words_in}
use Rattle.word_bytes.proofs.Bytes.{four_bytes}
use Rattle.month_input.specs.WrittenMonth.{bytes_of, Below}

-- The four bytes of a word that is made of four.
module _ (a b c d : ℕ) (f : a < 256) (g : b < 256) (h : c < 256) (k : d < 256) where
  abbrev word : ℕ
  word = a + 256 * b + 65536 * c + 16777216 * d

  first_byte : word % 256 ≡ a
  first_byte = omega arith

  second_byte : word / 256 % 256 ≡ b
  second_byte = omega arith

  third_byte : word / 256 / 256 % 256 ≡ c
  third_byte = omega arith

  fourth_byte : word / 256 / 256 / 256 % 256 ≡ d
  fourth_byte = omega arith

  pub word_below : word < 4294967296
  word_below = omega arith

pub below_tail : {most n : ℕ} {ns : List ℕ} → Below most (n ∷ ns) → Below most ns
below_tail h m i = h m (Memᴰ.tail i)

pub below_head : {most n : ℕ} {ns : List ℕ} → Below most (n ∷ ns) → n < most
below_head {n = n} h = h n (Memᴰ.head refl)

pub bytes_length : (ws : List ℕ) → length (bytes_of ws) ≡ 4 * length ws
unfolding bytes_of
bytes_length [] = omega arith
bytes_length (w ∷ ws) = omega (arith, bytes_length ws)

pub words_back : (n : ℕ) (ws : List ℕ) → Below 4294967296 ws → length ws ≤ n → words_in n (bytes_of ws) ≡ ws
unfolding words_in bytes_of
words_back zero [] h l = refl
words_back (suc n) [] h l = refl
words_back zero (w ∷ ws) h l = absurd (omega arith)
words_back (suc n) (w ∷ ws) h l = λ x. four_bytes w (below_head h) x ∷ words_back n ws (below_tail h) (omega arith) x

-- Whole words alone: four bytes at a time.
pub bytes_back : (n : ℕ) (bytes : List ℕ) → Below 256 bytes → length bytes % 4 ≡ 0 → length bytes ≤ n →
    bytes_of (words_in n bytes) ≡ bytes
unfolding words_in bytes_of
bytes_back zero [] h e l = refl
bytes_back (suc n) [] h e l = refl
bytes_back zero (a ∷ bytes) h e l = absurd (omega arith)
bytes_back (suc n) (a ∷ []) h e l = absurd (omega arith)
bytes_back (suc n) (a ∷ b ∷ []) h e l = absurd (omega arith)
bytes_back (suc n) (a ∷ b ∷ c ∷ []) h e l = absurd (omega arith)
bytes_back (suc n) (a ∷ b ∷ c ∷ d ∷ bytes) h e l =
    let f = below_head h in
    let g = below_head (below_tail h) in
    let j = below_head (below_tail (below_tail h)) in
    let k = below_head (below_tail (below_tail (below_tail h))) in
    let rest = bytes_back n bytes (below_tail (below_tail (below_tail (below_tail h)))) (omega (arith, e)) (omega arith) in
    λ x. first_byte a b c d f g j k x ∷ second_byte a b c d f g j k x ∷ third_byte a b c d f g j k x ∷
    fourth_byte a b c d f g j k x ∷ rest x

pub words_below : (n : ℕ) (bytes : List ℕ) → Below 256 bytes → Below 4294967296 (words_in n bytes)
unfolding words_in
words_below zero bytes h m i = elim i [ ]
words_below (suc n) [] h m i = elim i [ ]
words_below (suc n) (a ∷ []) h m i = elim i [ ]
words_below (suc n) (a ∷ b ∷ []) h m i = elim i [ ]
words_below (suc n) (a ∷ b ∷ c ∷ []) h m i = elim i [ ]
words_below (suc n) (a ∷ b ∷ c ∷ d ∷ bytes) h m (Memᴰ.head e) =
    omega (
      arith,
      e,
      word_below a b c d (below_head h) (below_head (below_tail h)) (below_head (below_tail (below_tail h)))
          (below_head (below_tail (below_tail (below_tail h)))),
    )
words_below (suc n) (a ∷ b ∷ c ∷ d ∷ bytes) h m (Memᴰ.tail i) =
    words_below n bytes (below_tail (below_tail (below_tail (below_tail h)))) m i

-- Any number of words that is enough gives the same, and a smaller number the first of them.
pub first_of : (n m : ℕ) (bytes : List ℕ) → length bytes ≤ m → words_in n bytes ≡ take n (words_in m bytes)
unfolding words_in
first_of zero m bytes l = refl
first_of (suc n) zero [] l = refl
first_of (suc n) (suc m) [] l = refl
first_of (suc n) zero (a ∷ bytes) l = absurd (omega arith)
first_of (suc n) (suc m) (a ∷ []) l = refl
first_of (suc n) (suc m) (a ∷ b ∷ []) l = refl
first_of (suc n) (suc m) (a ∷ b ∷ c ∷ []) l = refl
first_of (suc n) (suc m) (a ∷ b ∷ c ∷ d ∷ bytes) l =
    ap (λ (ws : List ℕ). (a + 256 * b + 65536 * c + 16777216 * d) ∷ ws) (first_of n m bytes (omega arith))

pub words_within : (n : ℕ) (bytes : List ℕ) → 4 * length (words_in n bytes) ≤ length bytes
unfolding words_in
words_within zero bytes = omega arith
words_within (suc n) [] = omega arith
words_within (suc n) (a ∷ []) = omega arith
words_within (suc n) (a ∷ b ∷ []) = omega arith
words_within (suc n) (a ∷ b ∷ c ∷ []) = omega arith
words_within (suc n) (a ∷ b ∷ c ∷ d ∷ bytes) = omega (arith, words_within n bytes)

pub enough : (n m : ℕ) (bytes : List ℕ) → length bytes ≤ n → length bytes ≤ m → words_in m bytes ≡ words_in n bytes
enough n m bytes l s = first_of m n bytes l ∙ take_all m (words_in n bytes) (omega (arith, words_within n bytes))

-- The words after the first k are those of the bytes after the first 4 k.
pub words_after : (k n m : ℕ) (bytes : List ℕ) → 4 * k ≤ length bytes → length bytes ≤ n → length bytes ≤ m →
    words_in m (drop (4 * k) bytes) ≡ drop k (words_in n bytes)
unfolding words_in
words_after zero n m bytes h l s = enough n m bytes l s
words_after (suc k) n m [] h l s = absurd (omega arith)
words_after (suc k) n m (a ∷ []) h l s = absurd (omega arith)
words_after (suc k) n m (a ∷ b ∷ []) h l s = absurd (omega arith)
words_after (suc k) n m (a ∷ b ∷ c ∷ []) h l s = absurd (omega arith)
words_after (suc k) zero m (a ∷ b ∷ c ∷ d ∷ bytes) h l s = absurd (omega arith)
words_after (suc k) (suc n) m (a ∷ b ∷ c ∷ d ∷ bytes) h l s =
    let e : 4 * suc k ≡ suc (suc (suc (suc (4 * k)))) = omega arith in
    rw e (words_after k n m bytes (omega arith) (omega arith) (omega arith))
