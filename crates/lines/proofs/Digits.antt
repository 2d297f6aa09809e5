-- Laws of printed numbers: the fewest digits, which the toolchain writes, are those of the definition; and how many there are.
-- Assumes nothing.
use Prim.Native.Nat.{ℕ, zero, suc, ◌+◌, ◌-◌, ◌/◌, ◌%◌, ◌^◌, ◌≤◌, ◌<◌}
use mathlib.Core.Path.{◌≡◌, refl, ap, sym, ◌∙◌}
use mathlib.Core.List.{List, [], ◌∷◌, ◌++◌, append_assoc, append-nil}
use native.Mathlib.Omega.{arith}
use native.Mathlib.Decide.{dec_lt}
use native.Mathlib.Numerals.{add-one}
use native.Mathlib.Nat.{le_trans, pow-le-pow_right, pow-suc, mod-eq_of_lt, mod-lt, div-lt_self, div-lt_iff_lt-mul, le-div_iff_mul-le}
use borrow.Author.Tests.{lt-ltb, le-ltb}
use lib.ListN.{length, take, get_or, length-append}
use lib.Seq.{take-suc}
use Rattle.io.specs.Digits.{hex_digit_ascii, last_digits, IsDigitCount}
use Rattle.lines.specs.Decimal.{digits_in, decimal}
use Rattle.lines.specs.LineBytes.{field, number_fields}

glyph_is : (d : ℕ) → d < 10 → hex_digit_ascii d ≡ 48 + d
glyph_is d h = rw (lt-ltb d 10 h) refl

-- A number of two digits or more, and its tenth, which has one digit fewer.
least : (n k : ℕ) → IsDigitCount 10 1 n (suc (suc k)) → 10 ^ suc k ≤ n
least n k f = let e : suc (suc k) - 1 ≡ suc k = omega arith in (rw e at (f.2 (omega arith)))

tenth_below : (n k : ℕ) → n < 10 ^ suc (suc k) → n / 10 < 10 ^ suc k
tenth_below n k h = (div-lt_iff_lt-mul {k = 10} {x = n} {y = 10 ^ suc k} (omega arith)).1 (omega (arith, h, pow-suc 10 (suc k)))

tenth_above : (n k : ℕ) → 10 ^ suc k ≤ n → 10 ^ k ≤ n / 10
tenth_above n k h = (le-div_iff_mul-le {k = 10} {x = 10 ^ k} {y = n} (omega arith)).1 (omega (arith, h, pow-suc 10 k))

fewest_tenth : (n k : ℕ) → IsDigitCount 10 1 n (suc (suc k)) → IsDigitCount 10 1 (n / 10) (suc k)
fewest_tenth n k f =
    let e : suc k - 1 ≡ k = omega arith in
    (omega arith, tenth_below n k f.1, λ h. (rw e (tenth_above n k (least n k f))))

digits_in_lem : (k steps n : ℕ) → n < steps → IsDigitCount 10 1 n (suc k) → last_digits 10 (suc k) n ≡ digits_in steps n
unfolding digits_in
digits_in_lem k zero n h f = let z : ⊥ = omega arith in absurd z
digits_in_lem zero (suc steps) n h f =
    let l : n < 10 = omega (arith, f.1) in
    rw (digits_in, lt-ltb n 10 l, mod-eq_of_lt l, glyph_is n l) refl
digits_in_lem (suc k) (suc steps) n h f =
    let l : 10 ≤ n = le_trans (pow-le-pow_right {n = 10} (omega arith) {i = 1} {j = suc k} (omega arith)) (least n k f) in
    let r = digits_in_lem k steps (n / 10) (omega (arith, div-lt_self {n = n} {k = 10} (omega arith) (omega arith))) (fewest_tenth n k f) in
    rw (digits_in, le-ltb n 10 l, r, glyph_is (n % 10) (mod-lt n (omega arith))) refl

-- What `io::decimal` writes.
pub decimal_is : (n k : ℕ) → IsDigitCount 10 1 n k → last_digits 10 k n ≡ decimal n
unfolding decimal
decimal_is n zero f = let z : ⊥ = omega (arith, f.0) in absurd z
decimal_is n (suc k) f = digits_in_lem k (suc n) n (omega arith) f

-- A number below a power of ten has no more digits.
short_more : (steps : ℕ) → ((d n : ℕ) → n < 10 ^ suc d → length (digits_in steps n) ≤ suc d) →
    (d n : ℕ) → n < 10 ^ suc d → Dec (n < 10) → length (digits_in (suc steps) n) ≤ suc d
unfolding digits_in
short_more steps f d n h (yes l) = rw (digits_in, lt-ltb n 10 l) (omega arith)
short_more steps f zero n h (no l) = let z : ⊥ = omega arith in absurd z
short_more steps f (suc d) n h (no l) =
    let more = length-append (digits_in steps (n / 10)) ((48 + n % 10) ∷ []) in
    rw (digits_in, le-ltb n 10 (omega arith)) (omega (arith, f d (n / 10) (tenth_below n d h), more))

short_in : (steps d n : ℕ) → n < 10 ^ suc d → length (digits_in steps n) ≤ suc d
unfolding digits_in
short_in zero d n h = omega arith
short_in (suc steps) d n h = short_more steps (short_in steps) d n h (dec_lt n 10)

pub short : (d n : ℕ) → n < 10 ^ suc d → length (decimal n) ≤ suc d
unfolding decimal
short d n h = short_in (suc n) d n h

-- The field of an order number, a word.
pub short_field : (n : ℕ) → n < 4294967296 → length (field (32 ∷ []) n) ≤ 11
short_field n h = omega (arith, short 9 n (omega arith))

-- One order number more.
numbers_more : (ns : List ℕ) (n : ℕ) → number_fields ns ++ field (32 ∷ []) n ≡ number_fields (ns ++ (n ∷ []))
unfolding number_fields
numbers_more [] n = sym (append-nil (field (32 ∷ []) n))
numbers_more (m ∷ ns) n =
    append_assoc (field (32 ∷ []) m) (number_fields ns) (field (32 ∷ []) n) ∙
    ap (λ (l : List ℕ). field (32 ∷ []) m ++ l) (numbers_more ns n)

pub next_number : (ns : List ℕ) (k : ℕ) → k < length ns →
    number_fields (take k ns) ++ field (32 ∷ []) (get_or ns k 0) ≡ number_fields (take (k + 1) ns)
next_number ns k h = rw (add-one k, take-suc ns k 0 h) (numbers_more (take k ns) (get_or ns k 0))
