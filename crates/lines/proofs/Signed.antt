-- The field of a difference, by its sign; and of a lateness, a difference by the half that its word is in.
-- Assumes nothing.
use Prim.Native.Nat.{ℕ, suc, ◌-◌, ◌≤◌, ◌<◌}
use mathlib.Core.Path.{◌≡◌, refl, sym, ap, ◌∙◌}
use mathlib.Core.List.{List, [], ◌∷◌, ◌++◌, append_assoc}
use native.Mathlib.Omega.{arith}
use borrow.Author.Tests.{lt-ltb, le-ltb}
use lib.IntN.{ℤ, pos, negsuc, sub_ℕ}
use Rattle.lines.specs.Decimal.{decimal}
use Rattle.results.specs.Results.{signed}
use Rattle.lines.specs.LineBytes.{late_word, field, late_field}
use Rattle.lines.specs.SignedFields.{signed_field}

module _ (word : List ℕ) (plus minus : ℕ) where
  pub field_positive : minus ≤ plus → field word (plus - minus) ≡ signed_field word (sub_ℕ plus minus)
  unfolding signed_field
  field_positive h = rw (le-ltb plus minus h) refl

  pub field_negative : plus < minus → word ++ field (45 ∷ []) (minus - plus) ≡ signed_field word (sub_ℕ plus minus)
  unfolding signed_field
  field_negative h =
      let e : minus - plus ≡ suc (minus - suc plus) = omega arith in
      rw (lt-ltb plus minus h, e) (sym (append_assoc word (45 ∷ []) (decimal (suc (minus - suc plus)))))

-- The field of a lateness is a signed field.
late_signed : (late : ℤ) → signed_field late_word late ≡ late_field late
unfolding signed_field late_field
late_signed (pos n) = refl
late_signed (negsuc n) = refl

-- A word in two's complement, by its halves.
module _ (word plus minus : ℕ) (same : plus ≡ word) where
  pub late_below : word < 2147483648 → minus ≡ 0 → signed_field late_word (sub_ℕ plus minus) ≡ late_field (signed word)
  unfolding signed
  late_below h e =
      let s : sub_ℕ plus minus ≡ signed word = rw (lt-ltb word 2147483648 h, le-ltb plus minus (omega arith)) (ap pos (omega arith)) in
      ap (signed_field late_word) s ∙ late_signed (signed word)

  pub late_above : 2147483648 ≤ word → word < 4294967296 → minus ≡ 4294967296 →
      signed_field late_word (sub_ℕ plus minus) ≡ late_field (signed word)
  unfolding signed
  late_above h b e =
      let s : sub_ℕ plus minus ≡ signed word = rw (le-ltb word 2147483648 h, lt-ltb plus minus (omega arith)) (ap negsuc (omega arith)) in
      ap (signed_field late_word) s ∙ late_signed (signed word)
