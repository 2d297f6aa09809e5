-- A window whose bytes are turned, so that those after the first `used` of the `have` that it holds come first.
use Prim.Native.Nat.{ℕ, ◌-◌, ◌≤◌}
use mathlib.Core.Path.{◌≡◌, sym, ap, ◌∙◌}
use mathlib.Core.List.{List, ◌++◌, append_assoc}
use native.Mathlib.Omega.{arith}
use borrow.Author.Rules.{rules}
use lib.ListN.{length, take, drop, length-drop, length-take}
use Rattle.std.proofs.lemmas.List.{take_at}
use Rattle.std.proofs.lemmas.Slice.{between_is}

inner : (window : List ℕ) (used have : ℕ) → take (have - used) (drop used window) ≡ drop used (take have window)
inner window used have = search (rules, between_is)

module _ (window : List ℕ) (used have : ℕ) (h : used ≤ have) (room : have ≤ length window) where
  abbrev left : List ℕ
  left = drop used (take have window)

  size : length left ≡ have - used
  size = simp (length-drop, length-take) (omega arith)

  pub slid : (front rest : List ℕ) → front ≡ left ++ take used (take have window) →
      take (have - used) (front ++ rest) ≡ take (have - used) (drop used window)
  slid front rest e =
      ap (take (have - used)) (ap (λ (l : List ℕ). l ++ rest) e ∙ append_assoc left (take used (take have window)) rest) ∙
      (take_at left (take used (take have window) ++ rest) (have - used) size ∙ sym (inner window used have))
