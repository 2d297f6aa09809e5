-- An order of ranks, written to a buffer as rows; and the order for a bound of the rows by that of the ranks.
-- Assumes nothing.
use Prim.Native.Nat.{ℕ, suc, ◌+◌, ◌<◌}
use native.Mathlib.Omega.{arith}
use native.Mathlib.Numerals.{add-one}
use mathlib.Core.Path.{◌≡◌, sym, ap, ◌∙◌}
use mathlib.Core.List.{List, [], ◌∷◌, ◌++◌, map, map-append}
use lib.ListN.{length, take, drop, get_or, set, length-map}
use lib.Seq.{append_snoc, set_at, take-suc, drop-cons, length-take-le}

-- One number more behind those that stand at a buffer's front.
put_one : (xs out : List ℕ) (x i : ℕ) → length xs ≡ i → i < length out →
    set (xs ++ drop i out) i x ≡ (xs ++ (x ∷ [])) ++ drop (i + 1) out
put_one xs out x i l k =
    ap (λ (d : List ℕ). set (xs ++ d) i x) (drop-cons out i 0 k) ∙
    (set_at xs (get_or out i 0) (drop (suc i) out) x i l ∙
    (sym (append_snoc xs x (drop (suc i) out)) ∙ ap (λ (m : ℕ). (xs ++ (x ∷ [])) ++ drop m out) (sym (add-one i))))

-- One row more of the order written through a table of rows.
take_next : (order : List ℕ) (i : ℕ) → i < length order → take i order ++ (get_or order i 0 ∷ []) ≡ take (i + 1) order
take_next order i h = sym (ap (λ (m : ℕ). take m order) (add-one i) ∙ take-suc order i 0 h)

pub write_next : (f : ℕ → ℕ) (order out : List ℕ) (i : ℕ) → i < length order → i < length out →
    set (map f (take i order) ++ drop i out) i (f (get_or order i 0)) ≡ map f (take (i + 1) order) ++ drop (i + 1) out
write_next f order out i h k =
    let x = get_or order i 0 in
    let t : map f (take i order) ++ (f x ∷ []) ≡ map f (take (i + 1) order) = sym (map-append f (take i order) (x ∷ [])) ∙
    ap (map f) (take_next order i h) in
    put_one (map f (take i order)) out (f x) i (length-map (take i order) f ∙ length-take-le i order (omega arith)) k ∙
    ap (λ (l : List ℕ). l ++ drop (i + 1) out) t
