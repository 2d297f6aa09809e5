-- Laws of where words stand.
-- Assumes nothing.
use Prim.Native.Nat.{ℕ, ◌+◌, ◌-◌}
use native.Mathlib.Omega.{arith}
use mathlib.Core.List.{List, ◌++◌}
use mathlib.Core.Path.{◌≡◌, ap, sym, ◌∙◌, subst}
use lib.ListN.{length, take, drop}
use Rattle.std.proofs.lemmas.List.{take-append-drop, take_all, append_assoc, drop-drop, length-drop}
use Rattle.text_words.specs.Parts.{Begins, WordIn, LineIn}

pub begins_take : (k : ℕ) (xs : List ℕ) → Begins (take k xs) xs
begins_take k xs = (drop k xs, sym (take-append-drop k xs))

pub begins_on : (a b c : List ℕ) → Begins a b → Begins b c → Begins a c
begins_on a b c ab bc =
    (ab.0 ++ bc.0, bc.1 ∙ ap (λ (l : List ℕ). l ++ bc.0) ab.1 ∙ append_assoc a ab.0 bc.0)

-- What is left of a text, cut at the end of its line, and that at its comment.
pub begins_line : (text : List ℕ) (at stop end : ℕ) → Begins (take end (take stop (take (length text - at) (drop at text)))) (drop at text)
begins_line text at stop end =
    let rest = take (length text - at) (drop at text) in
    begins_on _ rest _ (begins_on _ (take stop rest) _ (begins_take end _) (begins_take stop rest)) (begins_take _ (drop at text))

-- The word that stands behind `start` blanks and has m bytes more than one.
pub word_in : (xs : List ℕ) (start m : ℕ) → WordIn (take (1 + m) (drop start xs)) (drop (start + (1 + m)) xs) xs
word_in xs start m = (
  take start xs,
  sym (take-append-drop start xs) ∙ ap (λ (l : List ℕ). take start xs ++ l)
      (sym (take-append-drop (1 + m) (drop start xs)) ∙ ap (λ (l : List ℕ). take (1 + m) (drop start xs) ++ l) (drop-drop (1 + m) start xs)),
)

-- The same, as `next` has cut it.
pub word_cut : (xs : List ℕ) (start m : ℕ) → let after = take (length xs - (start + 1)) (drop (start + 1) xs) in
    WordIn (take (start + 1 + m - start) (drop start xs)) (take (length after - m) (drop m after)) xs
word_cut xs start m =
    let whole : take (length xs - (start + 1)) (drop (start + 1) xs) ≡ drop (start + 1) xs =
    take_all (length xs - (start + 1)) (drop (start + 1) xs) (omega (arith, length-drop (start + 1) xs)) in
    let left = drop m (take (length xs - (start + 1)) (drop (start + 1) xs)) in
    let all : take (length (take (length xs - (start + 1)) (drop (start + 1) xs)) - m) left ≡ left =
    take_all _ left (omega (arith, length-drop m (take (length xs - (start + 1)) (drop (start + 1) xs)))) in
    let at : take (length (take (length xs - (start + 1)) (drop (start + 1) xs)) - m) left ≡ drop (start + (1 + m)) xs =
    all ∙ ap (drop m) whole ∙ drop-drop m (start + 1) xs ∙ ap (λ (n : ℕ). drop n xs) (omega arith) in
    let many : start + 1 + m - start ≡ 1 + m = omega arith in
    subst (λ (n : ℕ). WordIn (take n (drop start xs)) (take (length (take (length xs - (start + 1)) (drop (start + 1) xs)) - m) left) xs) (sym many)
    (subst (λ (l : List ℕ). WordIn (take (1 + m) (drop start xs)) l xs) (sym at) (word_in xs start m))

regroup : (a b c d : List ℕ) → (a ++ (b ++ c)) ++ d ≡ (a ++ b) ++ (c ++ d)
regroup a b c d =
    append_assoc a (b ++ c) d ∙ ap (λ (l : List ℕ). a ++ l) (append_assoc b c d) ∙ sym (append_assoc a b (c ++ d))

-- What stands behind the first word of a line.
pub line_in : (text line word after : List ℕ) → Begins line text → WordIn word after line → LineIn after text
line_in text line word after here first =
    (first.0 ++ word, here.0, here.1 ∙ ap (λ (l : List ℕ). l ++ here.0) first.1 ∙ regroup first.0 word after here.0)
