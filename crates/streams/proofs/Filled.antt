-- What one more read does: to the bytes at the buffer's front, and to those that the reader has left.
use Rattle.std.proofs.Common.{◌≡◌, ℕ, ◌+◌, ◌≤◌, List, ◌++◌, Some, None, length, take, ap, subst, sym, ◌∙◌, append_assoc, length-take-le}
use Rattle.std.proofs.lemmas.List.{take-append-le}
use Rattle.std.proofs.Math.Seq.{take-append-add}
use Rattle.std.specs.Prelude.{Option}
use Rattle.std.specs.Io.KnownBytes.{Consumes}

-- The bytes that were read before, and after them the n new ones.
front_more : (a n : ℕ) (xs ys zs : List ℕ) → a ≤ length xs → n ≤ length ys
    → take (a + n) (take a xs ++ (ys ++ zs)) ≡ take a xs ++ take n ys
front_more a n xs ys zs h k =
    subst (λ (m : ℕ). take (m + n) (take a xs ++ (ys ++ zs)) ≡ take a xs ++ take n ys)
    (length-take-le a xs h)
    (take-append-add (take a xs) (ys ++ zs) n ∙ ap (λ l. take a xs ++ l) (take-append-le n ys zs k))

consumed_both : (a b c : Option (List ℕ)) (bs cs : List ℕ) → Consumes a b bs → Consumes b c cs → Consumes a c (bs ++ cs)
consumed_both None b c bs cs p q = tt
consumed_both (Some x) None c bs cs p q = absurd p
consumed_both (Some x) (Some y) None bs cs p q = absurd q
consumed_both (Some x) (Some y) (Some z) bs cs p q = p ∙ ap (λ l. bs ++ l) q ∙ sym (append_assoc bs cs z)

pub consumes_more : (old mid new : Option (List ℕ)) (a n : ℕ) (xs ys zs : List ℕ) → a ≤ length xs → n ≤ length ys
    → Consumes old mid (take a xs) → Consumes mid new (take n ys) → Consumes old new (take (a + n) (take a xs ++ (ys ++ zs)))
consumes_more old mid new a n xs ys zs h k p q =
    subst (Consumes old new) (sym (front_more a n xs ys zs h k)) (consumed_both old mid new _ _ p q)
