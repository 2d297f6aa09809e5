-- Words put into what is written at the start of a buffer, and the head of a desk put so before zeros.
-- Assumes nothing.
use Prim.Native.Nat.{ℕ, ◌+◌, ◌≤◌}
use native.Mathlib.Omega.{arith}
use mathlib.Core.Path.{◌≡◌, refl, sym, ap, ◌∙◌}
use mathlib.Core.List.{List, [], ◌∷◌, ◌++◌, append_assoc}
use lib.ListN.{length, take, drop, set, replicate, length-append, length-replicate, get_or-replicate, get_or-append}
use lib.Seq.{length-take-le, take-append-le, drop-append-le, get_or-set_other, set-get_or, sets-eq}
use Rattle.schedule.specs.Columns.{at}
use Rattle.results.specs.Results.{written}
use Rattle.running.specs.Words.{desk_words, put}
use Rattle.running.proofs.Puts.{put_length}

module _ (p : ℕ) (xs ws : List ℕ) (room : p + length xs ≤ length ws) where
  pub put_written : (b : List ℕ) → put p xs (written ws b) ≡ written (put p xs ws) b
  unfolding put written
  put_written b =
      let r = drop (length ws) b in
      (λ x. (take-append-le p ws r (omega arith) x ++ xs) ++ drop-append-le (p + length xs) ws r room x) ∙
      sym (append_assoc (take p ws ++ xs) (drop (p + length xs) ws) r) ∙
      ap (λ (n : ℕ). put p xs ws ++ drop n b) (sym (put_length p xs ws room))

-- The front of a buffer filled with zeros.
pub zeros_front : (n : ℕ) (ws front : List ℕ) → n ≤ length ws → front ≡ replicate (length (take n ws)) 0 →
    front ++ drop n ws ≡ written (replicate n 0) ws
unfolding written
zeros_front n ws front h e = rw (e, length-take-le n ws h, length-replicate {A = ℕ} n 0) refl

-- The count of rows, the minute and the opening, put before zeros. The word between minute and opening is one of these zeros.
pub head_put : (count minute opening : ℕ) (ws cleared : List ℕ) → cleared ≡ written (replicate desk_words 0) ws →
    set (set (set cleared 0 count) 1 minute) 3 opening ≡
    written (put 0 (count ∷ minute ∷ 0 ∷ opening ∷ []) (replicate desk_words 0)) ws
unfolding put written
head_put count minute opening ws cleared e =
    let blank : List ℕ = replicate desk_words 0 in
    let zeros : length blank ≡ desk_words = length-replicate {A = ℕ} desk_words 0 in
    let four : 0 + 4 ≤ length blank = omega (arith, zeros) in
    let all : 0 + 4 ≤ length (written blank ws) = omega (arith, length-append blank (drop (length blank) ws), zeros) in
    let two : List ℕ = set (set (written blank ws) 0 count) 1 minute in
    let third : at two 2 ≡ 0 =
    get_or-set_other (set (written blank ws) 0 count) 1 2 minute 0 (λ h. omega arith) ∙
    get_or-set_other (written blank ws) 0 2 count 0 (λ h. omega arith) ∙
    get_or-append blank (drop (length blank) ws) 0 2 (omega (arith, zeros)) ∙ get_or-replicate {A = ℕ} desk_words 2 0 0 (omega arith) in
    ap (λ (d : List ℕ). set (set (set d 0 count) 1 minute) 3 opening) e ∙
    ap (λ (d : List ℕ). set d 3 opening) (sym (set-get_or two 2 0) ∙ ap (set two 2) third) ∙
    sets-eq (count ∷ minute ∷ 0 ∷ opening ∷ []) (written blank ws) 0 all ∙
    put_written 0 (count ∷ minute ∷ 0 ∷ opening ∷ []) blank four ws
