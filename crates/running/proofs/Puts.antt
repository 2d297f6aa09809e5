-- Words put into a run from a place on: its length, what stands at each place, and a lent part written over.
-- Assumes nothing.
use Prim.Native.Nat.{ℕ, ◌+◌, ◌-◌, ◌≤◌, ◌<◌}
use native.Mathlib.Omega.{arith}
use mathlib.Core.Path.{◌≡◌, refl, sym, ap, ◌∙◌}
use mathlib.Core.List.{List, ◌++◌}
use lib.ListN.{length, take, drop, length-append, length-drop, get_or-append}
use lib.Seq.{length-take-le, get_or-append-add, get_or-take, get_or-drop}
use Rattle.std.proofs.Common.{append_assoc}
use Rattle.std.proofs.lemmas.List.{drop-drop}
use borrow.Rule.Slice.PartMut.{put_mid}
use Rattle.schedule.specs.Columns.{at}
use Rattle.running.specs.Words.{put}

module _ (p : ℕ) (xs ws : List ℕ) (room : p + length xs ≤ length ws) where
  -- What stands before the words put, and with them.
  before : length (take p ws) ≡ p
  before = length-take-le p ws (omega arith)

  front : length (take p ws ++ xs) ≡ p + length xs
  front = omega (arith, length-append (take p ws) xs, before)

  pub put_length : length (put p xs ws) ≡ length ws
  unfolding put
  put_length =
      omega (arith, length-append (take p ws ++ xs) (drop (p + length xs) ws), front, length-drop (p + length xs) ws)

  pub put_inside : (k : ℕ) → k < length xs → at (put p xs ws) (p + k) ≡ at xs k
  unfolding put
  put_inside k h =
      get_or-append (take p ws ++ xs) (drop (p + length xs) ws) 0 (p + k) (omega (arith, front)) ∙
      rw before at (get_or-append-add (take p ws) xs k 0)

  pub put_before : (k : ℕ) → k < p → at (put p xs ws) k ≡ at ws k
  unfolding put
  put_before k h =
      get_or-append (take p ws ++ xs) (drop (p + length xs) ws) 0 k (omega (arith, front)) ∙
      get_or-append (take p ws) xs 0 k (omega (arith, before)) ∙ get_or-take p ws k 0 h

  pub put_after : (k : ℕ) → p + length xs ≤ k → at (put p xs ws) k ≡ at ws k
  unfolding put
  put_after k h =
      let j = k - (p + length xs) in
      let e : length (take p ws ++ xs) + j ≡ k = omega (arith, front) in
      let f : p + length xs + j ≡ k = omega arith in
      ap (at (put p xs ws)) (sym e) ∙ get_or-append-add (take p ws ++ xs) (drop (p + length xs) ws) j 0 ∙
      get_or-drop (p + length xs) ws j 0 ∙ ap (at ws) f

-- A part of a run, lent and written over.
pub put_middle : (p k : ℕ) (ws xs : List ℕ) → length xs ≡ k → put_mid p k ws xs ≡ put p xs ws
unfolding put
put_middle p k ws xs e = rw (e, append_assoc, drop-drop) refl
