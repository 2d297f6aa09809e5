-- Places that are written over by their rows, one after another, in a part of a run; and an order's words written so.
-- Assumes nothing.
use Prim.Native.Nat.{ℕ, suc, ◌+◌, ◌≤◌, ◌<◌}
use native.Mathlib.Omega.{arith}
use native.Mathlib.Numerals.{add-one}
use mathlib.Core.Path.{◌≡◌, sym, ap, ◌∙◌}
use mathlib.Core.List.{List, [], ◌∷◌, ◌++◌, map, map-append, append_assoc}
use lib.ListN.{length, take, drop, set, length-map}
use lib.Seq.{length-take-le, take-length, drop-length, get_or-take, take-suc, drop-cons, set_at, take_at, drop_at, get_or_at}
use Rattle.std.proofs.lemmas.List.{length-take, append-nil}
use Rattle.schedule.specs.Columns.{at}
use Rattle.results.specs.Results.{written}

-- The first i words are written over.
abbrev pub put_to : (row : ℕ → ℕ) (b : List ℕ) (i : ℕ) → List ℕ
put_to row b i = map row (take i b) ++ drop i b

module _ (row : ℕ → ℕ) (b : List ℕ) (i : ℕ) where
  front : i ≤ length b → length (map row (take i b)) ≡ i
  front h = length-map (take i b) row ∙ length-take-le i b h

  module _ (h : i < length b) where
    -- The word at i is as it was,
    pub put_at : at (put_to row b i) i ≡ at b i
    put_at = rw (drop-cons b i 0 h) (get_or_at (map row (take i b)) (at b i) (drop (suc i) b) 0 i (front (omega arith)))

    -- and is written over next.
    pub put_next : (v : ℕ) → v ≡ row (at b i) → set (put_to row b i) i v ≡ put_to row b (i + 1)
    put_next v e =
        let stored : set (put_to row b i) i v ≡ map row (take i b) ++ v ∷ drop (suc i) b =
        rw (drop-cons b i 0 h) (set_at (map row (take i b)) (at b i) (drop (suc i) b) v i (front (omega arith))) in
        let grown : put_to row b (i + 1) ≡ map row (take i b) ++ row (at b i) ∷ drop (suc i) b =
        rw (add-one, take-suc b i 0 h, map-append) (append_assoc (map row (take i b)) (row (at b i) ∷ []) (drop (suc i) b)) in
        stored ∙ ap (λ (x : ℕ). map row (take i b) ++ x ∷ drop (suc i) b) e ∙ sym grown

-- A word of a part that is written over so is that of the whole,
pub put_place : (row : ℕ → ℕ) (n : ℕ) (ws : List ℕ) (i : ℕ) → i < length (take n ws) → (xs : List ℕ) → xs ≡ put_to row (take n ws) i →
    at xs i ≡ at ws i
put_place row n ws i h xs e =
    let few : i < n = omega (arith, length-take n ws) in
    ap (λ (b : List ℕ). at b i) e ∙ put_at row (take n ws) i h ∙ get_or-take n ws i 0 few

-- and at the end all are.
pub put_all : (row : ℕ → ℕ) (b : List ℕ) (i : ℕ) → i ≡ length b → put_to row b i ≡ map row b
put_all row b i e = rw (e, take-length, drop-length) (append-nil (map row b))

-- An order that is written in places is so written in rows.
module _ (row : ℕ → ℕ) (order b : List ℕ) (n : ℕ) (size : length order ≡ n) where
  pub written_put : written (map row order) b ≡ put_to row (written order b) n
  unfolding written
  written_put =
      rw (take_at order (drop (length order) b) n size, drop_at order (drop (length order) b) n size, length-map order row)
