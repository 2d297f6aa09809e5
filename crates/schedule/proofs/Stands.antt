-- Whether a number stands among others: none, one more in front, one more behind. It does exactly if it is a member of them.
-- Assumes nothing.
use Prim.Native.Nat.{ℕ, ◌+◌, ◌<◌}
use native.Mathlib.Numerals.{add-one}
use mathlib.Core.Bool.{Bool, true, false, ◌||◌, or-false, or_assoc}
use mathlib.Core.Path.{◌≡◌, refl, sym}
use mathlib.Core.List.{List, [], ◌∷◌, ◌++◌, Memᴰ}
use lib.Dec.{eqb}
use lib.ListN.{length, take, get_or}
use lib.Seq.{take-suc}
use borrow.Author.Tests.{eqb-true, eq-eqb}
use Rattle.schedule.specs.Rows.{stands}
use Rattle.schedule.proofs.Tests.{false_is_true, or_true}

pub stands_none : (n : ℕ) → stands n [] ≡ false
unfolding stands
stands_none n = refl

pub stands_more : (n m : ℕ) (ms : List ℕ) → stands n (m ∷ ms) ≡ (eqb n m || stands n ms)
unfolding stands
stands_more n m ms = refl

pub stands_behind : (n : ℕ) (ms : List ℕ) (m : ℕ) → stands n (ms ++ (m ∷ [])) ≡ (stands n ms || eqb n m)
unfolding stands
stands_behind n [] m = or-false (eqb n m)
stands_behind n (k ∷ ks) m = rw (stands_behind n ks m) (sym (or_assoc (eqb n k) (stands n ks) (eqb n m)))

pub stands_on : (n : ℕ) (ms : List ℕ) (i : ℕ) → i < length ms → stands n (take (i + 1) ms) ≡ (stands n (take i ms) || eqb n (get_or ms i 0))
stands_on n ms i h = rw (add-one, take-suc ms i 0 h) (stands_behind n (take i ms) (get_or ms i 0))

pub stands_mem : (n : ℕ) (ms : List ℕ) → stands n ms ≡ true → Memᴰ n ms
unfolding stands
stands_mem n [] e = false_is_true e
stands_mem n (m ∷ ms) e = go (eqb n m) refl e (stands_mem n ms)
  where
    go : (b : Bool) → eqb n m ≡ b → (b || stands n ms) ≡ true → (stands n ms ≡ true → Memᴰ n ms) → Memᴰ n (m ∷ ms)
    go true q e f = Memᴰ.head (eqb-true n m q)
    go false q e f = Memᴰ.tail (f e)

pub mem_stands : (n : ℕ) (ms : List ℕ) → Memᴰ n ms → stands n ms ≡ true
mem_stands n [] x' = elim x' [ ]
mem_stands n (m ∷ ms) (Memᴰ.head e) = rw (stands_more n m ms, eq-eqb n m e)
mem_stands n (m ∷ ms) (Memᴰ.tail t) = rw (stands_more n m ms, mem_stands n ms t) (or_true (eqb n m))
