-- Plans on a list: those that are read back from a buffer, the first that beats a pair, and the k-th.
-- Assumes nothing.
use Prim.Native.Nat.{ℕ, zero, suc, ◌+◌, ◌-◌, ◌≤◌}
use native.Mathlib.Omega.{arith}
use mathlib.Core.Bool.{Bool, true, false, cond}
use mathlib.Core.Path.{◌≡◌, refl, sym, ap, ◌∙◌, subst}
use mathlib.Core.List.Memᴰ
use mathlib.Core.List.{List, [], ◌∷◌, ◌++◌, Memᴰ}
use mathlib.Core.Logic.{◌⊎◌, inl, inr}
use mathlib.Core.Option.{Option, none, some, none-ne-some, some-injective}
use lib.ListN.{length, get_elem?}
use lib.IntN.{ℤ, pos, negsuc}
use borrow.Author.Tests.{le-ltb, lt-ltb}
use Rattle.schedule.specs.Desk.{Pair}
use Rattle.schedule.specs.Plans.{beats, Beats, first_beating}
use Rattle.schedule.specs.Cover.{Rising}
use Rattle.schedule.proofs.Tests.{is_true, is_false}
use Rattle.schedule.proofs.Signed.{up, down}
use Rattle.schedule.proofs.Beats.{beats_says, unbeaten_says}
use Rattle.results.specs.Results.{complement, signed, plan_words, plans_in}
use Rattle.outcomes.specs.Planning.{nth}

-- Two's complement gives a signed 32-bit number back.
pub signed_back : (z : ℤ) → up z ≤ 2147483647 + down z → down z ≤ up z + 2147483648 → signed (complement z) ≡ z
unfolding signed complement
signed_back (pos n) h k = ap (λ (c : Bool). cond c (pos n) (negsuc (4294967295 - n))) (lt-ltb n 2147483648 (omega arith))
signed_back (negsuc n) h k =
    ap (λ (c : Bool). cond c (pos (4294967295 - n)) (negsuc (4294967295 - (4294967295 - n))))
    (le-ltb (4294967295 - n) 2147483648 (omega arith)) ∙ ap negsuc (omega arith)

pub plans_back : (ps : List Pair) (rest : List ℕ) → ((p : Pair) → Memᴰ p ps → signed (complement p.late) ≡ p.late) →
    plans_in (length ps) (plan_words ps ++ rest) ≡ ps
unfolding plans_in plan_words
plans_back [] rest h = refl
plans_back (p ∷ ps) rest h = λ i.
    record { end = p.end; late = h p (Memᴰ.head refl) i } ∷ plans_back ps rest (λ q m. h q (Memᴰ.tail m)) i

-- The first listed plan that beats a pair, with its place on the list; or none does.
abbrev pub First : ℕ → List Pair → Pair → Option ℕ → Type 0
First i ps q none = (p : Pair) → Memᴰ p ps → ¬ Beats p q
First i ps q (some k) = (j : ℕ) × (k ≡ i + j) × (p : Pair) × (get_elem? ps j ≡ some p) × Beats p q ×
    ((h : ℕ) (r : Pair) → get_elem? ps h ≡ some r → Beats r q → j ≤ h)

pub first_beating_lem : (i : ℕ) (ps : List Pair) (q : Pair) → First i ps q (first_beating i ps q)
unfolding first_beating
first_beating_lem i [] q = λ p m. absurd (Memᴰ.not-nil m)
first_beating_lem i (r ∷ rs) q = step (beats r q) refl (first_beating_lem (suc i) rs q)
  where
    later : ¬ Beats r q → (o : Option ℕ) → First (suc i) rs q o → First i (r ∷ rs) q o
    later n none f = λ p m. here p (Memᴰ.cases_cons m)
      where
        here : (p : Pair) → (p ≡ r) ⊎ Memᴰ p rs → ¬ Beats p q
        here p (inl e) = subst (λ (x : Pair). ¬ Beats x q) (sym e) n
        here p (inr m) = f p m
    later n (some k) (j, e, p, at, b, least) = (suc j, omega arith, p, at, b, after)
      where
        after : (h : ℕ) (x : Pair) → get_elem? (r ∷ rs) h ≡ some x → Beats x q → suc j ≤ h
        after zero x g c = absurd (n (subst (λ (y : Pair). Beats y q) (sym (some-injective r x g)) c))
        after (suc h) x g c = omega (arith, least h x g c)

    step : (b : Bool) → beats r q ≡ b → First (suc i) rs q (first_beating (suc i) rs q) →
        First i (r ∷ rs) q (cond b (some i) (first_beating (suc i) rs q))
    step true e f = (0, omega arith, r, refl, (beats_says r q).0 (is_true _ e), λ h x g c. omega arith)
    step false e f = later ((unbeaten_says r q).0 (is_false _ e)) (first_beating (suc i) rs q) f

-- A plan on the list stands at a place of it; and of two, the one that stands further on ends later.
pub mem_elem : {p : Pair} (ps : List Pair) → Memᴰ p ps → (j : ℕ) × (get_elem? ps j ≡ some p)
mem_elem [] m = absurd (Memᴰ.not-nil m)
mem_elem {p} (q ∷ qs) m = step (Memᴰ.cases_cons m) (mem_elem qs)
  where
    step : (p ≡ q) ⊎ Memᴰ p qs → (Memᴰ p qs → (j : ℕ) × (get_elem? qs j ≡ some p)) → (j : ℕ) × (get_elem? (q ∷ qs) j ≡ some p)
    step (inl e) f = (0, ap some (sym e))
    step (inr n) f = let u = f n in (suc u.0, u.1)

-- What is found at a place of a list is on it.
abbrev OnIt : List Pair → Option Pair → Type 0
OnIt ps none = Unit {0}
OnIt ps (some p) = Memᴰ p ps

elem_on : (ps : List Pair) (k : ℕ) → OnIt ps (get_elem? ps k)
elem_on [] k = tt
elem_on (p ∷ ps) zero = Memᴰ.head refl
elem_on (p ∷ ps) (suc k) = down (get_elem? ps k) (elem_on ps k)
  where
    down : (o : Option Pair) → OnIt ps o → OnIt (p ∷ ps) o
    down none m = tt
    down (some q) m = Memᴰ.tail m

nth_on : (ps : List Pair) (k : ℕ) → OnIt ps (nth ps k)
unfolding nth
nth_on ps zero = tt
nth_on ps (suc k) = elem_on ps k

pub nth_mem : (ps : List Pair) (k : ℕ) (p : Pair) → nth ps k ≡ some p → Memᴰ p ps
nth_mem ps k p e = subst (OnIt ps) e (nth_on ps k)

pub elem_mem : (ps : List Pair) (j : ℕ) (p : Pair) → get_elem? ps j ≡ some p → Memᴰ p ps
elem_mem ps j p e = subst (OnIt ps) e (elem_on ps j)

pub later_ends : (ps : List Pair) → Rising ps → (j h : ℕ) (p q : Pair) → get_elem? ps j ≡ some p → get_elem? ps h ≡ some q → j ≤ h →
    p.end ≤ q.end
later_ends [] r j h p q e f l = absurd (none-ne-some p e)
later_ends (x ∷ xs) r zero zero p q e f l = let same : p ≡ q = sym (some-injective x p e) ∙ some-injective x q f in
    omega (arith, ap (λ (y : Pair). y.end) same)
later_ends (x ∷ xs) r zero (suc h) p q e f l =
    let same : x ≡ p = some-injective x p e in
    omega (arith, ap (λ (y : Pair). y.end) same, (r.0 q (elem_mem xs h q f)).0)
later_ends (x ∷ xs) r (suc j) zero p q e f l = let z : ⊥ = omega arith in absurd z
later_ends (x ∷ xs) r (suc j) (suc h) p q e f l = later_ends xs r.1 j h p q e f (omega arith)
