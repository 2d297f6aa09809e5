-- The orders of some rows: those that are tried one by one are the permutations, and whatever takes each row out once is one.
-- Assumes nothing.
use Prim.Native.Nat.{ℕ, zero, suc, ◌+◌, ◌≤◌, ◌<◌}
use native.Mathlib.Omega.{arith}
use mathlib.Core.Bool.{Bool, true, false, cond}
use mathlib.Core.Path.{◌≡◌, refl, sym, ap, ◌∙◌, subst}
use mathlib.Core.List.Permᴰ
use mathlib.Core.List.{List, [], ◌∷◌, ◌++◌, map, flat_map, Permᴰ}
use mathlib.Core.List.Memᴰ
use mathlib.Core.List.{Memᴰ}
use mathlib.Core.Logic.{◌⊎◌, inl, inr}
use lib.Dec.{T, eqb, eqb→eq, eqb_refl}
use lib.ListN.{length}
use Rattle.schedule.specs.Rows.{without, without_all}
use Rattle.schedule.specs.Plans.{orders_of}

-- How often i stands in a list.
abbrev pub one : Bool → ℕ
one true = 1
one false = 0

unfoldable pub count : ℕ → List ℕ → ℕ
count i [] = 0
count i (j ∷ js) = one (eqb i j) + count i js

-- The list o holds each number as often as left does.
abbrev pub Same : List ℕ → List ℕ → Type 0
Same o left = (i : ℕ) → count i o ≡ count i left

-- A row of the list, taken out: the counts and the length.
pub count_without : (i : ℕ) (left : List ℕ) → Memᴰ i left → (k : ℕ) → count k left ≡ one (eqb k i) + count k (without i left)
unfolding count without
count_without i [] m k = absurd (Memᴰ.not-nil m)
count_without i (j ∷ js) m k = go (eqb i j) refl (Memᴰ.cases_cons m) (λ n. count_without i js n k)
  where
    go : (b : Bool) → eqb i j ≡ b → (i ≡ j) ⊎ Memᴰ i js → (Memᴰ i js → count k js ≡ one (eqb k i) + count k (without i js)) →
        one (eqb k j) + count k js ≡ one (eqb k i) + count k (cond b js (j ∷ without i js))
    go true e c f = let h : i ≡ j = eqb→eq i j (subst T (sym e) tt) in ap (λ (x : ℕ). one (eqb k x) + count k js) (sym h)
    go false e (inl h) f = absurd (subst T (ap (eqb i) h ∙ e) (eqb_refl i))
    go false e (inr n) f = let h : count k js ≡ one (eqb k i) + count k (without i js) = f n in omega arith

pub length_without : (i : ℕ) (left : List ℕ) → Memᴰ i left → length left ≡ suc (length (without i left))
unfolding without
length_without i [] m = absurd (Memᴰ.not-nil m)
length_without i (j ∷ js) m = go (eqb i j) refl (Memᴰ.cases_cons m) (length_without i js)
  where
    go : (b : Bool) → eqb i j ≡ b → (i ≡ j) ⊎ Memᴰ i js → (Memᴰ i js → length js ≡ suc (length (without i js))) →
        suc (length js) ≡ suc (length (cond b js (j ∷ without i js)))
    go true e c f = refl
    go false e (inl h) f = absurd (subst T (ap (eqb i) h ∙ e) (eqb_refl i))
    go false e (inr n) f = ap suc (f n)

pub count_mem : (i : ℕ) (left : List ℕ) → 0 < count i left → Memᴰ i left
unfolding count
count_mem i [] h = let z : ⊥ = omega arith in absurd z
count_mem i (j ∷ js) h = go (eqb i j) (eqb→eq i j) h (count_mem i js)
  where
    go : (b : Bool) → (T b → i ≡ j) → 0 < one b + count i js → (0 < count i js → Memᴰ i js) → Memᴰ i (j ∷ js)
    go true e l f = Memᴰ.head (e tt)
    go false e l f = Memᴰ.tail (f (omega arith))

one_T : (b : Bool) → T b → one b ≡ 1
one_T true t = refl
one_T false t = absurd t

pub mem_count : (i : ℕ) (left : List ℕ) → Memᴰ i left → 0 < count i left
mem_count i left m = omega (arith, count_without i left m i, one_T (eqb i i) (eqb_refl i))

-- What stands once in a list and at its front does not stand after it.
pub once_first : (i : ℕ) (is : List ℕ) → count i (i ∷ is) ≤ 1 → ¬ Memᴰ i is
unfolding count
once_first i is h m = omega (arith, mem_count i is m, one_T (eqb i i) (eqb_refl i))

module _ {A B : Type 0} where
  flat_make : (f : A → List B) (l : List A) (a : A) (b : B) → Memᴰ a l → Memᴰ b (f a) → Memᴰ b (flat_map f l)
  unfolding flat_map
  flat_make f [] a b m n = absurd (Memᴰ.not-nil m)
  flat_make f (x ∷ xs) a b m n = go (Memᴰ.cases_cons m) (λ k. flat_make f xs a b k n)
    where
      go : (a ≡ x) ⊎ Memᴰ a xs → (Memᴰ a xs → Memᴰ b (flat_map f xs)) → Memᴰ b (f x ++ flat_map f xs)
      go (inl e) g = Memᴰ.append_left (flat_map f xs) (subst (λ (y : A). Memᴰ b (f y)) e n)
      go (inr k) g = Memᴰ.append_right (f x) (g k)

  flat_cases : (f : A → List B) (l : List A) (b : B) → Memᴰ b (flat_map f l) → (a : A) × Memᴰ a l × Memᴰ b (f a)
  unfolding flat_map
  flat_cases f [] b m = absurd (Memᴰ.not-nil m)
  flat_cases f (x ∷ xs) b m = go (Memᴰ.append_cases (f x) m) (flat_cases f xs b)
    where
      go : Memᴰ b (f x) ⊎ Memᴰ b (flat_map f xs) → (Memᴰ b (flat_map f xs) → (a : A) × Memᴰ a xs × Memᴰ b (f a)) →
          (a : A) × Memᴰ a (x ∷ xs) × Memᴰ b (f a)
      go (inl n) g = (x, Memᴰ.head refl, n)
      go (inr n) g = let r = g n in (r.0, Memᴰ.tail r.1, r.2)

  map_cases : (f : A → B) (l : List A) (b : B) → Memᴰ b (map f l) → (a : A) × Memᴰ a l × (b ≡ f a)
  map_cases f [] b m = absurd (Memᴰ.not-nil m)
  map_cases f (x ∷ xs) b m = go (Memᴰ.cases_cons m) (map_cases f xs b)
    where
      go : (b ≡ f x) ⊎ Memᴰ b (map f xs) → (Memᴰ b (map f xs) → (a : A) × Memᴰ a xs × (b ≡ f a)) → (a : A) × Memᴰ a
          (x ∷ xs) × (b ≡ f a)
      go (inl e) g = (x, Memᴰ.head refl, e)
      go (inr n) g = let r = g n in (r.0, Memᴰ.tail r.1, r.2)

-- An order's first row is one of the list, and the rest is an order of the others.
pub orders_make : (n : ℕ) (left : List ℕ) (i : ℕ) (o : List ℕ) → Memᴰ i left → Memᴰ o (orders_of n (without i left)) → Memᴰ
    (i ∷ o) (orders_of (suc n) left)
unfolding orders_of
orders_make n left i o m k =
    flat_make (λ j. map (λ order. j ∷ order) (orders_of n (without j left))) left i (i ∷ o) m (Memᴰ.map (λ order. i ∷ order) k)

pub orders_cases : (n : ℕ) (left o : List ℕ) → Memᴰ o (orders_of (suc n) left) →
    (i : ℕ) × (r : List ℕ) × Memᴰ i left × Memᴰ r (orders_of n (without i left)) × (o ≡ i ∷ r)
unfolding orders_of
orders_cases n left o m =
    let a = flat_cases (λ j. map (λ order. j ∷ order) (orders_of n (without j left))) left o m in
    let b = map_cases (λ order. a.0 ∷ order) (orders_of n (without a.0 left)) o a.2 in
    (a.0, b.0, a.1, b.1, b.2)

pub orders_length : (n : ℕ) (left o : List ℕ) → Memᴰ o (orders_of n left) → length o ≡ n
orders_length zero left o m = unfold orders_of in ap {B = ℕ} length (Memᴰ.eq_of_singleton m)
orders_length (suc n) left o m =
    let c = orders_cases n left o m in
    ap {B = ℕ} length c.4 ∙ ap suc (orders_length n _ c.1 c.3)

-- Each order holds what the list holds,
pub orders_same : (n : ℕ) (left o : List ℕ) → length left ≡ n → Memᴰ o (orders_of n left) → Same o left
unfolding count orders_of
orders_same zero [] o l m i = ap (count i) (Memᴰ.eq_of_singleton m)
orders_same zero (j ∷ js) o l m i = let z : ⊥ = omega arith in absurd z
orders_same (suc n) left o l m i =
    let c = orders_cases n left o m in
    let h : length left ≡ suc (length (without c.0 left)) = length_without c.0 left c.2 in
    let r : count i c.1 ≡ count i (without c.0 left) = orders_same n (without c.0 left) c.1 (omega arith) c.3 i in
    let w : count i left ≡ one (eqb i c.0) + count i (without c.0 left) = count_without c.0 left c.2 i in
    ap (count i) c.4 ∙ omega arith

-- and each list that does is an order.
pub same_orders : (n : ℕ) (left o : List ℕ) → length left ≡ n → length o ≡ n → Same o left → Memᴰ o (orders_of n left)
unfolding count orders_of
same_orders zero [] [] l k s = Memᴰ.head refl
same_orders zero [] (i ∷ r) l k s = let z : ⊥ = omega arith in absurd z
same_orders zero (j ∷ js) o l k s = let z : ⊥ = omega arith in absurd z
same_orders (suc n) left [] l k s = let z : ⊥ = omega arith in absurd z
same_orders (suc n) left (i ∷ r) l k s = orders_make n left i r m
    (same_orders n (without i left) r (omega (arith, length_without i left m)) (omega arith) rest)
  where
    m : Memᴰ i left
    m = count_mem i left (omega (arith, s i, one_T (eqb i i) (eqb_refl i)))

    rest : Same r (without i left)
    rest k = omega (arith, s k, count_without i left m k)

pub perm_count : {o left : List ℕ} → Permᴰ o left → (length o ≡ length left) × Same o left
unfolding count
perm_count Permᴰ.nil = (refl, λ k. refl)
perm_count (Permᴰ.cons e p) = let r = perm_count p in (ap suc r.0, λ k. omega (arith, ap (λ (x : ℕ). one (eqb k x)) e, r.1 k))
perm_count (Permᴰ.swap e f) = (refl, λ k. omega (arith, ap (λ (x : ℕ). one (eqb k x)) e, ap (λ (x : ℕ). one (eqb k x)) f))
perm_count (Permᴰ.trans p q) = let r = perm_count p in let s = perm_count q in (r.0 ∙ s.0, λ k. r.1 k ∙ s.1 k)

-- What holds of each row of a list holds of each row of an order of it.
pub perm_all : (P : ℕ → Type 0) {o left : List ℕ} → Permᴰ o left → ((i : ℕ) → Memᴰ i left → P i) → (i : ℕ) → Memᴰ i o → P i
perm_all P Permᴰ.nil h i m = h i m
perm_all P (Permᴰ.cons e p) h i (Memᴰ.head q) = h i (Memᴰ.head (q ∙ e))
perm_all P (Permᴰ.cons e p) h i (Memᴰ.tail m) = perm_all P p (λ j n. h j (Memᴰ.tail n)) i m
perm_all P (Permᴰ.swap e f) h i (Memᴰ.head q) = h i (Memᴰ.tail (Memᴰ.head (q ∙ e)))
perm_all P (Permᴰ.swap e f) h i (Memᴰ.tail (Memᴰ.head q)) = h i (Memᴰ.head (q ∙ f))
perm_all P (Permᴰ.swap e f) h i (Memᴰ.tail (Memᴰ.tail m)) = h i (Memᴰ.tail (Memᴰ.tail m))
perm_all P (Permᴰ.trans p q) h i m = perm_all P p (perm_all P q h) i m

pub perm_orders : (n : ℕ) (left o : List ℕ) → length left ≡ n → Permᴰ o left → Memᴰ o (orders_of n left)
perm_orders n left o l p = let r = perm_count p in same_orders n left o l (r.0 ∙ l) r.1

pub perm_without : (i : ℕ) (left : List ℕ) → Memᴰ i left → Permᴰ (i ∷ without i left) left
unfolding without
perm_without i [] m = absurd (Memᴰ.not-nil m)
perm_without i (j ∷ js) m = go (eqb i j) refl (Memᴰ.cases_cons m) (perm_without i js)
  where
    go : (b : Bool) → eqb i j ≡ b → (i ≡ j) ⊎ Memᴰ i js → (Memᴰ i js → Permᴰ (i ∷ without i js) js) → Permᴰ
        (i ∷ cond b js (j ∷ without i js)) (j ∷ js)
    go true e c f = Permᴰ.cons (eqb→eq i j (subst T (sym e) tt)) (Permᴰ.refl js)
    go false e (inl h) f = absurd (subst T (ap (eqb i) h ∙ e) (eqb_refl i))
    go false e (inr n) f = Permᴰ.trans (Permᴰ.swap refl refl) (Permᴰ.cons refl (f n))

pub orders_perm : (n : ℕ) (left o : List ℕ) → length left ≡ n → Memᴰ o (orders_of n left) → Permᴰ o left
orders_perm zero [] o l m = unfold orders_of in subst (λ (x : List ℕ). Permᴰ x []) (sym (Memᴰ.eq_of_singleton m)) Permᴰ.nil
orders_perm zero (j ∷ js) o l m = let z : ⊥ = omega arith in absurd z
orders_perm (suc n) left o l m =
    let c = orders_cases n left o m in
    let p = orders_perm n (without c.0 left) c.1 (omega (arith, length_without c.0 left c.2)) c.3 in
    subst (λ (x : List ℕ). Permᴰ x left) (sym c.4) (Permᴰ.trans (Permᴰ.cons refl p) (perm_without c.0 left c.2))

pub mem_without : {k : ℕ} (i : ℕ) (left : List ℕ) → Memᴰ k (without i left) → Memᴰ k left
unfolding without
mem_without i [] m = m
mem_without {k} i (j ∷ js) m = step (eqb i j) m (mem_without i js)
  where
    step : (b : Bool) → Memᴰ k (cond b js (j ∷ without i js)) → (Memᴰ k (without i js) → Memᴰ k js) → Memᴰ k (j ∷ js)
    step true m f = Memᴰ.tail m
    step false m f = cases (Memᴰ.cases_cons m)
      where
        cases : (k ≡ j) ⊎ Memᴰ k (without i js) → Memᴰ k (j ∷ js)
        cases (inl e) = Memᴰ.head e
        cases (inr n) = Memᴰ.tail (f n)

-- Rows taken out of a list one after another.
abbrev pub Takes : List ℕ → List ℕ → Type 0
Takes [] left = Unit {0}
Takes (i ∷ is) left = Memᴰ i left × Takes is (without i left)

pub takes_append : (a b left : List ℕ) → Takes a left → Takes b (without_all a left) → Takes (a ++ b) left
unfolding without_all
takes_append [] b left h k = k
takes_append (i ∷ is) b left h k = (h.0, takes_append is b (without i left) h.1 k)

pub takes_mem : (a left : List ℕ) → Takes a left → (i : ℕ) → Memᴰ i a → Memᴰ i left
takes_mem [] left h i m = absurd (Memᴰ.not-nil m)
takes_mem (j ∷ js) left h i (Memᴰ.head e) = subst (λ (k : ℕ). Memᴰ k left) (sym e) h.0
takes_mem (j ∷ js) left h i (Memᴰ.tail m) = mem_without j left (takes_mem js (without j left) h.1 i m)

pub takes_length : (a left : List ℕ) → Takes a left → length left ≡ length a + length (without_all a left)
unfolding without_all
takes_length [] left h = omega arith
takes_length (i ∷ is) left h = omega (arith, length_without i left h.0, takes_length is (without i left) h.1)

pub takes_orders : (n : ℕ) (order left : List ℕ) → length order ≡ n → Takes order left → Memᴰ order (orders_of n left)
takes_orders zero [] left l h = unfold orders_of in Memᴰ.head refl
takes_orders zero (i ∷ is) left l h = let z : ⊥ = omega arith in absurd z
takes_orders (suc n) [] left l h = let z : ⊥ = omega arith in absurd z
takes_orders (suc n) (i ∷ is) left l h = orders_make n left i is h.0 (takes_orders n is (without i left) (omega arith) h.1)
