-- Ends and bounds are monotone and split at an append; a least-ready job moved to the front makes no order end later.
-- Rests on: Jobs, Order.
use Rattle.std.specs.Prelude.{◌≡◌, refl, List, [], ◌∷◌, ◌++◌, ℕ, ◌+◌, ◌≤◌}
use Rattle.std.proofs.Common.{le_refl, le_trans, arith}
use Rattle.theory.specs.Jobs.{Job, ready, finish, end_of, Within, due_by, Keeps, In, first, later, Ins, here, there, Order, next}
use Rattle.theory.specs.Order.{ins_in, ins_sub, take_left}

-- A job's end.
pub ready_mono : (g j : Job) (t t' : ℕ) → ready g t ≤ ready j t → t ≤ t' → ready g t' ≤ ready j t'
unfolding ready
ready_mono g j t t' h k = omega arith

pub finish_bound : (j : Job) (t : ℕ) → (t + j.length ≤ finish j t) × (j.release + j.length ≤ finish j t)
unfolding finish
finish_bound j t = omega arith

pub finish_mono : (j : Job) {t t' : ℕ} → t ≤ t' → finish j t ≤ finish j t'
unfolding finish
finish_mono j h = omega arith

pub finish_shift : (j : Job) (t δ : ℕ) → finish j (t + δ) ≤ finish j t + δ
unfolding finish
finish_shift j t δ = omega arith

pub finish_swap : (g x : Job) (t : ℕ) → ready g t ≤ ready x t → finish x (finish g t) ≤ finish g (finish x t)
unfolding ready finish
finish_swap g x t h = omega arith

-- An order's end.
pub end_mono : (π : List Job) {t t' : ℕ} → t ≤ t' → end_of t π ≤ end_of t' π
end_mono [] h = h
end_mono (j ∷ π) h = end_mono π (finish_mono j h)

pub end_shift : (π : List Job) (t δ : ℕ) → end_of (t + δ) π ≤ end_of t π + δ
end_shift [] t δ = le_refl _
end_shift (j ∷ π) t δ = le_trans (end_mono π (finish_shift j t δ)) (end_shift π (finish j t) δ)

pub end_append : (π ρ : List Job) (t : ℕ) → end_of t (π ++ ρ) ≡ end_of (end_of t π) ρ
end_append [] ρ t = refl
end_append (j ∷ π) ρ t = end_append π ρ (finish j t)

pub end_from : (π : List Job) (t : ℕ) → t ≤ end_of t π
end_from [] t = le_refl _
end_from (j ∷ π) t = omega (arith, end_from π (finish j t), finish_bound j t)

-- Each job of an order is done by its end: the start of the order and its own release, plus its length.
pub end_in : {j : Job} {π : List Job} (t : ℕ) → In j π → (t + j.length ≤ end_of t π) × (j.release + j.length ≤ end_of t π)
end_in {j} t (first {l}) = omega (arith, end_from l (finish j t), finish_bound j t)
end_in t (later {x} m) = omega (arith, end_in (finish x t) m, finish_bound x t)

-- Caps are kept from an earlier start, and split at an append.
pub within_mono : (b : ℕ) (cap : Job → ℕ) (π : List Job) {t t' : ℕ} → t ≤ t' → Within b cap t' π → Within b cap t π
within_mono b cap [] h w = w
within_mono b cap (j ∷ π) h w = (omega (arith, finish_mono j h, w.0), within_mono b cap π (finish_mono j h) w.1)

pub within_append : (b : ℕ) (cap : Job → ℕ) (π ρ : List Job) (t : ℕ) → Within b cap t π → Within b cap (end_of t π) ρ → Within b cap t
    (π ++ ρ)
within_append b cap [] ρ t v w = w
within_append b cap (j ∷ π) ρ t v w = (v.0, within_append b cap π ρ (finish j t) v.1 w)

pub within_left : (b : ℕ) (cap : Job → ℕ) (π ρ : List Job) (t : ℕ) → Within b cap t (π ++ ρ) → Within b cap t π
within_left b cap [] ρ t w = tt
within_left b cap (j ∷ π) ρ t w = (w.0, within_left b cap π ρ (finish j t) w.1)

pub within_right : (b : ℕ) (cap : Job → ℕ) (π ρ : List Job) (t : ℕ) → Within b cap t (π ++ ρ) → Within b cap (end_of t π) ρ
within_right b cap [] ρ t w = w
within_right b cap (j ∷ π) ρ t w = within_right b cap π ρ (finish j t) w.1

-- Looser caps, and caps that the end itself meets.
pub within_caps : (b : ℕ) (cap cap' : Job → ℕ) (π : List Job) (t : ℕ) → ((j : Job) → In j π → cap j ≤ cap' j) → Within b cap t π →
    Within b cap' t π
within_caps b cap cap' [] t h w = tt
within_caps b cap cap' (j ∷ π) t h w = (le_trans w.0 (h j first), within_caps b cap cap' π (finish j t) (λ k m. h k (later m)) w.1)

pub within_end : (b : ℕ) (cap : Job → ℕ) (π : List Job) (t : ℕ) → ((j : Job) → In j π → end_of t π + b ≤ cap j) → Within b cap t π
within_end b cap [] t h = tt
within_end b cap (j ∷ π) t h = (omega (arith, end_from π (finish j t), h j first), within_end b cap π (finish j t) (λ k m. h k (later m)))

pub within_in : (b : ℕ) (cap : Job → ℕ) {j : Job} {π : List Job} (t : ℕ) → In j π → Within b cap t π → t + j.length + b ≤ cap j
within_in b cap {j} t first w = omega (arith, finish_bound j t)
within_in b cap t (later {x} m) w = omega (arith, within_in b cap (finish x t) m w.1, finish_bound x t)

pub keeps_mono : {y z : ℕ} (b t : ℕ) (π : List Job) → y ≤ z → Keeps b y t π → Keeps b z t π
keeps_mono {y} {z} b t π h w = within_caps b (due_by y) (due_by z) π t (λ j m. omega arith) w

-- The front move: one job that is least ready.
abbrev pub Least : ℕ → Job → List Job → Type 0
Least t g π = (j : Job) → In j π → ready g t ≤ ready j t

pub least_later : (g x : Job) (t : ℕ) (π : List Job) → Least t g (x ∷ π) → Least (finish x t) g π
least_later g x t π h j m = ready_mono g j t (finish x t) (h j (later m)) (omega (arith, finish_bound x t))

pub front_end : {g : Job} {ρ π : List Job} (t : ℕ) → Ins g ρ π → Least t g π → end_of t (g ∷ ρ) ≤ end_of t π
front_end t here h = le_refl _
front_end {g} t (there {x} {l'} {l} i) h =
    le_trans (end_mono l' (finish_swap g x t (h x first))) (front_end (finish x t) i (least_later g x t l h))

pub front_caps : (b : ℕ) (cap : Job → ℕ) {g : Job} {ρ π : List Job} (t : ℕ) → Ins g ρ π → Least t g π → ((j : Job) → In j π → cap g ≤ cap j)
    → Within b cap t π → Within b cap t (g ∷ ρ)
front_caps b cap t here h c w = w
front_caps b cap {g} t (there {x} {l'} {l} i) h c w =
    let v = front_caps b cap (finish x t) i (least_later g x t l h) (λ j m. c j (later m)) w.1 in
    let s = finish_swap g x t (h x first) in
    let e : finish g t ≤ finish g (finish x t) = finish_mono g (omega (arith, finish_bound x t)) in
    (omega (arith, v.0), (omega (arith, v.0, c x first), within_mono b cap l' s v.1))

-- The front move, iterated: Moved t π ω κ: each job of ω is least ready in what is left of π when it is taken, and κ is left.
pub data Moved : ℕ → List Job → List Job → List Job → Type 0 where
  none : {t : ℕ} {κ : List Job} → Moved t κ [] κ
  take : {t : ℕ} {g : Job} {ρ π ω κ : List Job} → Ins g ρ π → Least t g π → Moved (finish g t) ρ ω κ → Moved t π (g ∷ ω) κ

pub moved_end : {t : ℕ} {π ω κ : List Job} → Moved t π ω κ → end_of t (ω ++ κ) ≤ end_of t π
moved_end none = le_refl _
moved_end (take {t} i h m) = le_trans (moved_end m) (front_end t i h)

pub moved_caps : (b : ℕ) (cap : Job → ℕ) {t : ℕ} {π ω κ : List Job} → Moved t π ω κ →
    ((g : Job) → In g ω → (j : Job) → In j π → cap g ≤ cap j)
    → Within b cap t π → Within b cap t (ω ++ κ)
moved_caps b cap none c w = w
moved_caps b cap (take {t} {g} i h m) c w =
    let v = front_caps b cap t i h (c g first) w in
    (v.0, moved_caps b cap m (λ x n j k. c x (later n) j (ins_sub i k)) v.1)

pub moved_order : {t : ℕ} {π ω κ N : List Job} → Moved t π ω κ → Order π N → Order (ω ++ κ) N
moved_order none o = o
moved_order (take i h m) o = let r = take_left o i in next r.1 (moved_order m r.2)

pub moved_from : {j : Job} {t : ℕ} {π ω κ : List Job} → Moved t π ω κ → In j ω → In j π
moved_from (take i h m) first = ins_in i
moved_from {j = j} (none {t = t} {κ = κ}) x6 = elim x6 [ ]
moved_from (take i h m) (later n) = ins_sub i (moved_from m n)
