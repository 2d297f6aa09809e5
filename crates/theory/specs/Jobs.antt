-- Jobs at one machine: when a job starts and ends, orders of jobs, and bounds on lateness. What every other file of the theory rests on.
-- Rests on nothing.
use Rattle.std.specs.Prelude.{List, [], ◌∷◌, ℕ, ◌+◌, ◌≤◌, max}

-- A job may start from its release on, takes its length without a break, and is due at its due.
pub record Job : Type 0 where
  pub release : ℕ
  pub length : ℕ
  pub due : ℕ

-- At the minute t a job is ready at the later of t and its release ..
unfoldable pub ready : Job → ℕ → ℕ
ready j t = max t j.release

-- .. and, taken then, ends its length later.
unfoldable pub finish : Job → ℕ → ℕ
finish j t = max t j.release + j.length

-- The end of jobs taken one after another from the minute t on.
abbrev pub end_of : ℕ → List Job → ℕ
end_of t [] = t
end_of t (j ∷ π) = end_of (finish j t) π

-- Each job ends by its cap, less the bias b.
abbrev pub Within : ℕ → (Job → ℕ) → ℕ → List Job → Type 0
Within b cap t [] = Unit {0}
Within b cap t (j ∷ π) = (finish j t + b ≤ cap j) × Within b cap (finish j t) π

abbrev pub due_by : ℕ → Job → ℕ
due_by y j = j.due + y

-- Each job is late by at most y less the bias: bounds below zero have a bias, and all of the theory is in naturals.
abbrev pub Keeps : ℕ → ℕ → ℕ → List Job → Type 0
Keeps b y t π = Within b (due_by y) t π

pub data In {A : Type 0} (j : A) : List A → Type 0 where
  first : {l : List A} → In j (j ∷ l)
  later : {x : A} {l : List A} → In j l → In j (x ∷ l)

-- Ins f l' l: l is l' with f put in somewhere.
pub data Ins : Job → List Job → List Job → Type 0 where
  here : {f : Job} {l : List Job} → Ins f l (f ∷ l)
  there : {f x : Job} {l' l : List Job} → Ins f l' l → Ins f (x ∷ l') (x ∷ l)

-- Order π N: π is an order of N, the jobs of N taken one by one, each once.
pub data Order : List Job → List Job → Type 0 where
  done : Order [] []
  next : {j : Job} {π N' N : List Job} → Ins j N' N → Order π N' → Order (j ∷ π) N
