-- Agreement, picks, decided and undecided, runs, blocks, and the order for a bound, as relations. Ties beyond ready and due are left open.
-- Rests on: Jobs.
use Rattle.std.specs.Prelude.{List, [], ◌∷◌, ◌++◌, ℕ, ◌+◌, ◌≤◌, ◌<◌}
use Rattle.theory.specs.Jobs.{Job, ready, finish, end_of, Keeps, In, Ins}

-- Agreement, all that is used of the ordering rule: of two jobs, the one due later has no more spare (due less release less length).
abbrev pub Agree : List Job → Type 0
Agree N = (i j : Job) → In i N → In j N → i.due < j.due → i.release + i.length + j.due ≤ j.release + j.length + i.due

-- Pick N t f M: f is a first pick of the jobs N at t (least ready, of equals due first), and M is N without it.
pub record Pick (N : List Job) (t : ℕ) (f : Job) (M : List Job) : Type 0 where
  pub taken : Ins f M N
  pub least : (j : Job) → In j N → ready f t ≤ ready j t
  pub ties : (j : Job) → In j N → j.due < f.due → ready f t < ready j t

pub data Decided : List Job → ℕ → Job → List Job → Type 0 where
  alone : {N : List Job} {t : ℕ} {f : Job} → Pick N t f [] → Decided N t f []
  sooner : {N : List Job} {t : ℕ} {f : Job} {M : List Job} {s : Job} {L : List Job} → Pick N t f M → Pick M t s L → f.due ≤ s.due →
      Decided N t f M

pub record Undecided (N : List Job) (t : ℕ) (f : Job) (M : List Job) (s : Job) (L : List Job) : Type 0 where
  pub one : Pick N t f M
  pub two : Pick M t s L
  pub open_due : s.due < f.due

pub data Stopped : List Job → ℕ → Type 0 where
  empty : {t : ℕ} → Stopped [] t
  undecided : {N : List Job} {t : ℕ} {f : Job} {M : List Job} {s : Job} {L : List Job} → Undecided N t f M s L → Stopped N t

-- Run N t ω N': the first picks ω as long as decided, and N' is left.
pub data Run : List Job → ℕ → List Job → List Job → Type 0 where
  halt : {N : List Job} {t : ℕ} → Stopped N t → Run N t [] N
  go : {N : List Job} {t : ℕ} {f : Job} {M ω N' : List Job} → Decided N t f M → Run M (finish f t) ω N' → Run N t (f ∷ ω) N'

-- The blocks of an undecided (N, t): the first pick and the run after it, the second pick and the run after it.
pub record BlockOne (N : List Job) (t : ℕ) (f : Job) (ω N' : List Job) (s : Job) : Type 0 where
  pub M : List Job
  pub L : List Job
  pub open_at : Undecided N t f M s L
  pub run : Run M (finish f t) ω N'

pub record BlockTwo (N : List Job) (t : ℕ) (s : Job) (ω N' : List Job) : Type 0 where
  pub M : List Job
  pub without : Ins s M N
  pub run : Run M (finish s t) ω N'

-- For bias y N t θ: θ is the order for the bound y less the bias.
pub data For (bias : ℕ) (y : ℕ) : List Job → ℕ → List Job → Type 0 where
  for_none : {t : ℕ} → For bias y [] t []
  for_run : {N : List Job} {t : ℕ} {f : Job} {M θ : List Job} → Decided N t f M → Keeps bias y t (f ∷ []) → For bias y M (finish f t) θ →
      For bias y N t (f ∷ θ)
  for_one : {N : List Job} {t : ℕ} {f : Job} {ω₁ N₁ : List Job} {s : Job} {θ : List Job} → BlockOne N t f ω₁ N₁ s
      → Keeps bias y t (f ∷ ω₁) → For bias y N₁ (end_of t (f ∷ ω₁)) θ → For bias y N t (f ∷ (ω₁ ++ θ))
  for_two : {N : List Job} {t : ℕ} {f : Job} {ω₁ N₁ : List Job} {s : Job} {ω₂ N₂ θ : List Job} → BlockOne N t f ω₁ N₁ s
      → ¬ Keeps bias y t (f ∷ ω₁) → BlockTwo N t s ω₂ N₂ → Keeps bias y t (s ∷ ω₂) → For bias y N₂ (end_of t (s ∷ ω₂)) θ → For bias y N t
      (s ∷ (ω₂ ++ θ))

-- NoOrder bias y N t: the search for an order for the bound y ends without one.
pub data NoOrder (bias : ℕ) (y : ℕ) : List Job → ℕ → Type 0 where
  no_pick : {N : List Job} {t : ℕ} {f : Job} {M : List Job} → Decided N t f M → ¬ Keeps bias y t (f ∷ []) → NoOrder bias y N t
  no_run : {N : List Job} {t : ℕ} {f : Job} {M : List Job} → Decided N t f M → NoOrder bias y M (finish f t) → NoOrder bias y N t
  no_one : {N : List Job} {t : ℕ} {f : Job} {ω₁ N₁ : List Job} {s : Job} → BlockOne N t f ω₁ N₁ s
      → Keeps bias y t (f ∷ ω₁) → NoOrder bias y N₁ (end_of t (f ∷ ω₁)) → NoOrder bias y N t
  no_block : {N : List Job} {t : ℕ} {f : Job} {ω₁ N₁ : List Job} {s : Job} {ω₂ N₂ : List Job} → BlockOne N t f ω₁ N₁ s
      → ¬ Keeps bias y t (f ∷ ω₁) → BlockTwo N t s ω₂ N₂ → ¬ Keeps bias y t (s ∷ ω₂) → NoOrder bias y N t
  no_two : {N : List Job} {t : ℕ} {f : Job} {ω₁ N₁ : List Job} {s : Job} {ω₂ N₂ : List Job} → BlockOne N t f ω₁ N₁ s
      → ¬ Keeps bias y t (f ∷ ω₁) → BlockTwo N t s ω₂ N₂ → NoOrder bias y N₂ (end_of t (s ∷ ω₂)) → NoOrder bias y N t
