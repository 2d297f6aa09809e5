-- Runs in front of an order for a bound; whether a bound is kept is decided.
-- Rests on: Picks.
use Rattle.std.specs.Prelude.{◌≡◌, refl, List, [], ◌∷◌, ◌++◌, ℕ, suc, ◌+◌, ◌≤◌, length}
use Rattle.std.proofs.Math.Decide.{dec_le}
use Rattle.std.proofs.Common.{arith}
use Rattle.theory.specs.Jobs.{Job, finish, end_of, Within, due_by, Keeps, Ins, here, there}
use Rattle.theory.specs.Picks.{Run, halt, go, For, for_run, NoOrder, no_pick, no_run}

pub ins_length : {g : Job} {M N : List Job} → Ins g M N → length N ≡ suc (length M)
ins_length here = refl
ins_length (there i) = omega (arith, ins_length i)

pub dec_within : (b : ℕ) (cap : Job → ℕ) (t : ℕ) (π : List Job) → Dec (Within b cap t π)
dec_within b cap t [] = yes tt
dec_within b cap t (j ∷ π) = step (dec_le (finish j t + b) (cap j)) (dec_within b cap (finish j t) π)
  where
    step : Dec (finish j t + b ≤ cap j) → Dec (Within b cap (finish j t) π) → Dec (Within b cap t (j ∷ π))
    step (yes a) (yes c) = yes (a, c)
    step (yes a) (no c) = no (λ w. c w.1)
    step (no a) c = no (λ w. a w.0)

-- A run in front of an order for a bound, or of a search that ends without one.
pub run_for_lem : {bias : ℕ} {y : ℕ} {N : List Job} {t : ℕ} {ω N' θ : List Job} → Run N t ω N' → Keeps bias y t ω → For bias y N'
    (end_of t ω) θ → For bias y N t (ω ++ θ)
run_for_lem (halt s) k f = f
run_for_lem (go d r) k f = for_run d (k.0, tt) (run_for_lem r k.1 f)

pub run_none : {bias : ℕ} {y : ℕ} {N : List Job} {t : ℕ} {ω N' : List Job} → Run N t ω N' → NoOrder bias y N' (end_of t ω) →
    NoOrder bias y N t
run_none (halt s) n = n
run_none (go d r) n = no_run d (run_none r n)

pub run_unkept : {bias : ℕ} {y : ℕ} {N : List Job} {t : ℕ} {ω N' : List Job} → Run N t ω N' → ¬ Keeps bias y t ω → NoOrder bias y N t
run_unkept (halt s) n = absurd (n tt)
run_unkept {bias} {y} {N} (go {t} {f} {M} {ω} d r) n = step (dec_within bias (due_by y) t (f ∷ [])) (λ m. run_unkept r m)
  where
    step : Dec (Keeps bias y t (f ∷ [])) → (¬ Keeps bias y (finish f t) ω → NoOrder bias y M (finish f t)) → NoOrder bias y N t
    step (yes k) below = no_run d (below (λ m. n (k.0, m)))
    step (no k) below = no_pick d k
