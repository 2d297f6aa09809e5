-- The end of an order for a bound is one of as many numbers as there are jobs: so there are at most as many plans.
-- Rests on: Bound.
use Rattle.std.specs.Prelude.{◌≡◌, refl, ◌⊎◌, List, [], ◌∷◌, ◌++◌, ℕ, ◌+◌, ◌≤◌, ◌<◌, length}
use Rattle.std.proofs.Common.{inl, inr, le_refl, arith}
use Rattle.std.proofs.Math.Decide.{dec_lt, dec_le}
use Rattle.theory.specs.Jobs.{Job, ready, finish, end_of, In, first, later, Ins, here, there, Order, done, next}
use Rattle.theory.specs.Order.{ins_sub, order_in, in_left, in_right, ins_on}
use Rattle.theory.specs.FrontMove.{end_from, end_in}
use Rattle.theory.specs.Picks.{Agree, Pick, Undecided, Run, halt, go, For, for_none, for_run, for_one, for_two}
use Rattle.theory.specs.Bound.{pick_of, run_order, for_order}

-- Sums over a list of jobs.
abbrev pub sum : (Job → ℕ) → List Job → ℕ
sum w [] = 0
sum w (j ∷ l) = w j + sum w l

sum_ins : (w : Job → ℕ) {g : Job} {M N : List Job} → Ins g M N → sum w N ≡ w g + sum w M
sum_ins w here = refl
sum_ins w (there i) = omega (arith, sum_ins w i)

pub sum_order : (w : Job → ℕ) {π N : List Job} → Order π N → sum w π ≡ sum w N
sum_order w done = refl
sum_order w (next i o) = omega (arith, sum_order w o, sum_ins w i)

sum_append : (w : Job → ℕ) (α β : List Job) → sum w (α ++ β) ≡ sum w α + sum w β
sum_append w [] β = omega arith
sum_append w (j ∷ α) β = omega (arith, sum_append w α β)

sum_same : (v w : Job → ℕ) (l : List Job) → ((j : Job) → In j l → v j ≡ w j) → sum v l ≡ sum w l
sum_same v w [] h = refl
sum_same v w (j ∷ l) h = omega (arith, h j first, sum_same v w l (λ k m. h k (later m)))

sum_zero : (w : Job → ℕ) (l : List Job) → ((j : Job) → In j l → w j ≡ 0) → sum w l ≡ 0
sum_zero w [] h = refl
sum_zero w (j ∷ l) h = omega (arith, h j first, sum_zero w l (λ k m. h k (later m)))

abbrev pub long : Job → ℕ
long j = j.length

-- What j counts of k: the length of k where k is released no sooner than j, or due later.
pub only_if : {A : Type 0} → Dec A → ℕ → ℕ → ℕ
only_if (yes a) n m = n
only_if (no a) n m = m

pub counted : Job → Job → ℕ
counted j k = only_if (dec_le j.release k.release) k.length (only_if (dec_lt j.due k.due) k.length 0)

pub end_at : List Job → ℕ → Job → ℕ
end_at N t j = only_if (dec_le j.release t) (t + sum long N) (j.release + sum (counted j) N)

if_yes : {A : Type 0} (d : Dec A) (n m : ℕ) → A → only_if d n m ≡ n
unfolding only_if
if_yes (yes a) n m h = refl
if_yes (no a) n m h = absurd (a h)

if_no : {A : Type 0} (d : Dec A) (n m : ℕ) → ¬ A → only_if d n m ≡ m
unfolding only_if
if_no (yes a) n m h = absurd (h a)
if_no (no a) n m h = refl

abbrev pub Waits : Job → Job → Type 0
Waits j k = (j.release ≤ k.release) ⊎ (j.due < k.due)

counted_waits : (j k : Job) → Waits j k → counted j k ≡ k.length
unfolding counted
counted_waits j k (inl h) = if_yes (dec_le j.release k.release) _ _ h
counted_waits j k (inr h) = step (dec_le j.release k.release)
  where
    step : (d : Dec (j.release ≤ k.release)) → only_if d k.length (only_if (dec_lt j.due k.due) k.length 0) ≡ k.length
    step (yes l) = if_yes (yes l) _ _ l
    step (no l) = omega (
      arith,
      if_no (no l) k.length (only_if (dec_lt j.due k.due) k.length 0) l,
      if_yes
          (dec_lt j.due k.due) k.length 0 h,
    )

counted_not : (j k : Job) → k.release < j.release → k.due ≤ j.due → counted j k ≡ 0
unfolding counted
counted_not j k l d =
    omega (
      arith,
      if_no (dec_le j.release k.release) k.length (only_if (dec_lt j.due k.due) k.length 0) (omega arith),
      if_no (dec_lt j.due k.due) k.length 0 (omega arith),
    )

-- An order built of picks: where a job waits for its release, whatever is left is released no sooner, or due later.
abbrev pub Steps : ℕ → List Job → Type 0
Steps t [] = Unit {0}
Steps t (j ∷ β) = ((k : Job) → In k β → t < j.release → Waits j k) × Steps (finish j t) β

pick_waits : {N : List Job} {t : ℕ} {f : Job} {M : List Job} → Pick N t f M → (k : Job) → In k N → t < f.release → Waits f k
unfolding ready
pick_waits p k m l = inl (omega (arith, p.least k m))

second_waits : {N : List Job} {t : ℕ} {f : Job} {M : List Job} {s : Job} {L : List Job} → Undecided N t f M s L → (k : Job) → In k N →
    t < s.release → Waits s k
second_waits {t} {s} u = ins_on (λ k. t < s.release → Waits s k) u.one.taken (λ l. inr u.open_due) (pick_waits u.two)

run_steps : {N : List Job} {t : ℕ} {ω N' θ : List Job} → Run N t ω N' → Order θ N' → Steps (end_of t ω) θ → Steps t (ω ++ θ)
run_steps (halt h) o s = s
run_steps (go d r) o s = (λ k m. pick_waits (pick_of d) k (ins_sub (pick_of d).taken (order_in (run_order r o) m)), run_steps r o s)

for_steps : {bias : ℕ} {y : ℕ} {N : List Job} {t : ℕ} {θ : List Job} → For bias y N t θ → Steps t θ
for_steps for_none = tt
for_steps (for_run d l r) = (λ k m. pick_waits (pick_of d) k (ins_sub (pick_of d).taken (order_in (for_order r) m)), for_steps r)
for_steps (for_one b h r) = (
  λ k m. pick_waits b.open_at.one k (ins_sub b.open_at.one.taken (order_in (run_order b.run (for_order r)) m)),
  run_steps
      b.run (for_order r) (for_steps r),
)
for_steps (for_two b n c h r) = (
  λ k m. second_waits b.open_at k (ins_sub c.without (order_in (run_order c.run (for_order r)) m)),
  run_steps c.run
      (for_order r) (for_steps r),
)

-- The last stretch without idle time.
data Stretch (t : ℕ) : List Job → Type 0 where
  nothing : Stretch t []
  whole : (j : Job) (θ : List Job) → j.release ≤ t → end_of t (j ∷ θ) ≡ t + (j.length + sum long θ) → Stretch t (j ∷ θ)
  from : (α : List Job) (j : Job) (β : List Job) → end_of t α < j.release → end_of t (α ++ j ∷ β) ≡ j.release + (j.length + sum long β)
      → ((k : Job) → In k β → Waits j k) → Stretch t (α ++ j ∷ β)

stretch_cons : {t : ℕ} {θ : List Job} (j : Job) → Dec (j.release ≤ t) → ((k : Job) → In k θ → t < j.release → Waits j k) → Stretch
    (finish j t) θ → Stretch t (j ∷ θ)
unfolding finish
stretch_cons j (yes h) w nothing = whole j [] h (omega arith)
stretch_cons j (no h) w nothing = from [] j [] (omega arith) (omega arith) (λ k m. w k m (omega arith))
stretch_cons j (yes h) w (whole i θ l e) = whole j (i ∷ θ) h (omega arith)
stretch_cons j (no h) w (whole i θ l e) = from [] j (i ∷ θ) (omega arith) (omega arith) (λ k m. w k m (omega arith))
stretch_cons j d w (from α i β l e v) = from (j ∷ α) i β l e v

stretch : (t : ℕ) (θ : List Job) → Steps t θ → Stretch t θ
stretch t [] s = nothing
stretch t (j ∷ θ) s = stretch_cons j (dec_le j.release t) s.0 (stretch (finish j t) θ s.1)

abbrev pub EndsAt : List Job → ℕ → ℕ → Type 0
EndsAt N t e = (j : Job) × In j N × (e ≡ end_at N t j)

stretch_end : {N : List Job} {t : ℕ} {θ : List Job} → Agree N → Order θ N → 0 < length N → Stretch t θ → EndsAt N t (end_of t θ)
unfolding end_at
stretch_end a done h nothing = absurd (omega arith)
stretch_end {N} {t} a o h (whole j θ l e) = (
  j,
  order_in o first,
  omega (
    arith,
    if_yes (dec_le j.release t) (t + sum long N) (j.release + sum (counted j) N) l,
    sum_order long o,
  ),
)
stretch_end {N} {t} a o h (from α j β l e v) = (
  j,
  order_in o (in_right α first),
  omega (
    arith,
    if_no (dec_le j.release t) (t + sum long N) (j.release + sum (counted j) N) (omega (arith, end_from α t)),
    sum_order (counted j) o,
    sum_append (counted j) α (j ∷ β),
    before,
    counted_waits j j (inl (le_refl _)),
    sum_same (counted j) long β (λ k m. counted_waits j k (v k m)),
  ),
)
  where
    not_later : (k : Job) → In k α → k.due ≤ j.due
    not_later k m = step (dec_lt j.due k.due)
      where
        step : Dec (j.due < k.due) → k.due ≤ j.due
        step (no n) = omega arith
        step (yes n) = omega (arith, a j k (order_in o (in_right α first)) (order_in o (in_left (j ∷ β) m)) n, end_in t m)

    before : sum (counted j) α ≡ 0
    before = sum_zero (counted j) α (λ k m. counted_not j k (omega (arith, end_in t m)) (not_later k m))

pub for_end : {bias : ℕ} {y : ℕ} {N : List Job} {t : ℕ} {θ : List Job} → Agree N → 0 < length N → For bias y N t θ → EndsAt N t (end_of t θ)
for_end {t} {θ} a h f = stretch_end a (for_order f) h (stretch t θ (for_steps f))
