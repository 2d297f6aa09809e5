-- Every order has one no worse that starts with the first or the second pick; with the first, where the machine is decided.
-- Rests on: Picks, FrontMove, Order.
use Rattle.std.specs.Prelude.{◌⊎◌, List, [], ◌∷◌, ◌++◌, ℕ, ◌+◌, ◌≤◌, ◌<◌, max}
use Rattle.std.proofs.Common.{inl, inr, le_refl, le_trans, arith}
use Rattle.std.proofs.Math.Decide.{dec_lt}
use Rattle.theory.specs.Jobs.{Job, ready, finish, end_of, Within, due_by, Keeps, In, first, later, Ins, here, there, Order, done, next}
use Rattle.theory.specs.Order.{ins_in, ins_sub, order_in, take_left, take_right, on_nil, on_cons, ins_middle, in_order, in_left}
use Rattle.theory.specs.Order.{in_right}
use Rattle.theory.specs.FrontMove.{finish_bound, finish_mono, finish_swap, end_mono, within_mono, within_append, within_right}
use Rattle.theory.specs.FrontMove.{within_caps, within_end, within_in}
use Rattle.theory.specs.FrontMove.{Least, least_later, Moved, none, take, moved_end, moved_caps, moved_order, moved_from}
use Rattle.theory.specs.Picks.{Agree, Pick, Decided, alone, sooner}

pub agree_sub : (N M : List Job) → ((j : Job) → In j M → In j N) → Agree N → Agree M
agree_sub N M h a i j m n l = a i j (h i m) (h j n) l

-- Domination: where a pick s ends in time after a job j, so does j before it.
pub dominates : {N : List Job} {t : ℕ} {s : Job} {M : List Job} {j : Job} → Agree N → Pick N t s M → In j N → s.due ≤ j.due + s.length
unfolding ready
dominates {N} {t} {s} {M} {j} a p m = step (dec_lt j.due s.due)
  where
    step : Dec (j.due < s.due) → s.due ≤ j.due + s.length
    step (no h) = omega arith
    step (yes h) = omega (arith, a j s m (ins_in p.taken) h, p.ties j m h)

-- No order of what is dominated is late if s still ends in time after it.
pub dominated : (bias : ℕ) (N : List Job) {t : ℕ} {s : Job} {M : List Job} (y t₀ : ℕ) (μ : List Job) → Agree N → Pick N t s M →
    ((j : Job) → In j μ → In j N)
    → end_of t₀ μ + s.length + bias ≤ s.due + y → Keeps bias y t₀ μ
dominated bias N y t₀ μ a p sub h = within_end bias (due_by y) μ t₀ (λ j m. omega (arith, dominates a p (sub j m)))

pub record Better (bias : ℕ) (t : ℕ) (π π' : List Job) : Type 0 where
  pub ends : end_of t π' ≤ end_of t π
  pub keeps : (y : ℕ) → Keeps bias y t π → Keeps bias y t π'

-- Decided. The jobs due before d, all released, to the front.
pub record Parted (d T : ℕ) (ρ : List Job) : Type 0 where
  pub J : List Job
  pub κ : List Job
  pub moved : Moved T ρ J κ
  pub small : (j : Job) → In j J → j.due < d
  pub large : (j : Job) → In j κ → d ≤ j.due
  pub held : (j : Job) → In j ρ → d ≤ j.due → In j κ

released_least : (g x : Job) (t : ℕ) → g.release ≤ t → ready g t ≤ ready x t
unfolding ready
released_least g x t h = omega arith

pub moved_there : {t : ℕ} {ρ J κ : List Job} (x : Job) → Moved t ρ J κ → ((g : Job) → In g J → g.release ≤ t) → Moved t (x ∷ ρ) J (x ∷ κ)
moved_there x none h = none
moved_there x (take {t} {g} {π} i l m) h =
    take (there i) (on_cons (λ j. ready g t ≤ ready j t) x π (released_least g x t (h g first)) l)
    (moved_there x m (λ b n. omega (arith, h b (later n), finish_bound g t)))

pub part : (d T : ℕ) (ρ : List Job) → ((j : Job) → In j ρ → j.due < d → j.release ≤ T) → Parted d T ρ
part d T [] h = record {
  J = [];
  κ = [];
  moved = none;
  small = on_nil (λ j. j.due < d);
  large = on_nil (λ j. d ≤ j.due);
  held = λ j m l. m;
}
part d T (x ∷ ρ) h = step (dec_lt x.due d) (λ T' l. part d T' ρ (λ j m k. omega (arith, h j (later m) k)))
  where
    step : Dec (x.due < d) → ((T' : ℕ) → T ≤ T' → Parted d T' ρ) → Parted d T (x ∷ ρ)
    step (yes s) below =
        let p = below (finish x T) (omega (arith, finish_bound x T)) in
        let r = h x first s in
        record {
          J = x ∷ p.J;
          κ = p.κ;
          moved = take here (λ j m. released_least x j T r) p.moved;
          small = on_cons (λ j. j.due < d) x p.J s p.small;
          large = p.large;
          held = on_cons (λ j. d ≤ j.due → In j p.κ) x ρ (λ l. absurd (omega arith)) p.held;
        }
    step (no s) below =
        let p = below T (le_refl T) in
        record {
          J = p.J;
          κ = x ∷ p.κ;
          moved = moved_there x p.moved (λ j m. h j (later (moved_from p.moved m)) (p.small j m));
          small = p.small;
          large = on_cons (λ j. d ≤ j.due) x p.κ (omega arith) p.large;
          held = on_cons (λ j. d ≤ j.due → In j (x ∷ p.κ)) x ρ (λ l. first) (λ j m l. later (p.held j m l));
        }

decided_alone : {bias : ℕ} {f : Job} {ρ π : List Job} {t : ℕ} → Order ρ [] → Ins f ρ π → Better bias t π (f ∷ ρ)
decided_alone {bias = bias} {f = f} {t = t} (next {j = j} {π = π} x8 _) _ = elim x8 [ ]
decided_alone done here = record { ends = le_refl _; keeps = λ y w. w }

module _ {N : List Job} {t : ℕ} {f : Job} {M : List Job} {s : Job} {L : List Job} (a : Agree N) (p : Pick N t f M) (q : Pick M t s L)
    (le : f.due ≤ s.due) where
  -- A job due before f is released by the time f ends.
  soon : (j : Job) → In j M → j.due < f.due → j.release ≤ finish f t
  soon j m l = omega (arith, a j f (ins_sub p.taken m) (ins_in p.taken) l, finish_bound f t)

  decided_sooner : {bias : ℕ} {ρ π : List Job} → Order π N → Ins f ρ π → Order ρ M → (ρ' : List Job) × Order ρ' M × Better bias t π (f ∷ ρ')
  decided_sooner {bias} {ρ} {π} o i r = (c.J ++ c.κ, moved_order c.moved r, record { ends = moved_end mv; keeps = λ y w. kept y w })
    where
      c : Parted f.due (finish f t) ρ
      c = part f.due (finish f t) ρ (λ j m. soon j (order_in r m))

      mv : Moved t π (f ∷ c.J) c.κ
      mv = take i (λ j m. p.least j (order_in o m)) c.moved

      low : (g : Job) → In g (f ∷ c.J) → g.due ≤ f.due
      low = on_cons (λ g. g.due ≤ f.due) f c.J (le_refl _) (λ g m. omega (arith, c.small g m))

      kept : (y : ℕ) → Keeps bias y t π → Keeps bias y t (f ∷ (c.J ++ c.κ))
      kept y w =
          let cap : Job → ℕ = λ j. max (j.due + y) (f.due + y) in
          let v = moved_caps bias cap mv (λ g m j n. omega (arith, low g m)) (within_caps bias (due_by y) cap π t (λ j m. omega arith) w) in
          let k = within_caps bias cap (due_by y) c.κ (end_of t (f ∷ c.J)) (λ j m. omega (arith, c.large j m))
          (within_right bias cap (f ∷ c.J) c.κ t v) in
          let e = within_in bias (due_by y) (end_of t (f ∷ c.J)) (c.held s (in_order r (ins_in q.taken)) le) k in (
            omega (arith, v.0),
            within_append bias (due_by y) c.J c.κ (finish f t)
                (dominated bias M y (finish f t) c.J (agree_sub N M (λ j m. ins_sub p.taken m) a) q
                (λ j m. order_in r (moved_from c.moved m)) e) k,
          )

pub decided_first : {bias : ℕ} {N : List Job} {t : ℕ} {f : Job} {M π : List Job} → Agree N → Decided N t f M → Order π N →
    (ρ : List Job) × Order ρ M × Better bias t π (f ∷ ρ)
decided_first a (alone p) o = let r = take_right o p.taken in (r.0, r.2, decided_alone r.2 r.1)
decided_first a (sooner p q le) o = let r = take_right o p.taken in decided_sooner a p q le o r.1 r.2

-- First or second first: h stands after g, g is least ready of the jobs before it, and h dominates these.
pub move_end : (g : Job) (t : ℕ) (μ ν : List Job) → Least t g μ → end_of t (g ∷ (μ ++ ν)) ≤ end_of t (μ ++ g ∷ ν)
move_end g t [] ν h = le_refl _
move_end g t (x ∷ μ) ν h = le_trans (end_mono (μ ++ ν) (finish_swap g x t (h x first)))
    (move_end g (finish x t) μ ν (least_later g x t μ h))

pub move_caps : (b : ℕ) (cap : Job → ℕ) (g h : Job) (t : ℕ) (μ ν : List Job) → Least t g μ → In h ν →
    ((j : Job) → In j μ → cap h ≤ cap j + h.length)
    → Within b cap t (μ ++ g ∷ ν) → Within b cap t (g ∷ (μ ++ ν))
move_caps b cap g h t [] ν l m d w = w
move_caps b cap g h t (x ∷ μ) ν l m d w =
    let v = move_caps b cap g h (finish x t) μ ν (least_later g x t μ l) m (λ j n. d j (later n)) w.1 in
    let s = finish_swap g x t (l x first) in
    let e = within_in b cap (finish g (finish x t)) (in_right μ m) v.1 in
    let f : finish g t ≤ finish g (finish x t) = finish_mono g (omega (arith, finish_bound x t)) in
    (omega (arith, v.0), (omega (arith, e, d x first), within_mono b cap (μ ++ ν) s v.1))

data Which (f s : Job) : List Job → List Job → Type 0 where
  f_first : (μ ν : List Job) → In s ν → Which f s (μ ++ ν) (μ ++ f ∷ ν)
  s_first : {ρ : List Job} (μ ν : List Job) → In f ν → ((j : Job) → In j μ → In j ρ) → Which f s ρ (μ ++ s ∷ ν)

which_there : {f s : Job} {ρ π : List Job} (x : Job) → Which f s ρ π → Which f s (x ∷ ρ) (x ∷ π)
which_there x (f_first μ ν m) = f_first (x ∷ μ) ν m
which_there x (s_first {ρ} μ ν m h) = s_first (x ∷ μ) ν m (on_cons (λ j. In j (x ∷ ρ)) x μ first (λ j n. later (h j n)))

which : {f s : Job} {ρ π : List Job} → Ins f ρ π → In s ρ → Which f s ρ π
which (here {l}) m = f_first [] l m
which {s} (there {l'} {l} i) first = s_first [] l (ins_in i) (on_nil (λ j. In j (s ∷ l')))
which (there {x} i) (later m) = which_there x (which i m)

abbrev pub Starts : ℕ → Job → ℕ → List Job → List Job → Type 0
Starts bias g t N π = (ρ : List Job) × Order (g ∷ ρ) N × Better bias t π (g ∷ ρ)

module _ {N : List Job} {t : ℕ} {f : Job} {M : List Job} {s : Job} {L : List Job} (a : Agree N) (p : Pick N t f M) (q : Pick M t s L) where
  starts : {bias : ℕ} {ρ π : List Job} → Which f s ρ π → Order π N → Order ρ M → Starts bias f t N π ⊎ Starts bias s t N π
  starts {bias} (f_first μ ν m) o r = inl (
    μ ++ ν,
    next p.taken r,
    record {
      ends = move_end f t μ ν lead;
      keeps = λ y w. move_caps bias (due_by y) f s t μ ν lead m
          (λ j n. omega (arith, dominates b q (order_in r (in_left ν n)))) w;
    },
  )
    where
      b : Agree M
      b = agree_sub N M (λ j n. ins_sub p.taken n) a

      lead : Least t f μ
      lead j n = p.least j (order_in o (in_left (f ∷ ν) n))
  starts {bias} (s_first {ρ} μ ν m h) o r = inr (
    μ ++ ν,
    next k.1 k.2,
    record {
      ends = move_end s t μ ν lead;
      keeps = λ y w. move_caps bias (due_by y) s f t μ ν lead m
          (λ j n. omega (arith, dominates a p (order_in o (in_left (s ∷ ν) n)))) w;
    },
  )
    where
      k : (K : List Job) × Ins s K N × Order (μ ++ ν) K
      k = take_left o (ins_middle s μ ν)

      lead : Least t s μ
      lead j n = q.least j (order_in r (h j n))

  pub one_or_two : {bias : ℕ} {π : List Job} → Order π N → Starts bias f t N π ⊎ Starts bias s t N π
  one_or_two o = let r = take_right o p.taken in starts (which r.1 (in_order r.2 (ins_in q.taken))) o r.2
