-- The order for a bound keeps it and ends soonest, or no order keeps it: runs first, block one where it fits, otherwise block two.
-- Rests on: First.
use Rattle.std.specs.Prelude.{◌⊎◌, List, [], ◌∷◌, ◌++◌, ℕ, ◌+◌, ◌≤◌, ◌<◌, max}
use Rattle.std.proofs.Common.{inl, inr, le_refl, le_trans, arith}
use Rattle.std.proofs.Math.Decide.{dec_lt}
use Rattle.theory.specs.Jobs.{Job, ready, finish, end_of, due_by, Keeps, In, first, later, Ins, Order, done, next}
use Rattle.theory.specs.Order.{ins_in, ins_sub, order_in, order_tail, take_right, on_nil, on_cons, ins_on}
use Rattle.theory.specs.FrontMove.{end_append, end_in, within_append, within_left, within_right, within_caps, keeps_mono}
use Rattle.theory.specs.FrontMove.{Moved, none, take, moved_end, moved_caps}
use Rattle.theory.specs.Picks.{Agree, Pick, Decided, alone, sooner, Stopped, empty, undecided, Run, halt, go, BlockOne, BlockTwo}
use Rattle.theory.specs.Picks.{For, for_none, for_run, for_one, for_two, NoOrder, no_pick, no_run, no_one, no_block, no_two}
use Rattle.theory.specs.First.{agree_sub, Better, decided_first, Starts, one_or_two}

pub pick_of : {N : List Job} {t : ℕ} {f : Job} {M : List Job} → Decided N t f M → Pick N t f M
pick_of (alone p) = p
pick_of (sooner p q l) = p

pub agree_ins : {g : Job} {M N : List Job} → Ins g M N → Agree N → Agree M
agree_ins {g} {M} {N} i a = agree_sub N M (λ j m. ins_sub i m) a

pub run_order : {N : List Job} {t : ℕ} {ω N' θ : List Job} → Run N t ω N' → Order θ N' → Order (ω ++ θ) N
run_order (halt s) o = o
run_order (go d r) o = next (pick_of d).taken (run_order r o)

pub run_stopped : {N : List Job} {t : ℕ} {ω N' : List Job} → Run N t ω N' → Stopped N' (end_of t ω)
run_stopped (halt s) = s
run_stopped (go d r) = run_stopped r

pub run_in : {k : Job} {N : List Job} {t : ℕ} {ω N' : List Job} → Run N t ω N' → In k N' → In k N
run_in (halt s) m = m
run_in (go d r) m = ins_sub (pick_of d).taken (run_in r m)

pub run_from : {b : Job} {N : List Job} {t : ℕ} {ω N' : List Job} → Run N t ω N' → In b ω → In b N
run_from (go d r) first = ins_in (pick_of d).taken
run_from {b = b} (halt {N = N} {t = t} _) x7 = elim x7 [ ]
run_from (go d r) (later m) = ins_sub (pick_of d).taken (run_from r m)

pub run_moved : {N : List Job} {t : ℕ} {ω N' π : List Job} → Run N t ω N' → Order π N → (κ : List Job) × Order κ N' × Moved t π ω κ
run_moved {π} (halt s) o = (π, o, none)
run_moved (go {t} {f} d r) o =
    let p = pick_of d in
    let u = take_right o p.taken in
    let v = run_moved r u.2 in
    (v.0, v.1, take u.1 (λ j m. p.least j (order_in o m)) v.2)

-- Runs: for each order there is one no worse that starts with the run.
pub run_first : {bias : ℕ} {N : List Job} {t : ℕ} {ω N' π : List Job} → Agree N → Run N t ω N' → Order π N → (κ : List Job) × Order κ N' ×
    Better bias t π (ω ++ κ)
run_first {π} a (halt s) o = (π, o, record { ends = le_refl _; keeps = λ y w. w })
run_first a (go d r) o =
    let u = decided_first a d o in
    let v = run_first (agree_ins (pick_of d).taken a) r u.1 in (
      v.0,
      v.1,
      record {
        ends = le_trans v.2.ends u.2.ends;
        keeps = λ y w. let x = u.2.keeps y w in
            (x.0, v.2.keeps y x.1);
      },
    )

-- What is left when a run stops cannot be done by then, so by agreement it is due no sooner.
stopped_late : {N : List Job} {T : ℕ} → Agree N → Stopped N T → (k : Job) → In k N → T < k.release + k.length
unfolding ready
stopped_late a empty = on_nil (λ k. _)
stopped_late {N} {T} a (undecided {f} {M} {s} u) = ins_on (λ k. T < k.release + k.length) i
    (omega (
      arith,
      a s f (ins_sub i (ins_in u.two.taken)) (ins_in i) u.open_due,
      u.one.ties s
          (ins_sub i (ins_in u.two.taken)) u.open_due,
    ))
    (λ k m. omega (arith, u.two.least k m, u.one.ties s (ins_sub i (ins_in u.two.taken)) u.open_due))
  where
    i : Ins f M N
    i = u.one.taken

pub block_dues : (N : List Job) (t : ℕ) (ω N' : List Job) → Agree N → ((b : Job) → In b ω → In b N) → ((k : Job) → In k N' → In k N) →
    Stopped N' (end_of t ω)
    → (b : Job) → In b ω → (k : Job) → In k N' → b.due ≤ k.due
block_dues N t ω N' a hb hk s b m k n = step (dec_lt k.due b.due)
  where
    step : Dec (k.due < b.due) → b.due ≤ k.due
    step (no h) = omega arith
    step (yes h) = omega (arith, a k b (hk k n) (hb b m) h, stopped_late (agree_sub N N' hk a) s k n, end_in t m)

-- Block one in front, when it fits, is no worse.
max_due : List Job → ℕ
max_due [] = 0
max_due (j ∷ l) = max j.due (max_due l)

max_due_in : {j : Job} {l : List Job} → In j l → j.due ≤ max_due l
unfolding max_due
max_due_in first = omega arith
max_due_in (later m) = omega (arith, max_due_in m)

max_due_le : (l : List Job) (d : ℕ) → ((j : Job) → In j l → j.due ≤ d) → max_due l ≤ d
unfolding max_due
max_due_le [] d h = omega arith
max_due_le (j ∷ l) d h = omega (arith, h j first, max_due_le l d (λ k m. h k (later m)))

-- Lead: ω in front of some order κ of the rest N' ends no later than π and keeps the bound.
pub record Lead (bias : ℕ) (y t : ℕ) (π ω N' : List Job) : Type 0 where
  pub κ : List Job
  pub orders : Order κ N'
  pub ends : end_of t (ω ++ κ) ≤ end_of t π
  pub keeps : Keeps bias y t (ω ++ κ)

pub moved_fits : {t : ℕ} {π ω κ : List Job} → Moved t π ω κ → ((b : Job) → In b ω → (k : Job) → In k κ → b.due ≤ k.due)
    → (b y : ℕ) → Keeps b y t ω → Keeps b y t π → Keeps b y t (ω ++ κ)
moved_fits {t} {π} {ω} {κ} m h b y w v =
    let cap : Job → ℕ = λ j. max (j.due + y) (max_due ω + y) in
    let x = moved_caps b cap m (λ g n j k. omega (arith, max_due_in n)) (within_caps b (due_by y) cap π t (λ j n. omega arith) v) in
    within_append b (due_by y) ω κ t w (within_caps b cap (due_by y) κ (end_of t ω)
    (λ k n. omega (arith, max_due_le ω k.due (λ x q. h x q k n))) (within_right b cap ω κ t x))

pub one_fits : {bias : ℕ} {N : List Job} {t : ℕ} {f : Job} {M ω N' π : List Job} (y : ℕ) → Agree N → Pick N t f M → Run M
    (finish f t) ω N' → Order π N
    → Keeps bias y t (f ∷ ω) → Keeps bias y t π → Lead bias y t π (f ∷ ω) N'
one_fits {bias} {N} {t} {f} {M} {ω} {N'} {π} y a p r o w v =
    let u = take_right o p.taken in
    let x = run_moved r u.2 in
    let m : Moved t π (f ∷ ω) x.0 = take u.1 (λ j n. p.least j (order_in o n)) x.2 in
    record {
      κ = x.0;
      orders = x.1;
      ends = moved_end m;
      keeps = moved_fits m (λ b i k n. block_dues N t (f ∷ ω) N' a
          (on_cons (λ j. In j N) f ω (ins_in p.taken) (λ j q. ins_sub p.taken (run_from r q)))
          (λ j q. ins_sub p.taken (run_in r q)) (run_stopped r) b i k (order_in x.1 n)) bias y w v;
    }

-- The order for a bound: what leads, by which way on.
pub starts_lead : {bias : ℕ} {N : List Job} {t : ℕ} {g : Job} {M ω N' π : List Job} (y : ℕ) → Agree N → Ins g M N → Run M
    (finish g t) ω N' → Starts bias g t N π
    → Keeps bias y t π → Lead bias y t π (g ∷ ω) N'
starts_lead y a i r s w =
    let x = s.2.keeps y w in
    let u = run_first (agree_ins i a) r (order_tail s.1 i) in
    record { κ = u.0; orders = u.1; ends = le_trans u.2.ends s.2.ends; keeps = (x.0, u.2.keeps y x.1) }

pub two_leads : {bias : ℕ} {N : List Job} {t : ℕ} {f : Job} {ω₁ N₁ : List Job} {s : Job} {ω₂ N₂ π : List Job} (y : ℕ) → Agree N →
    BlockOne N t f ω₁ N₁ s
    → ¬ Keeps bias y t (f ∷ ω₁) → BlockTwo N t s ω₂ N₂ → Order π N → Keeps bias y t π → Lead bias y t π (s ∷ ω₂) N₂
two_leads {bias} {N} {t} {f} {ω₁} {N₁} {s} {ω₂} {N₂} {π} y a b not c o w = step (one_or_two a b.open_at.one b.open_at.two o)
  where
    step : Starts bias f t N π ⊎ Starts bias s t N π → Lead bias y t π (s ∷ ω₂) N₂
    step (inl x) = let l = starts_lead y a b.open_at.one.taken b.run x w in absurd
        (not (within_left bias (due_by y) (f ∷ ω₁) l.κ t l.keeps))
    step (inr x) = starts_lead y a c.without c.run x w

pub for_order : {bias : ℕ} {y : ℕ} {N : List Job} {t : ℕ} {θ : List Job} → For bias y N t θ → Order θ N
for_order for_none = done
for_order (for_run d l r) = next (pick_of d).taken (for_order r)
for_order (for_one b k r) = next b.open_at.one.taken (run_order b.run (for_order r))
for_order (for_two b n c k r) = next c.without (run_order c.run (for_order r))

pub for_keeps : {bias : ℕ} {y : ℕ} {N : List Job} {t : ℕ} {θ : List Job} → For bias y N t θ → Keeps bias y t θ
for_keeps for_none = tt
for_keeps (for_run d l r) = (l.0, for_keeps r)
for_keeps {bias} {y} (for_one {t} {f} {ω₁} {θ} b k r) = within_append bias (due_by y) (f ∷ ω₁) θ t k (for_keeps r)
for_keeps {bias} {y} (for_two {t} {s} {ω₂} {θ} b n c k r) = within_append bias (due_by y) (s ∷ ω₂) θ t k (for_keeps r)

block_in : {N : List Job} {t : ℕ} {g : Job} {M ω N' : List Job} → Ins g M N → Run M t ω N' → Agree N → Agree N'
block_in {N} {N'} i r a = agree_sub N N' (λ k m. ins_sub i (run_in r m)) a

lead_best : {bias : ℕ} {y t : ℕ} {π ω N' : List Job} (θ : List Job) → Lead bias y t π ω N' →
    ((κ : List Job) → Order κ N' → Keeps bias y (end_of t ω) κ → end_of (end_of t ω) θ ≤ end_of (end_of t ω) κ)
    → end_of t (ω ++ θ) ≤ end_of t π
lead_best {bias} {y} {t} {π} {ω} θ l h =
    omega (
      arith,
      end_append ω θ t,
      end_append ω l.κ t,
      l.ends,
      h l.κ l.orders
          (within_right bias (due_by y) ω l.κ t l.keeps),
    )

run_lead : {bias : ℕ} {N : List Job} {t : ℕ} {f : Job} {M π : List Job} (y : ℕ) → Agree N → Decided N t f M → Order π N →
    Keeps bias y t π → Lead bias y t π (f ∷ []) M
run_lead y a d o w = let u = decided_first a d o in record { κ = u.0; orders = u.1; ends = u.2.ends; keeps = u.2.keeps y w }

pub for_best : {bias : ℕ} {y : ℕ} {N : List Job} {t : ℕ} {θ π : List Job} → Agree N → For bias y N t θ → Order π N → Keeps bias y t π →
    end_of t θ ≤ end_of t π
for_best a for_none done w = le_refl _
for_best {bias = bias} {y = y} a (for_none {t = t}) (next {j = j} {π = π} x20 _) w = elim x20 [ ]
for_best {y} a (for_run {θ} d l r) o w = lead_best θ (run_lead y a d o w) (λ κ p k. for_best (agree_ins (pick_of d).taken a) r p k)
for_best {y} a (for_one {θ} b k r) o w =
    lead_best θ (one_fits y a b.open_at.one b.run o k w) (λ κ p v. for_best (block_in b.open_at.one.taken b.run a) r p v)
for_best {y} a (for_two {θ} b n c k r) o w =
    lead_best θ (two_leads y a b n c o w) (λ κ p v. for_best (block_in c.without c.run a) r p v)

lead_none : {bias : ℕ} {y t : ℕ} {π ω N' : List Job} → Lead bias y t π ω N' →
    ((κ : List Job) → Order κ N' → Keeps bias y (end_of t ω) κ → ⊥) → ⊥
lead_none {bias} {y} {t} {π} {ω} l h = h l.κ l.orders (within_right bias (due_by y) ω l.κ t l.keeps)

pub no_keeps : {bias : ℕ} {y : ℕ} {N : List Job} {t : ℕ} {π : List Job} → Agree N → NoOrder bias y N t → Order π N → Keeps bias y t π → ⊥
no_keeps {y} a (no_pick d l) o w = l ((run_lead y a d o w).keeps.0, tt)
no_keeps {y} a (no_run d r) o w = lead_none (run_lead y a d o w) (λ κ p k. no_keeps (agree_ins (pick_of d).taken a) r p k)
no_keeps {y} a (no_one b k r) o w =
    lead_none (one_fits y a b.open_at.one b.run o k w) (λ κ p v. no_keeps (block_in b.open_at.one.taken b.run a) r p v)
no_keeps {bias} {y} {t} a (no_block {s} {ω₂} b n c m) o w =
    let l = two_leads y a b n c o w in m (within_left bias (due_by y) (s ∷ ω₂) l.κ t l.keeps)
no_keeps {y} a (no_two b n c r) o w =
    lead_none (two_leads y a b n c o w) (λ κ p v. no_keeps (block_in c.without c.run a) r p v)

-- The same order: where the order for a bound keeps a smaller one, it is the order for that one too.
pub for_smaller : {bias y z : ℕ} {N : List Job} {t : ℕ} {θ : List Job} → For bias y N t θ → z ≤ y → Keeps bias z t θ → For bias z N t θ
for_smaller for_none h w = for_none
for_smaller (for_run d l r) h w = for_run d (w.0, tt) (for_smaller r h w.1)
for_smaller {bias} {z} (for_one {t} {f} {ω₁} {θ} b k r) h w =
    for_one b (within_left bias (due_by z) (f ∷ ω₁) θ t w) (for_smaller r h (within_right bias (due_by z) (f ∷ ω₁) θ t w))
for_smaller {bias} {z} (for_two {t} {f} {ω₁} {s} {ω₂} {θ} b n c k r) h w =
    for_two b (λ u. n (keeps_mono bias t (f ∷ ω₁) h u)) c (within_left bias (due_by z) (s ∷ ω₂) θ t w)
    (for_smaller r h (within_right bias (due_by z) (s ∷ ω₂) θ t w))
