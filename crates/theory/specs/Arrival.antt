-- First come, first due: where no two jobs cross, the order by release, then due, ends no later and is no later at worst than every order.
-- Rests on: Jobs, Order, FrontMove, First.
use Rattle.std.specs.Prelude.{List, [], ◌∷◌, ℕ, ◌≤◌, ◌<◌}
use Rattle.std.proofs.Common.{le_refl, le_trans, arith}
use Rattle.std.proofs.Math.Decide.{dec_lt}
use Rattle.theory.specs.Jobs.{Job, ready, due_by, In, Ins, Order, done, next}
use Rattle.theory.specs.Order.{ins_in, ins_sub, order_in, in_order, take_right, on_cons}
use Rattle.theory.specs.FrontMove.{Least, front_end, front_caps}
use Rattle.theory.specs.First.{Better}

-- No two jobs cross: none has both a smaller release and a larger due than another.
abbrev pub Uncrossed : List Job → Type 0
Uncrossed N = (i j : Job) → In i N → In j N → i.release < j.release → i.due ≤ j.due

-- Each job comes, by release and then due, no later than every job after it.
abbrev pub ByArrival : List Job → Type 0
ByArrival [] = Unit {0}
ByArrival (i ∷ π) = ((j : Job) → In j π → (i.release ≤ j.release) × (j.release ≤ i.release → i.due ≤ j.due)) × ByArrival π

ready_release : (g j : Job) (t : ℕ) → g.release ≤ j.release → ready g t ≤ ready j t
unfolding ready
ready_release g j t h = omega arith

-- The first job by arrival is released and due no later than every job: least ready from any minute on, and no job's cap is below its own.
front_first : {f : Job} {π N' N : List Job} → Uncrossed N → ByArrival (f ∷ π) → Ins f N' N → Order π N' → (j : Job) → In j N →
    (f.release ≤ j.release) × (f.due ≤ j.due)
front_first {f} {π} u a i o j m =
    on_cons (λ j. (f.release ≤ j.release) × (f.due ≤ j.due)) f π (omega arith) (λ k n. rest k n (dec_lt f.release k.release)) j
    (in_order (next i o) m)
  where
    rest : (k : Job) → In k π → Dec (f.release < k.release) → (f.release ≤ k.release) × (f.due ≤ k.due)
    rest k n (yes l) = (omega arith, u f k (ins_in i) (ins_sub i (order_in o n)) l)
    rest k n (no l) = let h = a.0 k n in (h.0, h.1 (omega arith))

-- So it goes to the front of any order, which makes nothing worse; and the others likewise, one after another.
pub arrival_best : {bias : ℕ} {N π θ : List Job} {t : ℕ} → Uncrossed N → ByArrival π → Order π N → Order θ N → Better bias t θ π
arrival_best u a done done = record { ends = le_refl _; keeps = λ y w. w }
arrival_best {bias = bias} {t = t} u a done (next {j = j} {π = π} x17 _) = elim x17 [ ]
arrival_best {bias} {θ} {t} u a (next {j} i o) q =
    let r = take_right q i in
    let b = arrival_best {bias = bias} (λ k l m n. u k l (ins_sub i m) (ins_sub i n)) a.1 o r.2 in
    let f = front_first u a i o in
    let least : Least t j θ = λ k m. ready_release j k t (f k (order_in q m)).0 in
    record {
      ends = le_trans b.ends (front_end t r.1 least);
      keeps = λ y w. let v = front_caps bias (due_by y) t r.1 least (λ k m. omega (arith, (f k (order_in q m)).1)) w in
          (v.0, b.keeps y v.1);
    }
