-- Property 3 of the definitions holds of any rows in agreement, from any minute on.
-- Assumes nothing.
use Prim.Native.Nat.{ℕ, ◌≤◌}
use mathlib.Core.Path.{refl, subst}
use mathlib.Core.List.{List, [], ◌∷◌, Memᴰ}
use mathlib.Core.Logic.{◌↔◌}
use lib.Dec.{T}
use lib.ListN.{length}
use lib.IntN.{ℤ}
use lib.Signed.{◌≤ℤ◌}
use Rattle.theory.specs.Jobs.{Job}
use Rattle.schedule.specs.Desk.{Pair, OrderOf, Attains, pair_of, end_of, keeps}
use Rattle.schedule.specs.Plans.{Beats, attained, plans}
use Rattle.schedule.specs.Picks.{order_for}
use Rattle.schedule.specs.Cover.{Rising, PlansPromise, Promised, SameList}
use Rattle.schedule.proofs.Signed.{◌≼◌, le_z→, →le_z, →lt_z}
use Rattle.schedule.proofs.Beats.{unbeaten_says}
use Rattle.schedule.proofs.Orders.{perm_orders, orders_perm}
use Rattle.schedule.proofs.Front.{above_mem, plans_sound, plans_complete, plans_rising}
use Rattle.schedule.proofs.Front.{Rising as EndsRise}
use Rattle.schedule.proofs.Best.{Plannable, Tried, best_for, none_keeps, none_for, order_pair, pair_order, pair_kept, kept_pair}
use Rattle.schedule.proofs.Listing.{covered, attained_for, few_plans, some_plan, later_less, same_bounds}

-- The orders of the rows are those that are tried.
pub tried : (left : List ℕ) {order : List ℕ} → OrderOf left order → Tried left order
tried left {order} o = perm_orders (length left) left order refl o

pub whole : (left : List ℕ) {order : List ℕ} → Tried left order → OrderOf left order
whole left {order} o = orders_perm (length left) left order refl o

pub signed : {x y : ℤ} → x ≼ y → x ≤ℤ y
signed {x} {y} h = record { le = →le_z x y h }

-- What the list is, of any rows.
module _ (job : ℕ → Job) (t : ℕ) (left : List ℕ) where
  pub rises : Rising (plans job t left)
  rises = step (plans job t left) (plans_rising job t left) (λ p m. m)
    where
      step : (ps : List Pair) → EndsRise ps → ((p : Pair) → Memᴰ p ps → Memᴰ p (plans job t left)) → Rising ps
      step [] r f = tt
      step (p ∷ ps) r f = (
        λ q m. let l = above_mem ps r.0 m in (
          l,
          record {
            lt = →lt_z q.late p.late
                (later_less job t left p q (f p (Memᴰ.head refl)) (f q (Memᴰ.tail m)) l);
          },
        ),
        step ps r.1 (λ q m. f q (Memᴰ.tail m)),
      )

  pub listed : (p : Pair) → Memᴰ p (plans job t left) ↔
      (((order : List ℕ) × Attains job t left order p) × ((other : List ℕ) → OrderOf left other → ¬ Beats (pair_of job t other) p))
  listed p = (
    λ m. let l = plans_sound job t left p m in
        let u = pair_order job t left p l.found in (
          (u.0, (whole left u.1, u.2)),
          λ other o. (unbeaten_says (pair_of job t other) p).0
              (l.none_beats (pair_of job t other) (order_pair job t left other (tried left o))),
        ),
    λ h. plans_complete job t left p (record {
      found = subst (λ (q : Pair). Memᴰ q (attained job t left)) h.0.1.1
          (order_pair job t left h.0.0 (tried left h.0.1.0));
      none_beats = λ q m.
          let u = pair_order job t left q m in
          (unbeaten_says q p).1 (subst (λ (r : Pair). ¬ Beats r p) u.2 (h.1 u.0 (whole left u.1)));
    }),
  )

  pub covers : (order : List ℕ) → OrderOf left order →
      (p : Pair) × Memᴰ p (plans job t left) × (p.end ≤ end_of job t order) × (p.late ≤ℤ (pair_of job t order).late)
  covers order o = let u = covered job t left order (tried left o) in (u.0, u.1, u.2.0, signed u.2.1)

module _ {job : ℕ → Job} {t : ℕ} {left : List ℕ} (a : Plannable job t left) where
  kept : (y : ℤ) (order : List ℕ) → OrderOf left order → (pair_of job t order).late ≤ℤ y → T (keeps job y t order)
  kept y order o k = kept_pair a y order (tried left o) (le_z→ (pair_of job t order).late y k.le)

  holds : PlansPromise job t left (order_for job t left)
  holds = record {
    best = λ y order e. let b = best_for a y order e in (
      whole left b.whole,
      signed (pair_kept a y order b.whole b.kept),
      λ other o k. b.soonest other (tried left o) (kept y other o k),
    );
    unkept = λ y. (
      λ e order o k. none_keeps a y e order (tried left o) (kept y order o k),
      λ h. none_for a y (λ order o k. h order (whole left o) (signed (pair_kept a y order o k))),
    );
    belongs = listed job t left;
    cover = covers job t left;
    rising = rises job t left;
    few = (some_plan job t left, few_plans a);
    attains = λ p m. let u = attained_for a p m in (u.0, u.1, (whole left (best_for a p.late u.0 u.1).whole, u.2));
  }

pub promised : Promised
promised job t left agreeing some_row = holds (record { agreeing = agreeing; some_row = some_row })

pub same_list : SameList
same_list job t left agreeing some_row = same_bounds (record { agreeing = agreeing; some_row = some_row })
