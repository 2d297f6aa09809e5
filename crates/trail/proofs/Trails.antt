-- The trail: what a block more, a smaller bound and a step back make of it, and what the words of a block hold.
-- Assumes nothing.
use Prim.Native.Nat.{ℕ, zero, suc, ◌+◌, ◌-◌, ◌≤◌, ◌<◌}
use native.Mathlib.Omega.{arith}
use mathlib.Core.Bool.{Bool, true, false}
use mathlib.Core.Path.{◌≡◌, refl, sym, subst}
use mathlib.Core.List.{List, []}
use lib.Dec.{leb}
use lib.ListN.{get_or, set}
use lib.Seq.{get_or-set_other}
use borrow.Author.Tests.{leb-true, leb-false}
use Rattle.theory.specs.Jobs.{Job}
use Rattle.schedule.specs.Columns.{at, Limits}
use Rattle.picks.specs.declared.Standing.{Standing}
use Rattle.picks.specs.Standing.{Tables, Sits}
use Rattle.trail.specs.Trails.{trail_words, worst_at, Fits, Back, Entry, OnTrail}
use Rattle.search.proofs.Ways.{way_less}

-- What a desk is within fits its words.
pub sits_fit : (n : ℕ) (job : ℕ → Job) (by : ℕ → ℕ) → Tables n job by → (rest : List ℕ) (s : Standing) → Sits n job by rest s → Fits s
sits_fit n job by tables rest s g = record {
  minute = omega (arith, g.minutes, g.count, tables.few);
  worst = omega (arith, g.lates, g.count, tables.few);
  count = omega (arith, g.count, tables.few);
  next = omega (arith, g.stands.place, tables.few);
  ready = g.stands.words.size;
}

-- The way back along the trail: k blocks are left, all after them began above the bound.
module _ (trail : List (List ℕ)) (bound depth : ℕ) where
  abbrev pub Past : ℕ → Type 0
  Past k = (e : ℕ) → k ≤ e → e < depth → bound < worst_at trail e

  pub past_first : Past depth
  past_first e h l = let z : ⊥ = omega arith in absurd z

  module _ (k : ℕ) (some : k ≤ depth) (past : Past k) where
    pub back_begun : 0 < k → worst_at trail (k - 1) ≤ bound → Back trail bound depth (k - 1 + 1)
    back_begun h l = record {
      some = omega arith;
      begun = λ e x. subst (λ (m : ℕ). worst_at trail m ≤ bound) (omega (arith, x)) l;
      past = λ e x y. past e (omega arith) y;
    }

    pub back_none : k ≤ 0 → Back trail bound depth 0
    back_none h = record {
      some = omega arith;
      begun = λ e x. let z : ⊥ = omega (arith, x) in absurd z;
      past = λ e x y. past e (omega arith) y;
    }

    pub past_next : 0 < k → bound < worst_at trail (k - 1) → Past (k - 1)
    past_next h l e x y = go (leb k e) refl
      where
        go : (c : Bool) → leb k e ≡ c → bound < worst_at trail e
        go true z = past e (leb-true k e z) y
        go false z = subst (λ (m : ℕ). bound < worst_at trail m) (omega (arith, leb-false k e z)) l

module _ (n : ℕ) (job : ℕ → Job) (by : ℕ → ℕ) (free : ℕ) where
  -- A block written at or past the end of what is held changes nothing.
  pub held_set : (bound : ℕ) (trail : List (List ℕ)) (k : ℕ) (words : List ℕ) (depth worst : ℕ) → depth ≤ k →
      OnTrail n job by free bound trail depth worst → OnTrail n job by free bound (set trail k words) depth worst
  held_set bound trail k words zero worst h g = g
  held_set bound trail k words (suc d) worst h g =
      let e : get_or (set trail k words) d [] ≡ get_or trail d [] = get_or-set_other trail k d words [] (λ x. omega arith) in (
        subst (λ (w : List ℕ). Entry n job by free bound d w worst) (sym e) g.0,
        subst (λ (w : List ℕ). OnTrail n job by free bound (set trail k words) d (at w 1)) (sym e)
            (held_set bound trail k words d (worst_at trail d) (omega arith) g.1),
      )

  module _ (limits : Limits job) where
    -- A smaller bound.
    entry_less : (bound less : ℕ) → less ≤ bound → (k : ℕ) (words : List ℕ) (after : ℕ) → Entry n job by free bound k words after →
        Entry n job by free less k words after
    entry_less bound less h k words after e = record {
      from = e.from;
      second = e.second;
      held = e.held;
      place = e.place;
      done = e.done;
      rest = e.rest;
      way = way_less job limits n by free bound less h e.done e.rest e.from e.way;
      torn = e.torn;
      late = e.late;
      first_over = λ s. omega (arith, e.first_over s);
    }

    pub held_less : (bound less : ℕ) → less ≤ bound → (trail : List (List ℕ)) (depth worst : ℕ) →
        OnTrail n job by free bound trail depth worst → OnTrail n job by free less trail depth worst
    held_less bound less h trail zero worst g = g
    held_less bound less h trail (suc d) worst
        g = (entry_less bound less h d (trail_words trail d) worst g.0, held_less bound less h trail d (worst_at trail d) g.1)

    -- Back to the first k blocks: the worst lateness after them is above the bound.
    pub held_back : (bound : ℕ) (trail : List (List ℕ)) (depth worst k : ℕ) → OnTrail n job by free bound trail depth worst →
        bound < worst → Back trail bound depth k →
        (late : ℕ) × (bound < late) × OnTrail n job by free bound trail k late
    held_back bound trail zero worst k g h b = let e : k ≡ 0 = omega (arith, b.some) in
        (worst, h, subst (λ (m : ℕ). OnTrail n job by free bound trail m worst) (sym e) g)
    held_back bound trail (suc d) worst k g h b =
        go (leb k d) refl (λ l. held_back bound trail d (worst_at trail d) k g.1 (b.past d l (omega arith))
        (record { some = l; begun = b.begun; past = λ e x y. b.past e x (omega arith) }))
      where
        go : (c : Bool) → leb k d ≡ c → (k ≤ d → (late : ℕ) × (bound < late) × OnTrail n job by free bound trail k late) → (late : ℕ) ×
            (bound < late) × OnTrail n job by free bound trail k late
        go true e f = f (leb-true k d e)
        go false e f = let x : k ≡ suc d = omega (arith, leb-false k d e, b.some) in
            (worst, h, subst (λ (m : ℕ). OnTrail n job by free bound trail m worst) (sym x) g)
