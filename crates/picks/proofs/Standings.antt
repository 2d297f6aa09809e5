-- What stands of a desk in planning when a row is taken out or released, or the minute moves on.
-- Assumes nothing.
use Prim.Native.Nat.{ℕ, ◌+◌, ◌≤◌, ◌<◌}
use native.Mathlib.Omega.{arith}
use native.Mathlib.Decide.{ℕ_discrete}
use mathlib.Core.Bool.{Bool, true, false}
use mathlib.Core.Path.{◌≡◌, refl, sym, ap, ◌∙◌, subst}
use mathlib.Core.List.{List, Memᴰ}
use mathlib.Core.Logic.{◌⊎◌, inl, inr}
use Rattle.theory.specs.Jobs.{Job}
use Rattle.schedule.specs.Rows.{without}
use Rattle.schedule.proofs.Orders.{mem_without}
use Rattle.schedule.proofs.Tests.{false_is_true}
use Rattle.picks.specs.Bits.{mark, Words}
use Rattle.picks.specs.Standing.{Tables, Stands, Late}
use Rattle.picks.proofs.Bits.{mark_same, mark_other}
use Rattle.picks.proofs.Rests.{kept_without, other_without, distinct_without}

module _ {n : ℕ} {job : ℕ → Job} {by : ℕ → ℕ} (r : Tables n job by) {t : ℕ} {rest : List ℕ} {next : ℕ} {ws : List ℕ}
    (s : Stands n job by t rest next ws) where
  -- The set is without 0.
  pub no_zero : s.set 0 ≡ false
  no_zero = go (s.set 0) refl
    where
      go : (c : Bool) → s.set 0 ≡ c → c ≡ false
      go true e = let z : ⊥ = omega (arith, (s.rows 0 (s.on 0 e).0).0) in absurd z
      go false e = refl

  -- Two places, two rows.
  pub rows_differ : (k l : ℕ) → k < l → l < n → by k ≡ by l → ⊥
  rows_differ k l h g e = go (r.by_release.sorted k l h g)
    where
      go : ((job (by k)).release < (job (by l)).release) ⊎ (((job (by k)).release ≡ (job (by l)).release) × (by k < by l)) → ⊥
      go (inl x) = let y = ap (λ (i : ℕ). (job i).release) e in omega arith
      go (inr x) = omega (arith, x.1)

  -- The row i of the set is taken out.
  unfoldable pub stands_away : {i : ℕ} → s.set i ≡ true → {less : List ℕ} → Words (mark i false s.set) less → Stands n job by t
      (without i rest) next less
  stands_away {i} e w = record {
    set = mark i false s.set;
    words = w;
    distinct = distinct_without i rest s.distinct;
    rows = λ j m. s.rows j (mem_without i rest m);
    on = λ j f. on j f (ℕ_discrete j i);
    off = λ j m f. s.off j (mem_without i rest m) (sym (mark_other i false s.set j (other_without i rest s.distinct m)) ∙ f);
    ahead = λ k h g. let a = s.ahead k h g in
        (kept_without (by k) i rest a.0 (unlike k a.1), mark_other i false s.set (by k) (unlike k a.1) ∙ a.1);
    place = s.place;
  }
    where
      unlike : (k : ℕ) → s.set (by k) ≡ false → by k ≡ i → ⊥
      unlike k f x = false_is_true (sym f ∙ (ap s.set x ∙ e))

      on : (j : ℕ) → mark i false s.set j ≡ true → Dec (j ≡ i) → Memᴰ j (without i rest) × ((job j).release ≤ t)
      on j f (yes d) = false_is_true (sym (ap (mark i false s.set) d ∙ mark_same i false s.set) ∙ f)
      on j f (no v) =
          let a = s.on j (sym (mark_other i false s.set j v) ∙ f) in
          (kept_without j i rest a.0 v, a.1)

  module _ (h : next < n) where
    -- The next row ahead is not in the set.
    pub next_off : s.set (by next) ≡ false
    next_off = (s.ahead next (omega arith) h).1

    -- It is taken out,
    unfoldable pub stands_next : Stands n job by t (without (by next) rest) (next + 1) ws
    stands_next = record {
      set = s.set;
      words = s.words;
      distinct = distinct_without (by next) rest s.distinct;
      rows = λ j m. s.rows j (mem_without (by next) rest m);
      on = λ j f. let a = s.on j f in (
        kept_without j (by next) rest a.0
            (λ x. false_is_true (sym next_off ∙ (ap s.set (sym x) ∙ f))),
        a.1,
      );
      off = λ j m f. off j m (s.off j (mem_without (by next) rest m) f);
      ahead = λ k g l. let a = s.ahead k (omega arith) l in
          (kept_without (by k) (by next) rest a.0 (λ x. rows_differ next k (omega arith) l (sym x)), a.1);
      place = omega arith;
    }
      where
        off : (j : ℕ) → Memᴰ j (without (by next) rest) → (k : ℕ) × (next ≤ k) × (k < n) × (by k ≡ j) → (k : ℕ) × (next + 1 ≤ k) ×
            (k < n) × (by k ≡ j)
        off j m (k, g, l, e) =
            let v : k ≡ next → ⊥ = λ x. other_without (by next) rest s.distinct m (sym e ∙ ap by x) in
            (k, omega arith, l, e)

    -- or is put into the set.
    pub stands_put : (job (by next)).release ≤ t → {more : List ℕ} → Words (mark (by next) true s.set) more → Stands n job by t rest
        (next + 1) more
    stands_put g w = record {
      set = mark (by next) true s.set;
      words = w;
      distinct = s.distinct;
      rows = s.rows;
      on = λ j f. on j f (ℕ_discrete j (by next));
      off = λ j m f. off j m f (ℕ_discrete j (by next));
      ahead = λ k u v. let a = s.ahead k (omega arith) v in
          (a.0, mark_other (by next) true s.set (by k) (λ x. rows_differ next k (omega arith) v (sym x)) ∙ a.1);
      place = omega arith;
    }
      where
        on : (j : ℕ) → mark (by next) true s.set j ≡ true → Dec (j ≡ by next) → Memᴰ j rest × ((job j).release ≤ t)
        on j f (yes x) =
            let y : (job j).release ≡ (job (by next)).release = ap (λ (i : ℕ). (job i).release) x in
            (subst (λ (z : ℕ). Memᴰ z rest) (sym x) (s.ahead next (omega arith) h).0, omega arith)
        on j f (no v) = s.on j (sym (mark_other (by next) true s.set j v) ∙ f)

        off : (j : ℕ) → Memᴰ j rest → mark (by next) true s.set j ≡ false → Dec (j ≡ by next) → (k : ℕ) × (next + 1 ≤ k) ×
            (k < n) × (by k ≡ j)
        off j m f (yes x) = false_is_true (sym f ∙ (ap (mark (by next) true s.set) x ∙ mark_same (by next) true s.set))
        off j m f (no v) =
            let a = s.off j m (sym (mark_other (by next) true s.set j v) ∙ f) in
            let w : a.0 ≡ next → ⊥ = λ x. v (sym a.3 ∙ ap by x) in
            (a.0, omega (arith, a.1), a.2, a.3)

    -- The rows ahead are released after the minute where the next one is.
    pub late_from : t < (job (by next)).release → Late n job by t next
    late_from g k u v = go (ℕ_discrete k next)
      where
        go : Dec (k ≡ next) → t < (job (by k)).release
        go (yes e) = let x = ap (λ (y : ℕ). (job (by y)).release) e in omega arith
        go (no e) = cases (r.by_release.sorted next k (omega arith) v)
          where
            cases : ((job (by next)).release < (job (by k)).release) ⊎ (((job (by next)).release ≡ (job (by k)).release) × (by next < by k)) →
                t < (job (by k)).release
            cases (inl x) = omega arith
            cases (inr x) = omega (arith, x.0)

  -- The minute moves on.
  pub stands_later : (u : ℕ) → t ≤ u → Stands n job by u rest next ws
  stands_later u h = record {
    set = s.set;
    words = s.words;
    distinct = s.distinct;
    rows = s.rows;
    on = λ j f. let a = s.on j f in (a.0, omega (arith, a.1));
    off = s.off;
    ahead = s.ahead;
    place = s.place;
  }

  -- A row left over that is released is in the set.
  pub in_set : Late n job by t next → {i : ℕ} → Memᴰ i rest → (job i).release ≤ t → s.set i ≡ true
  in_set late {i} m h = go (s.set i) refl
    where
      go : (c : Bool) → s.set i ≡ c → c ≡ true
      go true e = refl
      go false e =
          let k = s.off i m e in
          let y = ap (λ (j : ℕ). (job j).release) k.3 in
          let z : ⊥ = omega (arith, late k.0 k.1 k.2) in
          absurd z
