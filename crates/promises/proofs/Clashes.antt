-- The tests of two rows, as statements: rows clash exactly if the test says so.
-- Assumes nothing.
use Prim.Native.Nat.{ℕ, ◌≤◌, ◌<◌}
use native.Mathlib.Omega.{arith}
use native.Mathlib.Decide.{dec_lt}
use mathlib.Core.Bool.{Bool, true, false, ◌||◌}
use mathlib.Core.Path.{◌≡◌, refl, sym, ap, ◌∙◌}
use mathlib.Core.List.{List}
use mathlib.Core.Logic.{◌⊎◌, inl, inr, ◌↔◌}
use lib.Dec.{T, ltb, ltb→lt, lt→ltb}
use lib.ListN.{length}
use lib.Signed.{lt_z}
use Rattle.schedule.specs.declared.Row.{Row}
use Rattle.schedule.specs.declared.Profile.{Profile}
use Rattle.schedule.specs.declared.Profile.TheVariants.{Ordering, FirstCome}
use Rattle.schedule.specs.Rows.{row}
use Rattle.schedule.proofs.Tests.{both, parts, or_cases, or_left, or_right, false_is_true, is_true}
use Rattle.schedule.proofs.Numbers.{count_range, from_mem}
use Rattle.pairs.specs.Clashes.{NoneClash, Earliest}
use Rattle.readers.specs.Rules.{spare, tighter, disagree, outlasts, cross, clash_by}
use Rattle.readers.proofs.Rules.{clash_mutual}
use Rattle.promises.specs.Vocabulary.{Tighter, Outlasts, Clash}
use Rattle.promises.specs.Table.{EarliestClash}

tighter_says : (r s : Row) → T (tighter r s) ↔ Tighter r s
unfolding tighter
tighter_says r s = (
  λ t. let u = parts (ltb r.due s.due) (lt_z (spare r) (spare s)) t in (ltb→lt r.due s.due u.0, record { lt = u.1 }),
  λ h. both (ltb r.due s.due) (lt_z (spare r) (spare s)) (lt→ltb r.due s.due h.0) h.1.lt,
)

outlasts_says : (r s : Row) → T (outlasts r s) ↔ Outlasts r s
unfolding outlasts
outlasts_says r s = (
  λ t. let u = parts (ltb r.release s.release) (ltb s.due r.due) t in
      (ltb→lt r.release s.release u.0, ltb→lt s.due r.due u.1),
  λ h. both (ltb r.release s.release) (ltb s.due r.due) (lt→ltb r.release s.release h.0)
      (lt→ltb s.due r.due h.1),
)

-- One of two tests, as one of two statements.
either : {P Q : Type 0} (a b : Bool) → T a ↔ P → T b ↔ Q → T (a || b) ↔ (P ⊎ Q)
either {P} {Q} a b f g = (λ t. there (or_cases a b t), λ h. back h)
  where
    there : T a ⊎ T b → P ⊎ Q
    there (inl t) = inl (f.0 t)
    there (inr t) = inr (g.0 t)

    back : P ⊎ Q → T (a || b)
    back (inl p) = or_left a b (f.1 p)
    back (inr q) = or_right a b (g.1 q)

clash_test : (profile : Profile) (r s : Row) → T (clash_by profile r s) ↔ Clash profile r s
unfolding clash_by disagree cross
clash_test Ordering r s = either (tighter r s) (tighter s r) (tighter_says r s) (tighter_says s r)
clash_test FirstCome r s = either (outlasts r s) (outlasts s r) (outlasts_says r s) (outlasts_says s r)

module _ (profile : Profile) (r s : Row) where
  pub clash_says : clash_by profile r s ≡ true → Clash profile r s
  clash_says e = (clash_test profile r s).0 (is_true _ e)

  pub no_clash_says : clash_by profile r s ≡ false → ¬ Clash profile r s
  no_clash_says e h = step (clash_by profile r s) e ((clash_test profile r s).1 h)
    where
      step : (b : Bool) → b ≡ false → T b → ⊥
      step true e t = false_is_true (sym e)
      step false e t = t

  pub says_no_clash : ¬ Clash profile r s → clash_by profile r s ≡ false
  says_no_clash n = step (clash_by profile r s) refl
    where
      step : (b : Bool) → clash_by profile r s ≡ b → b ≡ false
      step true e = absurd (n (clash_says e))
      step false e = refl

-- No two rows clash.
module _ (profile : Profile) (rows : List Row) where
  abbrev pub NoTwoClash : Type 0
  NoTwoClash = (i j : ℕ) → 1 ≤ i → i < j → j ≤ length rows → ¬ Clash profile (row rows j) (row rows i)

  pub none_clash : NoneClash (clash_by profile) rows → NoTwoClash
  none_clash h i j low l high =
      no_clash_says profile (row rows j) (row rows i)
      (h j i (from_mem j 1 (length rows) (omega arith) (omega arith)) (from_mem i 1 (length rows) low (omega arith)))

  pub clash_none : NoTwoClash → NoneClash (clash_by profile) rows
  clash_none h i j m n = step (dec_lt i j) (dec_lt j i)
    where
      u : (1 ≤ i) × (i ≤ length rows)
      u = let r = count_range 1 (length rows) m in (r.0, omega (arith, r.1))

      v : (1 ≤ j) × (j ≤ length rows)
      v = let r = count_range 1 (length rows) n in (r.0, omega (arith, r.1))

      step : Dec (i < j) → Dec (j < i) → clash_by profile (row rows i) (row rows j) ≡ false
      step (yes l) d =
          (clash_mutual profile).swap (row rows i) (row rows j) ∙ says_no_clash profile (row rows j) (row rows i) (h i j u.0 l v.1)
      step (no l) (yes k) = says_no_clash profile (row rows i) (row rows j) (h j i v.0 k u.1)
      step (no l) (no k) =
          let same : i ≡ j = omega arith in
          ap (λ x. clash_by profile (row rows i) (row rows x)) (sym same) ∙ (clash_mutual profile).self (row rows i)

  pub earliest_says : (j k : ℕ) → Earliest (clash_by profile) rows j k → EarliestClash (Clash profile) rows k
  earliest_says j k e = record {
    inside = (omega (arith, e.above), e.above.2);
    clashes = (j, e.above.0, e.above.1, clash_says profile (row rows k) (row rows j) e.clashes);
    none_before = λ g h low l f. no_clash_says profile (row rows h) (row rows g) (e.none_before g h low l f);
  }

  -- There is one earliest row.
  pub one_earliest : (k m : ℕ) → EarliestClash (Clash profile) rows k → EarliestClash (Clash profile) rows m → k ≡ m
  one_earliest k m a b = step (dec_lt k m) (dec_lt m k)
    where
      step : Dec (k < m) → Dec (m < k) → k ≡ m
      step (yes l) d = let (j, low, f, c) = a.clashes in absurd (b.none_before j k low f l c)
      step (no l) (yes f) = let (j, low, h, c) = b.clashes in absurd (a.none_before j m low h f c)
      step (no l) (no f) = omega arith

  pub clash_refutes : (k : ℕ) → EarliestClash (Clash profile) rows k → ¬ NoTwoClash
  clash_refutes k a h = let (j, low, l, c) = a.clashes in h j k low l a.inside.1 c
