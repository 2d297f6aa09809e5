-- A posting is refused exactly at a wrong length, or at the first entry that is no row or came before.
-- Assumes nothing.
use Prim.Native.Nat.{ℕ, zero, suc, ◌+◌, min, ◌<◌}
use native.Mathlib.Omega.{arith}
use native.Mathlib.Decide.{ℕ_discrete, dec_lt}
use native.Mathlib.Numerals.{add-one}
use mathlib.Core.Bool.{Bool, true, false, ◌||◌}
use mathlib.Core.Path.{◌≡◌, refl, sym, ap, ◌∙◌, subst}
use mathlib.Core.List.{List, [], ◌∷◌}
use mathlib.Core.Logic.{◌⊎◌, inl, inr, ◌↔◌}
use lib.Dec.{T, ltb, ltb→lt, lt→ltb, eqb, eqb→eq, eqb_refl}
use lib.ListN.{length, drop, get_or}
use Rattle.std.specs.Prelude.{Ok, Err}
use Rattle.schedule.specs.Rows.{stands}
use Rattle.schedule.proofs.Tests.{or_cases, or_left, or_right, is_true}
use Rattle.schedule.proofs.Stands.{stands_none, stands_more}
use Rattle.refusals.specs.declared.Refusal.{Refusal}
use Rattle.refusals.specs.Tests.{Tested, refusal_at}
use Rattle.refusals.specs.Refusals.{by_not_posting}
use Rattle.postings.specs.Posting.{entry_tests, posting_tests}
use Rattle.postings.proofs.Entries.{entry_stray, entry_fine, entries_end, posting_short, posting_long, posting_even}
use Rattle.promises.specs.Table.{Stray, VerdictTurned, wrong_length, stray}

module _ (n : ℕ) (posting : List ℕ) where
  abbrev entry : ℕ → ℕ
  entry p = get_or posting p 0

  -- The entries before place k are those that were seen.
  abbrev Seen : List ℕ → ℕ → Type 0
  Seen s k = (i : ℕ) → T (stands i s) ↔ ((q : ℕ) × (q < k) × (entry q ≡ i))

  seen_none : Seen [] 0
  seen_none i = (λ t. let z : T false = subst T (stands_none i) t in absurd z, λ u. let z : ⊥ = omega (arith, u.1) in absurd z)

  seen_more : (s : List ℕ) (k : ℕ) → Seen s k → Seen (entry k ∷ s) (suc k)
  seen_more s k h i = (
    λ t. there (or_cases (eqb i (entry k)) (stands i s) (subst T (stands_more i (entry k) s) t)),
    λ u. back u (ℕ_discrete u.0 k),
  )
    where
      there : T (eqb i (entry k)) ⊎ T (stands i s) → (q : ℕ) × (q < suc k) × (entry q ≡ i)
      there (inl t) = (k, omega arith, sym (eqb→eq i (entry k) t))
      there (inr t) = let u = (h i).0 t in (u.0, omega (arith, u.1), u.2)

      back : (u : (q : ℕ) × (q < suc k) × (entry q ≡ i)) → Dec (u.0 ≡ k) → T (stands i (entry k ∷ s))
      back u (yes e) = subst T (sym (stands_more i (entry k) s)) (or_left (eqb i (entry k)) (stands i s)
          (subst (λ (x : ℕ). T (eqb i x)) (sym u.2 ∙ ap (λ (q : ℕ). entry q) e) (eqb_refl i)))
      back u (no d) = subst T (sym (stands_more i (entry k) s)) (or_right (eqb i (entry k)) (stands i s)
          ((h i).1 (u.0, omega (arith, u.1), u.2)))

  -- The test of an entry says whether it is stray.
  module _ (s : List ℕ) (k : ℕ) (h : Seen s k) where
    abbrev test : Bool
    test = eqb (entry k) 0 || ltb n (entry k) || stands (entry k) s

    stray_says : T test ↔ Stray n posting k
    stray_says = (λ t. there (or_cases (eqb (entry k) 0 || ltb n (entry k)) (stands (entry k) s) t), back)
      where
        first : T (eqb (entry k) 0) ⊎ T (ltb n (entry k)) → Stray n posting k
        first (inl t) = inl (eqb→eq (entry k) 0 t)
        first (inr t) = inr (inl (ltb→lt n (entry k) t))

        there : T (eqb (entry k) 0 || ltb n (entry k)) ⊎ T (stands (entry k) s) → Stray n posting k
        there (inl t) = first (or_cases (eqb (entry k) 0) (ltb n (entry k)) t)
        there (inr t) = inr (inr ((h (entry k)).0 t))

        back : Stray n posting k → T test
        back (inl e) = or_left (eqb (entry k) 0 || ltb n (entry k)) (stands (entry k) s)
            (or_left (eqb (entry k) 0) (ltb n (entry k)) (subst (λ (x : ℕ). T (eqb x 0)) (sym e) tt))
        back (inr (inl l)) = or_left (eqb (entry k) 0 || ltb n (entry k)) (stands (entry k) s)
            (or_right (eqb (entry k) 0) (ltb n (entry k)) (lt→ltb n (entry k) l))
        back (inr (inr u)) = or_right (eqb (entry k) 0 || ltb n (entry k)) (stands (entry k) s) ((h (entry k)).1 u)

  -- How the entries from place k on come out, where none before is stray.
  abbrev Entries : Tested → Type 0
  Entries (Ok _) = (p : ℕ) → p < length posting → ¬ Stray n posting p
  Entries (Err refusal) = (refusal.number ≡ by_not_posting) × (refusal.place < length posting) × Stray n posting refusal.place × ((q : ℕ) → q < refusal.place → ¬ Stray n posting q)

  abbrev Clean : ℕ → Type 0
  Clean k = (p : ℕ) → p < k → ¬ Stray n posting p

  clean_more : (k : ℕ) → Clean k → ¬ Stray n posting k → Clean (suc k)
  clean_more k c d p l = step (ℕ_discrete p k)
    where
      step : Dec (p ≡ k) → ¬ Stray n posting p
      step (yes e) = subst (λ (x : ℕ). ¬ Stray n posting x) (sym e) d
      step (no e) = c p (omega arith)

  entries : (more : ℕ) (s : List ℕ) (k : ℕ) → length posting ≡ k + more → Seen s k → Clean k → Entries (entry_tests n s k (drop k posting))
  entries zero s k e h c = rw (entries_end n posting s k (omega arith)) (λ p l. c p (omega arith))
  entries (suc more) s k e h c = step (test s k h) refl (entries more (entry k ∷ s) (suc k) (omega arith) (seen_more s k h))
    where
      inside : k < length posting
      inside = omega arith

      step : (b : Bool) → test s k h ≡ b →
          (Clean (suc k) → Entries (entry_tests n (entry k ∷ s) (suc k) (drop (suc k) posting))) →
          Entries (entry_tests n s k (drop k posting))
      step true f go = rw (entry_stray n posting s k inside f) ((refl, inside, (stray_says s k h).0 (is_true _ f), c))
      step false f go =
          let d : ¬ Stray n posting k = λ x. subst T f ((stray_says s k h).1 x) in
          let on = ap (λ (x : ℕ). entry_tests n (entry k ∷ s) x (drop x posting)) (add-one k) in
          subst Entries (sym (entry_fine n posting s k inside f ∙ on)) (go (clean_more k c d))

  all_entries : Entries (entry_tests n [] 0 posting)
  all_entries = entries (length posting) [] 0 (omega arith) seen_none (λ p l. let z : ⊥ = omega arith in absurd z)

  uneven : ¬ (length posting ≡ n) → posting_tests n posting ≡ Err (refusal_at by_not_posting (min (length posting) n))
  uneven d = step (dec_lt (length posting) n)
    where
      step : Dec (length posting < n) → posting_tests n posting ≡ Err (refusal_at by_not_posting (min (length posting) n))
      step (yes l) = let h : length posting ≡ min (length posting) n = omega arith in
          sym (posting_short n posting l) ∙ ap (λ (place : ℕ). Err (refusal_at by_not_posting place)) h
      step (no l) = let h : n ≡ min (length posting) n = omega arith in
          sym (posting_long n posting (omega arith)) ∙ ap (λ (place : ℕ). Err (refusal_at by_not_posting place)) h

  turned_there : (m p : ℕ) → posting_tests n posting ≡ Err (refusal_at m p) → VerdictTurned n posting m p
  turned_there m p e = step (ℕ_discrete (length posting) n)
    where
      same : {a b c d : ℕ} → ◌≡◌ {A = Tested} (Err (refusal_at a b)) (Err (refusal_at c d)) → (a ≡ c) × (b ≡ d)
      same f =
          let g : ◌≡◌ {A = Refusal} (refusal_at _ _) (refusal_at _ _) = cc in
          (ap (λ (r : Refusal). r.number) g, ap (λ (r : Refusal). r.place) g)

      step : Dec (length posting ≡ n) → VerdictTurned n posting m p
      step (no d) =
          let f = same (sym (uneven d) ∙ e) in
          subst (λ (x : ℕ). VerdictTurned n posting x p) f.0 (subst (VerdictTurned n posting by_not_posting) f.1 (wrong_length d))
      step (yes l) =
          let u : Entries (Err (refusal_at m p)) = subst Entries (posting_even n posting l ∙ e) all_entries in
          subst (λ (x : ℕ). VerdictTurned n posting x p) (sym u.0) (stray l p u.1 u.2 u.3)

  turned_back : (m p : ℕ) → VerdictTurned n posting m p → posting_tests n posting ≡ Err (refusal_at m p)
  turned_back _ _ (wrong_length d) = uneven d
  turned_back _ _ (stray l p inside x first) = sym (posting_even n posting l) ∙ step (entry_tests n [] 0 posting) all_entries
    where
      step : (t : Tested) → Entries t → t ≡ Err (refusal_at by_not_posting p)
      step (Ok _) f = absurd (f p inside x)
      step (Err refusal) f = λ i. Err (refusal_at (f.0 i) (place i))
        where
          place : refusal.place ≡ p
          place = go (dec_lt refusal.place p) (dec_lt p refusal.place)
            where
              go : Dec (refusal.place < p) → Dec (p < refusal.place) → refusal.place ≡ p
              go (yes l) d = absurd (first refusal.place l f.2)
              go (no l) (yes d) = absurd (f.3 p d x)
              go (no l) (no d) = omega arith

  pub posting_turned : (m p : ℕ) → (posting_tests n posting ≡ Err (refusal_at m p)) ↔ VerdictTurned n posting m p
  posting_turned m p = (turned_there m p, turned_back m p)
