-- The definitions' search for an order is the theory's.
-- Assumes nothing.
use Prim.Native.Nat.{ℕ, zero, suc, ◌≤◌, ◌<◌, max}
use native.Mathlib.Omega.{arith}
use native.Mathlib.Decide.{dec_le}
use mathlib.Core.Path.{◌≡◌, refl, subst}
use mathlib.Core.Bool.{Bool, true, false, not, ◌||◌}
use mathlib.Core.List.{List, [], ◌∷◌, ◌++◌, map-append, Memᴰ}
use mathlib.Core.Option.{Option, none, some}
use lib.Dec.{T, leb, leb→le, nleb→lt}
use lib.ListN.{length, length-append}
use lib.IntN.{ℤ}
use Rattle.schedule.specs.Rows.{without, without_all}
use Rattle.schedule.specs.Picks.{joined, least_of, first_pick, others, second_pick, decided, run_for, run, block, block_one, block_two}
use Rattle.schedule.specs.Picks.{blocks_for, order_for}
use Rattle.schedule.specs.Desk.{end_of, keeps}
use Rattle.schedule.proofs.PickLaws.{Ahead, least_mem, least_ahead, run_step, run_stop}
use Rattle.schedule.proofs.Orders.{length_without, mem_without, Takes, takes_append, takes_length}
use Rattle.schedule.proofs.JobsOf.{jobs, jobs_end, on_jobs, jobs_without, keeps_kept, kept_keeps}
use Rattle.schedule.proofs.Signed.{up, down}
use Rattle.theory.specs.Jobs.{Job, ready, finish, Keeps}
use Rattle.theory.specs.Picks.{Pick, Decided, alone, sooner, Undecided, empty, undecided, Run, halt, go, BlockOne, BlockTwo}
use Rattle.theory.specs.Picks.{For, for_none, for_one, for_two, NoOrder, no_one, no_block, no_two}
use Rattle.theory.specs.Runs.{run_for_lem, run_none, run_unkept}
use Rattle.schedule.proofs.Tests.{or_second, nor_both, is_true, is_false}

module _ (job : ℕ → Job) where
  ahead_ties : {t i k : ℕ} → Ahead job t i k → (job k).due < (job i).due → ready (job i) t < ready (job k) t
  ahead_ties {t} {i} {k} a l = step (dec_le (ready (job k) t) (ready (job i) t))
    where
      step : Dec (ready (job k) t ≤ ready (job i) t) → ready (job i) t < ready (job k) t
      step (yes h) = omega (arith, a.by_due h)
      step (no h) = omega arith

  -- The picks.
  pick_is : (t i : ℕ) (is : List ℕ) → Pick (jobs job (i ∷ is)) t (job (first_pick job t (i ∷ is))) (jobs job (others job t (i ∷ is)))
  unfolding first_pick others ready
  pick_is t i is = record {
    taken = jobs_without job (least_of job t i is) (i ∷ is) (least_mem job t i is);
    least = on_jobs job (λ j. ready (job (least_of job t i is)) t ≤ max t j.release) (i ∷ is) (λ k m. (least_ahead job t i is m).by_ready);
    ties = on_jobs job (λ j. j.due < (job (least_of job t i is)).due → ready (job (least_of job t i is)) t < max t j.release) (i ∷ is)
        (λ k m. ahead_ties (least_ahead job t i is m));
  }

  pick_in : (t i : ℕ) (is : List ℕ) → Memᴰ (first_pick job t (i ∷ is)) (i ∷ is)
  unfolding first_pick
  pick_in t i is = least_mem job t i is

  length_others : (t i : ℕ) (is : List ℕ) → length (i ∷ is) ≡ suc (length (others job t (i ∷ is)))
  unfolding first_pick others
  length_others t i is = length_without (least_of job t i is) (i ∷ is) (least_mem job t i is)

  decided_is : (t i : ℕ) (is : List ℕ) → decided job t (i ∷ is) ≡ true → Decided (jobs job (i ∷ is)) t (job (first_pick job t (i ∷ is)))
      (jobs job (others job t (i ∷ is)))
  unfolding decided second_pick
  decided_is t i is e = step (others job t (i ∷ is)) (length_others t i is) (pick_is t i is) (is_true (decided job t (i ∷ is)) e)
    where
      f : ℕ
      f = first_pick job t (i ∷ is)

      step : (os : List ℕ) → length (i ∷ is) ≡ suc (length os) → Pick (jobs job (i ∷ is)) t (job f) (jobs job os) →
          T (leb (length (i ∷ is)) 1 || leb (job f).due (job (first_pick job t os)).due) → Decided (jobs job (i ∷ is)) t (job f)
          (jobs job os)
      step [] l p h = alone p
      step (k ∷ ks) l p h =
          let d = or_second (leb (length (i ∷ is)) 1) (leb (job f).due (job (first_pick job t (k ∷ ks))).due) h
          (λ s. let n : length (i ∷ is) ≤ 1 = leb→le (length (i ∷ is)) 1 s in omega arith) in
          sooner p (pick_is t k ks) (leb→le (job f).due (job (first_pick job t (k ∷ ks))).due d)

  -- Undecided: there is a second pick, due before the first.
  pub record Open (t : ℕ) (left : List ℕ) : Type 0 where
    pub second_in : Memᴰ (second_pick job t left) left
    pub picks : Undecided (jobs job left) t (job (first_pick job t left)) (jobs job (others job t left))
        (job (second_pick job t left)) (jobs job (others job t (others job t left)))

  open_is : (t i : ℕ) (is : List ℕ) → decided job t (i ∷ is) ≡ false → Open t (i ∷ is)
  unfolding decided first_pick second_pick others
  open_is t i is e =
      record {
        second_in = mem_without f (i ∷ is) (inside (others job t (i ∷ is)) (length_others t i is) h);
        picks = step (others job t (i ∷ is)) (length_others t i is) (pick_is t i is) h;
      }
    where
      f : ℕ
      f = first_pick job t (i ∷ is)

      Later : List ℕ → Type 0
      Later os = T (not (leb (length (i ∷ is)) 1 || leb (job f).due (job (first_pick job t os)).due))

      h : Later (others job t (i ∷ is))
      h = is_false (decided job t (i ∷ is)) e

      two : (os : List ℕ) → Later os → 1 < length (i ∷ is)
      two os h = nleb→lt (length (i ∷ is)) 1 (nor_both (leb (length (i ∷ is)) 1) (leb (job f).due (job (first_pick job t os)).due) h).0

      inside : (os : List ℕ) → length (i ∷ is) ≡ suc (length os) → Later os → Memᴰ (first_pick job t os) os
      inside [] l h = let z : ⊥ = omega (arith, two [] h) in absurd z
      inside (k ∷ ks) l h = least_mem job t k ks

      step : (os : List ℕ) → length (i ∷ is) ≡ suc (length os) → Pick (jobs job (i ∷ is)) t (job f) (jobs job os) → Later os →
          Undecided (jobs job (i ∷ is)) t (job f) (jobs job os) (job (first_pick job t os)) (jobs job (others job t os))
      step [] l p h = let z : ⊥ = omega (arith, two [] h) in absurd z
      step (k ∷ ks) l p h = record {
        one = p;
        two = pick_is t k ks;
        open_due = nleb→lt (job f).due (job (first_pick job t (k ∷ ks))).due
            (nor_both (leb (length (i ∷ is)) 1) (leb (job f).due (job (first_pick job t (k ∷ ks))).due) h).1;
      }

  -- Where a run stops: nothing is left, or the desk is undecided.
  abbrev pub Halted : ℕ → List ℕ → Type 0
  Halted t [] = Unit {0}
  Halted t (i ∷ is) = decided job t (i ∷ is) ≡ false

  pub record Ran (t : ℕ) (left order : List ℕ) : Type 0 where
    pub runs : Run (jobs job left) t (jobs job order) (jobs job (without_all order left))
    pub halts : Halted (end_of job t order) (without_all order left)
    pub takes : Takes order left

  pub ran : (n t : ℕ) (left : List ℕ) → length left ≤ n → Ran t left (run_for job n t left)
  unfolding without_all others end_of
  ran zero t [] l = unfold run_for in record { runs = halt empty; halts = tt; takes = tt }
  ran zero t (i ∷ is) l = let z : ⊥ = omega arith in absurd z
  ran (suc n) t [] l = unfold run_for in record { runs = halt empty; halts = tt; takes = tt }
  ran (suc n) t (i ∷ is) l = step (decided job t (i ∷ is)) refl
      (ran n (finish (job (first_pick job t (i ∷ is))) t) (others job t (i ∷ is)) (omega (arith, length_others t i is)))
    where
      f : ℕ
      f = first_pick job t (i ∷ is)

      more : decided job t (i ∷ is) ≡ true → (ω : List ℕ) → Ran (finish (job f) t) (others job t (i ∷ is)) ω → Ran t (i ∷ is) (f ∷ ω)
      more e ω r = record { runs = go (decided_is t i is e) r.runs; halts = r.halts; takes = (pick_in t i is, r.takes) }

      stop : decided job t (i ∷ is) ≡ false → Ran t (i ∷ is) []
      stop e = record { runs = halt (undecided (open_is t i is e).picks); halts = e; takes = tt }

      step : (d : Bool) → decided job t (i ∷ is) ≡ d → Ran (finish (job f) t) (others job t (i ∷ is))
          (run_for job n (finish (job f) t) (others job t (i ∷ is))) →
          Ran t (i ∷ is) (run_for job (suc n) t (i ∷ is))
      step true e r = rw (run_step job n t i is e) (more e (run_for job n (finish (job f) t) (others job t (i ∷ is))) r)
      step false e r = rw (run_stop job n t i is e) (stop e)

-- The order that a search from (left, t) gives: the theory's order for the bound, and each row of `left` once.
pub record FoundOrder (job : ℕ → Job) (y : ℤ) (t : ℕ) (left order : List ℕ) : Type 0 where
  pub is_for : For (down y) (up y) (jobs job left) t (jobs job order)
  pub takes : Takes order left
  pub whole : length order ≡ length left

module _ (job : ℕ → Job) (y : ℤ) where
  -- What a search gives: such an order, or the theory's word that there is none.
  abbrev pub Found : ℕ → List ℕ → Option (List ℕ) → Type 0
  Found t left none = NoOrder (down y) (up y) (jobs job left) t
  Found t left (some order) = FoundOrder job y t left order

  kept_is : (t : ℕ) (order : List ℕ) → keeps job y t order ≡ true → Keeps (down y) (up y) t (jobs job order)
  kept_is t order e = keeps_kept job y t order (is_true (keeps job y t order) e)

  unkept_is : (t : ℕ) (order : List ℕ) → keeps job y t order ≡ false → ¬ Keeps (down y) (up y) t (jobs job order)
  unkept_is t order e k = subst T e (kept_keeps job y t order k)

  -- Some rows in front of what is found from there on.
  found_joined : (t : ℕ) (left done : List ℕ) (o : Option (List ℕ)) → Takes done left →
      ((θ : List Job) → For (down y) (up y) (jobs job (without_all done left)) (Rattle.theory.specs.Jobs.end_of t (jobs job done)) θ → For
      (down y) (up y) (jobs job left) t (jobs job done ++ θ)) →
      (NoOrder (down y) (up y) (jobs job (without_all done left)) (Rattle.theory.specs.Jobs.end_of t (jobs job done)) → NoOrder (down y)
      (up y) (jobs job left) t) →
      Found (end_of job t done) (without_all done left) o → Found t left (joined done o)
  unfolding joined
  found_joined t left done none k f g h = g (rw jobs_end h)
  found_joined t left done (some order) k f g h = record {
    is_for = rw map-append (f (jobs job order) (rw jobs_end h.is_for));
    takes = takes_append done order left k h.takes;
    whole = omega (arith, length-append done order, takes_length done left k, h.whole);
  }

  -- A block from an undecided desk: its first row, and the run from there.
  pub record Block (i t : ℕ) (left : List ℕ) : Type 0 where
    pub runs : Run (jobs job (without i left)) (finish (job i) t) (jobs job (run job (finish (job i) t) (without i left)))
        (jobs job (without_all (block job i t left) left))
    pub halts : Halted job (end_of job t (block job i t left)) (without_all (block job i t left) left)
    pub takes : Takes (block job i t left) left
    pub fewer : length (without_all (block job i t left) left) < length left

  pub block_is : (i t : ℕ) (left : List ℕ) → Memᴰ i left → Block i t left
  unfolding block run without_all end_of
  block_is i t left m =
      let r = ran job (length (without i left)) (finish (job i) t) (without i left) (omega arith) in
      record {
        runs = r.runs;
        halts = r.halts;
        takes = (m, r.takes);
        fewer = omega
            (arith, takes_length (run job (finish (job i) t) (without i left)) (without i left) r.takes, length_without i left m);
      }

  -- The three ways on, at an undecided desk.
  module _ (n t i : ℕ) (is : List ℕ) where
    pub blocks_one : keeps job y t (block_one job t (i ∷ is)) ≡ true →
        blocks_for job (suc n) y t (i ∷ is) ≡ joined (block_one job t (i ∷ is))
        (blocks_for job n y (end_of job t (block_one job t (i ∷ is))) (without_all (block_one job t (i ∷ is)) (i ∷ is)))
    unfolding blocks_for
    blocks_one h = rw (h, blocks_for)

    pub blocks_two : keeps job y t (block_one job t (i ∷ is)) ≡ false → keeps job y t (block_two job t (i ∷ is)) ≡ true →
        blocks_for job (suc n) y t (i ∷ is) ≡ joined (block_two job t (i ∷ is))
        (blocks_for job n y (end_of job t (block_two job t (i ∷ is))) (without_all (block_two job t (i ∷ is)) (i ∷ is)))
    unfolding blocks_for
    blocks_two h k = rw (h, k, blocks_for)

    pub blocks_none : keeps job y t (block_one job t (i ∷ is)) ≡ false → keeps job y t (block_two job t (i ∷ is)) ≡ false → blocks_for job
        (suc n) y t (i ∷ is) ≡ none
    unfolding blocks_for
    blocks_none h k = rw (h, k, blocks_for)

  -- What the search is at an undecided desk, given what it is from there on.
  module _ (n t i : ℕ) (is : List ℕ) (e : decided job t (i ∷ is) ≡ false)
      (below : (t' : ℕ) (left : List ℕ) → length left < length (i ∷ is) → Halted job t' left → Found t' left
      (blocks_for job n y t' left)) where
    at_open : Open job t (i ∷ is)
    at_open = open_is job t i is e

    first_block : Block (first_pick job t (i ∷ is)) t (i ∷ is)
    unfolding first_pick
    first_block = block_is (first_pick job t (i ∷ is)) t (i ∷ is) (least_mem job t i is)

    second_block : Block (second_pick job t (i ∷ is)) t (i ∷ is)
    second_block = block_is (second_pick job t (i ∷ is)) t (i ∷ is) at_open.second_in

    one_is : BlockOne (jobs job (i ∷ is)) t (job (first_pick job t (i ∷ is)))
        (jobs job (run job (finish (job (first_pick job t (i ∷ is))) t) (without (first_pick job t (i ∷ is)) (i ∷ is))))
        (jobs job (without_all (block_one job t (i ∷ is)) (i ∷ is))) (job (second_pick job t (i ∷ is)))
    unfolding block_one others
    one_is = record {
      M = jobs job (others job t (i ∷ is));
      L = jobs job (others job t (others job t (i ∷ is)));
      open_at =
          at_open.picks;
      run = first_block.runs;
    }

    two_is : BlockTwo (jobs job (i ∷ is)) t (job (second_pick job t (i ∷ is)))
        (jobs job (run job (finish (job (second_pick job t (i ∷ is))) t) (without (second_pick job t (i ∷ is)) (i ∷ is))))
        (jobs job (without_all (block_two job t (i ∷ is)) (i ∷ is)))
    unfolding block_two
    two_is = record {
      M = jobs job (without (second_pick job t (i ∷ is)) (i ∷ is));
      without = jobs_without job (second_pick job t (i ∷ is)) (i ∷ is) at_open.second_in;
      run = second_block.runs;
    }

    found_one : keeps job y t (block_one job t (i ∷ is)) ≡ true → Found t (i ∷ is) (blocks_for job (suc n) y t (i ∷ is))
    unfolding block_one block
    found_one h =
        let one : List ℕ = block_one job t (i ∷ is) in
        let rest : List ℕ = without_all one (i ∷ is) in
        let k = kept_is t one h in
        rw (blocks_one n t i is h) (
        found_joined t (i ∷ is) one (blocks_for job n y (end_of job t one) rest) first_block.takes (λ θ f. for_one one_is k f)
        (λ f. no_one one_is k f)
        (below (end_of job t one) rest first_block.fewer first_block.halts)
        )

    found_two : keeps job y t (block_one job t (i ∷ is)) ≡ false → keeps job y t (block_two job t (i ∷ is)) ≡ true → Found t (i ∷ is)
        (blocks_for job (suc n) y t (i ∷ is))
    unfolding block_one block_two block
    found_two h k =
        let two : List ℕ = block_two job t (i ∷ is) in
        let rest : List ℕ = without_all two (i ∷ is) in
        let u = unkept_is t (block_one job t (i ∷ is)) h in
        rw (blocks_two n t i is h k) (
        found_joined t (i ∷ is) two (blocks_for job n y (end_of job t two) rest) second_block.takes
        (λ θ f. for_two one_is u two_is (kept_is t two k) f) (λ f. no_two one_is u two_is f)
        (below (end_of job t two) rest second_block.fewer second_block.halts)
        )

    found_none : keeps job y t (block_one job t (i ∷ is)) ≡ false → keeps job y t (block_two job t (i ∷ is)) ≡ false → Found t (i ∷ is)
        (blocks_for job (suc n) y t (i ∷ is))
    unfolding block_one block_two block
    found_none h k =
        rw (blocks_none n t i is h k) (no_block one_is (unkept_is t (block_one job t (i ∷ is)) h) two_is
        (unkept_is t (block_two job t (i ∷ is)) k))

    found_at : Found t (i ∷ is) (blocks_for job (suc n) y t (i ∷ is))
    found_at = step (keeps job y t (block_one job t (i ∷ is))) (keeps job y t (block_two job t (i ∷ is))) refl refl
      where
        step : (one two : Bool) → keeps job y t (block_one job t (i ∷ is)) ≡ one → keeps job y t (block_two job t (i ∷ is)) ≡ two →
            Found t (i ∷ is) (blocks_for job (suc n) y t (i ∷ is))
        step true two h k = found_one h
        step false true h k = found_two h k
        step false false h k = found_none h k

  nothing_left : (t : ℕ) → FoundOrder job y t [] []
  nothing_left t = record { is_for = for_none; takes = tt; whole = refl }

  blocks_found : (n t : ℕ) (left : List ℕ) → length left ≤ n → Halted job t left → Found t left (blocks_for job n y t left)
  blocks_found zero t [] l h = unfold blocks_for in nothing_left t
  blocks_found zero t (i ∷ is) l h = let z : ⊥ = omega arith in absurd z
  blocks_found (suc n) t [] l h = unfold blocks_for in nothing_left t
  blocks_found (suc n) t (i ∷ is) l h = found_at n t i is h (λ t' left f s. blocks_found n t' left (omega arith) s)

module _ (job : ℕ → Job) (t : ℕ) (left : List ℕ) (y : ℤ) where
  -- The order for a bound is the theory's.
  pub order_found : Found job y t left (order_for job t left y)
  unfolding order_for run
  order_found = step (keeps job y t begun) refl
    where
      begun : List ℕ
      begun = run job t left

      rest : List ℕ
      rest = without_all begun left

      r : Ran job t left begun
      r = ran job (length left) t left (omega arith)

      step : (b : Bool) → keeps job y t begun ≡ b →
          Found job y t left (elim b [ true ↦ joined begun (blocks_for job (length left) y (end_of job t begun) rest) | false ↦ none ])
      step true e =
          found_joined job y t left begun (blocks_for job (length left) y (end_of job t begun) rest) r.takes
          (λ θ f. run_for_lem r.runs (kept_is job y t begun e) f) (λ f. run_none r.runs f)
          (blocks_found job y (length left) (end_of job t begun) rest (omega (arith, takes_length begun left r.takes)) r.halts)
      step false e = run_unkept r.runs (unkept_is job y t begun e)
