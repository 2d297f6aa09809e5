-- The run from a desk in planning, row by row: what the loop keeps, and how it begins, goes on and ends. And the block that a row begins.
-- Assumes nothing.
use Prim.Native.Nat.{ℕ, ◌+◌, ◌-◌, ◌<◌}
use native.Mathlib.Omega.{arith}
use native.Mathlib.Numerals.{add-one}
use mathlib.Core.Bool.{true, false}
use mathlib.Core.Path.{◌≡◌, refl, sym, ap, ◌∙◌, subst}
use mathlib.Core.List.{List, [], ◌∷◌, ◌++◌, append-nil, append_assoc, Memᴰ}
use mathlib.Core.Logic.{inl, inr}
use lib.ListN.{length, take, set, length-append, length-set}
use lib.Seq.{take-set-le, take-suc-set, take-take}
use Rattle.theory.specs.Jobs.{Job, finish}
use Rattle.schedule.specs.Limits.{most_rows}
use Rattle.schedule.specs.declared.Desk.{Desk}
use Rattle.schedule.specs.Rows.{without, without_all}
use Rattle.schedule.specs.Picks.{first_pick, decided, run, block}
use Rattle.schedule.specs.Columns.{Limits}
use Rattle.schedule.specs.Offset.{desk_after}
use Rattle.picks.specs.declared.Standing.{Standing}
use Rattle.picks.specs.Standing.{Sits, Taken}
use Rattle.search.specs.Taking.{desk_through, Stuck, Ran}
use Rattle.search.proofs.Signs.{through_grows, through_append}
use Rattle.search.proofs.Runs.{run_none, run_undecided, run_takes}

pub without_append : (a b left : List ℕ) → without_all (a ++ b) left ≡ without_all b (without_all a left)
unfolding without_all
without_append [] b left = refl
without_append (i ∷ is) b left = without_append is b (without i left)

-- One row more of the order so far.
order_more : (order done : List ℕ) (k i : ℕ) → k < length order → take k order ≡ done → take (k + 1) (set order k i) ≡ done ++ (i ∷ [])
order_more order done k i h e = ap (λ (m : ℕ). take m (set order k i)) (add-one k) ∙
    (take-suc-set order k i h ∙ ap (λ (l : List ℕ). l ++ (i ∷ [])) e)

module _ (n : ℕ) (job : ℕ → Job) (by : ℕ → ℕ) where
  -- From the desk b with the rows `all` left over the rows `taken` are taken; the run from the desk s is what is left of the run from b.
  pub record Toward (all : List ℕ) (b : Standing) (order₀ : List ℕ) (s : Standing) (order : List ℕ) : Type 0 where
    pub taken : List ℕ
    pub sits : Sits n job by (without_all taken all) s
    pub same : run job b.desk.minute all ≡ taken ++ run job s.desk.minute (without_all taken all)
    pub desk : s.desk ≡ desk_through job b.desk taken
    pub count : s.count ≡ b.count + length taken
    pub written : take s.count order ≡ take b.count order₀ ++ taken
    pub before : take b.count order ≡ take b.count order₀
    pub places : length order ≡ most_rows

  pub toward_first : (all : List ℕ) (b : Standing) (order : List ℕ) → Sits n job by all b → length order ≡ most_rows →
      Toward all b order b order
  unfolding without_all desk_through
  toward_first all b order g l = record {
    taken = [];
    sits = g;
    same = refl;
    desk = refl;
    count = omega arith;
    written = sym (append-nil (take b.count order));
    before = refl;
    places = l;
  }

  module _ (limits : Limits job) (all : List ℕ) (b : Standing) (order₀ : List ℕ) (s : Standing) (order : List ℕ)
      (o : Toward all b order₀ s order) where
    abbrev rest : List ℕ
    rest = without_all o.taken all

    abbrev whole : List ℕ
    whole = run job b.desk.minute all

    -- A lateness is above the bound.
    pub ran_over : (bound : ℕ) → bound < s.desk.worst → Ran n job by bound all b whole order₀ s order
    ran_over bound h = record {
      kept = λ k. let z : ⊥ = omega arith in absurd z;
      over = λ k. omega (
        arith,
        ap (λ (l : List ℕ). (desk_through job b.desk l).worst) o.same,
        ap (λ (d : Desk). d.worst) (through_append job b.desk o.taken (run job s.desk.minute rest)),
        ap (λ (d : Desk). (desk_through job d (run job s.desk.minute rest)).worst) o.desk,
        through_grows job limits s.desk (run job s.desk.minute rest),
      );
      before = o.before;
      counts = (omega (arith, o.count), omega (arith, o.sits.count));
      places = o.places;
    }

    -- The run ends here.
    ended : run job s.desk.minute rest ≡ [] → Stuck n job by s.desk.minute rest → (bound : ℕ) →
        Ran n job by bound all b whole order₀ s order
    ended e u bound =
        let t : whole ≡ o.taken = o.same ∙ (ap (λ (l : List ℕ). o.taken ++ l) e ∙ append-nil o.taken) in
        record {
          kept = λ k. (
            record {
              sits = subst (λ (l : List ℕ). Sits n job by (without_all l all) s) (sym t) o.sits;
              desk = o.desk ∙ ap (desk_through job b.desk) (sym t);
              count = o.count ∙ ap (λ (l : List ℕ). b.count + length l) (sym t);
              stuck = subst (λ (l : List ℕ). Stuck n job by s.desk.minute (without_all l all)) (sym t) u;
            },
            o.written ∙ ap (λ (l : List ℕ). take b.count order₀ ++ l) (sym t),
          );
          over = λ k. omega (arith, ap (λ (d : Desk). d.worst) o.desk, ap (λ (l : List ℕ). (desk_through job b.desk l).worst) t);
          before = o.before;
          counts = (omega (arith, o.count), omega (arith, o.sits.count));
          places = o.places;
        }

    pub ran_none : rest ≡ [] → (bound : ℕ) → Ran n job by bound all b whole order₀ s order
    ran_none e = ended (ap (run job s.desk.minute) e ∙ run_none job s.desk.minute) (inl e)

    pub ran_torn : decided job s.desk.minute rest ≡ false → (bound : ℕ) → Ran n job by bound all b whole order₀ s order
    ran_torn e = ended (run_undecided job s.desk.minute rest e) (inr e)

    -- The first pick is taken.
    module _ (i : ℕ) (first : i ≡ first_pick job s.desk.minute rest) (m : Memᴰ i rest) (r : Standing)
        (a : Taken n job by rest s i r) where
      pub toward_next : decided job s.desk.minute rest ≡ true → s.count < most_rows → Toward all b order₀ r (set order s.count i)
      unfolding without_all desk_through
      toward_next d h =
          let more = o.taken ++ (i ∷ []) in
          let l : without i rest ≡ without_all more all = sym (without_append o.taken (i ∷ []) all) in
          let t : r.desk.minute ≡ finish (job i) s.desk.minute = ap (λ (x : Desk). x.minute) a.desk in
          let goes : run job s.desk.minute rest ≡ i ∷ run job r.desk.minute (without_all more all) =
          run_takes job s.desk.minute rest (subst (λ (k : ℕ). Memᴰ k rest) first m) d ∙
          (ap (λ (k : ℕ). k ∷ run job (finish (job k) s.desk.minute) (without k rest)) (sym first) ∙
          (λ x. i ∷ run job (sym t x) (l x))) in
          record {
            taken = more;
            sits = subst (λ (js : List ℕ). Sits n job by js r) l a.sits;
            same = o.same ∙ (ap (λ (js : List ℕ). o.taken ++ js) goes ∙
                sym (append_assoc o.taken (i ∷ []) (run job r.desk.minute (without_all more all))));
            desk = a.desk ∙ (ap (λ (x : Desk). desk_after x (job i)) o.desk ∙ sym (through_append job b.desk o.taken (i ∷ [])));
            count = omega (arith, a.count, o.count, length-append o.taken (i ∷ []));
            written =
                ap (λ (k : ℕ). take k (set order s.count i)) a.count ∙
                (order_more order (take b.count order₀ ++ o.taken) s.count i (omega (arith, o.places)) o.written ∙
                append_assoc (take b.count order₀) o.taken (i ∷ []));
            before = take-set-le b.count order s.count i (omega (arith, o.count)) ∙ o.before;
            places = length-set order s.count i ∙ o.places;
          }

      pub toward_less : n - r.count < n - s.count
      toward_less = omega (arith, a.count, a.sits.count)

  -- A row, and the run from there.
  module _ (limits : Limits job) (rest : List ℕ) (s : Standing) (order : List ℕ) (i : ℕ) (first : Standing)
      (a : Taken n job by rest s i first) (h : s.count < most_rows) (l : length order ≡ most_rows) where
    abbrev begun : List ℕ
    begun = set order s.count i

    pub block_ran : (bound : ℕ) (r : Standing) (after : List ℕ) →
        Ran n job by bound (without i rest) first (run job first.desk.minute (without i rest)) begun r after →
        (s.count < r.count) × Ran n job by bound rest s (block job i s.desk.minute rest) order r after
    unfolding block without_all desk_through
    block_ran bound r after q = (omega (arith, a.count, q.counts), ran)
      where
        ran : Ran n job by bound rest s (block job i s.desk.minute rest) order r after
        ran =
            let t : first.desk.minute ≡ finish (job i) s.desk.minute = ap (λ (x : Desk). x.minute) a.desk in
            let on = run job (finish (job i) s.desk.minute) (without i rest) in
            let e : run job first.desk.minute (without i rest) ≡ on = ap (λ (k : ℕ). run job k (without i rest)) t in
            let d : desk_through job first.desk (run job first.desk.minute (without i rest)) ≡ desk_through job
            (desk_after s.desk (job i)) on = λ x. desk_through job (a.desk x) (e x) in
            let w : take first.count begun ≡ take s.count order ++ (i ∷ []) = ap (λ (k : ℕ). take k begun) a.count ∙
            order_more order (take s.count order) s.count i (omega arith) refl in
            record {
              kept = λ k.
                  let m = q.kept k in (
                    record {
                      sits = subst (λ (js : List ℕ). Sits n job by (without_all js (without i rest)) r) e m.0.sits;
                      desk = m.0.desk ∙ d;
                      count = omega (arith, m.0.count, a.count, ap length e);
                      stuck = subst (λ (js : List ℕ). Stuck n job by r.desk.minute (without_all js (without i rest))) e m.0.stuck;
                    },
                    m.1 ∙ ((λ x. w x ++ e x) ∙ append_assoc (take s.count order) (i ∷ []) on),
                  );
              over = λ k. omega (arith, q.over k, ap (λ (x : Desk). x.worst) d);
              before =
                  sym (take-take s.count first.count after (omega (arith, a.count))) ∙
                  (ap (take s.count) q.before ∙
                  (take-take s.count first.count begun (omega (arith, a.count)) ∙
                  take-set-le s.count order s.count i (omega arith)));
              counts = (omega (arith, a.count, q.counts), q.counts.1);
              places = q.places;
            }
