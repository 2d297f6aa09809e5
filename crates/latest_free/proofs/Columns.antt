-- From what is found of rows in columns to the outcome of the call. Assumes nothing.
use Prim.Native.Nat.{ℕ, ◌≤◌, ◌<◌}
use native.Mathlib.Omega.{arith}
use native.Mathlib.Decide.{dec_le}
use mathlib.Core.Path.{◌≡◌, refl, sym, ap, ◌∙◌}
use mathlib.Core.List.{List, Memᴰ}
use mathlib.Core.Option.{Option, none, some}
use lib.ListN.{length}
use lib.IntN.{ℤ}
use Rattle.std.specs.Prelude.{Result, Ok, Err, Some, None, ok_or}
use Rattle.std.specs.Prelude.{Option as Found}
use Rattle.theory.specs.Jobs.{Job}
use Rattle.schedule.specs.Limits.{latest_minute}
use Rattle.schedule.specs.declared.Profile.TheVariants.{Ordering}
use Rattle.schedule.specs.Rows.{count_from, jobs}
use Rattle.schedule.specs.Desk.{Pair, OrderOf, end_of, pair_of}
use Rattle.schedule.specs.Offset.{raised, lowered}
use Rattle.schedule.proofs.Orders.{perm_count, perm_all}
use Rattle.schedule.proofs.Numbers.{length_count}
use Rattle.schedule.proofs.Cover.{promised}
use Rattle.schedule.proofs.SameJobs.{same_pair}
use Rattle.refusals.specs.declared.Refusal.{Refusal}
use Rattle.refusals.specs.Tests.{refusal_at}
use Rattle.refusals.proofs.Tests.{never}
use Rattle.search.proofs.Signs.{late_lowers}
use Rattle.arrival.specs.Given.{written_of}
use Rattle.results.specs.Results.{written}
use Rattle.rows.specs.InColumns.{jobs_of}
use Rattle.readers.specs.declared.Given.{Given}
use Rattle.readers.specs.Reads.{ordering_rule, read_by, Gives}
use Rattle.readers.proofs.Readings.{given_passed}
use Rattle.outcomes.specs.Planning.{gives}
use Rattle.outcomes.specs.Plannable.{Plannable}
use Rattle.calls.proofs.Ready.{same, plannable}
use Rattle.how_late.specs.Latest.{OrderFrom, latest_order}
use Rattle.how_late.proofs.Latest.{how_late}
use Rattle.how_late.proofs.SameJobs.{order_same}
use Rattle.latest_search.specs.declared.Latest.{Latest}
use Rattle.latest_search.specs.Found.{latest_of, order_of, LatestGiven}
use Rattle.latest_free.specs.Calls.{LatestAnswer, from_outcome, latest_outcome, latest_call}
use Rattle.latest_free.proofs.Outcomes.{latest_narrow, latest_is, call_of}

-- What is answered once the latest free minute is found.
abbrev answer_of : Found Latest → LatestAnswer
answer_of (Some r) = Ok (record { minute = r.minute; end = r.end; late = lowered r.late })
answer_of None = Err (refusal_at 17 0)

module _ {job : ℕ → Job} {n : ℕ} (p : Plannable Ordering job latest_minute n) (end late : ℤ) (b : List ℕ) where
  abbrev answer : Option OrderFrom
  answer = latest_order job (count_from 1 n) end late

  some_row : 0 < length (count_from 1 n)
  some_row = omega (arith, length_count 1 n, p.low)

  -- The order from the latest free minute is one of the rows.
  whole : (s : OrderFrom) → answer ≡ some s → OrderOf (count_from 1 n) s.order
  whole s e =
      let o = ((((how_late job (count_from 1 n) end late).1 p.rule some_row).order_from s).0 e).1 in
      ((promised job s.minute (count_from 1 n) p.rule some_row).best late s.order o).0

  pub answer_narrow : length b < n → gives (Err (refusal_at 9 0)) b ≡ latest_outcome job (count_from 1 n) end late b
  answer_narrow h = sym (latest_narrow job (count_from 1 n) end late b (omega (arith, length_count 1 n)))

  answer_found : n ≤ length b → (r : Found Latest) (after : List ℕ) → LatestGiven job answer b r after →
      gives (answer_of r) after ≡ latest_outcome job (count_from 1 n) end late b
  unfolding latest_of order_of written_of from_outcome written
  answer_found wide r after g = step answer refl ∙ sym (latest_is job (count_from 1 n) end late b (omega (arith, length_count 1 n)))
    where
      -- What is given, of a minute and order that are known.
      known : (x : Option OrderFrom) → answer ≡ x →
          gives (answer_of r) after ≡ gives (answer_of (latest_of job x)) (written_of (order_of x) b)
      known x e = λ i.
          gives (answer_of ((g.answered ∙ ap (latest_of job) e) i))
          ((g.buffer ∙ ap (λ (o : Option OrderFrom). written_of (order_of o) b) e) i)

      -- The lateness of the order comes back from what it is raised to.
      lowers : (s : OrderFrom) → answer ≡ some s →
          lowered (raised (pair_of job s.minute s.order).late) ≡ (pair_of job s.minute s.order).late
      lowers s e =
          late_lowers job p.limits s.minute s.order
          (omega (arith, (perm_count (whole s e)).0, length_count 1 n, p.low))

      step : (x : Option OrderFrom) → answer ≡ x → gives (answer_of r) after ≡ from_outcome job answer b
      step none e = known none e ∙ ap (λ (o : Option OrderFrom). from_outcome job o b) (sym e)
      step (some s) e =
          known (some s) e ∙
          (ap (λ (y : ℤ). gives (Ok (record { minute = s.minute; end = end_of job s.minute s.order; late = y })) (written s.order b))
          (lowers s e) ∙ ap (λ (o : Option OrderFrom). from_outcome job o b) (sym e))

  pub answer_never : n ≤ length b → (r : Found Latest) (after : List ℕ) → LatestGiven job answer b r after → (refusal : Refusal) →
      ok_or r (refusal_at 17 0) ≡ Err refusal → gives (Err refusal) after ≡ latest_outcome job (count_from 1 n) end late b
  answer_never wide None after g refusal e = let same : refusal_at 17 0 ≡ refusal = cc in rw (← same) (answer_found wide None after g)
  answer_never wide (Some found) after g refusal e = never (cc)

  pub answer_from : n ≤ length b → (r : Found Latest) (after : List ℕ) → LatestGiven job answer b r after → (found : Latest) →
      r ≡ Some found → (z : ℤ) → z ≡ lowered found.late →
      gives (Ok (record { minute = found.minute; end = found.end; late = z })) after ≡ latest_outcome job (count_from 1 n) end late b
  answer_from wide r after g found is z lower =
      ap (λ (z : ℤ). gives {A = LatestAnswer} (Ok (record { minute = found.minute; end = found.end; late = z })) after) lower ∙
      (ap (λ (x : Found Latest). gives (answer_of x) after) (sym is) ∙ answer_found wide r after g)

  -- Jobs that are the same on the rows.
  module _ (job' : ℕ → Job) (alike : (i : ℕ) → Memᴰ i (count_from 1 n) → job i ≡ job' i) where
    from_alike : (x : Option OrderFrom) → answer ≡ x → from_outcome job x b ≡ from_outcome job' x b
    unfolding from_outcome
    from_alike none e = refl
    from_alike (some s) e =
        ap (λ (q : Pair). gives (Ok (record { minute = s.minute; end = q.end; late = q.late })) (written s.order b))
        (same_pair job job' s.minute s.order (perm_all (λ i. job i ≡ job' i) (whole s e) alike))

    pub same_outcome : latest_outcome job (count_from 1 n) end late b ≡ latest_outcome job' (count_from 1 n) end late b
    same_outcome = step (dec_le (length (count_from 1 n)) (length b))
      where
        step : Dec (length (count_from 1 n) ≤ length b) →
            latest_outcome job (count_from 1 n) end late b ≡ latest_outcome job' (count_from 1 n) end late b
        step (yes h) =
            latest_is job (count_from 1 n) end late b h ∙
            (from_alike answer refl ∙
            (ap (λ (o : Option OrderFrom). from_outcome job' o b) (order_same n end late job job' alike) ∙
            sym (latest_is job' (count_from 1 n) end late b h)))
        step (no h) =
            latest_narrow job (count_from 1 n) end late b (omega arith) ∙
            sym (latest_narrow job' (count_from 1 n) end late b (omega arith))

-- Of a book that is accepted: its rows can be planned from every minute, and the outcome of the columns is that of the call.
pub record Ready (opening : ℕ) (book : List ℕ) (r : Given) : Type 0 where
  pub can_plan_lem : Plannable Ordering (jobs_of r.columns) latest_minute r.count
  pub is_call : (end late : ℤ) (b : List ℕ) →
      latest_outcome (jobs_of r.columns) (count_from 1 r.count) end late b ≡ latest_call opening book end late b

pub ready : (opening : ℕ) (book : List ℕ) (r : Result Given Refusal) (given : Given) →
    Gives opening (read_by (ordering_rule opening) book) r → r ≡ Ok given → Ready opening book given
ready opening book x r g e =
    let d = given_passed opening (read_by (ordering_rule opening) book) x r g e in
    let k = plannable (ordering_rule opening) book r d.day d.contents d.free d.count d.columns in
    let alike = same (ordering_rule opening) book r d.day d.contents d.free d.count d.columns in
    let can : Plannable Ordering (jobs_of r.columns) latest_minute r.count =
    record { limits = k.limits; low = k.low; few = k.few; early = omega (arith, k.few); rule = k.rule } in
    record {
      can_plan_lem = can;
      is_call = λ end late b.
          same_outcome can end late b (jobs opening d.day) alike ∙
          (ap (λ (n : ℕ). latest_outcome (jobs opening d.day) (count_from 1 n) end late b) d.count ∙
          sym (call_of opening book end late b d.day d.contents));
    }
