-- The three properties of the calls hold, by any terms.
-- Assumes nothing.
use Prim.Native.Nat.{ℕ, ◌*◌, ◌≤◌, ◌<◌}
use native.Mathlib.Omega.{arith}
use mathlib.Core.Path.{◌≡◌, refl, sym, ap, ◌∙◌, subst}
use mathlib.Core.List.{List, [], Memᴰ}
use mathlib.Core.Logic.{◌↔◌}
use lib.ListN.{length, take, drop}
use lib.IntN.{ℤ, pos, negsuc}
use lib.Signed.{◌≤ℤ◌}
use Rattle.theory.specs.Jobs.{Job}
use Rattle.schedule.specs.Limits.{most_rows, latest_minute, longest_time, latest_due, latest_book_end, least_lateness}
use Rattle.schedule.specs.declared.Profile.{Profile}
use Rattle.schedule.specs.declared.Profile.TheVariants.{Ordering}
use Rattle.std.specs.Prelude.{Some, Ok, Err}
use Rattle.schedule.specs.Rows.{row, job, Day, jobs, row_numbers}
use Rattle.schedule.specs.Desk.{OrderOf, end_of, pair_of}
use Rattle.schedule.specs.Cover.{Fits32}
use Rattle.schedule.proofs.Numbers.{length_count}
use Rattle.schedule.proofs.Signed.{le_z→, →le_z}
use Rattle.schedule.proofs.Ranges.{in_range}
use Rattle.schedule.proofs.Profiles.{profiles_promised}
use Rattle.schedule.proofs.Opening.{opening_laws}
use Rattle.row_reader.proofs.NearestMinute.{nearest_minute}
use Rattle.pairs.specs.Pairs.{number_word}
use Rattle.book.specs.Rows.{Contents, refused, accepted}
use Rattle.grammar.specs.Books.{Tells}
use Rattle.grammar.proofs.Books.{tells}
use Rattle.readers.specs.declared.Terms.{Terms}
use Rattle.readers.specs.Reads.{without_opening, read_by}
use Rattle.readers.specs.Accepted.{AcceptedDay}
use Rattle.readers.proofs.Accepted.{accepted_day, accepted_ranged}
use Rattle.readers.proofs.OneClass.{one_class}
use Rattle.row_calls.specs.Places.{RowPlace, place_in, place_call, row_words_at}
use Rattle.results.specs.Results.{written, plan_words}
use Rattle.outcomes.specs.Outcomes.{verdict_outcome}
use Rattle.outcomes.specs.Planning.{gives, Planning}
use Rattle.outcomes.proofs.Sound.{Sound}
use Rattle.outcomes.proofs.OutcomeLaws.{order_some}
use Rattle.calls.specs.Answers.{said_list, said_order, said_verdict, said_place}
use Rattle.calls.specs.Planned.{planned}
use Rattle.calls.proofs.CallLaws.{list_refused, bound_refused, plan_refused, verdict_refused, list_of, bound_of, plan_of, verdict_of}
use Rattle.promises.specs.Vocabulary as calls
use Rattle.promises.specs.Vocabulary.{told, Accepts, Takes, Refuses}
use Rattle.promises.specs.Table as table
use Rattle.promises.specs.Promise.{front, Given, Cover, Property1, Property2, Property3}
use Rattle.promises.proofs.Kept.{list_front, plan_front, covered, orders_of_plans, bound_answered, verdict_front, judged}
use Rattle.promises.proofs.Accepted.{accepts, takes}
use Rattle.promises.proofs.Refused.{turned, list_turned, bound_turned, plan_turned, verdict_turned, row_at, row_turned}
use Rattle.promises.proofs.Memory as memory
use Rattle.promises.proofs.Numbers.{turned_numbered}

-- What is known of an accepted day.
module _ {terms : Terms} {day : Day} (a : AcceptedDay terms day) where
  abbrev job_seen : ℕ → Job
  job_seen = jobs terms.opening day

  pub some_rows : 0 < length (row_numbers day)
  some_rows = omega (arith, length_count 1 (length day.rows), a.some_row)

  pub ranges : (order : List ℕ) → OrderOf (row_numbers day) order →
      (end_of job_seen day.free order ≤ latest_book_end) ×
      ((pair_of job_seen day.free order).late ≤ℤ pos latest_book_end) × (least_lateness ≤ℤ (pair_of job_seen day.free order).late)
  ranges = in_range latest_minute 1 longest_time latest_due most_rows job_seen day.free (row_numbers day) (accepted_ranged a) some_rows

  fits : Fits32 job_seen day.free (row_numbers day)
  fits order o =
      let r = ranges order o in
      let h = le_z→ (pair_of job_seen day.free order).late (pos latest_book_end) r.1.le in
      let l = le_z→ least_lateness (pair_of job_seen day.free order).late r.2.le in (
        record { le = →le_z (negsuc 2147483647) (pair_of job_seen day.free order).late (omega (arith, l)) },
        record { le = →le_z (pair_of job_seen day.free order).late (pos 2147483647) (omega (arith, h)) },
      )

  pub day_sound : Sound (planned terms day)
  day_sound =
      let p = profiles_promised terms.profile job_seen day.free (row_numbers day) a.rule some_rows in
      record { fits = fits; front = p.0; promise = p.1 }

module _ (terms : Terms) where
  abbrev profile : Profile
  profile = terms.profile

  module _ (book : List ℕ) where
    sound : (day : Day) → read_by terms book ≡ accepted day → Sound (planned terms day)
    sound day e = day_sound (accepted_day terms book day e)

    said_place_lem : (x : Contents) (k : ℕ) → read_by (without_opening profile) book ≡ x → calls.place terms book k ≡ said_place (place_in x k)
    said_place_lem x k e = ap (λ (y : Contents). said_place (place_in y k)) e

    -- How each call is refused.
    list_exactly : (b : List ℕ) (n p : ℕ) → Refuses (calls.list terms book b).answer n p ↔
        table.Turned terms book (λ day. table.ListTurned (planned terms day) b) n p
    list_exactly b = turned terms book _ _ (λ n p e. ap (λ o. said_list o.answer) (list_refused terms book n p e b))
        (λ day e. rw (list_of terms book day e b) (list_turned (planned terms day) b))

    bound_exactly : (y : ℤ) (b : List ℕ) (n p : ℕ) → Refuses (calls.bound terms book y b).answer n p ↔
        table.Turned terms book (λ day. table.BoundTurned (planned terms day) y b) n p
    bound_exactly y b = turned terms book _ _ (λ n p e. ap (λ o. said_order o.answer) (bound_refused terms book n p e y b))
        (λ day e. rw (bound_of terms book day e y b) (bound_turned (planned terms day) (sound day e) y b))

    plan_exactly : (k : ℕ) (b : List ℕ) (n p : ℕ) → Refuses (calls.plan terms book k b).answer n p ↔
        table.Turned terms book (λ day. table.PlanTurned (planned terms day) k b) n p
    plan_exactly k b = turned terms book _ _ (λ n p e. ap (λ o. said_order o.answer) (plan_refused terms book n p e k b))
        (λ day e. rw (plan_of terms book day e k b) (plan_turned (planned terms day) (sound day e) k b))

    verdict_exactly : (posting : List ℕ) (n p : ℕ) → Refuses (calls.verdict terms book posting) n p ↔
        table.Turned terms book (λ day. table.VerdictTurned (length day.rows) posting) n p
    verdict_exactly posting = turned terms book _ _ (λ n p e. ap said_verdict (verdict_refused terms book n p e posting))
        (λ day e n p. rw (verdict_of terms book day e posting)
        (subst (λ (m : ℕ). Refuses (said_verdict (verdict_outcome (planned terms day) posting)) n p ↔ table.VerdictTurned m posting n p)
        (length_count 1 (length day.rows)) (verdict_turned (planned terms day) posting n p)))

    row_exactly : (k n p : ℕ) → Refuses (calls.place terms book k) n p ↔
        table.Turned (without_opening profile) book (λ day. table.RowTurned (length day.rows) k) n p
    unfolding place_in
    row_exactly k = turned (without_opening profile) book _ _ (λ n p e. said_place_lem (refused n p) k e)
        (λ day e. rw (said_place_lem (accepted day) k e) (row_turned day k))

    -- Buffers.
    list_kept : (b : List ℕ) (x : Contents) → read_by terms book ≡ x → memory.Kept b (calls.list terms book b)
    list_kept b (refused n p) e = rw (list_refused terms book n p e b) memory.kept_no
    list_kept b (accepted day) e = rw (list_of terms book day e b) (memory.list_kept (planned terms day) (sound day e) b)

    bound_kept : (y : ℤ) (b : List ℕ) (x : Contents) → read_by terms book ≡ x → memory.Kept b (calls.bound terms book y b)
    bound_kept y b (refused n p) e = rw (bound_refused terms book n p e y b) memory.kept_no
    bound_kept y b (accepted day) e = rw (bound_of terms book day e y b) (memory.order_kept (planned terms day) (sound day e) y b)

    plan_kept : (k : ℕ) (b : List ℕ) (x : Contents) → read_by terms book ≡ x → memory.Kept b (calls.plan terms book k b)
    plan_kept k b (refused n p) e = rw (plan_refused terms book n p e k b) memory.kept_no
    plan_kept k b (accepted day) e = rw (plan_of terms book day e k b) (memory.plan_kept (planned terms day) (sound day e) k b)

    -- The numbers of each call's own conditions.
    list_own : (b : List ℕ) (day : Day) (n p : ℕ) → table.ListTurned (planned terms day) b n p → (9 ≤ n) × (n ≤ 12)
    list_own b day _ _ (table.narrow h) = (omega arith, omega arith)

    bound_own : (y : ℤ) (b : List ℕ) (day : Day) (n p : ℕ) → table.BoundTurned (planned terms day) y b n p → (9 ≤ n) × (n ≤ 12)
    bound_own y b day _ _ (table.narrow h) = (omega arith, omega arith)
    bound_own y b day _ _ (table.unkept h k) = (omega arith, omega arith)

    plan_own : (k : ℕ) (b : List ℕ) (day : Day) (n p : ℕ) → table.PlanTurned (planned terms day) k b n p → (9 ≤ n) × (n ≤ 12)
    plan_own k b day _ _ (table.unlisted h) = (omega arith, omega arith)
    plan_own k b day _ _ (table.narrow f h l) = (omega arith, omega arith)

    verdict_own : (posting : List ℕ) (day : Day) (n p : ℕ) → table.VerdictTurned (length day.rows) posting n p → (9 ≤ n) × (n ≤ 12)
    verdict_own posting day _ _ (table.wrong_length d) = (omega arith, omega arith)
    verdict_own posting day _ _ (table.stray l p f x g) = (omega arith, omega arith)

    row_own : (k : ℕ) (day : Day) (n p : ℕ) → table.RowTurned (length day.rows) k n p → (9 ≤ n) × (n ≤ 12)
    row_own k day _ _ (table.unlisted d) = (omega arith, omega arith)

    -- A row that is refused has no words.
    no_words : (k : ℕ) → 1 ≤ (calls.place terms book k).number → calls.words terms book k ≡ []
    no_words k h = step (place_call profile book k) h
      where
        step : (x : RowPlace) → 1 ≤ (said_place x).number → row_words_at x book ≡ []
        step (Ok a) l = let z : ⊥ = omega arith in absurd z
        step (Err refusal) l = refl

    -- A book that the calls take: what is planned, and what they give.
    module _ (day : Day) (t : Takes terms book day) where
      abbrev g : Planning
      g = planned terms day

      reads : read_by terms book ≡ accepted day
      reads = (takes terms book day).1 t

      safe : Sound g
      safe = sound day reads

      count : length g.left ≡ length day.rows
      count = length_count 1 (length day.rows)

      given_list : (b : List ℕ) → 2 * length day.rows ≤ length b →
          calls.list terms book b ≡ gives (calls.said_count (length (front terms book day))) (written (plan_words (front terms book day)) b)
      given_list b h = ap (told said_list) (list_of terms book day reads b) ∙ list_front g safe b (omega (arith, count))

      given_row : (k : ℕ) → 1 ≤ k → k ≤ length day.rows →
          (calls.place terms book k ≡ calls.said_at (number_word k)) × (calls.words terms book k ≡ take 4 (drop (number_word k) book))
      given_row k l h =
          let r = (takes (without_opening profile) book day).1 (record { opening = omega arith; accepts = t.accepts }) in
          let e : place_call profile book k ≡ Ok (number_word k) = ap (λ (x : Contents). place_in x k) r ∙ row_at day k l h in
          (ap said_place e, ap (λ (x : RowPlace). row_words_at x book) e)

      given : Given terms book day
      given = record {
        of_list = given_list;
        of_bound = λ y b order h e.
            ap (told said_order) (bound_of terms book day reads y b ∙ order_some g y b (omega (arith, count)) order e);
        of_plan = λ k p b e. ap (told said_order)
            (plan_of terms book day reads k b ∙ plan_front g safe k p b e ∙ sym (bound_of terms book day reads p.late b));
        of_verdict = λ posting o.
            ap said_verdict (verdict_of terms book day reads posting) ∙ verdict_front g safe posting (length day.rows) refl o;
        of_row = given_row;
        opening = opening_laws terms.opening (job day.rows);
        ranges = ranges (accepted_day terms book day reads);
      }

      keeps : Cover terms book day
      keeps = record {
        lists = λ b h. record {
          covered = rw (list_of terms book day reads b) (covered g safe b (omega (arith, count)));
          orders_of_plans = λ k p c. rw (list_of terms book day reads b, plan_of terms book day reads k c)
              (orders_of_plans g safe b (omega (arith, count)) k p c);
          verdicts = λ posted o. rw (list_of terms book day reads b, verdict_of terms book day reads posted)
              (judged g safe posted (length day.rows) refl o b (omega (arith, count)));
        };
        bounds = λ y c h. rw (bound_of terms book day reads y c) (bound_answered g safe y c (omega (arith, count)));
      }

  pub lent_memory : Property1 terms
  lent_memory = record {
    of_list = λ book b. let k = list_kept book b (read_by terms book) refl in record {
      number = λ h. turned_numbered (list_own book b) ((list_exactly book b _ _).0 (h, refl, refl));
      buffer = k.refused;
      same_length = k.same_length;
    };
    of_bound = λ book y b. let k = bound_kept book y b (read_by terms book) refl in record {
      number = λ h. turned_numbered (bound_own book y b) ((bound_exactly book y b _ _).0 (h, refl, refl));
      buffer = k.refused;
      same_length = k.same_length;
    };
    of_plan = λ book k b. let u = plan_kept book k b (read_by terms book) refl in record {
      number = λ h. turned_numbered (plan_own book k b) ((plan_exactly book k b _ _).0 (h, refl, refl));
      buffer = u.refused;
      same_length = u.same_length;
    };
    of_verdict = λ book posting h. turned_numbered (verdict_own book posting) ((verdict_exactly book posting _ _).0 (h, refl, refl));
    of_row = λ book k h. (turned_numbered (row_own book k) ((row_exactly book k _ _).0 (h, refl, refl)), no_words book k h);
    rows_taken = λ book day a b h. ap (λ o. o.answer.number) (given_list book day a b h);
  }

  -- A book of one class is accepted by the ordering rule.
  one_class_accepted : profile ≡ Ordering → (book : List ℕ) (day : Day) (c : ℕ) → Tells book day →
      ((i : ℕ) → Memᴰ i (row_numbers day) → (row day.rows i).class ≡ Some c) → Accepts profile book day
  one_class_accepted o book day c t h =
      subst (λ (p : Profile). Accepts p book day) (sym o) ((accepts Ordering book day).0 (one_class book c day ((tells book day).1 t) h))

  pub definitions_hold : Property2 terms
  definitions_hold = record {
    takes = takes terms;
    given = given;
    list_refused = list_exactly;
    bound_refused = bound_exactly;
    plan_refused = plan_exactly;
    verdict_refused = verdict_exactly;
    row_refused = row_exactly;
    nearest_minute = nearest_minute;
    one_class = one_class_accepted;
  }

  pub cover_holds : Property3 terms
  cover_holds = keeps
