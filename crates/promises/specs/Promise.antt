-- The three properties of the offered calls, for every book, bound, plan number, posting and buffer. `terms` is what the calls are told:
-- `ordering_rule` or `first_come` (readers) with any opening minutes. The proofs are `lent_memory`, `definitions_hold` and `cover_holds`, in
-- proofs/Promise.antt. That each function does what is said here of its call is its contract (planner/src, first_come/src).
-- Rests on: Vocabulary, Table, the grammar of books, the schedule.
use Rattle.std.specs.Prelude.{ℕ, ◌*◌, ◌≤◌, ◌<◌, ◌≡◌, ◌↔◌, length, take, drop, ℤ, pos, ◌≤ℤ◌, ◌<ℤ◌, Some}
use mathlib.Core.List.{List, [], Memᴰ}
use Rattle.std.proofs.Math.Option.{some}
use Rattle.theory.specs.Jobs.{Job}
use Rattle.schedule.specs.Limits.{latest_book_end, least_lateness}
use Rattle.schedule.specs.declared.Profile.{Profile}
use Rattle.schedule.specs.declared.Profile.TheVariants.{Ordering, FirstCome}
use Rattle.schedule.specs.Rows.{row, job, Day, jobs, row_numbers}
use Rattle.schedule.specs.Desk.{Pair, OrderOf, Attains, end_of, pair_of}
use Rattle.schedule.specs.Plans.{plans, first_beating}
use Rattle.schedule.specs.Cover.{Rising}
use Rattle.schedule.specs.Opening.{OpeningLaws}
use Rattle.refusals.specs.Refusals.{by_unkept}
use Rattle.row_reader.specs.NearestMinute.{NearestMinute}
use Rattle.pairs.specs.Pairs.{number_word}
use Rattle.grammar.specs.Books.{Tells}
use Rattle.book.specs.Rows.{accepted}
use Rattle.readers.specs.declared.Terms.{Terms}
use Rattle.readers.specs.Reads.{without_opening, read_by}
use Rattle.results.specs.Results.{written, plan_words, or_zero}
use Rattle.outcomes.specs.Planning.{Outcome, gives, nth, Planning}
use Rattle.calls.specs.Answers.{Said, said_no}
use Rattle.calls.specs.Planned.{planned}
use Rattle.promises.specs.Vocabulary.{said_count, said_pair, said_judged, said_at, Refuses, listed, ReaderOrder, end_by, late_by, pair_by}
use Rattle.promises.specs.Vocabulary.{list, bound, plan, verdict, place, words, NoneBeats, EndsSooner, LessLate, Accepts, Takes}
use Rattle.promises.specs.Table.{Turned, ListTurned, BoundTurned, PlanTurned, VerdictTurned, RowTurned}

-- # 1. The lent memory
-- "No call reads or writes outside it, every call ends on every content, the book is never written." This the check of each function
-- shows: no offered call has a `requires`, and the book is lent for reading.
--
-- "A refused call returns one number of the table and one place, and every lent buffer holds what it held." The numbers are 1 to 12; of
-- first come, first due 1 to 13, and never 8. And no call makes a buffer longer or shorter.
abbrev pub InTable : Profile → ℕ → Type 0
InTable Ordering n = (1 ≤ n) × (n ≤ 12)
InTable FirstCome n = (1 ≤ n) × (n ≤ 13) × ¬ (n ≡ 8)

pub record Lent (Numbers : ℕ → Type 0) (b : List ℕ) (o : Outcome Said) : Type 0 where
  pub number : 1 ≤ o.answer.number → Numbers o.answer.number
  pub buffer : 1 ≤ o.answer.number → o.buffer ≡ b
  pub same_length : length o.buffer ≡ length b

pub record Property1 (terms : Terms) : Type 0 where
  pub of_list : (book b : List ℕ) → Lent (InTable terms.profile) b (list terms book b)
  pub of_bound : (book : List ℕ) (y : ℤ) (b : List ℕ) → Lent (InTable terms.profile) b (bound terms book y b)
  pub of_plan : (book : List ℕ) (k : ℕ) (b : List ℕ) → Lent (InTable terms.profile) b (plan terms book k b)
  pub of_verdict : (book posting : List ℕ) → 1 ≤ (verdict terms book posting).number →
      InTable terms.profile (verdict terms book posting).number
  -- A refused call for a row's words gives an empty part.
  pub of_row : (book : List ℕ) (k : ℕ) → 1 ≤ (place terms book k).number →
      InTable terms.profile (place terms book k).number × (words terms book k ≡ [])
  -- "Up to 256 rows are taken." `Takes` asks no more than an opening of 0 to 30 minutes and a book that is written from 1 to 256 rows in
  -- range with different numbers, of which no two clash; such a book, whichever it is, is listed in any buffer of two words for each row.
  pub rows_taken : (book : List ℕ) (day : Day) → Takes terms book day → (b : List ℕ) →
      2 * length day.rows ≤ length b → (list terms book b).answer.number ≡ 0

-- # 2. The definitions
-- "Each accepted book gives the ends, latenesses and orders of the definitions": what each call answers and writes, outright. `plans` are
-- the pairs that some order of the rows attains and no order beats, by rising end.
module _ (terms : Terms) (book : List ℕ) (day : Day) where
  -- What planning sees of each row: opening plus length is its time at the desk.
  abbrev pub seen : ℕ → Job
  seen = jobs terms.opening day

  abbrev pub front : List Pair
  front = plans seen day.free (row_numbers day)

  pub record Given : Type 0 where
    pub of_list : (b : List ℕ) → 2 * length day.rows ≤ length b →
        list terms book b ≡ gives (said_count (length front)) (written (plan_words front) b)
    pub of_bound : (y : ℤ) (b order : List ℕ) → length day.rows ≤ length b → (planned terms day).orders y ≡ some order →
        bound terms book y b ≡ gives (said_pair (pair_of seen day.free order)) (written order b)
    -- Each pair's order is the order for the bound equal to its lateness.
    pub of_plan : (k : ℕ) (p : Pair) (b : List ℕ) → nth front k ≡ some p → plan terms book k b ≡ bound terms book p.late b
    pub of_verdict : (posting : List ℕ) → OrderOf (row_numbers day) posting →
        verdict terms book posting ≡
        let pair = pair_of seen day.free posting in
        said_judged pair (or_zero (first_beating 1 front pair))
    pub of_row : (k : ℕ) → 1 ≤ k → k ≤ length day.rows →
        (place terms book k ≡ said_at (number_word k)) × (words terms book k ≡ take 4 (drop (number_word k) book))
    -- Each row takes opening plus length; neither the rule of the rows nor ranks nor dues count opening; and of an order of n rows, idle
    -- plus n openings plus lengths is end minus the free minute.
    pub opening : OpeningLaws terms.opening (job day.rows)
    -- Ends are at most 17,687,680 and lateness lies between -19,999,999 and 17,687,680.
    pub ranges : (order : List ℕ) → OrderOf (row_numbers day) order →
        (end_of seen day.free order ≤ latest_book_end) ×
        ((pair_of seen day.free order).late ≤ℤ pos latest_book_end) × (least_lateness ≤ℤ (pair_of seen day.free order).late)

-- "Each refusal comes under its stated condition and no other": refused n at p exactly if the condition holds and no earlier one does.
pub record Property2 (terms : Terms) : Type 0 where
  -- The calls plan the day of a book exactly if they take it; then they give what is defined.
  pub takes : (book : List ℕ) (day : Day) → (read_by terms book ≡ accepted day) ↔ Takes terms book day
  pub given : (book : List ℕ) (day : Day) → Takes terms book day → Given terms book day
  pub list_refused : (book b : List ℕ) (n p : ℕ) → Refuses (list terms book b).answer n p ↔
      Turned terms book (λ day. ListTurned (planned terms day) b) n p
  pub bound_refused : (book : List ℕ) (y : ℤ) (b : List ℕ) (n p : ℕ) → Refuses (bound terms book y b).answer n p ↔
      Turned terms book (λ day. BoundTurned (planned terms day) y b) n p
  pub plan_refused : (book : List ℕ) (k : ℕ) (b : List ℕ) (n p : ℕ) → Refuses (plan terms book k b).answer n p ↔
      Turned terms book (λ day. PlanTurned (planned terms day) k b) n p
  pub verdict_refused : (book posting : List ℕ) (n p : ℕ) → Refuses (verdict terms book posting) n p ↔
      Turned terms book (λ day. VerdictTurned (length day.rows) posting) n p
  pub row_refused : (book : List ℕ) (k n p : ℕ) → Refuses (place terms book k) n p ↔
      Turned (without_opening terms.profile) book (λ day. RowTurned (length day.rows) k) n p
  -- A length is the reading time to the nearest minute, between 1 and 30,000.
  pub nearest_minute : NearestMinute
  -- By the ordering rule a book of one class is never refused for disorder, however its rows stand.
  pub one_class : terms.profile ≡ Ordering → (book : List ℕ) (day : Day) (c : ℕ) → Tells book day →
      ((i : ℕ) → Memᴰ i (row_numbers day) → (row day.rows i).class ≡ Some c) → Accepts terms.profile book day

-- # 3. The cover
-- Of what is planned, and L, the plans as they are listed in a buffer of two words for each row.
module _ (planning : Planning) (L : List Pair) where
  pub record Covered : Type 0 where
    -- "Whatever order of the rows a reader might take, some listed plan ends no later and has a worst lateness no greater."
    pub cover : (order : List ℕ) → ReaderOrder planning order →
        (p : Pair) × Memᴰ p L × (p.end ≤ end_by planning order) × (p.late ≤ℤ late_by planning order)
    -- "Listed plans rise strictly in end and fall strictly in lateness."
    pub rising : Rising L
    -- A pair is listed exactly if some order attains it and no order beats it.
    pub belongs : (p : Pair) → Memᴰ p L ↔
        (((order : List ℕ) × Attains planning.job planning.minute planning.left order p) × NoneBeats planning p)
    -- "There are at most as many plans as rows", and there is one.
    pub few : (1 ≤ length L) × (length L ≤ length planning.left)

  -- "Each plan's order is the one defined for it, has every row once and attains its pair": asked for by the plan's number, into any
  -- buffer of one word for each row.
  abbrev pub PlanOrders : (plan : ℕ → List ℕ → Outcome Said) → Type 0
  PlanOrders plan = (k : ℕ) (p : Pair) (c : List ℕ) → nth L k ≡ some p → length planning.left ≤ length c →
      (order : List ℕ) × (planning.orders p.late ≡ some order) ×
      Attains planning.job planning.minute planning.left order p × (plan k c ≡ gives (said_pair p) (written order c))

  -- A plan that a verdict names, and that ends sooner than the posted order; a listed plan from the named one on that is less late.
  pub record NamesSooner (posted : List ℕ) (named : ℕ) : Type 0 where
    pub plan : Pair
    pub is_named : nth L named ≡ some plan
    pub ends : plan.end < end_by planning posted

  pub record ListsLess (posted : List ℕ) (named : ℕ) : Type 0 where
    pub number : ℕ
    pub plan : Pair
    pub from_named : (1 ≤ named) × (named ≤ number)
    pub is_listed : nth L number ≡ some plan
    pub ends : plan.end ≤ end_by planning posted
    pub lates : plan.late <ℤ late_by planning posted

  -- The verdict on a posting that is an order of the rows.
  pub record Judged (posted : List ℕ) (v : Said) : Type 0 where
    -- It tells the posting's own end and worst lateness ..
    pub own : v ≡ said_judged (pair_by planning posted) v.count
    -- .. and is unbeaten, with no plan's number, exactly if no order of the rows beats it.
    pub unbeaten : (v.count ≡ 0) ↔ NoneBeats planning (pair_by planning posted)
    -- The auditor's question: another order ends sooner without making the worst transcript later exactly if the verdict names a plan
    -- whose end is smaller.
    pub sooner : EndsSooner planning posted ↔ NamesSooner posted v.count
    -- Likewise the other way about: another order is less late at worst without ending later exactly if some listed plan is, the one that
    -- the verdict names or one after it.
    pub less_late : LessLate planning posted ↔ ListsLess posted v.count

-- A bound into a buffer c of one word for each row. Either an order is given: the one defined, with every row once, which keeps the bound
-- and ends no later than any that does. Or it is refused as unkept, and no order keeps it.
pub data BoundAnswered (planning : Planning) (y : ℤ) (c : List ℕ) (o : Outcome Said) : Type 0 where
  kept : (order : List ℕ) → planning.orders y ≡ some order → ReaderOrder planning order → late_by planning order ≤ℤ y →
      ((other : List ℕ) → ReaderOrder planning other → late_by planning other ≤ℤ y → end_by planning order ≤ end_by planning other) →
      o ≡ gives (said_pair (pair_by planning order)) (written order c) → BoundAnswered planning y c o
  unkept : ((order : List ℕ) → ReaderOrder planning order → ¬ (late_by planning order ≤ℤ y)) → o ≡ gives (said_no by_unkept 0) c →
      BoundAnswered planning y c o

-- Of the calls on a book that gives a day.
module _ (terms : Terms) (book : List ℕ) (day : Day) where
  -- L are the plans that the list writes into a buffer.
  pub record CoverIn (L : List Pair) : Type 0 where
    pub covered : Covered (planned terms day) L
    pub orders_of_plans : PlanOrders (planned terms day) L (plan terms book)
    pub verdicts : (posted : List ℕ) → ReaderOrder (planned terms day) posted →
        Judged (planned terms day) L posted (verdict terms book posted)

  pub record Cover : Type 0 where
    pub lists : (b : List ℕ) → 2 * length day.rows ≤ length b → CoverIn (listed (list terms book b))
    pub bounds : (y : ℤ) (c : List ℕ) → length day.rows ≤ length c → BoundAnswered (planned terms day) y c (bound terms book y c)

abbrev pub Property3 : Terms → Type 0
Property3 terms = (book : List ℕ) (day : Day) → Takes terms book day → Cover terms book day
