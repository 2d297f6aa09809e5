-- What the promises speak of: each offered call by the paper's numbers, the orders a reader might take, and accepted books.
-- Rests on: the calls (Answers, Calls), the row calls, the grammar of books, the schedule.
use Rattle.std.specs.Prelude.{ℕ, ◌≤◌, ◌<◌, ◌≡◌, List, ◌⊎◌, length, ℤ, pos, ◌≤ℤ◌, ◌<ℤ◌}
use Rattle.schedule.specs.Limits.{most_opening}
use Rattle.schedule.specs.declared.Row.{Row}
use Rattle.schedule.specs.declared.Profile.{Profile}
use Rattle.schedule.specs.declared.Profile.TheVariants.{Ordering, FirstCome}
use Rattle.schedule.specs.Rows.{row, Day}
use Rattle.schedule.specs.Desk.{Pair, OrderOf, pair_of, end_of}
use Rattle.schedule.specs.Plans.{Beats}
use Rattle.grammar.specs.Books.{Tells}
use Rattle.readers.specs.declared.Terms.{Terms}
use Rattle.readers.specs.Rules.{spare}
use Rattle.row_calls.specs.Places.{place_call, words_call}
use Rattle.results.specs.Results.{plans_in}
use Rattle.outcomes.specs.Planning.{Outcome, gives, Planning}
use Rattle.calls.specs.Answers.{Said, said_list, said_order, said_verdict, said_place}
use Rattle.calls.specs.Calls.{list_call, bound_call, plan_call, verdict_call}

-- What a call says in the numbers of the table of refusals, and the buffer after it.
abbrev pub told : {A : Type 0} → (A → Said) → Outcome A → Outcome Said
told said o = gives (said o.answer) o.buffer

-- The offered calls, lent a book: the list into a buffer; the order for a bound; the order of a listed plan by its number from 1; the
-- verdict on a posting; the place of a row's number word, and the row's words. The last two are told no opening.
module _ (terms : Terms) (book : List ℕ) where
  abbrev pub list : (b : List ℕ) → Outcome Said
  list b = told said_list (list_call terms book b)

  abbrev pub bound : ℤ → (b : List ℕ) → Outcome Said
  bound y b = told said_order (bound_call terms book y b)

  abbrev pub plan : ℕ → (b : List ℕ) → Outcome Said
  plan k b = told said_order (plan_call terms book k b)

  abbrev pub verdict : (posting : List ℕ) → Said
  verdict posting = said_verdict (verdict_call terms book posting)

  abbrev pub place : ℕ → Said
  place k = said_place (place_call terms.profile book k)

  abbrev pub words : ℕ → List ℕ
  words k = words_call terms.profile book k

-- What the calls say when they are not refused: so many plans; a pair; a pair and the plan that beats it, 0 for none; a place.
abbrev pub said_count : ℕ → Said
said_count k = record { number = 0; place = 0; count = k; end = 0; late = pos 0; minute = 0 }

abbrev pub said_pair : Pair → Said
said_pair p = record { number = 0; place = 0; count = 0; end = p.end; late = p.late; minute = 0 }

abbrev pub said_judged : Pair → ℕ → Said
said_judged p k = record { number = 0; place = 0; count = k; end = p.end; late = p.late; minute = 0 }

abbrev pub said_at : ℕ → Said
said_at a = record { number = 0; place = a; count = 0; end = 0; late = pos 0; minute = 0 }

-- A call is refused n at p.
abbrev pub Refuses : Said → (n p : ℕ) → Type 0
Refuses said n p = (1 ≤ n) × (said.number ≡ n) × (said.place ≡ p)

-- The plans that the call for the list writes: as many as it counts.
abbrev pub listed : Outcome Said → List Pair
listed o = plans_in o.answer.count o.buffer

-- What is planned: any order of the rows that a reader might take, its end and its worst lateness.
module _ (planning : Planning) where
  abbrev pub ReaderOrder : List ℕ → Type 0
  ReaderOrder order = OrderOf planning.left order

  abbrev pub end_by : List ℕ → ℕ
  end_by order = end_of planning.job planning.minute order

  abbrev pub late_by : List ℕ → ℤ
  late_by order = (pair_of planning.job planning.minute order).late

  abbrev pub pair_by : List ℕ → Pair
  pair_by order = pair_of planning.job planning.minute order

  -- No order of the rows beats the pair: ends no later and is no later at worst, one of them less.
  abbrev pub NoneBeats : Pair → Type 0
  NoneBeats p = (other : List ℕ) → ReaderOrder other → ¬ Beats (pair_by other) p

  -- Another order ends sooner than the posted one without making the worst transcript later; or is less late at worst without ending later.
  pub record EndsSooner (posted : List ℕ) : Type 0 where
    pub other : List ℕ
    pub whole : ReaderOrder other
    pub ends : end_by other < end_by posted
    pub lates : late_by other ≤ℤ late_by posted

  pub record LessLate (posted : List ℕ) : Type 0 where
    pub other : List ℕ
    pub whole : ReaderOrder other
    pub ends : end_by other ≤ end_by posted
    pub lates : late_by other <ℤ late_by posted

-- Two rows disagree if one has the smaller due and also the smaller spare: due minus release minus length, signed.
abbrev pub Tighter : Row → Row → Type 0
Tighter r s = (r.due < s.due) × (spare r <ℤ spare s)

abbrev pub Disagree : Row → Row → Type 0
Disagree r s = Tighter r s ⊎ Tighter s r

-- Two rows cross if one has both the smaller release and the larger due.
abbrev pub Outlasts : Row → Row → Type 0
Outlasts r s = (r.release < s.release) × (s.due < r.due)

abbrev pub Cross : Row → Row → Type 0
Cross r s = Outlasts r s ⊎ Outlasts s r

-- What a profile does not allow of two rows.
abbrev pub Clash : Profile → Row → Row → Type 0
Clash Ordering = Disagree
Clash FirstCome = Cross

-- An accepted book: it is written from rows that come to this day, and no two of them clash.
pub record Accepts (profile : Profile) (book : List ℕ) (day : Day) : Type 0 where
  pub tells : Tells book day
  pub no_clash : (i j : ℕ) → 1 ≤ i → i < j → j ≤ length day.rows → ¬ Clash profile (row day.rows j) (row day.rows i)

-- A call that is told these terms takes a book: the opening minutes lie between 0 and 30, and the book is accepted.
pub record Takes (terms : Terms) (book : List ℕ) (day : Day) : Type 0 where
  pub opening : terms.opening ≤ most_opening
  pub accepts : Accepts terms.profile book day
