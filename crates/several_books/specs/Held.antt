-- What is held of several desks once their books are read: rows in columns, and lists. Only contracts cite it.
-- Rests on: Days, the lists in columns (choice), what is planned (outcomes).
use Rattle.std.specs.Prelude.{ℕ, ◌+◌, ◌*◌, ◌<◌, ◌≡◌, List, [], length, get_or, take, ℤ, Result, Ok, Err}
use Rattle.theory.specs.Jobs.{Job}
use Rattle.schedule.specs.Limits.{most_desks}
use Rattle.schedule.specs.declared.Profile.TheVariants.{Ordering}
use Rattle.schedule.specs.Rows.{Day}
use Rattle.schedule.specs.Columns.{at, columns}
use Rattle.refusals.specs.Tests.{Tested, refusal_at}
use Rattle.book.specs.Rows.{accepted}
use Rattle.readers.specs.declared.Terms.{Terms}
use Rattle.readers.specs.Reads.{read_by, outcome_of}
use Rattle.listing.specs.Fronts.{pairs_of}
use Rattle.outcomes.specs.Planning.{Planning, planning_in, planning_of}
use Rattle.outcomes.specs.Plannable.{Plannable}
use Rattle.choice.specs.Lists.{ends_at, lates_at, ListedAt}
use Rattle.several_books.specs.declared.DeskRefusal.{DeskRefusal}
use Rattle.several_books.specs.Days.{DesksRead, refused_at, days, read_desks, rows_of, no_day}

-- What is held of one desk: its free minute, how many rows and plans it has, its rows in columns, and its list.
pub record Slot : Type 0 where
  pub free : ℕ
  pub rows : ℕ
  pub plans : ℕ
  pub release : List ℕ
  pub minutes : List ℕ
  pub due : List ℕ
  pub ends : List ℕ
  pub lates : List ℕ

abbrev pub slot_at : (free rows plans : List ℕ) (columns fronts : List (List ℕ)) → ℕ → Slot
slot_at free rows plans columns fronts e = record {
  free = at free e;
  rows = at rows e;
  plans = at plans e;
  release = get_or columns (3 * e) [];
  minutes = get_or columns (3 * e + 1) [];
  due = get_or columns (3 * e + 2) [];
  ends = ends_at fronts e;
  lates = lates_at fronts e;
}

-- What planning sees of its rows, and what is planned.
abbrev pub jobs_in : Slot → ℕ → Job
jobs_in s = columns s.release s.minutes s.due

abbrev pub planning_at : Slot → Planning
planning_at s = planning_in Ordering (jobs_in s) s.free s.rows

-- The desk can be planned, and has its list.
pub record SlotReady (s : Slot) : Type 0 where
  pub plannable : Plannable Ordering (jobs_in s) s.free s.rows
  pub listed : ListedAt s.plans s.ends s.lates
  pub list : pairs_of (take s.plans s.ends) (take s.plans s.lates) ≡ (planning_at s).plans

-- It is the desk of a day: it has its rows, plans and orders.
pub record Holds (opening : ℕ) (day : Day) (s : Slot) : Type 0 where
  pub ready : SlotReady s
  pub rows : s.rows ≡ length day.rows
  pub plans : (planning_at s).plans ≡ (planning_of Ordering opening day).plans
  pub orders : (y : ℤ) → (planning_at s).orders y ≡ (planning_of Ordering opening day).orders y

-- There is room for the most desks.
pub record RoomForDesks (free rows plans : List ℕ) (columns fronts : List (List ℕ)) : Type 0 where
  pub frees : length free ≡ most_desks
  pub counts : length rows ≡ most_desks
  pub lists : length plans ≡ most_desks
  pub column_places : length columns ≡ 3 * most_desks
  pub front_places : length fronts ≡ 2 * most_desks

-- The book of desk d is read: its outcome, and of an accepted book the day's desk in its place. Other desks hold what they held.
pub record ReadInto (terms : Terms) (book : List ℕ) (d : ℕ)
    (free rows plans : List ℕ) (columns fronts : List (List ℕ))
    (free' rows' plans' : List ℕ) (columns' fronts' : List (List ℕ)) (r : Tested) : Type 0 where
  pub outcome : r ≡ outcome_of (read_by terms book)
  pub sized : RoomForDesks free' rows' plans' columns' fronts'
  pub here : (day : Day) → read_by terms book ≡ accepted day → Holds terms.opening day (slot_at free' rows' plans' columns' fronts' d)
  pub others : (e : ℕ) → ¬ (e ≡ d) → slot_at free' rows' plans' columns' fronts' e ≡ slot_at free rows plans columns fronts e

-- The refusal with this number at this place, of this desk; and what the books give: the count of all rows, or the first refusal.
abbrev pub refusal_of : (number place desk : ℕ) → DeskRefusal
refusal_of number place desk = record { refusal = refusal_at number place; desk = desk }

abbrev pub AllRead : Type 0
AllRead = Result ℕ DeskRefusal

-- All books are read: the first refusal with its desk, or the rows of all days, and each day's desk in its place.
unfoldable pub all_read_of : DesksRead → AllRead
all_read_of (refused_at n p d) = Err (refusal_of n p d)
all_read_of (days ds) = Ok (rows_of ds)

-- Each of these days has its desk.
abbrev pub DaysHeld : (opening : ℕ) → List Day → (free rows plans : List ℕ) (columns fronts : List (List ℕ)) → Type 0
DaysHeld opening ds free rows plans columns fronts =
    (e : ℕ) → e < length ds → Holds opening (get_or ds e no_day) (slot_at free rows plans columns fronts e)

pub record ReadAll (terms : Terms) (books : List (List ℕ)) (free rows plans : List ℕ) (columns fronts : List (List ℕ)) (r : AllRead) : Type
    0 where
  pub outcome : r ≡ all_read_of (read_desks terms 1 books)
  pub held : (ds : List Day) → read_desks terms 1 books ≡ days ds →
      (length ds ≡ length books) × DaysHeld terms.opening ds free rows plans columns fronts
