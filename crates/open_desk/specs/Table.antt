-- The refusals of the open desk's calls: under which condition each is told, with the place. The proofs are in proofs/Refused.antt.
-- Rests on: History, the running desk and its words, the table of a book's calls (promises).
use Rattle.std.specs.Prelude.{ℕ, ◌+◌, ◌*◌, ◌≤◌, ◌<◌, ◌⊎◌, length, None}
use mathlib.Core.List.{List, Memᴰ}
use Rattle.schedule.specs.Limits.{latest_start, latest_end, longest_time, least_pace, most_pace}
use Rattle.schedule.specs.declared.Row.{Row}
use Rattle.schedule.specs.Cover.{Agreeing}
use Rattle.refusals.specs.Refusals.{by_range, by_disorder, by_narrow, by_unlisted, by_done, by_early}
use Rattle.pairs.specs.Pairs.{number_word}
use Rattle.row_reader.specs.NearestMinute.{length_of}
use Rattle.promises.specs.Vocabulary.{Disagree}
use Rattle.running.specs.Running.{Running, job_in, pages_in}
use Rattle.running.specs.Words.{desk_words, running, IsDesk}

-- A desk is opened with an accepted book: the run is too short for a desk.
pub data OpenTurned (ws : List ℕ) : (n p : ℕ) → Type 0 where
  narrow : length ws < desk_words → OpenTurned ws by_narrow 0

-- A start on a running desk: no such row; then, the row was started before; then, too early or too late.
pub data StartTurned (d : Running) (i m : ℕ) : (n p : ℕ) → Type 0 where
  unlisted : ¬ ((1 ≤ i) × (i ≤ length d.rows)) → StartTurned d i m by_unlisted (length d.rows)
  done : 1 ≤ i → i ≤ length d.rows → ¬ Memᴰ i d.left → StartTurned d i m by_done i
  early : 1 ≤ i → i ≤ length d.rows → Memᴰ i d.left →
      (m < d.minute) ⊎ (m < (job_in d.rows i).release) ⊎ (latest_start < m) → StartTurned d i m by_early 0

-- A row as a reader of this pace takes it: its release and due are what they were, its length is that of its pages. (Number and class are
-- not looked at.) Two rows disagree by the pace if they then do, as two rows of a book.
module _ (d : Running) (pace : ℕ) where
  abbrev pub row_by_pace : ℕ → Row
  row_by_pace i = record {
    number = 0;
    release = (job_in d.rows i).release;
    length = length_of (pages_in d.pages i) pace;
    due = (job_in d.rows i).due;
    class = None;
    pages = pages_in d.pages i;
  }

  abbrev pub DisagreeBy : ℕ → ℕ → Type 0
  DisagreeBy i j = Disagree (row_by_pace i) (row_by_pace j)

  -- Row k is the earliest row left that disagrees with a row left above it. Rows done are not looked at.
  pub record EarliestLeft (k : ℕ) : Type 0 where
    pub left : Memᴰ k d.left
    pub disagrees : (j : ℕ) × Memᴰ j d.left × (j < k) × DisagreeBy k j
    pub none_before : (g h : ℕ) → Memᴰ g d.left → Memᴰ h d.left → g < h → h < k → ¬ DisagreeBy h g

  -- A change of pace on a running desk: outside the limits of a book; then, two rows left disagree by their new lengths, at the number
  -- word of the row, which is its place in the book.
  pub data PaceTurned : (n p : ℕ) → Type 0 where
    range : ¬ ((least_pace ≤ pace) × (pace ≤ most_pace)) → PaceTurned by_range 0
    disorder : least_pace ≤ pace → pace ≤ most_pace → (k : ℕ) → EarliestLeft k → PaceTurned by_disorder (number_word k)

-- The words hold a desk whose rows left can be planned: its minute leaves room for them, and no two of them disagree.
pub record CanPlan (ws : List ℕ) : Type 0 where
  pub desk : IsDesk ws
  pub room : (running ws).minute + longest_time * length (running ws).left ≤ latest_end
  pub agree : Agreeing (job_in (running ws).rows) (running ws).left

-- A call on lent words: these are no desk that the call can work on; or they are one, and the call is turned down by it.
pub data DeskTurned (Here : Type 0) (Own : (n p : ℕ) → Type 0) : (n p : ℕ) → Type 0 where
  no_desk : ¬ Here → DeskTurned Here Own by_range 0
  by_call : (n p : ℕ) → Here → Own n p → DeskTurned Here Own n p
