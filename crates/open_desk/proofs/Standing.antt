-- What moves come to: with none; with one start more after the others; with one change of pace more.
-- Assumes nothing.
use Prim.Native.Nat.{ℕ, zero, suc, ◌+◌, ◌≤◌, ◌<◌}
use native.Mathlib.Omega.{arith}
use mathlib.Core.Bool.{Bool, true, false, not, cond, ◌||◌, or-false}
use mathlib.Core.Path.{◌≡◌, refl, sym, ap, ◌∙◌}
use mathlib.Core.List.Memᴰ
use mathlib.Core.List.{List, [], ◌∷◌, ◌++◌, map, map-append, Memᴰ}
use mathlib.Core.Option.{Option, none, some, some-injective}
use lib.Dec.{eqb}
use lib.ListN.{length, length-map}
use lib.Seq.{ext_get_or}
use lib.IntN.{ℤ, sub_ℕ}
use lib.Signed.{le_z}
use borrow.Author.Tests.{eqb-true, eqb-false, eq-eqb, ne_eqb}
use Rattle.theory.specs.Jobs.{Job}
use Rattle.schedule.specs.Rows.{no_row, row, Day, with_opening, jobs, count_from, row_numbers, stands, without}
use Rattle.schedule.specs.Desk.{max_z, worst_of}
use Rattle.schedule.proofs.Numbers.{length_count, count_range}
use Rattle.schedule.proofs.Tests.{false_is_true, true_is, is_true, is_false}
use Rattle.schedule.proofs.Signed.{le_z_trans, le_z_total}
use Rattle.schedule.proofs.Stands.{stands_behind, stands_mem, mem_stands}
use Rattle.schedule.proofs.SameJobs.{map_same}
use Rattle.schedule.proofs.Filling.{mapped_at}
use Rattle.row_reader.specs.NearestMinute.{length_of}
use Rattle.running.specs.Running.{Running, rows_seen, opened, no_job, job_in, pages_of, pages_in, worse, end_at, worst_at, moved}
use Rattle.running.proofs.Fits.{counted_at}
use Rattle.desk_pace.specs.Paces.{job_by_pace, seen_by_pace, repaced}
use Rattle.open_desk.specs.History.{Start, Move, started, changed, starts_among, not_taken, pace_after, pace_for, job_read, end_of_start}
use Rattle.open_desk.specs.History.{lateness_of_start, minute_after, worst_so_far, standing}

-- Row i is one of the day's.
abbrev pub OfDay : Day → ℕ → Type 0
OfDay day i = (1 ≤ i) × (i ≤ length day.rows)

-- The rows of the day have their lengths by this pace.
abbrev pub ReadAt : (pace : ℕ) → Day → Type 0
ReadAt pace day = (i : ℕ) → OfDay day i → (row day.rows i).length ≡ length_of (row day.rows i).pages pace

-- # The starts among moves, and the pace of each row, with one move more
abbrev taken : List Start → List ℕ
taken done = map (λ (s : Start). s.row) done

starts_on : (ms : List Move) (s : Start) → starts_among (ms ++ (started s ∷ [])) ≡ starts_among ms ++ (s ∷ [])
unfolding starts_among
starts_on [] s = refl
starts_on (started r ∷ ms) s = ap (λ (ss : List Start). r ∷ ss) (starts_on ms s)
starts_on (changed p ∷ ms) s = starts_on ms s

starts_kept : (ms : List Move) (p : ℕ) → starts_among (ms ++ (changed p ∷ [])) ≡ starts_among ms
unfolding starts_among
starts_kept [] p = refl
starts_kept (started r ∷ ms) p = ap (λ (ss : List Start). r ∷ ss) (starts_kept ms p)
starts_kept (changed q ∷ ms) p = starts_kept ms p

either : (b : Bool) (p : ℕ) → cond b p p ≡ p
either true p = refl
either false p = refl

-- One start more changes no row's pace.
pace_start : (pace : ℕ) (ms : List Move) (s : Start) (i : ℕ) → pace_for pace (ms ++ (started s ∷ [])) i ≡ pace_for pace ms i
unfolding pace_for
pace_start pace [] s i = either (eqb i s.row) pace
pace_start pace (started r ∷ ms) s i = ap (cond (eqb i r.row) pace) (pace_start pace ms s i)
pace_start pace (changed p ∷ ms) s i = pace_start p ms s i

-- A change of pace more is the pace of the rows that are not taken.
pace_change : (pace : ℕ) (ms : List Move) (p i : ℕ) →
    pace_for pace (ms ++ (changed p ∷ [])) i ≡ cond (stands i (taken (starts_among ms))) (pace_for pace ms i) p
unfolding pace_for starts_among stands
pace_change pace [] p i = refl
pace_change pace (started r ∷ ms) p i = step (eqb i r.row) (pace_change pace ms p i)
  where
    step : (b : Bool) →
        pace_for pace (ms ++ (changed p ∷ [])) i ≡ cond (stands i (taken (starts_among ms))) (pace_for pace ms i) p →
        cond b pace (pace_for pace (ms ++ (changed p ∷ [])) i) ≡
        cond (b || stands i (taken (starts_among ms))) (cond b pace (pace_for pace ms i)) p
    step true later = refl
    step false later = later
pace_change pace (changed q ∷ ms) p i = pace_change q ms p i

-- The pace in force, with one move more.
pub in_force_start : (pace : ℕ) (ms : List Move) (s : Start) → pace_after pace (ms ++ (started s ∷ [])) ≡ pace_after pace ms
unfolding pace_after
in_force_start pace [] s = refl
in_force_start pace (started r ∷ ms) s = in_force_start pace ms s
in_force_start pace (changed p ∷ ms) s = in_force_start p ms s

pub in_force_change : (pace : ℕ) (ms : List Move) (p : ℕ) → pace_after pace (ms ++ (changed p ∷ [])) ≡ p
unfolding pace_after
in_force_change pace [] p = refl
in_force_change pace (started r ∷ ms) p = in_force_change pace ms p
in_force_change pace (changed q ∷ ms) p = in_force_change q ms p

-- The pace of a row that is not taken is the one in force.
pub pace_left : (pace : ℕ) (ms : List Move) (i : ℕ) → stands i (taken (starts_among ms)) ≡ false → pace_for pace ms i ≡ pace_after pace ms
unfolding pace_for pace_after starts_among stands
pace_left pace [] i e = refl
pace_left pace (started r ∷ ms) i e = step (eqb i r.row) e (pace_left pace ms i)
  where
    step : (b : Bool) → (b || stands i (taken (starts_among ms))) ≡ false →
        (stands i (taken (starts_among ms)) ≡ false → pace_for pace ms i ≡ pace_after pace ms) →
        cond b pace (pace_for pace ms i) ≡ pace_after pace ms
    step true f later = false_is_true (sym f)
    step false f later = later f
pace_left pace (changed q ∷ ms) i e = pace_left q ms i e

-- # The desk with no moves
none_taken : (is : List ℕ) → not_taken [] is ≡ is
unfolding not_taken stands
none_taken [] = refl
none_taken (i ∷ is) = ap (λ (js : List ℕ). i ∷ js) (none_taken is)

-- What planning sees of a row, and its pages, on the desk.
module _ (opening pace : ℕ) (day : Day) (ms : List Move) where
  abbrev d : Running
  d = standing opening pace day ms

  pub seen_length : length d.rows ≡ length day.rows
  seen_length = length-map (row_numbers day) _ ∙ length_count 1 (length day.rows)

  pub job_held : (i : ℕ) → OfDay day i → job_in d.rows i ≡ job_read opening day (pace_for pace ms) i
  job_held zero h = let z : ⊥ = omega arith in absurd z
  job_held (suc i) h =
      let e : 1 + i ≡ suc i = omega arith in
      counted_at (job_read opening day (pace_for pace ms)) no_job 1 (length day.rows) i (omega arith) ∙
      ap (job_read opening day (pace_for pace ms)) e

  pub pages_of_day : (i : ℕ) → OfDay day i → pages_in d.pages i ≡ (row day.rows i).pages
  pages_of_day zero h = let z : ⊥ = omega arith in absurd z
  pages_of_day (suc i) h = mapped_at _ day.rows i no_row 0 (omega arith)

-- With no moves, each row has the length that the book's pace gave it.
pub at_first : (opening pace : ℕ) (day : Day) → ReadAt pace day → standing opening pace day [] ≡ opened opening day
unfolding starts_among minute_after worst_so_far pace_for
at_first opening pace day own = λ x. record {
  opening = opening;
  rows = same_rows x;
  pages = pages_of day;
  left = none_taken (row_numbers day) x;
  minute = day.free;
  worst = none;
}
  where
    same_rows : map (job_read opening day (pace_for pace [])) (row_numbers day) ≡ rows_seen opening day
    same_rows =
        ext_get_or no_job _ (rows_seen opening day) (seen_length opening pace day [] ∙ sym (length-map day.rows _))
        (λ i h.
        let inside : i < length day.rows = omega (arith, seen_length opening pace day []) in
        let e : 1 + i ≡ suc i = omega arith in
        counted_at (job_read opening day (pace_for pace [])) no_job 1 (length day.rows) i inside ∙
        ap (job_read opening day (pace_for pace [])) e ∙
        (λ x. record {
          release = (row day.rows (suc i)).release;
          length = opening + sym (own (suc i) (omega arith, omega arith)) x;
          due = (row day.rows (suc i)).due;
        }) ∙
        sym (mapped_at _ day.rows i no_row no_job inside))

-- What planning sees of a row of the day is the same on the desk as it is opened.
pub seen_first : (opening : ℕ) (day : Day) (i : ℕ) → OfDay day i → job_in (rows_seen opening day) i ≡ jobs opening day i
seen_first opening day zero h = let z : ⊥ = omega arith in absurd z
seen_first opening day (suc i) h = mapped_at _ day.rows i no_row no_job (omega arith)

-- # Worst latenesses
-- The larger of three signed numbers, taken either way.
max_assoc : (a b c : ℤ) → max_z a (max_z b c) ≡ max_z (max_z a b) c
unfolding max_z
max_assoc a b c = step (le_z a b) (le_z b c) (le_z a c) refl refl refl
  where
    step : (p q r : Bool) → le_z a b ≡ p → le_z b c ≡ q → le_z a c ≡ r → max_z a (max_z b c) ≡ max_z (max_z a b) c
    step true true true e f g = rw (e, f, g)
    step true true false e f g = false_is_true (sym g ∙ true_is (le_z a c) (le_z_trans a b c (is_true _ e) (is_true _ f)))
    step true false r e f g = rw (e, f, e)
    step false true r e f g = rw (e, f)
    step false false false e f g = rw (e, f, e, g)
    step false false true e f g =
        false_is_true (sym e ∙ true_is (le_z a b) (le_z_trans a c b (is_true _ g) (le_z_total b c (is_false _ f))))

-- One lateness more at the end.
worst_more : (x : ℤ) (xs : List ℤ) (y : ℤ) → worst_of ((x ∷ xs) ++ (y ∷ [])) ≡ max_z (worst_of (x ∷ xs)) y
unfolding worst_of
worst_more x [] y = refl
worst_more x (z ∷ zs) y = ap (max_z x) (worst_more z zs y) ∙ max_assoc x (worst_of (z ∷ zs)) y

-- # The rows left
-- Whether a row is taken, with one start more.
taken_on : (j : ℕ) (done : List Start) (s : Start) → stands j (taken (done ++ (s ∷ []))) ≡ (stands j (taken done) || eqb j s.row)
taken_on j done s =
    ap (stands j) (map-append (λ (s : Start). s.row) done (s ∷ [])) ∙ stands_behind j (taken done) s.row

-- Rows that all stand behind the one more: it changes nothing among them.
behind : (done : List Start) (s : Start) (k n : ℕ) → s.row < k →
    not_taken (done ++ (s ∷ [])) (count_from k n) ≡ not_taken done (count_from k n)
unfolding not_taken count_from
behind done s k zero h = refl
behind done s k (suc n) h =
    rw (taken_on k done s, ne_eqb k s.row (λ e. omega arith), or-false (stands k (taken done)), behind done s (suc k) n (omega arith))

-- The rows left after one start more are those left before it without its row.
left_on : (done : List Start) (s : Start) (k n : ℕ) →
    not_taken (done ++ (s ∷ [])) (count_from k n) ≡ without s.row (not_taken done (count_from k n))
unfolding not_taken count_from without
left_on done s k zero = refl
left_on done s k (suc n) = step (stands k (taken done)) (eqb k s.row) refl refl (left_on done s (suc k) n)
  where
    step : (a b : Bool) → stands k (taken done) ≡ a → eqb k s.row ≡ b →
        not_taken (done ++ (s ∷ [])) (count_from (suc k) n) ≡ without s.row (not_taken done (count_from (suc k) n)) →
        not_taken (done ++ (s ∷ [])) (count_from k (suc n)) ≡ without s.row (not_taken done (count_from k (suc n)))
    step true b e f later = rw (taken_on k done s, e) later
    step false true e f later =
        let same : k ≡ s.row = eqb-true k s.row f in
        rw (taken_on k done s, e, f, eq-eqb s.row k (sym same)) (behind done s (suc k) n (omega arith))
    step false false e f later =
        let other : s.row ≡ k → ⊥ = λ g. eqb-false k s.row f (sym g) in
        rw (taken_on k done s, e, f, ne_eqb s.row k other) (ap (λ (js : List ℕ). k ∷ js) later)

-- A row is left exactly if it is one of the rows and no start has taken it.
pub left_row_lem : (done : List Start) (is : List ℕ) (i : ℕ) → Memᴰ i (not_taken done is) →
    Memᴰ i is × (stands i (taken done) ≡ false)
unfolding not_taken
left_row_lem done [] i m = absurd (Memᴰ.not-nil m)
left_row_lem done (j ∷ js) i m = step (stands j (taken done)) refl m (left_row_lem done js i)
  where
    keep : stands j (taken done) ≡ false → Memᴰ i (j ∷ not_taken done js) →
        (Memᴰ i (not_taken done js) → Memᴰ i js × (stands i (taken done) ≡ false)) →
        Memᴰ i (j ∷ js) × (stands i (taken done) ≡ false)
    keep e (Memᴰ.head f) later = (Memᴰ.head f, ap (λ (k : ℕ). stands k (taken done)) f ∙ e)
    keep e (Memᴰ.tail t) later = let h = later t in (Memᴰ.tail h.0, h.1)

    step : (b : Bool) → stands j (taken done) ≡ b → Memᴰ i (cond b (not_taken done js) (j ∷ not_taken done js)) →
        (Memᴰ i (not_taken done js) → Memᴰ i js × (stands i (taken done) ≡ false)) →
        Memᴰ i (j ∷ js) × (stands i (taken done) ≡ false)
    step true e m later = let h = later m in (Memᴰ.tail h.0, h.1)
    step false e m later = keep e m later

row_left : (done : List Start) (is : List ℕ) (i : ℕ) → Memᴰ i is → stands i (taken done) ≡ false → Memᴰ i (not_taken done is)
unfolding not_taken
row_left done [] i m e = absurd (Memᴰ.not-nil m)
row_left done (j ∷ js) i m e = step (stands j (taken done)) refl m (λ t. row_left done js i t e)
  where
    step : (b : Bool) → stands j (taken done) ≡ b → Memᴰ i (j ∷ js) → (Memᴰ i js → Memᴰ i (not_taken done js)) →
        Memᴰ i (cond b (not_taken done js) (j ∷ not_taken done js))
    step true f (Memᴰ.head g) later = absurd (false_is_true (sym e ∙ ap (λ (k : ℕ). stands k (taken done)) g ∙ f))
    step true f (Memᴰ.tail t) later = later t
    step false f (Memᴰ.head g) later = Memᴰ.head g
    step false f (Memᴰ.tail t) later = Memᴰ.tail (later t)

stands_left : (done : List Start) (is : List ℕ) (i : ℕ) → Memᴰ i is → stands i (not_taken done is) ≡ not (stands i (taken done))
stands_left done is i m = step (stands i (taken done)) refl (stands i (not_taken done is)) refl
  where
    step : (b : Bool) → stands i (taken done) ≡ b → (c : Bool) → stands i (not_taken done is) ≡ c → stands i (not_taken done is) ≡ not b
    step true e false f = f
    step true e true f = absurd (false_is_true (sym (left_row_lem done is i (stands_mem i (not_taken done is) f)).1 ∙ e))
    step false e c f = mem_stands i (not_taken done is) (row_left done is i m e)

-- # One start more
module _ (opening : ℕ) (day : Day) (pace_of : ℕ → ℕ) where
  worst_on : (done : List Start) (s : Start) →
      worst_so_far opening day pace_of (done ++ (s ∷ [])) ≡
      some (worse (worst_so_far opening day pace_of done) (lateness_of_start opening day pace_of s))
  unfolding worst_so_far worse worst_of
  worst_on [] s = refl
  worst_on (r ∷ rs) s =
      ap {B = Option ℤ} some
      (ap worst_of (map-append (lateness_of_start opening day pace_of) (r ∷ rs) (s ∷ [])) ∙
      worst_more (lateness_of_start opening day pace_of r) (map (lateness_of_start opening day pace_of) rs) (lateness_of_start opening day pace_of s))

  -- With a start there is a worst lateness.
  worst_some : (done : List Start) (s : Start) →
      worst_so_far opening day pace_of (done ++ (s ∷ [])) ≡ some (worst_of (map (lateness_of_start opening day pace_of) (done ++ (s ∷ []))))
  unfolding worst_so_far
  worst_some [] s = refl
  worst_some (r ∷ rs) s = refl

  minute_on : (t : ℕ) (done : List Start) (s : Start) →
      minute_after opening day pace_of t (done ++ (s ∷ [])) ≡ end_of_start opening day pace_of s
  unfolding minute_after
  minute_on t [] s = refl
  minute_on t (r ∷ rs) s = minute_on (end_of_start opening day pace_of r) rs s

module _ (opening pace : ℕ) (day : Day) (ms : List Move) where
  abbrev pace_of : ℕ → ℕ
  pace_of = pace_for pace ms

  module _ (i m : ℕ) (h : OfDay day i) where
    abbrev next : Start
    next = record { row = i; minute = m }

    pub worst_told : worst_at (d opening pace day ms) i m ≡
        worst_of (map (lateness_of_start opening day pace_of) (starts_among ms ++ (next ∷ [])))
    worst_told =
        rw (job_held opening pace day ms i h)
        (some-injective _ _
        (sym (worst_on opening day pace_of (starts_among ms) next) ∙ worst_some opening day pace_of (starts_among ms) next))

    pub end_told : end_at (d opening pace day ms) i m ≡ end_of_start opening day pace_of next
    end_told = rw (job_held opening pace day ms i h)

    -- A desk after moves, and the row i started on it at the minute m.
    pub one_start : standing opening pace day (ms ++ (started next ∷ [])) ≡ moved (d opening pace day ms) i m
    one_start =
        (λ x. by (λ k. pace_start pace ms next k x) (starts_on ms next x)) ∙
        rw (
          left_on (starts_among ms) next 1 (length day.rows),
          minute_on opening day pace_of day.free (starts_among ms) next,
          worst_on opening day pace_of (starts_among ms) next,
          job_held opening pace day ms i h,
        )
      where
        by : (ℕ → ℕ) → List Start → Running
        by pace_of done = record {
          opening = opening;
          rows = map (job_read opening day pace_of) (row_numbers day);
          pages = pages_of day;
          left = not_taken done (row_numbers day);
          minute = minute_after opening day pace_of day.free done;
          worst = worst_so_far opening day pace_of done;
        }

-- # One change of pace more
-- Starts whose rows are read at the same paceOf end and are late alike.
module _ (opening : ℕ) (day : Day) (pace_of other : ℕ → ℕ) where
  minute_same : (t : ℕ) (done : List Start) → ((s : Start) → Memᴰ s done → pace_of s.row ≡ other s.row) →
      minute_after opening day pace_of t done ≡ minute_after opening day other t done
  unfolding minute_after
  minute_same t [] same = refl
  minute_same t (s ∷ ss) same =
      ap (λ (p : ℕ). minute_after opening day pace_of (s.minute + (opening + length_of (row day.rows s.row).pages p)) ss)
      (same s (Memᴰ.head refl)) ∙
      minute_same (end_of_start opening day other s) ss (λ r m. same r (Memᴰ.tail m))

  worst_same : (done : List Start) → ((s : Start) → Memᴰ s done → pace_of s.row ≡ other s.row) →
      worst_so_far opening day pace_of done ≡ worst_so_far opening day other done
  unfolding worst_so_far
  worst_same [] same = refl
  worst_same (s ∷ ss) same =
      ap {B = Option ℤ} (λ ys. some (worst_of ys))
      (map_same (lateness_of_start opening day pace_of) (lateness_of_start opening day other) (s ∷ ss) (λ r m.
      ap (λ (p : ℕ). sub_ℕ (r.minute + (opening + length_of (row day.rows r.row).pages p)) (row day.rows r.row).due)
      (same r m)))

module _ (opening pace : ℕ) (day : Day) (ms : List Move) (p : ℕ) where
  abbrev old : Running
  old = d opening pace day ms

  abbrev new_paces : ℕ → ℕ
  new_paces = pace_for pace (ms ++ (changed p ∷ []))

  -- A start's row is read at the pace that it was.
  kept : (s : Start) → Memᴰ s (starts_among ms) → new_paces s.row ≡ pace_for pace ms s.row
  kept s m =
      let t = mem_stands s.row (taken (starts_among ms)) (Memᴰ.map (λ (r : Start). r.row) m) in
      pace_change pace ms p s.row ∙ ap (λ (b : Bool). cond b (pace_for pace ms s.row) p) t

  seen_on : (i : ℕ) → Memᴰ i (row_numbers day) → job_read opening day new_paces i ≡ seen_by_pace old p i
  seen_on i m =
      let r = count_range 1 (length day.rows) m in
      let inside : OfDay day i = (omega (arith, r), omega (arith, r)) in
      ap (read i) (pace_change pace ms p i) ∙ step i inside (stands i (taken (starts_among ms))) ∙
      ap (λ (b : Bool). cond b (with_opening opening (job_by_pace old p i)) (job_in old.rows i))
      (sym (stands_left (starts_among ms) (row_numbers day) i m))
    where
      read : ℕ → ℕ → Job
      read i q = record {
        release = (row day.rows i).release;
        length = opening + length_of (row day.rows i).pages q;
        due = (row day.rows i).due;
      }

      step : (i : ℕ) → OfDay day i → (b : Bool) →
          read i (cond b (pace_for pace ms i) p) ≡ cond (not b) (with_opening opening (job_by_pace old p i)) (job_in old.rows i)
      step i h true = sym (job_held opening pace day ms i h)
      step i h false = λ x. record {
        release = (sym (job_held opening pace day ms i h) x).release;
        length = opening + length_of (sym (pages_of_day opening pace day ms i h) x) p;
        due = (sym (job_held opening pace day ms i h) x).due;
      }

  -- A desk after moves, and the pace changed on it.
  pub one_change : standing opening pace day (ms ++ (changed p ∷ [])) ≡ repaced old p
  one_change = λ x. record {
    opening = opening;
    rows = rows x;
    pages = pages_of day;
    left = not_taken (starts_kept ms p x) (row_numbers day);
    minute = minute x;
    worst = worst x;
  }
    where
      rows : map (job_read opening day new_paces) (row_numbers day) ≡ (repaced old p).rows
      rows =
          map_same (job_read opening day new_paces) (seen_by_pace old p) (row_numbers day) seen_on ∙
          ap (λ (n : ℕ). map (seen_by_pace old p) (count_from 1 n)) (sym (seen_length opening pace day ms))

      minute : minute_after opening day new_paces day.free (starts_among (ms ++ (changed p ∷ []))) ≡ old.minute
      minute =
          ap (minute_after opening day new_paces day.free) (starts_kept ms p) ∙
          minute_same opening day new_paces (pace_for pace ms) day.free (starts_among ms) kept

      worst : worst_so_far opening day new_paces (starts_among (ms ++ (changed p ∷ []))) ≡ old.worst
      worst =
          ap (worst_so_far opening day new_paces) (starts_kept ms p) ∙
          worst_same opening day new_paces (pace_for pace ms) (starts_among ms) kept

-- A row left has its length by the pace in force.
module _ (opening pace : ℕ) (day : Day) (ms : List Move) where
  pub left_read : (i : ℕ) → Memᴰ i (d opening pace day ms).left →
      job_in (d opening pace day ms).rows i ≡ with_opening opening (job_by_pace (d opening pace day ms) (pace_after pace ms) i)
  left_read i m =
      let l = left_row_lem (starts_among ms) (row_numbers day) i m in
      let r = count_range 1 (length day.rows) l.0 in
      let inside : OfDay day i = (omega (arith, r), omega (arith, r)) in
      let long =
      ap (λ (j : Job). j.length) (job_held opening pace day ms i inside) ∙
      ap (λ (p : ℕ). opening + length_of (row day.rows i).pages p) (pace_left pace ms i l.1) ∙
      ap (λ (n : ℕ). opening + length_of n (pace_after pace ms)) (sym (pages_of_day opening pace day ms i inside)) in
      λ x. record {
        release = (job_in (d opening pace day ms).rows i).release;
        length = long x;
        due = (job_in (d opening pace day ms).rows i).due;
      }
