-- What is held of several desks, with one desk put into its place.
-- Assumes nothing.
use Prim.Native.Nat.{ℕ, ◌+◌, ◌*◌, ◌<◌}
use native.Mathlib.Omega.{arith}
use mathlib.Core.Path.{◌≡◌, ◌∙◌}
use mathlib.Core.List.{List, []}
use lib.ListN.{get_or, set, length-set}
use lib.Seq.{get_or-set_same, get_or-set_other}
use Rattle.schedule.specs.Limits.{most_desks}
use Rattle.several_books.specs.Held.{Slot, slot_at, RoomForDesks}

module _ (columns fronts : List (List ℕ)) (d : ℕ) (s : Slot) where
  abbrev release_put : List (List ℕ)
  release_put = set columns (3 * d) s.release

  abbrev minutes_put : List (List ℕ)
  minutes_put = set release_put (3 * d + 1) s.minutes

  abbrev pub columns_put : List (List ℕ)
  columns_put = set minutes_put (3 * d + 2) s.due

  abbrev ends_put : List (List ℕ)
  ends_put = set fronts (2 * d) s.ends

  abbrev pub fronts_put : List (List ℕ)
  fronts_put = set ends_put (2 * d + 1) s.lates

module _ (free rows plans : List ℕ) (columns fronts : List (List ℕ))
    (z : RoomForDesks free rows plans columns fronts) (d : ℕ) (h : d < most_desks) (s : Slot) where
  abbrev pub slot_put : ℕ → Slot
  slot_put e = slot_at (set free d s.free) (set rows d s.rows) (set plans d s.plans) (columns_put columns fronts d s) (fronts_put
      columns fronts d s) e

  pub put_here : slot_put d ≡ s
  put_here = λ i. record {
    free = get_or-set_same free d s.free 0 (omega (arith, z.frees)) i;
    rows = get_or-set_same rows d s.rows 0 (omega (arith, z.counts)) i;
    plans = get_or-set_same plans d s.plans 0 (omega (arith, z.lists)) i;
    release = first i;
    minutes = second i;
    due = third i;
    ends = fourth i;
    lates = fifth i;
  }
    where
      first : get_or (columns_put columns fronts d s) (3 * d) [] ≡ s.release
      first =
          get_or-set_other (minutes_put columns fronts d s) (3 * d + 2) (3 * d) s.due [] (λ e. omega arith) ∙
          get_or-set_other (release_put columns fronts d s) (3 * d + 1) (3 * d) s.minutes [] (λ e. omega arith) ∙
          get_or-set_same columns (3 * d) s.release [] (omega (arith, z.column_places))

      second : get_or (columns_put columns fronts d s) (3 * d + 1) [] ≡ s.minutes
      second =
          get_or-set_other (minutes_put columns fronts d s) (3 * d + 2) (3 * d + 1) s.due [] (λ e. omega arith) ∙
          get_or-set_same (release_put columns fronts d s) (3 * d + 1) s.minutes [] (simp length-set (omega (arith, z.column_places)))

      third : get_or (columns_put columns fronts d s) (3 * d + 2) [] ≡ s.due
      third = get_or-set_same (minutes_put columns fronts d s) (3 * d + 2) s.due [] (simp length-set (omega (arith, z.column_places)))

      fourth : get_or (fronts_put columns fronts d s) (2 * d) [] ≡ s.ends
      fourth =
          get_or-set_other (ends_put columns fronts d s) (2 * d + 1) (2 * d) s.lates [] (λ e. omega arith) ∙
          get_or-set_same fronts (2 * d) s.ends [] (omega (arith, z.front_places))

      fifth : get_or (fronts_put columns fronts d s) (2 * d + 1) [] ≡ s.lates
      fifth = get_or-set_same (ends_put columns fronts d s) (2 * d + 1) s.lates [] (simp length-set (omega (arith, z.front_places)))

  -- Desk e is another.
  module _ (e : ℕ) (n : ¬ (e ≡ d)) where
    column : (k : ℕ) → ¬ (k ≡ 3 * d) → ¬ (k ≡ 3 * d + 1) → ¬ (k ≡ 3 * d + 2) →
        get_or (columns_put columns fronts d s) k [] ≡ get_or columns k []
    column k x y w =
        get_or-set_other (minutes_put columns fronts d s) (3 * d + 2) k s.due [] w ∙
        get_or-set_other (release_put columns fronts d s) (3 * d + 1) k s.minutes [] y ∙
        get_or-set_other columns (3 * d) k s.release [] x

    front : (k : ℕ) → ¬ (k ≡ 2 * d) → ¬ (k ≡ 2 * d + 1) → get_or (fronts_put columns fronts d s) k [] ≡ get_or fronts k []
    front k x y = get_or-set_other (ends_put columns fronts d s) (2 * d + 1) k s.lates [] y ∙
        get_or-set_other fronts (2 * d) k s.ends [] x

    pub put_other : slot_put e ≡ slot_at free rows plans columns fronts e
    put_other = λ i. record {
      free = get_or-set_other free d e s.free 0 n i;
      rows = get_or-set_other rows d e s.rows 0 n i;
      plans = get_or-set_other plans d e s.plans 0 n i;
      release = column (3 * e) (λ x. omega arith) (λ x. omega arith) (λ x. omega arith) i;
      minutes = column (3 * e + 1) (λ x. omega arith) (λ x. omega arith) (λ x. omega arith) i;
      due = column (3 * e + 2) (λ x. omega arith) (λ x. omega arith) (λ x. omega arith) i;
      ends = front (2 * e) (λ x. omega arith) (λ x. omega arith) i;
      lates = front (2 * e + 1) (λ x. omega arith) (λ x. omega arith) i;
    }

  pub put_sized : RoomForDesks (set free d s.free) (set rows d s.rows) (set plans d s.plans) (columns_put columns fronts d s)
      (fronts_put columns fronts d s)
  put_sized = record {
    frees = simp length-set z.frees;
    counts = simp length-set z.counts;
    lists = simp length-set z.lists;
    column_places = simp length-set z.column_places;
    front_places = simp length-set z.front_places;
  }
