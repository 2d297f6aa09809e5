-- The columns of a test of row pairs: what they say of a row is what the rows above it do.
-- Assumes nothing.
use Rattle.refusals.specs.Tests.{refusal_at}
use Rattle.std.specs.Prelude.{Ok, Err}
use Prim.Native.Nat.{ℕ, zero, suc, ◌+◌, ◌-◌, ◌≤◌, ◌<◌}
use native.Mathlib.Omega.{arith}
use native.Mathlib.Decide.{dec_le}
use mathlib.Core.Bool.{Bool, true, false, ◌||◌}
use mathlib.Core.Path.{◌≡◌, refl, sym, ap, ◌∙◌}
use mathlib.Core.List.{List}
use lib.ListN.{length, take, get_or}
use Rattle.schedule.specs.declared.Row.{Row}
use Rattle.schedule.specs.Rows.{no_row}
use Rattle.schedule.proofs.Tests.{neither, or_true}
use Rattle.pairs.specs.Pairs.{some_entry, number_word, pair_tests}
use Rattle.pairs.specs.Columns.{places_clash, any_clashes, some_clash, Columned, ColumnsTested}
use Rattle.pairs.proofs.Scans.{some_on, pairs_at, pairs_here, pairs_on, pairs_end}

-- Row i against no row, and against one row more, j.
module _ (dues seconds : List ℕ) (i : ℕ) where
  pub above_none : any_clashes dues seconds i 0 ≡ false
  unfolding any_clashes
  above_none = refl

  above_on : (j : ℕ) → 1 ≤ j → any_clashes dues seconds i j ≡ (any_clashes dues seconds i (j - 1) || places_clash dues seconds i j)
  unfolding any_clashes
  above_on zero h = let x : ⊥ = omega arith in absurd x
  above_on (suc j) h = let same : suc j - 1 ≡ j = omega arith in rw same

  -- One turn: what was found up to row j, and how row j compares.
  pub above_turn : (j : ℕ) → 1 ≤ j → (found clashes : Bool) → found ≡ any_clashes dues seconds i (j - 1) →
      clashes ≡ places_clash dues seconds i j →
      (found || clashes) ≡ any_clashes dues seconds i (j + 1 - 1)
  above_turn j h found clashes e f = let same : j + 1 - 1 ≡ j = omega arith in rw (same, above_on j h, e, f)

  -- A clash with one of the rows 1 to n.
  above_more : (n j : ℕ) → any_clashes dues seconds i j ≡ true → j ≤ n → any_clashes dues seconds i n ≡ true
  unfolding any_clashes
  above_more zero j e l = let none : j ≡ 0 = omega arith in rw none at e
  above_more (suc n) j e l = go (dec_le j n) (above_more n j e)
    where
      go : Dec (j ≤ n) → (j ≤ n → any_clashes dues seconds i n ≡ true) → any_clashes dues seconds i (suc n) ≡ true
      go (yes g) later = rw (later g)
      go (no g) later = let all : j ≡ suc n = omega arith in rw all at e

  pub above_here : (n j : ℕ) → 1 ≤ j → j ≤ n → places_clash dues seconds i j ≡ true → any_clashes dues seconds i n ≡ true
  above_here n j h l e = above_more n j (rw (above_on j h, e) (or_true (any_clashes dues seconds i (j - 1)))) l

-- The rows 1 to i: no row, and one row more. None clashes: then row i does with none above it.
module _ (dues seconds : List ℕ) where
  pub some_none : some_clash dues seconds 0 ≡ false
  unfolding some_clash
  some_none = refl

  -- One turn: what was found up to row i, and how row i compares.
  pub some_turn : (i : ℕ) → 1 ≤ i → (found clashes : Bool) → found ≡ some_clash dues seconds (i - 1) →
      clashes ≡ any_clashes dues seconds i (i - 1) →
      (found || clashes) ≡ some_clash dues seconds i
  unfolding some_clash
  some_turn zero h found clashes e f = let x : ⊥ = omega arith in absurd x
  some_turn (suc i) h found clashes e f =
      let same : suc i - 1 ≡ i = omega arith in
      let before : found ≡ some_clash dues seconds i = rw same at e in
      let here : clashes ≡ any_clashes dues seconds (suc i) i = rw same at f in
      rw (before, here) refl

-- Row i + 1 against the rows above it is that place of the columns against the places above it.
above_some : (clash : Row → Row → Bool) (rows : List Row) (dues seconds : List ℕ) → Columned clash rows dues seconds → (i : ℕ) →
    i < length rows → (k : ℕ) → k ≤ i →
    any_clashes dues seconds (suc i) k ≡ some_entry (clash (get_or rows i no_row)) (take k rows)
unfolding any_clashes some_entry
above_some clash rows dues seconds c i h zero l = refl
above_some clash rows dues seconds c i h (suc k) l =
    let m : k < length rows = omega arith in
    rw (some_on (clash (get_or rows i no_row)) rows no_row k m, c (suc i) (suc k) (omega arith) (omega arith) (omega arith) (omega arith))
    (ap (λ (b : Bool). b || places_clash dues seconds (suc i) (suc k)) (above_some clash rows dues seconds c i h k (omega arith)))

-- The scan of the columns: it goes on at row i, for any rows whose clashes they tell.
module _ (dues seconds : List ℕ) (count number : ℕ) where
  abbrev pub ScanAt : ℕ → Type 0
  ScanAt i = (clash : Row → Row → Bool) (rows : List Row) → length rows ≡ count → Columned clash rows dues seconds →
      pair_tests clash number rows ≡ pairs_at clash number rows (i - 1)

  -- It begins at row 1. Row i clashes with none above it; with one; no row is left.
  pub scan_start : ScanAt 1
  scan_start clash rows n c = refl

  pub scan_on : (i : ℕ) → 1 ≤ i → i ≤ count → any_clashes dues seconds i (i - 1) ≡ false → ScanAt i → ScanAt (i + 1)
  scan_on zero one h e s = let x : ⊥ = omega arith in absurd x
  scan_on (suc i) one h e s = λ clash rows n c.
      let l : i < length rows = omega arith in
      let same : suc i - 1 ≡ i = omega arith in
      let next : suc i + 1 - 1 ≡ suc i = omega arith in
      rw same at (s clash rows n c)
      ∙ rw next (pairs_on clash number rows i l (sym (above_some clash rows dues seconds c i l i (omega arith)) ∙ rw same at e))

  pub scan_here : (i : ℕ) → 1 ≤ i → i ≤ count → any_clashes dues seconds i (i - 1) ≡ true → ScanAt i →
      ColumnsTested dues seconds count number (Err (refusal_at number (number_word i)))
  scan_here zero one h e s = let x : ⊥ = omega arith in absurd x
  scan_here (suc i) one h e s = λ clash rows n c.
      let l : i < length rows = omega arith in
      let same : suc i - 1 ≡ i = omega arith in
      rw same (sym (rw same at (s clash rows n c) ∙ pairs_here clash number rows i l
      (sym (above_some clash rows dues seconds c i l i (omega arith)) ∙ rw same at e)))

  pub scan_end : (i : ℕ) → count < i → ScanAt i → ColumnsTested dues seconds count number (Ok tt)
  scan_end i h s clash rows n c = sym (s clash rows n c ∙ pairs_end clash number rows (i - 1) (omega arith))

  -- No row of the columns clashes with a row above it.
  none_on : (n : ℕ) → n ≤ count → some_clash dues seconds n ≡ false → ScanAt (n + 1)
  unfolding some_clash
  none_on zero h e = scan_start
  none_on (suc n) h e =
      let both = neither (some_clash dues seconds n) (any_clashes dues seconds (suc n) n) e in
      let next : n + 1 ≡ suc n = omega arith in
      let same : suc n - 1 ≡ n = omega arith in
      scan_on (suc n) (omega arith) h (rw same both.1) (rw next at (none_on n (omega arith) both.0))

  pub none_clashes : some_clash dues seconds count ≡ false → ColumnsTested dues seconds count number (Ok tt)
  none_clashes e = scan_end (count + 1) (omega arith) (none_on count (omega arith) e)
