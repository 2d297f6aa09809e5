-- `read_rows` meets its contract: each turn of the loop is one step of `read_rows`, with the rest of the book as a part of its own.
-- Assumes nothing.
use Rattle.std.specs.Prelude.{Result, Ok}
use Rattle.schedule.specs.Limits.{most_rows}
use Rattle.schedule.specs.declared.Row.{Row}
use Rattle.refusals.specs.declared.Refusal.{Refusal}
use Rattle.refusals.proofs.Tests.{handed_on}
use Prim.Native.Nat.{ℕ, ◌≤◌, ◌<◌, ◌+◌, ◌-◌}
use native.Mathlib.Omega.{arith}
use mathlib.Core.Bool.{Bool, true, false}
use mathlib.Core.Path.{◌≡◌, ap, sym, ◌∙◌}
use mathlib.Core.List.{List}
use lib.ListN.{length, take, drop, length-drop}
use lib.Seq.{drop-drop}
use Rattle.refusals.specs.Tests.{Tested}
use Rattle.row_reader.specs.RowWords.{row_tests, row_of}
use Rattle.row_reader.specs.Cited.{row_read_of}
use Rattle.book.specs.Rows.{end_stands, end_tests}
use Rattle.book.specs.Tables.{table_of}
use Rattle.row_reader.proofs.Tests.{row_fits}
use Rattle.book.proofs.Tables.{part_end}
use Rattle.book.proofs.Reached.{reached_start, reached_end, reached_end_refused, reached_refused, reached_room, reached_on, whole_tests}
use Rattle.book.proofs.Reached.{whole_row, refused_tests}
use Rattle.book.proofs.read_rows.Goals as goal
use Rattle.book.proofs.read_rows.Goals.{In_ok-row}

-- The end word does not stand at the start of the rest.
stop : {b : Bool} (n k : ℕ) (ws : List ℕ) → b ≡ end_stands n (take (length ws - k) (drop k ws)) → b ≡ false →
    end_stands n (drop k ws) ≡ false
stop n k ws e f = ap (end_stands n) (sym (part_end k ws)) ∙ sym e ∙ f

-- What the row reader answers of the rest.
row_is : {r : Result Row Refusal} (count at pace k : ℕ) (numbers ws : List ℕ) →
    (let rest = take (length ws - k) (drop k ws) in r ≡ row_read_of (row_tests (take count numbers) at rest) (row_of pace rest)) →
    r ≡ row_read_of (row_tests (take count numbers) at (drop k ws)) (row_of pace (drop k ws))
row_is count at pace k numbers ws e =
    e ∙ ap (λ (rest : List ℕ). row_read_of (row_tests (take count numbers) at rest) (row_of pace rest)) (part_end k ws)

-- A row that was read is that of the rest, and its tests are passed: so there is room for it, and it has four words.
module _ (c : In_ok-row) where
  abbrev rest : List ℕ
  rest = drop c.loop-numbers.at c.args.book.now

  answer : Ok c.in_ok-row.row ≡ row_read_of (row_tests (take c.loop-numbers.count c.loop-numbers.numbers) c.loop-numbers.at rest)
      (row_of c.args.pace rest)
  answer =
      let l = c.loop-numbers in
      sym c.in_ok-row.was ∙ row_is l.count l.at c.args.pace l.at l.numbers c.args.book.now c.read_row.ensures

  no_end : end_stands c.loop-numbers.count rest ≡ false
  no_end = stop c.loop-numbers.count c.loop-numbers.at c.args.book.now c.end_stands.ensures c.if-end_stands.false

  passed : row_tests (take c.loop-numbers.count c.loop-numbers.numbers) c.loop-numbers.at rest ≡ Ok tt
  passed = whole_tests _ _ _ answer

  room : c.loop-numbers.count < most_rows
  room = reached_room c.loop-numbers.invariant.1 passed

  four : c.loop-numbers.at + 4 ≤ length c.args.book.now
  four =
      let l = c.loop-numbers in
      omega (arith, (row_fits (take l.count l.numbers) l.at rest passed).due.there, length-drop l.at c.args.book.now)

pub loop-numbers-init : goal.loop-numbers-init
unfolding table_of
loop-numbers-init c = (c.requires.0, reached_start c.args.free c.args.pace (drop 2 c.args.book.now))

-- The tests of the end word, of the rest.
ends : {o : Tested} (n at k : ℕ) (ws : List ℕ) → o ≡ end_tests n at (take (length ws - k) (drop k ws)) → o ≡ end_tests n at (drop k ws)
ends n at k ws e = e ∙ ap (end_tests n at) (part_end k ws)

-- The end word stands there.
stands_there : {b : Bool} (n k : ℕ) (ws : List ℕ) → b ≡ end_stands n (take (length ws - k) (drop k ws)) → b ≡ true → end_stands n (drop k ws) ≡ true
stands_there n k ws e f = ap (end_stands n) (sym (part_end k ws)) ∙ sym e ∙ f

pub returns-in_err-end_tests : goal.returns-in_err-end_tests
returns-in_err-end_tests c =
    let l = c.loop-numbers in
    let b = c.args.book.now in
    handed_on c.from_residual.result c.from_residual.ensures.1 ∙
    reached_end_refused l.invariant.1 c.in_err-end_tests.field-0.0 (stands_there l.count l.at b c.end_stands.ensures c.if-end_stands.true)
    (sym (ends l.count l.at l.at b c.end_tests.ensures) ∙ c.in_err-end_tests.was)

pub returns-then-end_stands : goal.returns-then-end_stands
returns-then-end_stands c =
    let l = c.loop-numbers in
    let b = c.args.book.now in
    reached_end l.invariant.1 (stands_there l.count l.at b c.end_stands.ensures c.if-end_stands.true)
    (sym (ends l.count l.at l.at b c.end_tests.ensures) ∙ c.in_ok-end_tests.was)

pub offset_bounds-numbers-count : goal.offset_bounds-numbers-count
offset_bounds-numbers-count c = omega (arith, room (goal.at.offset_bounds-numbers-count c).In_ok-row)

pub bounds-numbers-count : goal.bounds-numbers-count
bounds-numbers-count c = room (goal.at.bounds-numbers-count c).In_ok-row

pub offset_bounds-rows-count : goal.offset_bounds-rows-count
offset_bounds-rows-count c = omega (arith, room (goal.at.offset_bounds-rows-count c).In_ok-row)

pub bounds-rows-count : goal.bounds-rows-count
bounds-rows-count c = room (goal.at.bounds-rows-count c).In_ok-row

pub overflow_add-count : goal.overflow_add-count
overflow_add-count c = omega (arith, room (goal.at.overflow_add-count c).In_ok-row)

pub overflow_add-at : goal.overflow_add-at
overflow_add-at c = omega (arith, four (goal.at.overflow_add-at c).In_ok-row)

pub loop-numbers-smaller : goal.loop-numbers-smaller
loop-numbers-smaller c = omega (arith, four (goal.at.loop-numbers-smaller c).In_ok-row)

pub returns-in_err-row : goal.returns-in_err-row
returns-in_err-row c =
    let r = c.from_residual-in_err-row in
    handed_on r.result r.ensures.1 ∙ reached_refused c.loop-numbers.invariant.1 c.in_err-row.field-0.0
    (stop c.loop-numbers.count c.loop-numbers.at c.args.book.now c.end_stands.ensures c.if-end_stands.false)
    (refused_tests _ _ _ (sym c.in_err-row.was ∙ row_is c.loop-numbers.count c.loop-numbers.at c.args.pace c.loop-numbers.at
    c.loop-numbers.numbers c.args.book.now c.read_row.ensures))

pub loop-numbers-preserved : goal.loop-numbers-preserved
loop-numbers-preserved c =
    let whole = (goal.at.loop-numbers-preserved c).In_ok-row in (
      four whole,
      rw (whole_row _ _ _ (answer whole), ← drop-drop 4 c.loop-numbers.at c.args.book.now)
          (reached_on c.loop-numbers.invariant.1 (no_end whole) (passed whole)),
    )
