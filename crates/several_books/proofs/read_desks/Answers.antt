-- `read_desks` meets its contract: each turn reads one book more.
-- Assumes nothing.
use Prim.Native.Nat.{◌+◌}
use native.Mathlib.Omega.{arith}
use mathlib.Core.Path.{◌≡◌, refl, ap, ◌∙◌}
use Rattle.std.proofs.Common.{rules}
use Rattle.std.specs.Prelude.{Ok, Err, MatchResult}
use Rattle.refusals.specs.declared.Refusal.{Refusal}
use Rattle.refusals.specs.Tests.{Tested}
use Rattle.schedule.specs.Columns.{at}
use Rattle.refusals.proofs.Tests.{never}
use Rattle.several_books.specs.declared.DeskRefusal.{DeskRefusal}
use Rattle.readers.specs.Reads.{ordering_rule}
use Rattle.several_books.proofs.Desks.{ReadTo, desk_handed_on, read_none, next_part, the_part, read_refused, read_next, read_end}
use Rattle.several_books.proofs.read_desks.Goals as goal
use Rattle.several_books.proofs.read_desks.Goals.{In_ok-map_err}

-- What a mapped outcome says of the outcome itself.
turned_by : (r : Tested) (e : DeskRefusal) (Q : Refusal → Type 0) → MatchResult r (λ x. Err e ≡ Ok x) Q →
    (refusal : Refusal) × (r ≡ Err refusal) × Q refusal
turned_by (Ok _) e Q h = never (cc)
turned_by (Err refusal) e Q h = (refusal, refl, h)

passed_on : (r : Tested) (P : Unit {0} → Type 0) → MatchResult r P (λ e. ⊥) → r ≡ Ok tt
passed_on (Ok _) P h = refl
passed_on (Err refusal) P h = absurd h

pub loop-d-init : goal.loop-d-init
loop-d-init c = read_none (ordering_rule c.args.opening) _ _ _ _ _ _ _ c.requires.2 c.requires.1

pub slice_bounds-read_into-end : goal.slice_bounds-read_into-end
slice_bounds-read_into-end c =
    let a = c.args in
    let l = c.loop-d in
    omega (arith, next_part (ordering_rule a.opening) a.books.now a.lengths.now _ _ _ _ _ _ _ l.d l.invariant (omega arith))

pub returns-in_err-map_err : goal.returns-in_err-map_err
returns-in_err-map_err c =
    let a = c.args in
    let l = c.loop-d in
    let part = the_part (ordering_rule a.opening) a.books.now a.lengths.now _ _ _ _ _ _ l.at l.d l.invariant _ refl in
    let t = turned_by c.read_into-outcome.result c.in_err-map_err.field-0.0 _ c.in_err-map_err.ensures.cases in
    let told = t.2 in
    let same : ◌≡◌ {A = DeskRefusal} c.in_err-map_err.field-0.0 (record { refusal = t.0; desk = l.d + 1 }) = search rules in
    read_refused (ordering_rule a.opening) a.books.now a.lengths.now _ _ _ _ _ _ l.at l.d l.invariant c.loop-d-test.true _ _ _ _ _ _ _
    part c.read_into-outcome.ensures t.0 t.1 _ (desk_handed_on c.from_residual.result c.from_residual.ensures.1 ∙ ap Err same)

-- The book of this desk is read.
next : (c : In_ok-map_err) → let new = c.read_into-outcome.new in
    ReadTo (ordering_rule c.args.opening) c.args.books.now c.args.lengths.now new.free new.rows new.plans new.columns new.fronts
    (c.loop-d.total + at new.rows c.loop-d.d) (c.loop-d.at + at c.args.lengths.now c.loop-d.d) (c.loop-d.d + 1)
next c =
    let a = c.args in
    let l = c.loop-d in
    let part = the_part (ordering_rule a.opening) a.books.now a.lengths.now _ _ _ _ _ _ l.at l.d l.invariant _ refl in
    read_next (ordering_rule a.opening) a.books.now a.lengths.now _ _ _ _ _ _ l.at l.d l.invariant c.loop-d-test.true _ _ _ _ _ _ _
    part c.read_into-outcome.ensures (passed_on c.read_into-outcome.result _ c.in_ok-map_err.ensures.cases)

pub overflow_add-total : goal.overflow_add-total
overflow_add-total c = record { fits = omega (arith, (next (goal.at.overflow_add-total c).In_ok-map_err).few) }

pub loop-d-preserved : goal.loop-d-preserved
loop-d-preserved c = next (goal.at.loop-d-preserved c).In_ok-map_err

pub returns : goal.returns
returns c =
    let a = c.args in
    read_end (ordering_rule a.opening) a.books.now a.lengths.now _ _ _ _ _ _ _ _ c.loop-d.invariant (omega arith)
