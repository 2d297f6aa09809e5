-- `entry_tests` meets its contract. The invariant: the marks are those of the entries passed, and what the tests say from here on is what
-- they say from the first entry on. Assumes nothing.
use Prim.Native.Nat.{ℕ, ◌≤◌}
use native.Mathlib.Omega.{arith}
use mathlib.Core.Bool.{Bool, true, false, ◌||◌}
use mathlib.Core.Path.{◌≡◌, refl, sym, ap, ◌∙◌}
use mathlib.Core.List.{List, [], ◌∷◌}
use lib.Dec.{eqb, ltb}
use lib.ListN.{get_or, length-replicate, length-set}
use Rattle.schedule.specs.Limits.{row_places}
use Rattle.schedule.specs.Rows.{stands}
use Rattle.postings.proofs.Entries.{Marks, marks_none, marks_more, stray_not, entry_stray, entry_fine, entries_end}
use Rattle.postings.proofs.entry_tests.Goals as goal

-- The test of an entry, by the marks and by what was seen.
by-seen : (n e : ℕ) (seen : List Bool) (s : List ℕ) (r b : Bool) → Marks seen s → r ≡ (eqb e 0 || ltb n e || get_or seen e false) → r ≡ b →
    (eqb e 0 || ltb n e || stands e s) ≡ b
by-seen n e seen s r b m h k = sym (ap (λ (x : Bool). eqb e 0 || ltb n e || x) (m e)) ∙ (sym h ∙ k)

pub loop-k-init : goal.loop-k-init
loop-k-init c = (length-replicate row_places false, ([], marks_none, refl))

pub returns-then-is_stray : goal.returns-then-is_stray
returns-then-is_stray c =
    let l = c.loop-k in
    let a = c.args in
    let e = get_or a.posting.now l.k 0 in
    sym (l.invariant.1.2 ∙ entry_stray a.n a.posting.now l.invariant.1.0 l.k (omega arith)
    (by-seen a.n e l.seen l.invariant.1.0 c.is_stray.result true l.invariant.1.1 c.is_stray.ensures
    c.if-is_stray.true))

-- An entry that is no stray is a row.
not-past : (c : goal.Else-is_stray) → get_or c.args.posting.now
    c.loop-k.k 0 ≤ c.args.n
not-past c =
    let l = c.loop-k in
    let a = c.args in
    stray_not a.n (get_or a.posting.now l.k 0) (get_or l.seen (get_or a.posting.now l.k 0) false)
    (sym c.is_stray.ensures ∙ c.if-is_stray.false)

pub bounds-seen-entry : goal.bounds-seen-entry
bounds-seen-entry c = omega (arith, not-past c)

pub loop-k-preserved : goal.loop-k-preserved
loop-k-preserved c =
    let l = c.loop-k in
    let a = c.args in
    let e = get_or a.posting.now l.k 0 in
    let s = l.invariant.1.0 in (
      length-set l.seen e true ∙ l.invariant.0,
      (
        e ∷ s,
        marks_more l.seen s e (omega (arith, not-past c)) l.invariant.1.1,
        l.invariant.1.2 ∙ entry_fine a.n a.posting.now s l.k (omega arith)
            (by-seen a.n e l.seen s c.is_stray.result false l.invariant.1.1 c.is_stray.ensures c.if-is_stray.false),
      ),
    )

pub returns : goal.returns
returns c =
    let l = c.loop-k in
    let a = c.args in
    sym (l.invariant.1.2 ∙ entries_end a.n a.posting.now l.invariant.1.0 l.k (omega arith))
