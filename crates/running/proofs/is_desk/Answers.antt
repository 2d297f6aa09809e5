-- `is_desk` meets its contract: the tests one after another.
-- Assumes nothing.
use Prim.Native.Nat.{◌≤◌}
use mathlib.Core.Bool.{Bool, true, false}
use lib.ListN.{length}
use mathlib.Core.Path.{◌≡◌, sym, ◌∙◌}
use borrow.Author.Tests.{le-leb, lt-leb}
use Rattle.running.specs.Words.{desk_words, head_fits, is_desk}
use Rattle.running.proofs.Fits.{head_says}
use Rattle.running.proofs.is_desk.Goals as goal
use Rattle.running.proofs.is_desk.Goals.{then-desk-ge-WORDS, else-desk-ge-WORDS}

apart : {b : Bool} → b ≡ true → b ≡ false → ⊥
apart e f = cc

pub rows_fit-requires : goal.rows_fit-requires
rows_fit-requires c =
    let passed : (desk_words ≤ length c.args.desk.now) × (head_fits c.args.desk.now ≡ true) = elim c.if-desk-ge-WORDS.branch [
      | then-desk-ge-WORDS w ↦ (w.if-desk-ge-WORDS.true, sym w.head_fits.ensures ∙ sym w.value-is ∙ c.if-head_fits.true)
      | else-desk-ge-WORDS w ↦ absurd (apart c.if-head_fits.true (w.value-is ∙ lt-leb _ _ w.if-desk-ge-WORDS.false))
    ] in
    let h = head_says _ passed.1 in
    (h.0, h.1, passed.0)

pub returns-then-head_fits : goal.returns-then-head_fits
unfolding is_desk
returns-then-head_fits c =
    let passed : (desk_words ≤ length c.args.desk.now) × (head_fits c.args.desk.now ≡ true) = elim c.if-desk-ge-WORDS.branch [
      | then-desk-ge-WORDS w ↦ (w.if-desk-ge-WORDS.true, sym w.head_fits.ensures ∙ sym w.value-is ∙ c.if-head_fits.true)
      | else-desk-ge-WORDS w ↦ absurd (apart c.if-head_fits.true (w.value-is ∙ lt-leb _ _ w.if-desk-ge-WORDS.false))
    ] in
    rw (le-leb _ _ passed.0, passed.1) c.rows_fit.ensures

pub returns-else-head_fits : goal.returns-else-head_fits
unfolding is_desk
returns-else-head_fits c = elim c.if-desk-ge-WORDS.branch [
  | then-desk-ge-WORDS w ↦
      rw (le-leb _ _ w.if-desk-ge-WORDS.true, sym w.head_fits.ensures ∙ sym w.value-is ∙ c.if-head_fits.false) c.if-head_fits.false
  | else-desk-ge-WORDS w ↦ rw (lt-leb _ _ w.if-desk-ge-WORDS.false) c.if-head_fits.false
]
