-- `words_within` meets its contract: the words taken, with those of the bytes that are left, are all.
use Rattle.std.proofs.Common.{◌≡◌, ◌∙◌, sym, arith}
use lib.ListN.{length, length-set}
use Rattle.input.proofs.InputWords.{taken, all_taken}
use Rattle.input.proofs.words_within.Goals as goal

pub loop-k-preserved : goal.loop-k-preserved
loop-k-preserved c =
    let l = c.loop-k in (
      simp length-set l.invariant.0,
      rw c.word_at.ensures (taken c.args.input.now l.word-items (length c.args.words.now) l.k (omega arith) (omega arith) (omega arith) ∙
          l.invariant.1),
    )

pub returns-clause-counted : goal.returns-clause-counted
returns-clause-counted c =
    let l = c.loop-k in
    let k = c.min-count.result in
    let e : l.k ≡ k = omega arith in
    all_taken c.args.input.now l.word-items _ (length c.args.words.now) k l.invariant.0 c.min-count.ensures (rw (sym e) l.invariant.1)
