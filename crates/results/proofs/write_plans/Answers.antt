-- `write_plans` meets its contract. The invariant: the words of the plans passed so far stand at the buffer's front.
-- Assumes nothing.
use Prim.Native.Nat.{ℕ, ◌+◌, ◌*◌}
use mathlib.Core.Path.{◌≡◌, refl, ap, ◌∙◌}
use mathlib.Core.List.{List}
use native.Mathlib.Omega.{arith}
use lib.ListN.{get_or, set, length-set}
use Rattle.listing.specs.Fronts.{pairs_of}
use Rattle.results.specs.Results.{written, plan_words}
use Rattle.results.proofs.ResultWords.{words_to, words_more}
use Rattle.results.proofs.write_plans.Goals as goal

pub loop-k-init : goal.loop-k-init
unfolding written plan_words pairs_of
loop-k-init c = (refl, refl)

pub loop-k-preserved : goal.loop-k-preserved
loop-k-preserved c =
    let l = c.loop-k in
    let a = c.args in (
      simp length-set (omega arith),
      ap (λ (b : List ℕ). set (set b (2 * l.k) (get_or a.ends.now l.k 0)) (2 * l.k + 1) c.word_of.result) l.invariant.1 ∙
          words_more a.ends.now a.lates.now l.k (omega arith) (omega arith) a.res.now (omega arith) c.word_of.result
          c.word_of.ensures,
    )

pub returns : goal.returns
returns c =
    let l = c.loop-k in
    let a = c.args in
    let e : l.k ≡ a.count = omega arith in
    l.invariant.1 ∙ ap (λ (n : ℕ). written (words_to a.ends.now a.lates.now n) a.res.now) e
