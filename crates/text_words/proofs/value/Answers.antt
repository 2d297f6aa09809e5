-- `value` meets its contract: from `v` on, the digits left give the number of all. Too large stays too large.
-- Assumes nothing.
use Rattle.std.proofs.Common.{◌+◌, ◌*◌, ap, sym, ◌∙◌, arith, drop, rules}
use Rattle.text_words.proofs.Digits.{decimal_step, decimal_end, decimal_grows, sized_small, sized_large}
use Rattle.text_words.specs.Numbers.{sized}
use Rattle.text_words.proofs.value.Goals as goal

pub returns-then-v-ge536870912 : goal.returns-then-v-ge536870912
returns-then-v-ge536870912 c =
    let w = c.args.word.now in
    let l = c.loop-byte in
    sym (sized_large _
    (omega (
      arith,
      decimal_step l.v c.from.result w l.byte-index (search rules) (c.from.ensures ∙ c.saturating_sub.ensures),
      decimal_grows (10 * l.v + c.from.result) (drop (l.byte-index + 1) w),
    )))

pub loop-byte-preserved : goal.loop-byte-preserved
loop-byte-preserved c =
    let l = c.loop-byte in (
      search rules,
      sym (decimal_step l.v c.from.result c.args.word.now l.byte-index (search rules) (c.from.ensures ∙ c.saturating_sub.ensures)) ∙
          l.invariant.1,
    )

pub returns : goal.returns
returns c =
    let l = c.loop-byte in
    sym (ap sized (sym l.invariant.1 ∙ decimal_end l.v c.args.word.now l.byte-index (omega arith)) ∙ sized_small l.v l.invariant.0)
