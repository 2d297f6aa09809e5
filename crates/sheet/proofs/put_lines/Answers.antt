-- `put_lines` meets its contract: each branch has the lines that the definition gives there.
-- Assumes nothing.
use native.Mathlib.Nat.{le_refl}
use mathlib.Core.Path.{sym, ap, ◌∙◌}
use Rattle.outcomes.specs.Outcomes.{ListAnswer}
use Rattle.outcomes.specs.Planning.{gives}
use Rattle.lines.proofs.Adding.{same_added}
use Rattle.sheet.proofs.Choosing.{odd_shown, even_shown, list_turned, all_counted, same_counted}
use Rattle.sheet.proofs.put_lines.Goals as goal

pub returns-then-is_odd : goal.returns-then-is_odd
returns-then-is_odd c =
    let e = odd_shown c.args.input.now
    (sym c.is_odd.ensures ∙ c.if-is_odd.true) in
    all_counted (same_added (le_refl 53) (sym e) c.refused_line.ensures)

pub put_listing-requires : goal.put_listing-requires
put_listing-requires c =
    let g = ap (λ (r : ListAnswer). gives r c.list.new.res) (sym c.in-Ok.is) ∙ c.list.ensures in
    ((c.no_plans-plans.result, sym c.no_plans-plans.ensures, g), c.requires.1)

pub returns-in-Err : goal.returns-in-Err
returns-in-Err c =
    let a = c.args in
    let g = ap (λ (r : ListAnswer). gives r c.list.new.res) (sym c.in-Err.is) ∙
    c.list.ensures in
    let even = even_shown a.input.now a.book.now
    c.requires.0
    (sym c.is_odd.ensures ∙ c.if-is_odd.false) in
    let turned = list_turned a.book.now c.no_plans-plans.result c.list.new.res
    (sym c.no_plans-plans.ensures) c.in-Err.refusal.number c.in-Err.refusal.place g in
    all_counted (same_added (le_refl 53) (sym (even ∙ turned)) c.refused_line-in-Err.ensures)

pub returns-in-Ok : goal.returns-in-Ok
returns-in-Ok c =
    let a = c.args in
    let even = even_shown a.input.now a.book.now
    c.requires.0
    (sym c.is_odd.ensures ∙ c.if-is_odd.false) in
    same_counted (sym even) c.put_listing.ensures
