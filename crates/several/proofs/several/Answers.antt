-- `several` meets its contract: what is lent amiss, then the books, then what their days come to.
-- Assumes nothing.
use native.Mathlib.Omega.{arith}
use mathlib.Core.Path.{refl, sym, ap, ◌∙◌}
use Rattle.std.specs.Prelude.{Err}
use Rattle.readers.specs.Reads.{ordering_rule}
use Rattle.several_lent.proofs.Sums.{lent_right}
use Rattle.several_books.proofs.Desks.{desk_handed_on, days_read, refusal_read}
use Rattle.several.proofs.Days.{days_ready}
use Rattle.several.proofs.Outcomes.{answers, call_amiss, call_refused, call_days}
use Rattle.several.proofs.several.Goals as goal

pub returns-then-lent_amiss : goal.returns-then-lent_amiss
returns-then-lent_amiss c =
    let lent-amiss = c.lent_amiss in
    let if1 = c.if-lent_amiss in
    let a = c.args in
    answers a.res.now (ap Err c.refused.ensures) ∙ sym (call_amiss a.opening a.books.now a.lengths.now a.closings.now a.limit a.res.now
    (sym lent-amiss.ensures ∙ if1.true))

pub read_desks-requires : goal.read_desks-requires
read_desks-requires c =
    let lent-amiss = c.lent_amiss in
    let if1 = c.if-lent_amiss in
    let r = (lent_right _ _ _ _ _).0 (sym lent-amiss.ensures ∙ if1.false) in
    (r.few_desks, r.adds_up, record { frees = refl; counts = refl; lists = refl; column_places = refl; front_places = refl })

pub days_answer-requires : goal.days_answer-requires
days_answer-requires c =
    let lent-amiss = c.lent_amiss in
    let if1 = c.if-lent_amiss in
    let read-desks = c.read_desks in
    let a = c.args in
    let r = (lent_right _ _ _ _ _).0 (sym lent-amiss.ensures ∙ if1.false) in
    let d = days_read _ _ _ _ _ _ _ _ read-desks.ensures _ c.in_ok-total.was in
    let h = days_ready (ordering_rule a.opening) a.books.now a.lengths.now a.closings.now _ _ _ _ _ _
    read-desks.ensures _ d r.even in
    (omega (arith, r.even, r.some_desk), omega (arith, r.even, r.few_desks), (a.opening, d.all_days, h))

pub returns-in_err-total : goal.returns-in_err-total
returns-in_err-total c =
    let read-desks = c.read_desks in
    let lent-amiss = c.lent_amiss in
    let if1 = c.if-lent_amiss in
    let a = c.args in
    let turned = c.in_err-total.field-0.0 in
    let e = refusal_read _ _ _ _ _ _ _ _ read-desks.ensures turned c.in_err-total.was in
    answers c.args.res.now (desk_handed_on c.from_residual.result c.from_residual.ensures.1) ∙
    sym (call_refused a.opening a.books.now a.lengths.now a.closings.now a.limit a.res.now
    (sym lent-amiss.ensures ∙ if1.false) _ _ _ e)

pub returns : goal.returns
returns c =
    let lent-amiss = c.lent_amiss in
    let if1 = c.if-lent_amiss in
    let read-desks = c.read_desks
    in
    let days-answer = c.days_answer in
    let a = c.args in
    let r = (lent_right _ _ _ _ _).0 (sym lent-amiss.ensures ∙ if1.false) in
    let d = days_read _ _ _ _ _ _ _ _ read-desks.ensures _ c.in_ok-total.was in
    let h = days_ready (ordering_rule a.opening) a.books.now a.lengths.now a.closings.now _ _ _ _ _ _
    read-desks.ensures _ d r.even in
    days-answer.ensures a.opening d.all_days h ∙
    sym (call_days a.opening a.books.now a.lengths.now a.closings.now a.limit a.res.now
    (sym lent-amiss.ensures ∙ if1.false) d.all_days d.read)
