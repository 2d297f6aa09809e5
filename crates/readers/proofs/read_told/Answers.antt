-- `read_told` meets its contract: the table of tests 1 to 7, its rows in columns, the rule of the profile over these, and the times that
-- the rows take at the desk. Assumes nothing.
use Prim.Native.Nat.{ℕ}
use native.Mathlib.Omega.{arith}
use mathlib.Core.Path.{subst, sym, ◌∙◌}
use Rattle.schedule.specs.Limits.{latest_minute, longest_length, longest_time, latest_due}
use Rattle.book.specs.Tables.{table_rows}
use Rattle.book.proofs.Readings.{read_fits}
use Rattle.readers.specs.Times.{Timed}
use Rattle.refusals.proofs.Tests.{handed_on}
use Rattle.readers.specs.Reads.{read_by, Gives}
use Rattle.readers.proofs.Readings.{gives_words_refused, gives_rows_refused, gives}
use Rattle.readers.proofs.Timing.{seen_in}
use Rattle.readers.proofs.read_told.Goals as goal

pub returns-in_err-table : goal.returns-in_err-table
returns-in_err-table c =
    let a = c.args in
    subst (Gives a.terms.opening (read_by a.terms a.book.now)) (sym (handed_on c.from_residual.result c.from_residual.ensures.1))
    (gives_words_refused a.terms a.book.now (omega arith) c.in_err-table.field-0.0 (sym c.in_err-table.was ∙ c.read_words.ensures))

pub columns_in-columns-requires : goal.columns_in-columns-requires
columns_in-columns-requires c = (read_fits c.args.book.now c.in_ok-table.table (sym c.in_ok-table.was ∙ c.read_words.ensures)).few

pub rule_tests-requires : goal.rule_tests-requires
rule_tests-requires c =
    let f = (read_fits c.args.book.now c.in_ok-table.table (sym c.in_ok-table.was ∙ c.read_words.ensures)) in
    let k = c.columns_in-columns.ensures.columns in
    let within = k.within latest_minute longest_time latest_due (λ i l m. let g = f.limited i l m in (g.0, omega (arith, g.1), g.2)) in
    (f.few, k.releases, k.lengths, k.dues, within)

pub add_opening-requires : goal.add_opening-requires
add_opening-requires c =
    let f = (read_fits c.args.book.now c.in_ok-table.table (sym c.in_ok-table.was ∙ c.read_words.ensures)) in
    let k = c.columns_in-columns.ensures.columns in
    (omega arith, f.few, k.lengths, λ i. (k.within latest_minute longest_length latest_due f.limited i).1)

pub returns-in_err-rule_tests : goal.returns-in_err-rule_tests
returns-in_err-rule_tests c =
    let a = c.args in
    let t = c.in_ok-table.table in
    let read = sym c.in_ok-table.was ∙ c.read_words.ensures in
    let f = read_fits a.book.now t read in
    let tested = c.rule_tests.ensures (table_rows t) f.size (λ i l m. c.columns_in-columns.ensures.columns.jobs i l (omega (arith, f.size))) in
    let r = c.from_residual-in_err-rule_tests in
    subst (Gives a.terms.opening (read_by a.terms a.book.now)) (sym (handed_on r.result r.ensures.1))
    (gives_rows_refused a.terms a.book.now (omega arith) t read c.in_err-rule_tests.field-0.0 (sym tested ∙ c.in_err-rule_tests.was))

pub returns : goal.returns
returns c =
    let a = c.args in
    let t = c.in_ok-table.table in
    let read = sym c.in_ok-table.was ∙ c.read_words.ensures in
    let f = read_fits a.book.now t read in
    let k = c.columns_in-columns in
    let tested = c.rule_tests.ensures (table_rows t) f.size (λ i l m. k.ensures.columns.jobs i l (omega (arith, f.size))) in
    let times = c.add_opening.new.minutes in
    let timed = subst (λ (n : ℕ). Timed a.terms.opening n k.result.length times) (sym f.size) c.add_opening.ensures in
    let seen = seen_in a.terms.opening (table_rows t) k.result k.ensures.columns times timed in
    gives a.terms a.book.now (omega arith) t read _ seen k.ensures.pages (sym tested ∙ c.in_ok-rule_tests.was)
