-- `start` meets its contract: no desk, then the tests, then the move.
-- Assumes nothing.
use native.Mathlib.Omega.{arith}
use Prim.Native.Nat.{ℕ, ◌<◌}
use mathlib.Core.Bool.{Bool, true}
use mathlib.Core.List.{List}
use mathlib.Core.Path.{◌≡◌, sym, ap, ◌∙◌}
use Rattle.std.specs.Prelude.{Ok}
use Rattle.schedule.specs.declared.Desk.{Desk}
use Rattle.schedule.specs.Offset.{lowered}
use Rattle.schedule.proofs.SignedWords.{lowered_word}
use Rattle.refusals.specs.Tests.{Tested}
use Rattle.refusals.proofs.Tests.{handed_on}
use Rattle.outcomes.specs.Planning.{gives}
use Rattle.running.specs.Running.{start_tests}
use Rattle.running.specs.Words.{is_desk, moved_words, running}
use Rattle.running.proofs.Fits.{desk_says}
use Rattle.running.proofs.Moves.{StartFits, start_fits}
use Rattle.desk_start.specs.Starts.{StartAnswer}
use Rattle.desk_start.proofs.StartLaws.{start_none, start_no, taken, start_moved}
use Rattle.desk_start.proofs.start.Goals as goal

-- A start that passed its tests fits.
fits : {b : Bool} {t : Tested} (ws : List ℕ) (row minute : ℕ) → b ≡ is_desk ws → b ≡ true → t ≡ start_tests (running ws) row minute →
    t ≡ Ok tt → StartFits ws row minute
fits ws row minute e h t p = start_fits _ ((desk_says _).0 (sym e ∙ h)) _ _ (sym t ∙ p)

pub returns-then-not-is_desk : goal.returns-then-not-is_desk
returns-then-not-is_desk c = sym (start_none _ _ _ (sym c.is_desk.ensures ∙ c.if-not-is_desk.true))

pub start_tests-requires : goal.start_tests-requires
start_tests-requires c = (sym c.is_desk.ensures ∙ c.if-not-is_desk.false)

pub returns-in_err-start_tests : goal.returns-in_err-start_tests
returns-in_err-start_tests c =
    let s = c.args in
    ap (λ (r : StartAnswer). gives r s.desk.now) (handed_on c.from_residual.result c.from_residual.ensures.1) ∙
    sym (start_no s.desk.now s.row s.minute (sym c.is_desk.ensures ∙ c.if-not-is_desk.false) c.in_err-start_tests.field-0.0
    (sym c.start_tests.ensures ∙ c.in_err-start_tests.was))

pub bounds-desk-2 : goal.bounds-desk-2
bounds-desk-2 c = omega (arith, (fits _ _ _ c.is_desk.ensures c.if-not-is_desk.false c.start_tests.ensures c.in_ok-start_tests.was))

pub bounds-desk-i : goal.bounds-desk-i
bounds-desk-i c = omega (arith, (fits _ _ _ c.is_desk.ensures c.if-not-is_desk.false c.start_tests.ensures c.in_ok-start_tests.was))

pub bounds-desk-i-2 : goal.bounds-desk-i-2
bounds-desk-i-2 c = omega (arith, (fits _ _ _ c.is_desk.ensures c.if-not-is_desk.false c.start_tests.ensures c.in_ok-start_tests.was))

pub bounds-desk-i-3 : goal.bounds-desk-i-3
bounds-desk-i-3 c = omega (arith, (fits _ _ _ c.is_desk.ensures c.if-not-is_desk.false c.start_tests.ensures c.in_ok-start_tests.was))

pub take-done-requires : goal.take-done-requires
take-done-requires c =
    let f = (fits _ _ _ c.is_desk.ensures c.if-not-is_desk.false c.start_tests.ensures c.in_ok-start_tests.was) in
    (omega (arith, f), omega (arith, f), omega (arith, f), omega (arith, f))

pub store-requires : goal.store-requires
store-requires c = let f = (fits _ _ _ c.is_desk.ensures c.if-not-is_desk.false c.start_tests.ensures c.in_ok-start_tests.was) in (f.1, f.0)

pub returns : goal.returns
returns c =
    let t = c.take-done in
    let s = c.args in
    let after = t.ensures ∙ taken s.desk.now s.row s.minute (sym c.is_desk.ensures ∙ c.if-not-is_desk.false) (fits _ _ _ c.is_desk.ensures c.if-not-is_desk.false c.start_tests.ensures c.in_ok-start_tests.was) in
    let word = c.type_inv.desk 2 in
    let w : t.result.worst < 4294967296 = omega (arith, ap (λ (d : Desk). d.worst) after, (fits _ _ _ c.is_desk.ensures c.if-not-is_desk.false c.start_tests.ensures c.in_ok-start_tests.was), word) in
    let z = lowered_word t.result.worst c.lower.result w c.lower.ensures ∙ ap (λ (d : Desk). lowered d.worst) after in
    let v = c.store.ensures ∙
    ap (λ (d : Desk). moved_words s.desk.now s.row d.minute d.worst) after in
    (λ x. gives (Ok (record { minute = (after x).minute; late = z x })) (v x)) ∙
    start_moved s.desk.now s.row s.minute (sym c.is_desk.ensures ∙ c.if-not-is_desk.false) (sym c.start_tests.ensures ∙ c.in_ok-start_tests.was)
