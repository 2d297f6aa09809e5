-- `jelvaksna_first_come_verdict` meets its contract: the call's, through the answer's fields.
-- Assumes nothing.
use mathlib.Core.Path.{ap, ◌∙◌}
use Rattle.outcomes.specs.Outcomes.{VerdictAnswer}
use Rattle.calls.specs.Answers.{said_verdict}
use Rattle.answers.specs.Boundary.{answer_of}
use Rattle.jelvaksna.proofs.jelvaksna_first_come_verdict.Goals as goal

pub returns : goal.returns
returns c = c.of_verdict.ensures ∙ ap (λ (a : VerdictAnswer). answer_of (said_verdict a)) c.verdict.ensures
