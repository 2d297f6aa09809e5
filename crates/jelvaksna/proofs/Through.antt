-- From an answer through its fields, and a call's outcome, to what crosses the boundary.
-- Assumes nothing.
use mathlib.Core.Path.{◌≡◌, ap, ◌∙◌}
use Rattle.outcomes.specs.Planning.{Outcome}
use Rattle.calls.specs.Answers.{Said}
use Rattle.answers.specs.declared.Answer.{Answer}
use Rattle.answers.specs.Boundary.{answer_of}

-- `o` is what the called function gives, `q` what its call is defined to give; `fields` are those of what it says.
pub through_fields : {A : Type 0} (fields : A → Answer) (answer : Answer) (o q : Outcome A) → answer ≡ fields o.answer → o ≡ q →
    (answer ≡ fields q.answer) × (o.buffer ≡ q.buffer)
through_fields {A} fields answer o q a e = (a ∙ ap (λ (x : Outcome A). fields x.answer) e, ap (λ (x : Outcome A). x.buffer) e)

pub through : {A : Type 0} (said : A → Said) (answer : Answer) (o q : Outcome A) → answer ≡ answer_of (said o.answer) → o ≡ q →
    (answer ≡ answer_of (said q.answer)) × (o.buffer ≡ q.buffer)
through said = through_fields (λ x. answer_of (said x))
