-- Answers in the terms of the table of refusals: what each case of an answer says. A field that a case does not speak of is 0.
-- Rests on: the answers of outcomes and row_calls.
use Rattle.std.specs.Prelude.{ℕ, ℤ, pos, Ok, Err}
use Rattle.row_calls.specs.Places.{RowPlace}
use Rattle.outcomes.specs.Outcomes.{ListAnswer, OrderAnswer, VerdictAnswer}
use Rattle.outcomes.specs.declared.Verdict.TheVariants as verdict

-- The refusal's number, 0 for none, and place; the count of plans, the plan that beats, or the rows of an opened desk; end and worst
-- lateness, or that of an open desk so far; an open desk's minute.
pub record Said : Type 0 where
  pub number : ℕ
  pub place : ℕ
  pub count : ℕ
  pub end : ℕ
  pub late : ℤ
  pub minute : ℕ

abbrev pub said_no : ℕ → ℕ → Said
said_no n p = record { number = n; place = p; count = 0; end = 0; late = pos 0; minute = 0 }

abbrev pub said_list : ListAnswer → Said
said_list (Ok k) = record { number = 0; place = 0; count = k; end = 0; late = pos 0; minute = 0 }
said_list (Err refusal) = said_no refusal.number refusal.place

abbrev pub said_order : OrderAnswer → Said
said_order (Ok pair) = record { number = 0; place = 0; count = 0; end = pair.end; late = pair.late; minute = 0 }
said_order (Err refusal) = said_no refusal.number refusal.place

abbrev pub said_verdict : VerdictAnswer → Said
said_verdict (Ok (verdict.Unbeaten e y)) = record { number = 0; place = 0; count = 0; end = e; late = y; minute = 0 }
said_verdict (Ok (verdict.Beaten e y k)) = record { number = 0; place = 0; count = k; end = e; late = y; minute = 0 }
said_verdict (Err refusal) = said_no refusal.number refusal.place

-- The place of a row's number word, where it is found.
abbrev pub said_place : RowPlace → Said
said_place (Ok a) = record { number = 0; place = a; count = 0; end = 0; late = pos 0; minute = 0 }
said_place (Err refusal) = said_no refusal.number refusal.place
