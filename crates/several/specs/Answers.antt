-- The answer for several desks in the terms of the table of refusals: what the other calls say, and with it the desk that a refusal
-- concerns, from 1, 0 where it concerns none, and the sum of the overtimes. A field that a case does not speak of is 0.
-- Rests on: the answer of Calls, the calls' Answers.
use Rattle.std.specs.Prelude.{ℕ, ℤ, Ok, Err}
use Rattle.calls.specs.Answers.{Said, said_no}
use Rattle.several.specs.Calls.{SeveralAnswer}

pub record SaidOfDesks : Type 0 where
  pub said : Said
  pub desk : ℕ
  pub overtime : ℕ

-- The least lateness and the overtimes; a refusal at a desk.
abbrev pub said_chosen : ℤ → ℕ → SaidOfDesks
said_chosen y o = record { said = record { number = 0; place = 0; count = 0; end = 0; late = y; minute = 0 }; desk = 0; overtime = o }

abbrev pub said_no_at : (number place desk : ℕ) → SaidOfDesks
said_no_at n p d = record { said = said_no n p; desk = d; overtime = 0 }

abbrev pub said_several : SeveralAnswer → SaidOfDesks
said_several (Ok chosen) = said_chosen chosen.late chosen.overtime
said_several (Err turned) = said_no_at turned.refusal.number turned.refusal.place turned.desk
