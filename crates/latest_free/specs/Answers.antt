-- The answer in the terms of the table of refusals. A field that a case does not speak of is 0.
-- Rests on: the call's answer, the calls' Answers.
use Rattle.std.specs.Prelude.{ℕ, Ok, Err}
use Rattle.schedule.specs.Desk.{Pair}
use Rattle.calls.specs.Answers.{Said, said_no}
use Rattle.latest_free.specs.Calls.{LatestAnswer}

-- The latest free minute, and the pair of the order from it.
abbrev pub said_from : ℕ → Pair → Said
said_from t p = record { number = 0; place = 0; count = 0; end = p.end; late = p.late; minute = t }

abbrev pub said_latest : LatestAnswer → Said
said_latest (Ok latest) = said_from latest.minute (record { end = latest.end; late = latest.late })
said_latest (Err refusal) = said_no refusal.number refusal.place
