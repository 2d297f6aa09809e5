-- What crosses the boundary: the fields of the declared struct, from what an answer says in the terms of the table of refusals. Only the
-- answer for several desks speaks of a desk and of overtime.
-- Rests on: the calls' answers, that of several desks.
use Rattle.calls.specs.Answers.{Said}
use Rattle.several.specs.Answers.{SaidOfDesks}
use Rattle.answers.specs.declared.Answer.{Answer}

abbrev pub answer_of_desks : SaidOfDesks → Answer
answer_of_desks s = record {
  place = s.said.place;
  count = s.said.count;
  refusal = s.said.number;
  end = s.said.end;
  late = s.said.late;
  minute = s.said.minute;
  desk = s.desk;
  overtime = s.overtime;
}

abbrev pub answer_of : Said → Answer
answer_of s = answer_of_desks (record { said = s; desk = 0; overtime = 0 })
