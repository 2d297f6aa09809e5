-- What comes next of a month, from a window on the bytes that are left.
-- Rests on: the layout, what a day comes to.
use Rattle.std.specs.Prelude.{ℕ, cond, List, [], ◌∷◌, ltb}
use Rattle.day_result.specs.declared.DayResult.{DayResult}
use Rattle.day_result.specs.DayResults.{day_result}
use Rattle.input.specs.Input.{words_in}
use Rattle.month_input.specs.Layout.{PostedDay, Cut, whole, broken, most_days, most_words, cut_day}

-- What a day comes to.
abbrev pub result_for : PostedDay → DayResult
result_for d = day_result d.book d.posting

-- A day; the end of the input; or something that is no day of the layout.
pub data Next : Type 0 where
  day : PostedDay → Next
  ended : Next
  astray : Next

abbrev pub next_of : Cut → Next
next_of (whole d) = day d
next_of broken = astray

-- After so many days: the input ends, or 31 days are in, or the words of the window begin with a day or do not.
unfoldable pub next_day : (days : ℕ) (window : List ℕ) → Next
next_day n [] = ended
next_day n (b ∷ bs) = cond (ltb n most_days) (next_of (cut_day (words_in most_words (b ∷ bs)))) astray
