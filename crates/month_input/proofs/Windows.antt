-- A window that shows as many words as the longest day has shows the day whole, and what is left after it is read on. Assumes nothing.
use Prim.Native.Nat.{ℕ, zero, suc, ◌+◌, ◌-◌, ◌*◌, ◌%◌, ◌≤◌, ◌<◌}
use native.Mathlib.Omega.{arith}
use native.Mathlib.Decide.{ℕ_discrete}
use mathlib.Core.Bool.{Bool, true, false, cond}
use mathlib.Core.Path.{◌≡◌, refl, sym, ap, ◌∙◌}
use mathlib.Core.List.{List, [], ◌∷◌, ◌++◌, append_assoc}
use mathlib.Core.Option.{Option, none, some}
use lib.Dec.{T, eqb, eqb→eq}
use lib.ListN.{length, take, drop, length-append, length-drop, take-append-drop}
use lib.Seq.{take-append-add}
use Rattle.input.specs.Input.{words_in}
use Rattle.month_input.specs.Layout.{PostedDay, most_words, size_of, Cut, whole, broken, cut_day, day_before, days_in, input_days}
use Rattle.month_input.specs.WrittenMonth.{day_words}
use Rattle.month_input.proofs.Bytes.{first_of, words_within, enough, words_after}
use Rattle.month_input.proofs.WrittenMonth.{day_length, day_written, no_day_lem, day_front, next_day_lem, no_next_day, even}

-- The day at the start of some words, and of the first of them.
module _ (ws : List ℕ) where
  into_window : (d : PostedDay) → cut_day ws ≡ whole d → cut_day (take most_words ws) ≡ whole d
  into_window d e =
      let f = day_front ws d e in
      let n : most_words ≡ length (day_words d) + (most_words - size_of d) = omega (arith, day_length d, f.sized.0, f.sized.1) in
      ap cut_day ((λ x. take (n x) (f.written x)) ∙ take-append-add (day_words d) f.rest (most_words - size_of d)) ∙
      day_written d (take (most_words - size_of d) f.rest) f.sized

  out_of_window : (d : PostedDay) → cut_day (take most_words ws) ≡ whole d → cut_day ws ≡ whole d
  out_of_window d e =
      let f = day_front (take most_words ws) d e in
      ap cut_day (sym (take-append-drop most_words ws) ∙ (ap (λ (v : List ℕ). v ++ drop most_words ws) f.written ∙
      append_assoc (day_words d) f.rest (drop most_words ws))) ∙
      day_written d (f.rest ++ drop most_words ws) f.sized

  window_cut : cut_day (take most_words ws) ≡ cut_day ws
  window_cut = step (cut_day ws) refl (cut_day (take most_words ws)) refl
    where
      step : (c : Cut) → cut_day ws ≡ c → (k : Cut) → cut_day (take most_words ws) ≡ k → cut_day (take most_words ws) ≡ cut_day ws
      step (whole d) e k f = into_window d e ∙ sym e
      step broken e broken f = f ∙ sym e
      step broken e (whole d) f = no_day_lem (sym e ∙ out_of_window d f)

-- What is read on of what is left.
abbrev pub read_on : (most : ℕ) (rest : List ℕ) → Cut → Option (List PostedDay)
read_on most rest broken = none
read_on most rest (whole d) = day_before d (input_days most (drop (4 * size_of d) rest))

odd_none : (most : ℕ) (rest : List ℕ) → ¬ (length rest % 4 ≡ 0) → input_days most rest ≡ none
unfolding input_days
odd_none most rest h = step (eqb (length rest % 4) 0) (λ t. h (eqb→eq (length rest % 4) 0 t))
  where
    step : (b : Bool) → (T b → ⊥) → cond b (days_in most (words_in (length rest) rest)) none ≡ none
    step true f = absurd (f tt)
    step false f = refl

module _ (rest : List ℕ) (some_byte : 0 < length rest) where
  abbrev words : List ℕ
  words = words_in (length rest) rest

  some_word : length rest % 4 ≡ 0 → (ws : List ℕ) → words ≡ ws → ¬ (ws ≡ [])
  unfolding words_in
  some_word e ws f g = absurd (omega (arith, many rest some_byte e, ap length (f ∙ g)))
    where
      many : (bytes : List ℕ) → 0 < length bytes → length bytes % 4 ≡ 0 → 0 < length (words_in (length bytes) bytes)
      many [] h e = absurd (omega arith)
      many (a ∷ []) h e = absurd (omega arith)
      many (a ∷ b ∷ []) h e = absurd (omega arith)
      many (a ∷ b ∷ c ∷ []) h e = absurd (omega arith)
      many (a ∷ b ∷ c ∷ d ∷ bytes) h e = omega arith

  fits : (d : PostedDay) → cut_day words ≡ whole d → 4 * size_of d ≤ length rest
  fits d e =
      let f = day_front words d e in
      omega (arith, words_within (length rest) rest, ap length f.written, length-append (day_words d) f.rest, day_length d)

  -- With no day left to take, more bytes are too many.
  pub none_left : input_days 0 rest ≡ none
  unfolding days_in
  none_left = step (ℕ_discrete (length rest % 4) 0)
    where
      none_of : (ws : List ℕ) → words ≡ ws → length rest % 4 ≡ 0 → days_in 0 ws ≡ none
      none_of [] f e = absurd (some_word e [] f refl)
      none_of (w ∷ ws) f e = refl

      step : Dec (length rest % 4 ≡ 0) → input_days 0 rest ≡ none
      step (no h) = odd_none 0 rest h
      step (yes e) = even 0 rest e ∙ none_of words refl e

  -- The next day is the one that a window on the rest shows.
  pub day_left : (most : ℕ) → input_days (suc most) rest ≡ read_on most rest (cut_day (words_in most_words rest))
  day_left most =
      step (ℕ_discrete (length rest % 4) 0) ∙
      ap (read_on most rest) (sym (ap cut_day (first_of most_words (length rest) rest (omega arith)) ∙ window_cut words))
    where
      odd_on : ¬ (length rest % 4 ≡ 0) → (c : Cut) → cut_day words ≡ c → none ≡ read_on most rest c
      odd_on h broken e = refl
      odd_on h (whole d) e =
          ap (day_before d) (sym (odd_none most (drop (4 * size_of d) rest)
          (λ f. h (omega (arith, f, fits d e, length-drop (4 * size_of d) rest)))))

      even_on : length rest % 4 ≡ 0 → (ws : List ℕ) → words ≡ ws → (c : Cut) → cut_day words ≡ c → days_in (suc most) ws ≡ read_on most rest c
      even_on e [] f c g = absurd (some_word e [] f refl)
      even_on e (w ∷ ws) f broken g = no_next_day most w ws (ap cut_day (sym f) ∙ g)
      even_on e (w ∷ ws) f (whole d) g =
          let after = drop (4 * size_of d) rest in
          let n = length-drop (4 * size_of d) rest in
          next_day_lem most w ws d (ap cut_day (sym f) ∙ g) ∙
          ap (day_before d) (ap (days_in most) (ap (drop (size_of d)) (sym f) ∙
          (sym (words_after (size_of d) (length rest) (length rest) rest (fits d g) (omega arith) (omega arith)) ∙
          enough (length after) (length rest) after (omega arith) (omega (arith, n)))) ∙
          sym (even most after (omega (arith, e, fits d g, n))))

      step : Dec (length rest % 4 ≡ 0) → input_days (suc most) rest ≡ read_on most rest (cut_day words)
      step (no h) = odd_none (suc most) rest h ∙ odd_on h (cut_day words) refl
      step (yes e) = even (suc most) rest e ∙ even_on e words refl (cut_day words) refl

pub all_left : (most : ℕ) (rest : List ℕ) → length rest ≡ 0 → input_days most rest ≡ some []
unfolding input_days days_in words_in
all_left zero [] h = refl
all_left (suc most) [] h = refl
all_left most (b ∷ bs) h = absurd (omega arith)
