-- The words of a desk on the way: they hold the desk, and give it back.
-- Assumes nothing.
use Prim.Native.Nat.{ℕ, ◌≤◌}
use native.Mathlib.Omega.{arith}
use mathlib.Core.Bool.{Bool, true, false}
use mathlib.Core.Path.{◌≡◌, refl, ap, ◌∙◌}
use mathlib.Core.List.{List, [], ◌∷◌}
use lib.ListN.{length}
use Rattle.schedule.specs.Columns.{at}
use Rattle.picks.specs.declared.Standing.{Standing}
use Rattle.picks.specs.Bits.{bit}
use Rattle.trail.specs.Trails.{words_of, Fits}

-- A list of five numbers, number by number.
abbrev five_from : (w : List ℕ) → ℕ → ℕ → ℕ → ℕ → ℕ → List ℕ
five_from w a b c d e = at w a ∷ at w b ∷ at w c ∷ at w d ∷ at w e ∷ []

five : (l : List ℕ) → length l ≡ 5 → five_from l 0 1 2 3 4 ≡ l
five [] h = let z : ⊥ = omega arith in absurd z
five (a ∷ []) h = let z : ⊥ = omega arith in absurd z
five (a ∷ b ∷ []) h = let z : ⊥ = omega arith in absurd z
five (a ∷ b ∷ c ∷ []) h = let z : ⊥ = omega arith in absurd z
five (a ∷ b ∷ c ∷ d ∷ []) h = let z : ⊥ = omega arith in absurd z
five (a ∷ b ∷ c ∷ d ∷ e ∷ []) h = refl
five (a ∷ b ∷ c ∷ d ∷ e ∷ f ∷ l) h = let z : ⊥ = omega arith in absurd z

-- A test as a number.
byte_bit : (b : Bool) → mir.Val.bool_byte b ≡ bit b
byte_bit true = refl
byte_bit false = refl

pub words_hold : (s : Standing) (second : Bool) → length s.ready ≡ 5 →
    (s.desk.minute ∷ s.desk.worst ∷ s.count ∷ s.next ∷ mir.Val.bool_byte second ∷ five_from s.ready 0 1 2 3 4) ≡ words_of s second
words_hold s second h = λ x. s.desk.minute ∷ s.desk.worst ∷ s.count ∷ s.next ∷ byte_bit second x ∷ five s.ready h x

module _ (w : List ℕ) (s : Standing) (second : Bool) (fits : Fits s) (e : w ≡ words_of s second) where
  pub minute_fits : at w 0 ≤ 4294967295
  minute_fits = omega (arith, ap (λ (l : List ℕ). at l 0) e, fits.minute)

  pub worst_fits : at w 1 ≤ 4294967295
  worst_fits = omega (arith, ap (λ (l : List ℕ). at l 1) e, fits.worst)

  pub desk_back : record {
    desk = record { minute = at w 0; worst = at w 1 };
    count = at w 2;
    next = at w 3;
    ready = five_from w 5 6 7 8 9;
  } ≡ s
  desk_back =
      ap (λ (l : List ℕ). record {
        desk = record { minute = at l 0; worst = at l 1 };
        count = at l 2;
        next = at l 3;
        ready = five_from l 5 6 7 8 9;
      }) e ∙
      ap (λ (l : List ℕ). record { desk = s.desk; count = s.count; next = s.next; ready = l }) (five s.ready fits.ready)
