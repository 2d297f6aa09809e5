-- A month is read as it is written, and nothing else is read. Assumes nothing.
use Prim.Native.Nat.{ℕ, zero, suc, ◌*◌, ◌%◌, ◌≤◌, ◌<◌}
use native.Mathlib.Omega.{arith}
use mathlib.Core.Bool.{Bool, true, false, cond, ◌&&◌}
use mathlib.Core.Path.{◌≡◌, refl, sym, ap, ◌∙◌, subst}
use mathlib.Core.List.Memᴰ
use mathlib.Core.List.{List, [], ◌∷◌, ◌++◌, append_assoc, Memᴰ}
use mathlib.Core.Logic.{⊎_elim}
use mathlib.Core.Option.{Option, none, some}
use borrow.Author.Tests.{le-leb, leb-true}
use lib.Dec.{T, leb, eqb, eqb→eq}
use lib.ListN.{length, take, drop, length-append, take-append-drop}
use lib.Seq.{drop_at, take-append_seam, drop-append_seam, length-take-le}
use Rattle.input.specs.Input.{words_in}
use Rattle.month_input.specs.Layout.{PostedDay, most_days, most_book, most_posting, size_of, Cut, whole, broken, cut_posting, cut_day}
use Rattle.month_input.specs.Layout.{day_before, days_in, input_days, month_in}
use Rattle.month_input.specs.WrittenMonth.{bytes_of, day_words, month_words, Below, FitsLayout, InLayout, WrittenAndRead}
use Rattle.month_input.proofs.Bytes.{bytes_length, words_back, bytes_back, words_below}

-- Within the lengths of the layout.
abbrev Sized : PostedDay → Type 0
Sized d = (length d.book ≤ most_book) × (length d.posting ≤ most_posting)

pub day_length : (d : PostedDay) → length (day_words d) ≡ size_of d
day_length d = omega (arith, length-append d.book (length d.posting ∷ d.posting))

pub day_after : (d : PostedDay) (rest : List ℕ) → drop (size_of d) (day_words d ++ rest) ≡ rest
day_after d rest = drop_at (day_words d) rest (size_of d) (day_length d)

-- A day that is written is cut off.
posting_written : (book posting rest : List ℕ) → length posting ≤ most_posting →
    cut_posting book (length posting ∷ (posting ++ rest)) ≡ whole (record { book = book; posting = posting })
unfolding cut_posting
posting_written book posting rest h =
    rw (
      le-leb (length posting) most_posting h,
      le-leb (length posting) (length (posting ++ rest)) (omega (arith, length-append posting rest)),
      take-append_seam posting rest,
    )
    refl

whole_book : (book after : List ℕ) → length book ≤ most_book → cut_day (length book ∷ (book ++ after)) ≡ cut_posting book after
unfolding cut_day
whole_book book after h =
    rw (
      le-leb (length book) most_book h,
      le-leb (length book) (length (book ++ after)) (omega (arith, length-append book after)),
      take-append_seam book after,
      drop-append_seam book after,
    )
    refl

pub day_written : (d : PostedDay) (rest : List ℕ) → Sized d → cut_day (day_words d ++ rest) ≡ whole d
day_written d rest (h, k) = ap cut_day words ∙ (cut ∙ posting_written d.book d.posting rest k)
  where
    after : List ℕ
    after = length d.posting ∷ (d.posting ++ rest)

    words : day_words d ++ rest ≡ length d.book ∷ (d.book ++ after)
    words = ap (λ (ws : List ℕ). length d.book ∷ ws) (append_assoc d.book (length d.posting ∷ d.posting) rest)

    cut : cut_day (length d.book ∷ (d.book ++ after)) ≡ cut_posting d.book after
    cut = whole_book d.book after h

-- A day that is cut off was written, and some words after it.
pub record Front (ws : List ℕ) (d : PostedDay) : Type 0 where
  pub rest : List ℕ
  pub written : ws ≡ day_words d ++ rest
  pub sized : Sized d

both : (a b : Bool) → a && b ≡ true → (a ≡ true) × (b ≡ true)
both true true e = (refl, refl)
both true false e = (cc, cc)
both false b e = (cc, cc)

same_day : {c d : PostedDay} → whole c ≡ whole d → c ≡ d
same_day e = cc

pub no_day_lem : {A : Type 0} {d : PostedDay} → broken ≡ whole d → A
no_day_lem e = let z : ◌≡◌ {A = ℕ} 0 1 = cc in absurd (omega arith)

-- What the tests say of a count and a list.
module _ (n most : ℕ) (ws : List ℕ) (e : leb n most && leb n (length ws) ≡ true) where
  few : n ≤ most
  few = leb-true n most (both (leb n most) (leb n (length ws)) e).0

  there : n ≤ length ws
  there = leb-true n (length ws) (both (leb n most) (leb n (length ws)) e).1

posting_front : (book ws : List ℕ) (d : PostedDay) → cut_posting book ws ≡ whole d →
    (rest : List ℕ) × (ws ≡ length d.posting ∷ (d.posting ++ rest)) × (book ≡ d.book) × (length d.posting ≤ most_posting)
unfolding cut_posting
posting_front book [] d e = no_day_lem e
posting_front book (m ∷ ws) d e = step (leb m most_posting && leb m (length ws)) refl e
  where
    step : (b : Bool) → leb m most_posting && leb m (length ws) ≡ b →
        cond b (whole (record { book = book; posting = take m ws })) broken ≡ whole d →
        (rest : List ℕ) × (m ∷ ws ≡ length d.posting ∷ (d.posting ++ rest)) × (book ≡ d.book) × (length d.posting ≤ most_posting)
    step false t f = no_day_lem f
    step true t f =
        let s = same_day f in
        let l : m ≡ length d.posting =
        sym (length-take-le m ws (there m most_posting ws t)) ∙ ap (λ (c : PostedDay). length c.posting) s in
        let w : ws ≡ d.posting ++ drop m ws =
        sym (take-append-drop m ws) ∙ ap (λ (c : PostedDay). c.posting ++ drop m ws) s in
        (drop m ws, (λ x. l x ∷ w x), ap (λ (c : PostedDay). c.book) s, omega (arith, few m most_posting ws t))

pub day_front : (ws : List ℕ) (d : PostedDay) → cut_day ws ≡ whole d → Front ws d
unfolding cut_day
day_front [] d e = no_day_lem e
day_front (n ∷ ws) d e = step (leb n most_book && leb n (length ws)) refl e
  where
    step : (b : Bool) → leb n most_book && leb n (length ws) ≡ b →
        cond b (cut_posting (take n ws) (drop n ws)) broken ≡ whole d → Front (n ∷ ws) d
    step false t f = no_day_lem f
    step true t f =
        let p = posting_front (take n ws) (drop n ws) d f in
        let l : n ≡ length d.book = sym (length-take-le n ws (there n most_book ws t)) ∙ ap length p.2 in
        let w : ws ≡ d.book ++ (length d.posting ∷ (d.posting ++ p.0)) =
        sym (take-append-drop n ws) ∙ (λ x. p.2 x ++ p.1 x) in
        record {
          rest = p.0;
          written = (λ x. l x ∷ w x) ∙
              ap (λ (vs : List ℕ). length d.book ∷ vs) (sym (append_assoc d.book (length d.posting ∷ d.posting) p.0));
          sized = (omega (arith, few n most_book ws t), p.3);
        }

-- Days that are written are read.
sized_tail : {d : PostedDay} {ds : List PostedDay} → ((c : PostedDay) → Memᴰ c (d ∷ ds) → Sized c) →
    (c : PostedDay) → Memᴰ c ds → Sized c
sized_tail h c m = h c (Memᴰ.tail m)

pub next_day_lem : (n w : ℕ) (ws : List ℕ) (d : PostedDay) → cut_day (w ∷ ws) ≡ whole d →
    days_in (suc n) (w ∷ ws) ≡ day_before d (days_in n (drop (size_of d) (w ∷ ws)))
unfolding days_in
next_day_lem n w ws d e = rw (e, days_in)

pub no_next_day : (n w : ℕ) (ws : List ℕ) → cut_day (w ∷ ws) ≡ broken → days_in (suc n) (w ∷ ws) ≡ none
unfolding days_in
no_next_day n w ws e = rw (e, days_in)

days_written : (n : ℕ) (ds : List PostedDay) → length ds ≤ n → ((d : PostedDay) → Memᴰ d ds → Sized d) →
    days_in n (month_words ds) ≡ some ds
unfolding month_words days_in
days_written zero [] l h = refl
days_written (suc n) [] l h = refl
days_written zero (d ∷ ds) l h = absurd (omega arith)
days_written (suc n) (d ∷ ds) l h =
    next_day_lem n (length d.book) (d.book ++ (length d.posting ∷ d.posting) ++ month_words ds) d
    (day_written d (month_words ds) (h d (Memᴰ.head refl))) ∙
    ap (day_before d) (ap (days_in n) (day_after d (month_words ds)) ∙ days_written n ds (omega arith) (sized_tail h))

-- Days that are read were written.
pub record Whole (n : ℕ) (ws : List ℕ) (ds : List PostedDay) : Type 0 where
  pub written : ws ≡ month_words ds
  pub few : length ds ≤ n
  pub sized : (d : PostedDay) → Memᴰ d ds → Sized d

no_days : {A : Type 0} {ds : List PostedDay} → none ≡ some ds → A
no_days e = let z : ◌≡◌ {A = ℕ} 0 1 = cc in absurd (omega arith)

some_same : {ds es : List PostedDay} → some ds ≡ some es → ds ≡ es
some_same e = cc

none_whole : (n : ℕ) (ds : List PostedDay) → some [] ≡ some ds → Whole n [] ds
unfolding month_words
none_whole n [] e = record { written = refl; few = omega arith; sized = λ d m. absurd (Memᴰ.not-nil m) }
none_whole n (d ∷ ds) e = let z : ◌≡◌ {A = ℕ} 0 1 = cc in absurd (omega arith)

more_whole : {n : ℕ} {ws : List ℕ} {d : PostedDay} {cs : List PostedDay} → Front ws d → Whole n (drop (size_of d) ws) cs →
    Whole (suc n) ws (d ∷ cs)
unfolding month_words
more_whole {d = d} {cs = cs} f w = record {
  written = f.written ∙
      ap (λ (r : List ℕ). day_words d ++ r) (sym (ap (drop (size_of d)) f.written ∙ day_after d f.rest) ∙ w.written);
  few = omega (arith, w.few);
  sized = λ c m. ⊎_elim (λ e. subst Sized (sym e) f.sized) (λ i. w.sized c i) (Memᴰ.cases_cons m);
}

days_whole : (n : ℕ) (ws : List ℕ) (ds : List PostedDay) → days_in n ws ≡ some ds → Whole n ws ds
unfolding days_in
days_whole zero [] ds e = none_whole zero ds e
days_whole (suc n) [] ds e = none_whole (suc n) ds e
days_whole zero (w ∷ ws) ds e = no_days e
days_whole (suc n) (w ∷ ws) ds e = cut (cut_day (w ∷ ws)) refl (λ d cs. days_whole n (drop (size_of d) (w ∷ ws)) cs)
  where
    cut : (c : Cut) → cut_day (w ∷ ws) ≡ c →
        ((d : PostedDay) (cs : List PostedDay) → days_in n (drop (size_of d) (w ∷ ws)) ≡ some cs → Whole n (drop (size_of d) (w ∷ ws)) cs) →
        Whole (suc n) (w ∷ ws) ds
    cut broken f go = no_days (sym (no_next_day n w ws f) ∙ e)
    cut (whole d) f go = more (days_in n (drop (size_of d) (w ∷ ws))) refl
      where
        more : (o : Option (List PostedDay)) → days_in n (drop (size_of d) (w ∷ ws)) ≡ o → Whole (suc n) (w ∷ ws) ds
        more none g = no_days (sym (next_day_lem n w ws d f ∙ ap (day_before d) g) ∙ e)
        more (some cs) g =
            let same : d ∷ cs ≡ ds = some_same (sym (next_day_lem n w ws d f ∙ ap (day_before d) g) ∙ e) in
            subst (Whole (suc n) (w ∷ ws)) same (more_whole (day_front (w ∷ ws) d f) (go d cs g))

-- The words of days that fit are 32-bit words, and the days of 32-bit words fit.
month_below : (ds : List PostedDay) → ((d : PostedDay) → Memᴰ d ds → FitsLayout d) → Below 4294967296 (month_words ds)
unfolding month_words
month_below [] h n m = absurd (Memᴰ.not-nil m)
month_below (d ∷ ds) h n m =
    ⊎_elim (day n) (month_below ds (λ c i. h c (Memᴰ.tail i)) n) (Memᴰ.append_cases (day_words d) m)
  where
    f : FitsLayout d
    f = h d (Memᴰ.head refl)

    day : (n : ℕ) → Memᴰ n (day_words d) → n < 4294967296
    day n m = ⊎_elim (λ e. omega (arith, f.book, e)) (λ i.
        ⊎_elim (f.book_words n) (λ j.
        ⊎_elim (λ e. omega (arith, f.posting, e)) (f.posting_words n) (Memᴰ.cases_cons j))
        (Memᴰ.append_cases d.book i)) (Memᴰ.cases_cons m)

in_month : (ds : List PostedDay) (d : PostedDay) → Memᴰ d ds → (n : ℕ) → Memᴰ n (day_words d) → Memᴰ n (month_words ds)
unfolding month_words
in_month [] d x'' n m = elim x'' [ ]
in_month (c ∷ ds) d (Memᴰ.head e) n m =
    Memᴰ.append_left (month_words ds) (subst (λ (x : PostedDay). Memᴰ n (day_words x)) e m)
in_month (c ∷ ds) d (Memᴰ.tail i) n m = Memᴰ.append_right (day_words c) (in_month ds d i n m)

days_fit : (ds : List PostedDay) → Below 4294967296 (month_words ds) → ((d : PostedDay) → Memᴰ d ds → Sized d) →
    (d : PostedDay) → Memᴰ d ds → FitsLayout d
days_fit ds b s d m = record {
  book = (s d m).0;
  posting = (s d m).1;
  book_words = λ n i. b n (in_month ds d m n (Memᴰ.tail (Memᴰ.append_left (length d.posting ∷ d.posting) i)));
  posting_words = λ n i. b n (in_month ds d m n (Memᴰ.tail (Memᴰ.append_right d.book (Memᴰ.tail i))));
}

-- The test of odd bytes.
pub even : (most : ℕ) (input : List ℕ) → length input % 4 ≡ 0 → input_days most input ≡ days_in most (words_in (length input) input)
unfolding input_days
even most input e = rw (ap (λ (n : ℕ). eqb n 0) e) refl

not_odd : (most : ℕ) (input : List ℕ) (ds : List PostedDay) → input_days most input ≡ some ds → length input % 4 ≡ 0
unfolding input_days
not_odd most input ds e = step (eqb (length input % 4) 0) (λ t. eqb→eq (length input % 4) 0 t) e
  where
    step : (b : Bool) → (T b → length input % 4 ≡ 0) → cond b (days_in most (words_in (length input) input)) none ≡ some ds →
        length input % 4 ≡ 0
    step true f g = f tt
    step false f g = no_days g

pub written_and_read : WrittenAndRead
written_and_read input days bytes = (there, back)
  where
    there : month_in input ≡ some days → InLayout input days
    there e =
        let o = not_odd most_days input days e in
        let w = days_whole most_days (words_in (length input) input) days (sym (even most_days input o) ∙ e) in
        let b = subst (Below 4294967296) w.written (words_below (length input) input bytes) in
        record {
          few = w.few;
          fit = days_fit days b w.sized;
          written = sym (bytes_back (length input) input bytes o (omega arith)) ∙ ap bytes_of w.written;
        }

    back : InLayout input days → month_in input ≡ some days
    back l =
        let ws = month_words days in
        let size : length input ≡ 4 * length ws = ap length l.written ∙ bytes_length ws in
        even most_days input (omega (arith, size)) ∙
        (ap (days_in most_days) (ap (words_in (length input)) l.written ∙
        words_back (length input) ws (month_below days l.fit) (omega (arith, size))) ∙
        days_written most_days days l.few (λ d m. ((l.fit d m).book, (l.fit d m).posting)))
