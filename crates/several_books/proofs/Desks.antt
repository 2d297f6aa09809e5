-- Books that are read desk by desk: what is known before each, and at the end. Assumes nothing.
use Prim.Native.Nat.{ℕ, suc, ◌+◌, ◌-◌, ◌*◌, ◌≤◌, ◌<◌}
use native.Mathlib.Omega.{arith}
use native.Mathlib.Decide.{ℕ_discrete}
use native.Mathlib.Numerals.{add-one}
use mathlib.Core.Path.{◌≡◌, refl, sym, ap, ◌∙◌, subst}
use mathlib.Core.List.{List, [], ◌∷◌, ◌++◌, append-nil}
use lib.ListN.{length, take, drop, get_or, length-append, get_or-append}
use lib.Seq.{drop-cons, drop-length, drop-drop, get_or-append_seam}
use Rattle.std.specs.Prelude.{Result, Ok, Err}
use Rattle.std.specs.Result.{IsErrAnd}
use Rattle.std.proofs.lemmas.Result.{err_from_is_err_and}
use Rattle.schedule.specs.Limits.{most_rows}
use Rattle.schedule.specs.Rows.{Day}
use Rattle.schedule.specs.Columns.{at}
use Rattle.refusals.specs.declared.Refusal.{Refusal}
use Rattle.refusals.specs.Tests.{Tested, refusal_at}
use Rattle.refusals.proofs.Tests.{never}
use Rattle.book.specs.Rows.{Contents, refused, accepted}
use Rattle.readers.specs.declared.Terms.{Terms}
use Rattle.readers.specs.Reads.{read_by, outcome_of}
use Rattle.several_books.specs.declared.DeskRefusal.{DeskRefusal}
use Rattle.several_books.specs.Held.{AllRead, refusal_of, Slot, slot_at, Holds, RoomForDesks, ReadInto, DaysHeld, all_read_of, ReadAll}
use Rattle.several_lent.specs.Lent.{books_of, total}
use Rattle.several_books.specs.Days.{DesksRead, refused_at, days, day_in_front, with_rest, read_desks, rows_of, no_day}
use Rattle.several_lent.proofs.Sums.{total_next}

-- A refusal of a desk that `?` hands on.
pub desk_handed_on : {A : Type 0} {turned : DeskRefusal} (r : Result A DeskRefusal) → IsErrAnd r (λ e. e ≡ turned) → r ≡ Err turned
desk_handed_on r h = let p = err_from_is_err_and r h in rw (p.1, p.2) refl

-- What a test says of the contents.
refused_by_lem : (x : Contents) (refusal : Refusal) → Err refusal ≡ outcome_of x → x ≡ refused refusal.number refusal.place
refused_by_lem (refused m q) refusal e = let same : refusal_at m q ≡ refusal = cc in rw (← same) refl
refused_by_lem (accepted day) refusal e = never (cc)

accepted_by_lem : (x : Contents) → Ok tt ≡ outcome_of x → (day : Day) × (x ≡ accepted day)
accepted_by_lem (refused m q) e = never (cc)
accepted_by_lem (accepted day) e = (day, refl)

-- What is read behind some days.
pub behind : List Day → DesksRead → DesksRead
behind [] x = x
behind (d ∷ ds) x = day_in_front d (behind ds x)

behind_refused : (ds : List Day) (n p d : ℕ) → behind ds (refused_at n p d) ≡ refused_at n p d
unfolding behind
behind_refused [] n p d = refl
behind_refused (day ∷ ds) n p d = ap (day_in_front day) (behind_refused ds n p d)

behind_days : (ds es : List Day) → behind ds (days es) ≡ days (ds ++ es)
unfolding behind
behind_days [] es = refl
behind_days (d ∷ ds) es = ap (day_in_front d) (behind_days ds es)

behind_more : (ds : List Day) (d : Day) (x : DesksRead) → behind (ds ++ (d ∷ [])) x ≡ behind ds (day_in_front d x)
unfolding behind
behind_more [] d x = refl
behind_more (e ∷ ds) d x = ap (day_in_front e) (behind_more ds d x)

pub rows_more : (ds : List Day) (d : Day) → rows_of (ds ++ (d ∷ [])) ≡ rows_of ds + length d.rows
unfolding rows_of
rows_more [] d = omega arith
rows_more (e ∷ ds) d = omega (arith, rows_more ds d)

pub books_length : (lengths run : List ℕ) → length (books_of lengths run) ≡ length lengths
unfolding books_of
books_length [] run = refl
books_length (n ∷ ns) run = ap suc (books_length ns (drop n run))

pub days_one : {a b : List Day} → days a ≡ days b → a ≡ b
days_one e = cc

module _ (terms : Terms) (books lengths : List ℕ) where
  abbrev parts : List (List ℕ)
  parts = books_of lengths books

  -- The books from desk d on, which begin at the word `from` of the run.
  abbrev onward : (from d : ℕ) → DesksRead
  onward from d = read_desks terms (suc d) (books_of (drop d lengths) (drop from books))

  -- The part of the run that is the book of desk d.
  abbrev pub part_at : (from d : ℕ) → List ℕ
  part_at from d = take (at lengths d) (drop from books)

  onward_step : (from d : ℕ) → d < length lengths →
      onward from d ≡ with_rest (suc d) (read_by terms (part_at from d)) (onward (from + at lengths d) (suc d))
  unfolding read_desks books_of
  onward_step from d h =
      ap (λ (ns : List ℕ). read_desks terms (suc d) (books_of ns (drop from books))) (drop-cons lengths d 0 h) ∙
      ap (λ (ws : List ℕ). with_rest (suc d) (read_by terms (part_at from d)) (read_desks terms (suc (suc d)) (books_of (drop (suc d)
      lengths) ws)))
      (drop-drop (at lengths d) from books)

  pub record ReadTo (free rows plans : List ℕ) (columns fronts : List (List ℕ)) (sum from d : ℕ) : Type 0 where
    pub within : d ≤ length lengths
    pub sized : RoomForDesks free rows plans columns fronts
    pub before : List Day
    pub many : length before ≡ d
    pub summed : sum ≡ rows_of before
    pub few : sum ≤ most_rows * d
    pub run : from + total (drop d lengths) ≡ length books
    pub rest : read_desks terms 1 parts ≡ behind before (onward from d)
    pub held : (e : ℕ) → e < d → Holds terms.opening (get_or before e no_day) (slot_at free rows plans columns fronts e)

  pub read_none : (free rows plans : List ℕ) (columns fronts : List (List ℕ)) → RoomForDesks free rows plans columns fronts →
      total lengths ≡ length books → ReadTo free rows plans columns fronts 0 0 0
  unfolding behind rows_of
  read_none free rows plans columns fronts z e = record {
    within = omega arith;
    sized = z;
    before = [];
    many = refl;
    summed = refl;
    few = omega arith;
    run = omega (arith, e);
    rest = refl;
    held = λ i h. let x : ⊥ = omega arith in absurd x;
  }

  module _ (free rows plans : List ℕ) (columns fronts : List (List ℕ)) (sum from d : ℕ)
      (t : ReadTo free rows plans columns fronts sum from d) where
    -- The next book lies in the run, and is the part of it that ends where the one after it begins.
    pub next_part : d < length lengths → from + at lengths d ≤ length books
    next_part h = omega (arith, t.run, total_next lengths d h)

    pub the_part : (next : ℕ) → next ≡ from + at lengths d → take (next - from) (drop from books) ≡ part_at from d
    the_part next e = let n : next - from ≡ at lengths d = omega arith in ap (λ (k : ℕ). take k (drop from books)) n

    module _ (h : d < length lengths) (free' rows' plans' : List ℕ) (columns' fronts' : List (List ℕ)) (r : Tested)
        (book : List ℕ) (is-part : book ≡ part_at from d)
        (into : ReadInto terms book d free rows plans columns fronts free' rows' plans' columns' fronts' r) where
      pub read_refused : (refusal : Refusal) → r ≡ Err refusal → (a : AllRead) → a ≡ Err (refusal_of refusal.number refusal.place (d + 1)) →
          ReadAll terms parts free' rows' plans' columns' fronts' a
      unfolding all_read_of
      read_refused refusal e a f =
          let n = refusal.number in
          let p = refusal.place in
          let x : read_by terms (part_at from d) ≡ refused n p = ap (read_by terms) (sym is-part) ∙
          refused_by_lem (read_by terms book) refusal (sym e ∙ into.outcome) in
          let y : onward from d ≡ refused_at n p (suc d) = onward_step from d h ∙
          ap (λ (c : Contents). with_rest (suc d) c (onward (from + at lengths d) (suc d))) x in
          let all : read_desks terms 1 parts ≡ refused_at n p (d + 1) = rw (add-one d)
          (t.rest ∙ ap (behind t.before) y ∙ behind_refused t.before n p (suc d)) in
          record { outcome = f ∙ ap all_read_of (sym all); held = λ ds g. never_days (sym all ∙ g) }
        where
          never_days : {A : Type 0} {n p : ℕ} {ds : List Day} → refused_at n p (d + 1) ≡ days ds → A
          never_days e = never (cc)

      -- One book more is accepted.
      pub read_next : r ≡ Ok tt →
          ReadTo free' rows' plans' columns' fronts' (sum + at rows' d) (from + at lengths d) (d + 1)
      read_next e =
          let x = accepted_by_lem (read_by terms book) (sym e ∙ into.outcome) in
          let day = x.0 in
          let here = into.here day x.1 in
          let reads : read_by terms (part_at from d) ≡ accepted day = ap (read_by terms) (sym is-part) ∙ x.1 in
          let y : onward from d ≡ day_in_front day (onward (from + at lengths d) (suc d)) = onward_step from d h ∙
          ap (λ (c : Contents). with_rest (suc d) c (onward (from + at lengths d) (suc d))) reads in
          rw (add-one d) (record {
            within = omega arith;
            sized = into.sized;
            before = t.before ++ (day ∷ []);
            many = simp length-append (omega (arith, t.many));
            summed = omega (arith, t.summed, rows_more t.before day, here.rows);
            few = omega (arith, t.few, here.ready.plannable.few);
            run = omega (arith, t.run, rw add-one at (total_next lengths d h));
            rest = t.rest ∙ ap (behind t.before) y ∙ sym (behind_more t.before day (onward (from + at lengths d) (suc d)));
            held = λ i l. at_desk i day here (ℕ_discrete i d) l;
          })
        where
          at_desk : (i : ℕ) (day : Day) → Holds terms.opening day (slot_at free' rows' plans' columns' fronts' d) → Dec (i ≡ d) →
              i < suc d →
              Holds terms.opening (get_or (t.before ++ (day ∷ [])) i no_day) (slot_at free' rows' plans' columns' fronts' i)
          at_desk i day here (yes same) l =
              let k : get_or (t.before ++ (day ∷ [])) i no_day ≡ day =
              ap (λ (j : ℕ). get_or (t.before ++ (day ∷ [])) j no_day) (same ∙ sym t.many) ∙ get_or-append_seam t.before day [] no_day in
              subst (λ (j : ℕ). Holds terms.opening (get_or (t.before ++ (day ∷ [])) i no_day) (slot_at free' rows' plans' columns'
              fronts' j))
              (sym same)
              (subst (λ (y : Day). Holds terms.opening y (slot_at free' rows' plans' columns' fronts' d)) (sym k) here)
          at_desk i day here (no other) l =
              let k : get_or (t.before ++ (day ∷ [])) i no_day ≡ get_or t.before i no_day =
              get_or-append t.before (day ∷ []) no_day i (omega (arith, t.many)) in
              subst (λ (s : Slot). Holds terms.opening (get_or (t.before ++ (day ∷ [])) i no_day) s) (sym (into.others i other))
              (subst (λ (y : Day). Holds terms.opening y (slot_at free rows plans columns fronts i)) (sym k)
              (t.held i (omega arith)))

    -- All are read.
    pub read_end : d ≡ length lengths → ReadAll terms parts free rows plans columns fronts (Ok sum)
    unfolding all_read_of read_desks books_of
    read_end e =
        let none : drop d lengths ≡ [] = ap (λ (n : ℕ). drop n lengths) e ∙ drop-length lengths in
        let y : onward from d ≡ days [] = ap (λ (ns : List ℕ). read_desks terms (suc d) (books_of ns (drop from books))) none in
        let all : read_desks terms 1 parts ≡ days t.before =
        t.rest ∙ ap (behind t.before) y ∙ behind_days t.before [] ∙ ap days (append-nil t.before) in
        record {
          outcome = ap (λ (n : ℕ). Ok n) t.summed ∙ ap all_read_of (sym all);
          held = λ ds f.
              let same : t.before ≡ ds = days_one (sym all ∙ f) in
              subst
              (λ (xs : List Day). (length xs ≡ length parts) ×
              ((i : ℕ) → i < length xs → Holds terms.opening (get_or xs i no_day) (slot_at free rows plans columns fronts i)))
              same (omega (arith, t.many, books_length lengths books), λ i l. t.held i (omega (arith, t.many)));
        }

-- What all books that were read say: the refusal with its desk, or the days, and their desks.
module _ (terms : Terms) (books : List (List ℕ)) (free rows plans : List ℕ) (columns fronts : List (List ℕ)) (r : AllRead)
    (all : ReadAll terms books free rows plans columns fronts r) where
  refused_with : (x : DesksRead) (turned : DeskRefusal) → Err turned ≡ all_read_of x →
      x ≡ refused_at turned.refusal.number turned.refusal.place turned.desk
  unfolding all_read_of
  refused_with (refused_at m q e) turned h = let same : refusal_of m q e ≡ turned = cc in rw (← same) refl
  refused_with (days ds) turned h = never (cc)

  pub refusal_read : (turned : DeskRefusal) → r ≡ Err turned →
      read_desks terms 1 books ≡ refused_at turned.refusal.number turned.refusal.place turned.desk
  refusal_read turned e = refused_with (read_desks terms 1 books) turned (sym e ∙ all.outcome)

  pub record DaysOf (sum : ℕ) : Type 0 where
    pub all_days : List Day
    pub read : read_desks terms 1 books ≡ days all_days
    pub summed : sum ≡ rows_of all_days
    pub many : length all_days ≡ length books
    pub held : DaysHeld terms.opening all_days free rows plans columns fronts

  days_of : (x : DesksRead) → read_desks terms 1 books ≡ x → (n : ℕ) → Ok n ≡ all_read_of x → DaysOf n
  unfolding all_read_of
  days_of (refused_at m q e) f n h = never (cc)
  days_of (days ds) f n h =
      let k = all.held ds f in
      record { all_days = ds; read = f; summed = cc; many = k.0; held = k.1 }

  pub days_read : (n : ℕ) → r ≡ Ok n → DaysOf n
  days_read n e = days_of (read_desks terms 1 books) refl n (sym e ∙ all.outcome)
