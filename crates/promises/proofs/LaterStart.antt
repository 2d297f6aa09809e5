-- Books that differ in the free word alone are accepted alike, and their lists move by no more than the difference of their minutes.
-- Assumes nothing.
use Prim.Native.Nat.{ℕ, ◌-◌, ◌*◌, ◌≤◌}
use native.Mathlib.Omega.{arith}
use native.Mathlib.Decide.{dec_le}
use mathlib.Core.Path.{◌≡◌, refl, sym, ap, ◌∙◌, subst}
use mathlib.Core.List.Memᴰ
use mathlib.Core.List.{List, [], ◌∷◌, Memᴰ}
use mathlib.Core.Logic.{◌⊎◌, inl, inr}
use mathlib.Core.Option.{some, some-injective}
use lib.ListN.{length}
use lib.Signed.{◌≤ℤ◌}
use Rattle.schedule.specs.Limits.{latest_minute}
use Rattle.schedule.specs.Rows.{Day, jobs, row_numbers}
use Rattle.schedule.specs.Desk.{Pair}
use Rattle.schedule.specs.Plans.{plans}
use Rattle.schedule.specs.Cover.{Rising}
use Rattle.schedule.specs.LaterStart.{ListMoves}
use Rattle.schedule.proofs.Cover.{signed, rises}
use Rattle.schedule.proofs.LaterStart.{later_start}
use Rattle.refusals.specs.Refusals.{by_narrow}
use Rattle.book.specs.Rows.{Contents, refused, accepted, day_of}
use Rattle.grammar.specs.Books.{Tells}
use Rattle.grammar.specs.FreeWord.{book_from}
use Rattle.grammar.proofs.FreeWord.{free_word, own_minute}
use Rattle.readers.specs.declared.Terms.{Terms}
use Rattle.readers.specs.Reads.{read_by}
use Rattle.readers.proofs.Accepted.{accepted_day}
use Rattle.outcomes.specs.Planning.{nth}
use Rattle.calls.specs.Answers.{said_list}
use Rattle.calls.specs.Planned.{planned}
use Rattle.calls.proofs.CallLaws.{list_of}
use Rattle.promises.specs.Vocabulary.{told, list, listed, Refuses, Accepts, Takes}
use Rattle.promises.specs.Table.{BookRefused, by_word, disorder, crossed, Turned, by_opening, by_book, by_call, ListTurned, narrow}
use Rattle.promises.specs.LaterStart.{EdgesMove, list_for, LaterStartHolds}
use Rattle.promises.proofs.Listed.{mem_elem, elem_mem, nth_mem, later_ends}
use Rattle.promises.proofs.Kept.{le_trans, lt_le, listed_same}
use Rattle.promises.proofs.Accepted.{takes}
use Rattle.promises.proofs.Refused.{contents_turned}
use Rattle.promises.proofs.Promise.{day_sound, definitions_hold}

-- # Accepted alike
module _ (terms : Terms) (free later : ℕ) (rest : List ℕ) (f : free ≤ latest_minute) (l : later ≤ latest_minute) where
  tells_too : (day : Day) → Tells (book_from free rest) day → Tells (book_from later rest) (day_of later day.rows)
  tells_too day t =
      let own : day ≡ day_of free day.rows = λ i. day_of ((own_minute free rest day t).0 i) day.rows in
      ((free_word free later rest f l).rows day.rows).0 (subst (Tells (book_from free rest)) own t)

  accepts_too : (day : Day) → Accepts terms.profile (book_from free rest) day →
      Accepts terms.profile (book_from later rest) (day_of later day.rows)
  accepts_too day a = record { tells = tells_too day a.tells; no_clash = a.no_clash }

  pub takes_too : (day : Day) → Takes terms (book_from free rest) day → Takes terms (book_from later rest) (day_of later day.rows)
  takes_too day t = record { opening = t.opening; accepts = accepts_too day t.accepts }

  pub refused_too : (n p : ℕ) → BookRefused terms.profile (book_from free rest) n p →
      BookRefused terms.profile (book_from later rest) n p
  refused_too _ _ (by_word n p w) = by_word n p (((free_word free later rest f l).wrong n p).0 w)
  refused_too _ _ (disorder e day t k c) = disorder e (day_of later day.rows) (tells_too day t) k c
  refused_too _ _ (crossed e day t k c) = crossed e (day_of later day.rows) (tells_too day t) k c

  turned_too : (b : List ℕ) (n p : ℕ) → Turned terms (book_from free rest) (λ day. ListTurned (planned terms day) b) n p →
      Turned terms (book_from later rest) (λ day. ListTurned (planned terms day) b) n p
  turned_too b _ _ (by_opening h) = by_opening h
  turned_too b _ _ (by_book n p h r) = by_book n p h (refused_too n p r)
  turned_too b _ _ (by_call _ _ day t (narrow h)) = by_call by_narrow 0 (day_of later day.rows) (takes_too day t) (narrow h)

  refuses_too : (b : List ℕ) (n p : ℕ) → Refuses (list terms (book_from free rest) b).answer n p →
      Refuses (list terms (book_from later rest) b).answer n p
  refuses_too b n p r =
      ((definitions_hold terms).list_refused (book_from later rest) b n p).1
      (turned_too b n p (((definitions_hold terms).list_refused (book_from free rest) b n p).0 r))

-- # A list that is not refused
module _ (terms : Terms) (book b : List ℕ) (granted : (list terms book b).answer.number ≡ 0) where
  abbrev Own : Day → (n p : ℕ) → Type 0
  Own day = ListTurned (planned terms day) b

  not_turned : (n p : ℕ) → Turned terms book Own n p → ⊥
  not_turned n p t = let r = ((definitions_hold terms).list_refused book b n p).1 t in omega (arith, r.0, r.1, granted)

  -- It is that of a book that the calls take,
  taken : (day : Day) × Takes terms book day
  taken = step (read_by terms book) refl
    where
      step : (x : Contents) → read_by terms book ≡ x → (day : Day) × Takes terms book day
      step (refused n p) e = absurd (not_turned n p (contents_turned terms book Own n p e))
      step (accepted day) e = (day, (takes terms book day).0 e)

  -- in a buffer of two words for each row: so it is the list by its definition.
  listed_plans : (day : Day) → Takes terms book day →
      listed (list terms book b) ≡ plans (jobs terms.opening day) day.free (row_numbers day)
  listed_plans day t = step (dec_le (2 * length (row_numbers day)) (length b))
    where
      step : Dec (2 * length (row_numbers day) ≤ length b) →
          listed (list terms book b) ≡ plans (jobs terms.opening day) day.free (row_numbers day)
      step (yes h) =
          let reads = (takes terms book day).1 t in
          ap (λ o. listed (told said_list o)) (list_of terms book day reads b) ∙
          listed_same (planned terms day) (day_sound (accepted_day terms book day reads)) b h
      step (no h) = absurd (not_turned by_narrow 0 (by_call by_narrow 0 day t (narrow (omega arith))))

-- # The first plan ends soonest, and the last is least late
first_soonest : (ps : List Pair) → Rising ps → (p q : Pair) → nth ps 1 ≡ some p → Memᴰ q ps → p.end ≤ q.end
unfolding nth
first_soonest ps r p q e m = let u = mem_elem ps m in later_ends ps r 0 u.0 p q e u.1 (omega arith)

last_least : (ps : List Pair) → Rising ps → (p q : Pair) → nth ps (length ps) ≡ some p → Memᴰ q ps → p.late ≤ℤ q.late
unfolding nth
last_least [] r p q e m = absurd (Memᴰ.not-nil m)
last_least (x ∷ []) r p q e m =
    let same : p ≡ q = sym (some-injective x p e) ∙ sym (Memᴰ.eq_of_singleton m) in
    subst (λ (y : Pair). p.late ≤ℤ y.late) same (signed (omega arith))
last_least (x ∷ y ∷ ys) r p q e m = step (Memᴰ.cases_cons m) (last_least (y ∷ ys) r.1 p q e)
  where
    step : (q ≡ x) ⊎ Memᴰ q (y ∷ ys) → (Memᴰ q (y ∷ ys) → p.late ≤ℤ q.late) → p.late ≤ℤ q.late
    step (inl s) on = subst (λ (z : Pair). p.late ≤ℤ z.late) (sym s) (lt_le (r.0 p (elem_mem (y ∷ ys) (length ys) p e)).1)
    step (inr n) on = on n

edges_move : (d : ℕ) (earlier later : List Pair) → Rising earlier → Rising later → ListMoves d earlier later → EdgesMove d earlier later
edges_move d earlier later r s m = record {
  soonest = λ p q e g.
      let back = m.met_earlier q (nth_mem later 1 q g) in
      let on = m.met_later p (nth_mem earlier 1 p e) in (
        omega (arith, back.2, first_soonest earlier r p back.0 e back.1),
        omega (arith, on.2, first_soonest later s q on.0 g on.1),
      );
  least_late = λ p q e g.
      let back = m.met_earlier q (nth_mem later (length later) q g) in
      let on = m.met_later p (nth_mem earlier (length earlier) p e) in (
        le_trans (last_least earlier r p back.0 e back.1) back.3,
        le_trans (last_least later s q on.0 g on.1) on.3,
      );
}

-- # The lists
lists_move : (terms : Terms) (rest : List ℕ) (free later : ℕ) → free ≤ later → (b c : List ℕ) →
    (list_for terms rest free b).answer.number ≡ 0 → (list_for terms rest later c).answer.number ≡ 0 →
    ListMoves (later - free) (listed (list_for terms rest free b)) (listed (list_for terms rest later c)) ×
    EdgesMove (later - free) (listed (list_for terms rest free b)) (listed (list_for terms rest later c))
lists_move terms rest free later h b c x y =
    let t = taken terms (book_from free rest) b x in
    let u = taken terms (book_from later rest) c y in
    let day = t.0 in
    let own = own_minute free rest day t.1.accepts.tells in
    let early = (own_minute later rest u.0 u.1.accepts.tells).1 in
    let job = jobs terms.opening day in
    let left = row_numbers day in
    let first : listed (list_for terms rest free b) ≡ plans job free left =
    listed_plans terms (book_from free rest) b x day t.1 ∙ ap (λ (m : ℕ). plans job m left) own.0 in
    let second : listed (list_for terms rest later c) ≡ plans job later left =
    listed_plans terms (book_from later rest) c y (day_of later day.rows) (takes_too terms free later rest own.1 early day t.1) in
    let moves = (later_start job free later h).lists left in
    rw (first, second) (
      moves,
      edges_move (later - free) (plans job free left) (plans job later left) (rises job free left) (rises job later left) moves,
    )

pub later_start_holds : (terms : Terms) (rest : List ℕ) → LaterStartHolds terms rest
later_start_holds terms rest = record {
  accepted = λ free later f l rows. (
    accepts_too terms free later rest f l (day_of free rows),
    accepts_too terms later free rest l f (day_of later rows),
  );
  refused = λ free later f l b n p. (refuses_too terms free later rest f l b n p, refuses_too terms later free rest l f b n p);
  lists = lists_move terms rest;
}
