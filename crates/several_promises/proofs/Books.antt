-- The books of several desks, each by itself: what they give desk by desk is what each gives. Assumes nothing.
use Prim.Native.Nat.{ℕ, zero, suc, ◌+◌, ◌<◌}
use native.Mathlib.Omega.{arith}
use mathlib.Core.Path.{◌≡◌, refl, sym, ap, ◌∙◌, subst}
use mathlib.Core.List.{List, [], ◌∷◌}
use mathlib.Core.Logic.{◌↔◌}
use lib.ListN.{length, take, drop, get_or}
use lib.Seq.{drop-drop}
use Rattle.schedule.specs.Rows.{Day}
use Rattle.schedule.specs.Columns.{at}
use Rattle.book.specs.Rows.{Contents, refused, accepted}
use Rattle.readers.specs.declared.Terms.{Terms}
use Rattle.readers.specs.Reads.{ordering_rule, read_by}
use Rattle.promises.proofs.Accepted.{takes}
use Rattle.several_lent.specs.Lent.{books_of, total}
use Rattle.several_books.specs.Days.{DesksRead, refused_at, days, day_in_front, with_rest, read_desks, no_day}
use Rattle.several_books.proofs.Desks.{books_length}
use Rattle.several_promises.specs.Table.{book_at, TakesAll}

-- A part of the run is what the book of its desk is said to be.
pub book_at_lem : (lengths run : List ℕ) (e : ℕ) → e < length lengths → get_or (books_of lengths run) e [] ≡ book_at lengths run e
unfolding books_of total
book_at_lem [] run e h = let z : ⊥ = omega arith in absurd z
book_at_lem (n ∷ ns) run zero h = refl
book_at_lem (n ∷ ns) run (suc e) h =
    book_at_lem ns (drop n run) e (omega arith) ∙ ap (take (at ns e)) (drop-drop (total (take e ns)) n run)

module _ (terms : Terms) where
  -- All are accepted, and give these days.
  pub record AllGive (bs : List (List ℕ)) (ds : List Day) : Type 0 where
    pub many : length ds ≡ length bs
    pub each : (e : ℕ) → e < length bs → read_by terms (get_or bs e []) ≡ accepted (get_or ds e no_day)

  -- The first that is refused, e of them accepted before it.
  pub record FirstRefused (bs : List (List ℕ)) (n p e : ℕ) : Type 0 where
    pub inside : e < length bs
    pub before : (i : ℕ) → i < e → (day : Day) × (read_by terms (get_or bs i []) ≡ accepted day)
    pub here : read_by terms (get_or bs e []) ≡ refused n p

  -- What is read from desk d on.
  GivesFrom : (d : ℕ) → List (List ℕ) → DesksRead → Type 0
  GivesFrom d bs (refused_at n p k) = (e : ℕ) × (k ≡ d + e) × FirstRefused bs n p e
  GivesFrom d bs (days ds) = AllGive bs ds

  gives_none : (d : ℕ) → GivesFrom d [] (days [])
  unfolding GivesFrom
  gives_none d = record { many = refl; each = λ e h. let z : ⊥ = omega arith in absurd z }

  gives_more : (d : ℕ) (b : List ℕ) (bs : List (List ℕ)) (x : Contents) → read_by terms b ≡ x → (r : DesksRead) → GivesFrom (suc d) bs r →
      GivesFrom d (b ∷ bs) (with_rest d x r)
  unfolding GivesFrom
  gives_more d b bs (refused n p) e r g =
      (0, omega arith, record { inside = omega arith; before = λ i h. let z : ⊥ = omega arith in absurd z; here = e })
  gives_more d b bs (accepted day) e (refused_at n p k) g = (
    suc g.0,
    omega (arith, g.1),
    record {
      inside = omega (arith, g.2.inside);
      before = λ i h. before i h;
      here = g.2.here;
    },
  )
    where
      before : (i : ℕ) → i < suc g.0 → (day : Day) × (read_by terms (get_or (b ∷ bs) i []) ≡ accepted day)
      before zero h = (day, e)
      before (suc i) h = g.2.before i (omega arith)
  gives_more d b bs (accepted day) e (days ds) g = record { many = omega (arith, g.many); each = each }
    where
      each : (i : ℕ) → i < suc (length bs) → read_by terms (get_or (b ∷ bs) i []) ≡ accepted (get_or (day ∷ ds) i no_day)
      each zero h = e
      each (suc i) h = g.each i (omega arith)

  gives_all : (d : ℕ) (bs : List (List ℕ)) → GivesFrom d bs (read_desks terms d bs)
  unfolding read_desks
  gives_all d [] = gives_none d
  gives_all d (b ∷ bs) = gives_more d b bs (read_by terms b) refl (read_desks terms (suc d) bs) (gives_all (suc d) bs)

  -- And what each gives by itself is read.
  reads_days : (d : ℕ) (bs : List (List ℕ)) (ds : List Day) → AllGive bs ds → read_desks terms d bs ≡ days ds
  unfolding read_desks
  reads_days d [] [] g = refl
  reads_days d [] (day ∷ ds) g = let z : ⊥ = omega (arith, g.many) in absurd z
  reads_days d (b ∷ bs) [] g = let z : ⊥ = omega (arith, g.many) in absurd z
  reads_days d (b ∷ bs) (day ∷ ds) g =
      ap (λ (x : Contents). with_rest d x (read_desks terms (suc d) bs)) (g.each 0 (omega arith)) ∙
      ap (day_in_front day) (reads_days (suc d) bs ds (record {
        many = omega (arith, g.many);
        each =
            λ e h. g.each (suc e) (omega arith);
      }))

  reads_refusal : (d : ℕ) (bs : List (List ℕ)) (n p e : ℕ) → FirstRefused bs n p e → read_desks terms d bs ≡ refused_at n p (d + e)
  unfolding read_desks
  reads_refusal d [] n p e g = let z : ⊥ = omega (arith, g.inside) in absurd z
  reads_refusal d (b ∷ bs) n p zero g =
      let z : d + 0 ≡ d = omega arith in
      rw z (ap (λ (x : Contents). with_rest d x (read_desks terms (suc d) bs)) g.here)
  reads_refusal d (b ∷ bs) n p (suc e) g =
      let u = g.before 0 (omega arith) in
      let s : suc d + e ≡ d + suc e = omega arith in
      ap (λ (x : Contents). with_rest d x (read_desks terms (suc d) bs)) u.1 ∙
      ap (day_in_front u.0) (reads_refusal (suc d) bs n p e (record {
        inside = omega (arith, g.inside);
        before = λ i h. g.before (suc i) (omega arith);
        here = g.here;
      })) ∙ ap (refused_at n p) s

-- The books by their lengths.
module _ (opening : ℕ) (books lengths : List ℕ) where
  abbrev parts : List (List ℕ)
  parts = books_of lengths books

  abbrev all : DesksRead
  all = read_desks (ordering_rule opening) 1 parts

  pub days_taken : (ds : List Day) → (all ≡ days ds) ↔ TakesAll opening books lengths ds
  days_taken ds = (λ e. taken (subst (GivesFrom (ordering_rule opening) 1 parts) e (gives_all (ordering_rule opening) 1 parts)), λ t. read t)
    where
      taken : GivesFrom (ordering_rule opening) 1 parts (days ds) → TakesAll opening books lengths ds
      taken g = unfold GivesFrom in record {
        many = omega (arith, g.many, books_length lengths books);
        each = λ e h. (takes (ordering_rule opening) (book_at lengths books e) (get_or ds e no_day)).0
            (ap (read_by (ordering_rule opening)) (sym (book_at_lem lengths books e h)) ∙ g.each e (omega (arith, books_length lengths books)));
      }

      read : TakesAll opening books lengths ds → all ≡ days ds
      read t = reads_days (ordering_rule opening) 1 parts ds (record {
        many = omega (arith, t.many, books_length lengths books);
        each = λ e h.
            let l : e < length lengths = omega (arith, books_length lengths books) in
            ap (read_by (ordering_rule opening)) (book_at_lem lengths books e l) ∙
            (takes (ordering_rule opening) (book_at lengths books e) (get_or ds e no_day)).1 (t.each e l);
      })

  -- The book of desk e + 1 is the first that is refused.
  pub record RefusedAt (n p e : ℕ) : Type 0 where
    pub inside : e < length lengths
    pub before : (i : ℕ) → i < e → (day : Day) × (read_by (ordering_rule opening) (book_at lengths books i) ≡ accepted day)
    pub here : read_by (ordering_rule opening) (book_at lengths books e) ≡ refused n p

  pub refused_at_lem : (n p d : ℕ) → all ≡ refused_at n p d → (e : ℕ) × (d ≡ e + 1) × RefusedAt n p e
  refused_at_lem n p d q = step (subst (GivesFrom (ordering_rule opening) 1 parts) q (gives_all (ordering_rule opening) 1 parts))
    where
      step : GivesFrom (ordering_rule opening) 1 parts (refused_at n p d) → (e : ℕ) × (d ≡ e + 1) × RefusedAt n p e
      step g = unfold GivesFrom in
          let r = g.2 in
          let l : g.0 < length lengths = omega (arith, r.inside, books_length lengths books) in (
            g.0,
            omega (arith, g.1),
            record {
              inside = l;
              before = λ i h. let u = r.before i h in
                  (u.0, ap (read_by (ordering_rule opening)) (sym (book_at_lem lengths books i (omega arith))) ∙ u.1);
              here = ap (read_by (ordering_rule opening)) (sym (book_at_lem lengths books g.0 l)) ∙ r.here;
            },
          )

  pub at_refused : (n p e : ℕ) → RefusedAt n p e → all ≡ refused_at n p (e + 1)
  at_refused n p e r =
      let s : 1 + e ≡ e + 1 = omega arith in
      reads_refusal (ordering_rule opening) 1 parts n p e (record {
        inside = omega (arith, r.inside, books_length lengths books);
        before = λ i h. let u = r.before i h in
            (u.0, ap (read_by (ordering_rule opening)) (book_at_lem lengths books i (omega (arith, r.inside))) ∙ u.1);
        here = ap (read_by (ordering_rule opening)) (book_at_lem lengths books e r.inside) ∙ r.here;
      }) ∙ ap (refused_at n p) s
