-- Property 1 of the open desk's calls: what becomes of the lent words, and the numbers that refusals tell.
-- Assumes nothing.
use Prim.Native.Nat.{ℕ, ◌+◌, ◌≤◌}
use native.Mathlib.Omega.{arith}
use native.Mathlib.Decide.{dec_le}
use mathlib.Core.Bool.{Bool, true, false}
use mathlib.Core.Path.{◌≡◌, refl, sym, ap, ◌∙◌, subst}
use mathlib.Core.List.{List, ◌++◌, Memᴰ}
use mathlib.Core.Logic.{◌⊎◌, inl, inr}
use lib.ListN.{length, drop, get_or}
use lib.Seq.{drop-append_seam}
use Rattle.schedule.specs.Offset.{raised}
use Rattle.schedule.specs.Rows.{Day}
use Rattle.refusals.specs.Refusals.{by_narrow, by_range}
use Rattle.refusals.specs.Tests.{refusal_at}
use Rattle.book.specs.Rows.{Contents, refused, accepted}
use Rattle.readers.specs.Reads.{ordering_rule, read_by}
use Rattle.readers.proofs.Accepted.{accepted_day}
use Rattle.results.specs.Results.{written}
use Rattle.outcomes.specs.Planning.{Outcome, gives}
use Rattle.calls.specs.Answers.{Said, said_no}
use Rattle.promises.specs.Vocabulary.{told}
use Rattle.promises.specs.Promise.{Lent}
use Rattle.promises.specs.Table.{Turned, by_opening, by_book, by_call}
use Rattle.promises.proofs.Numbers.{ordering_numbered}
use Rattle.promises.proofs.Refused.{contents_turned}
use Rattle.running.specs.Running.{Running, end_at, worst_at}
use Rattle.running.specs.Words.{desk_words, count_in, running, times, marks, is_desk, keeps_pages, moved_words}
use Rattle.running.proofs.Fits.{keeps_says}
use Rattle.running.proofs.Moves.{moved_length, moved_other}
use Rattle.desk_open.specs.Opens.{opened_words}
use Rattle.desk_open.proofs.OpenedWords.{opened_held, opened_long}
use Rattle.desk_open.proofs.OpenCall.{open_no, open_short, open_yes}
use Rattle.desk_start.proofs.StartLaws.{start_none, start_no, start_yes}
use Rattle.rows_left.proofs.LeftRows.{left_rising}
use Rattle.desk_pace.specs.Paces.{repaced_words}
use Rattle.desk_pace.proofs.PaceLaws.{pace_none, pace_no, pace_yes}
use Rattle.desk_pace.proofs.Repaced.{repaced_length, writes}
use Rattle.open_desk.specs.Answers.{said_open, said_start, said_pace}
use Rattle.open_desk.specs.History.{desk_open, desk_start, desk_pace}
use Rattle.open_desk.specs.Table.{StartTurned, unlisted, done, early, PaceTurned, range, disorder}
use Rattle.open_desk.proofs.Starts.{Found, refuses, passes, found}
use Rattle.open_desk.proofs.Paces as paces

-- A call that is refused, and one that is not.
lent_no : {Numbers : ℕ → Type 0} (n p : ℕ) (lent : List ℕ) → Numbers n → Lent Numbers lent (gives (said_no n p) lent)
lent_no n p lent h = record { number = λ l. h; buffer = λ l. refl; same_length = refl }

lent_yes : {Numbers : ℕ → Type 0} (said : Said) (lent new : List ℕ) → said.number ≡ 0 → length new ≡ length lent →
    Lent Numbers lent (gives said new)
lent_yes said lent new e h = record {
  number = λ l. let z : ⊥ = omega arith in absurd z;
  buffer = λ l. let z : ⊥ = omega arith in absurd z;
  same_length = h;
}

-- # Opening a desk
-- Before the words are looked at the call is refused by the opening minutes, which tells 3, or by the book.
read_numbers : (opening : ℕ) (book : List ℕ) (n p : ℕ) → read_by (ordering_rule opening) book ≡ refused n p → (1 ≤ n) × (n ≤ 9)
read_numbers opening book n p e = step n p (contents_turned (ordering_rule opening) book (λ day n p. ⊥) n p e)
  where
    step : (n p : ℕ) → Turned (ordering_rule opening) book (λ day n p. ⊥) n p → (1 ≤ n) × (n ≤ 9)
    step _ _ (by_opening h) = (omega arith, omega arith)
    step _ _ (by_book n p h r) = let k = ordering_numbered r in (k.0, omega (arith, k.1))
    step _ _ (by_call n p day t o) = absurd o

module _ (opening : ℕ) (book ws : List ℕ) where
  abbrev Reads : Contents → Type 0
  Reads x = read_by (ordering_rule opening) book ≡ x

  -- A refused call leaves the words; another writes those of a desk, and leaves the words after them.
  abbrev OpenWrites : Outcome Said → Type 0
  OpenWrites o = Lent (λ n. (1 ≤ n) × (n ≤ 9)) ws o × (drop desk_words o.buffer ≡ drop desk_words ws)

  written_past : (day : Day) → Reads (accepted day) → drop desk_words (written (opened_words opening day) ws) ≡ drop desk_words ws
  unfolding written
  written_past day e =
      let long = opened_long opening day (accepted_day (ordering_rule opening) book day e).few_rows in
      ap (λ (n : ℕ). drop n (opened_words opening day ++ drop (length (opened_words opening day)) ws)) (sym long) ∙
      (drop-append_seam (opened_words opening day) (drop (length (opened_words opening day)) ws) ∙ ap (λ (n : ℕ). drop n ws) long)

  pub open_writes : OpenWrites (desk_open opening book ws)
  open_writes = step (read_by (ordering_rule opening) book) refl
    where
      room : (day : Day) → Reads (accepted day) → Dec (desk_words ≤ length ws) → OpenWrites (desk_open opening book ws)
      room day e (yes h) =
          subst OpenWrites (sym (ap (told said_open) (open_yes opening book ws day e h))) (
            lent_yes _ ws (written (opened_words opening day) ws) refl
                (opened_held opening day ws (accepted_day (ordering_rule opening) book day e) h).2,
            written_past day e,
          )
      room day e (no h) =
          subst OpenWrites (sym (ap (told said_open) (open_short opening book ws day e (omega arith))))
          (lent_no by_narrow 0 ws (omega arith, omega arith), refl)

      step : (x : Contents) → Reads x → OpenWrites (desk_open opening book ws)
      step (refused n p) e =
          subst OpenWrites (sym (ap (told said_open) (open_no opening book ws n p e)))
          (lent_no n p ws (read_numbers opening book n p e), refl)
      step (accepted day) e = room day e (dec_le desk_words (length ws))

-- # A start
abbrev StartNumbers : ℕ → Type 0
StartNumbers n = (n ≡ 3) ⊎ (n ≡ 11) ⊎ (n ≡ 14) ⊎ (n ≡ 15)

start_numbers : {d : Running} {i m : ℕ} (n p : ℕ) → StartTurned d i m n p → StartNumbers n
start_numbers _ _ (unlisted h) = inr (inl refl)
start_numbers _ _ (done l h f) = inr (inr (inl refl))
start_numbers _ _ (early l h f t) = inr (inr (inr refl))

module _ (ws : List ℕ) (i m : ℕ) where
  -- A start writes three words, if any.
  abbrev Writes : Outcome Said → Type 0
  Writes o = Lent StartNumbers ws o ×
      ((place : ℕ) → ¬ (place ≡ 1) → ¬ (place ≡ 2) → ¬ (place ≡ marks + i) → get_or o.buffer place 0 ≡ get_or ws place 0)

  pub start_writes : Writes (desk_start ws i m)
  start_writes = step (is_desk ws) refl (found (running ws) i m)
    where
      step : (b : Bool) → is_desk ws ≡ b → Found (running ws) i m → Writes (desk_start ws i m)
      step false e f =
          subst Writes (sym (ap (told said_start) (start_none ws i m e))) (lent_no by_range 0 ws (inl refl), λ place f g h. refl)
      step true e (refuses n p l t u only) =
          subst Writes (sym (ap (told said_start) (start_no ws i m e (refusal_at n p) t))) (lent_no n p ws (start_numbers n p u), λ place f g h. refl)
      step true e (passes t never) =
          let end = end_at (running ws) i m in
          let worst = raised (worst_at (running ws) i m) in
          subst Writes (sym (ap (told said_start) (start_yes ws i m e t)))
          (lent_yes _ ws (moved_words ws i end worst) refl (moved_length ws i end worst), moved_other ws i end worst)

-- # A change of pace
abbrev PaceNumbers : ℕ → Type 0
PaceNumbers n = (n ≡ 3) ⊎ (n ≡ 8)

pace_numbers : {d : Running} {pace : ℕ} (n p : ℕ) → PaceTurned d pace n p → PaceNumbers n
pace_numbers _ _ (range h) = inl refl
pace_numbers _ _ (disorder l m k e) = inr refl

module _ (ws : List ℕ) (pace : ℕ) where
  -- A change writes the times of the rows left, if any.
  abbrev PaceWrites : Outcome Said → Type 0
  PaceWrites o = Lent PaceNumbers ws o ×
      ((place : ℕ) → ((i : ℕ) → Memᴰ i (running ws).left → ¬ (place ≡ times + i)) → get_or o.buffer place 0 ≡ get_or ws place 0)

  pub pace_writes : PaceWrites (desk_pace ws pace)
  pace_writes = step (keeps_pages ws) refl (paces.found (running ws) pace (count_in ws) (left_rising ws (count_in ws)))
    where
      step : (b : Bool) → keeps_pages ws ≡ b → paces.Found (running ws) pace → PaceWrites (desk_pace ws pace)
      step false e f =
          subst PaceWrites (sym (ap (told said_pace) (pace_none ws pace e))) (lent_no by_range 0 ws (inl refl), λ place f. refl)
      step true e (paces.refuses n p l t u only) =
          subst PaceWrites (sym (ap (told said_pace) (pace_no ws pace e (refusal_at n p) t))) (lent_no n p ws (pace_numbers n p u), λ place f. refl)
      step true e (paces.passes t within r never) =
          let keeps = (keeps_says ws).0 e in
          subst PaceWrites (sym (ap (told said_pace) (pace_yes ws pace e t)))
          (lent_yes _ ws (repaced_words ws pace) refl (repaced_length ws keeps pace), writes ws keeps pace)
