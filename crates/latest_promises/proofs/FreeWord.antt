-- The free word is not used: books that differ in it alone are read alike. Assumes nothing.
use Prim.Native.Nat.{ℕ, ◌≤◌}
use native.Mathlib.Omega.{arith}
use native.Mathlib.Decide.{dec_le}
use mathlib.Core.Path.{◌≡◌, refl, sym, ap, ◌∙◌}
use mathlib.Core.List.{List}
use lib.IntN.{ℤ}
use Rattle.schedule.specs.Limits.{latest_minute, most_opening}
use Rattle.schedule.specs.Rows.{Day}
use Rattle.book.specs.Rows.{Contents, refused, accepted, day_of}
use Rattle.grammar.specs.FreeWord.{book_from}
use Rattle.readers.specs.declared.Terms.{Terms}
use Rattle.readers.specs.Reads.{ordering_rule, read_by}
use Rattle.readers.proofs.Told.{told_reads, untold_refused}
use Rattle.promises.specs.Vocabulary.{told}
use Rattle.promises.proofs.Accepted.{takes, book_refused}
use Rattle.promises.proofs.LaterStart.{takes_too, refused_too}
use Rattle.latest_free.specs.Answers.{said_latest}
use Rattle.latest_free.specs.Calls.{latest_call}
use Rattle.latest_free.proofs.Outcomes.{call_refused, call_of}
use Rattle.latest_promises.specs.Promise.{latest}

-- # A book from another free minute is read alike
module _ (terms : Terms) (free other : ℕ) (rest : List ℕ) (f : free ≤ latest_minute) (g : other ≤ latest_minute) where
  pub accepted_too : (day : Day) → read_by terms (book_from free rest) ≡ accepted day →
      read_by terms (book_from other rest) ≡ accepted (day_of other day.rows)
  accepted_too day e =
      (takes terms (book_from other rest) (day_of other day.rows)).1
      (takes_too terms free other rest f g day ((takes terms (book_from free rest) day).0 e))

  contents_too : (n p : ℕ) → read_by terms (book_from free rest) ≡ refused n p → read_by terms (book_from other rest) ≡ refused n p
  contents_too n p e = step (dec_le terms.opening most_opening)
    where
      step : Dec (terms.opening ≤ most_opening) → read_by terms (book_from other rest) ≡ refused n p
      step (yes h) =
          let r = (book_refused terms.profile (book_from free rest) n p).0 (sym (told_reads terms (book_from free rest) h) ∙ e) in
          told_reads terms (book_from other rest) h ∙
          (book_refused terms.profile (book_from other rest) n p).1 (refused_too terms free other rest f g n p r)
      step (no h) =
          untold_refused terms (book_from other rest) (omega arith) ∙ (sym (untold_refused terms (book_from free rest) (omega arith)) ∙ e)

pub free_unused : (opening free other : ℕ) → free ≤ latest_minute → other ≤ latest_minute → (rest : List ℕ) (end late : ℤ) (b : List ℕ) →
    latest opening (book_from free rest) end late b ≡ latest opening (book_from other rest) end late b
free_unused opening free other f g rest end late b = ap (told said_latest) (step (read_by (ordering_rule opening) (book_from free rest)) refl)
  where
    step : (x : Contents) → read_by (ordering_rule opening) (book_from free rest) ≡ x →
        latest_call opening (book_from free rest) end late b ≡ latest_call opening (book_from other rest) end late b
    step (refused n p) e =
        call_refused opening (book_from free rest) end late b n p e ∙
        sym (call_refused opening (book_from other rest) end late b n p (contents_too (ordering_rule opening) free other rest f g n p e))
    step (accepted day) e =
        call_of opening (book_from free rest) end late b day e ∙
        sym (call_of opening (book_from other rest) end late b (day_of other day.rows)
        (accepted_too (ordering_rule opening) free other rest f g day e))
