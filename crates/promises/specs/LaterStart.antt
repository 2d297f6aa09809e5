-- A later start: what is promised of the list when the free minute of a book moves, and nothing else. `book_from free rest` and
-- `book_from later rest` (grammar/specs/FreeWord) are two books that differ in the free word alone. Both calls are told the same terms, so
-- the same opening minutes. The proof is `later_start_holds`, in proofs/LaterStart.antt. Rests on: Vocabulary, the schedule's LaterStart.
use Rattle.std.specs.Prelude.{ℕ, ◌+◌, ◌-◌, ◌≤◌, ◌≡◌, List, ◌↔◌, length, pos, ◌+ℤ◌, ◌≤ℤ◌}
use Rattle.std.proofs.Math.Option.{some}
use Rattle.schedule.specs.Limits.{latest_minute}
use Rattle.schedule.specs.declared.Row.{Row}
use Rattle.schedule.specs.Desk.{Pair}
use Rattle.schedule.specs.LaterStart.{ListMoves}
use Rattle.book.specs.Rows.{day_of}
use Rattle.grammar.specs.FreeWord.{book_from}
use Rattle.readers.specs.declared.Terms.{Terms}
use Rattle.outcomes.specs.Planning.{Outcome, nth}
use Rattle.calls.specs.Answers.{Said}
use Rattle.promises.specs.Vocabulary.{list, listed, Refuses, Accepts}

-- Two lists of plans, the second from d minutes later: the soonest end of all, that of the first plan, is no sooner and at most d minutes
-- later; and the least lateness of all, that of the last plan, is no less and at most d minutes more.
pub record EdgesMove (d : ℕ) (earlier later : List Pair) : Type 0 where
  pub soonest : (p q : Pair) → nth earlier 1 ≡ some p → nth later 1 ≡ some q → (p.end ≤ q.end) × (q.end ≤ p.end + d)
  pub least_late : (p q : Pair) → nth earlier (length earlier) ≡ some p → nth later (length later) ≡ some q →
      (p.late ≤ℤ q.late) × (q.late ≤ℤ (p.late +ℤ pos d))

module _ (terms : Terms) (rest : List ℕ) where
  -- The call for the list of the book from this free minute, into a buffer.
  abbrev pub list_for : (free : ℕ) (b : List ℕ) → Outcome Said
  list_for free b = list terms (book_from free rest) b

  pub record LaterStartHolds : Type 0 where
    -- As long as both free minutes are in range, either book is accepted exactly if the other is, with the same rows ..
    pub accepted : (free later : ℕ) → free ≤ latest_minute → later ≤ latest_minute → (rows : List Row) →
        Accepts terms.profile (book_from free rest) (day_of free rows) ↔ Accepts terms.profile (book_from later rest) (day_of later rows)
    -- .. and into one buffer the list of either is refused n at p exactly if that of the other is.
    pub refused : (free later : ℕ) → free ≤ latest_minute → later ≤ latest_minute → (b : List ℕ) (n p : ℕ) →
        Refuses (list_for free b).answer n p ↔ Refuses (list_for later b).answer n p
    -- Where neither call is refused, the plans that they list, each in its own buffer: each of the later list is met by one of the earlier
    -- list with end and lateness no greater (`met_earlier`), each of the earlier list by one of the later list with both at most the
    -- difference larger (`met_later`).
    pub lists : (free later : ℕ) → free ≤ later → (b c : List ℕ) → (list_for free b).answer.number ≡ 0 →
        (list_for later c).answer.number ≡ 0 →
        ListMoves (later - free) (listed (list_for free b)) (listed (list_for later c)) ×
        EdgesMove (later - free) (listed (list_for free b)) (listed (list_for later c))
