-- A book is accepted exactly if it is written from rows of which no two clash, and is refused exactly as the table of refusals says; a call
-- takes it exactly if its opening minutes are in their range too.
-- Assumes nothing.
use Prim.Native.Nat.{ℕ}
use mathlib.Core.Path.{◌≡◌, refl, sym, ap, ◌∙◌, subst}
use mathlib.Core.List.{List}
use mathlib.Core.Logic.{◌↔◌}
use Rattle.schedule.specs.declared.Profile.{Profile}
use Rattle.schedule.specs.declared.Profile.TheVariants.{Ordering, FirstCome}
use Rattle.schedule.specs.Rows.{Day}
use Rattle.refusals.proofs.Tests.{never}
use Rattle.pairs.specs.Pairs.{number_word}
use Rattle.book.specs.Rows.{Contents, refused, accepted}
use Rattle.book.specs.Book.{read_words}
use Rattle.grammar.specs.Books.{Tells}
use Rattle.grammar.proofs.Books.{tells}
use Rattle.grammar.proofs.Settled.{words_settled}
use Rattle.readers.specs.declared.Terms.{Terms}
use Rattle.readers.specs.Rules.{number_by}
use Rattle.readers.specs.Reads.{tested_by, read_for, read_by}
use Rattle.readers.specs.Settled.{Settled, unclashing, clashing}
use Rattle.readers.proofs.Settled.{books_settled}
use Rattle.readers.proofs.Accepted.{words_gave}
use Rattle.readers.proofs.Told.{told_reads, accepted_told, accepted_for}
use Rattle.promises.specs.Vocabulary.{Clash, Accepts, Takes}
use Rattle.promises.specs.Table.{EarliestClash, BookRefused, by_word, disorder, crossed}
use Rattle.promises.proofs.Clashes.{none_clash, earliest_says, one_earliest, clash_refutes}

-- Accepted is not refused, and a refusal has one number and one place.
pub not_both : {day : Day} {n p : ℕ} → accepted day ≡ refused n p → ⊥
not_both e = never (cc)

pub refusal_is : {n p m q : ℕ} → refused n p ≡ refused m q → (n ≡ m) × (p ≡ q)
refusal_is e = (cc, cc)

module _ (profile : Profile) (book : List ℕ) where
  -- What tests 1 to 7 refuse is refused.
  words_first : (n p : ℕ) → read_words book ≡ refused n p → read_for profile book ≡ refused n p
  unfolding read_for tested_by
  words_first n p e = rw e

  pub accepts : (day : Day) → (read_for profile book ≡ accepted day) ↔ Accepts profile book day
  accepts day = (
    λ e. there e (books_settled profile book day (words_gave profile book day e)),
    λ a.
        back a (books_settled profile book day ((tells book day).1 a.tells)),
  )
    where
      there : read_for profile book ≡ accepted day → Settled profile book day → Accepts profile book day
      there e (unclashing h f) =
          record { tells = (tells book day).0 (words_gave profile book day e); no_clash = none_clash profile day.rows h }
      there e (clashing j k h f) = absurd (not_both (sym e ∙ f))

      back : Accepts profile book day → Settled profile book day → read_for profile book ≡ accepted day
      back a (unclashing h f) = f
      back a (clashing j k h f) = absurd (clash_refutes profile day.rows k (earliest_says profile day.rows j k h) a.no_clash)

  -- The rule of the profile, by its number.
  by_rule : (day : Day) → Tells book day → (k : ℕ) → EarliestClash (Clash profile) day.rows k →
      BookRefused profile book (number_by profile) (number_word k)
  by_rule day t k = step profile refl
    where
      step : (x : Profile) → profile ≡ x → EarliestClash (Clash x) day.rows k → BookRefused profile book (number_by x) (number_word k)
      step Ordering e c = unfold number_by in disorder e day t k c
      step FirstCome e c = unfold number_by in crossed e day t k c

  ruled : (day : Day) → Tells book day → (k : ℕ) → EarliestClash (Clash profile) day.rows k →
      read_for profile book ≡ refused (number_by profile) (number_word k)
  ruled day t k c = step (books_settled profile book day ((tells book day).1 t))
    where
      step : Settled profile book day → read_for profile book ≡ refused (number_by profile) (number_word k)
      step (unclashing h f) = absurd (clash_refutes profile day.rows k c (none_clash profile day.rows h))
      step (clashing j m h f) = f ∙
          ap (λ (x : ℕ). refused (number_by profile) (number_word x))
          (one_earliest profile day.rows m k (earliest_says profile day.rows j m h) c)

  refused_there : (n p : ℕ) (x : Contents) → read_words book ≡ x → read_for profile book ≡ refused n p → BookRefused profile book n p
  refused_there n p (refused m q) e f =
      by_word n p (((words_settled book).refusals n p).0 (e ∙ sym (words_first m q e) ∙ f))
  refused_there n p (accepted day) e f = step (books_settled profile book day e)
    where
      step : Settled profile book day → BookRefused profile book n p
      step (unclashing h g) = absurd (not_both (sym g ∙ f))
      step (clashing j k h g) =
          let s = refusal_is (sym g ∙ f) in
          subst (λ (m : ℕ). BookRefused profile book m p) s.0
          (subst (BookRefused profile book (number_by profile)) s.1
          (by_rule day ((tells book day).0 e) k (earliest_says profile day.rows j k h)))

  refused_back : (n p : ℕ) → BookRefused profile book n p → read_for profile book ≡ refused n p
  unfolding number_by
  refused_back n p (by_word _ _ f) = words_first n p (((words_settled book).refusals n p).1 f)
  refused_back _ _ (disorder e day t k c) =
      subst (λ (x : Profile). EarliestClash (Clash x) day.rows k → read_for profile book ≡ refused (number_by x) (number_word k)) e
      (ruled day t k) c
  refused_back _ _ (crossed e day t k c) =
      subst (λ (x : Profile). EarliestClash (Clash x) day.rows k → read_for profile book ≡ refused (number_by x) (number_word k)) e
      (ruled day t k) c

  pub book_refused : (n p : ℕ) → (read_for profile book ≡ refused n p) ↔ BookRefused profile book n p
  book_refused n p = (λ e. refused_there n p (read_words book) refl e, refused_back n p)

pub takes : (terms : Terms) (book : List ℕ) (day : Day) → (read_by terms book ≡ accepted day) ↔ Takes terms book day
takes terms book day = (
  λ e. record {
    opening = accepted_told terms book day e;
    accepts = (accepts terms.profile book day).0 (accepted_for terms book day e);
  },
  λ t. told_reads terms book t.opening ∙ (accepts terms.profile book day).1 t.accepts,
)
