-- The numbers that the conditions of a call tell are of the table.
-- Assumes nothing.
use Prim.Native.Nat.{ℕ, ◌≤◌}
use native.Mathlib.Omega.{arith}
use mathlib.Core.Path.{◌≡◌, sym, subst}
use mathlib.Core.List.{List}
use Rattle.schedule.specs.declared.Profile.{Profile}
use Rattle.schedule.specs.declared.Profile.TheVariants.{Ordering, FirstCome}
use Rattle.schedule.specs.Rows.{Day}
use Rattle.grammar.specs.Words.{Wrong, cut, kind, range, twice, full, count, tail}
use Rattle.readers.specs.declared.Terms.{Terms}
use Rattle.promises.specs.Table.{BookRefused, by_word, disorder, crossed, Turned, by_opening, by_book, by_call}
use Rattle.promises.specs.Promise.{InTable}

wrong_numbered : {book : List ℕ} {n p : ℕ} → Wrong book n p → (1 ≤ n) × (n ≤ 7)
wrong_numbered (cut d) = (omega arith, omega arith)
wrong_numbered (kind p d l w) = (omega arith, omega arith)
wrong_numbered (range p d l w) = (omega arith, omega arith)
wrong_numbered (twice i j d l k f e) = (omega arith, omega arith)
wrong_numbered (full d l k) = (omega arith, omega arith)
wrong_numbered (count n d a v) = (omega arith, omega arith)
wrong_numbered (tail n d a l) = (omega arith, omega arith)

up_to_7 : (profile : Profile) (n : ℕ) → (1 ≤ n) × (n ≤ 7) → InTable profile n
up_to_7 Ordering n h = (h.0, omega (arith, h.1))
up_to_7 FirstCome n h = (h.0, omega (arith, h.1), λ e. omega (arith, h.1))

from_9 : (profile : Profile) (n : ℕ) → (9 ≤ n) × (n ≤ 12) → InTable profile n
from_9 Ordering n h = (omega (arith, h.0), h.1)
from_9 FirstCome n h = (omega (arith, h.0), omega (arith, h.1), λ e. omega (arith, h.0))

pub book_numbered : {profile : Profile} {book : List ℕ} {n p : ℕ} → BookRefused profile book n p → InTable profile n
book_numbered {profile} (by_word n p f) = up_to_7 profile n (wrong_numbered f.wrong)
book_numbered (disorder e day t k c) = subst (λ (x : Profile). InTable x 8) (sym e) (omega arith, omega arith)
book_numbered (crossed e day t k c) = subst (λ (x : Profile). InTable x 13) (sym e) (omega arith, omega arith, λ e. omega arith)

-- By the ordering rule a refused book tells 1 to 8.
not_first_come : Ordering ≡ FirstCome → ⊥
not_first_come e = subst Is e tt
  where
    Is : Profile → Type 0
    Is Ordering = Unit {0}
    Is FirstCome = ⊥

pub ordering_numbered : {book : List ℕ} {n p : ℕ} → BookRefused Ordering book n p → (1 ≤ n) × (n ≤ 8)
ordering_numbered (by_word n p f) = let h = wrong_numbered f.wrong in (h.0, omega (arith, h.1))
ordering_numbered (disorder e day t k c) = (omega arith, omega arith)
ordering_numbered (crossed e day t k c) = absurd (not_first_come e)

pub turned_numbered : {terms : Terms} {book : List ℕ} {Own : Day → (n p : ℕ) → Type 0} {n p : ℕ} →
    ((day : Day) (n p : ℕ) → Own day n p → (9 ≤ n) × (n ≤ 12)) → Turned terms book Own n p → InTable terms.profile n
turned_numbered {terms} f (by_opening h) = up_to_7 terms.profile 3 (omega arith, omega arith)
turned_numbered f (by_book n p h r) = book_numbered r
turned_numbered {terms} f (by_call n p day t o) = from_9 terms.profile n (f day n p o)

-- And they are numbers from 1 on.
pub from_1 : (profile : Profile) {n : ℕ} → InTable profile n → 1 ≤ n
from_1 Ordering h = h.0
from_1 FirstCome h = h.0
