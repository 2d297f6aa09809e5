-- `put_listing` meets its contract: the line that counts, then those of the plans.
-- Assumes nothing.
use native.Mathlib.Omega.{arith}
use native.Mathlib.Nat.{le_refl}
use Prim.Native.Nat.{ℕ}
use mathlib.Core.Path.{◌≡◌, refl, sym, subst, ◌∙◌}
use mathlib.Core.List.{List}
use Rattle.std.specs.Prelude.{Result, Ok}
use Rattle.refusals.specs.declared.Refusal.{Refusal}
use Rattle.book.specs.declared.Table.{Table}
use Rattle.book.specs.Book.{read_words}
use Rattle.book.specs.Tables.{reading_of}
use Rattle.lines.proofs.Adding.{then_added, same_added}
use Rattle.sheet.proofs.Standing.{Heard, all_listed, listing_shown}
use Rattle.sheet.proofs.Choosing.{list_heard, all_counted}
use Rattle.sheet.specs.Parts.{Answered}
use Rattle.sheet.proofs.put_listing.Goals as goal

-- The book is heard with its plans.
heard_here : {book plans : List ℕ} {count : ℕ} {r : Result Table Refusal} → Answered book count plans → r ≡ reading_of (read_words book) →
    (t : Table) × (r ≡ Ok t) × Heard book t count plans
heard_here {book} {plans} {count} {r} h e = list_heard book h.0 plans h.1 count r e h.2

-- The table that is unwrapped is that one.
heard_as : {book plans : List ℕ} {count : ℕ} {r : Result Table Refusal} (t : Table) → Answered book count plans →
    r ≡ reading_of (read_words book) → r ≡ Ok t → Heard book t count plans
heard_as {book} {plans} {count} t h e is =
    let x = heard_here h e in
    let same : x.0 ≡ t = let both : ◌≡◌ {A = Result Table Refusal} (Ok x.0) (Ok t) = sym x.1 ∙ is in cc in
    subst (λ (u : Table). Heard book u count plans) same x.2

pub unwrap-table-requires : goal.unwrap-table-requires
unwrap-table-requires c = rw (heard_here c.requires.0 c.read_words.ensures).1 refl

pub numbers_of-numbers-requires : goal.numbers_of-numbers-requires
numbers_of-numbers-requires c =
    (heard_as c.unwrap-table.result c.requires.0 c.read_words.ensures c.unwrap-table.ensures).few

pub put_plans-requires : goal.put_plans-requires
put_plans-requires c =
    let a = c.args in
    let t = c.unwrap-table.result in
    let h = heard_as t c.requires.0 c.read_words.ensures c.unwrap-table.ensures in (
      all_listed a.book.now t a.count a.plans.now h c.numbers_of-numbers.result c.numbers_of-numbers.ensures,
      omega (arith, c.rows_line-at.ensures.few, c.rows_line-at.ensures.room, h.fits, c.requires.1),
    )

pub returns : goal.returns
returns c =
    let a = c.args in
    let t = c.unwrap-table.result in
    let h = heard_as t c.requires.0 c.read_words.ensures c.unwrap-table.ensures in
    all_counted (same_added (le_refl _) (sym (listing_shown a.book.now t a.count a.plans.now h))
    (then_added c.rows_line-at.ensures c.put_plans.ensures))
