-- A book gives one day. The proof is `one_day`, in proofs/OneDay.antt.
-- Rests on: Reads.
use Rattle.std.specs.Prelude.{ℕ, ◌≡◌, List}
use Rattle.schedule.specs.declared.Profile.{Profile}
use Rattle.schedule.specs.Rows.{Day}
use Rattle.book.specs.Rows.{accepted}
use Rattle.readers.specs.Reads.{read_for}

-- Profiles differ in what they refuse, not in what they read: two that accept a book have the same free minute and the same rows of it.
abbrev pub OneDay : Type 0
OneDay = (p q : Profile) (book : List ℕ) (d e : Day) → read_for p book ≡ accepted d → read_for q book ≡ accepted e → d ≡ e
