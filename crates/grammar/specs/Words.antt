-- What is wrong with a word of a book, number by number of the table of refusals, in the words of the papers; and the first word that is.
-- The reader's own recursion (book) stands nowhere in it. The proof that the reader refuses just this is `words_settled`, in
-- proofs/Settled.antt. Rests on: kind and value of a word; the limits.
use Rattle.std.specs.Prelude.{ℕ, ◌+◌, ◌*◌, ◌≤◌, ◌<◌, ◌≡◌, List, [], ◌∷◌, ◌⊎◌, ◌↔◌, length, get_or}
use Rattle.schedule.specs.Limits.{most_rows, latest_minute, latest_due, most_pages, least_pace, most_pace}
use Rattle.schedule.specs.Rows.{Day}
use Rattle.refusals.specs.Refusals.{by_cut, by_kind, by_range, by_twice, by_full, by_count, by_tail}
use Rattle.words.specs.Words.{word, kind as kind_of, value as value_of}
use Rattle.book.specs.Rows.{refused, accepted}
use Rattle.book.specs.Book.{read_words}

-- The sequence is 1, 2, then rows of 3, 4, 5, 6 (or 0, a class, in the place of 6), then 7. The end word may stand only after a whole row.
pub data Wants (place k : ℕ) : Type 0 where
  free : place ≡ 0 → k ≡ 1 → Wants place k
  pace : place ≡ 1 → k ≡ 2 → Wants place k
  number : (i : ℕ) → place ≡ 4 * i + 2 → k ≡ 3 → Wants place k
  release : (i : ℕ) → place ≡ 4 * i + 3 → k ≡ 4 → Wants place k
  pages : (i : ℕ) → place ≡ 4 * i + 4 → k ≡ 5 → Wants place k
  due : (i : ℕ) → place ≡ 4 * i + 5 → k ≡ 6 → Wants place k
  class : (i : ℕ) → place ≡ 4 * i + 5 → k ≡ 0 → Wants place k
  end : (i : ℕ) → place ≡ 4 * i + 6 → k ≡ 7 → Wants place k

-- The range of each kind. Kinds 3 and 7 have no range test.
pub data Ranged (k v : ℕ) : Type 0 where
  free : k ≡ 1 → v ≤ latest_minute → Ranged k v
  pace : k ≡ 2 → least_pace ≤ v → v ≤ most_pace → Ranged k v
  number : k ≡ 3 → Ranged k v
  release : k ≡ 4 → v ≤ latest_minute → Ranged k v
  pages : k ≡ 5 → 1 ≤ v → v ≤ most_pages → Ranged k v
  due : k ≡ 6 → v ≤ latest_due → Ranged k v
  class : k ≡ 0 → v ≤ 7 → Ranged k v
  end : k ≡ 7 → Ranged k v

module _ (book : List ℕ) where
  -- The kind and the value of the word at a place.
  abbrev pub kind_at : ℕ → ℕ
  kind_at p = kind_of (word book p)

  abbrev pub value_at : ℕ → ℕ
  value_at p = value_of (word book p)

  -- The end word after n rows, one at least: it stands at the place where row n + 1 would begin.
  pub record EndsAfter (n : ℕ) : Type 0 where
    pub some_row : 1 ≤ n
    pub inside : 4 * n + 2 < length book
    pub is_end : kind_at (4 * n + 2) ≡ 7

  -- A word is due at a place: no end word stands before it.
  abbrev pub Due : ℕ → Type 0
  Due p = (n : ℕ) → 4 * n + 2 < p → ¬ EndsAfter n

  -- What turns a book down, by number and place.
  pub data Wrong : (number place : ℕ) → Type 0 where
    -- Cut: the book stops where a word is still due.
    cut : Due (length book) → Wrong by_cut (length book)
    -- Kind: another kind is due here.
    kind : (p : ℕ) → Due p → p < length book → ¬ Wants p (kind_at p) → Wrong by_kind p
    -- Range: the value lies outside of the kind's range.
    range : (p : ℕ) → Due p → p < length book → ¬ Ranged (kind_at p) (value_at p) → Wrong by_range p
    -- Twice: the number stands in an earlier row.
    twice : (i j : ℕ) → Due (4 * j + 2) → 4 * j + 2 < length book → kind_at (4 * j + 2) ≡ 3 → i < j →
        value_at (4 * i + 2) ≡ value_at (4 * j + 2) → Wrong by_twice (4 * j + 2)
    -- Full: a number word would open row 257.
    full : Due (4 * most_rows + 2) → 4 * most_rows + 2 < length book → kind_at (4 * most_rows + 2) ≡ 3 → Wrong by_full (4 * most_rows + 2)
    -- Count: the end word differs from the rows read.
    count : (n : ℕ) → Due (4 * n + 2) → EndsAfter n → ¬ (value_at (4 * n + 2) ≡ n) → Wrong by_count (4 * n + 2)
    -- Tail: a word follows the end word.
    tail : (n : ℕ) → Due (4 * n + 2) → EndsAfter n → 4 * n + 3 < length book → Wrong by_tail (4 * n + 3)

-- Words are tested from the first on; at one word the tests run 1, 2, 5, 3, 4, 6; then comes 7. The turn of each number.
abbrev pub turn : ℕ → ℕ
turn n = get_or (0 ∷ 1 ∷ 2 ∷ 4 ∷ 5 ∷ 3 ∷ 6 ∷ 7 ∷ []) n 0

-- The condition m at place q is looked at before the condition n at place p.
abbrev pub Earlier : (m q n p : ℕ) → Type 0
Earlier m q n p = (q < p) ⊎ ((q ≡ p) × (turn m < turn n))

-- The condition n holds at p, and no earlier one does.
pub record FirstWrong (book : List ℕ) (n p : ℕ) : Type 0 where
  pub wrong : Wrong book n p
  pub first : (m q : ℕ) → Wrong book m q → ¬ Earlier m q n p

-- Tests 1 to 7: a book is refused n at p exactly if the condition n holds at p and no earlier one does; and a book passes exactly if
-- nothing is wrong with it.
pub record WordsSettled (book : List ℕ) : Type 0 where
  pub refusals : (n p : ℕ) → (read_words book ≡ refused n p) ↔ FirstWrong book n p
  pub passes : ((day : Day) × (read_words book ≡ accepted day)) ↔ ((n p : ℕ) → ¬ Wrong book n p)
