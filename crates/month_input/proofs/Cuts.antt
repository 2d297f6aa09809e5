-- The day at the start of some words, by the tests that the code makes. Assumes nothing.
use Prim.Native.Nat.{ℕ, suc, ◌+◌, ◌≤◌, ◌<◌}
use native.Mathlib.Omega.{arith}
use native.Mathlib.Decide.{dec_lt}
use mathlib.Core.Bool.{cond, ◌&&◌}
use mathlib.Core.Path.{◌≡◌, refl, ap, ◌∙◌}
use mathlib.Core.List.{List, [], ◌∷◌}
use borrow.Author.Tests.{le-leb, lt-leb}
use lib.Dec.{leb}
use lib.ListN.{length, take, drop, get_or, length-drop, drop_of_length-le}
use lib.Seq.{drop-cons, drop-drop}
use Rattle.month_input.specs.Layout.{whole, broken, most_book, most_posting, cut_posting, cut_day}
use Rattle.month_input.specs.Windows.{day_at}

pub cut_none : (words : List ℕ) → length words ≡ 0 → cut_day words ≡ broken
unfolding cut_day
cut_none [] h = refl
cut_none (w ∷ ws) h = absurd (omega arith)

-- The posting, from the word of its length on.
module _ (book words : List ℕ) (k : ℕ) where
  pub posting_none : length words ≤ k → cut_posting book (drop k words) ≡ broken
  unfolding cut_posting
  posting_none h = rw (drop_of_length-le words {i = k} h) refl

  module _ (h : k < length words) where
    abbrev p : ℕ
    p = get_or words k 0

    starts : cut_posting book (drop k words) ≡
        cond (leb p most_posting && leb p (length (drop (suc k) words)))
        (whole (record { book = book; posting = take p (drop (suc k) words) })) broken
    unfolding cut_posting
    starts = ap (cut_posting book) (drop-cons words k 0 h)

    pub posting_long : most_posting < p → cut_posting book (drop k words) ≡ broken
    posting_long l = starts ∙ (rw (lt-leb p most_posting l) refl)

    pub posting_short : p ≤ most_posting → length words < suc k + p → cut_posting book (drop k words) ≡ broken
    posting_short l s = starts ∙ (rw (le-leb p most_posting l, lt-leb p (length (drop (suc k) words)) (simp length-drop (omega arith))) refl)

    pub posting_whole : p ≤ most_posting → suc k + p ≤ length words →
        cut_posting book (drop k words) ≡ whole (record { book = book; posting = take p (drop (suc k) words) })
    posting_whole l s = starts ∙ (rw (le-leb p most_posting l, le-leb p (length (drop (suc k) words)) (simp length-drop (omega arith))) refl)

module _ (words : List ℕ) (h : 0 < length words) where
  abbrev b : ℕ
  b = get_or words 0 0

  book_starts : cut_day words ≡
      cond (leb b most_book && leb b (length (drop 1 words))) (cut_posting (take b (drop 1 words)) (drop (1 + b) words)) broken
  unfolding cut_day
  book_starts =
      ap cut_day (drop-cons words 0 0 h) ∙
      ap (λ (ws : List ℕ). cond (leb b most_book && leb b (length (drop 1 words))) (cut_posting (take b (drop 1 words)) ws) broken)
      (drop-drop b 1 words)

  pub book_long : most_book < b → cut_day words ≡ broken
  book_long l = book_starts ∙ (rw (lt-leb b most_book l) refl)

  module _ (l : b ≤ most_book) where
    book_whole : 1 + b ≤ length words → cut_day words ≡ cut_posting (take b (drop 1 words)) (drop (1 + b) words)
    book_whole s = book_starts ∙ (rw (le-leb b most_book l, le-leb b (length (drop 1 words)) (simp length-drop (omega arith))) refl)

    pub book_short : length words < b + 2 → cut_day words ≡ broken
    book_short s = step (dec_lt (length words) (1 + b))
      where
        step : Dec (length words < 1 + b) → cut_day words ≡ broken
        step (yes t) = book_starts ∙ (rw (le-leb b most_book l, lt-leb b (length (drop 1 words)) (simp length-drop (omega arith))) refl)
        step (no t) = book_whole (omega arith) ∙ posting_none (take b (drop 1 words)) words (1 + b) (omega arith)

    module _ (s : b + 2 ≤ length words) where
      abbrev q : ℕ
      q = get_or words (b + 1) 0

      first : cut_day words ≡ cut_posting (take b (drop 1 words)) (drop (b + 1) words)
      first =
          let e : 1 + b ≡ b + 1 = omega arith in
          book_whole (omega arith) ∙ ap (λ (k : ℕ). cut_posting (take b (drop 1 words)) (drop k words)) e

      pub day_posting_long : most_posting < q → cut_day words ≡ broken
      day_posting_long t = first ∙ posting_long (take b (drop 1 words)) words (b + 1) (omega arith) t

      pub day_posting_short : q ≤ most_posting → length words < b + q + 2 → cut_day words ≡ broken
      day_posting_short t r = first ∙ posting_short (take b (drop 1 words)) words (b + 1) (omega arith) t (omega arith)

      pub day_whole : q ≤ most_posting → b + q + 2 ≤ length words → cut_day words ≡ whole (day_at words b q)
      day_whole t r =
          let e : suc (b + 1) ≡ b + 2 = omega arith in
          first ∙
          (posting_whole (take b (drop 1 words)) words (b + 1) (omega arith) t (omega arith) ∙
          ap (λ (k : ℕ). whole (record { book = take b (drop 1 words); posting = take q (drop k words) })) e)
