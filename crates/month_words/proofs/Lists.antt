-- Laws of lists behind their lengths: one put, and one that stays as others are put behind it.
-- Assumes nothing.
use Prim.Native.Nat.{ℕ, ◌+◌, ◌*◌, ◌≤◌, ◌<◌}
use mathlib.Core.Path.{◌≡◌, subst, ◌∙◌}
use mathlib.Core.List.{List}
use native.Mathlib.Omega.{arith}
use lib.ListN.{length, get_or}
use Rattle.word_bytes.specs.Written.{Put, Written}
use Rattle.word_bytes.proofs.Bytes.{word_kept}
use Rattle.month_words.specs.Days.{ListAt, PutList, PutDay}

pub list_put : {r at : ℕ} {words before between after : List ℕ} → Put at (length words) before between →
    Written r (at + 4) words between after → PutList r at words before after
list_put {at = at} {before = before} {between = between} {after = after} p w = record {
  end = w.end;
  room = w.room ∙ p.room;
  list = record { count = word_kept between after (at + 4) at (omega arith) w.kept ∙ p.holds; each = w.each };
  kept = λ i h. w.kept i (omega arith) ∙ p.kept i h;
}

-- The list ends before the first byte that changes.
list_stays : (n at : ℕ) (words before after : List ℕ) → at + 4 + 4 * length words ≤ n →
    ((i : ℕ) → i < n → get_or after i 0 ≡ get_or before i 0) → ListAt at words before → ListAt at words after
list_stays n at words before after h kept l = record {
  count = word_kept before after n at (omega arith) kept ∙ l.count;
  each = λ k g. word_kept before after n (at + 4 + 4 * k) (omega arith) kept ∙ l.each k g;
}

pub day_put : {r next at : ℕ} {book posting before between after : List ℕ} → PutList next at book before between →
    PutList r next posting between after → PutDay r at book posting before after
day_put {next = next} {at = at} {book = book} {posting = posting} {between = between} {after = after} b p = record {
  end = omega (arith, b.end, p.end);
  room = p.room ∙ b.room;
  first = list_stays next at book between after (omega (arith, b.end)) p.kept b.list;
  second = subst (λ (n : ℕ). ListAt n posting after) b.end p.list;
  kept = λ i h. p.kept i (omega (arith, b.end)) ∙ b.kept i h;
}
