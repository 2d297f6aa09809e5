-- What is lent for several desks: the run of books cut by their lengths, and what must be right of all that is lent.
-- Rests on: the schedule's limits.
use Rattle.std.specs.Prelude.{ℕ, ◌+◌, ◌≤◌, ◌<◌, Bool, true, not, ◌&&◌, ◌||◌, ◌≡◌, List, [], ◌∷◌, leb, ltb, eqb, length, take, drop}
use Rattle.schedule.specs.Limits.{most_opening, most_desks, latest_closing, largest_limit}
use Rattle.schedule.specs.Columns.{at}

-- The run, cut into books by their lengths; and the sum of these.
unfoldable pub books_of : (lengths run : List ℕ) → List (List ℕ)
books_of [] run = []
books_of (n ∷ ns) run = take n run ∷ books_of ns (drop n run)

unfoldable pub total : List ℕ → ℕ
total [] = 0
total (n ∷ ns) = n + total ns

-- Every closing minute is in its range.
unfoldable pub all_open : List ℕ → Bool
all_open [] = true
all_open (c ∷ cs) = leb c latest_closing && all_open cs

-- Refused 3 at place 0, at no desk: the opening, the limit, the desks' count or a closing minute outside, unequal counts, or lengths that
-- do not add up to a run of so many words.
unfoldable pub lent_amiss : (opening run : ℕ) (lengths closings : List ℕ) (limit : ℕ) → Bool
lent_amiss opening run lengths closings limit =
    ltb most_opening opening || (ltb largest_limit limit || (eqb (length lengths) 0 || (ltb most_desks (length lengths) ||
    (not (eqb (length closings) (length lengths)) || (not (all_open closings) || not (eqb (total lengths) run))))))

-- Beside it, what must be right.
pub record LentRight (opening run : ℕ) (lengths closings : List ℕ) (limit : ℕ) : Type 0 where
  pub in_opening : opening ≤ most_opening
  pub in_limit : limit ≤ largest_limit
  pub some_desk : 1 ≤ length lengths
  pub few_desks : length lengths ≤ most_desks
  pub even : length closings ≡ length lengths
  pub in_closing : (e : ℕ) → e < length closings → at closings e ≤ latest_closing
  pub adds_up : total lengths ≡ run

-- Opens every definition of this file: name it on an `unfolding` line where all is to be computed.
unfoldable pub open_lent : Unit {0}
unfolding books_of total all_open lent_amiss
open_lent = tt
