-- The numbers of the table of refusals.
-- Rests on: nothing.
use Rattle.std.specs.Prelude.{ℕ}

-- 1, cut: the book stops where a word is still due.
abbrev pub by_cut : ℕ
by_cut = 1

-- 2, kind: another kind is due here.
abbrev pub by_kind : ℕ
by_kind = 2

-- 3, range: the value lies outside of the kind's range.
abbrev pub by_range : ℕ
by_range = 3

-- 4, twice: the number stands in an earlier row.
abbrev pub by_twice : ℕ
by_twice = 4

-- 5, full: a number word would open row 257.
abbrev pub by_full : ℕ
by_full = 5

-- 6, count: the end word differs from the rows read.
abbrev pub by_count : ℕ
by_count = 6

-- 7, tail: a word follows the end word.
abbrev pub by_tail : ℕ
by_tail = 7

-- 8, disorder: two rows disagree.
abbrev pub by_disorder : ℕ
by_disorder = 8

-- 9, narrow: the result buffer is too short.
abbrev pub by_narrow : ℕ
by_narrow = 9

-- 10, not a posting: not every row once.
abbrev pub by_not_posting : ℕ
by_not_posting = 10

-- 11, unlisted: no row or plan of that number.
abbrev pub by_unlisted : ℕ
by_unlisted = 11

-- 12, unkept: no order keeps the bound.
abbrev pub by_unkept : ℕ
by_unkept = 12

-- 13, crossed: two rows cross.
abbrev pub by_crossed : ℕ
by_crossed = 13

-- 14, done: the row was started before.
abbrev pub by_done : ℕ
by_done = 14

-- 15, early: the minute of a start is before the desk's minute or the release, or past 20,000,000.
abbrev pub by_early : ℕ
by_early = 15

-- 16, overtime: no orders of the desks keep the overtime limit.
abbrev pub by_overtime : ℕ
by_overtime = 16

-- 17, unreachable: not even free minute 0 allows the wanted end and lateness.
abbrev pub by_unreachable : ℕ
by_unreachable = 17
