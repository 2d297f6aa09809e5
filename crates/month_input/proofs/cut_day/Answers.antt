-- `cut_day` meets its contract: each test by its law.
use Rattle.std.proofs.Common.{rules, arith, ◌≡◌, ◌∙◌, ◌+◌, ◌≤◌, ◌<◌, length, get_or, ap, sym}
use Rattle.month_input.specs.Layout.{whole}
use Rattle.month_input.specs.Windows.{day_at}
use Rattle.month_input.proofs.Cuts.{cut_none, book_long, book_short, day_posting_long, day_posting_short, day_whole}
use Rattle.month_input.proofs.cut_day.Goals as goal

pub returns-in_err-book : goal.returns-in_err-book
returns-in_err-book c =
    let e : length c.args.words.now ≡ 0 = search rules in
    rw c.from_residual.ensures (cut_none c.args.words.now e, tt)

pub returns-then-book-gt-BOOK : goal.returns-then-book-gt-BOOK
returns-then-book-gt-BOOK c =
    let some : 0 < length c.args.words.now = search rules in
    let b : c.in_ok-book.field-0.now ≡ get_or c.args.words.now 0 0 = search rules in
    (book_long c.args.words.now some (omega arith), tt)

pub returns-in_err-posting : goal.returns-in_err-posting
returns-in_err-posting c =
    let some : 0 < length c.args.words.now = search rules in
    let b : c.in_ok-book.field-0.now ≡ get_or c.args.words.now 0 0 = search rules in
    let short : length c.args.words.now ≤ c.in_ok-book.field-0.now + 1 = search rules in
    rw c.from_residual-in_err-posting.ensures (book_short c.args.words.now some (omega arith) (omega arith), tt)

pub returns-then-posting-gt-POSTING : goal.returns-then-posting-gt-POSTING
returns-then-posting-gt-POSTING c =
    let words = c.args.words.now in
    let some : 0 < length c.args.words.now = search rules in
    let b : c.in_ok-book.field-0.now ≡ get_or c.args.words.now 0 0 = search rules in
    let long : c.in_ok-book.field-0.now + 1 < length c.args.words.now = search rules in
    let p : c.in_ok-posting.field-0.now ≡ get_or c.args.words.now (c.in_ok-book.field-0.now + 1) 0 = search rules in
    let q = p ∙ ap (λ k. get_or words (k + 1) 0) b in
    (day_posting_long words some (omega arith) (omega arith) (omega (arith, q)), tt)

pub returns-then-words-book : goal.returns-then-words-book
returns-then-words-book c =
    let words = c.args.words.now in
    let some : 0 < length c.args.words.now = search rules in
    let b : c.in_ok-book.field-0.now ≡ get_or c.args.words.now 0 0 = search rules in
    let long : c.in_ok-book.field-0.now + 1 < length c.args.words.now = search rules in
    let p : c.in_ok-posting.field-0.now ≡ get_or c.args.words.now (c.in_ok-book.field-0.now + 1) 0 = search rules in
    let q = p ∙ ap (λ k. get_or words (k + 1) 0) b in
    (day_posting_short words some (omega arith) (omega arith) (omega (arith, q)) (omega (arith, q)), tt)

pub returns : goal.returns
returns c =
    let words = c.args.words.now in
    let some : 0 < length c.args.words.now = search rules in
    let b : c.in_ok-book.field-0.now ≡ get_or c.args.words.now 0 0 = search rules in
    let long : c.in_ok-book.field-0.now + 1 < length c.args.words.now = search rules in
    let p : c.in_ok-posting.field-0.now ≡ get_or c.args.words.now (c.in_ok-book.field-0.now + 1) 0 = search rules in
    let q = p ∙ ap (λ k. get_or words (k + 1) 0) b in (
      day_whole words some (omega arith) (omega arith) (omega (arith, q)) (omega (arith, q)) ∙ (λ i. whole (day_at words (sym b i) (sym q i))),
      (omega arith, omega arith, omega arith),
    )
