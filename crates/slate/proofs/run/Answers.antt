-- What is written is what is shown of the bytes that were read, and so of the whole input.
use Rattle.std.proofs.Common.{rules}
use Rattle.slate.proofs.Whole.{whole_shown, shown_written}
use Rattle.slate.proofs.run.Goals as goal

pub returns : goal.returns
returns g c =
    let read = c.in_ok-size.ensures in
    shown_written _ _ _ _ _ c.write_all.ensures.bytes
    (rw c.fill-count.ensures.holds (whole_shown _ _ _ c.read_full.new.buf (search rules) read.in_bounds.0 read.bytes read.end))
