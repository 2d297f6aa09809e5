-- `follow` meets its contract: from each place of the posting on, the rest leads where all of it leads from the start.
-- Assumes nothing.
use lib.ListN.{get_or}
use Rattle.schedule.specs.Columns.{columns}
use Rattle.arrival.proofs.Following.{following_first, following_next, following_last, may_follow}
use Rattle.arrival.proofs.follow.Goals as goal

pub loop-row-init : goal.loop-row-init
loop-row-init c =
    let a = c.args in
    following_first (columns a.release.now a.minutes.now a.due.now) a.free a.posting.now
    c.requires.ends_in_time.1 c.requires.ends_in_time.0 c.at-desk.result c.at-desk.ensures

pub take-desk-requires : goal.take-desk-requires
take-desk-requires c =
    let a = c.args in
    may_follow (columns a.release.now a.minutes.now a.due.now) a.free a.posting.now
    c.requires.limits
    c.loop-row.desk c.loop-row.row-index
    c.loop-row.invariant
    (get_or a.posting.now c.loop-row.row-index 0)

pub loop-row-preserved : goal.loop-row-preserved
loop-row-preserved c =
    let a = c.args in
    following_next (columns a.release.now a.minutes.now a.due.now) a.free a.posting.now
    c.requires.limits
    c.loop-row.desk c.loop-row.row-index
    c.loop-row.invariant c.loop-row-test.true
    c.take-desk.result c.take-desk.ensures

pub returns : goal.returns
returns c =
    let a = c.args in
    following_last (columns a.release.now a.minutes.now a.due.now) a.free a.posting.now
    c.requires.limits c.loop-row.desk c.loop-row.row-index c.loop-row.invariant c.loop-row-test.false
