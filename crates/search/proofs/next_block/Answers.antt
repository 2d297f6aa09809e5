-- `next_block` meets its contract: block one, and where a lateness of it is above the bound, block two from the same desk.
-- Assumes nothing.
use native.Mathlib.Omega.{arith}
use Rattle.search.proofs.Picked.{first_mem, second_mem, torn_first, torn_second}
use Rattle.search.proofs.Blocks.{stepped_one, stepped_two}
use Rattle.search.proofs.next_block.Goals as goal

pub picks-p-requires : goal.picks-p-requires
picks-p-requires c =
    (c.requires.tables.few, (_, _, _, c.requires.tables, c.requires.by_index.0.1.stands))

pub block_on-one-requires : goal.block_on-one-requires
block_on-one-requires c =
    let g = c.requires.by_index.0 in
    let q = c.picks-p.ensures _ _ _ c.requires.tables g.1.stands g.1.late in record {
      limits = c.requires.limits;
      tables = c.requires.tables;
      by_index = (
        (
          _,
          g.1,
          first_mem _ _ _ c.requires.tables _ _ g.1 _ q.0
              (torn_first _ _ _ c.requires.tables _ _ g.1 _ _ q.0 q.1 g.2),
        ),
        c.requires.by_index.1,
      );
    }

pub returns-then-one-bound : goal.returns-then-one-bound
returns-then-one-bound c = λ rest g torn.
    let q = c.picks-p.ensures _ _ _ c.requires.tables g.stands g.late in
    let m = first_mem _ _ _ c.requires.tables _ _ g _ q.0 (torn_first _ _ _ c.requires.tables _ _ g _ _ q.0 q.1 torn) in
    stepped_one _ _ _ _ rest _ _ _ q.0 _ _ (c.block_on-one.ensures rest g m) (omega (arith, c.if-one-bound.true))

pub block_on-two-requires : goal.block_on-two-requires
block_on-two-requires c =
    let g = c.requires.by_index.0 in
    let q = c.picks-p.ensures _ _ _ c.requires.tables g.1.stands g.1.late in
    let m = first_mem _ _ _ c.requires.tables _ _ g.1 _ q.0 (torn_first _ _ _ c.requires.tables _ _ g.1 _ _ q.0 q.1 g.2) in record {
      limits = c.requires.limits;
      tables = c.requires.tables;
      by_index = (
        (
          _,
          g.1,
          second_mem _ _ _ c.requires.tables _ _ g.1 _ q.1
              (torn_second _ _ _ c.requires.tables _ _ g.1 _ _ q.0 q.1 g.2),
        ),
        (c.block_on-one.ensures _ g.1 m).1.places,
      );
    }

pub returns : goal.returns
returns c = λ rest g torn.
    let q = c.picks-p.ensures _ _ _ c.requires.tables g.stands g.late in
    let m = first_mem _ _ _ c.requires.tables _ _ g _ q.0 (torn_first _ _ _ c.requires.tables _ _ g _ _ q.0 q.1 torn) in
    let k = second_mem _ _ _ c.requires.tables _ _ g _ q.1 (torn_second _ _ _ c.requires.tables _ _ g _ _ q.0 q.1 torn) in
    stepped_two _ _ _ _ rest _ _ _ q.0 _ _ (c.block_on-one.ensures rest g m)
    c.if-one-bound.false _ q.1 _ _ (c.block_on-two.ensures rest g k)
