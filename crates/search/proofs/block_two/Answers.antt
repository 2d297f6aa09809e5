-- `block_two` meets its contract: the block that the second pick begins.
-- Assumes nothing.
use Rattle.search.proofs.Picked.{second_mem, torn_second}
use Rattle.search.proofs.Blocks.{two_ran}
use Rattle.search.proofs.block_two.Goals as goal

pub picks-p-requires : goal.picks-p-requires
picks-p-requires c =
    (c.requires.tables.few, (_, _, _, c.requires.tables, c.requires.by_index.0.1.stands))

pub block_on-requires : goal.block_on-requires
block_on-requires c =
    let g = c.requires.by_index.0 in
    let q = c.picks-p.ensures _ _ _ c.requires.tables g.1.stands g.1.late in record {
      limits = c.requires.limits;
      tables = c.requires.tables;
      by_index = (
        (
          _,
          g.1,
          second_mem _ _ _ c.requires.tables _ _ g.1 _ q.1
              (torn_second _ _ _ c.requires.tables _ _ g.1 _ _ q.0 q.1 g.2),
        ),
        c.requires.by_index.1,
      );
    }

pub returns : goal.returns
returns c = λ rest g torn.
    let q = c.picks-p.ensures _ _ _ c.requires.tables g.stands g.late in
    let b = c.block_on.ensures rest g (second_mem _ _ _ c.requires.tables _ _ g _ q.1
    (torn_second _ _ _ c.requires.tables _ _ g _ _ q.0 q.1 torn)) in
    (b.0, two_ran _ _ _ _ rest _ _ q.1 _ _ _ b.1)
