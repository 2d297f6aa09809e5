-- `list_by_rank` meets its contract: the list of the rows by rank is that of the rows.
-- Assumes nothing.
use mathlib.Core.Path.{refl}
use Rattle.plans.proofs.Ranked.{limits_ranked, tables, agreeing_ranked, listed_ranked}
use Rattle.plans.proofs.list_by_rank.Goals as goal

pub tables-requires : goal.tables-requires
tables-requires c = record { limits = c.requires.limits; n_le_most_rows = (c.requires.le_n.1, refl, refl, refl, refl, refl) }

pub list_ranked-requires : goal.list_ranked-requires
list_ranked-requires c =
    let t = c.tables.ensures in record { limits = limits_ranked t c.requires.limits; tables = tables t c.requires.limits c.requires.le_n.1; le_n = (c.requires.le_n.0, c.requires.le_n.2, agreeing_ranked t c.requires.limits c.requires.le_n.3) }

pub returns : goal.returns
returns c =
    listed_ranked c.tables.ensures c.requires.limits c.requires.le_n.0 c.requires.le_n.1 _ c.requires.le_n.2 c.requires.le_n.3 _
    c.list_ranked.ensures
