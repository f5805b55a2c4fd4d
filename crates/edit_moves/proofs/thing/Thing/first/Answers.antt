-- By what the thing is.
use Rattle.std.proofs.Common.{sym, ap, ◌∙◌}
use Rattle.edit_moves.proofs.Sectors.{first_of, in_turn}
use Rattle.edit_moves.proofs.thing.Thing.first.Goals as goal

pub returns-in-Inode : goal.returns-in-Inode
returns-in-Inode c = in_turn c.args.self.now c.sector_of.result.0 (c.sector_of.ensures ∙ ap first_of (sym c.in-Inode.is))

pub returns-in-Small : goal.returns-in-Small
returns-in-Small c = in_turn c.args.self.now c.sector_of-in-Small.result.0 (c.sector_of-in-Small.ensures ∙ ap first_of (sym c.in-Small.is))

pub returns-in-Large : goal.returns-in-Large
returns-in-Large c = in_turn c.args.self.now c.sector_of-in-Large.result.0 (c.sector_of-in-Large.ensures ∙ ap first_of (sym c.in-Large.is))
