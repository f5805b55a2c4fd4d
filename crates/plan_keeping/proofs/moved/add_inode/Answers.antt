-- An inode has one sector.
use Rattle.std.proofs.Common.{◌∙◌}
use Rattle.edit_moves.specs.declared.thing.Thing.TheVariants as thing
use Rattle.plan_keeping.proofs.Listed.{inode_here, only_this}
use Rattle.plan_keeping.proofs.moved.add_inode.Goals as goal

pub returns : goal.returns
returns c before covers =
    only_this c.args.segments (thing.Inode c.args.number) c.args.lock before c.sector_of-sector.result.0 c.add_sector.new.list.items
    (λ s at. c.sector_of-sector.ensures ∙ inode_here c.args.segments c.args.number s at) (c.in_ok-add_sector.ensures before covers)
