-- The box of the sector holds the block.
use Rattle.std.proofs.Common.{refl}
use Rattle.std.specs.Box.{box_value, with_value}
use Rattle.meta_version.proofs.Opening.{written_over}
use Rattle.meta_version.proofs.sectors.write.Goals as goal

pub returns-clause-entries : goal.returns-clause-entries
returns-clause-entries c =
    written_over box_value c.args.blocks.now.entries c.change.new.self.entries c.args.sector.0 (λ kept. with_value kept c.args.block) c.args.block (λ kept. refl) c.requires c.change.ensures.entries
