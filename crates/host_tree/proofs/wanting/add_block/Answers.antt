-- One part more.
use Rattle.std.proofs.Common.{◌≡◌, [], ◌∷◌, subst, arith, rules}
use Rattle.std.proofs.lemmas.Grind.{common_steps}
use Rattle.disk_definitions.specs.declared.region.Region.TheVariants as region
use Rattle.disk_definitions.specs.Regions.{sector_of}
use Rattle.host_tree.specs.Wanting.{Adds}
use Rattle.host_tree.proofs.AddedSectors.{map_more}
use Rattle.host_tree.proofs.wanting.add_block.Goals as goal

pub loop-i-preserved : goal.loop-i-preserved
loop-i-preserved c =
    let read = c.args.read.now.entries in
    let i = c.loop-i.i in
    let at : c.sector_of.result.0 ≡ sector_of (region.Small c.args.block i) = first_of (search rules, grind (arith, common_steps), cc) in
    record {
      added = map_more read (λ part. sector_of (region.Small c.args.block part)) i c.args.wanted.now.entries c.loop-i.wanted.entries c.add_one.new.wanted.entries c.loop-i.invariant.added
          (subst (λ s. Adds read (s ∷ []) c.loop-i.wanted.entries c.add_one.new.wanted.entries) at c.add_one.ensures.added);
      spare = omega (arith, c.loop-i.invariant.spare, c.add_one.ensures.spare);
    }
