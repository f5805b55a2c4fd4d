-- Part after part, until all are listed.
use Rattle.std.proofs.Common.{◌≡◌, ◌+◌, ◌*◌, ℕ, arith, subst}
use Rattle.frang_base.specs.declared.limits.TheConstants.{LARGE_BLOCK_SECTORS}
use Rattle.disk_definitions.specs.Regions.{large_blocks_from, large_stride}
use Rattle.edit_moves.specs.declared.thing.Thing.TheVariants as thing
use Rattle.plan_keeping.specs.Moved.{Covers, is_part, over}
use Rattle.plan_keeping.proofs.Listed.{all_parts, large_here, part_more}
use Rattle.plan_keeping.proofs.moved.add_large.Goals as goal

pub loop-part-preserved : goal.loop-part-preserved
loop-part-preserved c before covers =
    let own = thing.Large c.args.block in
    let first : ℕ = large_blocks_from + c.args.block * large_stride in
    part_more c.args.segments own c.args.lock before first c.loop-part.part c.sector_of-sector.result c.add_sector.new.list.items c.sector_of-sector.ensures
    (c.in_ok-add_sector.ensures (over (is_part c.args.segments own first c.loop-part.part) c.args.lock before) (c.loop-part.invariant before covers))

pub returns : goal.returns
returns c before covers =
    let own = thing.Large c.args.block in
    let first : ℕ = large_blocks_from + c.args.block * large_stride in
    let end : c.loop-part.part ≡ LARGE_BLOCK_SECTORS = omega (arith, c.loop-part-test.false, c.loop-part.auto.part-end) in
    all_parts c.args.segments own c.args.lock before first LARGE_BLOCK_SECTORS c.loop-part.list.items (large_here c.args.segments c.args.block)
    (subst (λ n. Covers c.loop-part.list.items (over (is_part c.args.segments own first n) c.args.lock before)) end (c.loop-part.invariant before covers))
