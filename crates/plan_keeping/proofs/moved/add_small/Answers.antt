-- Part after part, until all are listed.
use Rattle.std.proofs.Common.{◌≡◌, ◌+◌, ◌*◌, ℕ, arith, subst}
use Rattle.frang_base.specs.declared.limits.TheConstants.{SMALL_BLOCK_SECTORS}
use Rattle.disk_definitions.specs.Regions.{small_blocks_from}
use Rattle.edit_moves.specs.declared.thing.Thing.TheVariants as thing
use Rattle.plan_keeping.specs.Moved.{Covers, is_part, over}
use Rattle.plan_keeping.proofs.Listed.{all_parts, small_here, part_more}
use Rattle.plan_keeping.proofs.moved.add_small.Goals as goal

pub loop-part-preserved : goal.loop-part-preserved
loop-part-preserved c before covers =
    let own = thing.Small c.args.block in
    let first : ℕ = small_blocks_from + c.args.block * SMALL_BLOCK_SECTORS in
    part_more c.args.segments own c.args.lock before first c.loop-part.part c.sector_of-sector.result c.add_sector.new.list.items c.sector_of-sector.ensures
    (c.in_ok-add_sector.ensures (over (is_part c.args.segments own first c.loop-part.part) c.args.lock before) (c.loop-part.invariant before covers))

pub returns : goal.returns
returns c before covers =
    let own = thing.Small c.args.block in
    let first : ℕ = small_blocks_from + c.args.block * SMALL_BLOCK_SECTORS in
    let end : c.loop-part.part ≡ SMALL_BLOCK_SECTORS = omega (arith, c.loop-part-test.false, c.loop-part.auto.part-end) in
    all_parts c.args.segments own c.args.lock before first SMALL_BLOCK_SECTORS c.loop-part.list.items (small_here c.args.segments c.args.block)
    (subst (λ n. Covers c.loop-part.list.items (over (is_part c.args.segments own first n) c.args.lock before)) end (c.loop-part.invariant before covers))
