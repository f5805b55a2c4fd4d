-- The parts so far come under the lock.
use Rattle.std.proofs.Common.{◌+◌, ◌*◌, ℕ, Option}
use Rattle.frang_base.specs.declared.limits.TheConstants.{SMALL_BLOCK_SECTORS}
use Rattle.frang_base.specs.declared.lock.LockId.{LockId}
use Rattle.disk_definitions.specs.Regions.{small_blocks_from}
use Rattle.edit_moves.specs.declared.thing.Thing.TheVariants as thing
use Rattle.plan_keeping.specs.Moved.{Covers, is_part, over}
use Rattle.plan_keeping.proofs.moved.add_small.Given as goal

abbrev pub invariant-loop-part : goal.invariant-loop-part
invariant-loop-part l = (before : ℕ → Option LockId) → Covers l.fn.list.items before
    → Covers l.list.items (over (is_part l.segments (thing.Small l.block) (small_blocks_from + l.block * SMALL_BLOCK_SECTORS) l.part) l.lock before)
