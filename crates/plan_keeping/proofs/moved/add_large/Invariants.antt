-- The parts so far come under the lock.
use Rattle.std.proofs.Common.{◌+◌, ◌*◌, ℕ, Option}
use Rattle.frang_base.specs.declared.lock.LockId.{LockId}
use Rattle.disk_definitions.specs.Regions.{large_blocks_from, large_stride}
use Rattle.edit_moves.specs.declared.thing.Thing.TheVariants as thing
use Rattle.plan_keeping.specs.Moved.{Covers, is_part, over}
use Rattle.plan_keeping.proofs.moved.add_large.Given as goal

abbrev pub invariant-loop-part : goal.invariant-loop-part
invariant-loop-part l = (before : ℕ → Option LockId) → Covers l.fn.list.items before
    → Covers l.list.items (over (is_part l.segments (thing.Large l.block) (large_blocks_from + l.block * large_stride) l.part) l.lock before)
