-- Block after block, the last first.
use Rattle.std.proofs.Common.{◌-◌, ℕ, slice_index, refl, arith}
use Rattle.bitmap_block.specs.States.{state_number}
use Rattle.disk_definitions.specs.Store.{use_by}
use Rattle.disk_definitions.specs.Changes as changes
use Rattle.plan_steps.specs.Edits.{edits_of}
use Rattle.plan_steps.proofs.Editing.{one_less}
use Rattle.plan_steps.proofs.nodes.drop_blocks.Goals as goal

pub loop-left-preserved : goal.loop-left-preserved
loop-left-preserved c =
    let small : ℕ → ℕ = slice_index c.args.inode.now.small in
    record {
      few = omega (arith, c.loop-left.invariant.few);
      rest =
          one_less small (changes.freed c.args.inode.now.kind) c.loop-left.left (edits_of c.loop-left.edits.items) (edits_of c.push.new.edits.items) _
          (small (c.loop-left.left - 1)) (use_by (state_number c.state_freed-state.result)) c.loop-left-test.true c.in_ok-push.ensures.ok refl c.state_freed-state.ensures c.loop-left.invariant.rest;
    }
