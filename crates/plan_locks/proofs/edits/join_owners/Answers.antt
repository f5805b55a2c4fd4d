-- A node that has the block joins, and another doesn't.
use Rattle.std.proofs.Common.{◌<◌, ℕ, Bool, filter, length, sym, ◌∙◌}
use Rattle.set_definitions.specs.Sets.{joined_all}
use Rattle.disk_definitions.specs.Plans.{sole_nodes}
use Rattle.disk_definitions.specs.FoundLocks.{owns_at_hand}
use Rattle.plan_locks.proofs.Joined.{owner_joins, owner_stays}
use Rattle.plan_locks.proofs.edits.join_owners.Goals as goal
use Rattle.plan_locks.proofs.edits.join_owners.Goals.{then-owns+in_ok-join, else-owns}

pub loop-node-preserved : goal.loop-node-preserved
loop-node-preserved c =
    let test : ℕ → Bool = λ inode. owns_at_hand c.args.sectors.now.entries inode c.args.block in
    let xs = c.args.nodes.now in
    let i = c.loop-node.node-index in
    let all = joined_all c.args.set.now (sole_nodes (filter test xs)) in
    let l : i < length xs = c.loop-node-test.true in
    elim c.if-owns.branch [
      | then-owns+in_ok-join w ↦ owner_joins test c.loop-node.set c.if-owns.set xs i all l c.loop-node.invariant (sym c.owns_small-owns.ensures ∙ w.if-owns.true) (w.set-is ∙ w.in_ok-join.ensures.ok)
      | else-owns w ↦ owner_stays test c.loop-node.set c.if-owns.set xs i all l c.loop-node.invariant (sym c.owns_small-owns.ensures ∙ w.if-owns.false) w.set-is
    ]
