-- A segment of the set is passed over, one that is held sole is the answer, and another one is noted.
use Rattle.std.proofs.Common.{sym, ◌∙◌, ap, ◌<◌, filter, arith}
use Rattle.tree_definitions.specs.Numbers.{below}
use Rattle.lock_definitions.specs.Holders.{next_among}
use Rattle.lock_table.specs.Looks.{noted}
use Rattle.lock_table.proofs.Looking.{is_outside, walk_begins, walk_passes, walk_notes}
use Rattle.lock_table.proofs.table.LockTable.next_segment.Goals as goal
use Rattle.lock_table.proofs.table.LockTable.next_segment.Goals.{then-not-has_lock+else-is_sole, else-not-has_lock}

pub loop-segment-init : goal.loop-segment-init
loop-segment-init c = walk_begins c.args.self.now.locks c.args.server.0 c.args.set.now c.nothing-found.result c.args.segments c.nothing-found.ensures

pub loop-segment-preserved : goal.loop-segment-preserved
loop-segment-preserved c =
    let locks = c.args.self.now.locks in
    let server = c.args.server.0 in
    let set = c.args.set.now in
    let n = c.args.segments in
    let all = next_among locks server (filter (is_outside locks server set) (below n)) in
    let inside : c.loop-segment.segment < n = omega arith in
    elim c.if-not-has_lock.branch [
      | then-not-has_lock+else-is_sole w ↦ walk_notes locks server set c.loop-segment.found c.loop-segment.segment n all inside c.loop-segment.invariant c.if-not-has_lock.found
          (sym c.has_lock.ensures ∙ w.if-not-has_lock.true) (sym w.is_sole.ensures ∙ w.if-is_sole.false)
          (w.found-is ∙ w.noting-found.ensures ∙ ap (noted c.loop-segment.found c.loop-segment.segment) w.is_unheld.ensures)
      | else-not-has_lock w ↦ walk_passes locks server set c.loop-segment.found c.loop-segment.segment n all inside c.loop-segment.invariant c.if-not-has_lock.found
          (sym c.has_lock.ensures ∙ w.if-not-has_lock.false) w.found-is
    ]
