-- The segments are held, or one is needed; and the edits are those of the plan.
use Rattle.std.proofs.Common.{◌≡◌, ℕ, Err, subst, sym, rules}
use Rattle.disk_definitions.specs.Store.{stored}
use Rattle.disk_definitions.specs.NamePlans.{fewer_segments, finish_over, removed_by}
use Rattle.dir_lookup.specs.Hands.{over}
use Rattle.plan_steps.specs.declared.stop.Stop.TheVariants as stop
use Rattle.plan_steps.specs.Ends.{Comes}
use Rattle.plan_steps.proofs.Ending.{comes_done}
use Rattle.op_dir.proofs.removing.remove.Goals as goal

pub returns-in_err-segments_needed-clause-comes : goal.returns-in_err-segments_needed-clause-comes
returns-in_err-segments_needed-clause-comes c dirs =
    let from = c.args.from.now in
    let j : ℕ = c.args.node.now.number in
    let y = stored c.args.node.now.inode in
    let f = removed_by from.directory.number (stored from.directory.inode) from.found.place j y dirs in
    let need = c.in_err-segments_needed.field-0.0 in
    let o : c.from_residual.result ≡ Err (stop.Need need.0) = search rules in
    subst (Comes (over (finish_over (fewer_segments j y) f) c.args.hand.now)) (sym o) (c.in_err-segments_needed.ensures.over f)

pub returns-clause-comes : goal.returns-clause-comes
returns-clause-comes c dirs =
    let from = c.args.from.now in
    let j : ℕ = c.args.node.now.number in
    let y = stored c.args.node.now.inode in
    let f = removed_by from.directory.number (stored from.directory.inode) from.found.place j y dirs in
    let d = c.in_ok-removed.ensures in
    comes_done (over (finish_over (fewer_segments j y) f) c.args.hand.now) f c.in_ok-removed.field-0 (c.in_ok-segments_needed.ensures.over f) d.reply d.edits

pub returns-in_err-segments_needed-clause-looks : goal.returns-in_err-segments_needed-clause-looks
returns-in_err-segments_needed-clause-looks c dirs m =
    let from = c.args.from.now in
    let j : ℕ = c.args.node.now.number in
    let y = stored c.args.node.now.inode in
    let f = removed_by from.directory.number (stored from.directory.inode) from.found.place j y dirs in
    c.in_err-segments_needed.ensures.looks f

pub returns-in_err-removed-clause-looks : goal.returns-in_err-removed-clause-looks
returns-in_err-removed-clause-looks c dirs m = absurd (m (search rules))

pub returns-clause-looks : goal.returns-clause-looks
returns-clause-looks c dirs m =
    let from = c.args.from.now in
    let j : ℕ = c.args.node.now.number in
    let y = stored c.args.node.now.inode in
    let f = removed_by from.directory.number (stored from.directory.inode) from.found.place j y dirs in
    c.in_ok-segments_needed.ensures.looks f
