-- By each server, and then by the host.
use Rattle.std.proofs.Common.{◌≡◌, ℕ, arith, subst}
use Rattle.std.specs.List.{flat_map}
use Rattle.std.proofs.lemmas.Result.{on_ok_weaker}
use Rattle.tree_definitions.specs.Numbers.{below}
use Rattle.core_definitions.specs.EndGuards.{may_recover}
use Rattle.core_definitions.specs.Enabled.{only}
use Rattle.core_definitions.specs.Events.{Recover}
use Rattle.world_list.specs.Listing.{Adds}
use Rattle.world_list.proofs.RowsAdded.{recover_added, recover_more}
use Rattle.world_list.proofs.recoveries.push_recover.Goals as goal
use Rattle.world_state.specs.States.{core_at}

pub loop-number-preserved : goal.loop-number-preserved
loop-number-preserved c =
    recover_more c.args.world.now c.args.dead.0 c.args.list.now.items c.loop-number.list.items c.push_if.new.list.items c.loop-number.number c.may_recover.result c.may_recover.ensures c.loop-number.invariant c.in_ok-push_if.ensures

pub returns : goal.returns
returns c =
    let all : c.loop-number.number ≡ 16 = omega arith in
    on_ok_weaker c.push_if-2.result
    (recover_added c.args.world.now c.args.dead.0 c.args.list.now.items c.loop-number.list.items c.push_if-2.new.list.items c.may_recover-2.result c.may_recover-2.ensures
    (subst (λ (n : ℕ). Adds c.args.list.now.items c.loop-number.list.items (flat_map (λ by. only (may_recover (core_at c.args.world.now) c.args.dead.0 by) (Recover c.args.dead.0 by)) (below n))) all c.loop-number.invariant))
    c.push_if-2.ensures
