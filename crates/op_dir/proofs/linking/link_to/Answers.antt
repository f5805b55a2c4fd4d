-- By where the second path leads.
use Rattle.std.proofs.Common.{◌≡◌, ℕ, Some, Err, subst, sym, ap, refl, ◌∙◌, rules, List, []}
use Rattle.frang_base.specs.declared.reply.Reply.TheVariants as reply
use Rattle.disk_definitions.specs.Store.{stored}
use Rattle.disk_definitions.specs.Ask.{ReadInode}
use Rattle.disk_definitions.specs.Plans.{Plan, refuse}
use Rattle.disk_definitions.specs.NamePlans.{linking_node, linking_to}
use Rattle.dir_lookup.specs.Reading.{Read, Gives, reading}
use Rattle.dir_lookup.specs.declared.spot.Spot.{Spot}
use Rattle.dir_lookup.specs.Spots.{spot_of}
use Rattle.plan_steps.specs.Ends.{Comes}
use Rattle.dir_lookup.specs.Hands.{seen}
use Rattle.plan_steps.proofs.Ending.{comes_as, node_read, node_stops, stops_as, refuses}
use Rattle.dir_lookup.proofs.Looking.{adds_as, adds_none}
use Rattle.plan_steps.proofs.Looking.{then_looks}
use Rattle.disk_definitions.specs.LookedAt.{examined}
use Rattle.op_dir.proofs.linking.link_to.Goals as goal

pub returns-in_err-inode-in-AtGap-clause-comes : goal.returns-in_err-inode-in-AtGap-clause-comes
returns-in_err-inode-in-AtGap-clause-comes c dirs =
    let cached = c.args.hand.now.sectors.now.entries in
    let held = c.args.hand.now.held.now in
    let h = seen c.args.hand.now in
    let j : ℕ = c.args.number in
    let plan : Spot → Read Plan = λ s. reading (linking_to h j dirs (spot_of s)) cached held in
    let f = linking_node h c.in-AtGap.directory.number (stored c.in-AtGap.directory.inode) c.in-AtGap.name j dirs in
    let stop = c.in_err-inode-in-AtGap.field-0.0 in
    let e : c.from_residual.result ≡ Err stop = search rules in
    subst (Comes (plan c.args.spot.now)) (sym e)
    (stops_as (plan c.args.spot.now) (reading (ReadInode j f) cached held) stop (ap plan c.in-AtGap.is) (node_stops cached held j dirs f refl stop (c.in_err-inode-in-AtGap.ensures.finds held)))

pub returns-in_ok-inode-in-AtGap-clause-comes : goal.returns-in_ok-inode-in-AtGap-clause-comes
returns-in_ok-inode-in-AtGap-clause-comes c dirs =
    let cached = c.args.hand.now.sectors.now.entries in
    let held = c.args.hand.now.held.now in
    let h = seen c.args.hand.now in
    let j : ℕ = c.args.number in
    let plan : Spot → Read Plan = λ s. reading (linking_to h j dirs (spot_of s)) cached held in
    let i : ℕ = c.in-AtGap.directory.number in
    let x = stored c.in-AtGap.directory.inode in
    let f = linking_node h i x c.in-AtGap.name j dirs in
    comes_as (plan c.args.spot.now) (reading (f (Some (stored c.in_ok-inode-in-AtGap.inode))) cached held) c.link_in.result
    (ap plan c.in-AtGap.is ∙ node_read cached held j dirs f refl c.in_ok-inode-in-AtGap.inode (c.in_ok-inode-in-AtGap.ensures.finds held)) (c.link_in.ensures.comes dirs)

pub returns-in-AtRoot-clause-comes : goal.returns-in-AtRoot-clause-comes
returns-in-AtRoot-clause-comes c dirs =
    let cached = c.args.hand.now.sectors.now.entries in
    let held = c.args.hand.now.held.now in
    let plan : Spot → Read Plan = λ s. reading (linking_to (seen c.args.hand.now) c.args.number dirs (spot_of s)) cached held in
    refuses (plan c.args.spot.now) reply.Exist dirs (ap plan c.in-AtRoot.is)

pub returns-in-AtName-clause-comes : goal.returns-in-AtName-clause-comes
returns-in-AtName-clause-comes c dirs =
    let cached = c.args.hand.now.sectors.now.entries in
    let held = c.args.hand.now.held.now in
    let plan : Spot → Read Plan = λ s. reading (linking_to (seen c.args.hand.now) c.args.number dirs (spot_of s)) cached held in
    refuses (plan c.args.spot.now) reply.Exist dirs (ap plan c.in-AtName.is)

pub returns-in-Lost-clause-comes : goal.returns-in-Lost-clause-comes
returns-in-Lost-clause-comes c dirs =
    let cached = c.args.hand.now.sectors.now.entries in
    let held = c.args.hand.now.held.now in
    let plan : Spot → Read Plan = λ s. reading (linking_to (seen c.args.hand.now) c.args.number dirs (spot_of s)) cached held in
    refuses (plan c.args.spot.now) c.reply.result dirs (ap plan c.in-Lost.is ∙ ap (λ r. Gives (refuse r dirs)) (sym c.reply.ensures))

pub returns-in_err-inode-in-AtGap-clause-looks : goal.returns-in_err-inode-in-AtGap-clause-looks
returns-in_err-inode-in-AtGap-clause-looks c dirs m =
    let cached = c.args.hand.now.sectors.now.entries in
    let held = c.args.hand.now.held.now in
    let h = seen c.args.hand.now in
    let j : ℕ = c.args.number in
    let plan : Spot → List ℕ = λ s. examined (linking_to h j dirs (spot_of s)) cached held in
    let f = linking_node h c.in-AtGap.directory.number (stored c.in-AtGap.directory.inode) c.in-AtGap.name j dirs in
    adds_as _ _ _ _ (sym (ap plan c.in-AtGap.is)) (c.in_err-inode-in-AtGap.ensures.looks held f refl)

pub returns-in_ok-inode-in-AtGap-clause-looks : goal.returns-in_ok-inode-in-AtGap-clause-looks
returns-in_ok-inode-in-AtGap-clause-looks c dirs m =
    let cached = c.args.hand.now.sectors.now.entries in
    let held = c.args.hand.now.held.now in
    let h = seen c.args.hand.now in
    let j : ℕ = c.args.number in
    let plan : Spot → List ℕ = λ s. examined (linking_to h j dirs (spot_of s)) cached held in
    let f = linking_node h c.in-AtGap.directory.number (stored c.in-AtGap.directory.inode) c.in-AtGap.name j dirs in
    adds_as _ _ _ _ (sym (ap plan c.in-AtGap.is)) (then_looks cached held (ReadInode j f) (f (Some (stored c.in_ok-inode-in-AtGap.inode))) _ _ _ (c.in_ok-inode-in-AtGap.ensures.looks held f) (c.link_in.ensures.looks dirs m))

pub returns-in-AtRoot-clause-looks : goal.returns-in-AtRoot-clause-looks
returns-in-AtRoot-clause-looks c dirs m =
    let cached = c.args.hand.now.sectors.now.entries in
    let held = c.args.hand.now.held.now in
    let h = seen c.args.hand.now in
    let j : ℕ = c.args.number in
    let plan : Spot → List ℕ = λ s. examined (linking_to h j dirs (spot_of s)) cached held in
    adds_as _ _ [] _ (sym (ap plan c.in-AtRoot.is)) (adds_none _)

pub returns-in-AtName-clause-looks : goal.returns-in-AtName-clause-looks
returns-in-AtName-clause-looks c dirs m =
    let cached = c.args.hand.now.sectors.now.entries in
    let held = c.args.hand.now.held.now in
    let h = seen c.args.hand.now in
    let j : ℕ = c.args.number in
    let plan : Spot → List ℕ = λ s. examined (linking_to h j dirs (spot_of s)) cached held in
    adds_as _ _ [] _ (sym (ap plan c.in-AtName.is)) (adds_none _)

pub returns-in-Lost-clause-looks : goal.returns-in-Lost-clause-looks
returns-in-Lost-clause-looks c dirs m =
    let cached = c.args.hand.now.sectors.now.entries in
    let held = c.args.hand.now.held.now in
    let h = seen c.args.hand.now in
    let j : ℕ = c.args.number in
    let plan : Spot → List ℕ = λ s. examined (linking_to h j dirs (spot_of s)) cached held in
    adds_as _ _ [] _ (sym (ap plan c.in-Lost.is)) (adds_none _)
