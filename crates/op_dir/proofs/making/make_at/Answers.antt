-- By where the path leads.
use Rattle.std.proofs.Common.{◌≡◌, ℕ, List, Err, subst, sym, ap, ◌∙◌, rules, []}
use Rattle.frang_base.specs.declared.reply.Reply.TheVariants as reply
use Rattle.disk_definitions.specs.Store.{stored}
use Rattle.disk_definitions.specs.Plans.{Plan, refuse}
use Rattle.disk_definitions.specs.NamePlans.{made_by, making}
use Rattle.dir_lookup.specs.Reading.{Read, Gives, reading}
use Rattle.dir_lookup.specs.declared.spot.Spot.{Spot}
use Rattle.dir_lookup.specs.Spots.{spot_of}
use Rattle.plan_steps.specs.Ends.{Comes}
use Rattle.dir_lookup.specs.Hands.{seen}
use Rattle.plan_steps.specs.Nodes.{node_of}
use Rattle.plan_steps.specs.Rooms.{room_in}
use Rattle.plan_steps.proofs.Ending.{comes_done, stops_as, refuses}
use Rattle.dir_lookup.proofs.Looking.{adds_as, adds_none}
use Rattle.disk_definitions.specs.LookedAt.{examined}
use Rattle.op_dir.proofs.making.make_at.Goals as goal

pub returns-in_err-place-in-AtGap-clause-comes : goal.returns-in_err-place-in-AtGap-clause-comes
returns-in_err-place-in-AtGap-clause-comes c dirs =
    let cached = c.args.hand.now.sectors.now.entries in
    let held = c.args.hand.now.held.now in
    let node = node_of c.args.node.now in
    let birth : ℕ = c.args.birth in
    let plan : Spot → Read Plan = λ s. reading (making (seen c.args.hand.now) birth node dirs (spot_of s)) cached held in
    let stop = c.in_err-place-in-AtGap.field-0.0 in
    let e : c.from_residual.result ≡ Err stop = search rules in
    subst (Comes (plan c.args.spot.now)) (sym e)
    (stops_as (plan c.args.spot.now) _ stop (ap plan c.in-AtGap.is) (c.in_err-place-in-AtGap.ensures.finds c.in-AtGap.directory.number birth c.in-AtGap.name node dirs))

pub returns-in_ok-made-in-AtGap-clause-comes : goal.returns-in_ok-made-in-AtGap-clause-comes
returns-in_ok-made-in-AtGap-clause-comes c dirs =
    let cached = c.args.hand.now.sectors.now.entries in
    let held = c.args.hand.now.held.now in
    let node = node_of c.args.node.now in
    let birth : ℕ = c.args.birth in
    let plan : Spot → Read Plan = λ s. reading (making (seen c.args.hand.now) birth node dirs (spot_of s)) cached held in
    let i : ℕ = c.in-AtGap.directory.number in
    let x = stored c.in-AtGap.directory.inode in
    let name : List ℕ = c.in-AtGap.name in
    let place = c.in_ok-place-in-AtGap.place in
    let d = c.in_ok-made-in-AtGap.ensures in
    comes_done (plan c.args.spot.now) (made_by i x name birth node dirs place.inode (room_in place.room)) c.in_ok-made-in-AtGap.field-0
    (ap plan c.in-AtGap.is ∙ c.in_ok-place-in-AtGap.ensures.finds i birth name node dirs)
    d.reply d.edits

pub returns-in-AtRoot-clause-comes : goal.returns-in-AtRoot-clause-comes
returns-in-AtRoot-clause-comes c dirs =
    let cached = c.args.hand.now.sectors.now.entries in
    let held = c.args.hand.now.held.now in
    let plan : Spot → Read Plan = λ s. reading (making (seen c.args.hand.now) c.args.birth (node_of c.args.node.now) dirs (spot_of s)) cached held in
    refuses (plan c.args.spot.now) reply.Exist dirs (ap plan c.in-AtRoot.is)

pub returns-in-AtName-clause-comes : goal.returns-in-AtName-clause-comes
returns-in-AtName-clause-comes c dirs =
    let cached = c.args.hand.now.sectors.now.entries in
    let held = c.args.hand.now.held.now in
    let plan : Spot → Read Plan = λ s. reading (making (seen c.args.hand.now) c.args.birth (node_of c.args.node.now) dirs (spot_of s)) cached held in
    refuses (plan c.args.spot.now) reply.Exist dirs (ap plan c.in-AtName.is)

pub returns-in-Lost-clause-comes : goal.returns-in-Lost-clause-comes
returns-in-Lost-clause-comes c dirs =
    let cached = c.args.hand.now.sectors.now.entries in
    let held = c.args.hand.now.held.now in
    let plan : Spot → Read Plan = λ s. reading (making (seen c.args.hand.now) c.args.birth (node_of c.args.node.now) dirs (spot_of s)) cached held in
    refuses (plan c.args.spot.now) c.reply.result dirs (ap plan c.in-Lost.is ∙ ap (λ r. Gives (refuse r dirs)) (sym c.reply.ensures))

pub returns-in_err-place-in-AtGap-clause-looks : goal.returns-in_err-place-in-AtGap-clause-looks
returns-in_err-place-in-AtGap-clause-looks c dirs m =
    let cached = c.args.hand.now.sectors.now.entries in
    let held = c.args.hand.now.held.now in
    let h = seen c.args.hand.now in
    let plan : Spot → List ℕ = λ s. examined (making h c.args.birth (node_of c.args.node.now) dirs (spot_of s)) cached held in
    adds_as _ _ _ _ (sym (ap plan c.in-AtGap.is)) (c.in_err-place-in-AtGap.ensures.looks c.in-AtGap.directory.number c.args.birth c.in-AtGap.name (node_of c.args.node.now) dirs)

pub returns-in_err-made-in-AtGap-clause-looks : goal.returns-in_err-made-in-AtGap-clause-looks
returns-in_err-made-in-AtGap-clause-looks c dirs m = absurd (m (search rules))

pub returns-in_ok-made-in-AtGap-clause-looks : goal.returns-in_ok-made-in-AtGap-clause-looks
returns-in_ok-made-in-AtGap-clause-looks c dirs m =
    let cached = c.args.hand.now.sectors.now.entries in
    let held = c.args.hand.now.held.now in
    let h = seen c.args.hand.now in
    let plan : Spot → List ℕ = λ s. examined (making h c.args.birth (node_of c.args.node.now) dirs (spot_of s)) cached held in
    adds_as _ _ _ _ (sym (ap plan c.in-AtGap.is)) (c.in_ok-place-in-AtGap.ensures.looks c.in-AtGap.directory.number c.args.birth c.in-AtGap.name (node_of c.args.node.now) dirs)

pub returns-in-AtRoot-clause-looks : goal.returns-in-AtRoot-clause-looks
returns-in-AtRoot-clause-looks c dirs m =
    let cached = c.args.hand.now.sectors.now.entries in
    let held = c.args.hand.now.held.now in
    let h = seen c.args.hand.now in
    let plan : Spot → List ℕ = λ s. examined (making h c.args.birth (node_of c.args.node.now) dirs (spot_of s)) cached held in
    adds_as _ _ [] _ (sym (ap plan c.in-AtRoot.is)) (adds_none _)

pub returns-in-AtName-clause-looks : goal.returns-in-AtName-clause-looks
returns-in-AtName-clause-looks c dirs m =
    let cached = c.args.hand.now.sectors.now.entries in
    let held = c.args.hand.now.held.now in
    let h = seen c.args.hand.now in
    let plan : Spot → List ℕ = λ s. examined (making h c.args.birth (node_of c.args.node.now) dirs (spot_of s)) cached held in
    adds_as _ _ [] _ (sym (ap plan c.in-AtName.is)) (adds_none _)

pub returns-in-Lost-clause-looks : goal.returns-in-Lost-clause-looks
returns-in-Lost-clause-looks c dirs m =
    let cached = c.args.hand.now.sectors.now.entries in
    let held = c.args.hand.now.held.now in
    let h = seen c.args.hand.now in
    let plan : Spot → List ℕ = λ s. examined (making h c.args.birth (node_of c.args.node.now) dirs (spot_of s)) cached held in
    adds_as _ _ [] _ (sym (ap plan c.in-Lost.is)) (adds_none _)
