-- By where the path leads.
use Rattle.std.proofs.Common.{◌≡◌, Err, rules, List, ℕ}
use Rattle.disk_definitions.specs.NamePlans.{making}
use Rattle.dir_lookup.specs.Hands.{seen}
use Rattle.plan_steps.specs.Nodes.{node_of}
use Rattle.op_dir.proofs.Walking.{walk_goes, walk_stops}
use Rattle.disk_definitions.specs.Walks.{Spot, walk}
use Rattle.dir_lookup.specs.Spots.{spot_of}
use Rattle.disk_definitions.specs.Plans.{Plan}
use Rattle.disk_definitions.specs.Ask.{Ask, bind}
use Rattle.plan_steps.proofs.Looking.{then_looks}
use Rattle.op_dir.proofs.making.make.Goals as goal

pub returns-in_err-spot-clause-comes : goal.returns-in_err-spot-clause-comes
returns-in_err-spot-clause-comes c =
    let hand = c.args.hand.now in
    let e : c.from_residual.result ≡ Err c.in_err-spot.field-0.0 = search rules in
    walk_stops hand c.args.path.now (making (seen hand) c.args.birth (node_of c.args.node.now)) c.from_residual.result c.in_err-spot.field-0.0 e (c.in_err-spot.ensures.finds hand.held.now)

pub returns-clause-comes : goal.returns-clause-comes
returns-clause-comes c =
    let hand = c.args.hand.now in
    walk_goes hand c.args.path.now (making (seen hand) c.args.birth (node_of c.args.node.now)) c.make_at.result c.in_ok-spot.spot (c.in_ok-spot.ensures.finds hand.held.now) c.make_at.ensures.comes

pub returns-in_err-spot-clause-looks : goal.returns-in_err-spot-clause-looks
returns-in_err-spot-clause-looks c m =
    let cached = c.args.hand.now.sectors.now.entries in
    let held = c.args.hand.now.held.now in
    let h = seen c.args.hand.now in
    let next : List ℕ → Spot → Ask Plan = making h c.args.birth (node_of c.args.node.now) in
    c.in_err-spot.ensures.looks held next

pub returns-clause-looks : goal.returns-clause-looks
returns-clause-looks c m =
    let cached = c.args.hand.now.sectors.now.entries in
    let held = c.args.hand.now.held.now in
    let h = seen c.args.hand.now in
    let next : List ℕ → Spot → Ask Plan = making h c.args.birth (node_of c.args.node.now) in
    let t = c.in_ok-spot.ensures.looks held in
    then_looks cached held (bind (walk c.args.path.now) (λ w. next w.dirs w.spot)) (next t.0 (spot_of c.in_ok-spot.spot)) _ _ _ (t.1 next) (c.make_at.ensures.looks t.0 m)
