-- By where the first path leads.
use Rattle.std.proofs.Common.{◌≡◌, Err, subst, sym, ap, ◌∙◌, rules, List, [], ℕ}
use Rattle.disk_definitions.specs.Ask.{bind, Ask}
use Rattle.disk_definitions.specs.Walks.{walk, Spot}
use Rattle.disk_definitions.specs.NamePlans.{plan_renamed, renaming}
use Rattle.dir_lookup.specs.Reading.{reading}
use Rattle.dir_lookup.specs.Spots.{spot_of}
use Rattle.plan_steps.specs.Ends.{Comes}
use Rattle.dir_lookup.specs.Hands.{seen}
use Rattle.plan_steps.proofs.Ending.{comes_as, spot_stops, stops_as}
use Rattle.op_dir.proofs.Moves.{not_roots}
use Rattle.disk_definitions.specs.Plans.{Plan}
use Rattle.dir_lookup.proofs.Looking.{adds_as, adds_none}
use Rattle.op_dir.proofs.Looking.{first_root, second_root}
use Rattle.plan_steps.proofs.Looking.{then_looks}
use Rattle.disk_definitions.specs.LookedAt.{examined}
use Rattle.op_dir.proofs.renaming.rename_node.Goals as goal

pub returns-in_err-spot-clause-comes : goal.returns-in_err-spot-clause-comes
returns-in_err-spot-clause-comes c =
    let cached = c.args.hand.now.sectors.now.entries in
    let held = c.args.hand.now.held.now in
    let h = seen c.args.hand.now in
    let path = c.args.path.now in
    let to = c.args.to.now in
    let n : plan_renamed h path to ≡ bind (walk path) (λ w. renaming h to w.dirs w.spot) =
    not_roots h path to c.is_empty.result c.is_empty-2.result c.is_empty.ensures c.is_empty-2.ensures c.if-is_empty.false c.if-is_empty-2.false in
    let stop = c.in_err-spot.field-0.0 in
    let e : c.from_residual.result ≡ Err stop = search rules in
    subst (Comes (reading (plan_renamed h path to) cached held)) (sym e)
    (stops_as (reading (plan_renamed h path to) cached held) (reading (bind (walk path) (λ w. renaming h to w.dirs w.spot)) cached held) stop (ap (λ p. reading p cached held) n)
    (spot_stops cached held path (renaming h to) stop (c.in_err-spot.ensures.finds held)))

pub returns-clause-comes : goal.returns-clause-comes
returns-clause-comes c =
    let cached = c.args.hand.now.sectors.now.entries in
    let held = c.args.hand.now.held.now in
    let h = seen c.args.hand.now in
    let path = c.args.path.now in
    let to = c.args.to.now in
    let n : plan_renamed h path to ≡ bind (walk path) (λ w. renaming h to w.dirs w.spot) =
    not_roots h path to c.is_empty.result c.is_empty-2.result c.is_empty.ensures c.is_empty-2.ensures c.if-is_empty.false c.if-is_empty-2.false in
    let f = c.in_ok-spot.ensures.finds held in
    comes_as (reading (plan_renamed h path to) cached held) (reading (renaming h to f.0 (spot_of c.in_ok-spot.spot)) cached held) c.rename_at.result
    (ap (λ p. reading p cached held) n ∙ f.1 (renaming h to)) (c.rename_at.ensures.comes f.0)

pub returns-then-is_empty-clause-looks : goal.returns-then-is_empty-clause-looks
returns-then-is_empty-clause-looks c m =
    let cached = c.args.hand.now.sectors.now.entries in
    let held = c.args.hand.now.held.now in
    let h = seen c.args.hand.now in
    adds_as _ _ [] _ (sym (first_root cached held h c.args.path.now c.args.to.now c.is_empty.result c.is_empty.ensures c.if-is_empty.true)) (adds_none _)

pub returns-then-is_empty-2-clause-looks : goal.returns-then-is_empty-2-clause-looks
returns-then-is_empty-2-clause-looks c m =
    let cached = c.args.hand.now.sectors.now.entries in
    let held = c.args.hand.now.held.now in
    let h = seen c.args.hand.now in
    adds_as _ _ [] _ (sym (second_root cached held h c.args.path.now c.args.to.now c.is_empty-2.result c.is_empty-2.ensures c.if-is_empty-2.true)) (adds_none _)

pub returns-in_err-spot-clause-looks : goal.returns-in_err-spot-clause-looks
returns-in_err-spot-clause-looks c m =
    let cached = c.args.hand.now.sectors.now.entries in
    let held = c.args.hand.now.held.now in
    let h = seen c.args.hand.now in
    let path = c.args.path.now in
    let to = c.args.to.now in
    let next : List ℕ → Spot → Ask Plan = renaming h to in
    let n : plan_renamed h path to ≡ bind (walk path) (λ w. next w.dirs w.spot) =
    not_roots h path to c.is_empty.result c.is_empty-2.result c.is_empty.ensures c.is_empty-2.ensures c.if-is_empty.false c.if-is_empty-2.false in
    adds_as _ _ _ _ (sym (ap (λ p. examined p cached held) n)) (c.in_err-spot.ensures.looks held next)

pub returns-clause-looks : goal.returns-clause-looks
returns-clause-looks c m =
    let cached = c.args.hand.now.sectors.now.entries in
    let held = c.args.hand.now.held.now in
    let h = seen c.args.hand.now in
    let path = c.args.path.now in
    let to = c.args.to.now in
    let next : List ℕ → Spot → Ask Plan = renaming h to in
    let n : plan_renamed h path to ≡ bind (walk path) (λ w. next w.dirs w.spot) =
    not_roots h path to c.is_empty.result c.is_empty-2.result c.is_empty.ensures c.is_empty-2.ensures c.if-is_empty.false c.if-is_empty-2.false in
    let t = c.in_ok-spot.ensures.looks held in
    adds_as _ _ _ _ (sym (ap (λ p. examined p cached held) n))
    (then_looks cached held (bind (walk path) (λ w. next w.dirs w.spot)) (next t.0 (spot_of c.in_ok-spot.spot)) _ _ _ (t.1 next) (c.rename_at.ensures.looks t.0 m))
