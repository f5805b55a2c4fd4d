-- The reply is by the inode of the node.
use Rattle.std.proofs.Common.{◌≡◌, Option, Some, Err, List, [], ◌∷◌, ◌++◌, ℕ, refl, subst, sym, ap, rules, ◌∙◌}
use Rattle.disk_definitions.specs.Store.{StoredNode, stored}
use Rattle.disk_definitions.specs.Ask.{Ask, ReadInode}
use Rattle.disk_definitions.specs.Plans.{Plan, refused}
use Rattle.disk_definitions.specs.LookPlans as looks
use Rattle.dir_lookup.specs.Reading.{reading}
use Rattle.plan_steps.specs.Ends.{Says}
use Rattle.plan_steps.specs.Targets.{FindsInode, FindsTarget}
use Rattle.plan_steps.proofs.Stopping.{inode_stops, target_stops}
use Rattle.op_look.proofs.Answered.{answers}
use Rattle.plan_steps.proofs.Looking.{none_more, then_looks}
use Rattle.op_look.proofs.plan.describe.Goals as goal

pub returns-in_err-target-clause-says : goal.returns-in_err-target-clause-says
returns-in_err-target-clause-says c held =
    let cached = c.args.sectors.now.entries in
    let next : List ℕ → StoredNode → Ask Plan = λ touched x. refused (looks.described x) touched in
    let e : c.from_residual.result ≡ Err c.in_err-target.field-0.0 = search rules in
    subst (Says (reading (looks.plan_described c.args.path.now) cached held)) (sym e)
    (target_stops cached held c.args.path.now (looks.at_inode next) c.in_err-target.field-0.0 (subst (FindsTarget cached held c.args.path.now) c.in_err-target.was (c.target_of.ensures.finds held)))

pub returns-in_err-inode-clause-says : goal.returns-in_err-inode-clause-says
returns-in_err-inode-clause-says c held =
    let cached = c.args.sectors.now.entries in
    let next : List ℕ → StoredNode → Ask Plan = λ touched x. refused (looks.described x) touched in
    let t = subst (FindsTarget cached held c.args.path.now) c.in_ok-target.was (c.target_of.ensures.finds held) in
    let e : c.from_residual-in_err-inode.result ≡ Err c.in_err-inode.field-0.0 = search rules in
    subst (Says (reading (looks.plan_described c.args.path.now) cached held)) (sym e)
    (inode_stops cached held (reading (looks.plan_described c.args.path.now) cached held) c.in_ok-target.target.inode next (t.0 ++ c.in_ok-target.target.inode ∷ []) c.in_err-inode.field-0.0
    (t.1 (looks.at_inode next)) (subst (FindsInode cached held c.in_ok-target.target.inode) c.in_err-inode.was (c.inode_of.ensures.finds held)))

pub returns-clause-says : goal.returns-clause-says
returns-clause-says c held =
    let cached = c.args.sectors.now.entries in
    let next : List ℕ → StoredNode → Ask Plan = λ touched x. refused (looks.described x) touched in
    let t = subst (FindsTarget cached held c.args.path.now) c.in_ok-target.was (c.target_of.ensures.finds held) in
    let touched = t.0 ++ c.in_ok-target.target.inode ∷ [] in
    let i = subst (FindsInode cached held c.in_ok-target.target.inode) c.in_ok-inode.was (c.inode_of.ensures.finds held) in
    answers (reading (looks.plan_described c.args.path.now) cached held) c.described.result touched
    (t.1 (looks.at_inode next) ∙ i next touched ∙ ap (λ r. reading (refused r touched) cached held) (sym c.described.ensures))

pub returns-in_err-target-clause-looks : goal.returns-in_err-target-clause-looks
returns-in_err-target-clause-looks c held m =
    let next : List ℕ → StoredNode → Ask Plan = λ touched x. refused (looks.described x) touched in
    c.in_err-target.ensures.looks held (looks.at_inode next)

pub returns-in_err-inode-clause-looks : goal.returns-in_err-inode-clause-looks
returns-in_err-inode-clause-looks c held m =
    let cached = c.args.sectors.now.entries in
    let next : List ℕ → StoredNode → Ask Plan = λ touched x. refused (looks.described x) touched in
    let u = c.in_ok-target.target in
    let t = c.in_ok-target.ensures.looks held in
    let f : Option StoredNode → Ask Plan = looks.with_inode next (t.0 ++ u.inode ∷ []) in
    then_looks cached held (looks.plan_described c.args.path.now) (ReadInode u.inode f) _ _ _ (t.1 (looks.at_inode next)) (c.in_err-inode.ensures.looks held f refl)

pub returns-clause-looks : goal.returns-clause-looks
returns-clause-looks c held m =
    let cached = c.args.sectors.now.entries in
    let next : List ℕ → StoredNode → Ask Plan = λ touched x. refused (looks.described x) touched in
    let u = c.in_ok-target.target in
    let t = c.in_ok-target.ensures.looks held in
    let f : Option StoredNode → Ask Plan = looks.with_inode next (t.0 ++ u.inode ∷ []) in
    let p : Ask Plan = f (Some (stored c.in_ok-inode.inode)) in
    then_looks cached held (looks.plan_described c.args.path.now) (ReadInode u.inode f) _ _ _ (t.1 (looks.at_inode next))
    (then_looks cached held (ReadInode u.inode f) p _ _ _ (c.in_ok-inode.ensures.looks held f) (none_more cached held p _ refl))
