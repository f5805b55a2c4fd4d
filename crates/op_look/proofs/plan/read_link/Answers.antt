-- A link has its target.
use Rattle.std.proofs.Common.{◌≡◌, ◌==◌, Option, Some, Err, List, [], ◌∷◌, ◌++◌, ℕ, if◌then◌else◌, cond, eq-eqb, ne_eqb, refl, ap, subst, sym, rules, ◌∙◌}
use Rattle.frang_base.specs.declared.reply.Reply.TheVariants as reply
use Rattle.disk_definitions.specs.Store.{StoredNode, stored}
use Rattle.disk_definitions.specs.Ask.{Ask, ReadInode}
use Rattle.disk_definitions.specs.Walks.{Target}
use Rattle.disk_definitions.specs.Plans.{Plan, refused, refuse}
use Rattle.disk_definitions.specs.LookPlans as looks
use Rattle.disk_definitions.specs.LookedAt.{examined}
use Rattle.dir_lookup.specs.Reading.{reading, Gives}
use Rattle.plan_steps.specs.Ends.{Says}
use Rattle.plan_steps.specs.Targets.{FindsInode, FindsTarget, node_of}
use Rattle.plan_steps.proofs.Stopping.{inode_stops, of_another, of_kind, target_stops}
use Rattle.op_look.proofs.Answered.{answers}
use Rattle.plan_steps.proofs.Looking.{looks_as, none_more, then_looks}
use Rattle.op_look.proofs.plan.read_link.Goals as goal

pub returns-in_err-target-clause-says : goal.returns-in_err-target-clause-says
returns-in_err-target-clause-says c held =
    let cached = c.args.sectors.now.entries in
    let path = c.args.path.now in
    let p = reading (looks.plan_target path) cached held in
    let inner : List ℕ → StoredNode → Ask Plan = λ touched x. refused (reply.Target x.target) touched in
    let next : Target → Ask Plan = λ t. if t.kind == 3 then looks.at_inode inner t else refused reply.Inval t.dirs in
    let e : c.from_residual.result ≡ Err c.in_err-target.field-0.0 = search rules in
    subst (Says p) (sym e) (target_stops cached held path next c.in_err-target.field-0.0 (subst (FindsTarget cached held path) c.in_err-target.was (c.target_of.ensures.finds held)))

pub returns-then-target-ne-KIND_LINK-clause-says : goal.returns-then-target-ne-KIND_LINK-clause-says
returns-then-target-ne-KIND_LINK-clause-says c held =
    let cached = c.args.sectors.now.entries in
    let path = c.args.path.now in
    let p = reading (looks.plan_target path) cached held in
    let inner : List ℕ → StoredNode → Ask Plan = λ touched x. refused (reply.Target x.target) touched in
    let next : Target → Ask Plan = λ t. if t.kind == 3 then looks.at_inode inner t else refused reply.Inval t.dirs in
    let u = c.in_ok-target.target in
    let t = subst (FindsTarget cached held path) c.in_ok-target.was (c.target_of.ensures.finds held) in
    answers p reply.Inval t.0 (t.1 next ∙ of_another u.kind 3 (looks.at_inode inner (record (node_of u) { dirs = t.0 })) (refused reply.Inval t.0) cached held c.if-target-ne-KIND_LINK.true)

pub returns-in_err-inode-clause-says : goal.returns-in_err-inode-clause-says
returns-in_err-inode-clause-says c held =
    let cached = c.args.sectors.now.entries in
    let path = c.args.path.now in
    let p = reading (looks.plan_target path) cached held in
    let inner : List ℕ → StoredNode → Ask Plan = λ touched x. refused (reply.Target x.target) touched in
    let next : Target → Ask Plan = λ t. if t.kind == 3 then looks.at_inode inner t else refused reply.Inval t.dirs in
    let u = c.in_ok-target.target in
    let t = subst (FindsTarget cached held path) c.in_ok-target.was (c.target_of.ensures.finds held) in
    let touched = t.0 ++ u.inode ∷ [] in
    let q = t.1 next ∙ of_kind u.kind 3 (looks.at_inode inner (record (node_of u) { dirs = t.0 })) (refused reply.Inval t.0) cached held c.if-target-ne-KIND_LINK.false in
    let e : c.from_residual-in_err-inode.result ≡ Err c.in_err-inode.field-0.0 = search rules in
    subst (Says p) (sym e) (inode_stops cached held p u.inode inner touched c.in_err-inode.field-0.0 q (subst (FindsInode cached held u.inode) c.in_err-inode.was (c.inode_of.ensures.finds held)))

pub returns-clause-says : goal.returns-clause-says
returns-clause-says c held =
    let cached = c.args.sectors.now.entries in
    let path = c.args.path.now in
    let p = reading (looks.plan_target path) cached held in
    let inner : List ℕ → StoredNode → Ask Plan = λ touched x. refused (reply.Target x.target) touched in
    let next : Target → Ask Plan = λ t. if t.kind == 3 then looks.at_inode inner t else refused reply.Inval t.dirs in
    let u = c.in_ok-target.target in
    let t = subst (FindsTarget cached held path) c.in_ok-target.was (c.target_of.ensures.finds held) in
    let touched = t.0 ++ u.inode ∷ [] in
    let q = t.1 next ∙ of_kind u.kind 3 (looks.at_inode inner (record (node_of u) { dirs = t.0 })) (refused reply.Inval t.0) cached held c.if-target-ne-KIND_LINK.false in
    let i = subst (FindsInode cached held u.inode) c.in_ok-inode.was (c.inode_of.ensures.finds held) in
    answers p (reply.Target c.in_ok-text.text) touched (q ∙ i inner touched ∙ ap (λ text. Gives (refuse (reply.Target text) touched)) (sym c.in_ok-text.ensures))

pub returns-in_err-target-clause-looks : goal.returns-in_err-target-clause-looks
returns-in_err-target-clause-looks c held m =
    let cached = c.args.sectors.now.entries in
    let path = c.args.path.now in
    let inner : List ℕ → StoredNode → Ask Plan = λ touched x. refused (reply.Target x.target) touched in
    let next : Target → Ask Plan = λ t. if t.kind == 3 then looks.at_inode inner t else refused reply.Inval t.dirs in
    c.in_err-target.ensures.looks held next

pub returns-then-target-ne-KIND_LINK-clause-looks : goal.returns-then-target-ne-KIND_LINK-clause-looks
returns-then-target-ne-KIND_LINK-clause-looks c held m =
    let cached = c.args.sectors.now.entries in
    let path = c.args.path.now in
    let inner : List ℕ → StoredNode → Ask Plan = λ touched x. refused (reply.Target x.target) touched in
    let next : Target → Ask Plan = λ t. if t.kind == 3 then looks.at_inode inner t else refused reply.Inval t.dirs in
    let u = c.in_ok-target.target in
    let t = c.in_ok-target.ensures.looks held in
    let f : Option StoredNode → Ask Plan = looks.with_inode inner (t.0 ++ u.inode ∷ []) in
    let q : Ask Plan = next (record (node_of u) { dirs = t.0 }) in
    then_looks cached held (looks.plan_target path) q _ _ _ (t.1 next)
    (none_more cached held q _ (ap (λ b. examined (cond b (ReadInode u.inode f) (refused reply.Inval t.0)) cached held) (ne_eqb u.kind 3 c.if-target-ne-KIND_LINK.true)))

pub returns-in_err-inode-clause-looks : goal.returns-in_err-inode-clause-looks
returns-in_err-inode-clause-looks c held m =
    let cached = c.args.sectors.now.entries in
    let path = c.args.path.now in
    let inner : List ℕ → StoredNode → Ask Plan = λ touched x. refused (reply.Target x.target) touched in
    let next : Target → Ask Plan = λ t. if t.kind == 3 then looks.at_inode inner t else refused reply.Inval t.dirs in
    let u = c.in_ok-target.target in
    let t = c.in_ok-target.ensures.looks held in
    let f : Option StoredNode → Ask Plan = looks.with_inode inner (t.0 ++ u.inode ∷ []) in
    let q : Ask Plan = next (record (node_of u) { dirs = t.0 }) in
    let k : examined q cached held ≡ examined (ReadInode u.inode f) cached held =
    ap (λ b. examined (cond b (ReadInode u.inode f) (refused reply.Inval t.0)) cached held) (eq-eqb u.kind 3 c.if-target-ne-KIND_LINK.false) in
    then_looks cached held (looks.plan_target path) q _ _ _ (t.1 next) (looks_as cached held q (ReadInode u.inode f) _ _ k (c.in_err-inode.ensures.looks held f refl))

pub returns-in_err-text-clause-looks : goal.returns-in_err-text-clause-looks
returns-in_err-text-clause-looks c held m = absurd (m (search rules))

pub returns-clause-looks : goal.returns-clause-looks
returns-clause-looks c held m =
    let cached = c.args.sectors.now.entries in
    let path = c.args.path.now in
    let inner : List ℕ → StoredNode → Ask Plan = λ touched x. refused (reply.Target x.target) touched in
    let next : Target → Ask Plan = λ t. if t.kind == 3 then looks.at_inode inner t else refused reply.Inval t.dirs in
    let u = c.in_ok-target.target in
    let t = c.in_ok-target.ensures.looks held in
    let f : Option StoredNode → Ask Plan = looks.with_inode inner (t.0 ++ u.inode ∷ []) in
    let q : Ask Plan = next (record (node_of u) { dirs = t.0 }) in
    let k : examined q cached held ≡ examined (ReadInode u.inode f) cached held =
    ap (λ b. examined (cond b (ReadInode u.inode f) (refused reply.Inval t.0)) cached held) (eq-eqb u.kind 3 c.if-target-ne-KIND_LINK.false) in
    let p : Ask Plan = f (Some (stored c.in_ok-inode.inode)) in
    then_looks cached held (looks.plan_target path) q _ _ _ (t.1 next)
    (looks_as cached held q (ReadInode u.inode f) _ _ k
    (then_looks cached held (ReadInode u.inode f) p _ _ _ (c.in_ok-inode.ensures.looks held f) (none_more cached held p _ refl)))
