-- A directory lists its names.
use Rattle.std.proofs.Common.{◌≡◌, ◌==◌, Option, Some, Err, List, [], ◌∷◌, ◌++◌, ℕ, if◌then◌else◌, cond, eq-eqb, ne_eqb, refl, ap, subst, sym, rules, ◌∙◌}
use Rattle.frang_base.specs.declared.reply.Reply.TheVariants as reply
use Rattle.disk_definitions.specs.Store.{StoredNode, stored}
use Rattle.disk_definitions.specs.Ask.{Ask, ReadInode}
use Rattle.disk_definitions.specs.Walks.{Target}
use Rattle.disk_definitions.specs.Plans.{Plan, refused}
use Rattle.disk_definitions.specs.LookPlans as looks
use Rattle.disk_definitions.specs.LookedAt.{examined}
use Rattle.dir_lookup.specs.Reading.{reading}
use Rattle.plan_steps.specs.declared.stop.Stop.{Stop}
use Rattle.plan_steps.specs.declared.stop.Stop.TheVariants as stop
use Rattle.plan_steps.specs.Ends.{Says}
use Rattle.plan_steps.specs.Targets.{FindsInode, FindsTarget, node_of}
use Rattle.plan_steps.proofs.Stopping.{inode_stops, of_another, of_kind, target_stops}
use Rattle.op_look.specs.Looks.{ListsNames}
use Rattle.op_look.proofs.Answered.{answers, names_stop}
use Rattle.plan_steps.proofs.Looking.{looks_as, none_more, then_looks}
use Rattle.op_look.proofs.plan.list.Goals as goal

pub returns-in_err-target-clause-says : goal.returns-in_err-target-clause-says
returns-in_err-target-clause-says c held =
    let cached = c.args.sectors.now.entries in
    let path = c.args.path.now in
    let p = reading (looks.plan_listed path) cached held in
    let inner : List ℕ → StoredNode → Ask Plan = looks.listing in
    let next : Target → Ask Plan = λ t. if t.kind == 2 then looks.at_inode inner t else refused reply.NotDir t.dirs in
    let e : c.from_residual.result ≡ Err c.in_err-target.field-0.0 = search rules in
    subst (Says p) (sym e) (target_stops cached held path next c.in_err-target.field-0.0 (subst (FindsTarget cached held path) c.in_err-target.was (c.target_of.ensures.finds held)))

pub returns-then-target-ne-KIND_DIRECTORY-clause-says : goal.returns-then-target-ne-KIND_DIRECTORY-clause-says
returns-then-target-ne-KIND_DIRECTORY-clause-says c held =
    let cached = c.args.sectors.now.entries in
    let path = c.args.path.now in
    let p = reading (looks.plan_listed path) cached held in
    let inner : List ℕ → StoredNode → Ask Plan = looks.listing in
    let next : Target → Ask Plan = λ t. if t.kind == 2 then looks.at_inode inner t else refused reply.NotDir t.dirs in
    let u = c.in_ok-target.target in
    let t = subst (FindsTarget cached held path) c.in_ok-target.was (c.target_of.ensures.finds held) in
    answers p reply.NotDir t.0 (t.1 next ∙ of_another u.kind 2 (looks.at_inode inner (record (node_of u) { dirs = t.0 })) (refused reply.NotDir t.0) cached held c.if-target-ne-KIND_DIRECTORY.true)

pub returns-in_err-inode-clause-says : goal.returns-in_err-inode-clause-says
returns-in_err-inode-clause-says c held =
    let cached = c.args.sectors.now.entries in
    let path = c.args.path.now in
    let p = reading (looks.plan_listed path) cached held in
    let inner : List ℕ → StoredNode → Ask Plan = looks.listing in
    let next : Target → Ask Plan = λ t. if t.kind == 2 then looks.at_inode inner t else refused reply.NotDir t.dirs in
    let u = c.in_ok-target.target in
    let t = subst (FindsTarget cached held path) c.in_ok-target.was (c.target_of.ensures.finds held) in
    let touched = t.0 ++ u.inode ∷ [] in
    let q = t.1 next ∙ of_kind u.kind 2 (looks.at_inode inner (record (node_of u) { dirs = t.0 })) (refused reply.NotDir t.0) cached held c.if-target-ne-KIND_DIRECTORY.false in
    let e : c.from_residual-in_err-inode.result ≡ Err c.in_err-inode.field-0.0 = search rules in
    subst (Says p) (sym e) (inode_stops cached held p u.inode inner touched c.in_err-inode.field-0.0 q (subst (FindsInode cached held u.inode) c.in_err-inode.was (c.inode_of.ensures.finds held)))

pub returns-in_err-names-clause-says : goal.returns-in_err-names-clause-says
returns-in_err-names-clause-says c held =
    let cached = c.args.sectors.now.entries in
    let path = c.args.path.now in
    let p = reading (looks.plan_listed path) cached held in
    let inner : List ℕ → StoredNode → Ask Plan = looks.listing in
    let next : Target → Ask Plan = λ t. if t.kind == 2 then looks.at_inode inner t else refused reply.NotDir t.dirs in
    let u = c.in_ok-target.target in
    let t = subst (FindsTarget cached held path) c.in_ok-target.was (c.target_of.ensures.finds held) in
    let touched = t.0 ++ u.inode ∷ [] in
    let q = t.1 next ∙ of_kind u.kind 2 (looks.at_inode inner (record (node_of u) { dirs = t.0 })) (refused reply.NotDir t.0) cached held c.if-target-ne-KIND_DIRECTORY.false in
    let i = subst (FindsInode cached held u.inode) c.in_ok-inode.was (c.inode_of.ensures.finds held) in
    let e : c.from_residual-in_err-names.result ≡ Err c.in_err-names.field-0.0 = search rules in
    subst (Says p) (sym e) (names_stop cached held p (stored c.in_ok-inode.inode) touched c.in_err-names.field-0.0 (q ∙ i inner touched) (subst (ListsNames cached held (stored c.in_ok-inode.inode)) c.in_err-names.was (c.names_in.ensures.lists held)))

pub returns-clause-says : goal.returns-clause-says
returns-clause-says c held =
    let cached = c.args.sectors.now.entries in
    let path = c.args.path.now in
    let p = reading (looks.plan_listed path) cached held in
    let inner : List ℕ → StoredNode → Ask Plan = looks.listing in
    let next : Target → Ask Plan = λ t. if t.kind == 2 then looks.at_inode inner t else refused reply.NotDir t.dirs in
    let u = c.in_ok-target.target in
    let t = subst (FindsTarget cached held path) c.in_ok-target.was (c.target_of.ensures.finds held) in
    let touched = t.0 ++ u.inode ∷ [] in
    let q = t.1 next ∙ of_kind u.kind 2 (looks.at_inode inner (record (node_of u) { dirs = t.0 })) (refused reply.NotDir t.0) cached held c.if-target-ne-KIND_DIRECTORY.false in
    let i = subst (FindsInode cached held u.inode) c.in_ok-inode.was (c.inode_of.ensures.finds held) in
    let names = subst (ListsNames cached held (stored c.in_ok-inode.inode)) c.in_ok-names.was (c.names_in.ensures.lists held) in
    answers p (reply.Names c.in_ok-names.names) touched (q ∙ i inner touched ∙ names touched)

pub returns-in_err-target-clause-looks : goal.returns-in_err-target-clause-looks
returns-in_err-target-clause-looks c held m =
    let cached = c.args.sectors.now.entries in
    let path = c.args.path.now in
    let inner : List ℕ → StoredNode → Ask Plan = looks.listing in
    let next : Target → Ask Plan = λ t. if t.kind == 2 then looks.at_inode inner t else refused reply.NotDir t.dirs in
    c.in_err-target.ensures.looks held next

pub returns-then-target-ne-KIND_DIRECTORY-clause-looks : goal.returns-then-target-ne-KIND_DIRECTORY-clause-looks
returns-then-target-ne-KIND_DIRECTORY-clause-looks c held m =
    let cached = c.args.sectors.now.entries in
    let path = c.args.path.now in
    let inner : List ℕ → StoredNode → Ask Plan = looks.listing in
    let next : Target → Ask Plan = λ t. if t.kind == 2 then looks.at_inode inner t else refused reply.NotDir t.dirs in
    let u = c.in_ok-target.target in
    let t = c.in_ok-target.ensures.looks held in
    let f : Option StoredNode → Ask Plan = looks.with_inode inner (t.0 ++ u.inode ∷ []) in
    let q : Ask Plan = next (record (node_of u) { dirs = t.0 }) in
    then_looks cached held (looks.plan_listed path) q _ _ _ (t.1 next)
    (none_more cached held q _ (ap (λ b. examined (cond b (ReadInode u.inode f) (refused reply.NotDir t.0)) cached held) (ne_eqb u.kind 2 c.if-target-ne-KIND_DIRECTORY.true)))

pub returns-in_err-inode-clause-looks : goal.returns-in_err-inode-clause-looks
returns-in_err-inode-clause-looks c held m =
    let cached = c.args.sectors.now.entries in
    let path = c.args.path.now in
    let inner : List ℕ → StoredNode → Ask Plan = looks.listing in
    let next : Target → Ask Plan = λ t. if t.kind == 2 then looks.at_inode inner t else refused reply.NotDir t.dirs in
    let u = c.in_ok-target.target in
    let t = c.in_ok-target.ensures.looks held in
    let f : Option StoredNode → Ask Plan = looks.with_inode inner (t.0 ++ u.inode ∷ []) in
    let q : Ask Plan = next (record (node_of u) { dirs = t.0 }) in
    let k : examined q cached held ≡ examined (ReadInode u.inode f) cached held =
    ap (λ b. examined (cond b (ReadInode u.inode f) (refused reply.NotDir t.0)) cached held) (eq-eqb u.kind 2 c.if-target-ne-KIND_DIRECTORY.false) in
    then_looks cached held (looks.plan_listed path) q _ _ _ (t.1 next) (looks_as cached held q (ReadInode u.inode f) _ _ k (c.in_err-inode.ensures.looks held f refl))

pub returns-in_err-names-clause-looks : goal.returns-in_err-names-clause-looks
returns-in_err-names-clause-looks c held m =
    let cached = c.args.sectors.now.entries in
    let path = c.args.path.now in
    let inner : List ℕ → StoredNode → Ask Plan = looks.listing in
    let next : Target → Ask Plan = λ t. if t.kind == 2 then looks.at_inode inner t else refused reply.NotDir t.dirs in
    let u = c.in_ok-target.target in
    let t = c.in_ok-target.ensures.looks held in
    let f : Option StoredNode → Ask Plan = looks.with_inode inner (t.0 ++ u.inode ∷ []) in
    let q : Ask Plan = next (record (node_of u) { dirs = t.0 }) in
    let k : examined q cached held ≡ examined (ReadInode u.inode f) cached held =
    ap (λ b. examined (cond b (ReadInode u.inode f) (refused reply.NotDir t.0)) cached held) (eq-eqb u.kind 2 c.if-target-ne-KIND_DIRECTORY.false) in
    let p : Ask Plan = f (Some (stored c.in_ok-inode.inode)) in
    let e : c.from_residual-in_err-names.result ≡ Err c.in_err-names.field-0.0 = search rules in
    then_looks cached held (looks.plan_listed path) q _ _ _ (t.1 next)
    (looks_as cached held q (ReadInode u.inode f) _ _ k
    (then_looks cached held (ReadInode u.inode f) p _ _ _ (c.in_ok-inode.ensures.looks held f) (c.in_err-names.ensures.looks held (t.0 ++ u.inode ∷ []) (λ n. let z : c.in_err-names.field-0.0 ≡ stop.NoMemory = cc in m (e ∙ ap (λ (s : Stop). Err s) z)))))

pub returns-clause-looks : goal.returns-clause-looks
returns-clause-looks c held m =
    let cached = c.args.sectors.now.entries in
    let path = c.args.path.now in
    let inner : List ℕ → StoredNode → Ask Plan = looks.listing in
    let next : Target → Ask Plan = λ t. if t.kind == 2 then looks.at_inode inner t else refused reply.NotDir t.dirs in
    let u = c.in_ok-target.target in
    let t = c.in_ok-target.ensures.looks held in
    let f : Option StoredNode → Ask Plan = looks.with_inode inner (t.0 ++ u.inode ∷ []) in
    let q : Ask Plan = next (record (node_of u) { dirs = t.0 }) in
    let k : examined q cached held ≡ examined (ReadInode u.inode f) cached held =
    ap (λ b. examined (cond b (ReadInode u.inode f) (refused reply.NotDir t.0)) cached held) (eq-eqb u.kind 2 c.if-target-ne-KIND_DIRECTORY.false) in
    let p : Ask Plan = f (Some (stored c.in_ok-inode.inode)) in
    then_looks cached held (looks.plan_listed path) q _ _ _ (t.1 next)
    (looks_as cached held q (ReadInode u.inode f) _ _ k
    (then_looks cached held (ReadInode u.inode f) p _ _ _ (c.in_ok-inode.ensures.looks held f) (c.in_ok-names.ensures.looks held (t.0 ++ u.inode ∷ []) (λ n. absurd (cc)))))
