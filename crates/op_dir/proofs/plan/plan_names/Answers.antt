-- Operation by operation.
use Rattle.std.proofs.Common.{ℕ, List, rules, sym, ap, ◌∙◌}
use Rattle.frang_base.specs.declared.op.Op.{Op}
use Rattle.frang_base.specs.declared.op.Op.TheVariants as op
use Rattle.disk_definitions.specs.PlanOf.{plan_of}
use Rattle.dir_lookup.specs.Hands.{seen}
use Rattle.disk_definitions.specs.LookedAt.{examined}
use Rattle.dir_lookup.proofs.Looking.{adds_as}
use Rattle.op_dir.proofs.plan.plan_names.Goals as goal

pub returns-in-Create-clause-looks : goal.returns-in-Create-clause-looks
returns-in-Create-clause-looks c when m =
    let cached = c.args.hand.now.sectors.now.entries in
    let held = c.args.hand.now.held.now in
    let h = seen c.args.hand.now in
    adds_as _ _ _ _ (ap (λ o. examined (plan_of h c.args.birth when o) cached held) (sym c.in-Create.is)) (c.make.ensures.looks m)

pub returns-in-Mkdir-clause-looks : goal.returns-in-Mkdir-clause-looks
returns-in-Mkdir-clause-looks c when m =
    let cached = c.args.hand.now.sectors.now.entries in
    let held = c.args.hand.now.held.now in
    let h = seen c.args.hand.now in
    adds_as _ _ _ _ (ap (λ o. examined (plan_of h c.args.birth when o) cached held) (sym c.in-Mkdir.is)) (c.make-in-Mkdir.ensures.looks m)

pub returns-in_err-target_of-in-Symlink-clause-looks : goal.returns-in_err-target_of-in-Symlink-clause-looks
returns-in_err-target_of-in-Symlink-clause-looks c when m = absurd (m (search rules))

pub returns-in_ok-target_of-in-Symlink-clause-looks : goal.returns-in_ok-target_of-in-Symlink-clause-looks
returns-in_ok-target_of-in-Symlink-clause-looks c when m =
    let cached = c.args.hand.now.sectors.now.entries in
    let held = c.args.hand.now.held.now in
    let h = seen c.args.hand.now in
    let plan : Op → List ℕ = λ o. examined (plan_of h c.args.birth when o) cached held in
    adds_as _ _ _ _ (ap (λ target. plan (op.Symlink c.in-Symlink.path target)) c.in_ok-target_of-in-Symlink.ensures ∙ ap plan (sym c.in-Symlink.is)) (c.make-in-Symlink.ensures.looks m)

pub returns-in-Link-clause-looks : goal.returns-in-Link-clause-looks
returns-in-Link-clause-looks c when m =
    let cached = c.args.hand.now.sectors.now.entries in
    let held = c.args.hand.now.held.now in
    let h = seen c.args.hand.now in
    adds_as _ _ _ _ (ap (λ o. examined (plan_of h c.args.birth when o) cached held) (sym c.in-Link.is)) (c.link_node.ensures.looks m)

pub returns-in-Unlink-clause-looks : goal.returns-in-Unlink-clause-looks
returns-in-Unlink-clause-looks c when m =
    let cached = c.args.hand.now.sectors.now.entries in
    let held = c.args.hand.now.held.now in
    let h = seen c.args.hand.now in
    adds_as _ _ _ _ (ap (λ o. examined (plan_of h c.args.birth when o) cached held) (sym c.in-Unlink.is)) (c.unlink.ensures.looks m)

pub returns-in-Rmdir-clause-looks : goal.returns-in-Rmdir-clause-looks
returns-in-Rmdir-clause-looks c when m =
    let cached = c.args.hand.now.sectors.now.entries in
    let held = c.args.hand.now.held.now in
    let h = seen c.args.hand.now in
    adds_as _ _ _ _ (ap (λ o. examined (plan_of h c.args.birth when o) cached held) (sym c.in-Rmdir.is)) (c.remove_directory.ensures.looks m)

pub returns-in-Rename-clause-looks : goal.returns-in-Rename-clause-looks
returns-in-Rename-clause-looks c when m =
    let cached = c.args.hand.now.sectors.now.entries in
    let held = c.args.hand.now.held.now in
    let h = seen c.args.hand.now in
    adds_as _ _ _ _ (ap (λ o. examined (plan_of h c.args.birth when o) cached held) (sym c.in-Rename.is)) (c.rename_node.ensures.looks m)
