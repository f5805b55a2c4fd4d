-- Looks, and operations on bytes.
use Rattle.std.proofs.Common.{◌≡◌, Err, [], List, ℕ, rules, subst, sym, ap, ◌∙◌}
use Rattle.disk_definitions.specs.PlanOf.{plan_of}
use Rattle.dir_lookup.specs.Hands.{over, seen}
use Rattle.plan_steps.specs.declared.stop.Stop.{Stop}
use Rattle.plan_steps.specs.declared.stop.Stop.TheVariants as stop
use Rattle.plan_steps.specs.Edits.{edits_of}
use Rattle.plan_steps.specs.Ends.{Comes, IsDone, Says}
use Rattle.frang_base.specs.declared.op.Op.{Op}
use Rattle.frang_base.specs.declared.op.Op.TheVariants as op
use Rattle.disk_definitions.specs.LookedAt.{examined}
use Rattle.dir_lookup.proofs.Looking.{adds_as}
use Rattle.line_plan.proofs.plan.plan_op.Goals as goal

pub returns-in-Write-clause-comes : goal.returns-in-Write-clause-comes
returns-in-Write-clause-comes c = c.plan_bytes.ensures.comes c.args.birth

pub returns-in_err-reply-in-Stat-clause-comes : goal.returns-in_err-reply-in-Stat-clause-comes
returns-in_err-reply-in-Stat-clause-comes c =
    let hand = c.args.hand.now in
    let p = over (plan_of (seen hand) c.args.birth c.args.when c.args.op.now) hand in
    let e : c.from_residual-in_err-reply-in-Stat.result ≡ Err c.in_err-reply-in-Stat.field-0.0 = search rules in
    subst (Comes p) (sym e) (subst (Says p) c.in_err-reply-in-Stat.was (c.look.ensures.says (seen hand) c.args.birth c.args.when hand.held.now))

pub returns-in_ok-reply-in-Stat-clause-comes : goal.returns-in_ok-reply-in-Stat-clause-comes
returns-in_ok-reply-in-Stat-clause-comes c =
    let hand = c.args.hand.now in
    let p = over (plan_of (seen hand) c.args.birth c.args.when c.args.op.now) hand in
    let said : IsDone c.in_ok-reply-in-Stat.reply [] p = subst (Says p) c.in_ok-reply-in-Stat.was (c.look.ensures.says (seen hand) c.args.birth c.args.when hand.held.now) in
    subst (λ r. IsDone r (edits_of c.unchanged-in-Stat.result.edits.items) p) (sym c.unchanged-in-Stat.ensures.reply) (subst (λ es. IsDone c.in_ok-reply-in-Stat.reply (edits_of es) p) (sym c.unchanged-in-Stat.ensures.edits) said)

pub returns-in-Create-clause-looks : goal.returns-in-Create-clause-looks
returns-in-Create-clause-looks c m =
    let hand = c.args.hand.now in
    let plan : Op → List ℕ = λ o. examined (plan_of (seen hand) c.args.birth c.args.when o) hand.sectors.now.entries hand.held.now in
    adds_as _ _ _ _ (ap plan (sym c.in-Create.is)) (c.make.ensures.looks m)

pub returns-in-Mkdir-clause-looks : goal.returns-in-Mkdir-clause-looks
returns-in-Mkdir-clause-looks c m =
    let hand = c.args.hand.now in
    let plan : Op → List ℕ = λ o. examined (plan_of (seen hand) c.args.birth c.args.when o) hand.sectors.now.entries hand.held.now in
    adds_as _ _ _ _ (ap plan (sym c.in-Mkdir.is)) (c.make-in-Mkdir.ensures.looks m)

pub returns-in_err-target_of-in-Symlink-clause-looks : goal.returns-in_err-target_of-in-Symlink-clause-looks
returns-in_err-target_of-in-Symlink-clause-looks c m = absurd (m (search rules))

pub returns-in_ok-target_of-in-Symlink-clause-looks : goal.returns-in_ok-target_of-in-Symlink-clause-looks
returns-in_ok-target_of-in-Symlink-clause-looks c m =
    let hand = c.args.hand.now in
    let plan : Op → List ℕ = λ o. examined (plan_of (seen hand) c.args.birth c.args.when o) hand.sectors.now.entries hand.held.now in
    adds_as _ _ _ _ (ap (λ target. plan (op.Symlink c.in-Symlink.path target)) c.in_ok-target_of-in-Symlink.ensures ∙ ap plan (sym c.in-Symlink.is)) (c.make-in-Symlink.ensures.looks m)

pub returns-in-Link-clause-looks : goal.returns-in-Link-clause-looks
returns-in-Link-clause-looks c m =
    let hand = c.args.hand.now in
    let plan : Op → List ℕ = λ o. examined (plan_of (seen hand) c.args.birth c.args.when o) hand.sectors.now.entries hand.held.now in
    adds_as _ _ _ _ (ap plan (sym c.in-Link.is)) (c.link_node.ensures.looks m)

pub returns-in-Unlink-clause-looks : goal.returns-in-Unlink-clause-looks
returns-in-Unlink-clause-looks c m =
    let hand = c.args.hand.now in
    let plan : Op → List ℕ = λ o. examined (plan_of (seen hand) c.args.birth c.args.when o) hand.sectors.now.entries hand.held.now in
    adds_as _ _ _ _ (ap plan (sym c.in-Unlink.is)) (c.unlink.ensures.looks m)

pub returns-in-Rmdir-clause-looks : goal.returns-in-Rmdir-clause-looks
returns-in-Rmdir-clause-looks c m =
    let hand = c.args.hand.now in
    let plan : Op → List ℕ = λ o. examined (plan_of (seen hand) c.args.birth c.args.when o) hand.sectors.now.entries hand.held.now in
    adds_as _ _ _ _ (ap plan (sym c.in-Rmdir.is)) (c.remove_directory.ensures.looks m)

pub returns-in-Rename-clause-looks : goal.returns-in-Rename-clause-looks
returns-in-Rename-clause-looks c m =
    let hand = c.args.hand.now in
    let plan : Op → List ℕ = λ o. examined (plan_of (seen hand) c.args.birth c.args.when o) hand.sectors.now.entries hand.held.now in
    adds_as _ _ _ _ (ap plan (sym c.in-Rename.is)) (c.rename_node.ensures.looks m)

pub returns-in-Write-clause-looks : goal.returns-in-Write-clause-looks
returns-in-Write-clause-looks c m = c.plan_bytes.ensures.looks c.args.birth

pub returns-in_err-reply-in-Stat-clause-looks : goal.returns-in_err-reply-in-Stat-clause-looks
returns-in_err-reply-in-Stat-clause-looks c m =
    let hand = c.args.hand.now in
    let e : c.from_residual-in_err-reply-in-Stat.result ≡ Err c.in_err-reply-in-Stat.field-0.0 = search rules in
    c.in_err-reply-in-Stat.ensures.looks (seen hand) c.args.birth c.args.when hand.held.now (λ q. let z : c.in_err-reply-in-Stat.field-0.0 ≡ stop.NoMemory = cc in m (e ∙ ap (λ (s : Stop). Err s) z))

pub returns-in_ok-reply-in-Stat-clause-looks : goal.returns-in_ok-reply-in-Stat-clause-looks
returns-in_ok-reply-in-Stat-clause-looks c m =
    let hand = c.args.hand.now in
    c.in_ok-reply-in-Stat.ensures.looks (seen hand) c.args.birth c.args.when hand.held.now (λ q. absurd (cc))
