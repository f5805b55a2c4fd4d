-- Operation by operation.
use Rattle.frang_base.specs.declared.op.Op.TheVariants as op
use Rattle.std.proofs.Common.{◌≡◌, Err, [], rules, subst, sym, List, ap, ℕ, ◌∙◌}
use Rattle.disk_definitions.specs.FilePlans.{plan_read, plan_written}
use Rattle.disk_definitions.specs.PlanOf.{plan_of}
use Rattle.dir_lookup.specs.Hands.{over, seen}
use Rattle.plan_steps.specs.Edits.{edits_of}
use Rattle.plan_steps.specs.Ends.{Comes, IsDone, Says}
use Rattle.dir_lookup.proofs.Looking.{adds_as}
use Rattle.disk_definitions.specs.LookedAt.{examined}
use Rattle.frang_base.specs.declared.op.Op.{Op}
use Rattle.op_data.proofs.plan.plan_bytes.Goals as goal

pub returns-in-Write-clause-comes : goal.returns-in-Write-clause-comes
returns-in-Write-clause-comes c birth =
    let hand = c.args.hand.now in
    subst (λ o. Comes (over (plan_of (seen hand) birth c.args.when o) hand) c.write_file.result) (sym c.in-Write.is)
    (subst (λ bytes. Comes (over (plan_written (seen hand) c.args.when c.in-Write.path c.in-Write.off bytes) hand) c.write_file.result) c.as_slice.ensures c.write_file.ensures.comes)

pub returns-in-Fill-clause-comes : goal.returns-in-Fill-clause-comes
returns-in-Fill-clause-comes c birth =
    let hand = c.args.hand.now in
    subst (λ o. Comes (over (plan_of (seen hand) birth c.args.when o) hand) c.write_file-in-Fill.result) (sym c.in-Fill.is) c.write_file-in-Fill.ensures.comes

pub returns-in_err-reply-in-Read-clause-comes : goal.returns-in_err-reply-in-Read-clause-comes
returns-in_err-reply-in-Read-clause-comes c birth =
    let hand = c.args.hand.now in
    let e : c.from_residual.result ≡ Err c.in_err-reply-in-Read.field-0.0 = search rules in
    subst (λ o. Comes (over (plan_of (seen hand) birth c.args.when o) hand) c.from_residual.result) (sym c.in-Read.is)
    (subst (Comes (over (plan_read c.in-Read.path c.in-Read.off c.in-Read.len) hand)) (sym e)
    (subst (Says (over (plan_read c.in-Read.path c.in-Read.off c.in-Read.len) hand)) c.in_err-reply-in-Read.was c.read_file.ensures.says))

pub returns-in_ok-reply-in-Read-clause-comes : goal.returns-in_ok-reply-in-Read-clause-comes
returns-in_ok-reply-in-Read-clause-comes c birth =
    let hand = c.args.hand.now in
    let p = over (plan_of (seen hand) birth c.args.when c.args.op.now) hand in
    let said : IsDone c.in_ok-reply-in-Read.reply [] p =
    subst (λ o. IsDone c.in_ok-reply-in-Read.reply [] (over (plan_of (seen hand) birth c.args.when o) hand)) (sym c.in-Read.is)
    (subst (Says (over (plan_read c.in-Read.path c.in-Read.off c.in-Read.len) hand)) c.in_ok-reply-in-Read.was c.read_file.ensures.says) in
    subst (λ r. IsDone r (edits_of c.unchanged.result.edits.items) p) (sym c.unchanged.ensures.reply) (subst (λ es. IsDone c.in_ok-reply-in-Read.reply (edits_of es) p) (sym c.unchanged.ensures.edits) said)

pub returns-in-Write-clause-looks : goal.returns-in-Write-clause-looks
returns-in-Write-clause-looks c birth =
    let hand = c.args.hand.now in
    let plan : Op → List ℕ = λ o. examined (plan_of (seen hand) birth c.args.when o) hand.sectors.now.entries hand.held.now in
    adds_as _ _ _ _ (ap (λ bytes. plan (op.Write c.in-Write.path c.in-Write.off bytes)) c.as_slice.ensures ∙ ap plan (sym c.in-Write.is)) (c.write_file.ensures.looks)

pub returns-in-Fill-clause-looks : goal.returns-in-Fill-clause-looks
returns-in-Fill-clause-looks c birth =
    let hand = c.args.hand.now in
    let plan : Op → List ℕ = λ o. examined (plan_of (seen hand) birth c.args.when o) hand.sectors.now.entries hand.held.now in
    adds_as _ _ _ _ (ap plan (sym c.in-Fill.is)) (c.write_file-in-Fill.ensures.looks)

pub returns-in-Truncate-clause-looks : goal.returns-in-Truncate-clause-looks
returns-in-Truncate-clause-looks c birth =
    let hand = c.args.hand.now in
    let plan : Op → List ℕ = λ o. examined (plan_of (seen hand) birth c.args.when o) hand.sectors.now.entries hand.held.now in
    adds_as _ _ _ _ (ap plan (sym c.in-Truncate.is)) (c.truncate_file.ensures.looks)

pub returns-in_err-reply-in-Read-clause-looks : goal.returns-in_err-reply-in-Read-clause-looks
returns-in_err-reply-in-Read-clause-looks c birth =
    let hand = c.args.hand.now in
    let plan : Op → List ℕ = λ o. examined (plan_of (seen hand) birth c.args.when o) hand.sectors.now.entries hand.held.now in
    adds_as _ _ _ _ (ap plan (sym c.in-Read.is)) c.in_err-reply-in-Read.ensures.looks

pub returns-in_ok-reply-in-Read-clause-looks : goal.returns-in_ok-reply-in-Read-clause-looks
returns-in_ok-reply-in-Read-clause-looks c birth =
    let hand = c.args.hand.now in
    let plan : Op → List ℕ = λ o. examined (plan_of (seen hand) birth c.args.when o) hand.sectors.now.entries hand.held.now in
    adds_as _ _ _ _ (ap plan (sym c.in-Read.is)) c.in_ok-reply-in-Read.ensures.looks
