-- The plan of a truncate goes on with the inode of the file.
use Rattle.std.proofs.Common.{◌≡◌, Err, subst, sym, rules}
use Rattle.disk_definitions.specs.FilePlans.{cutting, plan_truncated}
use Rattle.dir_lookup.specs.Hands.{over}
use Rattle.plan_steps.specs.Ends.{Comes}
use Rattle.op_data.specs.Files.{FindsFile}
use Rattle.op_data.proofs.Found.{ends_plan}
use Rattle.disk_definitions.specs.Store.{stored}
use Rattle.plan_steps.proofs.Looking.{then_looks}
use Rattle.op_data.proofs.truncate.truncate_file.Goals as goal

pub returns-in_err-file-clause-comes : goal.returns-in_err-file-clause-comes
returns-in_err-file-clause-comes c =
    let hand = c.args.hand.now in
    let path = c.args.path.now in
    let e : c.from_residual.result ≡ Err c.in_err-file.field-0.0 = search rules in
    subst (Comes (over (plan_truncated c.args.when path c.args.len) hand)) (sym e)
    (ends_plan hand path (cutting c.args.when c.args.len) c.in_err-file.field-0.0 (subst (FindsFile hand path) c.in_err-file.was c.file_of.ensures.finds))

pub returns-clause-comes : goal.returns-clause-comes
returns-clause-comes c =
    let hand = c.args.hand.now in
    let path = c.args.path.now in
    let f = subst (FindsFile hand path) c.in_ok-file.was c.file_of.ensures.finds in
    subst (λ p. Comes p c.cut.result) (sym (f.1 (cutting c.args.when c.args.len))) (c.cut.ensures.comes f.0)

pub returns-in_err-file-clause-looks : goal.returns-in_err-file-clause-looks
returns-in_err-file-clause-looks c =
    let hand = c.args.hand.now in
    let cached = hand.sectors.now.entries in
    let held = hand.held.now in
    c.in_err-file.ensures.looks (cutting c.args.when c.args.len)

pub returns-clause-looks : goal.returns-clause-looks
returns-clause-looks c =
    let hand = c.args.hand.now in
    let cached = hand.sectors.now.entries in
    let held = hand.held.now in
    let t = c.in_ok-file.ensures.looks in
    then_looks cached held (plan_truncated c.args.when c.args.path.now c.args.len) (cutting c.args.when c.args.len c.in_ok-file.file.number t.0 (stored c.in_ok-file.file.inode)) _ _ _ (t.1 (cutting c.args.when c.args.len)) (c.cut.ensures.looks t.0)
