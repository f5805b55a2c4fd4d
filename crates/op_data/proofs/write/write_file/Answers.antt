-- The file that the path names, and the bytes that are written into it.
use Rattle.std.proofs.Common.{◌≡◌, Ok, Err, subst, sym, rules}
use Rattle.disk_definitions.specs.FilePlans.{plan_of_file, writing}
use Rattle.dir_lookup.specs.Hands.{over, seen}
use Rattle.plan_steps.specs.Ends.{Comes}
use Rattle.op_data.specs.Files.{FindsFile}
use Rattle.op_data.specs.Writings.{writing_of}
use Rattle.op_data.proofs.Found.{ends_plan}
use Rattle.disk_definitions.specs.Store.{stored}
use Rattle.plan_steps.proofs.Looking.{then_looks}
use Rattle.op_data.proofs.write.write_file.Goals as goal

pub returns-in_err-file-clause-comes : goal.returns-in_err-file-clause-comes
returns-in_err-file-clause-comes c =
    let hand = c.args.hand.now in
    let path = c.args.path.now in
    let w = writing_of c.args.writing.now in
    let e : c.from_residual.result ≡ Err c.in_err-file.field-0.0 = search rules in
    subst (Comes (over (plan_of_file path (writing (seen hand) w)) hand)) (sym e)
    (ends_plan hand path (writing (seen hand) w) c.in_err-file.field-0.0 (subst (FindsFile hand path) c.in_err-file.was c.file_of.ensures.finds))

pub returns-clause-comes : goal.returns-clause-comes
returns-clause-comes c =
    let hand = c.args.hand.now in
    let path = c.args.path.now in
    let w = writing_of c.args.writing.now in
    let f : FindsFile hand path (Ok c.in_ok-file.file) = subst (FindsFile hand path) c.in_ok-file.was c.file_of.ensures.finds in
    subst (λ p. Comes p c.write.result) (sym (f.1 (writing (seen hand) w))) (c.write.ensures.comes f.0)

pub returns-in_err-file-clause-looks : goal.returns-in_err-file-clause-looks
returns-in_err-file-clause-looks c =
    let hand = c.args.hand.now in
    let cached = hand.sectors.now.entries in
    let held = hand.held.now in
    c.in_err-file.ensures.looks (writing (seen c.args.hand.now) (writing_of c.args.writing.now))

pub returns-clause-looks : goal.returns-clause-looks
returns-clause-looks c =
    let hand = c.args.hand.now in
    let cached = hand.sectors.now.entries in
    let held = hand.held.now in
    let t = c.in_ok-file.ensures.looks in
    then_looks cached held (plan_of_file c.args.path.now (writing (seen c.args.hand.now) (writing_of c.args.writing.now))) (writing (seen c.args.hand.now) (writing_of c.args.writing.now) c.in_ok-file.file.number t.0 (stored c.in_ok-file.file.inode)) _ _ _ (t.1 (writing (seen c.args.hand.now) (writing_of c.args.writing.now))) (c.write.ensures.looks t.0)
