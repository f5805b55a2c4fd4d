-- The plan of a read goes on with the inode of the file.
use Rattle.std.proofs.Common.{◌≡◌, ℕ, Err, subst, sym, rules}
use Rattle.disk_definitions.specs.FilePlans.{plan_read, showing}
use Rattle.dir_lookup.specs.Hands.{over}
use Rattle.plan_steps.specs.Ends.{Says}
use Rattle.op_data.specs.Files.{FindsFile}
use Rattle.op_data.proofs.Found.{ends_plan}
use Rattle.disk_definitions.specs.Store.{stored}
use Rattle.disk_definitions.specs.Ask.{Ask}
use Rattle.disk_definitions.specs.Plans.{Plan}
use Rattle.plan_steps.proofs.Looking.{none_more, then_looks}
use Rattle.op_data.proofs.FileLooks.{shown_looks}
use Rattle.op_data.proofs.read.read_file.Goals as goal

pub returns-in_err-file-clause-says : goal.returns-in_err-file-clause-says
returns-in_err-file-clause-says c =
    let hand = c.args.hand.now in
    let path = c.args.path.now in
    let e : c.from_residual.result ≡ Err c.in_err-file.field-0.0 = search rules in
    subst (Says (over (plan_read path c.args.off c.args.len) hand)) (sym e)
    (ends_plan hand path (showing c.args.off c.args.len) c.in_err-file.field-0.0 (subst (FindsFile hand path) c.in_err-file.was c.file_of.ensures.finds))

pub returns-clause-says : goal.returns-clause-says
returns-clause-says c =
    let hand = c.args.hand.now in
    let path = c.args.path.now in
    let f = subst (FindsFile hand path) c.in_ok-file.was c.file_of.ensures.finds in
    subst (λ p. Says p c.show.result) (sym (f.1 (showing c.args.off c.args.len))) (c.show.ensures c.in_ok-file.file.number f.0)

pub returns-in_err-file-clause-looks : goal.returns-in_err-file-clause-looks
returns-in_err-file-clause-looks c = c.in_err-file.ensures.looks (showing c.args.off c.args.len)

pub returns-clause-looks : goal.returns-clause-looks
returns-clause-looks c =
    let hand = c.args.hand.now in
    let cached = hand.sectors.now.entries in
    let held = hand.held.now in
    let t = c.in_ok-file.ensures.looks in
    let j : ℕ = c.in_ok-file.file.number in
    let x = stored c.in_ok-file.file.inode in
    let p : Ask Plan = showing c.args.off c.args.len j t.0 x in
    then_looks cached held (plan_read c.args.path.now c.args.off c.args.len) p _ _ _ (t.1 (showing c.args.off c.args.len)) (none_more cached held p _ (shown_looks c.args.off c.args.len j t.0 x hand))
