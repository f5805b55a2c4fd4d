-- The edits of all but the bytes, and then the sectors.
use Rattle.std.proofs.Common.{◌≡◌, Err, max, subst, sym, ap, ◌∙◌, rules}
use Rattle.disk_definitions.specs.Store.{stored}
use Rattle.disk_definitions.specs.FilePlans.{end_of, resized, writing_in}
use Rattle.dir_lookup.specs.Hands.{over}
use Rattle.plan_steps.specs.Ends.{Comes}
use Rattle.op_data.specs.Writings.{WritesSectors, writing_of}
use Rattle.op_data.proofs.Ending.{all_written, sectors_stop}
use Rattle.op_data.proofs.write.write_in.Goals as goal

pub returns-in_err-edits-2 : goal.returns-in_err-edits-2
returns-in_err-edits-2 c touched =
    let hand = c.args.hand.now in
    let w = writing_of c.args.writing.now in
    let x = stored c.args.file.now.inode in
    let y = stored c.resized-new.result in
    let items = c.in_ok-edits.edits.items in
    let size : c.max-size.result ≡ max x.size (end_of w) = search rules in
    let same : y ≡ resized x w.when (max x.size (end_of w)) c.args.more.now.small.now c.args.more.now.large = c.resized-new.ensures ∙ ap (λ size. resized x w.when size c.args.more.now.small.now c.args.more.now.large) size in
    let e : c.from_residual-in_err-edits-2.result ≡ Err c.in_err-edits-2.field-0.0 = search rules in
    subst (Comes (over (writing_in w c.args.file.now.number touched x c.args.more.now.small.now c.args.more.now.large) hand)) (sym e)
    (sectors_stop hand w c.args.file.now.number touched x y c.args.more.now.small.now c.args.more.now.large items same c.in_ok-edits.ensures c.in_err-edits-2.field-0.0
    (subst (WritesSectors hand w x y items) c.in_err-edits-2.was c.add_sectors.ensures))

pub returns : goal.returns
returns c touched =
    let hand = c.args.hand.now in
    let w = writing_of c.args.writing.now in
    let x = stored c.args.file.now.inode in
    let y = stored c.resized-new.result in
    let items = c.in_ok-edits.edits.items in
    let size : c.max-size.result ≡ max x.size (end_of w) = search rules in
    let same : y ≡ resized x w.when (max x.size (end_of w)) c.args.more.now.small.now c.args.more.now.large = c.resized-new.ensures ∙ ap (λ size. resized x w.when size c.args.more.now.small.now c.args.more.now.large) size in
    all_written hand w c.args.file.now.number touched x y c.args.more.now.small.now c.args.more.now.large items same c.in_ok-edits.ensures c.in_ok-edits-2.edits
    (subst (WritesSectors hand w x y items) c.in_ok-edits-2.was c.add_sectors.ensures)
