-- By the kind of the node, and by that of its inode.
use Rattle.std.proofs.Common.{◌≡◌, Err, rules, subst, sym}
use Rattle.plan_steps.specs.Targets.{FindsInode, FindsTarget}
use Rattle.op_data.specs.Files.{FindsFile}
use Rattle.op_data.proofs.Found.{a_directory, another_inode, file_stops, inode_stops, no_file, the_file}
use Rattle.op_data.proofs.FileLooks.{another_looks, directory_looks, file_looks, inode_stops_looks, no_file_looks}
use Rattle.op_data.specs.Looking.{LooksAtFile}
use Rattle.disk_definitions.specs.FilePlans.{at_file}
use Rattle.op_data.proofs.file.file_of.Goals as goal

pub returns-in_err-target-clause-finds : goal.returns-in_err-target-clause-finds
returns-in_err-target-clause-finds c =
    let hand = c.args.hand.now in
    let path = c.args.path.now in
    let e : c.from_residual.result ≡ Err c.in_err-target.field-0.0 = search rules in
    subst (FindsFile hand path) (sym e) (file_stops hand path c.in_err-target.field-0.0 (subst (FindsTarget hand.sectors.now.entries hand.held.now path) c.in_err-target.was (c.target_of.ensures.finds hand.held.now)))

pub returns-then-target-eq-KIND_DIRECTORY-clause-finds : goal.returns-then-target-eq-KIND_DIRECTORY-clause-finds
returns-then-target-eq-KIND_DIRECTORY-clause-finds c =
    let hand = c.args.hand.now in
    let path = c.args.path.now in
    a_directory hand path c.in_ok-target.target (subst (FindsTarget hand.sectors.now.entries hand.held.now path) c.in_ok-target.was (c.target_of.ensures.finds hand.held.now)) c.if-target-eq-KIND_DIRECTORY.true

pub returns-then-target-ne-KIND_FILE-clause-finds : goal.returns-then-target-ne-KIND_FILE-clause-finds
returns-then-target-ne-KIND_FILE-clause-finds c =
    let hand = c.args.hand.now in
    let path = c.args.path.now in
    no_file hand path c.in_ok-target.target (subst (FindsTarget hand.sectors.now.entries hand.held.now path) c.in_ok-target.was (c.target_of.ensures.finds hand.held.now)) c.if-target-eq-KIND_DIRECTORY.false c.if-target-ne-KIND_FILE.true

pub returns-in_err-inode-clause-finds : goal.returns-in_err-inode-clause-finds
returns-in_err-inode-clause-finds c =
    let hand = c.args.hand.now in
    let path = c.args.path.now in
    let u = c.in_ok-target.target in
    let e : c.from_residual-in_err-inode.result ≡ Err c.in_err-inode.field-0.0 = search rules in
    subst (FindsFile hand path) (sym e)
    (inode_stops hand path u (subst (FindsTarget hand.sectors.now.entries hand.held.now path) c.in_ok-target.was (c.target_of.ensures.finds hand.held.now)) c.if-target-eq-KIND_DIRECTORY.false c.if-target-ne-KIND_FILE.false
    c.in_err-inode.field-0.0 (subst (FindsInode hand.sectors.now.entries hand.held.now u.inode) c.in_err-inode.was (c.inode_of.ensures.finds hand.held.now)))

pub returns-then-inode-ne-KIND_FILE-clause-finds : goal.returns-then-inode-ne-KIND_FILE-clause-finds
returns-then-inode-ne-KIND_FILE-clause-finds c =
    let hand = c.args.hand.now in
    let path = c.args.path.now in
    let u = c.in_ok-target.target in
    another_inode hand path u (subst (FindsTarget hand.sectors.now.entries hand.held.now path) c.in_ok-target.was (c.target_of.ensures.finds hand.held.now)) c.if-target-eq-KIND_DIRECTORY.false c.if-target-ne-KIND_FILE.false
    c.in_ok-inode.inode c.if-inode-ne-KIND_FILE.true (subst (FindsInode hand.sectors.now.entries hand.held.now u.inode) c.in_ok-inode.was (c.inode_of.ensures.finds hand.held.now))

pub returns-clause-finds : goal.returns-clause-finds
returns-clause-finds c =
    let hand = c.args.hand.now in
    let path = c.args.path.now in
    let u = c.in_ok-target.target in
    the_file hand path u (subst (FindsTarget hand.sectors.now.entries hand.held.now path) c.in_ok-target.was (c.target_of.ensures.finds hand.held.now)) c.if-target-eq-KIND_DIRECTORY.false c.if-target-ne-KIND_FILE.false
    c.in_ok-inode.inode c.if-inode-ne-KIND_FILE.false (subst (FindsInode hand.sectors.now.entries hand.held.now u.inode) c.in_ok-inode.was (c.inode_of.ensures.finds hand.held.now))

pub returns-in_err-target-clause-looks : goal.returns-in_err-target-clause-looks
returns-in_err-target-clause-looks c =
    let hand = c.args.hand.now in
    let cached = hand.sectors.now.entries in
    let held = hand.held.now in
    let path = c.args.path.now in
    let e : c.from_residual.result ≡ Err c.in_err-target.field-0.0 = search rules in
    subst (LooksAtFile hand c.args.looked.now c.target_of.new.looked path) (sym e) (λ next. c.in_err-target.ensures.looks held (at_file next))

pub returns-then-target-eq-KIND_DIRECTORY-clause-looks : goal.returns-then-target-eq-KIND_DIRECTORY-clause-looks
returns-then-target-eq-KIND_DIRECTORY-clause-looks c =
    let hand = c.args.hand.now in
    let cached = hand.sectors.now.entries in
    let held = hand.held.now in
    let path = c.args.path.now in
    let u = c.in_ok-target.target in
    let t = c.in_ok-target.ensures.looks held in
    directory_looks hand path c.args.looked.now c.target_of.new.looked u t c.if-target-eq-KIND_DIRECTORY.true

pub returns-then-target-ne-KIND_FILE-clause-looks : goal.returns-then-target-ne-KIND_FILE-clause-looks
returns-then-target-ne-KIND_FILE-clause-looks c =
    let hand = c.args.hand.now in
    let cached = hand.sectors.now.entries in
    let held = hand.held.now in
    let path = c.args.path.now in
    let u = c.in_ok-target.target in
    let t = c.in_ok-target.ensures.looks held in
    no_file_looks hand path c.args.looked.now c.target_of.new.looked u t c.if-target-eq-KIND_DIRECTORY.false c.if-target-ne-KIND_FILE.true

pub returns-in_err-inode-clause-looks : goal.returns-in_err-inode-clause-looks
returns-in_err-inode-clause-looks c =
    let hand = c.args.hand.now in
    let cached = hand.sectors.now.entries in
    let held = hand.held.now in
    let path = c.args.path.now in
    let u = c.in_ok-target.target in
    let t = c.in_ok-target.ensures.looks held in
    let e : c.from_residual-in_err-inode.result ≡ Err c.in_err-inode.field-0.0 = search rules in
    subst (LooksAtFile hand c.args.looked.now c.inode_of.new.looked path) (sym e)
    (inode_stops_looks hand path c.args.looked.now c.target_of.new.looked u t c.if-target-eq-KIND_DIRECTORY.false c.if-target-ne-KIND_FILE.false c.inode_of.new.looked c.in_err-inode.field-0.0 (c.in_err-inode.ensures.looks held))

pub returns-then-inode-ne-KIND_FILE-clause-looks : goal.returns-then-inode-ne-KIND_FILE-clause-looks
returns-then-inode-ne-KIND_FILE-clause-looks c =
    let hand = c.args.hand.now in
    let cached = hand.sectors.now.entries in
    let held = hand.held.now in
    let path = c.args.path.now in
    let u = c.in_ok-target.target in
    let t = c.in_ok-target.ensures.looks held in
    another_looks hand path c.args.looked.now c.target_of.new.looked u t c.if-target-eq-KIND_DIRECTORY.false c.if-target-ne-KIND_FILE.false c.inode_of.new.looked c.in_ok-inode.inode c.if-inode-ne-KIND_FILE.true (c.in_ok-inode.ensures.looks held)

pub returns-clause-looks : goal.returns-clause-looks
returns-clause-looks c =
    let hand = c.args.hand.now in
    let cached = hand.sectors.now.entries in
    let held = hand.held.now in
    let path = c.args.path.now in
    let u = c.in_ok-target.target in
    let t = c.in_ok-target.ensures.looks held in
    file_looks hand path c.args.looked.now c.target_of.new.looked u t c.if-target-eq-KIND_DIRECTORY.false c.if-target-ne-KIND_FILE.false c.inode_of.new.looked c.in_ok-inode.inode c.if-inode-ne-KIND_FILE.false (c.in_ok-inode.ensures.looks held)
