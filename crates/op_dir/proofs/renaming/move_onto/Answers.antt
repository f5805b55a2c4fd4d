-- By whether both names are one node's, by the kinds, and by the inode.
use Rattle.std.proofs.Common.{◌≡◌, ℕ, List, Some, Err, subst, sym, refl, ◌∙◌, rules, []}
use Rattle.frang_base.specs.declared.reply.Reply.TheVariants as reply
use Rattle.disk_definitions.specs.Store.{stored, entered}
use Rattle.disk_definitions.specs.Ask.{ReadInode}
use Rattle.disk_definitions.specs.NamePlans.{moving_onto, replacing_node}
use Rattle.dir_lookup.specs.Reading.{reading}
use Rattle.plan_steps.specs.Ends.{Comes}
use Rattle.plan_steps.proofs.Ending.{answers, comes_as, node_read, node_stops, stops_as, refuses}
use Rattle.op_dir.specs.Moving.{moving_of}
use Rattle.op_dir.proofs.Looking as looking
use Rattle.op_dir.proofs.Going.{onto_itself, onto_reads, onto_refused}
use Rattle.dir_lookup.proofs.Looking.{adds_as, adds_none}
use Rattle.plan_steps.proofs.Looking.{then_looks}
use Rattle.op_dir.proofs.renaming.move_onto.Goals as goal

pub returns-then-number-from-clause-comes : goal.returns-then-number-from-clause-comes
returns-then-number-from-clause-comes c dirs =
    let cached = c.args.hand.now.sectors.now.entries in
    let held = c.args.hand.now.held.now in
    let m = moving_of c.args.from.now in
    let i : ℕ = c.args.to.now.directory.number in
    let x = stored c.args.to.now.directory.inode in
    let q : ℕ = c.args.to.now.found.place in
    let e = entered c.args.to.now.found.entry in
    let name : List ℕ = c.args.name.now in
    answers (reading (moving_onto m i x name q e dirs) cached held) reply.Ok dirs c.unchanged.result
    (onto_itself cached held m i x name q e dirs c.if-number-from.true) c.unchanged.ensures.reply c.unchanged.ensures.edits

pub returns-in-Some-clause-comes : goal.returns-in-Some-clause-comes
returns-in-Some-clause-comes c dirs =
    let cached = c.args.hand.now.sectors.now.entries in
    let held = c.args.hand.now.held.now in
    let m = moving_of c.args.from.now in
    let i : ℕ = c.args.to.now.directory.number in
    let x = stored c.args.to.now.directory.inode in
    let q : ℕ = c.args.to.now.found.place in
    let e = entered c.args.to.now.found.entry in
    let name : List ℕ = c.args.name.now in
    refuses (reading (moving_onto m i x name q e dirs) cached held) c.in-Some.reply dirs
    (onto_refused cached held m i x name q e dirs c.in-Some.reply c.if-number-from.false (sym c.kinds_refused.ensures ∙ c.in-Some.is))

pub returns-in_err-inode-in-None-clause-comes : goal.returns-in_err-inode-in-None-clause-comes
returns-in_err-inode-in-None-clause-comes c dirs =
    let cached = c.args.hand.now.sectors.now.entries in
    let held = c.args.hand.now.held.now in
    let m = moving_of c.args.from.now in
    let i : ℕ = c.args.to.now.directory.number in
    let x = stored c.args.to.now.directory.inode in
    let q : ℕ = c.args.to.now.found.place in
    let e = entered c.args.to.now.found.entry in
    let name : List ℕ = c.args.name.now in
    let g = replacing_node m i x name q e.inode dirs in
    let plan = reading (moving_onto m i x name q e dirs) cached held in
    let stop = c.in_err-inode-in-None.field-0.0 in
    let o : c.from_residual.result ≡ Err stop = search rules in
    subst (Comes plan) (sym o)
    (stops_as plan (reading (ReadInode e.inode g) cached held) stop
    (onto_reads cached held m i x name q e dirs c.if-number-from.false (sym c.kinds_refused.ensures ∙ c.in-None.is))
    (node_stops cached held e.inode dirs g refl stop (c.in_err-inode-in-None.ensures.finds held)))

pub returns-in_ok-inode-in-None-clause-comes : goal.returns-in_ok-inode-in-None-clause-comes
returns-in_ok-inode-in-None-clause-comes c dirs =
    let cached = c.args.hand.now.sectors.now.entries in
    let held = c.args.hand.now.held.now in
    let m = moving_of c.args.from.now in
    let i : ℕ = c.args.to.now.directory.number in
    let x = stored c.args.to.now.directory.inode in
    let q : ℕ = c.args.to.now.found.place in
    let e = entered c.args.to.now.found.entry in
    let name : List ℕ = c.args.name.now in
    let g = replacing_node m i x name q e.inode dirs in
    comes_as (reading (moving_onto m i x name q e dirs) cached held) (reading (g (Some (stored c.in_ok-inode-in-None.inode))) cached held) c.replace.result
    (onto_reads cached held m i x name q e dirs c.if-number-from.false (sym c.kinds_refused.ensures ∙ c.in-None.is)
    ∙ node_read cached held e.inode dirs g refl c.in_ok-inode-in-None.inode (c.in_ok-inode-in-None.ensures.finds held))
    (c.replace.ensures.comes dirs)

pub returns-then-number-from-clause-looks : goal.returns-then-number-from-clause-looks
returns-then-number-from-clause-looks c dirs m =
    let cached = c.args.hand.now.sectors.now.entries in
    let held = c.args.hand.now.held.now in
    let mv = moving_of c.args.from.now in
    let i : ℕ = c.args.to.now.directory.number in
    let x = stored c.args.to.now.directory.inode in
    let q : ℕ = c.args.to.now.found.place in
    let e = entered c.args.to.now.found.entry in
    let name : List ℕ = c.args.name.now in
    adds_as _ _ [] _ (sym (looking.onto_itself cached held mv i x name q e dirs c.if-number-from.true)) (adds_none _)

pub returns-in-Some-clause-looks : goal.returns-in-Some-clause-looks
returns-in-Some-clause-looks c dirs m =
    let cached = c.args.hand.now.sectors.now.entries in
    let held = c.args.hand.now.held.now in
    let mv = moving_of c.args.from.now in
    let i : ℕ = c.args.to.now.directory.number in
    let x = stored c.args.to.now.directory.inode in
    let q : ℕ = c.args.to.now.found.place in
    let e = entered c.args.to.now.found.entry in
    let name : List ℕ = c.args.name.now in
    adds_as _ _ [] _ (sym (looking.onto_refused cached held mv i x name q e dirs c.in-Some.reply c.if-number-from.false (sym c.kinds_refused.ensures ∙ c.in-Some.is))) (adds_none _)

pub returns-in_err-inode-in-None-clause-looks : goal.returns-in_err-inode-in-None-clause-looks
returns-in_err-inode-in-None-clause-looks c dirs m =
    let cached = c.args.hand.now.sectors.now.entries in
    let held = c.args.hand.now.held.now in
    let mv = moving_of c.args.from.now in
    let i : ℕ = c.args.to.now.directory.number in
    let x = stored c.args.to.now.directory.inode in
    let q : ℕ = c.args.to.now.found.place in
    let e = entered c.args.to.now.found.entry in
    let name : List ℕ = c.args.name.now in
    let g = replacing_node mv i x name q e.inode dirs in
    adds_as _ _ _ _ (sym (looking.onto_reads cached held mv i x name q e dirs c.if-number-from.false (sym c.kinds_refused.ensures ∙ c.in-None.is))) (c.in_err-inode-in-None.ensures.looks held g refl)

pub returns-in_ok-inode-in-None-clause-looks : goal.returns-in_ok-inode-in-None-clause-looks
returns-in_ok-inode-in-None-clause-looks c dirs m =
    let cached = c.args.hand.now.sectors.now.entries in
    let held = c.args.hand.now.held.now in
    let mv = moving_of c.args.from.now in
    let i : ℕ = c.args.to.now.directory.number in
    let x = stored c.args.to.now.directory.inode in
    let q : ℕ = c.args.to.now.found.place in
    let e = entered c.args.to.now.found.entry in
    let name : List ℕ = c.args.name.now in
    let g = replacing_node mv i x name q e.inode dirs in
    adds_as _ _ _ _ (sym (looking.onto_reads cached held mv i x name q e dirs c.if-number-from.false (sym c.kinds_refused.ensures ∙ c.in-None.is)))
    (then_looks cached held (ReadInode e.inode g) (g (Some (stored c.in_ok-inode-in-None.inode))) _ _ _ (c.in_ok-inode-in-None.ensures.looks held g) (c.replace.ensures.looks dirs m))
