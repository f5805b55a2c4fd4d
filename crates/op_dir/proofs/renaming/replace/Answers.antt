-- By whether the node may be replaced, and by the segments that are held.
use Rattle.std.proofs.Common.{◌≡◌, ◌∷◌, ◌++◌, [], ℕ, List, Some, Err, subst, sym, ◌∙◌, rules}
use Rattle.frang_base.specs.declared.reply.Reply.TheVariants as reply
use Rattle.disk_definitions.specs.Store.{stored}
use Rattle.disk_definitions.specs.NamePlans.{moved_onto_by, replacing_node}
use Rattle.dir_lookup.specs.Reading.{reading}
use Rattle.plan_steps.specs.declared.stop.Stop.TheVariants as stop
use Rattle.plan_steps.specs.Ends.{Comes}
use Rattle.plan_steps.proofs.Ending.{comes_done, refuses}
use Rattle.op_dir.specs.Moving.{moving_of}
use Rattle.op_dir.proofs.Looking as looking
use Rattle.op_dir.proofs.Going.{replace_looks, replace_refused}
use Rattle.dir_lookup.proofs.Looking.{adds_as, adds_none}
use Rattle.op_dir.proofs.renaming.replace.Goals as goal

pub returns-then-has_entries-clause-comes : goal.returns-then-has_entries-clause-comes
returns-then-has_entries-clause-comes c dirs =
    let cached = c.args.hand.now.sectors.now.entries in
    let held = c.args.hand.now.held.now in
    let m = moving_of c.args.from.now in
    let i : ℕ = c.args.to.now.directory.number in
    let x = stored c.args.to.now.directory.inode in
    let q : ℕ = c.args.to.now.found.place in
    let j : ℕ = c.args.node.now.number in
    let name : List ℕ = c.args.name.now in
    let y = stored c.args.node.now.inode in
    refuses (reading (replacing_node m i x name q j dirs (Some y)) cached held) reply.NotEmpty (dirs ++ j ∷ [])
    (replace_refused cached held m i x name q j dirs y (sym c.has_entries.ensures ∙ c.if-has_entries.true))

pub returns-in_err-segments_needed-clause-comes : goal.returns-in_err-segments_needed-clause-comes
returns-in_err-segments_needed-clause-comes c dirs =
    let cached = c.args.hand.now.sectors.now.entries in
    let held = c.args.hand.now.held.now in
    let m = moving_of c.args.from.now in
    let i : ℕ = c.args.to.now.directory.number in
    let x = stored c.args.to.now.directory.inode in
    let q : ℕ = c.args.to.now.found.place in
    let j : ℕ = c.args.node.now.number in
    let name : List ℕ = c.args.name.now in
    let y = stored c.args.node.now.inode in
    let need = c.in_err-segments_needed.field-0.0 in
    let o : c.from_residual.result ≡ Err (stop.Need need.0) = search rules in
    subst (Comes (reading (replacing_node m i x name q j dirs (Some y)) cached held)) (sym o)
    (replace_looks cached held m i x name q j dirs y (sym c.has_entries.ensures ∙ c.if-has_entries.false) ∙ c.in_err-segments_needed.ensures.over (moved_onto_by m i x name q j y dirs))

pub returns-clause-comes : goal.returns-clause-comes
returns-clause-comes c dirs =
    let cached = c.args.hand.now.sectors.now.entries in
    let held = c.args.hand.now.held.now in
    let m = moving_of c.args.from.now in
    let i : ℕ = c.args.to.now.directory.number in
    let x = stored c.args.to.now.directory.inode in
    let q : ℕ = c.args.to.now.found.place in
    let j : ℕ = c.args.node.now.number in
    let name : List ℕ = c.args.name.now in
    let y = stored c.args.node.now.inode in
    let f = moved_onto_by m i x name q j y dirs in
    let d = c.in_ok-replaced.ensures in
    comes_done (reading (replacing_node m i x name q j dirs (Some y)) cached held) f c.in_ok-replaced.field-0
    (replace_looks cached held m i x name q j dirs y (sym c.has_entries.ensures ∙ c.if-has_entries.false) ∙ c.in_ok-segments_needed.ensures.over f) d.reply d.edits

pub returns-then-has_entries-clause-looks : goal.returns-then-has_entries-clause-looks
returns-then-has_entries-clause-looks c dirs m =
    let cached = c.args.hand.now.sectors.now.entries in
    let held = c.args.hand.now.held.now in
    let mv = moving_of c.args.from.now in
    let i : ℕ = c.args.to.now.directory.number in
    let x = stored c.args.to.now.directory.inode in
    let q : ℕ = c.args.to.now.found.place in
    let j : ℕ = c.args.node.now.number in
    let name : List ℕ = c.args.name.now in
    let y = stored c.args.node.now.inode in
    adds_as _ _ [] _ (sym (looking.replace_refused cached held mv i x name q j dirs y (sym c.has_entries.ensures ∙ c.if-has_entries.true))) (adds_none _)

pub returns-in_err-segments_needed-clause-looks : goal.returns-in_err-segments_needed-clause-looks
returns-in_err-segments_needed-clause-looks c dirs m =
    let cached = c.args.hand.now.sectors.now.entries in
    let held = c.args.hand.now.held.now in
    let mv = moving_of c.args.from.now in
    let i : ℕ = c.args.to.now.directory.number in
    let x = stored c.args.to.now.directory.inode in
    let q : ℕ = c.args.to.now.found.place in
    let j : ℕ = c.args.node.now.number in
    let name : List ℕ = c.args.name.now in
    let y = stored c.args.node.now.inode in
    adds_as _ _ _ _ (sym (looking.replace_looks cached held mv i x name q j dirs y (sym c.has_entries.ensures ∙ c.if-has_entries.false))) (c.in_err-segments_needed.ensures.looks (moved_onto_by mv i x name q j y dirs))

pub returns-clause-looks : goal.returns-clause-looks
returns-clause-looks c dirs m =
    let cached = c.args.hand.now.sectors.now.entries in
    let held = c.args.hand.now.held.now in
    let mv = moving_of c.args.from.now in
    let i : ℕ = c.args.to.now.directory.number in
    let x = stored c.args.to.now.directory.inode in
    let q : ℕ = c.args.to.now.found.place in
    let j : ℕ = c.args.node.now.number in
    let name : List ℕ = c.args.name.now in
    let y = stored c.args.node.now.inode in
    adds_as _ _ _ _ (sym (looking.replace_looks cached held mv i x name q j dirs y (sym c.has_entries.ensures ∙ c.if-has_entries.false))) (c.in_ok-segments_needed.ensures.looks (moved_onto_by mv i x name q j y dirs))

pub returns-in_err-replaced-clause-looks : goal.returns-in_err-replaced-clause-looks
returns-in_err-replaced-clause-looks c dirs m = absurd (m (search rules))
