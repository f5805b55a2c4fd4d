-- By the links of the node, and by the room in the directory.
use Rattle.std.proofs.Common.{◌≡◌, ◌∷◌, ◌++◌, [], ℕ, List, Some, Err, subst, sym, ◌∙◌, rules}
use Rattle.frang_base.specs.declared.reply.Reply.TheVariants as reply
use Rattle.disk_definitions.specs.Store.{stored}
use Rattle.disk_definitions.specs.Ask.{bind}
use Rattle.disk_definitions.specs.Plans.{find_room}
use Rattle.disk_definitions.specs.NamePlans.{linked_by, linking_node}
use Rattle.dir_lookup.specs.Reading.{reading}
use Rattle.plan_steps.specs.Ends.{Comes}
use Rattle.dir_lookup.specs.Hands.{seen}
use Rattle.plan_steps.specs.Rooms.{room_in}
use Rattle.plan_steps.proofs.Ending.{comes_done, stops_as, refuses}
use Rattle.op_dir.specs.Rooming.{in_room}
use Rattle.op_dir.proofs.Looking as looking
use Rattle.op_dir.proofs.Going.{link_finds, link_full, link_many}
use Rattle.dir_lookup.proofs.Looking.{adds_as, adds_none}
use Rattle.op_dir.proofs.linking.link_in.Goals as goal

pub returns-then-has_all_links-clause-comes : goal.returns-then-has_all_links-clause-comes
returns-then-has_all_links-clause-comes c dirs =
    let cached = c.args.hand.now.sectors.now.entries in
    let held = c.args.hand.now.held.now in
    let h = seen c.args.hand.now in
    let i : ℕ = c.args.directory.now.number in
    let x = stored c.args.directory.now.inode in
    let name : List ℕ = c.args.name.now in
    let j : ℕ = c.args.node.now.number in
    let y = stored c.args.node.now.inode in
    refuses (reading (linking_node h i x name j dirs (Some y)) cached held) reply.MLink (dirs ++ j ∷ [])
    (link_many cached held h i x name j y dirs (sym c.has_all_links.ensures ∙ c.if-has_all_links.true))

pub returns-then-is_full-clause-comes : goal.returns-then-is_full-clause-comes
returns-then-is_full-clause-comes c dirs =
    let cached = c.args.hand.now.sectors.now.entries in
    let held = c.args.hand.now.held.now in
    let h = seen c.args.hand.now in
    let i : ℕ = c.args.directory.now.number in
    let x = stored c.args.directory.now.inode in
    let name : List ℕ = c.args.name.now in
    let j : ℕ = c.args.node.now.number in
    let y = stored c.args.node.now.inode in
    refuses (reading (linking_node h i x name j dirs (Some y)) cached held) reply.DirFull (dirs ++ j ∷ [])
    (link_full cached held h i x name j y dirs (sym c.has_all_links.ensures ∙ c.if-has_all_links.false) (sym c.is_full.ensures ∙ c.if-is_full.true))

pub returns-in_err-room-clause-comes : goal.returns-in_err-room-clause-comes
returns-in_err-room-clause-comes c dirs =
    let cached = c.args.hand.now.sectors.now.entries in
    let held = c.args.hand.now.held.now in
    let h = seen c.args.hand.now in
    let i : ℕ = c.args.directory.now.number in
    let x = stored c.args.directory.now.inode in
    let name : List ℕ = c.args.name.now in
    let j : ℕ = c.args.node.now.number in
    let y = stored c.args.node.now.inode in
    let t : List ℕ = dirs ++ j ∷ [] in
    let plan = reading (linking_node h i x name j dirs (Some y)) cached held in
    let stop = c.in_err-room.field-0.0 in
    let o : c.from_residual.result ≡ Err stop = search rules in
    subst (Comes plan) (sym o)
    (stops_as plan (reading (bind (find_room h x) (in_room h t (linked_by i x name j y dirs))) cached held) stop
    (link_finds cached held h i x name j y dirs (sym c.has_all_links.ensures ∙ c.if-has_all_links.false) (sym c.is_full.ensures ∙ c.if-is_full.false))
    (c.in_err-room.ensures.finds t (linked_by i x name j y dirs)))

pub returns-clause-comes : goal.returns-clause-comes
returns-clause-comes c dirs =
    let cached = c.args.hand.now.sectors.now.entries in
    let held = c.args.hand.now.held.now in
    let h = seen c.args.hand.now in
    let i : ℕ = c.args.directory.now.number in
    let x = stored c.args.directory.now.inode in
    let name : List ℕ = c.args.name.now in
    let j : ℕ = c.args.node.now.number in
    let y = stored c.args.node.now.inode in
    let room = room_in c.in_ok-room.room in
    let d = c.in_ok-linked.ensures in
    comes_done (reading (linking_node h i x name j dirs (Some y)) cached held) (linked_by i x name j y dirs room) c.in_ok-linked.field-0
    (link_finds cached held h i x name j y dirs (sym c.has_all_links.ensures ∙ c.if-has_all_links.false) (sym c.is_full.ensures ∙ c.if-is_full.false)
    ∙ c.in_ok-room.ensures.finds (dirs ++ j ∷ []) (linked_by i x name j y dirs))
    d.reply d.edits

pub returns-then-has_all_links-clause-looks : goal.returns-then-has_all_links-clause-looks
returns-then-has_all_links-clause-looks c dirs m =
    let cached = c.args.hand.now.sectors.now.entries in
    let held = c.args.hand.now.held.now in
    let h = seen c.args.hand.now in
    let i : ℕ = c.args.directory.now.number in
    let x = stored c.args.directory.now.inode in
    let name : List ℕ = c.args.name.now in
    let j : ℕ = c.args.node.now.number in
    let y = stored c.args.node.now.inode in
    adds_as _ _ [] _ (sym (looking.link_many cached held h i x name j y dirs (sym c.has_all_links.ensures ∙ c.if-has_all_links.true))) (adds_none _)

pub returns-then-is_full-clause-looks : goal.returns-then-is_full-clause-looks
returns-then-is_full-clause-looks c dirs m =
    let cached = c.args.hand.now.sectors.now.entries in
    let held = c.args.hand.now.held.now in
    let h = seen c.args.hand.now in
    let i : ℕ = c.args.directory.now.number in
    let x = stored c.args.directory.now.inode in
    let name : List ℕ = c.args.name.now in
    let j : ℕ = c.args.node.now.number in
    let y = stored c.args.node.now.inode in
    adds_as _ _ [] _ (sym (looking.link_full cached held h i x name j y dirs (sym c.has_all_links.ensures ∙ c.if-has_all_links.false) (sym c.is_full.ensures ∙ c.if-is_full.true))) (adds_none _)

pub returns-in_err-room-clause-looks : goal.returns-in_err-room-clause-looks
returns-in_err-room-clause-looks c dirs m =
    let cached = c.args.hand.now.sectors.now.entries in
    let held = c.args.hand.now.held.now in
    let h = seen c.args.hand.now in
    let i : ℕ = c.args.directory.now.number in
    let x = stored c.args.directory.now.inode in
    let name : List ℕ = c.args.name.now in
    let j : ℕ = c.args.node.now.number in
    let y = stored c.args.node.now.inode in
    adds_as _ _ _ _ (sym (looking.link_finds cached held h i x name j y dirs (sym c.has_all_links.ensures ∙ c.if-has_all_links.false) (sym c.is_full.ensures ∙ c.if-is_full.false))) (c.in_err-room.ensures.looks (dirs ++ j ∷ []) (linked_by i x name j y dirs))

pub returns-clause-looks : goal.returns-clause-looks
returns-clause-looks c dirs m =
    let cached = c.args.hand.now.sectors.now.entries in
    let held = c.args.hand.now.held.now in
    let h = seen c.args.hand.now in
    let i : ℕ = c.args.directory.now.number in
    let x = stored c.args.directory.now.inode in
    let name : List ℕ = c.args.name.now in
    let j : ℕ = c.args.node.now.number in
    let y = stored c.args.node.now.inode in
    adds_as _ _ _ _ (sym (looking.link_finds cached held h i x name j y dirs (sym c.has_all_links.ensures ∙ c.if-has_all_links.false) (sym c.is_full.ensures ∙ c.if-is_full.false))) (c.in_ok-room.ensures.looks (dirs ++ j ∷ []) (linked_by i x name j y dirs))

pub returns-in_err-linked-clause-looks : goal.returns-in_err-linked-clause-looks
returns-in_err-linked-clause-looks c dirs m = absurd (m (search rules))
