-- By whether the directory is the name's own, and by the room in the other one.
use Rattle.std.proofs.Common.{◌≡◌, ℕ, List, Err, subst, sym, ◌∙◌, rules, []}
use Rattle.frang_base.specs.declared.reply.Reply.TheVariants as reply
use Rattle.disk_definitions.specs.Store.{stored}
use Rattle.disk_definitions.specs.Ask.{bind}
use Rattle.disk_definitions.specs.Plans.{find_room}
use Rattle.disk_definitions.specs.NamePlans.{moved_between, moved_within, moving_to}
use Rattle.dir_lookup.specs.Reading.{reading}
use Rattle.plan_steps.specs.Ends.{Comes}
use Rattle.dir_lookup.specs.Hands.{seen}
use Rattle.plan_steps.specs.Rooms.{room_in}
use Rattle.plan_steps.proofs.Ending.{comes_done, stops_as, refuses}
use Rattle.op_dir.specs.Moving.{moving_of}
use Rattle.op_dir.specs.Rooming.{in_room}
use Rattle.op_dir.proofs.Looking as looking
use Rattle.op_dir.proofs.Going.{move_finds, move_full, move_stays}
use Rattle.dir_lookup.proofs.Looking.{adds_as, adds_none}
use Rattle.op_dir.proofs.renaming.move_to.Goals as goal

pub returns-then-to-from-clause-comes : goal.returns-then-to-from-clause-comes
returns-then-to-from-clause-comes c dirs =
    let cached = c.args.hand.now.sectors.now.entries in
    let held = c.args.hand.now.held.now in
    let h = seen c.args.hand.now in
    let m = moving_of c.args.from.now in
    let i : ℕ = c.args.to.now.number in
    let x = stored c.args.to.now.inode in
    let name : List ℕ = c.args.name.now in
    let d = c.in_ok-moved_within.ensures in
    comes_done (reading (moving_to h m i x name dirs) cached held) (moved_within m name dirs) c.in_ok-moved_within.field-0 (move_stays cached held h m i x name dirs c.if-to-from.true) d.reply d.edits

pub returns-then-is_full-clause-comes : goal.returns-then-is_full-clause-comes
returns-then-is_full-clause-comes c dirs =
    let cached = c.args.hand.now.sectors.now.entries in
    let held = c.args.hand.now.held.now in
    let h = seen c.args.hand.now in
    let m = moving_of c.args.from.now in
    let i : ℕ = c.args.to.now.number in
    let x = stored c.args.to.now.inode in
    let name : List ℕ = c.args.name.now in
    refuses (reading (moving_to h m i x name dirs) cached held) reply.DirFull dirs (move_full cached held h m i x name dirs c.if-to-from.false (sym c.is_full.ensures ∙ c.if-is_full.true))

pub returns-in_err-room-clause-comes : goal.returns-in_err-room-clause-comes
returns-in_err-room-clause-comes c dirs =
    let cached = c.args.hand.now.sectors.now.entries in
    let held = c.args.hand.now.held.now in
    let h = seen c.args.hand.now in
    let m = moving_of c.args.from.now in
    let i : ℕ = c.args.to.now.number in
    let x = stored c.args.to.now.inode in
    let name : List ℕ = c.args.name.now in
    let plan = reading (moving_to h m i x name dirs) cached held in
    let stop = c.in_err-room.field-0.0 in
    let o : c.from_residual-in_err-room.result ≡ Err stop = search rules in
    subst (Comes plan) (sym o)
    (stops_as plan (reading (bind (find_room h x) (in_room h dirs (moved_between m i x name dirs))) cached held) stop
    (move_finds cached held h m i x name dirs c.if-to-from.false (sym c.is_full.ensures ∙ c.if-is_full.false))
    (c.in_err-room.ensures.finds dirs (moved_between m i x name dirs)))

pub returns-clause-comes : goal.returns-clause-comes
returns-clause-comes c dirs =
    let cached = c.args.hand.now.sectors.now.entries in
    let held = c.args.hand.now.held.now in
    let h = seen c.args.hand.now in
    let m = moving_of c.args.from.now in
    let i : ℕ = c.args.to.now.number in
    let x = stored c.args.to.now.inode in
    let name : List ℕ = c.args.name.now in
    let d = c.in_ok-moved_between.ensures in
    comes_done (reading (moving_to h m i x name dirs) cached held) (moved_between m i x name dirs (room_in c.in_ok-room.room)) c.in_ok-moved_between.field-0
    (move_finds cached held h m i x name dirs c.if-to-from.false (sym c.is_full.ensures ∙ c.if-is_full.false) ∙ c.in_ok-room.ensures.finds dirs (moved_between m i x name dirs))
    d.reply d.edits

pub returns-then-to-from-clause-looks : goal.returns-then-to-from-clause-looks
returns-then-to-from-clause-looks c dirs m =
    let cached = c.args.hand.now.sectors.now.entries in
    let held = c.args.hand.now.held.now in
    let h = seen c.args.hand.now in
    let mv = moving_of c.args.from.now in
    let i : ℕ = c.args.to.now.number in
    let x = stored c.args.to.now.inode in
    let name : List ℕ = c.args.name.now in
    adds_as _ _ [] _ (sym (looking.move_stays cached held h mv i x name dirs c.if-to-from.true)) (adds_none _)

pub returns-in_err-moved_within-clause-looks : goal.returns-in_err-moved_within-clause-looks
returns-in_err-moved_within-clause-looks c dirs m = absurd (m (search rules))

pub returns-then-is_full-clause-looks : goal.returns-then-is_full-clause-looks
returns-then-is_full-clause-looks c dirs m =
    let cached = c.args.hand.now.sectors.now.entries in
    let held = c.args.hand.now.held.now in
    let h = seen c.args.hand.now in
    let mv = moving_of c.args.from.now in
    let i : ℕ = c.args.to.now.number in
    let x = stored c.args.to.now.inode in
    let name : List ℕ = c.args.name.now in
    adds_as _ _ [] _ (sym (looking.move_full cached held h mv i x name dirs c.if-to-from.false (sym c.is_full.ensures ∙ c.if-is_full.true))) (adds_none _)

pub returns-in_err-room-clause-looks : goal.returns-in_err-room-clause-looks
returns-in_err-room-clause-looks c dirs m =
    let cached = c.args.hand.now.sectors.now.entries in
    let held = c.args.hand.now.held.now in
    let h = seen c.args.hand.now in
    let mv = moving_of c.args.from.now in
    let i : ℕ = c.args.to.now.number in
    let x = stored c.args.to.now.inode in
    let name : List ℕ = c.args.name.now in
    adds_as _ _ _ _ (sym (looking.move_finds cached held h mv i x name dirs c.if-to-from.false (sym c.is_full.ensures ∙ c.if-is_full.false))) (c.in_err-room.ensures.looks dirs (moved_between mv i x name dirs))

pub returns-clause-looks : goal.returns-clause-looks
returns-clause-looks c dirs m =
    let cached = c.args.hand.now.sectors.now.entries in
    let held = c.args.hand.now.held.now in
    let h = seen c.args.hand.now in
    let mv = moving_of c.args.from.now in
    let i : ℕ = c.args.to.now.number in
    let x = stored c.args.to.now.inode in
    let name : List ℕ = c.args.name.now in
    adds_as _ _ _ _ (sym (looking.move_finds cached held h mv i x name dirs c.if-to-from.false (sym c.is_full.ensures ∙ c.if-is_full.false))) (c.in_ok-room.ensures.looks dirs (moved_between mv i x name dirs))

pub returns-in_err-moved_between-clause-looks : goal.returns-in_err-moved_between-clause-looks
returns-in_err-moved_between-clause-looks c dirs m = absurd (m (search rules))
