-- By what is found, and by the sectors that are cached.
use Rattle.std.proofs.Common.{◌≡◌, ℕ, Err, subst, sym, ap, ◌∙◌, rules, Option, refl}
use Rattle.std.specs.Option.{option_map}
use Rattle.frang_base.specs.declared.reply.Reply.TheVariants as reply
use Rattle.disk_definitions.specs.Store.{stored, StoredNode}
use Rattle.disk_definitions.specs.Ask.{bind, Ask, Got, ReadInode}
use Rattle.disk_definitions.specs.Plans.{NoRoom, find_room, finish_in, none_left, Plan}
use Rattle.disk_definitions.specs.NamePlans.{made_by, making_in}
use Rattle.dir_lookup.specs.Reading.{Gives, Lacks, reading}
use Rattle.dir_lookup.proofs.Steps.{said_ok, said_err}
use Rattle.plan_steps.specs.declared.stop.Stop.TheVariants as stop
use Rattle.dir_lookup.specs.Hands.{seen}
use Rattle.plan_steps.specs.Rooms.{room_in, room_of}
use Rattle.plan_steps.proofs.Ending.{stops_as}
use Rattle.op_dir.specs.Places.{FindsNodeRoom}
use Rattle.op_dir.proofs.Placing.{in_inode, with_room}
use Rattle.plan_steps.proofs.Examining.{inode_examined}
use Rattle.plan_steps.proofs.Looking.{bind_end, bind_to, none_more, then_looks}
use Rattle.op_dir.proofs.Looking.{room_to}
use Rattle.op_dir.proofs.making.room_for_node.Goals as goal

pub returns-in_err-found-clause-finds : goal.returns-in_err-found-clause-finds
returns-in_err-found-clause-finds c =
    let cached = c.args.hand.now.sectors.now.entries in
    let held = c.args.hand.now.held.now in
    let x = stored c.args.directory.now in
    let need = c.in_err-found.field-0.0 in
    let e : c.from_residual.result ≡ Err (stop.Need need.0) = search rules in
    subst (FindsNodeRoom c.args.hand.now x c.args.inode) (sym e)
    (λ i birth name node dirs. with_room cached held c.args.hand.now.all x i birth name node dirs c.args.inode (Lacks need.0.0)
    (said_err room_of c.find_room.result need _ c.in_err-found.was (c.find_room.ensures.finds)))

pub returns-in_err-inode_at-in-Some-clause-finds : goal.returns-in_err-inode_at-in-Some-clause-finds
returns-in_err-inode_at-in-Some-clause-finds c =
    let cached = c.args.hand.now.sectors.now.entries in
    let held = c.args.hand.now.held.now in
    let x = stored c.args.directory.now in
    let r = c.in-Some.room in
    let need = c.in_err-inode_at-in-Some.field-0.0 in
    let e : c.from_residual-in_err-inode_at-in-Some.result ≡ Err (stop.Need need.0) = search rules in
    subst (FindsNodeRoom c.args.hand.now x c.args.inode) (sym e)
    (λ i birth name node dirs. in_inode cached held c.args.hand.now.all x i birth name node dirs c.args.inode r (Lacks need.0.0)
    (sym (ap (λ o. Gives (room_of o)) c.in-Some.is) ∙ said_ok room_of c.find_room.result c.in_ok-found.found _ c.in_ok-found.was (c.find_room.ensures.finds))
    (said_err (option_map stored) c.inode_at.result need _ c.in_err-inode_at-in-Some.was (c.inode_at.ensures.reads held)))

pub returns-in_err-clear_room-in-Some-clause-finds : goal.returns-in_err-clear_room-in-Some-clause-finds
returns-in_err-clear_room-in-Some-clause-finds c =
    let cached = c.args.hand.now.sectors.now.entries in
    let held = c.args.hand.now.held.now in
    let h = seen c.args.hand.now in
    let x = stored c.args.directory.now in
    let r = c.in-Some.room in
    let j : ℕ = c.args.inode in
    let stop = c.in_err-clear_room-in-Some.field-0.0 in
    let e : c.from_residual-in_err-clear_room-in-Some.result ≡ Err stop = search rules in
    subst (FindsNodeRoom c.args.hand.now x j) (sym e)
    (λ i birth name node dirs. stops_as (reading (bind (find_room h x) (making_in h i x name birth node dirs j)) cached held)
    (reading (finish_in h (room_in r) (made_by i x name birth node dirs j (room_in r))) cached held) stop
    (in_inode cached held c.args.hand.now.all x i birth name node dirs j r (Gives (option_map stored c.in_ok-inode_at-in-Some.field-0))
    (sym (ap (λ o. Gives (room_of o)) c.in-Some.is) ∙ said_ok room_of c.find_room.result c.in_ok-found.found _ c.in_ok-found.was (c.find_room.ensures.finds))
    (said_ok (option_map stored) c.inode_at.result c.in_ok-inode_at-in-Some.field-0 _ c.in_ok-inode_at-in-Some.was (c.inode_at.ensures.reads held)))
    (c.in_err-clear_room-in-Some.ensures.clears (made_by i x name birth node dirs j (room_in r))))

pub returns-in_ok-clear_room-in-Some-clause-finds : goal.returns-in_ok-clear_room-in-Some-clause-finds
returns-in_ok-clear_room-in-Some-clause-finds c i birth name node dirs =
    let cached = c.args.hand.now.sectors.now.entries in
    let held = c.args.hand.now.held.now in
    let x = stored c.args.directory.now in
    let r = c.in-Some.room in
    let j : ℕ = c.args.inode in
    in_inode cached held c.args.hand.now.all x i birth name node dirs j r (Gives (option_map stored c.in_ok-inode_at-in-Some.field-0))
    (sym (ap (λ o. Gives (room_of o)) c.in-Some.is) ∙ said_ok room_of c.find_room.result c.in_ok-found.found _ c.in_ok-found.was (c.find_room.ensures.finds))
    (said_ok (option_map stored) c.inode_at.result c.in_ok-inode_at-in-Some.field-0 _ c.in_ok-inode_at-in-Some.was (c.inode_at.ensures.reads held))
    ∙ c.in_ok-clear_room-in-Some.ensures.clears (made_by i x name birth node dirs j (room_in r))

pub returns-in-None-clause-finds : goal.returns-in-None-clause-finds
returns-in-None-clause-finds c i birth name node dirs =
    let cached = c.args.hand.now.sectors.now.entries in
    let held = c.args.hand.now.held.now in
    let h = seen c.args.hand.now in
    let x = stored c.args.directory.now in
    let j : ℕ = c.args.inode in
    stops_as (reading (bind (find_room h x) (making_in h i x name birth node dirs j)) cached held) (reading (none_left h reply.NoDirBlock dirs) cached held) c.nothing_left.result
    (with_room cached held c.args.hand.now.all x i birth name node dirs j (Gives NoRoom)
    (sym (ap (λ o. Gives (room_of o)) c.in-None.is) ∙ said_ok room_of c.find_room.result c.in_ok-found.found _ c.in_ok-found.was (c.find_room.ensures.finds)))
    (c.nothing_left.ensures dirs)

pub returns-in_err-found-clause-looks : goal.returns-in_err-found-clause-looks
returns-in_err-found-clause-looks c i birth name node dirs =
    let cached = c.args.hand.now.sectors.now.entries in
    let held = c.args.hand.now.held.now in
    let h = seen c.args.hand.now in
    let x = stored c.args.directory.now in
    let j : ℕ = c.args.inode in
    let need = c.in_err-found.field-0.0 in
    bind_end cached held (find_room h x) (making_in h i x name birth node dirs j) need.0.0 _ _ (said_err room_of c.find_room.result need _ c.in_err-found.was c.find_room.ensures.finds) c.find_room.ensures.looks

pub returns-in_err-inode_at-in-Some-clause-looks : goal.returns-in_err-inode_at-in-Some-clause-looks
returns-in_err-inode_at-in-Some-clause-looks c i birth name node dirs =
    let cached = c.args.hand.now.sectors.now.entries in
    let held = c.args.hand.now.held.now in
    let h = seen c.args.hand.now in
    let x = stored c.args.directory.now in
    let j : ℕ = c.args.inode in
    let r = c.in-Some.room in
    let g : Option StoredNode → Ask Plan = λ free. finish_in h (room_in r) (made_by i x name birth node dirs j (room_in r)) in
    let n : Ask Plan = bind (find_room h x) (making_in h i x name birth node dirs j) in
    let need = c.in_err-inode_at-in-Some.field-0.0 in
    then_looks cached held n (ReadInode j g) _ _ _ (room_to cached held c.args.hand.now.all x i birth name node dirs j r _ _ (sym (ap (λ o. Gives (room_of o)) c.in-Some.is) ∙ said_ok room_of c.find_room.result c.in_ok-found.found _ c.in_ok-found.was c.find_room.ensures.finds) c.find_room.ensures.looks)
    (bind_end cached held (ReadInode j Got) g need.0.0 _ _ (said_err (option_map stored) c.inode_at.result need _ c.in_err-inode_at-in-Some.was (c.inode_at.ensures.reads held)) (inode_examined cached held _ _ j (c.inode_at.ensures.looks held)))

pub returns-in_err-clear_room-in-Some-clause-looks : goal.returns-in_err-clear_room-in-Some-clause-looks
returns-in_err-clear_room-in-Some-clause-looks c i birth name node dirs =
    let cached = c.args.hand.now.sectors.now.entries in
    let held = c.args.hand.now.held.now in
    let h = seen c.args.hand.now in
    let x = stored c.args.directory.now in
    let j : ℕ = c.args.inode in
    let r = c.in-Some.room in
    let g : Option StoredNode → Ask Plan = λ free. finish_in h (room_in r) (made_by i x name birth node dirs j (room_in r)) in
    let n : Ask Plan = bind (find_room h x) (making_in h i x name birth node dirs j) in
    then_looks cached held n (ReadInode j g) _ _ _ (room_to cached held c.args.hand.now.all x i birth name node dirs j r _ _ (sym (ap (λ o. Gives (room_of o)) c.in-Some.is) ∙ said_ok room_of c.find_room.result c.in_ok-found.found _ c.in_ok-found.was c.find_room.ensures.finds) c.find_room.ensures.looks)
    (then_looks cached held (ReadInode j g) (g (option_map stored c.in_ok-inode_at-in-Some.field-0)) _ _ _
    (bind_to cached held (ReadInode j Got) g (option_map stored c.in_ok-inode_at-in-Some.field-0) _ _ (said_ok (option_map stored) c.inode_at.result c.in_ok-inode_at-in-Some.field-0 _ c.in_ok-inode_at-in-Some.was (c.inode_at.ensures.reads held)) (inode_examined cached held _ _ j (c.inode_at.ensures.looks held)))
    (c.in_err-clear_room-in-Some.ensures.looks (made_by i x name birth node dirs j (room_in r))))

pub returns-in_ok-clear_room-in-Some-clause-looks : goal.returns-in_ok-clear_room-in-Some-clause-looks
returns-in_ok-clear_room-in-Some-clause-looks c i birth name node dirs =
    let cached = c.args.hand.now.sectors.now.entries in
    let held = c.args.hand.now.held.now in
    let h = seen c.args.hand.now in
    let x = stored c.args.directory.now in
    let j : ℕ = c.args.inode in
    let r = c.in-Some.room in
    let g : Option StoredNode → Ask Plan = λ free. finish_in h (room_in r) (made_by i x name birth node dirs j (room_in r)) in
    let n : Ask Plan = bind (find_room h x) (making_in h i x name birth node dirs j) in
    then_looks cached held n (ReadInode j g) _ _ _ (room_to cached held c.args.hand.now.all x i birth name node dirs j r _ _ (sym (ap (λ o. Gives (room_of o)) c.in-Some.is) ∙ said_ok room_of c.find_room.result c.in_ok-found.found _ c.in_ok-found.was c.find_room.ensures.finds) c.find_room.ensures.looks)
    (then_looks cached held (ReadInode j g) (g (option_map stored c.in_ok-inode_at-in-Some.field-0)) _ _ _
    (bind_to cached held (ReadInode j Got) g (option_map stored c.in_ok-inode_at-in-Some.field-0) _ _ (said_ok (option_map stored) c.inode_at.result c.in_ok-inode_at-in-Some.field-0 _ c.in_ok-inode_at-in-Some.was (c.inode_at.ensures.reads held)) (inode_examined cached held _ _ j (c.inode_at.ensures.looks held)))
    (c.in_ok-clear_room-in-Some.ensures.looks (made_by i x name birth node dirs j (room_in r))))

pub returns-in-None-clause-looks : goal.returns-in-None-clause-looks
returns-in-None-clause-looks c i birth name node dirs =
    let cached = c.args.hand.now.sectors.now.entries in
    let held = c.args.hand.now.held.now in
    let h = seen c.args.hand.now in
    let x = stored c.args.directory.now in
    let j : ℕ = c.args.inode in
    let n : Ask Plan = bind (find_room h x) (making_in h i x name birth node dirs j) in
    then_looks cached held n (none_left h reply.NoDirBlock dirs) _ _ _
    (bind_to cached held (find_room h x) (making_in h i x name birth node dirs j) NoRoom _ _ (sym (ap (λ o. Gives (room_of o)) c.in-None.is) ∙ said_ok room_of c.find_room.result c.in_ok-found.found _ c.in_ok-found.was c.find_room.ensures.finds) c.find_room.ensures.looks) (none_more cached held (none_left h reply.NoDirBlock dirs) _ refl)
