-- By what is found, and by whether its block is clear.
use Rattle.std.proofs.Common.{◌≡◌, Err, subst, sym, ap, ◌∙◌, rules, refl}
use Rattle.frang_base.specs.declared.reply.Reply.TheVariants as reply
use Rattle.disk_definitions.specs.Store.{stored}
use Rattle.disk_definitions.specs.Ask.{bind, Ask}
use Rattle.disk_definitions.specs.Plans.{NoRoom, find_room, finish_in, none_left, Plan}
use Rattle.dir_lookup.specs.Reading.{Gives, Lacks, reading}
use Rattle.dir_lookup.proofs.Steps.{said_ok, said_err}
use Rattle.plan_steps.specs.declared.stop.Stop.TheVariants as stop
use Rattle.dir_lookup.specs.Hands.{seen}
use Rattle.plan_steps.specs.Rooms.{room_in, room_of}
use Rattle.plan_steps.proofs.Ending.{stops_as}
use Rattle.op_dir.specs.Rooming.{FindsRoom, in_room}
use Rattle.op_dir.proofs.Rooming.{in_found, rooms}
use Rattle.op_dir.proofs.Looking.{found_looks}
use Rattle.plan_steps.proofs.Looking.{bind_end, bind_to, looks_as, none_more, then_looks}
use Rattle.op_dir.proofs.room.room_for.Goals as goal

pub returns-in_err-found-clause-finds : goal.returns-in_err-found-clause-finds
returns-in_err-found-clause-finds c =
    let cached = c.args.hand.now.sectors.now.entries in
    let held = c.args.hand.now.held.now in
    let h = seen c.args.hand.now in
    let x = stored c.args.directory.now in
    let need = c.in_err-found.field-0.0 in
    let e : c.from_residual.result ≡ Err (stop.Need need.0) = search rules in
    subst (FindsRoom c.args.hand.now x) (sym e)
    (λ touched finish. rooms cached held h x touched finish (Lacks need.0.0) (said_err room_of c.find_room.result need _ c.in_err-found.was (c.find_room.ensures.finds)))

pub returns-in_err-clear_room-in-Some-clause-finds : goal.returns-in_err-clear_room-in-Some-clause-finds
returns-in_err-clear_room-in-Some-clause-finds c =
    let cached = c.args.hand.now.sectors.now.entries in
    let held = c.args.hand.now.held.now in
    let h = seen c.args.hand.now in
    let x = stored c.args.directory.now in
    let r = c.in-Some.room in
    let stop = c.in_err-clear_room-in-Some.field-0.0 in
    let e : c.from_residual-in_err-clear_room-in-Some.result ≡ Err stop = search rules in
    subst (FindsRoom c.args.hand.now x) (sym e)
    (λ touched finish. stops_as (reading (bind (find_room h x) (in_room h touched finish)) cached held) (reading (finish_in h (room_in r) (finish (room_in r))) cached held) stop
    (rooms cached held h x touched finish (Gives (room_in r))
    (sym (ap (λ o. Gives (room_of o)) c.in-Some.is) ∙ said_ok room_of c.find_room.result c.in_ok-found.found _ c.in_ok-found.was (c.find_room.ensures.finds))
    ∙ in_found cached held h x touched finish r)
    (c.in_err-clear_room-in-Some.ensures.clears (finish (room_in r))))

pub returns-in_ok-clear_room-in-Some-clause-finds : goal.returns-in_ok-clear_room-in-Some-clause-finds
returns-in_ok-clear_room-in-Some-clause-finds c touched finish =
    let cached = c.args.hand.now.sectors.now.entries in
    let held = c.args.hand.now.held.now in
    let h = seen c.args.hand.now in
    let x = stored c.args.directory.now in
    let r = c.in-Some.room in
    rooms cached held h x touched finish (Gives (room_in r))
    (sym (ap (λ o. Gives (room_of o)) c.in-Some.is) ∙ said_ok room_of c.find_room.result c.in_ok-found.found _ c.in_ok-found.was (c.find_room.ensures.finds))
    ∙ in_found cached held h x touched finish r
    ∙ c.in_ok-clear_room-in-Some.ensures.clears (finish (room_in r))

pub returns-in-None-clause-finds : goal.returns-in-None-clause-finds
returns-in-None-clause-finds c touched finish =
    let cached = c.args.hand.now.sectors.now.entries in
    let held = c.args.hand.now.held.now in
    let h = seen c.args.hand.now in
    let x = stored c.args.directory.now in
    stops_as (reading (bind (find_room h x) (in_room h touched finish)) cached held) (reading (none_left h reply.NoDirBlock touched) cached held) c.nothing_left.result
    (rooms cached held h x touched finish (Gives NoRoom)
    (sym (ap (λ o. Gives (room_of o)) c.in-None.is) ∙ said_ok room_of c.find_room.result c.in_ok-found.found _ c.in_ok-found.was (c.find_room.ensures.finds)))
    (c.nothing_left.ensures touched)

pub returns-in_err-found-clause-looks : goal.returns-in_err-found-clause-looks
returns-in_err-found-clause-looks c touched finish =
    let cached = c.args.hand.now.sectors.now.entries in
    let held = c.args.hand.now.held.now in
    let h = seen c.args.hand.now in
    let x = stored c.args.directory.now in
    let need = c.in_err-found.field-0.0 in
    bind_end cached held (find_room h x) (in_room h touched finish) need.0.0 _ _ (said_err room_of c.find_room.result need _ c.in_err-found.was c.find_room.ensures.finds) c.find_room.ensures.looks

pub returns-in_err-clear_room-in-Some-clause-looks : goal.returns-in_err-clear_room-in-Some-clause-looks
returns-in_err-clear_room-in-Some-clause-looks c touched finish =
    let cached = c.args.hand.now.sectors.now.entries in
    let held = c.args.hand.now.held.now in
    let h = seen c.args.hand.now in
    let x = stored c.args.directory.now in
    let r = c.in-Some.room in
    let n : Ask Plan = bind (find_room h x) (in_room h touched finish) in
    then_looks cached held n (in_room h touched finish (room_in r)) _ _ _
    (bind_to cached held (find_room h x) (in_room h touched finish) (room_in r) _ _ (sym (ap (λ o. Gives (room_of o)) c.in-Some.is) ∙ said_ok room_of c.find_room.result c.in_ok-found.found _ c.in_ok-found.was c.find_room.ensures.finds) c.find_room.ensures.looks)
    (looks_as cached held (in_room h touched finish (room_in r)) (finish_in h (room_in r) (finish (room_in r))) _ _ (found_looks cached held h touched finish r) (c.in_err-clear_room-in-Some.ensures.looks (finish (room_in r))))

pub returns-in_ok-clear_room-in-Some-clause-looks : goal.returns-in_ok-clear_room-in-Some-clause-looks
returns-in_ok-clear_room-in-Some-clause-looks c touched finish =
    let cached = c.args.hand.now.sectors.now.entries in
    let held = c.args.hand.now.held.now in
    let h = seen c.args.hand.now in
    let x = stored c.args.directory.now in
    let r = c.in-Some.room in
    let n : Ask Plan = bind (find_room h x) (in_room h touched finish) in
    then_looks cached held n (in_room h touched finish (room_in r)) _ _ _
    (bind_to cached held (find_room h x) (in_room h touched finish) (room_in r) _ _ (sym (ap (λ o. Gives (room_of o)) c.in-Some.is) ∙ said_ok room_of c.find_room.result c.in_ok-found.found _ c.in_ok-found.was c.find_room.ensures.finds) c.find_room.ensures.looks)
    (looks_as cached held (in_room h touched finish (room_in r)) (finish_in h (room_in r) (finish (room_in r))) _ _ (found_looks cached held h touched finish r) (c.in_ok-clear_room-in-Some.ensures.looks (finish (room_in r))))

pub returns-in-None-clause-looks : goal.returns-in-None-clause-looks
returns-in-None-clause-looks c touched finish =
    let cached = c.args.hand.now.sectors.now.entries in
    let held = c.args.hand.now.held.now in
    let h = seen c.args.hand.now in
    let x = stored c.args.directory.now in
    let n : Ask Plan = bind (find_room h x) (in_room h touched finish) in
    then_looks cached held n (none_left h reply.NoDirBlock touched) _ _ _
    (bind_to cached held (find_room h x) (in_room h touched finish) NoRoom _ _ (sym (ap (λ o. Gives (room_of o)) c.in-None.is) ∙ said_ok room_of c.find_room.result c.in_ok-found.found _ c.in_ok-found.was c.find_room.ensures.finds) c.find_room.ensures.looks) (none_more cached held (none_left h reply.NoDirBlock touched) _ refl)
