-- By the room.
use Rattle.std.proofs.Common.{[], sym, subst, ap}
use Rattle.disk_definitions.specs.Plans.{finish_in}
use Rattle.dir_lookup.specs.Hands.{seen}
use Rattle.dir_lookup.proofs.Looking.{adds_as, adds_none}
use Rattle.disk_definitions.specs.LookedAt.{examined}
use Rattle.plan_steps.specs.Rooms.{ClearsRoom, room_in}
use Rattle.plan_steps.proofs.room.clear_room.Goals as goal

pub returns-in-InBlock-clause-clears : goal.returns-in-InBlock-clause-clears
returns-in-InBlock-clause-clears c =
    let cached = c.args.hand.now.sectors.now.entries in
    let held = c.args.hand.now.held.now in
    subst (λ r. ClearsRoom c.args.hand.now (room_in r) c.clear_block.result) (sym c.in-InBlock.is) (c.clear_block.ensures.clears)

pub returns-in-Inside-clause-looks : goal.returns-in-Inside-clause-looks
returns-in-Inside-clause-looks c finish =
    let cached = c.args.hand.now.sectors.now.entries in
    let held = c.args.hand.now.held.now in
    adds_as _ _ [] _ (ap (λ r. examined (finish_in (seen c.args.hand.now) (room_in r) finish) cached held) (sym c.in-Inside.is)) (adds_none _)

pub returns-in-InBlock-clause-looks : goal.returns-in-InBlock-clause-looks
returns-in-InBlock-clause-looks c finish =
    let cached = c.args.hand.now.sectors.now.entries in
    let held = c.args.hand.now.held.now in
    adds_as _ _ _ _ (ap (λ r. examined (finish_in (seen c.args.hand.now) (room_in r) finish) cached held) (sym c.in-InBlock.is)) (c.clear_block.ensures.looks finish)
