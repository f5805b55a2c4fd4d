-- By what was found.
use Rattle.std.proofs.Common.{◌≡◌, ◌*◌, ◌+◌, ◌<◌, ℕ, Some, None, Err, [], slice_index, sym, ap, ◌∙◌, arith, rules}
use Rattle.std.specs.Option.{option_map}
use Rattle.disk_definitions.specs.Store.{stored}
use Rattle.disk_definitions.specs.Walks.{Found, is_vacant}
use Rattle.dir_lookup.specs.Reading.{Gives, Lacks, read_of}
use Rattle.dir_lookup.specs.Spots.{vacant_at}
use Rattle.dir_lookup.proofs.Steps.{said_ok, said_err}
use Rattle.plan_steps.specs.Rooms.{room_of}
use Rattle.plan_steps.proofs.Bounds.{place_inside}
use Rattle.plan_steps.proofs.Finding.{another_block, finding}
use Rattle.plan_steps.proofs.Examining.{search_examined}
use Rattle.plan_steps.proofs.RoomLooks.{room_inside, room_needed, room_picked}
use Rattle.plan_steps.proofs.room.find_room.Goals as goal

pub returns-in_err-found-clause-finds : goal.returns-in_err-found-clause-finds
returns-in_err-found-clause-finds c =
    let held = c.args.hand.now.held.now in
    let need = c.in_err-found.field-0.0 in
    let e : c.from_residual.result ≡ Err need = search rules in
    ap (read_of room_of) e
    ∙ finding (stored c.args.directory.now) c.args.hand.now.sectors.now.entries held c.args.hand.now.all (Lacks need.0.0)
    (said_err (option_map vacant_at) c.first_vacant.result need _ c.in_err-found.was (c.first_vacant.ensures.reads held))

pub returns-in-Some-clause-finds : goal.returns-in-Some-clause-finds
returns-in-Some-clause-finds c =
    let held = c.args.hand.now.held.now in
    finding (stored c.args.directory.now) c.args.hand.now.sectors.now.entries held c.args.hand.now.all (Gives (Some (vacant_at c.in-Some.place)))
    (sym (ap (λ o. Gives (option_map vacant_at o)) c.in-Some.is) ∙ said_ok (option_map vacant_at) c.first_vacant.result c.in_ok-found.found _ c.in_ok-found.was (c.first_vacant.ensures.reads held))

pub returns-in-Some-clause-room : goal.returns-in-Some-clause-room
returns-in-Some-clause-room c =
    let q : ℕ = c.in-Some.place in
    let found : Found = vacant_at q in
    let small : ℕ → ℕ = slice_index c.args.directory.now.small in
    let end : ℕ = 8 * c.args.directory.now.blocks in
    let b : q < 7 * (0 + end) =
    place_inside small is_vacant c.args.hand.now.sectors.now.entries [] found end 0
    (sym (sym (ap (λ o. Gives (option_map vacant_at o)) c.in-Some.is) ∙ said_ok (option_map vacant_at) c.first_vacant.result c.in_ok-found.found _ c.in_ok-found.was (c.first_vacant.ensures.reads []))) in
    omega arith

pub returns-in-None-clause-finds : goal.returns-in-None-clause-finds
returns-in-None-clause-finds c =
    let held = c.args.hand.now.held.now in
    let x = stored c.args.directory.now in
    another_block x c.args.hand.now.sectors.now.entries held c.args.hand.now.all (room_of c.more_room.result) c.more_room.ensures.finds
    ∙ finding x c.args.hand.now.sectors.now.entries held c.args.hand.now.all (Gives None)
    (sym (ap (λ o. Gives (option_map vacant_at o)) c.in-None.is) ∙ said_ok (option_map vacant_at) c.first_vacant.result c.in_ok-found.found _ c.in_ok-found.was (c.first_vacant.ensures.reads held))

pub returns-in_err-found-clause-looks : goal.returns-in_err-found-clause-looks
returns-in_err-found-clause-looks c =
    let held = c.args.hand.now.held.now in
    let need = c.in_err-found.field-0.0 in
    room_needed (stored c.args.directory.now) c.args.hand.now.sectors.now.entries held c.args.hand.now.all need.0.0 _ _
    (said_err (option_map vacant_at) c.first_vacant.result need _ c.in_err-found.was (c.first_vacant.ensures.reads held)) (search_examined c.args.hand.now.sectors.now.entries held _ _ (slice_index c.args.directory.now.small) is_vacant (8 * c.args.directory.now.blocks) (c.first_vacant.ensures.looks held))

pub returns-in-Some-clause-looks : goal.returns-in-Some-clause-looks
returns-in-Some-clause-looks c =
    let held = c.args.hand.now.held.now in
    room_inside (stored c.args.directory.now) c.args.hand.now.sectors.now.entries held c.args.hand.now.all (vacant_at c.in-Some.place) _ _
    (sym (ap (λ o. Gives (option_map vacant_at o)) c.in-Some.is) ∙ said_ok (option_map vacant_at) c.first_vacant.result c.in_ok-found.found _ c.in_ok-found.was (c.first_vacant.ensures.reads held))
    (search_examined c.args.hand.now.sectors.now.entries held _ _ (slice_index c.args.directory.now.small) is_vacant (8 * c.args.directory.now.blocks) (c.first_vacant.ensures.looks held))

pub returns-in-None-clause-looks : goal.returns-in-None-clause-looks
returns-in-None-clause-looks c =
    let held = c.args.hand.now.held.now in
    room_picked (stored c.args.directory.now) c.args.hand.now.sectors.now.entries held c.args.hand.now.all _ _ _
    (sym (ap (λ o. Gives (option_map vacant_at o)) c.in-None.is) ∙ said_ok (option_map vacant_at) c.first_vacant.result c.in_ok-found.found _ c.in_ok-found.was (c.first_vacant.ensures.reads held))
    (search_examined c.args.hand.now.sectors.now.entries held _ _ (slice_index c.args.directory.now.small) is_vacant (8 * c.args.directory.now.blocks) (c.first_vacant.ensures.looks held)) c.more_room.ensures.looks
