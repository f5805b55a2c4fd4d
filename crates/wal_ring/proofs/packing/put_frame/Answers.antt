-- A frame begins a sector of its own behind full ones, and else goes on the last one.
use Rattle.std.proofs.Common.{min, ◌≤◌, ◌++◌, length, take, drop, sym, ap, ◌∙◌, arith}
use Rattle.disk_definitions.specs.LogSectors.{none_begins}
use Rattle.ring_definitions.specs.Rings.{open_room, packed_sectors}
use Rattle.wal_ring.specs.Kept.{filled_last}
use Rattle.wal_ring.proofs.WaitingSectors.{full_on, open_on, take_least, drop_least}
use Rattle.wal_ring.proofs.packing.put_frame.Goals as goal

pub returns-then-room-eq0-clause-items : goal.returns-then-room-eq0-clause-items
returns-then-room-eq0-clause-items c =
    c.put_sectors.ensures.items ∙ sym (full_on c.args.next c.args.waiting.now.items c.args.frame.now c.requires.fits (sym c.open_room-room.ensures.room ∙ c.if-room-eq0.true))

pub returns-else-room-eq0-clause-items : goal.returns-else-room-eq0-clause-items
returns-else-room-eq0-clause-items c =
    let ys = c.args.waiting.now.items in
    let frame = c.args.frame.now in
    let next = c.args.next in
    let room = open_room ys in
    let some : 1 ≤ room = omega (arith, c.open_room-room.ensures.room, c.if-room-eq0.false) in
    let middle = c.min.ensures ∙ ap (λ r. min r (length frame)) c.open_room-room.ensures.room in
    let first = c.split_at.ensures.front ∙ ap (λ n. take n frame) middle ∙ take_least room frame in
    let second = c.split_at.ensures.back ∙ ap (λ n. drop n frame) middle ∙ drop_least room frame in
    c.put_sectors-else-room-eq0.ensures.items
    ∙ ap (λ xs. xs ++ packed_sectors next none_begins c.split_at.result.1.now) (c.fill_last.ensures.items ∙ ap (filled_last ys) first)
    ∙ ap (λ bs. filled_last ys (take room frame) ++ packed_sectors next none_begins bs) second ∙ sym (open_on next ys frame some)
