-- The last sector has room for the bytes, and goes back with them.
use Rattle.std.proofs.Common.{◌≡◌, ◌-◌, ◌++◌, [], ◌∷◌, sym, ap, ◌∙◌, arith}
use Rattle.ring_definitions.specs.Rings.{open_room}
use Rattle.wal_ring.specs.Kept.{filled_last}
use Rattle.wal_ring.proofs.WaitingSectors.{open_at, filled_last_at}
use Rattle.wal_ring.proofs.packing.fill_last.Goals as goal

pub filled-requires-clause-room : goal.filled-requires-clause-room
filled-requires-clause-room c =
    let room : open_room c.args.waiting.now.items ≡ 488 - c.in-Some.last.used = ap open_room c.in-Some.ensures.items ∙ open_at c.pop_back.new.self.items c.in-Some.last in
    omega (arith, room, c.requires.room, c.requires.some)

pub returns-clause-items : goal.returns-clause-items
returns-clause-items c =
    let before = c.pop_back.new.self.items in
    let bytes = c.args.bytes.now in
    c.in-Ok.ensures.items ∙ ap (λ y. before ++ y ∷ []) c.filled.ensures.sector ∙ sym (filled_last_at before c.in-Some.last bytes) ∙ ap (λ ys. filled_last ys bytes) (sym c.in-Some.ensures.items)
