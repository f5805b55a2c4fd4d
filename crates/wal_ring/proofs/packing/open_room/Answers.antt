-- What the last sector doesn't use.
use Rattle.std.proofs.Common.{◌≡◌, ◌-◌, ◌<◌, length, get_or, refl, sym, ap, ◌∙◌, arith}
use Rattle.wal_ring.proofs.WaitingSectors.{open_last}
use Rattle.wal_ring.proofs.packing.open_room.Goals as goal

pub returns-in-Some-clause-room : goal.returns-in-Some-clause-room
returns-in-Some-clause-room c =
    let items = c.args.waiting.now.items in
    let last = c.in-Some.last.now in
    let same : c.args.waiting.now.len ≡ length items = omega (arith, c.args.waiting.now.ok) in
    let some : 0 < length items = omega (arith, same, c.in-Some.ensures.variant.0 refl) in
    c.saturating_sub.ensures ∙ ap (λ n. 488 - n) c.from.ensures
    ∙ sym (open_last items last some (c.in-Some.ensures.lookup ∙ ap (λ n. get_or items (n - 1) last) same))
