-- A box that comes back stands for a sector that is there, which takes no room.
use Rattle.std.proofs.Common.{◌≡◌, ap, sym, arith, if◌then◌else◌, is_some}
use Rattle.sector_bytes.specs.SectorMaps.{room_for}
use Rattle.meta_version.proofs.sectors.put_box.Goals as goal

pub returns-in-Ok-clause-blank : goal.returns-in-Ok-clause-blank
returns-in-Ok-clause-blank c =
    let none : room_for c.args.blocks.now.entries c.args.sector.0 ≡ 0 = ap (λ o. if is_some o then 0 else 1) (sym c.in-Some.ensures.before) in
    omega (arith, none, c.in-Ok.ensures.len)

pub returns-in-None-clause-blank : goal.returns-in-None-clause-blank
returns-in-None-clause-blank c =
    let one : room_for c.args.blocks.now.entries c.args.sector.0 ≡ 1 = ap (λ o. if is_some o then 0 else 1) (sym c.in-None.ensures.before) in
    omega (arith, one)
