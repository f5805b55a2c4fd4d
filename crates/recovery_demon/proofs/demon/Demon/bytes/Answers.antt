-- The block to write at a sector is the one that waits.
use Rattle.std.proofs.Common.{sym, ap, ◌∙◌}
use Rattle.sector_bytes.specs.SectorMaps.{value_at}
use Rattle.recovery_demon.specs.Recovering.{writes_wanted}
use Rattle.recovery_demon.proofs.Seen.{no_writes, seen_writes}
use Rattle.recovery_demon.proofs.Tied.{seen_as, tied_some, young}
use Rattle.recovery_demon.proofs.demon.Demon.bytes.Goals as goal

pub returns-in-Some : goal.returns-in-Some
returns-in-Some c =
    let i = c.self.inside in
    let tied = tied_some i.dead.0 i.segments i.slots.entries i.replay c.in-Some.replay c.self.invariant c.in-Some.is in
    let seen = seen_as i.dead.0 i.segments i.slots i.replay c.in-Some.replay c.args.self.now c.in-Some.is c.self.view_is in
    c.bytes.ensures ∙ seen_writes i.dead.0 i.segments i.slots.entries c.in-Some.replay.replay tied c.args.sector.0 ∙ ap (λ d. value_at (writes_wanted d.segments d.recovery d.issued) c.args.sector.0) seen

pub returns-in-None : goal.returns-in-None
returns-in-None c =
    let i = c.self.inside in
    let is = young i.dead.0 i.segments i.slots i.replay c.args.self.now c.in-None.is c.self.view_is c.requires in
    sym (ap (λ writes. value_at writes c.args.sector.0) (no_writes c.args.self.now.segments c.args.self.now.recovery is.unread c.args.self.now.issued is.looked))
