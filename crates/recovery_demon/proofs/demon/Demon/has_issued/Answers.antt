-- A write is issued where it is kept as such.
use Rattle.std.proofs.Common.{sym, ap, ◌∙◌, is_some}
use Rattle.sector_bytes.specs.SectorMaps.{value_at}
use Rattle.recovery_demon.proofs.Tied.{none_issued, seen_as}
use Rattle.recovery_demon.proofs.demon.Demon.has_issued.Goals as goal

pub returns-in-Some : goal.returns-in-Some
returns-in-Some c =
    let i = c.self.inside in
    c.is_issued.ensures ∙ ap (λ d. is_some (value_at d.issued c.args.sector.0)) (seen_as i.dead.0 i.segments i.slots i.replay c.in-Some.replay c.args.self.now c.in-Some.is c.self.view_is)

pub returns-in-None : goal.returns-in-None
returns-in-None c =
    let i = c.self.inside in
    sym (ap (λ writes. is_some (value_at writes c.args.sector.0)) (none_issued i.dead.0 i.segments i.slots i.replay c.args.self.now c.in-None.is c.self.view_is))
