-- A sector that a replay may change is in afterwards.
use Rattle.std.proofs.Common.{sym, ap, ◌∙◌, subst}
use Rattle.recovery_demon.specs.Naming.{Adds}
use Rattle.recovery_demon.proofs.NamedSectors.{added, added_one}
use Rattle.recovery_demon.proofs.naming.add_one.Goals as goal

pub returns-in_ok-reserve : goal.returns-in_ok-reserve
returns-in_ok-reserve c =
    subst (Adds c.args.segments c.args.sector.0 c.args.sectors.now.entries) (sym (c.put.ensures.entries ∙ ap (λ entries. added c.args.sector.0 entries) c.in_ok-reserve.ensures.entries))
    (added_one c.args.segments c.args.sector.0 c.args.sectors.now.entries (sym c.is_replayed.ensures ∙ c.if-is_replayed.true))
