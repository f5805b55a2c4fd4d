-- Where none is issued, none is gone.
use Rattle.std.proofs.Common.{◌≡◌, Option, Some, None, false, is_some, refl, sym, ◌∙◌}
use Rattle.std.proofs.lemmas.Bool.{false≢true}
use Rattle.sector_bytes.specs.Blocks.{Block}
use Rattle.sector_bytes.specs.SectorMaps.{value_at}
use Rattle.sector_bytes.proofs.MapLaws.{removed_nothing}
use Rattle.world_parties.proofs.recoveries.lose_issued.Goals as goal

none_is : (o : Option Block) → is_some o ≡ false → o ≡ None
none_is None is = refl
none_is (Some block) is = absurd (false≢true (sym is))

pub returns-else-has_issued-clause-issued : goal.returns-else-has_issued-clause-issued
returns-else-has_issued-clause-issued c =
    sym (removed_nothing c.args.demon.now.issued c.args.sector.0 (none_is (value_at c.args.demon.now.issued c.args.sector.0) (sym c.has_issued.ensures ∙ c.if-has_issued.false)))
