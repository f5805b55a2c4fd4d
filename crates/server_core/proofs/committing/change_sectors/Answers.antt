-- The moves and then the changes, one after another, are one change of each sector.
use Rattle.std.proofs.Common.{ap, sym, subst, ◌∙◌}
use Rattle.cache_laws.specs.Steps.{with_changes}
use Rattle.server_core.specs.Outcomes.{MayLay, moves_of}
use Rattle.server_core.proofs.Laying.{moved_and_laid, moved_may}
use Rattle.server_core.proofs.committing.change_sectors.Goals as goal

pub lay_changes-requires : goal.lay_changes-requires
lay_changes-requires c =
    subst (λ cache. MayLay cache c.args.changes.now) (sym c.move_covers.ensures.entries) (moved_may (moves_of c.args.moves.now) c.args.changes.now c.args.cache.now.entries c.requires)

pub returns-clause-entries : goal.returns-clause-entries
returns-clause-entries c =
    c.lay_changes.ensures.entries ∙ ap (λ cache. with_changes c.args.mark cache c.args.changes.now) c.move_covers.ensures.entries
    ∙ moved_and_laid c.covers_move_sector_by_sector.ensures.moved c.changes_lie_sector_by_sector.ensures.laid c.args.mark c.args.cache.now.entries c.args.changes.now (moves_of c.args.moves.now)
    c.cover-cover.ensures.ordered c.requires.apart
