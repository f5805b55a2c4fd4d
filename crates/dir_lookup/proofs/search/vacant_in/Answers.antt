-- A place of the sector is one of the directory.
use Rattle.std.proofs.Common.{sym, ◌∙◌}
use Rattle.dir_lookup.proofs.Places.{vacant_hit}
use Rattle.dir_lookup.proofs.search.vacant_in.Goals as goal

pub returns-in-Some : goal.returns-in-Some
returns-in-Some c = vacant_hit c.args.sector.now c.args.j c.in-Some.place (sym c.in-Some.is ∙ c.vacant_place.ensures.is)
