-- What is no sector of a directory has no entries.
use Rattle.std.proofs.Common.{sym, ap, ◌∙◌}
use Rattle.disk_definitions.specs.Store.{entry_in}
use Rattle.dir_lookup.proofs.Decoded.{no_entries}
use Rattle.dir_lookup.proofs.sectors.entries_of.Goals as goal

pub returns-in-None-clause-is : goal.returns-in-None-clause-is
returns-in-None-clause-is c = no_entries c.no_entries.result c.no_entries.ensures.free ∙ ap entry_in (sym c.in-None.is ∙ c.decode.ensures.value)
