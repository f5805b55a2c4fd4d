-- A party that isn't the host is a server.
use Rattle.std.proofs.Common.{sym, ◌∙◌}
use Rattle.world_parties.proofs.Reading.{small_of}
use Rattle.world_parties.proofs.parties.Parties.recovery.Goals as goal

pub get-requires : goal.get-requires
get-requires c = small_of c.args.by.0 c.requires (sym c.eq.ensures ∙ c.if-eq.false)
