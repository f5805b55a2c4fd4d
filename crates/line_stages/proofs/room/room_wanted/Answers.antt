-- Those that the oldest records name, where room lacks.
use Rattle.std.proofs.Common.{◌&&◌, sym, ap, ◌∙◌}
use Rattle.clerk_cache.specs.Dropping.{numbers_of}
use Rattle.core_definitions.specs.Rings.{is_oldest_named}
use Rattle.log_slots.specs.Reading.{log_rules}
use Rattle.line_stages.proofs.NamedSectors.{named_there}
use Rattle.line_stages.proofs.room.room_wanted.Goals as goal

pub returns-then-lacks : goal.returns-then-lacks
returns-then-lacks c ring are s =
    named_there ring (numbers_of c.args.oldest.now) (are c.if-lacks.true) s ∙ sym (ap (λ t. t && is_oldest_named log_rules ring s) c.if-lacks.true)
