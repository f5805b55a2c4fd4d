-- The sectors are asked by their numbers.
use Rattle.std.proofs.Common.{not, ◌∙◌}
use Rattle.cache_definitions.specs.Caches.{is_dirty_at}
use Rattle.clerk_cache.specs.Dropping.{numbers_of}
use Rattle.line_stages.proofs.NamedSectors.{all_numbers, in_place}
use Rattle.line_stages.proofs.oldest.are_in_place.Goals as goal

pub returns : goal.returns
returns c are =
    c.are_clean.ensures ∙ all_numbers (λ sector. not (is_dirty_at c.args.server.now.server.cache sector)) c.args.sectors.now ∙ in_place c.args.server.now.server (numbers_of c.args.sectors.now) are
