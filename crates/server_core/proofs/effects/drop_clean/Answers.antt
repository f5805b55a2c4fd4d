-- Where none is dirty, no first one is.
use Rattle.std.proofs.Common.{is_some, ap, sym, ◌∙◌}
use Rattle.std.proofs.lemmas.Bool.{false≢true}
use Rattle.cache_definitions.specs.Caches.{is_dirty_under}
use Rattle.cache_definitions.proofs.CacheLaws.{any_first}
use Rattle.server_core.proofs.effects.drop_clean.Goals as goal

pub unreachable-requires : goal.unreachable-requires
unreachable-requires c = false≢true (sym c.requires ∙ any_first (is_dirty_under c.args.lock) c.args.cache.now.entries ∙ ap is_some c.in-Err.ensures.outcome.0)
