-- The first dirty sector is named, and where there is none all go.
use Rattle.std.proofs.Common.{is_some, refl, sym, ap, ◌∙◌}
use Rattle.cache_definitions.specs.Caches.{is_dirty_under}
use Rattle.cache_definitions.proofs.CacheLaws.{any_first}
use Rattle.clerk_cache.proofs.cache.Cache.drop_cover.Goals as goal

pub returns-in-Some-clause-outcome : goal.returns-in-Some-clause-outcome
returns-in-Some-clause-outcome c = (sym c.in-Some.ensures, refl)

pub returns-clause-outcome : goal.returns-clause-outcome
returns-clause-outcome c =
    (any_first (is_dirty_under c.args.lock) c.args.self.now.entries ∙ ap is_some (sym c.in_default.ensures), c.drop_all.ensures.entries)

pub drop_all-requires : goal.drop_all-requires
drop_all-requires c = any_first (is_dirty_under c.args.lock) c.args.self.now.entries ∙ ap is_some (sym c.in_default.ensures)
