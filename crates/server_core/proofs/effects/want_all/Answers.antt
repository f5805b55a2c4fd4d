-- What stayed wanted was dirty.
use Rattle.std.proofs.Common.{◌∙◌}
use Rattle.server_core.proofs.Wanting.{all_wanted}
use Rattle.server_core.proofs.effects.want_all.Goals as goal

pub returns-clause-staying : goal.returns-clause-staying
returns-clause-staying c = c.want_all.ensures.staying ∙ all_wanted c.args.cache.now.staying c.args.cache.now.entries c.want_all.ensures.ordered c.want_all.ensures.joined
