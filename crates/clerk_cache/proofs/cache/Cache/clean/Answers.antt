-- The sector is as it was written, or it isn't.
use Rattle.std.proofs.Common.{if◌then◌else◌, sym, ap, ◌∙◌}
use Rattle.cache_definitions.specs.Flags.{but}
use Rattle.clerk_cache.proofs.Edits.{written_clean, written_dirty}
use Rattle.clerk_cache.proofs.cache.Cache.clean.Goals as goal

pub returns-in-Some-clause-entries : goal.returns-in-Some-clause-entries
returns-in-Some-clause-entries c = c.mark_clean.ensures.entries ∙ written_clean c.args.self.now.entries c.args.sector.0 c.args.block.now (sym c.in-Some.ensures)

pub returns-in-None-clause-entries : goal.returns-in-None-clause-entries
returns-in-None-clause-entries c = written_dirty c.args.self.now.entries c.args.sector.0 c.args.block.now (sym c.in-None.ensures)

pub returns-in-Some-clause-staying : goal.returns-in-Some-clause-staying
returns-in-Some-clause-staying c = c.mark_clean.ensures.staying ∙ ap (λ b. if b then but c.args.sector.0 c.args.self.now.staying else c.args.self.now.staying) c.in-Some.ensures

pub returns-in-None-clause-staying : goal.returns-in-None-clause-staying
returns-in-None-clause-staying c = ap (λ b. if b then but c.args.sector.0 c.args.self.now.staying else c.args.self.now.staying) c.in-None.ensures
