-- Sectors move and change, bytes are set, and freed sectors go, as in the core.
use Rattle.std.proofs.Common.{arith, rules}
use Rattle.std.proofs.lemmas.Grind.{common_steps}
use Rattle.server_core.proofs.Laying.{committed_cache}
use Rattle.server_core.proofs.committing.commit_cache.Goals as goal

pub returns-clause-entries : goal.returns-clause-entries
returns-clause-entries c = λ of_core is.
    committed_cache c.args.mark c.args.cache.now.entries c.change_sectors.new.cache.entries c.set_bytes.new.cache.entries c.forget_all.new.self.entries c.args.outcome.now of_core
    c.change_sectors.ensures.ordered is (first_of (search rules, cc, grind (arith, common_steps))) (first_of (search rules, cc, grind (arith, common_steps))) (first_of (search rules, cc, grind (arith, common_steps)))
