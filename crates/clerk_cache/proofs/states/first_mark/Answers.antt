-- The first entry is the first mark.
use Rattle.std.proofs.Common.{ap, ◌∙◌}
use Rattle.std.specs.Option.{option_map}
use Rattle.clerk_cache.proofs.MarkKeys.{first_is}
use Rattle.clerk_cache.proofs.states.first_mark.Goals as goal

pub returns-in-Some : goal.returns-in-Some
returns-in-Some c = ap (option_map (λ entry. entry.0)) c.in-Some.ensures ∙ first_is c.args.marks.now.entries

pub returns-in-None : goal.returns-in-None
returns-in-None c = ap (option_map (λ entry. entry.0)) c.in-None.ensures ∙ first_is c.args.marks.now.entries
