-- The entry of the chunk that is read is the one at the place.
use Rattle.std.proofs.Common.{◌<◌, length, get_or, sym, ap, ◌∙◌, subst}
use Rattle.ordered_map.proofs.map.entry_of.Goals as goal

pub entry-requires : goal.entry-requires
entry-requires g c = subst (λ es. c.args.at < length es) (sym c.nth.ensures) c.requires.place

pub returns : goal.returns
returns g c = c.entry.ensures ∙ ap (λ es. get_or es c.args.at c.entry.result.now) c.nth.ensures
