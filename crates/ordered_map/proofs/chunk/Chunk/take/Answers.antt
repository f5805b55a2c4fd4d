-- The value of the entry that is taken out is the one at its place.
use Rattle.std.proofs.Common.{ap, ◌∙◌, subst, length, ◌<◌, get_or, sym}
use Rattle.std.proofs.lemmas.List.{get_or_read}
use Rattle.ordered_map.proofs.chunk.Chunk.take.Goals as goal

pub returns-clause-value : goal.returns-clause-value
returns-clause-value g c d =
    let inside : c.args.at < length c.self.inside.entries.items = subst (λ es. c.args.at < length es) (sym c.self.view_is) c.requires in
    ap (λ x. x.1) (get_or_read c.self.inside.entries.items c.args.at c.remove-entry.result inside c.remove-entry.ensures.value d ∙ ap (λ es. get_or es c.args.at d) c.self.view_is)
