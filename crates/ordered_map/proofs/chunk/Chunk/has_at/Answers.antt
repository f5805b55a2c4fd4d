-- The keys are compared.
use Rattle.std.proofs.Common.{sym, ap, ◌∙◌, subst}
use Rattle.std.specs.Ordering.{is_eq}
use Rattle.ordered_map.specs.Chunks.{IsKeyAt}
use Rattle.ordered_map.proofs.Spots.{key_there}
use Rattle.ordered_map.proofs.chunk.Chunk.has_at.Goals as goal

pub returns-then-at-all : goal.returns-then-at-all
returns-then-at-all g c = λ equal.
    subst (λ es. IsKeyAt g.K.Ord.cmp c.args.key.now es c.args.at) c.entries-all.ensures
    (key_there g.met.K.Ord.total c.args.key.now c.entries-all.result.now c.args.at c.index-all-at.result c.if-at-all.true c.index-all-at.is
    (ap (λ e. is_eq (g.K.Ord.cmp c.args.key.now e.0)) c.index-all-at.is ∙ sym (c.is_eq.ensures ∙ ap is_eq c.cmp.ensures) ∙ equal))
