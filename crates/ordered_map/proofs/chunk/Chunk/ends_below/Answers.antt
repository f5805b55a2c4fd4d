-- The last key tells.
use Rattle.std.proofs.Common.{false, sym, ap, ◌∙◌}
use Rattle.std.specs.Option.{option_map_or}
use Rattle.std.specs.Ordering.{is_gt}
use Rattle.ordered_map.specs.Chunks.{ends_below}
use Rattle.ordered_map.proofs.Spots.{ends_by_last}
use Rattle.ordered_map.proofs.chunk.Chunk.ends_below.Goals as goal

pub returns-in-Some : goal.returns-in-Some
returns-in-Some g c =
    c.is_gt.ensures ∙ ap is_gt c.cmp.ensures
    ∙ ap (λ o. option_map_or (λ last. is_gt (g.K.Ord.cmp c.args.key.now last)) o false) (sym c.in-Some.is ∙ c.self.invariant.key)
    ∙ ends_by_last g.K.Ord.cmp c.args.key.now c.self.inside.entries.items
    ∙ ap (ends_below g.K.Ord.cmp c.args.key.now) c.self.view_is

pub returns-in-None : goal.returns-in-None
returns-in-None g c =
    ap (λ o. option_map_or (λ last. is_gt (g.K.Ord.cmp c.args.key.now last)) o false) (sym c.in-None.is ∙ c.self.invariant.key)
    ∙ ends_by_last g.K.Ord.cmp c.args.key.now c.self.inside.entries.items
    ∙ ap (ends_below g.K.Ord.cmp c.args.key.now) c.self.view_is
