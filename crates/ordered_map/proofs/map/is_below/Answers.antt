-- Keys ascend through the chunks: where one ends below the key, so do those before it, and where one doesn't, none behind it does.
use Rattle.std.proofs.Common.{sym, ap, ◌∙◌, arith}
use Rattle.ordered_map.specs.Chunks.{ends_below}
use Rattle.ordered_map.proofs.Search.{ends_before, reaches_behind}
use Rattle.ordered_map.proofs.map.is_below.Goals as goal

pub returns-clause-below : goal.returns-clause-below
returns-clause-below g c = λ ends j d below.
    ends_before g.met.K.Ord.total c.args.key.now c.args.chunks.now c.args.chunk c.requires.filled c.requires.ordered c.requires.inside
    (ap (ends_below g.K.Ord.cmp c.args.key.now) (sym c.nth.ensures) ∙ sym c.ends_below.ensures ∙ ends)
    j d (omega (arith, below))

pub returns-clause-reach : goal.returns-clause-reach
returns-clause-reach g c = λ ends.
    reaches_behind g.met.K.Ord.total c.args.key.now c.args.chunks.now c.args.chunk c.requires.filled c.requires.ordered
    (ap (ends_below g.K.Ord.cmp c.args.key.now) (sym c.nth.ensures) ∙ sym c.ends_below.ensures ∙ ends)
