-- The key's chunk, and its place there.
use Rattle.std.proofs.Common.{sym, ap, ◌∙◌, subst}
use Rattle.std.specs.List.Sorted.{IsStrictlySortedBy}
use Rattle.std.specs.Map.{keys_of}
use Rattle.sorted_entries.specs.Places.{place_of}
use Rattle.ordered_map.proofs.Search.{sorted_chunk}
use Rattle.ordered_map.proofs.Found.{locate_is}
use Rattle.ordered_map.proofs.map.locate.Goals as goal

pub place-at-requires : goal.place-at-requires
place-at-requires g c =
    let inside = c.chunk_of-chunk.ensures.inside in
    subst (λ es. IsStrictlySortedBy g.K.Ord.cmp (keys_of es)) (sym c.nth.ensures)
    (sorted_chunk g.met.K.Ord.total c.args.key.now c.args.chunks.now c.chunk_of-chunk.result inside c.requires.ordered)

pub returns-clause-some : goal.returns-clause-some
returns-clause-some g c =
    locate_is g.met.K.Ord.total c.args.key.now c.args.chunks.now c.chunk_of-chunk.result c.place-at.result c.chunk_of-chunk.ensures
    (c.place-at.ensures.place ∙ ap (place_of g.K.Ord.cmp c.args.key.now) c.nth.ensures)
