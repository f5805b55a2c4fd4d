-- The chunk at the place is the one that is read, and the entry goes in there.
use Rattle.std.proofs.Common.{◌<◌, ◌≤◌, length, set, sym, ap, ◌∙◌, subst}
use Rattle.std.specs.List.{insert}
use Rattle.ordered_map.specs.declared.chunk.TheConstants.{CHUNK}
use Rattle.ordered_map.specs.Chunks.{chunk_at}
use Rattle.ordered_map.proofs.Flat.{read_chunk}
use Rattle.ordered_map.proofs.chunks.Chunks.insert.Goals as goal

pub insert-requires-clause-inside : goal.insert-requires-clause-inside
insert-requires-clause-inside g c =
    let inside : c.args.chunk < length c.self.inside.chunks.items = subst (λ m. c.args.chunk < length m.chunks) (sym c.self.view_is) c.requires.inside in
    let whole = read_chunk c.self.inside.chunks.items c.args.chunk c.index_mut.result.now inside c.index_mut.ensures.value ∙ ap (λ m. chunk_at m.chunks c.args.chunk) c.self.view_is in
    subst (λ es. c.args.at ≤ length es) (sym whole) c.requires.place

pub insert-requires-clause-room : goal.insert-requires-clause-room
insert-requires-clause-room g c =
    let inside : c.args.chunk < length c.self.inside.chunks.items = subst (λ m. c.args.chunk < length m.chunks) (sym c.self.view_is) c.requires.inside in
    let whole = read_chunk c.self.inside.chunks.items c.args.chunk c.index_mut.result.now inside c.index_mut.ensures.value ∙ ap (λ m. chunk_at m.chunks c.args.chunk) c.self.view_is in
    subst (λ es. length es < CHUNK) (sym whole) c.requires.room

pub returns-clause-chunks : goal.returns-clause-chunks
returns-clause-chunks g c =
    let inside : c.args.chunk < length c.self.inside.chunks.items = subst (λ m. c.args.chunk < length m.chunks) (sym c.self.view_is) c.requires.inside in
    let whole = read_chunk c.self.inside.chunks.items c.args.chunk c.index_mut.result.now inside c.index_mut.ensures.value ∙ ap (λ m. chunk_at m.chunks c.args.chunk) c.self.view_is in
    let now = c.insert.ensures ∙ ap (λ es. insert es c.args.at (c.args.key, c.args.value)) whole in
    (λ i. set (c.self.view_is i).chunks c.args.chunk (now i))
