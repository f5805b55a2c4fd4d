-- The chunk at the place is the one that is read, and what changes there is what its own exchange changes.
use Rattle.std.proofs.Common.{◌<◌, length, get_or, set, sym, ap, ◌∙◌, subst}
use Rattle.ordered_map.specs.Chunks.{chunk_at, overwritten}
use Rattle.ordered_map.proofs.Flat.{read_chunk}
use Rattle.ordered_map.proofs.chunks.Chunks.exchange.Goals as goal

pub exchange-requires : goal.exchange-requires
exchange-requires g c =
    let inside : c.args.chunk < length c.self.inside.chunks.items = subst (λ m. c.args.chunk < length m.chunks) (sym c.self.view_is) c.requires.inside in
    let whole = read_chunk c.self.inside.chunks.items c.args.chunk c.index_mut.result.now inside c.index_mut.ensures.value ∙ ap (λ m. chunk_at m.chunks c.args.chunk) c.self.view_is in
    subst (λ es. c.args.at < length es) (sym whole) c.requires.place

pub returns-clause-chunks : goal.returns-clause-chunks
returns-clause-chunks g c =
    let inside : c.args.chunk < length c.self.inside.chunks.items = subst (λ m. c.args.chunk < length m.chunks) (sym c.self.view_is) c.requires.inside in
    let whole = read_chunk c.self.inside.chunks.items c.args.chunk c.index_mut.result.now inside c.index_mut.ensures.value ∙ ap (λ m. chunk_at m.chunks c.args.chunk) c.self.view_is in
    let now = c.exchange.ensures.entries ∙ ap (λ es. overwritten es c.args.at c.args.value) whole in
    (λ i. set (c.self.view_is i).chunks c.args.chunk (now i))

pub returns-clause-before : goal.returns-clause-before
returns-clause-before g c d =
    let inside : c.args.chunk < length c.self.inside.chunks.items = subst (λ m. c.args.chunk < length m.chunks) (sym c.self.view_is) c.requires.inside in
    let whole = read_chunk c.self.inside.chunks.items c.args.chunk c.index_mut.result.now inside c.index_mut.ensures.value ∙ ap (λ m. chunk_at m.chunks c.args.chunk) c.self.view_is in
    c.exchange.ensures.before d ∙ ap (λ es. (get_or es c.args.at d).1) whole
