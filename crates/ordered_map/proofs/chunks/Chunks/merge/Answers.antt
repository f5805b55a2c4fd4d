-- The chunk whose entries went is blank then.
use Rattle.std.proofs.Common.{◌+◌, ◌<◌, ◌∷◌, ◌++◌, [], length, get_or, set, sym, ap, ◌∙◌, subst, arith, length-append}
use Rattle.std.proofs.lemmas.List.{length-set}
use Rattle.std.proofs.lemmas.List.Edits.{length-remove}
use Rattle.std.specs.List.{remove}
use Rattle.ordered_map.specs.Chunks.{chunk_at, AreBlank}
use Rattle.ordered_map.proofs.Flat.{read_chunk, read_below, blank_push}
use Rattle.ordered_map.proofs.chunks.Chunks.merge.Goals as goal

pub invariant_of-self : goal.invariant_of-self
invariant_of-self g c =
    let inside : c.args.chunk + 1 < length c.self.inside.chunks.items = subst (λ m. c.args.chunk + 1 < length m.chunks) (sym c.self.view_is) c.requires.inside in
    let less = ap length c.remove-upper.ensures.items in
    let fewer = length-remove c.self.inside.chunks.items (c.args.chunk + 1) inside in
    let same = length-set c.remove-upper.new.self.items c.args.chunk c.append.new.self in
    let long = ap length c.in-Ok.ensures.items in
    let more = length-append c.self.inside.blank.items (c.append.new.upper ∷ []) in record {
      blank = subst AreBlank (sym c.in-Ok.ensures.items) (blank_push c.self.inside.blank.items c.append.new.upper c.self.invariant.blank c.append.ensures.blank);
      places = omega (arith, less, fewer, same, long, more, c.self.invariant.places, c.remove-upper.ensures.capacity);
      shelves = omega (arith, less, fewer, same, long, more, c.self.invariant.shelves, c.in-Ok.ensures.capacity);
    }

pub append-requires : goal.append-requires
append-requires g c =
    let inside : c.args.chunk + 1 < length c.self.inside.chunks.items = subst (λ m. c.args.chunk + 1 < length m.chunks) (sym c.self.view_is) c.requires.inside in
    let next : c.args.chunk < c.args.chunk + 1 = omega arith in
    let here = c.index_mut.ensures.value ∙ ap (λ chunks. get_or chunks c.args.chunk c.index_mut.result.now) c.remove-upper.ensures.items in
    let lower = read_below c.self.inside.chunks.items c.args.chunk (c.args.chunk + 1) c.index_mut.result.now next inside here ∙ ap (λ m. chunk_at m.chunks c.args.chunk) c.self.view_is in
    let upper = read_chunk c.self.inside.chunks.items (c.args.chunk + 1) c.remove-upper.result inside c.remove-upper.ensures.value ∙ ap (λ m. chunk_at m.chunks (c.args.chunk + 1)) c.self.view_is in
    omega (arith, ap length lower, ap length upper, c.requires.few)

pub returns-clause-chunks : goal.returns-clause-chunks
returns-clause-chunks g c =
    let inside : c.args.chunk + 1 < length c.self.inside.chunks.items = subst (λ m. c.args.chunk + 1 < length m.chunks) (sym c.self.view_is) c.requires.inside in
    let next : c.args.chunk < c.args.chunk + 1 = omega arith in
    let here = c.index_mut.ensures.value ∙ ap (λ chunks. get_or chunks c.args.chunk c.index_mut.result.now) c.remove-upper.ensures.items in
    let lower = read_below c.self.inside.chunks.items c.args.chunk (c.args.chunk + 1) c.index_mut.result.now next inside here ∙ ap (λ m. chunk_at m.chunks c.args.chunk) c.self.view_is in
    let upper = read_chunk c.self.inside.chunks.items (c.args.chunk + 1) c.remove-upper.result inside c.remove-upper.ensures.value ∙ ap (λ m. chunk_at m.chunks (c.args.chunk + 1)) c.self.view_is in
    let left = c.remove-upper.ensures.items ∙ ap (λ m. remove m.chunks (c.args.chunk + 1)) c.self.view_is in
    let all = c.append.ensures.all ∙ (λ i. lower i ++ upper i) in
    (λ i. set (left i) c.args.chunk (all i))
