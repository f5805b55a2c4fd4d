-- The upper half goes into a blank chunk, for which there is a place.
use Rattle.std.proofs.Common.{◌+◌, ◌<◌, ◌≤◌, ◌∷◌, [], length, set, take, drop, sym, ap, ◌∙◌, subst, arith, length-append}
use Rattle.std.proofs.lemmas.List.{length-set}
use Rattle.std.proofs.lemmas.List.Edits.{length-insert}
use Rattle.std.specs.List.{insert}
use Rattle.ordered_map.specs.declared.chunk.TheConstants.{HALF}
use Rattle.ordered_map.specs.Chunks.{chunk_at, AreBlank}
use Rattle.ordered_map.proofs.Flat.{read_chunk, blank_first, blank_last}
use Rattle.ordered_map.proofs.chunks.Chunks.split.Goals as goal

pub split-requires-clause-blank : goal.split-requires-clause-blank
split-requires-clause-blank g c = blank_last c.pop.new.self.items c.in-Some.upper (subst AreBlank c.in-Some.ensures.items c.self.invariant.blank)

pub invariant_of-self : goal.invariant_of-self
invariant_of-self g c =
    let inside : c.args.chunk < length c.self.inside.chunks.items = subst (λ m. c.args.chunk < length m.chunks) (sym c.self.view_is) c.requires.inside in
    let same = length-set c.self.inside.chunks.items c.args.chunk c.split.new.self in
    let place : c.args.chunk + 1 ≤ length (set c.self.inside.chunks.items c.args.chunk c.split.new.self) = omega (arith, same, inside) in
    let long = ap length c.in-Ok.ensures.items in
    let more = length-insert (set c.self.inside.chunks.items c.args.chunk c.split.new.self) (c.args.chunk + 1) c.split.new.upper place in
    let less = ap length c.in-Some.ensures.items in
    let fewer = length-append c.pop.new.self.items (c.in-Some.upper ∷ []) in record {
      blank = blank_first c.pop.new.self.items (c.in-Some.upper ∷ []) (subst AreBlank c.in-Some.ensures.items c.self.invariant.blank);
      places = omega (arith, same, long, more, less, fewer, c.self.invariant.places, c.in-Ok.ensures.capacity);
      shelves = omega (arith, same, long, more, less, fewer, c.self.invariant.shelves, c.in-Some.ensures.capacity);
    }

pub split-requires-clause-half : goal.split-requires-clause-half
split-requires-clause-half g c =
    let inside : c.args.chunk < length c.self.inside.chunks.items = subst (λ m. c.args.chunk < length m.chunks) (sym c.self.view_is) c.requires.inside in
    let whole = read_chunk c.self.inside.chunks.items c.args.chunk c.index_mut.result.now inside c.index_mut.ensures.value ∙ ap (λ m. chunk_at m.chunks c.args.chunk) c.self.view_is in
    omega (arith, ap length whole, c.requires.full)

pub split-requires-clause-most : goal.split-requires-clause-most
split-requires-clause-most g c =
    let inside : c.args.chunk < length c.self.inside.chunks.items = subst (λ m. c.args.chunk < length m.chunks) (sym c.self.view_is) c.requires.inside in
    let whole = read_chunk c.self.inside.chunks.items c.args.chunk c.index_mut.result.now inside c.index_mut.ensures.value ∙ ap (λ m. chunk_at m.chunks c.args.chunk) c.self.view_is in
    omega (arith, ap length whole, c.requires.full)

pub returns-clause-chunks : goal.returns-clause-chunks
returns-clause-chunks g c =
    let inside : c.args.chunk < length c.self.inside.chunks.items = subst (λ m. c.args.chunk < length m.chunks) (sym c.self.view_is) c.requires.inside in
    let whole = read_chunk c.self.inside.chunks.items c.args.chunk c.index_mut.result.now inside c.index_mut.ensures.value ∙ ap (λ m. chunk_at m.chunks c.args.chunk) c.self.view_is in
    let chunks = ap (λ m. m.chunks) c.self.view_is in
    let lower = c.split.ensures.lower ∙ ap (take HALF) whole in
    let upper = c.split.ensures.upper ∙ ap (drop HALF) whole in
    c.in-Ok.ensures.items ∙ (λ i. insert (set (chunks i) c.args.chunk (lower i)) (c.args.chunk + 1) (upper i))
