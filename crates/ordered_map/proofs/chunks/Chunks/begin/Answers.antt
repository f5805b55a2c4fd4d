-- A blank chunk has no entries, and takes the one.
use Rattle.std.proofs.Common.{◌++◌, ◌∷◌, [], length, ap, ◌∙◌, subst, arith, length-append}
use Rattle.std.specs.List.{insert}
use Rattle.ordered_map.specs.Chunks.{AreBlank}
use Rattle.ordered_map.proofs.Flat.{blank_first, blank_last}
use Rattle.ordered_map.proofs.chunks.Chunks.begin.Goals as goal

pub insert-requires-clause-room : goal.insert-requires-clause-room
insert-requires-clause-room g c =
    let none = blank_last c.pop.new.self.items c.in-Some.chunk (subst AreBlank c.in-Some.ensures.items c.self.invariant.blank) in
    omega (arith, ap length none)

pub invariant_of-self : goal.invariant_of-self
invariant_of-self g c =
    let less = ap length c.in-Some.ensures.items in
    let fewer = length-append c.pop.new.self.items (c.in-Some.chunk ∷ []) in
    let long = ap length c.in-Ok.ensures.items in
    let more = length-append c.self.inside.chunks.items (c.insert.new.self ∷ []) in record {
      blank = blank_first c.pop.new.self.items (c.in-Some.chunk ∷ []) (subst AreBlank c.in-Some.ensures.items c.self.invariant.blank);
      places = omega (arith, less, fewer, long, more, c.self.invariant.places, c.in-Ok.ensures.capacity);
      shelves = omega (arith, less, fewer, long, more, c.self.invariant.shelves, c.in-Some.ensures.capacity);
    }

pub returns-clause-chunks : goal.returns-clause-chunks
returns-clause-chunks g c =
    let none = blank_last c.pop.new.self.items c.in-Some.chunk (subst AreBlank c.in-Some.ensures.items c.self.invariant.blank) in
    let nothing = ap (λ m. m.chunks) c.self.view_is ∙ c.requires.none in
    let entry = c.insert.ensures ∙ ap (λ x. insert x 0 (c.args.key, c.args.value)) none in
    c.in-Ok.ensures.items ∙ (λ i. nothing i ++ entry i ∷ [])
