-- The chunk that goes is blank then.
use Rattle.std.proofs.Common.{◌<◌, ◌∷◌, [], length, sym, ap, subst, arith, length-append}
use Rattle.std.proofs.lemmas.List.Edits.{length-remove}
use Rattle.ordered_map.specs.Chunks.{AreBlank}
use Rattle.ordered_map.proofs.Flat.{blank_push}
use Rattle.ordered_map.proofs.chunks.Chunks.discard.Goals as goal

pub invariant_of-self : goal.invariant_of-self
invariant_of-self g c =
    let inside : c.args.chunk < length c.self.inside.chunks.items = subst (λ m. c.args.chunk < length m.chunks) (sym c.self.view_is) c.requires in
    let less = ap length c.remove-gone.ensures.items in
    let fewer = length-remove c.self.inside.chunks.items c.args.chunk inside in
    let long = ap length c.in-Ok.ensures.items in
    let more = length-append c.self.inside.blank.items (c.clear.new.self ∷ []) in record {
      blank = subst AreBlank (sym c.in-Ok.ensures.items) (blank_push c.self.inside.blank.items c.clear.new.self c.self.invariant.blank c.clear.ensures);
      places = omega (arith, less, fewer, long, more, c.self.invariant.places, c.remove-gone.ensures.capacity);
      shelves = omega (arith, less, fewer, long, more, c.self.invariant.shelves, c.in-Ok.ensures.capacity);
    }
