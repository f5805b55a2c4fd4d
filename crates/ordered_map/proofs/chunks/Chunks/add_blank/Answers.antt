-- The chunk that is added is blank, and both lists have a place for it.
use Rattle.std.proofs.Common.{sym, subst, arith}
use Rattle.ordered_map.specs.Chunks.{AreBlank}
use Rattle.ordered_map.proofs.Flat.{blank_push}
use Rattle.ordered_map.proofs.chunks.Chunks.add_blank.Goals as goal

pub invariant_of-self-2 : goal.invariant_of-self-2
invariant_of-self-2 g c = record {
  blank = subst AreBlank (sym c.in-Ok.ensures.items) (blank_push _ _ (subst AreBlank (sym c.reserve-2.ensures.items) c.self.invariant.blank) (first_of (search c.in_ok-chunk.ensures, cc (c.in_ok-chunk.ensures, c.chunk.view_is))));
  places = omega (arith, c.in-Ok.ensures.len, c.in_ok-reserve.ensures.ok, c.len-more.ensures, c.reserve-2.ensures.len, c.self.inside.blank.ok.0, c.reserve.new.self.ok.0, c.reserve-2.new.self.ok.0, c.push.new.self.ok.0);
  shelves = omega (arith, c.in-Ok.ensures.len, c.in_ok-reserve-2.ensures.ok, c.reserve-2.ensures.len, c.len.ensures, c.in-Ok.ensures.capacity, c.self.inside.blank.ok.0, c.reserve.new.self.ok.0, c.reserve-2.new.self.ok.0, c.push.new.self.ok.0);
}
