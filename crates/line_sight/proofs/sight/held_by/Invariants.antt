-- What is held with the bitmaps that are left is what all make.
use Rattle.std.proofs.Common.{◌≡◌, [], drop}
use Rattle.set_definitions.specs.Sets.{segments_in}
use Rattle.line_sight.specs.Adding.{with_bitmaps}
use Rattle.line_sight.proofs.sight.held_by.Given as goal

abbrev pub invariant-loop-need : goal.invariant-loop-need
invariant-loop-need l = with_bitmaps l.usable.entries l.held (segments_in (drop l.need-index l.locks)) ≡ with_bitmaps l.usable.entries [] (segments_in l.locks)
