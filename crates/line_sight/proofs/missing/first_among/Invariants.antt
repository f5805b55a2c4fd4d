-- The first of the segments that are left is the first of all.
use Rattle.std.proofs.Common.{◌≡◌, drop}
use Rattle.std.specs.List.{slice_get}
use Rattle.core_definitions.specs.Lines.{missing_bitmaps}
use Rattle.line_sight.proofs.missing.first_among.Given as goal

abbrev pub invariant-loop-need : goal.invariant-loop-need
invariant-loop-need l = slice_get (missing_bitmaps (drop l.need-index l.locks) l.cache.entries) 0 ≡ slice_get (missing_bitmaps l.locks l.cache.entries) 0
