-- The sector is among the bitmaps that are left where it is among all.
use Rattle.std.proofs.Common.{◌≡◌, drop}
use Rattle.std.specs.Map.{keys_of}
use Rattle.frang_base.specs.Functions.{member}
use Rattle.core_definitions.specs.Lines.{missing_bitmaps}
use Rattle.line_sight.proofs.missing.is_among.Given as goal

abbrev pub invariant-loop-need : goal.invariant-loop-need
invariant-loop-need l = member l.sector.0 (keys_of (missing_bitmaps (drop l.need-index l.locks) l.cache.entries)) ≡ member l.sector.0 (keys_of (missing_bitmaps l.locks l.cache.entries))
