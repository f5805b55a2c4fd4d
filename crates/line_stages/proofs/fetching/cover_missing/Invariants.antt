-- The lock of the sector among the bitmaps that are left is that among all.
use Rattle.std.proofs.Common.{◌≡◌, drop}
use Rattle.sector_bytes.specs.SectorMaps.{value_at}
use Rattle.core_definitions.specs.Lines.{missing_bitmaps}
use Rattle.line_stages.proofs.fetching.cover_missing.Given as goal

abbrev pub invariant-loop-need : goal.invariant-loop-need
invariant-loop-need l = value_at (missing_bitmaps (drop l.need-index l.locks) l.cache.entries) l.sector.0 ≡ value_at (missing_bitmaps l.locks l.cache.entries) l.sector.0
