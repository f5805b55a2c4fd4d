-- What the code's sectors are, with their versions.
use Rattle.std.specs.Prelude.{◌≡◌, ℕ, Option, Some, None, List, ◌++◌, map}
use Rattle.frang_base.specs.declared.sector.Sector.{Sector}
use Rattle.set_definitions.specs.Seen.{Comparison, HasMoved, HasStopped, HasGoneThrough, SeenSectors}
use Rattle.set_definitions.specs.declared.moved.Moved.{Moved}
use Rattle.lock_sets.specs.declared.seen.Seen.{Seen}
use Rattle.lock_sets.specs.declared.seen.Comparison.{Comparison as CodeComparison}
use Rattle.lock_sets.specs.declared.seen.Comparison.TheVariants as comparison

-- the numbers of sectors
abbrev pub numbers : List Sector → List ℕ
numbers sectors = map (λ (sector : Sector). sector.0) sectors

-- sectors with their versions
abbrev pub seen_as : List Seen → SeenSectors
seen_as sectors = map (λ (one : Seen). (one.sector.0, one.version)) sectors

-- how a comparison ends
abbrev pub comparison_of : CodeComparison → Comparison
comparison_of (comparison.HasMoved moved) = HasMoved
comparison_of comparison.HasStopped = HasStopped
comparison_of comparison.HasGoneThrough = HasGoneThrough

-- the sector that it names
abbrev pub moved_of : CodeComparison → Option Moved
moved_of (comparison.HasMoved moved) = Some moved
moved_of comparison.HasStopped = None
moved_of comparison.HasGoneThrough = None

-- further sectors stand behind the old ones
abbrev pub BeginsWith : SeenSectors → SeenSectors → Type 0
BeginsWith old new = (more : SeenSectors) × (new ≡ old ++ more)
