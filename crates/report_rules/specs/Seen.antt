-- A disk as the rules of a check see it.
use Rattle.std.specs.Prelude.{ℕ, true, is_some, List}
use Rattle.disk_definitions.specs.declared.region.Region.TheVariants as region
use Rattle.disk_definitions.specs.Regions.{sector_of}
use Rattle.sector_bytes.specs.Sectors.{sectors_of}
use Rattle.disk_definitions.specs.Store.{Store, directory_at}
use Rattle.disk_reading.specs.Seen.{store_in}
use Rattle.disk_reading.specs.Fits as fits
use Rattle.report_definitions.specs.View.{View, is_recent_at}

-- what a store of so many segments says, for the rules that ask nothing else
abbrev pub stored : ℕ → Store → View
stored segments s = record { segments = segments; store = s; segment_fits = λ k. true; inode_fits = λ i. true; is_directory = λ b p. true; is_recent = λ b p. true }

-- what is seen of a disk, where versions are at most so much
abbrev pub view_in : ℕ → ℕ → List (ℕ × List ℕ) → View
view_in most segments disk = record {
  segments = segments;
  store = store_in segments disk;
  segment_fits = fits.segment_fits most (sectors_of disk);
  inode_fits = fits.inode_fits most (sectors_of disk);
  is_directory = λ b p. is_some (directory_at (sectors_of disk) b p);
  is_recent = λ b p. is_recent_at most (sectors_of disk) (sector_of (region.Small b p));
}
