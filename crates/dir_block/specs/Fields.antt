-- What the fields of a sector of a directory hold.
use Rattle.std.specs.Prelude.{◌≡◌, ◌<◌, ◌^◌, List, [], ◌∷◌, length}
use Rattle.frang_base.specs.declared.limits.TheConstants.{NAME_BYTES_MAX}
use Rattle.disk_definitions.specs.declared.directory.DirEntry.{DirEntry}
use Rattle.disk_definitions.specs.declared.directory.DirSector.{DirSector}

-- the inode's number fits its field, and the name has its length
abbrev pub EntriesFill : List DirEntry → Type 0
EntriesFill [] = Unit {0}
EntriesFill (e ∷ es) = ((e.inode < 2 ^ 32) × (length e.name ≡ NAME_BYTES_MAX)) × EntriesFill es

-- so it is of each of seven entries, and the version fits its field, as in each value of the type
abbrev pub FillsItsFields : DirSector → Type 0
FillsItsFields x = (x.version < 2 ^ 64) × (length x.entries ≡ 7) × EntriesFill x.entries
