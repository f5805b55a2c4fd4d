-- Sectors of directories: a version and seven places for entries, of 72 bytes each.
use Rattle.std.specs.Prelude.{ℕ, zero, suc, Bool, ◌&&◌, ◌||◌, ◌==◌, ◌≡◌, if◌then◌else◌, nat_le, Option, Some, None, List, [], ◌∷◌, ◌++◌, take, drop, slice_index, IsTrue}
use Rattle.std.specs.List.{list_all, flat_map}
use Rattle.std.specs.Option.{option_map}
use Rattle.byteorder.specs.Endian.{little_bytes}
use Rattle.frang_base.specs.Name.{is_name}
use Rattle.disk_definitions.specs.declared.directory.DirEntry.{DirEntry}
use Rattle.disk_definitions.specs.declared.directory.DirSector.{DirSector}
use Rattle.sector_bytes.specs.Bytes.{number_at, are_zero}
use Rattle.std.specs.Str.{bytes_eq}
use Rattle.frang_base.specs.declared.limits.TheConstants.{KIND_FILE, KIND_LINK, NAME_BYTES_MAX, SECTOR_ENTRIES, VERSION_BYTES}

-- the bytes of an entry, field by field
abbrev pub entry_bytes : DirEntry → List ℕ
entry_bytes e = little_bytes 4 e.inode ++ e.len ∷ e.kind ∷ e.name ++ 0 ∷ 0 ∷ []

-- the name of an entry
abbrev pub name_in : DirEntry → List ℕ
name_in e = take e.len e.name

-- a free place: all of it is 0
abbrev pub is_free_place : DirEntry → Bool
is_free_place e = e.inode == 0 && e.len == 0 && e.kind == 0 && are_zero e.name

-- an entry: a name with the kind of its node
abbrev pub is_used_place : DirEntry → Bool
is_used_place e = nat_le KIND_FILE e.kind && nat_le e.kind KIND_LINK && nat_le e.len NAME_BYTES_MAX && is_name (name_in e) && are_zero (drop e.len e.name)

abbrev pub entry_fits : DirEntry → Bool
entry_fits e = is_free_place e || is_used_place e

-- what stands at the places of an entry's fields
abbrev pub entry_fields : List ℕ → DirEntry
entry_fields bytes = record { inode = number_at 4 0 bytes; len = slice_index bytes 4; kind = slice_index bytes 5; name = take NAME_BYTES_MAX (drop 6 bytes) }

-- so many entries from the first byte on
abbrev pub entries_in : ℕ → List ℕ → List DirEntry
entries_in zero bytes = []
entries_in (suc n) bytes = entry_fields bytes ∷ entries_in n (drop 72 bytes)

-- the bytes of a sector
abbrev pub directory_bytes : DirSector → List ℕ
directory_bytes x = little_bytes 8 x.version ++ flat_map entry_bytes x.entries

abbrev pub directory_fits : DirSector → Bool
directory_fits x = list_all entry_fits x.entries

-- what stands at the places of a sector's fields
abbrev pub directory_fields : List ℕ → DirSector
directory_fields block = record { version = number_at 8 0 block; entries = entries_in SECTOR_ENTRIES (drop VERSION_BYTES block) }

-- the block is this sector of a directory
abbrev pub IsDirectorySector : List ℕ → DirSector → Type 0
IsDirectorySector block x = (block ≡ directory_bytes x) × IsTrue (directory_fits x)

-- the sector of a directory that the block is
abbrev pub directory_in : List ℕ → Option DirSector
directory_in block =
    if directory_fits (directory_fields block) && bytes_eq (directory_bytes (directory_fields block)) block then Some (directory_fields block) else None

-- the place of the first entry of this name
abbrev pub place_of_name : List ℕ → List DirEntry → Option ℕ
place_of_name name [] = None
place_of_name name (e ∷ entries) = if bytes_eq (name_in e) name then Some 0 else option_map suc (place_of_name name entries)
