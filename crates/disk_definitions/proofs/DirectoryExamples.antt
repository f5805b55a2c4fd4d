-- Sectors of directories: an empty one, one with an entry, where a name stands, and blocks that are no such sector.
use Rattle.std.proofs.Common.{◌≡◌, ℕ, Some, None, List, [], ◌∷◌, take, drop, set, replicate, refl}
use Rattle.disk_definitions.specs.declared.directory.DirEntry.{DirEntry}
use Rattle.disk_definitions.specs.declared.directory.DirSector.{DirSector}
use Rattle.sector_bytes.specs.Bytes.{zeros}
use Rattle.disk_definitions.specs.Directories.{directory_bytes, directory_in, place_of_name}

abbrev free : DirEntry
free = record { inode = 0; len = 0; kind = 0; name = zeros 64 }

-- an entry with a name of one byte
abbrev entry : ℕ → ℕ → ℕ → DirEntry
entry inode kind byte = record { inode = inode; len = 1; kind = kind; name = byte ∷ zeros 63 }

-- a sector of version 3 whose first place is this, and the others free
abbrev sector : DirEntry → DirSector
sector e = record { version = 3; entries = e ∷ free ∷ free ∷ free ∷ free ∷ free ∷ free ∷ [] }

empty_begins : take 8 (directory_bytes (sector free)) ≡ 3 ∷ 0 ∷ 0 ∷ 0 ∷ 0 ∷ 0 ∷ 0 ∷ 0 ∷ []
unfolding zeros
empty_begins = refl

empty_goes_on_with_zeros : drop 8 (directory_bytes (sector free)) ≡ zeros 504
unfolding zeros
empty_goes_on_with_zeros = refl

empty_reads_back : directory_in (directory_bytes (sector free)) ≡ Some (sector free)
unfolding zeros
empty_reads_back = refl

-- the file `a` is inode 258
one_entry_begins : take 16 (directory_bytes (sector (entry 258 1 97))) ≡ 3 ∷ 0 ∷ 0 ∷ 0 ∷ 0 ∷ 0 ∷ 0 ∷ 0 ∷ 2 ∷ 1 ∷ 0 ∷ 0 ∷ 1 ∷ 1 ∷ 97 ∷ 0 ∷ []
unfolding zeros
one_entry_begins = refl

one_entry_goes_on_with_zeros : drop 15 (directory_bytes (sector (entry 258 1 97))) ≡ zeros 497
unfolding zeros
one_entry_goes_on_with_zeros = refl

one_entry_reads_back : directory_in (directory_bytes (sector (entry 258 1 97))) ≡ Some (sector (entry 258 1 97))
unfolding zeros
one_entry_reads_back = refl

directory_reads_back : directory_in (directory_bytes (sector (entry 258 2 97))) ≡ Some (sector (entry 258 2 97))
unfolding zeros
directory_reads_back = refl

link_reads_back : directory_in (directory_bytes (sector (entry 258 3 97))) ≡ Some (sector (entry 258 3 97))
unfolding zeros
link_reads_back = refl

-- a name of 64 bytes
abbrev long : DirEntry
long = record { inode = 0; len = 64; kind = 1; name = replicate 64 98 }

long_name_reads_back : directory_in (directory_bytes (sector long)) ≡ Some (sector long)
unfolding zeros
long_name_reads_back = refl

-- blocks that are no sector of a directory
abbrev IsRefused : DirEntry → Type 0
IsRefused e = directory_in (directory_bytes (sector e)) ≡ None

refused_kind_0 : IsRefused (entry 258 0 97)
unfolding zeros
refused_kind_0 = refl

refused_kind_4 : IsRefused (entry 258 4 97)
unfolding zeros
refused_kind_4 = refl

refused_without_name : IsRefused (record { inode = 258; len = 0; kind = 1; name = zeros 64 })
unfolding zeros
refused_without_name = refl

refused_name_of_65_bytes : IsRefused (record { inode = 258; len = 65; kind = 1; name = replicate 64 98 })
unfolding zeros
refused_name_of_65_bytes = refl

refused_slash : IsRefused (entry 258 1 47)
unfolding zeros
refused_slash = refl

refused_dot : IsRefused (entry 258 1 46)
unfolding zeros
refused_dot = refl

refused_byte_past_the_name : IsRefused (record { inode = 258; len = 1; kind = 1; name = 97 ∷ 97 ∷ zeros 62 })
unfolding zeros
refused_byte_past_the_name = refl

refused_zero_in_the_name : IsRefused (record { inode = 258; len = 2; kind = 1; name = 97 ∷ zeros 63 })
unfolding zeros
refused_zero_in_the_name = refl

refused_number_without_entry : IsRefused (record { inode = 258; len = 0; kind = 0; name = zeros 64 })
unfolding zeros
refused_number_without_entry = refl

refused_name_without_entry : IsRefused (record { inode = 0; len = 0; kind = 0; name = 97 ∷ zeros 63 })
unfolding zeros
refused_name_without_entry = refl

refused_byte_after_an_entry : directory_in (set (directory_bytes (sector (entry 258 1 97))) 78 1) ≡ None
unfolding zeros
refused_byte_after_an_entry = refl

refused_last_byte : directory_in (set (directory_bytes (sector (entry 258 1 97))) 511 1) ≡ None
unfolding zeros
refused_last_byte = refl

-- where a name stands first
abbrev several : List DirEntry
several = free ∷ entry 7 1 98 ∷ entry 8 2 97 ∷ entry 9 1 97 ∷ free ∷ long ∷ free ∷ []

first_of_two : place_of_name (97 ∷ []) several ≡ Some 2
unfolding zeros
first_of_two = refl

long_name : place_of_name (replicate 64 98) several ≡ Some 5
unfolding zeros
long_name = refl

none_there : place_of_name (99 ∷ []) several ≡ None
unfolding zeros
none_there = refl

a_longer_name_is_another : place_of_name (97 ∷ 97 ∷ []) several ≡ None
unfolding zeros
a_longer_name_is_another = refl
