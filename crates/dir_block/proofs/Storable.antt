-- A sector whose fields hold what they can is one that can be stored, in 512 bytes.
use Rattle.std.proofs.Common.{◌≡◌, List, [], ◌∷◌, length, arith}
use Rattle.dir_block.specs.Fields.{EntriesFill, FillsItsFields}
use Rattle.disk_definitions.specs.declared.directory.DirEntry.{DirEntry}
use Rattle.disk_definitions.specs.declared.directory.DirSector.{DirSector}
use Rattle.disk_definitions.specs.Directories.{directory_bytes}
use Rattle.disk_definitions.proofs.DirectoryLaws.{AreStorable, IsStorableSector, length_entries}

entries_storable : (es : List DirEntry) → EntriesFill es → AreStorable es
entries_storable [] h = tt
entries_storable (e ∷ es) h = (record { inode = h.0.0; name = h.0.1 }, entries_storable es h.1)

pub storable : (x : DirSector) → FillsItsFields x → IsStorableSector x
storable x h = record { version = h.0; seven = h.1; entries = entries_storable x.entries h.2 }

pub length_of_directory : (x : DirSector) → FillsItsFields x → length (directory_bytes x) ≡ 512
length_of_directory x h = omega (arith, length_entries x.entries (storable x h).entries, h.1)
