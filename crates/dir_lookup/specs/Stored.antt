-- What decoded sectors are in a store.
use Rattle.std.specs.Prelude.{◌≡◌, ◌≤◌, ℕ, true, Option, Some}
use Rattle.frang_base.specs.declared.limits.TheConstants.{FILE_BYTES_MAX, INODE_BLOCKS_MAX, KIND_FILE, KIND_LINK, NAME_BYTES_MAX, TARGET_BYTES_MAX}
use Rattle.frang_base.specs.Name.{is_name}
use Rattle.disk_definitions.specs.declared.inode.Inode.{Inode}
use Rattle.disk_definitions.specs.declared.directory.DirEntry.{DirEntry}
use Rattle.disk_definitions.specs.declared.directory.DirSector.{DirSector}
use Rattle.disk_definitions.specs.Directories.{name_in}
use Rattle.disk_definitions.specs.Inodes.{inode_fits}
use Rattle.disk_definitions.specs.Store.{StoredEntry, entry_in}

-- the entries of a sector by their places
abbrev pub entries_at : DirSector → ℕ → Option StoredEntry
entries_at x = entry_in (Some x)

-- an inode in use, and the bounds of its fields
pub record IsUsed (x : Inode) : Type 0 where
  pub fits : inode_fits x ≡ true
  pub kind : KIND_FILE ≤ x.kind
  pub blocks : x.blocks ≤ INODE_BLOCKS_MAX
  pub size : x.size ≤ FILE_BYTES_MAX
  pub target : x.kind ≡ KIND_LINK → x.size ≤ TARGET_BYTES_MAX

-- an entry in use has a name
pub record IsProper (e : DirEntry) : Type 0 where
  pub name : is_name (name_in e) ≡ true
  pub len : e.len ≤ NAME_BYTES_MAX
