-- Edits that are tidy, and that the covers of a disk go by what such edits move.
use Rattle.std.specs.Prelude.{◌≡◌, ℕ, ◌+◌, ◌<◌, true, false, Some, None, List}
use Rattle.std.specs.Option.{unwrap_or}
use Rattle.disk_definitions.specs.Store.{Store, StoredNode, Use, is_unused}
use Rattle.disk_definitions.specs.Naming.{Naming, Nodes, Pictures}
use Rattle.disk_definitions.specs.Edits.{Edit}
use Rattle.disk_definitions.specs.Ask.{Sector}
use Rattle.disk_definitions.specs.Covers.{cover_of}
use Rattle.disk_definitions.specs.Moves.{first_said, bit_said, use_said, large_said, taker_said, large_taker_said, moved_by}

-- the node in this inode has this small block
pub record HasSmall (store : Store) (inode block : ℕ) : Type 0 where
  pub node : StoredNode
  pub is : store.inode inode ≡ Some node
  pub index : ℕ
  pub inside : index < node.blocks
  pub here : node.small index ≡ block

-- the node in this inode has this large block
pub record HasLarge (store : Store) (inode segment : ℕ) : Type 0 where
  pub node : StoredNode
  pub is : store.inode inode ≡ Some node
  pub here : node.large ≡ segment + 1

-- Between two stores edits are tidy: the first bit or use that they say of a thing is the new one, and of what they say none it stays; a node keeps
-- its blocks of whose use they say nothing; and a block that they put in use is its taker's, the first inode that is written with it.
pub record AreTidy (store after : Store) (edits : List Edit) : Type 0 where
  pub bits : (inode : ℕ) → after.bit inode ≡ unwrap_or (first_said (bit_said inode) edits) (store.bit inode)
  pub uses : (block : ℕ) → after.use_of block ≡ unwrap_or (first_said (use_said block) edits) (store.use_of block)
  pub larges : (segment : ℕ) → after.large_bit segment ≡ unwrap_or (first_said (large_said segment) edits) (store.large_bit segment)
  pub keeps : (inode block : ℕ) → HasSmall store inode block → first_said (use_said block) edits ≡ None → HasSmall after inode block
  pub gains : (block : ℕ) (state : Use) → first_said (use_said block) edits ≡ Some state → is_unused state ≡ false →
      (inode : ℕ) × (first_said (taker_said block) edits ≡ Some inode) × HasSmall after inode block
  pub keeps_large : (inode segment : ℕ) → HasLarge store inode segment → first_said (large_said segment) edits ≡ None → HasLarge after inode segment
  pub gains_large : (segment : ℕ) → first_said (large_said segment) edits ≡ Some true →
      (inode : ℕ) × (first_said (large_taker_said segment) edits ≡ Some inode) × HasLarge after inode segment

-- each sector is under the lock that the edits say, or under its own
abbrev pub CoversFollow : Naming → Naming → List Edit → Type 0
CoversFollow naming after edits = (sector : Sector) → cover_of after sector ≡ unwrap_or (moved_by edits sector) (cover_of naming sector)

-- so it is wherever edits between two pictures are tidy
abbrev pub CoversMove : Type 0
CoversMove =
    (store after : Store) (nodes nodes_after : Nodes) (naming naming_after : Naming) (edits : List Edit) → Pictures store nodes naming →
    Pictures after nodes_after naming_after → AreTidy store after edits → CoversFollow naming naming_after edits
