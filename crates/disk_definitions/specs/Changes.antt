-- The changes of which operations are made, each a short list of edits. They go by what stands on the disk: inodes with their numbers,
-- small blocks, and places of a directory, of which each block has 56.
use Rattle.std.specs.Prelude.{ℕ, zero, suc, ◌+◌, ◌-◌, ◌/◌, ◌%◌, true, false, ◌==◌, if◌then◌else◌, Some, None, List, [], ◌∷◌, ◌++◌}
use Rattle.frang_base.specs.declared.limits.TheConstants.{BLOCK_ENTRIES}
use Rattle.tree_definitions.specs.declared.node.Node.{Node}
use Rattle.frang_base.specs.Functions.{put}
use Rattle.disk_definitions.specs.Store.{StoredNode, StoredEntry, Use}
use Rattle.disk_definitions.specs.Store.Use.{Fresh, Empty, Entries}
use Rattle.disk_definitions.specs.Naming.{inode_of}
use Rattle.disk_definitions.specs.Edits.{Edit}
use Rattle.disk_definitions.specs.Edits.Edit.{SetInode, SetBit, SetUse, SetPlace, SetLarge}

-- a node without blocks comes to stand in inode i
abbrev pub new_node : ℕ → ℕ → Node → List Edit
new_node i stamp node = SetInode i (Some (inode_of stamp (λ j. 0) 0 node)) false ∷ SetBit i true ∷ []

-- place q of a directory, which is in inode i, gets an entry
abbrev pub put_entry : ℕ → StoredNode → ℕ → StoredEntry → List Edit
put_entry i x q e = SetInode i (Some (record x { size = x.size + 1 })) false ∷ SetPlace (x.small (q / BLOCK_ENTRIES)) (q % BLOCK_ENTRIES) (Some e) ∷ []

-- place q loses its entry
abbrev pub take_entry : ℕ → StoredNode → ℕ → List Edit
take_entry i x q = SetInode i (Some (record x { size = x.size - 1 })) false ∷ SetPlace (x.small (q / BLOCK_ENTRIES)) (q % BLOCK_ENTRIES) None ∷ []

-- place q gets another entry
abbrev pub replace_entry : StoredNode → ℕ → StoredEntry → List Edit
replace_entry x q e = SetPlace (x.small (q / BLOCK_ENTRIES)) (q % BLOCK_ENTRIES) (Some e) ∷ []

-- a directory gets block k
abbrev pub grow : ℕ → StoredNode → ℕ → List Edit
grow i x k = SetUse k Entries ∷ SetInode i (Some (record x { blocks = x.blocks + 1; small = put x.small x.blocks k })) false ∷ []

-- a node gets so many links
abbrev pub relink : ℕ → StoredNode → ℕ → List Edit
relink i x links = SetInode i (Some (record x { links = links })) false ∷ []

-- what the blocks of a node of this kind are used for when it goes
abbrev pub freed : ℕ → Use
freed kind = if kind == 2 then Empty else Fresh

-- the first so many blocks get this use
abbrev pub uses_to : (ℕ → ℕ) → Use → ℕ → List Edit
uses_to small state zero = []
uses_to small state (suc m) = SetUse (small m) state ∷ uses_to small state m

-- a large block goes, where there is one: its number and 1, or 0
abbrev pub large_gone : ℕ → List Edit
large_gone large = if large == 0 then [] else SetLarge (large - 1) false ∷ []

-- a node goes, with its blocks
abbrev pub drop_node : ℕ → StoredNode → List Edit
drop_node i x = uses_to x.small (freed x.kind) x.blocks ++ (large_gone x.large ++ (SetInode i None false ∷ SetBit i false ∷ []))
