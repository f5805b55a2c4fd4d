-- A directory and a file come to an empty store, step by step: the premises of the changes can be met.
use Rattle.std.proofs.Common.{ℕ, ◌≤◌, ◌≡◌, zero, suc, true, false, List, Some, None, [], ◌∷◌, length, slice_get, refl, subst, arith}
use Rattle.std.proofs.lemmas.Bool.Decides.{nat_tests}
use Rattle.tree_definitions.specs.declared.cells.Cell.{Cell}
use Rattle.tree_definitions.specs.declared.cells.Cell.TheVariants as cell
use Rattle.tree_definitions.specs.declared.node.Node.TheVariants.{Dir, File}
use Rattle.frang_base.specs.Functions.{put}
use Rattle.frang_base.proofs.Basics.{at_put}
use Rattle.tree_definitions.specs.WellFormed.{put as put_node}
use Rattle.disk_definitions.specs.Store.{Store, StoredNode, byte_at}
use Rattle.disk_definitions.specs.Store.Use.{Fresh, Bytes, Entries}
use Rattle.disk_definitions.specs.Naming.{Naming, Nodes, Pictures, find_in, inode_of, Allows}
use Rattle.disk_definitions.specs.Edits.{edited_all}
use Rattle.disk_definitions.specs.Changes.{new_node, grow, put_entry}
use Rattle.disk_definitions.specs.Namings.{named_new, named_block, named_at}
use Rattle.disk_definitions.specs.Edits.Edit.{SetInode, SetUse, SetBytes}
use Rattle.disk_definitions.specs.ChangeLaws.{FilesFit}
use Rattle.disk_definitions.specs.Resizing.{index_of, named_resized, HasBlocks, IsResized}
use Rattle.disk_definitions.proofs.Resize.{files_are_resized}
use Rattle.disk_definitions.proofs.Puts.{put_part_other}
use Rattle.disk_definitions.proofs.Names.{names_come}
use Rattle.disk_definitions.proofs.NewNode.{nodes_come}
use Rattle.disk_definitions.proofs.Grow.{directories_grow}
use Rattle.disk_definitions.proofs.Entry.{entries_come}

abbrev empty : Store
empty = record { inode = λ i. None; bit = λ i. false; use_of = λ k. Fresh; place = λ k p. None; large_bit = λ g. false; byte = λ k j. 0; large_byte = λ g j. 0 }

abbrev unnamed : Naming
unnamed = record { inode = λ b. 0; birth = λ i. None; kind = λ b. 0; stamp = λ b. 0; block = λ b j. 0; owner = λ k. None; was = λ k. false; large = λ b. 0; large_owner = λ g. None; spot = λ d m. 0 }

nothing : Pictures empty (λ b. None) unnamed
nothing = record {
  inodes = λ i. refl;
  bits = λ i. refl;
  numbered = λ b e. absurd (cc);
  whose = λ i b e. absurd (cc);
  kinds = λ b x e. absurd (cc);
  owned = λ b j l. absurd (omega arith);
  owners = λ k b j e. absurd (let y : ℕ × ℕ = (b, j) in let z : None ≡ Some y = e in cc);
  uses = λ k. refl;
  emptied = λ k p l e. refl;
  larges = λ b e. absurd (cc);
  large_owners = λ g b e. absurd (cc);
  large_bits = λ g. refl;
  names = λ d b m e. absurd (cc);
  places = λ d q e l h. absurd (omega arith);
  bytes = λ b j c e. absurd (cc);
}

-- the root comes, in inode 0
abbrev rooted : Store
rooted = edited_all empty (new_node 0 0 (Dir [] 0))

abbrev root_at : Nodes
root_at = put_node (λ b. None) 0 (Some (Dir [] 0))

abbrev root_named : Naming
root_named = named_new unnamed 0 0 0 2

root_comes : Pictures rooted root_at root_named
root_comes = (nodes_come empty (λ b. None) unnamed 0 0 0 (Dir [] 0) nothing (record { new = refl; unnamed = λ d name e. absurd (cc); free = refl; bare = (refl, refl) })).pictures

-- a file of birth 7 comes, in inode 1
abbrev filed : Store
filed = edited_all rooted (new_node 1 7 (File [] 1 0))

abbrev file_at : Nodes
file_at = put_node root_at 7 (Some (File [] 1 0))

abbrev file_named : Naming
file_named = named_new root_named 7 1 7 1

no_names : (d : ℕ) (name : List ℕ) → find_in (root_at d) name ≡ None
no_names d name = at_put (λ o. find_in o name ≡ None) (λ b. None) 0 (Some (Dir [] 0)) d (λ e. refl) (λ e. refl)

file_comes : Pictures filed file_at file_named
file_comes = (nodes_come rooted root_at root_named 7 1 7 (File [] 1 0) root_comes
    (record { new = refl; unnamed = λ d name e. absurd (let z : find_in (root_at d) name ≡ None = no_names d name in cc); free = refl; bare = refl })).pictures

-- the root gets block 3
abbrev root_inode : StoredNode
root_inode = inode_of 0 (λ j. 0) 0 (Dir [] 0)

abbrev grown : Store
grown = edited_all filed (grow 0 root_inode 3)

root_grows : Pictures grown (put_node file_at 0 (Some (Dir [] 1))) (named_block file_named 0 0 3)
root_grows = (directories_grow filed file_at file_named 0 0 root_inode [] 3 file_comes (record { is = refl; inode = refl }) (record { free = refl; clear = λ e p l. refl })).pictures

-- and the file's name in it
abbrev entered : Store
entered = edited_all grown (put_entry 0 (record root_inode { blocks = 1; small = put root_inode.small 0 3 }) 0 (record { name = 97 ∷ []; inode = 1; kind = 1 }))

name_comes : Pictures entered (put_node (put_node file_at 0 (Some (Dir [] 1))) 0 (Some (Dir ((97 ∷ [], 7) ∷ []) 1))) (named_at (named_block file_named 0 0 3) 0 (97 ∷ []) 0)
name_comes = (entries_come grown (put_node file_at 0 (Some (Dir [] 1))) (named_block file_named 0 0 3) 0 1 (record root_inode { blocks = 1; small = put root_inode.small 0 3 }) [] ((97 ∷ [], 7) ∷ []) (97 ∷ []) 7 0 root_grows
    (record { is = refl; inode = refl }) (names_come [] (97 ∷ []) 7 refl) (record { inside = omega arith; vacant = refl })).pictures

what_stands : (entered.place 3 0 ≡ Some (record { name = 97 ∷ []; inode = 1; kind = 1 })) × (entered.bit 1 ≡ true) × (entered.use_of 3 ≡ Entries) × (entered.place 3 1 ≡ None)
what_stands = (refl, refl, refl, refl)

-- the file, before it has its name, gets two cells in block 4 and the time 70
abbrev cells : List Cell
cells = cell.Byte 5 ∷ cell.Doubtful ∷ []

abbrev written : Store
written = edited_all filed (SetUse 4 Bytes ∷ SetBytes 4 0 (λ j. 5) ∷ SetInode 1 (Some (inode_of 7 (λ j. 4) 0 (File cells 1 70))) true ∷ [])

has_blocks : HasBlocks filed file_named 7 [] cells (λ j. 4) 0
has_blocks = record {
  kept = λ j l h. absurd (omega arith);
  fresh = λ j l h. refl;
  apart = λ i j l h k o e. omega arith;
  large_kept = λ l h. absurd (omega arith);
  large_free = λ l h. absurd (omega arith);
}

allowed_bytes : (j : ℕ) (c : Cell) → slice_get cells j ≡ Some c → Allows c (byte_at written (λ j. 4) 0 j)
allowed_bytes zero c e = subst (λ c. Allows c 5) (let i : cell.Byte 5 ≡ c = cc in i) refl
allowed_bytes (suc zero) c e = subst (λ c. Allows c (byte_at written (λ j. 4) 0 1)) (let i : cell.Doubtful ≡ c = cc in i) tt
allowed_bytes (suc (suc j)) c e = absurd (cc)

is_written : IsResized filed written file_named 7 cells 1 70 (λ j. 4) 0
is_written = record {
  inode = λ i. refl;
  bit = λ i. refl;
  uses = λ k. grind (arith, nat_tests);
  large_bits = λ g. refl;
  places = λ k p l e. refl;
  bytes = λ k j l e h. put_part_other filed.byte 4 0 (λ j. 5) k j (λ i o. (let z : index_of cells (λ j. 4) 4 ≡ None = subst (λ k. index_of cells (λ j. 4) k ≡ None) i h in cc));
  large_bytes = λ g j l e h. refl;
  allowed = allowed_bytes;
}

small_files : FilesFit file_at
small_files b links when xs is = at_put (λ o. o ≡ Some (File xs links when) → length xs ≤ 1114112) root_at 7 (Some (File [] 1 0)) b
    (λ e i. let q : [] ≡ xs = cc in subst (λ ys. length ys ≤ 1114112) q (omega arith))
    (λ e. at_put (λ o. o ≡ Some (File xs links when) → length xs ≤ 1114112) (λ b. None) 0 (Some (Dir [] 0)) b (λ e i. absurd (cc)) (λ e i. absurd (cc))) is

file_is_written : Pictures written (put_node file_at 7 (Some (File cells 1 70))) (named_resized file_named 7 cells (λ j. 4) 0)
file_is_written = (files_are_resized filed written file_at file_named 7 1 0 70 [] cells (λ j. 4) 0 file_comes small_files refl has_blocks is_written).pictures
