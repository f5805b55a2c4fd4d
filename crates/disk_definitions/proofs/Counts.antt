-- A picture goes by the places of blocks that are or were a directory's, and by the bytes of blocks in use for bytes.
use Rattle.std.proofs.Common.{ℕ, ◌-◌, ◌*◌, ◌/◌, ◌%◌, ◌<◌, ◌≤◌, ◌≡◌, Bool, true, false, List, Option, Some, None, length, nat_lt, if◌then◌else◌, is_some, refl, sym, ◌∙◌, ap, subst, arith}
use Rattle.std.proofs.lemmas.Bool.Decides.{nat_tests}
use Rattle.std.proofs.lemmas.Option.{slice_get_within}
use Rattle.tree_definitions.specs.declared.cells.Cell.{Cell}
use Rattle.tree_definitions.specs.declared.node.Node.{Node}
use Rattle.tree_definitions.specs.declared.node.Node.TheVariants.{Dir, File, Link}
use Rattle.disk_definitions.specs.Store.{Store, Use}
use Rattle.disk_definitions.specs.Store.Use.{Bytes, Empty, Entries}
use Rattle.disk_definitions.specs.Standing.{IsMetadata}
use Rattle.disk_definitions.specs.Naming.{Naming, Nodes, Pictures, blocks_of, has_large, room_in, cell_in, inode_of, use_by, use_for, dir_place, file_byte, Allows}
use Rattle.disk_definitions.specs.ChangeLaws.{FilesFit, FilesFitBySizes, SaysTheSame, PicturesGoByWhatCounts}
use Rattle.std.proofs.lemmas.Nat.{mod_below}
use Rattle.std.proofs.lemmas.Bool.{lt-ltb}
use Rattle.disk_definitions.proofs.Kept.{inode_is}
use Rattle.disk_definitions.proofs.Rooms.{dir_use}

pub cell_block : (x : Option Node) (j : ℕ) (c : Cell) → cell_in x j ≡ Some c → j < 65536 → (j / 4096 < blocks_of x) × (use_by x ≡ Bytes)
cell_block None j c e l = absurd (cc)
cell_block (Some (Dir entries blocks)) j c e l = absurd (cc)
cell_block (Some (File cells links when)) j c e l = let w : j < length cells = slice_get_within cells j c e in (omega arith, refl)
cell_block (Some (Link target links)) j c e l = absurd (cc)

pub cell_large : (x : Option Node) (j : ℕ) (c : Cell) → cell_in x j ≡ Some c → 65536 ≤ j → has_large x ≡ true
cell_large None j c e l = absurd (cc)
cell_large (Some (Dir entries blocks)) j c e l = absurd (cc)
cell_large (Some (File cells links when)) j c e l = let w : j < length cells = slice_get_within cells j c e in lt-ltb 65536 (length cells) (omega arith)
cell_large (Some (Link target links)) j c e l = absurd (cc)

pub cell_fits : (x : Option Node) (j : ℕ) (c : Cell) → ((links when : ℕ) (cells : List Cell) → x ≡ Some (File cells links when) → length cells ≤ 1114112) → cell_in x j ≡ Some c → j < 1114112
cell_fits None j c fit e = absurd (cc)
cell_fits (Some (Dir entries blocks)) j c fit e = absurd (cc)
cell_fits (Some (File cells links when)) j c fit e = let w : j < length cells = slice_get_within cells j c e in let f : length cells ≤ 1114112 = fit links when cells refl in omega arith
cell_fits (Some (Link target links)) j c fit e = absurd (cc)

pub below_56 : (q : ℕ) → q % 56 < 56
below_56 q = mod_below q 56 (omega arith)

pub below_4096 : (q : ℕ) → q % 4096 < 4096
below_4096 q = mod_below q 4096 (omega arith)

-- the block of a cell is in use for bytes
pub byte_use : (s : Store) (at : Nodes) (n : Naming) → Pictures s at n → (b j : ℕ) (c : Cell) → cell_in (at b) j ≡ Some c → j < 65536 → s.use_of (n.block b (j / 4096)) ≡ Bytes
byte_use s at n g b j c e l =
    let w = cell_block (at b) j c e l in
    g.uses (n.block b (j / 4096)) ∙ ap (use_for (n.was (n.block b (j / 4096))) at) (g.owned b (j / 4096) w.0) ∙ w.1

pub large_use : (s : Store) (at : Nodes) (n : Naming) → Pictures s at n → (b j : ℕ) (c : Cell) → cell_in (at b) j ≡ Some c → 65536 ≤ j → s.large_bit (n.large b) ≡ true
large_use s at n g b j c e l = g.large_bits (n.large b) ∙ ap is_some (g.larges b (cell_large (at b) j c e l))

-- bytes of one file in two stores, under two namings
pub same_byte : (s t : Store) (n m : Naming) (b j : ℕ) → (j < 65536 → t.byte (m.block b (j / 4096)) (j % 4096) ≡ s.byte (n.block b (j / 4096)) (j % 4096)) →
    (65536 ≤ j → t.large_byte (m.large b) (j - 65536) ≡ s.large_byte (n.large b) (j - 65536)) → file_byte t m b j ≡ file_byte s n b j
same_byte s t n m b j small large = go (nat_lt j 65536) refl
  where
    go : (v : Bool) → nat_lt j 65536 ≡ v → (if v then t.byte (m.block b (j / 4096)) (j % 4096) else t.large_byte (m.large b) (j - 65536)) ≡ (if v then s.byte (n.block b (j / 4096)) (j % 4096) else s.large_byte (n.large b) (j - 65536))
    go true e = small (grind (arith, nat_tests))
    go false e = large (grind (arith, nat_tests))

module _ (s t : Store) (at : Nodes) (n : Naming) (g : Pictures s at n) (fit : FilesFit at) (same : SaysTheSame s t) where
  is_metadata : (u : Use) → u ≡ Entries → IsMetadata u
  is_metadata u e = subst IsMetadata (sym e) tt

  place_same : (d q : ℕ) → q < 56 * room_in (at d) → dir_place t n d q ≡ dir_place s n d q
  place_same d q l = same.places (n.block d (q / 56)) (q % 56) (below_56 q) (is_metadata (s.use_of (n.block d (q / 56))) (dir_use s at n g d q l))

  pub by_what_counts : Pictures t at n
  by_what_counts = record {
    inodes = λ i. same.inode i ∙ g.inodes i;
    bits = λ i. same.bit i ∙ g.bits i;
    numbered = g.numbered;
    whose = g.whose;
    kinds = g.kinds;
    owned = g.owned;
    owners = g.owners;
    uses = λ k. same.uses k ∙ g.uses k;
    emptied = λ k p l e. let u : s.use_of k ≡ Empty = sym (same.uses k) ∙ e in same.places k p l (subst IsMetadata (sym u) tt) ∙ g.emptied k p l u;
    larges = g.larges;
    large_owners = g.large_owners;
    large_bits = λ k. same.large_bits k ∙ g.large_bits k;
    names = λ d b w e. let r = g.names d b w e in (r.0, place_same d (n.spot d w) r.0 ∙ r.1);
    places = λ d q e l h. g.places d q e l (sym (place_same d q l) ∙ h);
    bytes = λ b j c e. subst (Allows c) (sym (same_byte s t n n b j
        (λ l. same.bytes (n.block b (j / 4096)) (j % 4096) (below_4096 j) (byte_use s at n g b j c e l))
        (λ l. let f : j < 1114112 = cell_fits (at b) j c (fit b) e in same.large_bytes (n.large b) (j - 65536) (omega arith) (large_use s at n g b j c e l)))) (g.bytes b j c e);
  }

pub pictures_go_by_what_counts : PicturesGoByWhatCounts
pictures_go_by_what_counts s t at n g fit same = by_what_counts s t at n g fit same

pub files_fit : FilesFitBySizes
files_fit s at n g sizes b links when cells is = sizes (n.inode b) (inode_of (n.stamp b) (n.block b) (n.large b) (File cells links when)) (inode_is s at n g b (File cells links when) is) refl
