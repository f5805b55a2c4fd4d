-- What decoded sectors say of a store.
use Rattle.std.proofs.Common.{◌==◌, ◌≡◌, ℕ, ◌*◌, ◌/◌, ◌%◌, ◌<◌, ◌≤◌, Bool, true, false, ◌&&◌, ◌||◌, ⊎_elim, Option, Some, None, List, cond, refl, sym, ◌∙◌, ap, nat_lt, nat_le, leb-true, lt-ltb, le-ltb, eq-eqb, ne_eqb}
use Rattle.std.specs.List.{slice_get}
use Rattle.std.proofs.lemmas.Bool.{or_cases, cond-true, cond-false, and_right, both_ways}
use Rattle.disk_definitions.specs.declared.inode.Inode.{Inode}
use Rattle.disk_definitions.specs.declared.directory.DirEntry.{DirEntry}
use Rattle.disk_definitions.specs.declared.directory.DirSector.{DirSector}
use Rattle.disk_definitions.specs.declared.region.Region.TheVariants as region
use Rattle.disk_definitions.specs.Regions.{sector_of}
use Rattle.disk_definitions.specs.Inodes.{is_free_inode, is_file_inode, is_directory_inode, is_link_inode, inode_fits, inode_in}
use Rattle.disk_definitions.specs.Directories.{is_free_place, is_used_place, entry_fits, name_in, directory_in}
use Rattle.disk_definitions.specs.Bitmaps.{bitmap_in, inode_bit, block_state}
use Rattle.frang_base.specs.Name.{is_name}
use Rattle.frang_base.specs.declared.bitmap.Bitmap.{Bitmap}
use Rattle.disk_definitions.proofs.Readings.{and_l, and_r}
use Rattle.disk_definitions.proofs.InodeLaws.{inode_read}
use Rattle.disk_definitions.proofs.DirectoryLaws.{directory_read}
use Rattle.disk_definitions.proofs.DirectoryPlaces.{free_place, entry_of_list}
use Rattle.bitmap_block.specs.States.{state_number}
use Rattle.bitmap_block.specs.declared.state.BlockState.{BlockState}
use Rattle.bitmap_block.specs.declared.state.BlockState.TheVariants as state
use Rattle.disk_definitions.specs.Store.Use.{Fresh}
use Rattle.standing_laws.proofs.SoundStanding.{disk_range}
use Rattle.sector_bytes.specs.Sectors.{Sectors}
use Rattle.disk_definitions.specs.Store.{StoredNode, StoredEntry, stored_node, stored_entry, entry_in, use_by, use_in, bit_in, large_in, store_of, stored, entered}
use Rattle.standing_laws.proofs.Shapes.{file_shape, dir_shape, link_shape}
use Rattle.disk_reading.specs.Seen.{use_of_state}

-- an inode is free exactly where its kind is 0
pub free_kind : (x : Inode) → inode_fits x ≡ true → is_free_inode x ≡ (x.kind == 0)
free_kind x h = go (is_free_inode x) refl
  where
    other : (k : ℕ) → x.kind ≡ k → k == 0 ≡ false → false ≡ (x.kind == 0)
    other k e n = sym (ap (λ k. k == 0) e ∙ n)

    used : is_free_inode x ≡ false → false ≡ (x.kind == 0)
    used f = ⊎_elim
        (λ r. ⊎_elim
        (λ r. ⊎_elim (λ e. absurd (both_ways (is_free_inode x) f e)) (λ e. other 1 (file_shape x e).kind refl) (or_cases (is_free_inode x) (is_file_inode x) r))
        (λ e. other 2 (dir_shape x e).kind refl) (or_cases (is_free_inode x || is_file_inode x) (is_directory_inode x) r))
        (λ e. other 3 (link_shape x e).kind refl) (or_cases (is_free_inode x || is_file_inode x || is_directory_inode x) (is_link_inode x) h)

    go : (b : Bool) → is_free_inode x ≡ b → is_free_inode x ≡ (x.kind == 0)
    go true e = e ∙ sym (let k : x.kind == 0 ≡ true = search (and_l, and_r) depth 12 in k)
    go false e = e ∙ used e

-- the node of a decoded inode
abbrev pub node_of : Option Inode → Option StoredNode
node_of None = None
node_of (Some x) = cond (x.kind == 0) None (Some (stored x))

pub decoded_node : (block : List ℕ) → stored_node (inode_in block) ≡ node_of (inode_in block)
decoded_node block = go (inode_in block) refl
  where
    go : (o : Option Inode) → inode_in block ≡ o → stored_node o ≡ node_of o
    go None e = refl
    go (Some x) e = ap (λ b. cond b None (Some (stored x))) (free_kind x (inode_read block x e).1)

-- an inode in use, by its kind
pub used_is : (segments : ℕ) (sectors : Sectors) (i : ℕ) (x : Inode) → i < 64 * segments → inode_in (sectors (sector_of (region.Inode i))) ≡ Some x → (x.kind ≡ 0 → ⊥) → Some (stored x) ≡ (store_of segments sectors).inode i
used_is segments sectors i x l e n =
    let f : (x.kind == 0) ≡ false = ne_eqb x.kind 0 n in
    sym (cond-true (nat_lt i (64 * segments)) (stored_node (inode_in (sectors (sector_of (region.Inode i))))) None (lt-ltb i (64 * segments) l)
    ∙ decoded_node (sectors (sector_of (region.Inode i))) ∙ ap node_of e ∙ cond-false (x.kind == 0) None (Some (stored x)) f)

-- none where its sector isn't in the grammar, and where it is free
pub no_inode : (segments : ℕ) (sectors : Sectors) (i : ℕ) → inode_in (sectors (sector_of (region.Inode i))) ≡ None → None ≡ (store_of segments sectors).inode i
no_inode segments sectors i h = go (nat_lt i (64 * segments))
  where
    go : (b : Bool) → None ≡ cond b (stored_node (inode_in (sectors (sector_of (region.Inode i))))) None
    go true = sym (ap stored_node h)
    go false = refl

pub free_is : (segments : ℕ) (sectors : Sectors) (i : ℕ) (x : Inode) → inode_in (sectors (sector_of (region.Inode i))) ≡ Some x → x.kind ≡ 0 → None ≡ (store_of segments sectors).inode i
free_is segments sectors i x e z = go (nat_lt i (64 * segments))
  where
    go : (b : Bool) → None ≡ cond b (stored_node (inode_in (sectors (sector_of (region.Inode i))))) None
    go true = sym (decoded_node (sectors (sector_of (region.Inode i))) ∙ ap node_of e ∙ cond-true (x.kind == 0) None (Some (stored x)) (eq-eqb x.kind 0 z))
    go false = refl

-- the entry of a decoded place
abbrev pub entry_of : Option DirEntry → Option StoredEntry
entry_of None = None
entry_of (Some e) = cond (e.kind == 0) None (Some (entered e))

pub decoded_entry : (block : List ℕ) (x : DirSector) (q : ℕ) → directory_in block ≡ Some x → entry_in (directory_in block) q ≡ entry_of (slice_get x.entries q)
decoded_entry block x q h = ap (λ o. entry_in o q) h ∙ go (slice_get x.entries q) refl
  where
    go : (o : Option DirEntry) → slice_get x.entries q ≡ o → stored_entry o ≡ entry_of o
    go None e = refl
    go (Some e) g = ap (λ b. cond b None (Some (entered e))) (free_place e (entry_of_list x.entries q e (directory_read block x h).1 g))

-- an entry in use, by its kind
pub entry_is : (segments : ℕ) (sectors : Sectors) (k p : ℕ) (x : DirSector) (e : DirEntry) → k < 1024 * segments → directory_in (sectors (sector_of (region.Small k (p / 7)))) ≡ Some x → slice_get x.entries (p % 7) ≡ Some e → (b : Bool) → (e.kind == 0) ≡ b → cond b None (Some (entered e)) ≡ (store_of segments sectors).place k p
entry_is segments sectors k p x e l h g b z =
    sym (cond-true (nat_lt k (1024 * segments)) (entry_in (directory_in (sectors (sector_of (region.Small k (p / 7))))) (p % 7)) None (lt-ltb k (1024 * segments) l)
    ∙ decoded_entry (sectors (sector_of (region.Small k (p / 7)))) x (p % 7) h ∙ ap entry_of g ∙ ap (λ b. cond b None (Some (entered e))) z)

pub no_entry : (segments : ℕ) (sectors : Sectors) (k p : ℕ) → directory_in (sectors (sector_of (region.Small k (p / 7)))) ≡ None → None ≡ (store_of segments sectors).place k p
no_entry segments sectors k p h = go (nat_lt k (1024 * segments))
  where
    go : (b : Bool) → None ≡ cond b (entry_in (directory_in (sectors (sector_of (region.Small k (p / 7))))) (p % 7)) None
    go true = sym (ap (λ o. entry_in o (p % 7)) h)
    go false = refl

-- the use of a block, by its state
pub use_by_state : (b : BlockState) (n : ℕ) → state_number b ≡ n → use_of_state b ≡ use_by n
use_by_state state.Unused n e = ap use_by e
use_by_state state.FileBytes n e = ap use_by e
use_by_state state.FormerDirectory n e = ap use_by e
use_by_state state.Directory n e = ap use_by e

pub use_is : (segments : ℕ) (sectors : Sectors) (k : ℕ) (x : Bitmap) (b : BlockState) → k < 1024 * segments → bitmap_in (sectors (sector_of (region.Segment (k / 1024)))) ≡ Some x → state_number b ≡ block_state x (k % 1024) → use_of_state b ≡ (store_of segments sectors).use_of k
use_is segments sectors k x b l h e =
    use_by_state b (block_state x (k % 1024)) e ∙ sym (cond-true (nat_lt k (1024 * segments)) (use_in (bitmap_in (sectors (sector_of (region.Segment (k / 1024))))) (k % 1024)) Fresh (lt-ltb k (1024 * segments) l) ∙ ap (λ o. use_in o (k % 1024)) h)

pub no_use : (segments : ℕ) (sectors : Sectors) (k : ℕ) → bitmap_in (sectors (sector_of (region.Segment (k / 1024)))) ≡ None → Fresh ≡ (store_of segments sectors).use_of k
no_use segments sectors k h = go (nat_lt k (1024 * segments))
  where
    go : (b : Bool) → Fresh ≡ cond b (use_in (bitmap_in (sectors (sector_of (region.Segment (k / 1024))))) (k % 1024)) Fresh
    go true = sym (ap (λ o. use_in o (k % 1024)) h)
    go false = refl

pub bit_is : (segments : ℕ) (sectors : Sectors) (i : ℕ) (x : Bitmap) → i < 64 * segments → bitmap_in (sectors (sector_of (region.Segment (i / 64)))) ≡ Some x → inode_bit x (i % 64) ≡ (store_of segments sectors).bit i
bit_is segments sectors i x l h = sym (ap (λ b. b && bit_in (bitmap_in (sectors (sector_of (region.Segment (i / 64))))) (i % 64)) (lt-ltb i (64 * segments) l) ∙ ap (λ o. bit_in o (i % 64)) h)

pub no_bit : (segments : ℕ) (sectors : Sectors) (i : ℕ) → bitmap_in (sectors (sector_of (region.Segment (i / 64)))) ≡ None → false ≡ (store_of segments sectors).bit i
no_bit segments sectors i h = sym (and_right (nat_lt i (64 * segments)) (bit_in (bitmap_in (sectors (sector_of (region.Segment (i / 64))))) (i % 64)) (ap (λ o. bit_in o (i % 64)) h))

pub large_is : (segments : ℕ) (sectors : Sectors) (g : ℕ) (x : Bitmap) → g < segments → bitmap_in (sectors (sector_of (region.Segment g))) ≡ Some x → x.large ≡ (store_of segments sectors).large_bit g
large_is segments sectors g x l h = sym (ap (λ b. b && large_in (bitmap_in (sectors (sector_of (region.Segment g))))) (lt-ltb g segments l) ∙ ap large_in h)

pub no_large : (segments : ℕ) (sectors : Sectors) (g : ℕ) → bitmap_in (sectors (sector_of (region.Segment g))) ≡ None → false ≡ (store_of segments sectors).large_bit g
no_large segments sectors g h = sym (and_right (nat_lt g segments) (large_in (bitmap_in (sectors (sector_of (region.Segment g))))) (ap large_in h))

-- what lies past the segments
pub past_inodes : (segments : ℕ) (sectors : Sectors) (i : ℕ) → 64 * segments ≤ i → (None ≡ (store_of segments sectors).inode i) × (false ≡ (store_of segments sectors).bit i)
past_inodes segments sectors i l = let r = disk_range segments sectors in (sym (r.inodes i l), sym (r.bits i l))

pub past_blocks : (segments : ℕ) (sectors : Sectors) (k : ℕ) → 1024 * segments ≤ k → (Fresh ≡ (store_of segments sectors).use_of k) × ((p : ℕ) → None ≡ (store_of segments sectors).place k p)
past_blocks segments sectors k l = (sym ((disk_range segments sectors).uses k l), λ p. sym (cond-false (nat_lt k (1024 * segments)) (entry_in (directory_in (sectors (sector_of (region.Small k (p / 7))))) (p % 7)) None (le-ltb k (1024 * segments) l)))

pub past_larges : (segments : ℕ) (sectors : Sectors) (g : ℕ) → segments ≤ g → false ≡ (store_of segments sectors).large_bit g
past_larges segments sectors g l = sym ((disk_range segments sectors).larges g l)

-- the name of an entry
pub proper_entry : (block : List ℕ) (x : DirSector) (q : ℕ) (e : DirEntry) → directory_in block ≡ Some x → slice_get x.entries q ≡ Some e → (e.kind == 0) ≡ false → (is_name (name_in e) ≡ true) × (e.len ≤ 64)
proper_entry block x q e h g k =
    let f : entry_fits e ≡ true = entry_of_list x.entries q e (directory_read block x h).1 g in
    ⊎_elim (λ t. absurd (both_ways (e.kind == 0) k (sym (free_place e f) ∙ t))) (λ t. (
    let n : is_name (name_in e) ≡ true = search (and_l, and_r) depth 8 in
    let l : nat_le e.len 64 ≡ true = search (and_l, and_r) depth 8 in
    (n, leb-true e.len 64 l))) (or_cases (is_free_place e) (is_used_place e) f)
