-- What decoded sectors are: inodes in use by their kind, and the entries of a directory's sector by theirs.
use Rattle.std.proofs.Common.{◌==◌, ◌≡◌, ℕ, zero, suc, ◌*◌, ◌≤◌, Bool, true, false, ◌||◌, ⊎_elim, Some, None, List, [], ◌∷◌, cond, refl, sym, ◌∙◌, ap, subst, nat_le, eqb-true, leb-true, arith}
use Rattle.std.proofs.Math.Path.{fun_ext}
use Rattle.std.specs.List.{slice_get, list_all}
use Rattle.std.proofs.lemmas.Bool.{and_parts, or_cases, both_ways}
use Rattle.disk_definitions.specs.declared.inode.Inode.{Inode}
use Rattle.disk_definitions.specs.declared.directory.DirEntry.{DirEntry}
use Rattle.disk_definitions.specs.declared.directory.DirSector.{DirSector}
use Rattle.disk_definitions.specs.Inodes.{is_free_inode, is_file_inode, is_directory_inode, is_link_inode, inode_fits, inode_in}
use Rattle.disk_definitions.specs.Directories.{is_free_place, is_used_place, entry_fits, name_in, directory_fits}
use Rattle.frang_base.specs.Name.{is_name}
use Rattle.tree_definitions.specs.Tree.{small_blocks_of}
use Rattle.disk_definitions.proofs.Readings.{and_l, and_r}
use Rattle.disk_definitions.proofs.InodeLaws.{inode_read, few_blocks}
use Rattle.disk_definitions.proofs.DirectoryPlaces.{free_place, entry_of_list}
use Rattle.disk_definitions.specs.Store.{stored_node, stored_entry, entry_in, stored, entered}
use Rattle.dir_lookup.specs.Stored.{IsUsed, entries_at}

-- ---- inodes

-- the bounds of an inode by its kind
pub record IsBounded (x : Inode) (k : ℕ) : Type 0 where
  pub kind : x.kind ≡ k
  pub blocks : x.blocks ≤ 16
  pub size : x.size ≤ 1114112
  pub target : x.kind ≡ 3 → x.size ≤ 384

file_bounds : (x : Inode) → is_file_inode x ≡ true → IsBounded x 1
file_bounds x h =
    let kind : x.kind == 1 ≡ true = search (and_l, and_r) depth 12 in
    let size : nat_le x.size 1114112 ≡ true = search (and_l, and_r) depth 12 in
    let blocks : x.blocks == small_blocks_of x.size ≡ true = search (and_l, and_r) depth 12 in
    let k : x.kind ≡ 1 = eqb-true x.kind 1 kind in
    record {
      kind = k;
      blocks = subst (λ n. n ≤ 16) (sym (eqb-true x.blocks (small_blocks_of x.size) blocks)) (few_blocks x.size);
      size = leb-true x.size 1114112 size;
      target = λ e. absurd (omega arith);
    }

directory_bounds : (x : Inode) → is_directory_inode x ≡ true → IsBounded x 2
directory_bounds x h =
    let kind : x.kind == 2 ≡ true = search (and_l, and_r) depth 12 in
    let size : nat_le x.size (56 * x.blocks) ≡ true = search (and_l, and_r) depth 12 in
    let few : nat_le x.blocks 16 ≡ true = search (and_l, and_r) depth 12 in
    let k : x.kind ≡ 2 = eqb-true x.kind 2 kind in
    let b : x.blocks ≤ 16 = leb-true x.blocks 16 few in
    let s : x.size ≤ 56 * x.blocks = leb-true x.size (56 * x.blocks) size in
    record { kind = k; blocks = b; size = omega arith; target = λ e. absurd (omega arith) }

link_bounds : (x : Inode) → is_link_inode x ≡ true → IsBounded x 3
link_bounds x h =
    let kind : x.kind == 3 ≡ true = search (and_l, and_r) depth 12 in
    let size : nat_le x.size 384 ≡ true = search (and_l, and_r) depth 12 in
    let blocks : x.blocks == 0 ≡ true = search (and_l, and_r) depth 12 in
    let b : x.blocks ≡ 0 = eqb-true x.blocks 0 blocks in
    let s : x.size ≤ 384 = leb-true x.size 384 size in
    record { kind = eqb-true x.kind 3 kind; blocks = omega arith; size = omega arith; target = λ e. s }

-- an inode that fits is free, of kind 0, or one of the three kinds
pub data Kind (x : Inode) : Type 0 where
  Free : is_free_inode x ≡ true → x.kind ≡ 0 → Kind x
  Used : (k : ℕ) → is_free_inode x ≡ false → 1 ≤ k → IsBounded x k → Kind x

kind_of : (x : Inode) → inode_fits x ≡ true → Kind x
kind_of x h = go (is_free_inode x) refl
  where
    used : is_free_inode x ≡ false → Kind x
    used f = ⊎_elim
        (λ r. ⊎_elim
        (λ r. ⊎_elim (λ e. absurd (both_ways (is_free_inode x) f e)) (λ e. Used 1 f (omega arith) (file_bounds x e)) (or_cases (is_free_inode x) (is_file_inode x) r))
        (λ e. Used 2 f (omega arith) (directory_bounds x e)) (or_cases (is_free_inode x || is_file_inode x) (is_directory_inode x) r))
        (λ e. Used 3 f (omega arith) (link_bounds x e)) (or_cases (is_free_inode x || is_file_inode x || is_directory_inode x) (is_link_inode x) h)

    go : (b : Bool) → is_free_inode x ≡ b → Kind x
    go true e = let k : x.kind == 0 ≡ true = search (and_l, and_r) depth 12 in Free e (eqb-true x.kind 0 k)
    go false e = used e

-- a decoded inode of kind 0 is free, and any other is in use
pub free_node : (block : List ℕ) (x : Inode) → inode_in block ≡ Some x → x.kind ≡ 0 → None ≡ stored_node (inode_in block)
free_node block x e z = go (kind_of x (inode_read block x e).1)
  where
    go : Kind x → None ≡ stored_node (inode_in block)
    go (Free f k) = sym (ap stored_node e ∙ ap (λ b. cond b None (Some (stored x))) f)
    go (Used k f l b) = absurd (omega (arith, b.kind))

pub used_node : (block : List ℕ) (x : Inode) → inode_in block ≡ Some x → (x.kind ≡ 0 → ⊥) → (Some (stored x) ≡ stored_node (inode_in block)) × IsUsed x
used_node block x e n = go (kind_of x (inode_read block x e).1)
  where
    go : Kind x → (Some (stored x) ≡ stored_node (inode_in block)) × IsUsed x
    go (Free f k) = absurd (n k)
    go (Used k f l b) = (
      sym (ap stored_node e ∙ ap (λ b. cond b None (Some (stored x))) f),
      record { fits = (inode_read block x e).1; kind = omega (arith, b.kind); blocks = b.blocks; size = b.size; target = b.target },
    )

-- ---- entries

-- a sector of free places has no entries
pub no_entries : (x : DirSector) → list_all is_free_place x.entries ≡ true → entries_at x ≡ entry_in None
no_entries x h = fun_ext (λ r. go x.entries r h)
  where
    none : (e : DirEntry) (b : Bool) → b ≡ true → cond b None (Some (entered e)) ≡ None
    none e true z = refl
    none e false z = absurd (cc)

    go : (es : List DirEntry) (r : ℕ) → list_all is_free_place es ≡ true → stored_entry (slice_get es r) ≡ None
    go [] r h = refl
    go (e ∷ es) zero h = none e (is_free_place e) (and_parts (is_free_place e) (list_all is_free_place es) h).0
    go (e ∷ es) (suc r) h = go es r (and_parts (is_free_place e) (list_all is_free_place es) h).1

-- the entry of a place, by its kind
pub entry_by_kind : (x : DirSector) (r : ℕ) (e : DirEntry) → directory_fits x ≡ true → slice_get x.entries r ≡ Some e → entries_at x r ≡ cond (e.kind == 0) None (Some (entered e))
entry_by_kind x r e h g = ap stored_entry g ∙ ap (λ b. cond b None (Some (entered e))) (free_place e (entry_of_list x.entries r e h g))

-- an entry in use has a name
pub proper_entry : (x : DirSector) (r : ℕ) (e : DirEntry) → directory_fits x ≡ true → slice_get x.entries r ≡ Some e → (e.kind == 0) ≡ false → (is_name (name_in e) ≡ true) × (e.len ≤ 64)
proper_entry x r e h g k =
    let f : entry_fits e ≡ true = entry_of_list x.entries r e h g in
    ⊎_elim (λ t. absurd (both_ways (e.kind == 0) k (sym (free_place e f) ∙ t))) (λ t. (
    let n : is_name (name_in e) ≡ true = search (and_l, and_r) depth 8 in
    let l : nat_le e.len 64 ≡ true = search (and_l, and_r) depth 8 in
    (n, leb-true e.len 64 l))) (or_cases (is_free_place e) (is_used_place e) f)
