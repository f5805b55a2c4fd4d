-- What the grammar of inodes says of the nodes that are stored in them.
use Rattle.disk_definitions.specs.Regions.{sector_of}
use Rattle.disk_definitions.specs.declared.region.Region.TheVariants as region
use Rattle.std.proofs.Common.{◌==◌, ◌≡◌, ℕ, zero, suc, ◌+◌, ◌-◌, ◌*◌, ◌<◌, ◌≤◌, ⊎_elim, Bool, true, false, ◌||◌, Option, Some, None, List, [], ◌∷◌, take, drop, cond, refl, sym, ◌∙◌, ap, subst, arith, nat_lt, nat_le, slice_index, get_or-drop, nat_eq, eqb-true, ltb-true, leb-true, lt-ltb, le-ltb}
use Rattle.std.proofs.lemmas.Bool.{and_parts, or_cases, cases_lt, cond-true, cond-false, both_ways}
use Rattle.std.specs.List.{list_all}
use Rattle.disk_definitions.specs.declared.inode.Inode.{Inode}
use Rattle.sector_bytes.specs.Bytes.{are_zero}
use Rattle.disk_definitions.specs.Inodes.{ends_blocks, is_free_inode, is_file_inode, is_directory_inode, is_link_inode, inode_fits, inode_in}
use Rattle.frang_base.specs.Name.{is_target_byte}
use Rattle.tree_definitions.specs.Tree.{small_blocks_of}
use Rattle.disk_definitions.proofs.Readings.{and_l, and_r}
use Rattle.disk_definitions.proofs.InodeLaws.{inode_read, few_blocks}
use Rattle.sector_bytes.specs.Sectors.{Sectors}
use Rattle.disk_definitions.specs.Naming.{first_blocks}
use Rattle.disk_definitions.specs.Store.{StoredNode, stored_node, store_of}

-- a file: its blocks are those of its size, and it has a large block exactly where the size takes one
pub record IsFileShape (x : StoredNode) : Type 0 where
  pub kind : x.kind ≡ 1
  pub few : x.blocks ≤ 16
  pub blocks : x.blocks ≡ small_blocks_of x.size
  pub small : x.small ≡ first_blocks x.blocks x.small
  pub large : x.large ≡ cond (nat_lt 65536 x.size) (x.large - 1 + 1) 0
  pub has : nat_lt 65536 x.size ≡ nat_lt 0 x.large
  pub target : x.target ≡ []

-- a directory: it has one link, and no large block, no time and no target
pub record IsDirShape (x : StoredNode) : Type 0 where
  pub kind : x.kind ≡ 2
  pub few : x.blocks ≤ 16
  pub links : x.links ≡ 1
  pub small : x.small ≡ first_blocks x.blocks x.small
  pub large : x.large ≡ 0
  pub when : x.when ≡ 0
  pub target : x.target ≡ []

-- a link: it has no blocks and no time, and a target
pub record IsLinkShape (x : StoredNode) : Type 0 where
  pub kind : x.kind ≡ 3
  pub blocks : x.blocks ≡ 0
  pub small : x.small ≡ first_blocks 0 x.small
  pub large : x.large ≡ 0
  pub when : x.when ≡ 0
  pub size : (1 ≤ x.size) × (x.size ≤ 384)
  pub bytes : list_all is_target_byte x.target ≡ true

pub data Shape (x : StoredNode) : Type 0 where
  OfFile : IsFileShape x → Shape x
  OfDir : IsDirShape x → Shape x
  OfLink : IsLinkShape x → Shape x

zero_at : (xs : List ℕ) (j : ℕ) → are_zero xs ≡ true → slice_index xs j ≡ 0
zero_at [] j z = refl
zero_at (x ∷ xs) zero z = eqb-true x 0 (and_parts (nat_eq x 0) (are_zero xs) z).0
zero_at (x ∷ xs) (suc j) z = zero_at xs j (and_parts (nat_eq x 0) (are_zero xs) z).1

-- the numbers past the blocks in use are 0
first_of : (xs : List ℕ) (n : ℕ) → are_zero (drop n xs) ≡ true → slice_index xs ≡ first_blocks n (slice_index xs)
first_of xs n z = λ i j. at j i
  where
    at : (j : ℕ) → slice_index xs j ≡ first_blocks n (slice_index xs) j
    at j = ⊎_elim (λ l. sym (cond-true (nat_lt j n) (slice_index xs j) 0 (lt-ltb j n l)))
        (λ l. (let e : n + (j - n) ≡ j = omega arith in
        let g : slice_index (drop n xs) (j - n) ≡ slice_index xs (n + (j - n)) = get_or-drop n xs (j - n) 0 in
        ap (slice_index xs) (sym e) ∙ sym g ∙ zero_at (drop n xs) (j - n) z ∙ sym (cond-false (nat_lt j n) (slice_index xs j) 0 (le-ltb j n l)))) (cases_lt j n)

-- a large block is there exactly where the size takes one
large_is : (size large : ℕ) → cond (nat_lt 65536 size) (nat_lt 0 large) (large == 0) ≡ true → (large ≡ cond (nat_lt 65536 size) (large - 1 + 1) 0) × (nat_lt 65536 size ≡ nat_lt 0 large)
large_is size large h = go (nat_lt 65536 size) h
  where
    go : (b : Bool) → cond b (nat_lt 0 large) (large == 0) ≡ true → (large ≡ cond b (large - 1 + 1) 0) × (b ≡ nat_lt 0 large)
    go true h = let l : 0 < large = ltb-true 0 large h in (omega arith, sym h)
    go false h = let e : large ≡ 0 = eqb-true large 0 h in (e, sym (ap (nat_lt 0) e))

abbrev stored : Inode → StoredNode
stored x = record { kind = x.kind; links = x.links; size = x.size; birth = x.birth; blocks = x.blocks; small = slice_index x.small; large = x.large; when = x.when; target = cond (x.kind == 3) (take x.size x.target) [] }

untargeted : (k : ℕ) (t : List ℕ) (c : ℕ) → c == 3 ≡ false → k ≡ c → cond (k == 3) t [] ≡ []
untargeted k t c h e = subst (λ k. cond (k == 3) t [] ≡ []) (sym e) (cond-false (c == 3) t [] h)

pub file_shape : (x : Inode) → is_file_inode x ≡ true → IsFileShape (stored x)
file_shape x h =
    let kind : x.kind == 1 ≡ true = search (and_l, and_r) depth 12 in
    let blocks : x.blocks == small_blocks_of x.size ≡ true = search (and_l, and_r) depth 12 in
    let ends : ends_blocks x ≡ true = search (and_l, and_r) depth 12 in
    let large : cond (nat_lt 65536 x.size) (nat_lt 0 x.large) (x.large == 0) ≡ true = search (and_l, and_r) depth 12 in
    let b : x.blocks ≡ small_blocks_of x.size = eqb-true x.blocks (small_blocks_of x.size) blocks in
    let l = large_is x.size x.large large in
    record {
      kind = eqb-true x.kind 1 kind;
      few = subst (λ n. n ≤ 16) (sym b) (few_blocks x.size);
      blocks = b;
      small = first_of x.small x.blocks ends;
      large = l.0;
      has = l.1;
      target = untargeted x.kind (take x.size x.target) 1 refl (eqb-true x.kind 1 kind);
    }

pub dir_shape : (x : Inode) → is_directory_inode x ≡ true → IsDirShape (stored x)
dir_shape x h =
    let kind : x.kind == 2 ≡ true = search (and_l, and_r) depth 12 in
    let links : x.links == 1 ≡ true = search (and_l, and_r) depth 12 in
    let few : nat_le x.blocks 16 ≡ true = search (and_l, and_r) depth 12 in
    let ends : ends_blocks x ≡ true = search (and_l, and_r) depth 12 in
    let large : x.large == 0 ≡ true = search (and_l, and_r) depth 12 in
    let never : x.when == 0 ≡ true = search (and_l, and_r) depth 12 in
    record {
      kind = eqb-true x.kind 2 kind;
      few = leb-true x.blocks 16 few;
      links = eqb-true x.links 1 links;
      small = first_of x.small x.blocks ends;
      large = eqb-true x.large 0 large;
      when = eqb-true x.when 0 never;
      target = untargeted x.kind (take x.size x.target) 2 refl (eqb-true x.kind 2 kind);
    }

pub link_shape : (x : Inode) → is_link_inode x ≡ true → IsLinkShape (stored x)
link_shape x h =
    let kind : x.kind == 3 ≡ true = search (and_l, and_r) depth 12 in
    let blocks : x.blocks == 0 ≡ true = search (and_l, and_r) depth 12 in
    let none : are_zero x.small ≡ true = search (and_l, and_r) depth 12 in
    let large : x.large == 0 ≡ true = search (and_l, and_r) depth 12 in
    let never : x.when == 0 ≡ true = search (and_l, and_r) depth 12 in
    let some : nat_le 1 x.size ≡ true = search (and_l, and_r) depth 12 in
    let few : nat_le x.size 384 ≡ true = search (and_l, and_r) depth 12 in
    let bytes : list_all is_target_byte (take x.size x.target) ≡ true = search (and_l, and_r) depth 12 in
    record {
      size = (leb-true 1 x.size some, leb-true x.size 384 few);
      bytes = ap (list_all is_target_byte) (cond-true (x.kind == 3) (take x.size x.target) [] kind) ∙ bytes;
      kind = eqb-true x.kind 3 kind;
      blocks = eqb-true x.blocks 0 blocks;
      small = first_of x.small 0 none;
      large = eqb-true x.large 0 large;
      when = eqb-true x.when 0 never;
    }

-- an inode that isn't free is a file, a directory or a link
used_shape : (x : Inode) → inode_fits x ≡ true → is_free_inode x ≡ false → Shape (stored x)
used_shape x h free = ⊎_elim
    (λ r. ⊎_elim
    (λ r. ⊎_elim (λ e. absurd (both_ways (is_free_inode x) free e)) (λ e. OfFile (file_shape x e)) (or_cases (is_free_inode x) (is_file_inode x) r))
    (λ e. OfDir (dir_shape x e)) (or_cases (is_free_inode x || is_file_inode x) (is_directory_inode x) r))
    (λ e. OfLink (link_shape x e)) (or_cases (is_free_inode x || is_file_inode x || is_directory_inode x) (is_link_inode x) h)

stored_shape : (block : List ℕ) (y : StoredNode) → stored_node (inode_in block) ≡ Some y → Shape y
stored_shape block y h = go (inode_in block) refl h
  where
    free : (x : Inode) → inode_fits x ≡ true → (b : Bool) → is_free_inode x ≡ b → cond b None (Some (stored x)) ≡ Some y → Shape y
    free x fits true f h = absurd (cc)
    free x fits false f h = let s : stored x ≡ y = cc in subst Shape s (used_shape x fits f)

    go : (o : Option Inode) → inode_in block ≡ o → stored_node o ≡ Some y → Shape y
    go None e h = absurd (cc)
    go (Some x) e h = free x (inode_read block x e).1 (is_free_inode x) refl h

-- each inode in use of a disk
pub disk_shape : (segments : ℕ) (sectors : Sectors) (i : ℕ) (y : StoredNode) → (store_of segments sectors).inode i ≡ Some y → Shape y
disk_shape segments sectors i y h = go (nat_lt i (64 * segments)) h
  where
    go : (b : Bool) → cond b (stored_node (inode_in (sectors (sector_of (region.Inode i))))) None ≡ Some y → Shape y
    go true h = stored_shape (sectors (sector_of (region.Inode i))) y h
    go false h = absurd (cc)
