-- What the sectors of a fresh disk say: one inode is in use, and no block.
use Rattle.std.proofs.Common.{◌≡◌, ◌≢◌, ℕ, ◌*◌, ◌/◌, ◌%◌, ◌<◌, ◌≤◌, Bool, true, false, ◌==◌, ◌&&◌, if◌then◌else◌, nat_lt, Option, Some, None, [], is_some, refl, sym, ap, ◌∙◌, arith, ltb-true}
use Rattle.std.proofs.lemmas.Bool.Decides.{nat_tests}
use Rattle.std.proofs.lemmas.Bool.{ne_eqb, lt-ltb}
use Rattle.tree_definitions.specs.declared.node.Node.TheVariants.{Dir}
use Rattle.tree_definitions.proofs.Births.{each_but}
use Rattle.disk_definitions.specs.declared.region.Region.TheVariants as region
use Rattle.disk_definitions.specs.Regions.{sector_of}
use Rattle.disk_definitions.specs.Bitmaps.{bitmap_in}
use Rattle.disk_definitions.specs.Inodes.{inode_in}
use Rattle.sector_bytes.specs.Sectors.{Sectors}
use Rattle.disk_definitions.specs.Store.{StoredNode, Store, store_of, stored_node, bit_in, use_in, use_by, large_in, segment_at}
use Rattle.disk_definitions.specs.Store.Use.{Fresh}
use Rattle.disk_definitions.specs.Naming.{inode_of}
use Rattle.disk_definitions.specs.FreshDisk.{fresh_disk}
use Rattle.code_plan_laws.proofs.Blocks.{first_reads, zeros_read, root_stored, none_stored, no_state, no_bit, one_bit}
use Rattle.code_plan_laws.proofs.Sectors.{each_segment, later_segment, later_inode}

-- the birth of an inode of a fresh disk
abbrev pub born : ℕ → Option ℕ
born i = if i == 0 then Some 0 else None

pub not_born : (i : ℕ) → i ≢ 0 → born i ≡ None
not_born i far = ap (λ (t : Bool). if t then Some 0 else None) (ne_eqb i 0 far)

-- where both cases are the same
pub either_way : {X : Type 0} (t : Bool) (x y : X) → (t ≡ true → x ≡ y) → (if t then x else y) ≡ y
either_way true x y e = e refl
either_way false x y e = refl

pub both_false : (t b : Bool) → (t ≡ true → b ≡ false) → (t && b) ≡ false
both_false true b e = e refl
both_false false b e = refl

module _ (segments : ℕ) (some : 1 ≤ segments) (few : segments ≤ 64) where
  abbrev disk : Sectors
  disk = fresh_disk segments

  abbrev pub store : Store
  store = store_of segments disk

  -- a block and an inode are of one of the 64 segments
  block_below : (k : ℕ) → nat_lt k (1024 * segments) ≡ true → k / 1024 < 64
  block_below k e = let l = ltb-true k (1024 * segments) e in omega arith

  inode_below : (i : ℕ) → nat_lt i (64 * segments) ≡ true → i / 64 < 64
  inode_below i e = let l = ltb-true i (64 * segments) e in omega arith

  no_use : (k j : ℕ) → k < 64 → use_in (segment_at disk k) j ≡ Fresh
  no_use k j l =
      each_segment (λ b. use_in (bitmap_in b) j ≡ Fresh) segments
      (ap (λ o. use_in o j) first_reads ∙ ap use_by (no_state j))
      (ap (λ o. use_in o j) zeros_read ∙ ap use_by (no_state j)) k l

  no_large : (k : ℕ) → k < 64 → large_in (segment_at disk k) ≡ false
  no_large k l = each_segment (λ b. large_in (bitmap_in b) ≡ false) segments (ap large_in first_reads) (ap large_in zeros_read) k l

  pub uses : (k : ℕ) → store.use_of k ≡ Fresh
  uses k = either_way (nat_lt k (1024 * segments)) (use_in (segment_at disk (k / 1024)) (k % 1024)) Fresh (λ e. no_use (k / 1024) (k % 1024) (block_below k e))

  pub large_bits : (g : ℕ) → store.large_bit g ≡ false
  large_bits g = both_false (nat_lt g segments) (large_in (segment_at disk g)) (λ e. no_large g (grind (arith, nat_tests)))

  -- the root alone has its bit
  none_there : (k j : ℕ) → k < 64 → (k ≡ 0 → j ≢ 0) → bit_in (segment_at disk k) j ≡ false
  none_there k j l far =
      each_but (λ k. k < 64 → (k ≡ 0 → j ≢ 0) → bit_in (segment_at disk k) j ≡ false) 0
      (λ l far. ap (λ o. bit_in o j) first_reads ∙ one_bit j (far refl))
      (λ k past l far. none k past l) k l far
    where
      none : (k : ℕ) → k ≢ 0 → k < 64 → bit_in (segment_at disk k) j ≡ false
      none k past l = ap (λ b. bit_in (bitmap_in b) j) (later_segment segments k past l) ∙ ap (λ o. bit_in o j) zeros_read ∙ no_bit j

  pub bits : (i : ℕ) → store.bit i ≡ is_some (born i)
  bits = each_but (λ i. store.bit i ≡ is_some (born i)) 0 first other
    where
      first : store.bit 0 ≡ true
      first = ap (λ (t : Bool). t && bit_in (segment_at disk 0) 0) (lt-ltb 0 (64 * segments) (omega arith)) ∙ ap (λ o. bit_in o 0) first_reads

      other : (i : ℕ) → i ≢ 0 → store.bit i ≡ is_some (born i)
      other i far =
          both_false (nat_lt i (64 * segments)) (bit_in (segment_at disk (i / 64)) (i % 64)) (λ e. none_there (i / 64) (i % 64) (inode_below i e) (λ z w. far (omega arith)))
          ∙ sym (ap is_some (not_born i far))

  -- the node of the root's inode
  abbrev pub root : StoredNode
  root = inode_of 0 (λ j. 0) 0 (Dir [] 0)

  pub root_node : store.inode 0 ≡ Some root
  root_node = ap (λ (t : Bool). if t then stored_node (inode_in (disk (sector_of (region.Inode 0)))) else None) (lt-ltb 0 (64 * segments) (omega arith)) ∙ root_stored

  pub no_node : (i : ℕ) → i ≢ 0 → store.inode i ≡ None
  no_node i far = either_way (nat_lt i (64 * segments)) (stored_node (inode_in (disk (sector_of (region.Inode i))))) None (λ e. ap (λ b. stored_node (inode_in b)) (later_inode segments i far) ∙ none_stored)
