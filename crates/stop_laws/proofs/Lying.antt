-- Where a byte of a file lies: in a sector of its small blocks or of its large one, which two namings of one inode agree on.
use Rattle.std.proofs.Common.{ℕ, ◌≡◌, ◌≤◌, ◌<◌, ◌+◌, ◌-◌, ◌/◌, ◌%◌, Bool, true, false, nat_lt, if◌then◌else◌, Some, List, length, is_some, refl, sym, ◌∙◌, ap, arith}
use Rattle.std.proofs.lemmas.Bool.Decides.{nat_tests}
use Rattle.std.proofs.lemmas.Bool.{lt-ltb}
use Rattle.stop_laws.proofs.Bytes.{has_block}
use Rattle.tree_definitions.specs.declared.cells.Cell.{Cell}
use Rattle.tree_definitions.specs.declared.node.Node.TheVariants.{File}
use Rattle.tree_definitions.specs.Tree.{FileTree, node_at, small_blocks_of}
use Rattle.disk_definitions.specs.Naming.{Naming, inode_of}
use Rattle.disk_definitions.specs.Store.{Store, StoredNode}
use Rattle.disk_definitions.proofs.Kept.{inode_is}
use Rattle.disk_definitions.specs.Ask.{Sector, BytesAt, LargeAt}
use Rattle.disk_definitions.specs.Meets.{IsOfTree}
use Rattle.disk_definitions.proofs.NodeLaws.{first_is}
use Rattle.line_histories.specs.Files.{file_sector}
use Rattle.line_histories.specs.Parts.{LiesIn}

-- the size of a file in whose sector a part lies
pub size_there : (s : Store) (tree : FileTree) (n : Naming) → IsOfTree s tree n →
    (b t : ℕ) (x : Sector) (lies : LiesIn s tree n b t x) (cells : List Cell) (links when : ℕ) → node_at tree b ≡ Some (File cells links when) →
    lies.stored.size ≡ length cells
size_there s tree n of b t x lies cells links when is =
    let same : Some lies.stored ≡ Some (inode_of (n.stamp b) (n.block b) (n.large b) (File cells links when)) = sym lies.is ∙ inode_is s (node_at tree) n of.pictures b (File cells links when) is in
    let here : lies.stored ≡ inode_of (n.stamp b) (n.block b) (n.large b) (File cells links when) = cc in
    ap (λ z. z.size) here

module _ (s : Store) (tree : FileTree) (n : Naming) (of : IsOfTree s tree n) (b j : ℕ) (cells : List Cell) (links when : ℕ)
    (is : node_at tree b ≡ Some (File cells links when)) (inside : j < length cells) where
  abbrev stored : StoredNode
  stored = inode_of (n.stamp b) (n.block b) (n.large b) (File cells links when)

  lies_at : (x : Sector) → file_sector stored (j / 512) ≡ x → LiesIn s tree n b (j / 512) x
  lies_at x e = record {
    there = ap is_some is;
    stored = stored;
    is = inode_is s (node_at tree) n of.pictures b (File cells links when) is;
    kind = refl;
    below = (let l : j < length cells = inside in omega arith);
    here = e;
  }

  pub small_lies : j < 65536 → LiesIn s tree n b (j / 512) (BytesAt (n.block b (j / 4096)) (j % 4096 / 512))
  small_lies low = lies_at (BytesAt (n.block b (j / 4096)) (j % 4096 / 512)) (go (nat_lt (j / 512) 128) refl)
    where
      go : (c : Bool) → nat_lt (j / 512) 128 ≡ c →
          (if c then BytesAt (stored.small (j / 512 / 8)) (j / 512 % 8) else LargeAt (stored.large - 1) (j / 512 - 128)) ≡ BytesAt (n.block b (j / 4096)) (j % 4096 / 512)
      go true e =
          let block : j / 512 / 8 ≡ j / 4096 = omega arith in
          let part : j / 512 % 8 ≡ j % 4096 / 512 = omega arith in
          rw (block, part) (ap (λ k. BytesAt k (j % 4096 / 512)) (first_is (small_blocks_of (length cells)) (n.block b) (j / 4096) (has_block (length cells) j low inside)))
      go false e = absurd (let high : 128 ≤ j / 512 = grind (arith, nat_tests) in omega arith)

  pub large_lies : 65536 ≤ j → LiesIn s tree n b (j / 512) (LargeAt (n.large b) ((j - 65536) / 512))
  large_lies high = lies_at (LargeAt (n.large b) ((j - 65536) / 512)) (go (nat_lt (j / 512) 128) refl)
    where
      go : (c : Bool) → nat_lt (j / 512) 128 ≡ c →
          (if c then BytesAt (stored.small (j / 512 / 8)) (j / 512 % 8) else LargeAt (stored.large - 1) (j / 512 - 128)) ≡ LargeAt (n.large b) ((j - 65536) / 512)
      go true e = absurd (let low : j / 512 < 128 = grind (arith, nat_tests) in omega arith)
      go false e =
          let more : 65536 < length cells = (let l : j < length cells = inside in omega arith) in
          let large : stored.large ≡ n.large b + 1 = rw (lt-ltb 65536 (length cells) more) refl in
          let block : stored.large - 1 ≡ n.large b = omega arith in
          let part : j / 512 - 128 ≡ (j - 65536) / 512 = omega arith in
          ap (λ k. LargeAt k (j / 512 - 128)) block ∙ ap (LargeAt (n.large b)) part

  -- ---- another store with these inodes, and a naming of it by which the file has the same inode
  module _ (t : Store) (m : Naming) (other : IsOfTree t tree m) (inodes : (i : ℕ) → t.inode i ≡ s.inode i) (agree : m.inode b ≡ n.inode b) where
    stored_same : inode_of (m.stamp b) (m.block b) (m.large b) (File cells links when) ≡ inode_of (n.stamp b) (n.block b) (n.large b) (File cells links when)
    stored_same =
        let e : Some (inode_of (m.stamp b) (m.block b) (m.large b) (File cells links when)) ≡ Some (inode_of (n.stamp b) (n.block b) (n.large b) (File cells links when))
        = sym (inode_is t (node_at tree) m other.pictures b (File cells links when) is) ∙ inodes (m.inode b) ∙ ap s.inode agree ∙ inode_is s (node_at tree) n of.pictures b (File cells links when) is in
        cc

    pub block_same : j < 65536 → m.block b (j / 4096) ≡ n.block b (j / 4096)
    block_same low =
        let l : j / 4096 < small_blocks_of (length cells) = has_block (length cells) j low inside in
        sym (first_is (small_blocks_of (length cells)) (m.block b) (j / 4096) l) ∙ ap (λ x. x.small (j / 4096)) stored_same ∙ first_is (small_blocks_of (length cells)) (n.block b) (j / 4096) l

    pub large_same : 65536 ≤ j → m.large b ≡ n.large b
    large_same high =
        let more : 65536 < length cells = (let l : j < length cells = inside in omega arith) in
        let one : (inode_of (m.stamp b) (m.block b) (m.large b) (File cells links when)).large ≡ m.large b + 1 = rw (lt-ltb 65536 (length cells) more) refl in
        let two : (inode_of (n.stamp b) (n.block b) (n.large b) (File cells links when)).large ≡ n.large b + 1 = rw (lt-ltb 65536 (length cells) more) refl in
        let same : m.large b + 1 ≡ n.large b + 1 = sym one ∙ ap (λ x. x.large) stored_same ∙ two in
        omega arith
