-- The tree of a sound disk takes no more of it than there is.
use Rattle.std.proofs.Common.{◌≡◌, ℕ, zero, suc, ◌+◌, ◌-◌, ◌*◌, ◌/◌, ◌%◌, ◌<◌, ◌≤◌, ⊎_elim, Bool, true, false, Option, Some, None, List, is_some, length, min, sum_by, cond, refl, sym, ◌∙◌, ap, subst, arith, nat_lt, ltb-true, ltb-false, lt-ltb, unwrap_or}
use Rattle.std.specs.Option.{option_map}
use Rattle.std.specs.List.{list_all}
use Rattle.std.specs.Map.{lookup, values_of}
use Rattle.std.specs.BTreeMap.{is_at, insert_entry}
use Rattle.std.specs.Ordering.{nat_cmp}
use Rattle.std.specs.Cmp.{nat_cmp_total}
use Rattle.std.proofs.lemmas.Bool.{cases_lt, cond-true, cond-false, both_ways}
use Rattle.std.proofs.lemmas.Nat.{div-mul-add, mod-mul-add}
use Rattle.std.proofs.lemmas.Map.Entries.{sum_by-insert_entry}
use Rattle.tree_definitions.specs.declared.node.Node.{Node}
use Rattle.tree_definitions.specs.declared.node.Node.TheVariants.{File, Link}
use Rattle.tree_definitions.specs.Tree.{node_at, small_blocks, large_blocks, small_blocks_of, large_blocks_of}
use Rattle.frang_base.specs.Name.{is_target_byte}
use Rattle.disk_definitions.specs.Store.{Store, StoredNode, Use, store_of}
use Rattle.disk_definitions.specs.Store.Use.{Fresh}
use Rattle.standing_laws.specs.Below.{all_below}
use Rattle.standing_laws.specs.ReadTree.{byte_at, read_node, with_inode, nodes_to, tree_in}
use Rattle.standing_laws.specs.Soundness.{block_in, block_at, is_used_for, use_agrees, large_in, large_at, is_marked, IsConsistent}
use Rattle.standing_laws.specs.Room.{FitsDisk, SoundFits}
use Rattle.standing_laws.proofs.Bounded.{all_at}
use Rattle.standing_laws.proofs.Counted.{one_if, how_many, at_most, how_same, how_after}
use Rattle.standing_laws.proofs.NodesRead.{births_to, past}
use Rattle.standing_laws.proofs.Shapes.{Shape, OfFile, OfDir, OfLink, disk_shape}
use Rattle.standing_laws.proofs.Pictured.{IsInRange, cells_of, length_cells, read_file, read_dir, read_link, known, at_some, agreed, link_size}
use Rattle.standing_laws.proofs.PicturedBlocks.{in_slot, few}
use Rattle.standing_laws.proofs.SoundStanding.{disk_range}

taken_small : (s : Store) (x : StoredNode) → Shape x → small_blocks (read_node s x) ≡ x.blocks
taken_small s x (OfFile f) = ap small_blocks (read_file s x f.kind) ∙ ap small_blocks_of (length_cells (byte_at s x) x.size) ∙ sym f.blocks
taken_small s x (OfDir f) = ap small_blocks (read_dir s x f.kind)
taken_small s x (OfLink f) = ap small_blocks (read_link s x f.kind) ∙ sym f.blocks

one_large : (x : StoredNode) (b : Bool) → nat_lt 0 x.large ≡ b → one_if (large_in (Some x)) ≡ cond b 1 0
one_large x true e = ap one_if (cond-true (nat_lt 0 x.large) (Some (x.large - 1)) None e)
one_large x false e = ap one_if (cond-false (nat_lt 0 x.large) (Some (x.large - 1)) None e)

taken_large : (s : Store) (x : StoredNode) → Shape x → large_blocks (read_node s x) ≡ one_if (large_in (Some x))
taken_large s x (OfFile f) = ap large_blocks (read_file s x f.kind) ∙ ap large_blocks_of (length_cells (byte_at s x) x.size) ∙ sym (one_large x (nat_lt 65536 x.size) (sym f.has))
taken_large s x (OfDir f) = ap large_blocks (read_dir s x f.kind) ∙ sym (one_large x false (ap (nat_lt 0) f.large))
taken_large s x (OfLink f) = ap large_blocks (read_link s x f.kind) ∙ sym (one_large x false (ap (nat_lt 0) f.large))

-- the blocks of one inode
one_more : (x : StoredNode) (m n : ℕ) → n ≡ min m x.blocks → (b : Bool) → nat_lt m x.blocks ≡ b → n + one_if (cond b (Some (x.small m)) None) ≡ min (suc m) x.blocks
one_more x m n r true e = let l : m < x.blocks = ltb-true m x.blocks e in omega arith
one_more x m n r false e = let l : x.blocks ≤ m = ltb-false m x.blocks e in omega arith

listed_one : (x : StoredNode) (m : ℕ) → how_many (block_in (Some x)) m ≡ min m x.blocks
listed_one x zero = omega arith
listed_one x (suc m) = one_more x m (how_many (block_in (Some x)) m) (listed_one x m) (nat_lt m x.blocks) refl

none_listed : (m : ℕ) → how_many (block_in None) m ≡ 0
none_listed zero = refl
none_listed (suc m) = let r : how_many (block_in None) m ≡ 0 = none_listed m in omega arith

module _ (s : Store) (shapes : (i : ℕ) (x : StoredNode) → s.inode i ≡ Some x → Shape x) where
  -- the blocks of an inode in the row of all
  row : (i : ℕ) → how_many (λ j. block_at s (16 * i + j)) 16 ≡ how_many (block_in (s.inode i)) 16
  row i = how_same (λ j. block_at s (16 * i + j)) (block_in (s.inode i)) 16 (λ j l. (
      let e : 16 * i + j ≡ i * 16 + j = omega arith in
      ap (block_at s) e ∙ ap (λ q. block_in (s.inode q) ((i * 16 + j) % 16)) (div-mul-add i 16 j l) ∙ ap (block_in (s.inode i)) (mod-mul-add i 16 j l)))

  -- one node more in a sum
  more : (f : Node → ℕ) (n : ℕ) (x : StoredNode) → sum_by f (values_of (insert_entry nat_cmp (nodes_to s n) n (read_node s x))) ≡ sum_by f (values_of (nodes_to s n)) + f (read_node s x)
  more f n x =
      let a : sum_by f (values_of (insert_entry nat_cmp (nodes_to s n) n (read_node s x))) + unwrap_or (option_map f (lookup (is_at (nat_cmp n)) (nodes_to s n))) 0 ≡ sum_by f (values_of (nodes_to s n)) + f (read_node s x) = sum_by-insert_entry f nat_cmp_total (nodes_to s n) n (read_node s x) (births_to s n) in
      let b : unwrap_or (option_map f (lookup (is_at (nat_cmp n)) (nodes_to s n))) 0 ≡ 0 = ap (λ o. unwrap_or (option_map f o) 0) (past s n n (omega arith)) in
      omega arith

  smalls : (n : ℕ) → sum_by small_blocks (values_of (nodes_to s n)) ≡ how_many (block_at s) (16 * n)
  smalls zero = refl
  smalls (suc n) =
      let e : 16 * suc n ≡ 16 * n + 16 = omega arith in
      let h : how_many (block_at s) (16 * n + 16) ≡ how_many (block_at s) (16 * n) + how_many (λ j. block_at s (16 * n + j)) 16 = how_after (block_at s) (16 * n) 16 in
      go (smalls n) (s.inode n) refl ∙ sym (ap (how_many (block_at s)) e ∙ h ∙ ap (λ k. how_many (block_at s) (16 * n) + k) (row n))
    where
      go : sum_by small_blocks (values_of (nodes_to s n)) ≡ how_many (block_at s) (16 * n) → (o : Option StoredNode) → s.inode n ≡ o → sum_by small_blocks (values_of (with_inode s (nodes_to s n) n (s.inode n))) ≡ how_many (block_at s) (16 * n) + how_many (block_in (s.inode n)) 16
      go before None e =
          let z : how_many (block_in None) 16 ≡ 0 = none_listed 16 in
          let b : sum_by small_blocks (values_of (nodes_to s n)) ≡ how_many (block_at s) (16 * n) + how_many (block_in None) 16 = omega arith in
          ap (λ o. sum_by small_blocks (values_of (with_inode s (nodes_to s n) n o))) e ∙ b ∙ sym (ap (λ o. how_many (block_at s) (16 * n) + how_many (block_in o) 16) e)
      go before (Some x) e =
          let z : how_many (block_in (Some x)) 16 ≡ min 16 x.blocks = listed_one x 16 in
          let w : x.blocks ≤ 16 = few x (shapes n x e) in
          let k : small_blocks (read_node s x) ≡ x.blocks = taken_small s x (shapes n x e) in
          let m : sum_by small_blocks (values_of (insert_entry nat_cmp (nodes_to s n) n (read_node s x))) ≡ sum_by small_blocks (values_of (nodes_to s n)) + small_blocks (read_node s x) = more small_blocks n x in
          let b : sum_by small_blocks (values_of (insert_entry nat_cmp (nodes_to s n) n (read_node s x))) ≡ how_many (block_at s) (16 * n) + how_many (block_in (Some x)) 16 = omega arith in
          ap (λ o. sum_by small_blocks (values_of (with_inode s (nodes_to s n) n o))) e ∙ b ∙ sym (ap (λ o. how_many (block_at s) (16 * n) + how_many (block_in o) 16) e)

  larges : (n : ℕ) → sum_by large_blocks (values_of (nodes_to s n)) ≡ how_many (large_at s) n
  larges zero = refl
  larges (suc n) = go (larges n) (s.inode n) refl
    where
      go : sum_by large_blocks (values_of (nodes_to s n)) ≡ how_many (large_at s) n → (o : Option StoredNode) → s.inode n ≡ o → sum_by large_blocks (values_of (with_inode s (nodes_to s n) n (s.inode n))) ≡ how_many (large_at s) n + one_if (large_in (s.inode n))
      go before None e = ap (λ o. sum_by large_blocks (values_of (with_inode s (nodes_to s n) n o))) e ∙ (let b : sum_by large_blocks (values_of (nodes_to s n)) ≡ how_many (large_at s) n + 0 = omega arith in b) ∙ sym (ap (λ o. how_many (large_at s) n + one_if (large_in o)) e)
      go before (Some x) e =
          let k : large_blocks (read_node s x) ≡ one_if (large_in (Some x)) = taken_large s x (shapes n x e) in
          let m : sum_by large_blocks (values_of (insert_entry nat_cmp (nodes_to s n) n (read_node s x))) ≡ sum_by large_blocks (values_of (nodes_to s n)) + large_blocks (read_node s x) = more large_blocks n x in
          let b : sum_by large_blocks (values_of (insert_entry nat_cmp (nodes_to s n) n (read_node s x))) ≡ how_many (large_at s) n + one_if (large_in (Some x)) = omega arith in
          ap (λ o. sum_by large_blocks (values_of (with_inode s (nodes_to s n) n o))) e ∙ b ∙ sym (ap (λ o. how_many (large_at s) n + one_if (large_in o)) e)

-- a fresh block is used for nothing
never_fresh : (kind : ℕ) (u : Use) → is_used_for kind u ≡ true → u ≡ Fresh → ⊥
never_fresh kind u h e = let z : is_used_for kind Fresh ≡ true = sym (ap (is_used_for kind) e) ∙ h in cc

-- what is listed lies below the segments, where uses and marks agree
module _ (segments : ℕ) (s : Store) (range : IsInRange segments s) where
  pub small_below : all_below (1024 * segments) (λ t. use_agrees s (s.inode (t / 16)) (t % 16)) ≡ true → (t k : ℕ) → t < 1024 * segments → block_at s t ≡ Some k → k < 1024 * segments
  small_below uses t k l e = ⊎_elim (λ w. w)
      (λ w. (let a = in_slot (s.inode (t / 16)) (t % 16) k e in
      let h : use_agrees s (s.inode (t / 16)) (t % 16) ≡ true = all_at (1024 * segments) (λ t. use_agrees s (s.inode (t / 16)) (t % 16)) uses t l in
      let g : use_agrees s (Some a.0) (t % 16) ≡ true = sym (ap (λ o. use_agrees s o (t % 16)) a.1) ∙ h in
      let u : is_used_for a.0.kind (s.use_of (a.0.small (t % 16))) ≡ true = sym (cond-true (nat_lt (t % 16) a.0.blocks) (is_used_for a.0.kind (s.use_of (a.0.small (t % 16)))) true (lt-ltb (t % 16) a.0.blocks a.2)) ∙ g in
      absurd (never_fresh a.0.kind (s.use_of (a.0.small (t % 16))) u (ap s.use_of a.3 ∙ range.uses k w)))) (cases_lt k (1024 * segments))

  pub large_below : all_below (64 * segments) (λ i. is_marked s (large_at s i)) ≡ true → (i g : ℕ) → i < 64 * segments → large_at s i ≡ Some g → g < segments
  large_below marked i g l e = ⊎_elim (λ w. w)
      (λ w. absurd (let h : is_marked s (large_at s i) ≡ true = all_at (64 * segments) (λ i. is_marked s (large_at s i)) marked i l in
      let b : s.large_bit g ≡ true = sym (ap (is_marked s) e) ∙ h in both_ways (s.large_bit g) (range.larges g w) b)) (cases_lt g segments)

module _ (segments : ℕ) (s : Store) (range : IsInRange segments s) (shapes : (i : ℕ) (x : StoredNode) → s.inode i ≡ Some x → Shape x) (c : IsConsistent segments s) where
  target_fits : (b : ℕ) (target : List ℕ) (links : ℕ) → node_at (tree_in segments s) b ≡ Some (Link target links) → (1 ≤ length target) × (length target ≤ 384) × (list_all is_target_byte target ≡ true)
  target_fits b target links h =
      let k = known segments s range shapes c b (ap is_some h) in
      shaped k.0 k.1 (shapes b k.0 k.1)
    where
      shaped : (x : StoredNode) → s.inode b ≡ Some x → Shape x → (1 ≤ length target) × (length target ≤ 384) × (list_all is_target_byte target ≡ true)
      shaped x e (OfFile f) = absurd (let z : Some (File (cells_of s x) x.links x.when) ≡ Some (Link target links) = sym (at_some segments s range shapes c b x e ∙ ap (λ y. Some y) (read_file s x f.kind)) ∙ h in cc)
      shaped x e (OfDir f) = absurd (let z = sym (at_some segments s range shapes c b x e ∙ ap (λ y. Some y) (read_dir s x f.kind)) ∙ h in cc)
      shaped x e (OfLink f) =
          let z : Some (Link x.target x.links) ≡ Some (Link target links) = sym (at_some segments s range shapes c b x e ∙ ap (λ y. Some y) (read_link s x f.kind)) ∙ h in
          let t : x.target ≡ target = cc in
          let l : length target ≡ x.size = ap length (sym t) ∙ link_size segments s range shapes c x f.kind (agreed segments s range shapes c b x e) in
          let p : 1 ≤ x.size = f.size.0 in
          let q : x.size ≤ 384 = f.size.1 in
          (omega arith, omega arith, ap (list_all is_target_byte) (sym t) ∙ f.bytes)

  pub fits_disk : FitsDisk (tree_in segments s)
  fits_disk = record {
    small = (
        let e : 16 * (64 * segments) ≡ 1024 * segments = omega arith in
        let a : how_many (block_at s) (1024 * segments) ≤ 1024 * segments = at_most (block_at s) (1024 * segments) (1024 * segments) c.once (small_below segments s range c.uses) in
        subst (λ n. n ≤ 1024 * segments) (sym (smalls s shapes (64 * segments) ∙ ap (how_many (block_at s)) e)) a);
    large = subst (λ n. n ≤ segments) (sym (larges s shapes (64 * segments))) (at_most (large_at s) (64 * segments) segments c.large_once (large_below segments s range c.large_marked));
    targets = target_fits;
  }

pub sound_fits : SoundFits
sound_fits most segments sectors h = fits_disk segments (store_of segments sectors) (disk_range segments sectors) (disk_shape segments sectors) h.consistent
