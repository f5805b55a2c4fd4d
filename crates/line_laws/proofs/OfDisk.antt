-- What a disk says that stands for a tree is a store of that tree, and what is at hand of the disk is of that store.
use Rattle.std.proofs.Common.{◌≡◌, ℕ, ◌*◌, ◌/◌, ◌%◌, ◌<◌, ◌≤◌, Bool, true, nat_lt, Option, Some, None, is_some, refl, sym, ◌∙◌, ap, subst, arith}
use Rattle.std.specs.Option.{option_map}
use Rattle.std.proofs.lemmas.Bool.{ltb-true, le-ltb, lt-ltb}
use Rattle.frang_base.specs.declared.bitmap.Bitmap.{Bitmap}
use Rattle.disk_definitions.specs.Bitmaps.{inode_bit, block_state}
use Rattle.tree_definitions.specs.Tree.{FileTree, node_at}
use Rattle.disk_definitions.proofs.Readings.{and_l}
use Rattle.disk_definitions.proofs.ParamLaws.{few_segments}
use Rattle.sector_bytes.specs.Sectors.{Sectors}
use Rattle.disk_definitions.specs.Store.{Store, use_by, store_of, segment_at, bit_in, large_in as large_there}
use Rattle.disk_definitions.specs.Store.Use.{Fresh}
use Rattle.disk_definitions.specs.Naming.{Pictures}
use Rattle.disk_definitions.specs.Held.{Segments, bitmap_of, inode_in, state_in, large_in}
use Rattle.disk_definitions.proofs.PickLaws.{held_there}
use Rattle.disk_definitions.specs.Meets.{IsOfTree, IsHandOf}
use Rattle.disk_definitions.specs.Written.{hand_of, Cached, is_zeroed}
use Rattle.disk_definitions.specs.OnDisk.{AreOfDisk, StandsBelow}

-- what is said of a thing that is there
pub some_is : {X Y : Type 0} (f : X → Y) (o : Option X) (x : X) (y : Y) → o ≡ Some x → option_map f o ≡ Some y → f x ≡ y
some_is f o x y i e = let z : Some (f x) ≡ Some y = sym (ap (option_map f) i) ∙ e in cc

module _ (sectors : Sectors) (tree : FileTree) (below : StandsBelow sectors tree) where
  abbrev segments : ℕ
  segments = tree.segments

  abbrev s : Store
  s = store_of segments sectors

  pub few : segments ≤ 64
  few = subst (λ k. k ≤ 64) (sym below.stands.segments) (few_segments (sectors 0) below.stands.param below.stands.parameters)

  use_past : (k : ℕ) → 1024 * segments ≤ k → s.use_of k ≡ Fresh
  use_past k l = rw (le-ltb k (1024 * segments) l) refl

  pub of_tree : IsOfTree s tree below.stands.naming
  of_tree = record {
    well_formed = below.stands.well_formed;
    few = few;
    pictures = subst (λ k. Pictures (store_of k sectors) (node_at tree) below.stands.naming) (sym below.stands.segments) below.stands.picture;
    root = below.stands.root;
    births = below.stands.births;
    inodes = λ i e. ltb-true i (64 * segments) (and_l (nat_lt i (64 * segments)) (bit_in (segment_at sectors (i / 64)) (i % 64)) e);
    blocks = use_past;
    larges = λ g e. ltb-true g segments (and_l (nat_lt g segments) (large_there (segment_at sectors g)) e);
  }

  module _ (cached : Cached) (held : Segments) (all : Bool) (of : AreOfDisk cached held all segments sectors) (zero_places : (k p : ℕ) → is_zeroed cached k ≡ true → p < 56 → s.place k p ≡ None) where
    -- what a bitmap at hand says, the disk's does
    bit_is : (i : ℕ) (used : Bool) → inode_in held i ≡ Some used → s.bit i ≡ used
    bit_is i used e =
        let x = held_there (λ (x : Bitmap). inode_bit x (i % 64)) (bitmap_of held (i / 64)) used e in
        let h = of.as_held (i / 64) x.0 x.1 in
        let l : i / 64 < segments = h.0 in
        let inside : i < 64 * segments = omega arith in
        rw (lt-ltb i (64 * segments) inside, h.1) (some_is (λ (x : Bitmap). inode_bit x (i % 64)) (bitmap_of held (i / 64)) x.0 used x.1 e)

    use_is : (k state : ℕ) → state_in held k ≡ Some state → s.use_of k ≡ use_by state
    use_is k state e =
        let x = held_there (λ (x : Bitmap). block_state x (k % 1024)) (bitmap_of held (k / 1024)) state e in
        let h = of.as_held (k / 1024) x.0 x.1 in
        let l : k / 1024 < segments = h.0 in
        let inside : k < 1024 * segments = omega arith in
        rw (lt-ltb k (1024 * segments) inside, h.1) (ap use_by (some_is (λ (x : Bitmap). block_state x (k % 1024)) (bitmap_of held (k / 1024)) x.0 state x.1 e))

    large_is : (g : ℕ) (used : Bool) → large_in held g ≡ Some used → s.large_bit g ≡ used
    large_is g used e =
        let x = held_there (λ (x : Bitmap). x.large) (bitmap_of held g) used e in
        let h = of.as_held g x.0 x.1 in
        rw (lt-ltb g segments h.0, h.1) (some_is (λ (x : Bitmap). x.large) (bitmap_of held g) x.0 used x.1 e)

    some_held : (k : ℕ) (o : Option Bitmap) → bitmap_of held k ≡ o → is_some o ≡ true → k < segments
    some_held k None e i = absurd (cc)
    some_held k (Some x) e i = (of.as_held k x e).0

    pub is_hand : IsHandOf (hand_of cached held all) s segments
    is_hand = record {
      within = λ k e. some_held k (bitmap_of held k) refl e;
      all = of.all_held;
      bits = bit_is;
      states = use_is;
      larges = large_is;
      zeroed = λ k p e l. zero_places k p e l;
    }
