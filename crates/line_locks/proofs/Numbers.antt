-- The numbers of the sectors at which a line looked tell the nodes at whose inodes it looked, those of file bytes left out or not.
use Rattle.std.proofs.Common.{◌≡◌, ℕ, ◌≤◌, ◌<◌, ◌+◌, ◌*◌, Bool, true, false, cond, Option, Some, None, List, [], ◌∷◌, ◌++◌, filter, fold, map, refl, sym, ◌∙◌, ap, subst, arith}
use Rattle.std.proofs.lemmas.List.{append-nil, append_assoc}
use Rattle.std.specs.List.{Contains}
use Rattle.std.proofs.lemmas.Bool.{ltb-true, lt-ltb}
use Rattle.frang_base.specs.declared.bitmap.Bitmap.{Bitmap}
use Rattle.frang_base.specs.declared.op.Op.{Op}
use Rattle.frang_base.specs.declared.op.Op.TheVariants as op
use Rattle.tree_definitions.specs.Tree.{FileTree}
use Rattle.sector_bytes.specs.Sectors.{Sectors}
use Rattle.disk_definitions.specs.Store.{store_of}
use Rattle.disk_definitions.specs.declared.region.Region.{Region}
use Rattle.disk_definitions.specs.declared.region.Region.TheVariants as region
use Rattle.disk_definitions.specs.Regions.{bitmaps_from, inodes_from, region_of, small_blocks_from, large_blocks_from, large_stride}
use Rattle.disk_definitions.proofs.RegionLaws.{region_found, region_read}
use Rattle.disk_definitions.specs.Held.{Segments, bitmap_of}
use Rattle.disk_definitions.specs.Ask.{Sector, InodeAt, DirectoryAt, SegmentAt, BytesAt, LargeAt, Ask, looks, number_of}
use Rattle.disk_definitions.specs.Missing.{is_at_hand}
use Rattle.disk_definitions.specs.OnDisk.{AreOfDisk, StandsBelow}
use Rattle.disk_definitions.specs.Plans.{Plan}
use Rattle.disk_definitions.specs.Written.{Cached, at_hand, hand_of, is_held}
use Rattle.plan_laws.proofs.Covering.{has_head, has_more}
use Rattle.plan_laws.specs.Inside.{AreInside}
use Rattle.line_laws.proofs.Edited.{hand}
use Rattle.line_laws.proofs.OfDisk.{of_tree}
use Rattle.disk_definitions.specs.Traces.{has_version, traced}
use Rattle.plan_laws.proofs.Traces.{traced_is_at_hand}
use Rattle.disk_definitions.specs.Lines.{plan_of_line}
use Rattle.line_laws.proofs.Inside.{lines_inside}
use Rattle.line_laws.proofs.TraceLines.{follows_disk}
use Rattle.line_laws.proofs.TraceLooked.{inside_first}
use Rattle.disk_definitions.specs.LookedAt.{nodes_in, nodes_of, with_node, with_node_in}
use Rattle.line_locks.specs.Lines.{NumbersTellNodes}

-- a sector that isn't among the inodes is that of none
not_inode : (segments number : ℕ) → segments ≤ 64 → ((i : ℕ) → i < 64 * segments → inodes_from + i ≡ number → ⊥) → (nodes : List ℕ) → with_node segments nodes number ≡ nodes
not_inode segments number few none nodes = go (region_of segments number) refl
  where
    go : (o : Option Region) → region_of segments number ≡ o → with_node_in nodes o ≡ nodes
    go None e = refl
    go (Some region.Param) e = refl
    go (Some (region.Log server slot)) e = refl
    go (Some (region.Segment k)) e = refl
    go (Some (region.Inode i)) e =
        let p = region_read segments number (region.Inode i) e in
        absurd (none i (ltb-true i (64 * segments) p.1) p.0)
    go (Some (region.Small block part)) e = refl
    go (Some (region.Large block part)) e = refl

module _ (segments : ℕ) (few : segments ≤ 64) where
  an_inode : (i : ℕ) → i < 64 * segments → (nodes : List ℕ) → with_node segments nodes (number_of (InodeAt i)) ≡ nodes ++ i ∷ []
  an_inode i l nodes = ap (with_node_in nodes) (region_found segments (region.Inode i) few (lt-ltb i (64 * segments) l))

  a_segment : (k : ℕ) → k < segments → (nodes : List ℕ) → with_node segments nodes (number_of (SegmentAt k)) ≡ nodes
  a_segment k l nodes = not_inode segments (number_of (SegmentAt k)) few (λ i m e. (let z : 10737418240 + i ≡ 4294967296 + k = e in omega arith)) nodes

  a_small : (block part : ℕ) (nodes : List ℕ) → with_node segments nodes (number_of (BytesAt block part)) ≡ nodes
  a_small block part nodes = not_inode segments (number_of (BytesAt block part)) few (λ i m e. (let z : 10737418240 + i ≡ 12884901888 + block * 8 + part = e in omega arith)) nodes

  a_large : (large part : ℕ) (nodes : List ℕ) → with_node segments nodes (number_of (LargeAt large part)) ≡ nodes
  a_large large part nodes = not_inode segments (number_of (LargeAt large part)) few (λ i m e. (let z : 10737418240 + i ≡ 287762808832 + large * 2147483648 + part = e in omega arith)) nodes

  -- each segment among the sectors is one of the disk
  abbrev AreHeld : List Sector → Type 0
  AreHeld xs = (k : ℕ) → Contains xs (SegmentAt k) → k < segments

  fewer_held : (x : Sector) (xs : List Sector) → AreHeld (x ∷ xs) → AreHeld xs
  fewer_held x xs f k c = f k (has_more x (SegmentAt k) xs c)

  abbrev all : List ℕ → List Sector → List ℕ
  all nodes xs = fold (with_node segments) nodes (map number_of xs)

  one_more : (i : ℕ) (nodes rest : List ℕ) → (nodes ++ i ∷ []) ++ rest ≡ nodes ++ i ∷ rest
  one_more i nodes rest = append_assoc nodes (i ∷ []) rest

  pub all_tell : (xs : List Sector) (nodes : List ℕ) → AreInside segments xs → AreHeld xs → all nodes xs ≡ nodes ++ nodes_of xs
  all_tell [] nodes a f = sym (append-nil nodes)
  all_tell (InodeAt i ∷ xs) nodes a f = ap (λ l. all l xs) (an_inode i a.0 nodes) ∙ all_tell xs (nodes ++ i ∷ []) a.1 (fewer_held (InodeAt i) xs f) ∙ one_more i nodes (nodes_of xs)
  all_tell (DirectoryAt block part ∷ xs) nodes a f = ap (λ l. all l xs) (a_small block part nodes) ∙ all_tell xs nodes a.1 (fewer_held (DirectoryAt block part) xs f)
  all_tell (SegmentAt k ∷ xs) nodes a f = ap (λ l. all l xs) (a_segment k (f k (has_head (SegmentAt k) xs)) nodes) ∙ all_tell xs nodes a.1 (fewer_held (SegmentAt k) xs f)
  all_tell (BytesAt block part ∷ xs) nodes a f = ap (λ l. all l xs) (a_small block part nodes) ∙ all_tell xs nodes a.1 (fewer_held (BytesAt block part) xs f)
  all_tell (LargeAt large part ∷ xs) nodes a f = ap (λ l. all l xs) (a_large large part nodes) ∙ all_tell xs nodes a.1 (fewer_held (LargeAt large part) xs f)

  pub versioned_tell : (xs : List Sector) (nodes : List ℕ) → AreInside segments xs → AreHeld xs → all nodes (filter has_version xs) ≡ nodes ++ nodes_of xs
  versioned_tell [] nodes a f = sym (append-nil nodes)
  versioned_tell (InodeAt i ∷ xs) nodes a f =
      ap (λ l. all l (filter has_version xs)) (an_inode i a.0 nodes) ∙ versioned_tell xs (nodes ++ i ∷ []) a.1 (fewer_held (InodeAt i) xs f) ∙ one_more i nodes (nodes_of xs)
  versioned_tell (DirectoryAt block part ∷ xs) nodes a f = ap (λ l. all l (filter has_version xs)) (a_small block part nodes) ∙ versioned_tell xs nodes a.1 (fewer_held (DirectoryAt block part) xs f)
  versioned_tell (SegmentAt k ∷ xs) nodes a f = ap (λ l. all l (filter has_version xs)) (a_segment k (f k (has_head (SegmentAt k) xs)) nodes) ∙ versioned_tell xs nodes a.1 (fewer_held (SegmentAt k) xs f)
  versioned_tell (BytesAt block part ∷ xs) nodes a f = versioned_tell xs nodes a.1 (fewer_held (BytesAt block part) xs f)
  versioned_tell (LargeAt large part ∷ xs) nodes a f = versioned_tell xs nodes a.1 (fewer_held (LargeAt large part) xs f)

held_there : (held : Segments) (k : ℕ) → is_held held k ≡ true → (bitmap : Bitmap) × (bitmap_of held k ≡ Some bitmap)
held_there held k e = go (bitmap_of held k) refl
  where
    go : (o : Option Bitmap) → bitmap_of held k ≡ o → (bitmap : Bitmap) × (bitmap_of held k ≡ Some bitmap)
    go None f = absurd (let z : is_held held k ≡ false = rw f refl in cc)
    go (Some bitmap) f = (bitmap, f)

pub numbers_tell : NumbersTellNodes
numbers_tell o cached held all sectors tree birth when of below =
    let p = plan_of_line (hand_of cached held all) birth when o in
    let xs = (traced p (at_hand cached held)).looked in
    let s = store_of tree.segments sectors in
    let is_of = of_tree sectors tree below in
    let is_hand = hand op.Sync cached held all sectors tree birth when of below in
    let few = is_of.few in
    let inside = subst (AreInside tree.segments) (sym (follows_disk o cached held all sectors tree birth when of below))
    (inside_first tree.segments (is_at_hand (at_hand cached held)) (looks p s) (lines_inside o (hand_of cached held all) s tree below.stands.naming birth when is_of is_hand)) in
    let segments : (k : ℕ) → Contains xs (SegmentAt k) → k < tree.segments = λ k c. (let b = held_there held k ((traced_is_at_hand p (at_hand cached held) (SegmentAt k)).0 c) in (of.as_held k b.0 b.1).0) in
    (all_tell tree.segments few xs [] inside segments, versioned_tell tree.segments few xs [] inside segments)
