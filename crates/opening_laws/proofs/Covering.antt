-- Covers, kinds, free and written sectors of an opening are as its sectors with versions say.
use Rattle.std.proofs.Common.{ℕ, ◌≡◌, ◌<◌, ◌*◌, Bool, true, false, not, if◌then◌else◌, Option, Some, None, [], is_some, refl, sym, ◌∙◌, ap}
use Rattle.std.specs.Option.{unwrap_or}
use Rattle.frang_base.specs.declared.lock.LockId.{LockId}
use Rattle.tree_definitions.specs.History.{Opening}
use Rattle.tree_definitions.specs.Touched.{shape_of}
use Rattle.tree_definitions.specs.Tree.{node_at}
use Rattle.sector_bytes.specs.Blocks.{Block}
use Rattle.sector_bytes.specs.Sectors.{Sectors}
use Rattle.sector_world.specs.HistoryBytes.{is_free}
use Rattle.disk_definitions.specs.declared.region.Region.TheVariants as region
use Rattle.disk_definitions.specs.Ask.{BytesAt, DirectoryAt, InodeAt, LargeAt, Sector, SegmentAt, number_of}
use Rattle.disk_definitions.specs.Covers.{cover_of}
use Rattle.disk_definitions.specs.Meets.{is_directory_use}
use Rattle.disk_definitions.specs.Moves.{moved_by}
use Rattle.disk_definitions.specs.Naming.{Naming, Nodes, Pictures}
use Rattle.disk_definitions.specs.Numbered.{sector_at, sector_in}
use Rattle.disk_definitions.specs.Store.{Store}
use Rattle.disk_definitions.specs.Store.Use.{Bytes}
use Rattle.disk_definitions.proofs.RegionLaws.{region_found}
use Rattle.plan_fit.proofs.Kept.{in_large, in_small}
use Rattle.plan_laws.specs.Moves.{AreTidy}
use Rattle.plan_laws.proofs.Moving.{covers_move}
use Rattle.line_histories.specs.Following.{CoversFollow, FilledFollow, Follows, FreeFollow, IsUnused, KindsFollow, is_versioned}
use Rattle.line_histories.specs.LinePlans.{store_on}
use Rattle.line_histories.proofs.Filled.{IsInUse, file_in_use}
use Rattle.stop_laws.specs.FreshDisks.{is_versioned_at}
use Rattle.headline_definitions.specs.Beginning.{IsOpening}
use Rattle.opening_laws.specs.FirstDisks.{cover_in, is_for_bytes, is_of_file, opened_files, opened_home}
use Rattle.opening_laws.proofs.Masked.{few, in_segments, logged, masked, named, naming, segments, stands_for_shape, tree}

-- ---- by whatever naming each sector is under one lock

nothing_edited : (s : Store) → AreTidy s s []
nothing_edited s = record {
  bits = λ i. refl;
  uses = λ k. refl;
  larges = λ g. refl;
  keeps = λ i k has none. has;
  gains = λ k u some used. absurd (let z : None ≡ Some u = some in cc);
  keeps_large = λ i g has none. has;
  gains_large = λ g some. absurd (let z : None ≡ Some true = some in cc);
}

pub one_cover : (s : Store) (at to : Nodes) (n m : Naming) → Pictures s at n → Pictures s to m → (x : Sector) → cover_of n x ≡ cover_of m x
one_cover s at to n m g h x = sym (covers_move s s at to n m [] g h (nothing_edited s) x ∙ unmoved x)
  where
    unmoved : (x : Sector) → unwrap_or (moved_by [] x) (cover_of n x) ≡ cover_of n x
    unmoved (InodeAt i) = refl
    unmoved (SegmentAt k) = refl
    unmoved (DirectoryAt k p) = refl
    unmoved (BytesAt k p) = refl
    unmoved (LargeAt g p) = refl

module _ (opening : Opening) (disk : Sectors) (is : IsOpening opening disk) where
  abbrev count : ℕ
  count = segments opening disk is

  abbrev opened : Sectors
  opened = masked opening disk is

  abbrev before : Store
  before = store_on count disk

  abbrev after : Store
  after = store_on count opened

  abbrev pub home : ℕ → LockId
  home = opened_home count (naming opening disk is)

  abbrev files : ℕ → Bool
  files = opened_files count disk

  abbrev has : ℕ → Bool
  has = logged opening disk is

  abbrev pub first : ℕ → Option Block
  first s = if has s then None else (if files s then Some (disk s) else None)

  uses : (k : ℕ) → after.use_of k ≡ before.use_of k
  uses k = (in_segments opening disk is).uses k

  larges : (g : ℕ) → after.large_bit g ≡ before.large_bit g
  larges g = (in_segments opening disk is).large_bits g

  -- ---- covers
  covers : CoversFollow count opened home []
  covers other_tree other of number x at =
      ap (cover_in (naming opening disk is)) at
      ∙ one_cover after (node_at (shape_of (tree opening disk is))) (node_at other_tree) (naming opening disk is) other (named opening disk is).pictures of.pictures x

  -- ---- kinds
  versioned : (x : Sector) → is_versioned before x ≡ is_versioned after x
  versioned (InodeAt i) = refl
  versioned (SegmentAt k) = refl
  versioned (DirectoryAt k p) = ap is_directory_use (sym (uses k))
  versioned (BytesAt k p) = ap is_directory_use (sym (uses k))
  versioned (LargeAt g p) = refl

  kinds : KindsFollow count opened has []
  kinds number x at = ap (is_versioned_at before) at ∙ versioned x

  -- ---- free sectors
  no_file : (x : Sector) → IsUnused after x → is_of_file before (Some x) ≡ false
  no_file (InodeAt i) unused = refl
  no_file (SegmentAt k) unused = refl
  no_file (DirectoryAt k p) unused = ap is_for_bytes (sym (uses k) ∙ unused)
  no_file (BytesAt k p) unused = absurd unused
  no_file (LargeAt g p) unused = sym (larges g) ∙ unused

  none_first : (s : ℕ) → files s ≡ false → first s ≡ None
  none_first s none = go (has s) (files s) none
    where
      go : (t u : Bool) → u ≡ false → (if t then None else (if u then Some (disk s) else None)) ≡ None
      go true u e = refl
      go false u e = ap (λ (v : Bool). if v then Some (disk s) else None) e

  free : FreeFollow count opened first []
  free number x at unused = ap (λ o. not (is_some o)) (none_first number (ap (is_of_file before) at ∙ no_file x unused))

  -- ---- written ones
  pub there_first : (s : ℕ) → has s ≡ false → files s ≡ true → first s ≡ Some (disk s)
  there_first s plain file = ap (λ (t : Bool). if t then None else (if files s then Some (disk s) else None)) plain ∙ ap (λ (t : Bool). if t then Some (disk s) else None) file

  -- of a block in use for bytes
  pub small_first : (k p : ℕ) → k < 1024 * count → p < 8 → before.use_of k ≡ Bytes →
      (has (number_of (BytesAt k p)) ≡ false) × (first (number_of (BytesAt k p)) ≡ Some (disk (number_of (BytesAt k p))))
  small_first k p l lp used =
      let s = number_of (BytesAt k p) in
      let at : sector_at count s ≡ Some (DirectoryAt k p) = ap sector_in (region_found count (region.Small k p) (few opening disk is) (in_small count k p l lp)) in
      let plain : has s ≡ false = ap (is_versioned_at before) at ∙ ap is_directory_use used in
      (plain, there_first s plain (ap (is_of_file before) at ∙ ap is_for_bytes used))

  pub large_first : (g p : ℕ) → g < count → p < 2048 → before.large_bit g ≡ true →
      (has (number_of (LargeAt g p)) ≡ false) × (first (number_of (LargeAt g p)) ≡ Some (disk (number_of (LargeAt g p))))
  large_first g p l lp bit =
      let s = number_of (LargeAt g p) in
      let at : sector_at count s ≡ Some (LargeAt g p) = ap sector_in (region_found count (region.Large g p) (few opening disk is) (in_large count g p l lp)) in
      let plain : has s ≡ false = ap (is_versioned_at before) at in
      (plain, there_first s plain (ap (is_of_file before) at ∙ bit))

  in_first : (x : Sector) → IsInUse count after x → is_free first [] (number_of x) ≡ false
  in_first (BytesAt k p) used = ap (λ o. not (is_some o)) (small_first k p used.1 used.2 (sym (uses k) ∙ used.0)).1
  in_first (LargeAt g p) used = ap (λ o. not (is_some o)) (large_first g p used.1 used.2 (sym (larges g) ∙ used.0)).1
  in_first (InodeAt i) used = absurd used
  in_first (SegmentAt k) used = absurd used
  in_first (DirectoryAt k p) used = absurd used

  filled : FilledFollow count opened first []
  filled x holds = in_first x (file_in_use count opened (tree opening disk is) (stands_for_shape opening disk is) x holds)

  pub follows : Follows count opened home has first []
  follows = record { covers = covers; kinds = kinds; free = free; filled = filled }
