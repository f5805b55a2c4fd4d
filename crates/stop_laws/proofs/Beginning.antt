-- A fresh disk meets the premises of the laws of histories.
use Rattle.std.proofs.Common.{ℕ, ◌≡◌, ◌≢◌, ◌≤◌, ◌<◌, ◌+◌, ◌*◌, ◌/◌, Bool, true, false, not, if◌then◌else◌, Option, Some, None, is_some, List, [], length, refl, sym, ◌∙◌, ap, subst, arith, ltb-true}
use Rattle.std.proofs.Math.Path.{fun_ext}
use Rattle.std.specs.Option.{option_and_then, unwrap_or}
use Rattle.std.proofs.lemmas.Bool.{ne_eqb, lt-ltb}
use Rattle.frang_base.specs.declared.lock.LockId.{LockId}
use Rattle.frang_base.specs.declared.lock.LockId.TheVariants as lock
use Rattle.tree_definitions.specs.Tree.{FileTree, fresh, node_at}
use Rattle.tree_laws.proofs.FreshLaws.{fresh_well}
use Rattle.tree_definitions.proofs.Births.{each_but}
use Rattle.sector_bytes.specs.Blocks.{Block, zero_block}
use Rattle.disk_definitions.specs.declared.param.Param.{Param}
use Rattle.disk_definitions.specs.declared.region.Region.{Region}
use Rattle.disk_definitions.specs.declared.region.Region.TheVariants as region
use Rattle.disk_definitions.specs.Regions.{sector_of, region_of, free_cover, bitmaps_from, inodes_from}
use Rattle.disk_definitions.proofs.RegionLaws.{region_found, region_read}
use Rattle.sector_world.specs.World.{World}
use Rattle.disk_definitions.specs.Naming.{Naming}
use Rattle.disk_definitions.specs.Standing.{HasVersionsUpTo}
use Rattle.disk_definitions.specs.Store.{Store, StoredNode, is_unused}
use Rattle.disk_definitions.proofs.Free.{no_owner, no_large_owner}
use Rattle.disk_definitions.specs.Ask.{Sector, InodeAt, DirectoryAt, SegmentAt, LargeAt}
use Rattle.disk_definitions.specs.Meets.{IsOfTree, is_directory_use}
use Rattle.disk_definitions.specs.OnDisk.{StandsBelow}
use Rattle.disk_definitions.specs.Covers.{cover_of, inode_cover, small_cover, large_cover}
use Rattle.disk_definitions.specs.Numbered.{sector_in}
use Rattle.disk_definitions.specs.FreshDisk.{fresh_param, fresh_disk}
use Rattle.code_plan_laws.proofs.Blocks.{param_reads}
use Rattle.code_plan_laws.proofs.Sectors.{elsewhere}
use Rattle.code_plan_laws.proofs.FreshStanding.{versions, fresh_stands}
use Rattle.code_plan_laws.proofs.Stored.{either_way, root, root_node, no_node, uses, large_bits, bits, not_born}
use Rattle.line_histories.specs.Following.{store_after, is_versioned, CoversFollow, FreeFollow, FilledFollow, Follows}
use Rattle.line_histories.specs.Standing.{HasZeros, StandsNumbered}
use Rattle.stop_laws.specs.Beginning.{has_version_at_first, AreFresh, FreshFollows, fresh_world, Begins, FreshWorldsBegin}

-- ---- it stands for the root alone, with versions left for numbers

module _ (segments : ℕ) (some : 1 ≤ segments) (few : segments ≤ 64) where
  clear : HasZeros segments (fresh_disk segments)
  clear k p lk lp none = elsewhere segments (sector_of (region.Small k p)) (λ e. absurd (omega arith)) (λ e. absurd (omega arith)) (λ e. absurd (omega arith))

  abbrev below : StandsBelow (fresh_disk segments) (fresh segments)
  below = fresh_stands segments some few

  param_is : below.stands.param ≡ fresh_param segments
  param_is = let e : Some below.stands.param ≡ Some (fresh_param segments) = sym below.stands.parameters ∙ param_reads segments some few in cc

  room : (k : ℕ) → k < 131072 → k < 131072 * below.stands.param.run
  room k l = subst (λ (p : Param). k < 131072 * p.run) (sym param_is) l

  pub fresh_begins : (numbers : List ℕ) → 1 + length numbers < 131072 → StandsNumbered segments (fresh_disk segments) (record { tree = fresh segments; numbers = numbers })
  fresh_begins numbers enough = record {
    stands = record {
      well_formed = fresh_well segments;
      as_many = refl;
      below = record {
        stands = below.stands;
        most = 1;
        below = room 1 (omega arith);
        versions = subst (λ (p : Param). HasVersionsUpTo 1 p.segments (fresh_disk segments)) (sym param_is) (versions segments some few 1 (omega arith));
        whole = below.whole;
      };
      zeros = clear;
    };
    enough = room (1 + length numbers) enough;
  }

-- ---- covers, kinds, free sectors and written ones

born_there : (o : Option ℕ) (inode : ℕ) → is_some o ≡ true → inode_cover inode o ≡ lock.Node inode
born_there (Some b) inode e = refl
born_there None inode e = absurd (cc)

nobody_there : (o : Option ℕ) (inode : ℕ) → is_some o ≡ false → inode_cover inode o ≡ lock.Segment (inode / 64)
nobody_there None inode e = refl
nobody_there (Some b) inode e = absurd (cc)

module _ (segments : ℕ) (home : ℕ → LockId) (logged : ℕ → Bool) (first : ℕ → Option Block) (some : 1 ≤ segments) (few : segments ≤ 64)
    (at_first : AreFresh segments home logged first) where
  abbrev store : Store
  store = store_after segments (fresh_disk segments) []

  -- all but the root's inode are under the lock that keeps their bit
  free_home : (number : ℕ) (r : Region) (l : LockId) → region_of segments number ≡ Some r → number ≢ inodes_from → free_cover r ≡ Some l → home number ≡ l
  free_home number r l q far c =
      at_first.covers number l
      (ap (λ (t : Bool). if t then Some (lock.Node 0) else option_and_then free_cover (region_of segments number)) (ne_eqb number inodes_from far) ∙ ap (option_and_then free_cover) q ∙ c)

  root_home : home inodes_from ≡ lock.Node 0
  root_home = at_first.covers inodes_from (lock.Node 0) refl

  module _ (tree : FileTree) (naming : Naming) (of : IsOfTree store tree naming) where
    inode_home : (i number : ℕ) → region_of segments number ≡ Some (region.Inode i) → inodes_from + i ≡ number → home number ≡ inode_cover i (naming.birth i)
    inode_home i number q here =
        each_but (λ i. region_of segments number ≡ Some (region.Inode i) → inodes_from + i ≡ number → home number ≡ inode_cover i (naming.birth i)) 0 root_there other i q here
      where
        root_there : region_of segments number ≡ Some (region.Inode 0) → inodes_from + 0 ≡ number → home number ≡ inode_cover 0 (naming.birth 0)
        root_there q here =
            let same : number ≡ inodes_from = omega arith in
            ap home same ∙ root_home ∙ sym (born_there (naming.birth 0) 0 (sym (of.pictures.bits 0) ∙ bits segments some few 0))

        other : (i : ℕ) → i ≢ 0 → region_of segments number ≡ Some (region.Inode i) → inodes_from + i ≡ number → home number ≡ inode_cover i (naming.birth i)
        other i far q here =
            free_home number (region.Inode i) (lock.Segment (i / 64)) q (λ e. far (omega arith)) refl
            ∙ sym (nobody_there (naming.birth i) i (sym (of.pictures.bits i) ∙ bits segments some few i ∙ ap is_some (not_born i far)))

    covers_at : (number : ℕ) (sector : Sector) (o : Option Region) → region_of segments number ≡ o → sector_in o ≡ Some sector → home number ≡ cover_of naming sector
    covers_at number sector None q e = absurd (cc)
    covers_at number sector (Some region.Param) q e = absurd (cc)
    covers_at number sector (Some (region.Log server slot)) q e = absurd (cc)
    covers_at number sector (Some (region.Segment k)) q e =
        let same : SegmentAt k ≡ sector = cc in
        let here = region_read segments number (region.Segment k) q in
        let low : k < segments = ltb-true k segments here.1 in
        free_home number (region.Segment k) (lock.Segment k) q (λ z. absurd (omega arith)) refl ∙ ap (cover_of naming) same
    covers_at number sector (Some (region.Inode i)) q e =
        let same : InodeAt i ≡ sector = cc in
        inode_home i number q (region_read segments number (region.Inode i) q).0 ∙ ap (cover_of naming) same
    covers_at number sector (Some (region.Small k p)) q e =
        let same : DirectoryAt k p ≡ sector = cc in
        let here = (region_read segments number (region.Small k p) q).0 in
        free_home number (region.Small k p) (lock.Segment (k / 1024)) q (λ z. absurd (omega arith)) refl
        ∙ sym (ap (small_cover naming k) (no_owner store (node_at tree) naming of.pictures k (ap is_unused (uses segments some few k)))) ∙ ap (cover_of naming) same
    covers_at number sector (Some (region.Large g p)) q e =
        let same : LargeAt g p ≡ sector = cc in
        let here = (region_read segments number (region.Large g p) q).0 in
        free_home number (region.Large g p) (lock.Segment g) q (λ z. absurd (omega arith)) refl
        ∙ sym (ap (large_cover naming g) (no_large_owner store (node_at tree) naming of.pictures g (large_bits segments some few g))) ∙ ap (cover_of naming) same

  covers : CoversFollow segments (fresh_disk segments) home []
  covers tree naming of number sector at = covers_at tree naming of number sector (region_of segments number) refl at

  kinds_at : (number : ℕ) (sector : Sector) (o : Option Region) → region_of segments number ≡ o → sector_in o ≡ Some sector → logged number ≡ is_versioned store sector
  kinds_at number sector None q e = absurd (cc)
  kinds_at number sector (Some region.Param) q e = absurd (cc)
  kinds_at number sector (Some (region.Log server slot)) q e = absurd (cc)
  kinds_at number sector (Some (region.Segment k)) q e = let same : SegmentAt k ≡ sector = cc in at_first.kinds number (region.Segment k) q ∙ ap (is_versioned store) same
  kinds_at number sector (Some (region.Inode i)) q e = let same : InodeAt i ≡ sector = cc in at_first.kinds number (region.Inode i) q ∙ ap (is_versioned store) same
  kinds_at number sector (Some (region.Small k p)) q e =
      let same : DirectoryAt k p ≡ sector = cc in
      at_first.kinds number (region.Small k p) q ∙ sym (ap is_directory_use (uses segments some few k)) ∙ ap (is_versioned store) same
  kinds_at number sector (Some (region.Large g p)) q e = let same : LargeAt g p ≡ sector = cc in at_first.kinds number (region.Large g p) q ∙ ap (is_versioned store) same

  free : FreeFollow segments (fresh_disk segments) first []
  free number sector at unused = ap (λ o. not (is_some o)) (at_first.no_bytes number)

  -- no node is a file
  no_file : (i : ℕ) (node : StoredNode) → store.inode i ≡ Some node → node.kind ≡ 1 → ⊥
  no_file i node = each_but (λ i. store.inode i ≡ Some node → node.kind ≡ 1 → ⊥) 0
      (λ e k. let same : Some (root segments some few) ≡ Some node = sym (root_node segments some few) ∙ e in
      let node_is : root segments some few ≡ node = cc in
      let z : 2 ≡ 1 = ap (λ (x : StoredNode). x.kind) node_is ∙ k in absurd (omega arith))
      (λ i far e k. let z : None ≡ Some node = sym (no_node segments some few i far) ∙ e in absurd (cc)) i

  filled : FilledFollow segments (fresh_disk segments) first []
  filled sector holds = absurd (no_file holds.inode holds.node holds.is holds.kind)

  follows : Follows segments (fresh_disk segments) home logged first []
  follows = record { covers = covers; kinds = λ number sector at. kinds_at number sector (region_of segments number) refl at; free = free; filled = filled }

pub fresh_follows : FreshFollows
fresh_follows segments home logged first some few at_first = follows segments home logged first some few at_first

-- ---- servers over a fresh disk

module _ (servers segments : ℕ) (some : 1 ≤ segments) (few : segments ≤ 64) where
  abbrev w : World
  w = fresh_world servers segments

  -- of the sectors that aren't zeros each counts as one with a version
  opens : (s : ℕ) → w.opening s ≡ fresh_disk segments s
  opens s = go (has_version_at_first (region_of segments s)) refl
    where
      in_segment : region_of segments bitmaps_from ≡ Some (region.Segment 0)
      in_segment = region_found segments (region.Segment 0) few (lt-ltb 0 segments (omega arith))

      in_inode : region_of segments inodes_from ≡ Some (region.Inode 0)
      in_inode = region_found segments (region.Inode 0) few (lt-ltb 0 (64 * segments) (omega arith))

      counts : (t : ℕ) (r : Region) → region_of segments t ≡ Some r → has_version_at_first (Some r) ≡ true → has_version_at_first (region_of segments s) ≡ false → s ≢ t
      counts t r q v none e = let z : true ≡ false = sym v ∙ sym (ap has_version_at_first q) ∙ sym (ap (λ k. has_version_at_first (region_of segments k)) e) ∙ none in absurd (cc)

      go : (t : Bool) → has_version_at_first (region_of segments s) ≡ t → (if t then fresh_disk segments s else zero_block) ≡ fresh_disk segments s
      go true e = refl
      go false e =
          sym (elsewhere segments s (counts 0 region.Param refl refl e) (counts bitmaps_from (region.Segment 0) in_segment refl e) (counts inodes_from (region.Inode 0) in_inode refl e))

  opening_is : w.opening ≡ fresh_disk segments
  opening_is = fun_ext opens

  at_first : AreFresh segments w.home w.logged w.first
  at_first = record {
    covers = λ number l e. ap (λ o. unwrap_or o (lock.Segment 0)) e;
    kinds = λ number r q. ap has_version_at_first q;
    no_bytes = λ number. either_way (has_version_at_first (region_of segments number)) None None (λ e. refl);
  }

  world_begins : (numbers : List ℕ) → 1 + length numbers < 131072 → Begins segments numbers w
  world_begins numbers enough = record {
    stands = subst (λ opening. StandsNumbered segments opening (record { tree = fresh segments; numbers = numbers })) (sym opening_is) (fresh_begins segments some few numbers enough);
    follows = subst (λ opening. Follows segments opening w.home w.logged w.first []) (sym opening_is) (fresh_follows segments w.home w.logged w.first some few at_first);
    parameters = refl;
  }

pub fresh_worlds_begin : FreshWorldsBegin
fresh_worlds_begin servers segments numbers some few enough = world_begins servers segments some few numbers enough
