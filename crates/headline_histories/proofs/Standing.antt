-- A disk stands for a tree by its parameters and by what lies behind the logs.
use Rattle.std.proofs.Common.{ℕ, ◌≡◌, ◌≤◌, ◌*◌, ◌/◌, ◌%◌, ◌&&◌, ◌+◌, if◌then◌else◌, nat_lt, None, is_some, [], refl, sym, ◌∙◌, ap, subst, arith}
use Rattle.std.specs.List.{slice_index}
use Rattle.std.proofs.Math.Path.{fun_ext}
use Rattle.tree_definitions.specs.Tree.{FileTree, node_at}
use Rattle.sector_bytes.specs.Blocks.{Block, version_of}
use Rattle.sector_bytes.specs.Sectors.{Sectors}
use Rattle.disk_definitions.specs.declared.region.Region.{Region}
use Rattle.disk_definitions.specs.declared.region.Region.TheVariants as region
use Rattle.disk_definitions.specs.Bitmaps.{bitmap_in}
use Rattle.disk_definitions.specs.Directories.{directory_in}
use Rattle.disk_definitions.specs.Inodes.{inode_in}
use Rattle.disk_definitions.specs.Naming.{Pictures}
use Rattle.disk_definitions.specs.Params.{param_in}
use Rattle.disk_definitions.specs.Regions.{sector_of}
use Rattle.disk_definitions.specs.Standing.{HasVersionsUpTo, IsInGrammar, IsMetadata, StandsFor}
use Rattle.disk_definitions.specs.Store.{Store, bit_in, entry_in, large_in, store_of, stored_node, use_in}
use Rattle.disk_definitions.specs.Store.Use.{Fresh}
use Rattle.headline_histories.specs.Left.{DisksStandBehindLogs}

-- the sectors at places behind the logs
abbrev behind : Sectors → Region → Block
behind disk region.Param = []
behind disk (region.Log server slot) = []
behind disk (region.Segment k) = disk (sector_of (region.Segment k))
behind disk (region.Inode i) = disk (sector_of (region.Inode i))
behind disk (region.Small block part) = disk (sector_of (region.Small block part))
behind disk (region.Large block part) = disk (sector_of (region.Large block part))

-- what these say
abbrev said_by : ℕ → (Region → Block) → Store
said_by segments at = record {
  inode = λ i. if nat_lt i (64 * segments) then stored_node (inode_in (at (region.Inode i))) else None;
  bit = λ i. nat_lt i (64 * segments) && bit_in (bitmap_in (at (region.Segment (i / 64)))) (i % 64);
  use_of = λ k. if nat_lt k (1024 * segments) then use_in (bitmap_in (at (region.Segment (k / 1024)))) (k % 1024) else Fresh;
  place = λ k p. if nat_lt k (1024 * segments) then entry_in (directory_in (at (region.Small k (p / 7)))) (p % 7) else None;
  large_bit = λ g. nat_lt g segments && large_in (bitmap_in (at (region.Segment g)));
  byte = λ k j. slice_index (at (region.Small k (j / 512))) (j % 512);
  large_byte = λ g j. slice_index (at (region.Large g (j / 512))) (j % 512);
}

module _ (disk other : Sectors) (at_first : other 0 ≡ disk 0) (same : (x : ℕ) → 4294967296 ≤ x → other x ≡ disk x) where
  at_segment : (k : ℕ) → other (sector_of (region.Segment k)) ≡ disk (sector_of (region.Segment k))
  at_segment k = same (sector_of (region.Segment k)) (high k)
    where
      high : (k : ℕ) → 4294967296 ≤ 4294967296 + k
      high k = omega arith

  at_inode : (i : ℕ) → other (sector_of (region.Inode i)) ≡ disk (sector_of (region.Inode i))
  at_inode i = same (sector_of (region.Inode i)) (high i)
    where
      high : (i : ℕ) → 4294967296 ≤ 10737418240 + i
      high i = omega arith

  at_small : (block part : ℕ) → other (sector_of (region.Small block part)) ≡ disk (sector_of (region.Small block part))
  at_small block part = same (sector_of (region.Small block part)) (high block part)
    where
      high : (block part : ℕ) → 4294967296 ≤ 12884901888 + block * 8 + part
      high block part = omega arith

  at_large : (block part : ℕ) → other (sector_of (region.Large block part)) ≡ disk (sector_of (region.Large block part))
  at_large block part = same (sector_of (region.Large block part)) (high block part)
    where
      high : (block part : ℕ) → 4294967296 ≤ 287762808832 + block * 2147483648 + part
      high block part = omega arith

  all_behind : (place : Region) → behind other place ≡ behind disk place
  all_behind region.Param = refl
  all_behind (region.Log server slot) = refl
  all_behind (region.Segment k) = at_segment k
  all_behind (region.Inode i) = at_inode i
  all_behind (region.Small block part) = at_small block part
  all_behind (region.Large block part) = at_large block part

  store_same : (segments : ℕ) → store_of segments other ≡ store_of segments disk
  store_same segments = ap (said_by segments) (fun_ext all_behind)

  grammar : (segments : ℕ) → IsInGrammar segments disk → IsInGrammar segments other
  grammar segments g = record {
    bitmaps = λ k l. ap (λ block. is_some (bitmap_in block)) (at_segment k) ∙ g.bitmaps k l;
    inodes = λ i l. ap (λ block. is_some (inode_in block)) (at_inode i) ∙ g.inodes i l;
    directories = λ k p l lp u. ap (λ block. is_some (directory_in block)) (at_small k p) ∙ g.directories k p l lp (subst (λ (z : Store). IsMetadata (z.use_of k)) (store_same segments) u);
  }

  versions : (most segments : ℕ) → HasVersionsUpTo most segments disk → HasVersionsUpTo most segments other
  versions most segments v = record {
    bitmaps = λ k l. subst (λ block. version_of block ≤ most) (sym (at_segment k)) (v.bitmaps k l);
    inodes = λ i l. subst (λ block. version_of block ≤ most) (sym (at_inode i)) (v.inodes i l);
    directories = λ k p l lp u. subst (λ block. version_of block ≤ most) (sym (at_small k p)) (v.directories k p l lp (subst (λ (z : Store). IsMetadata (z.use_of k)) (store_same segments) u));
  }

  pub stand : (tree : FileTree) → StandsFor disk tree → StandsFor other tree
  stand tree s = record {
    param = s.param;
    parameters = ap param_in at_first ∙ s.parameters;
    segments = s.segments;
    grammar = grammar s.param.segments s.grammar;
    versions = versions (131072 * s.param.run) s.param.segments s.versions;
    well_formed = s.well_formed;
    reached = s.reached;
    naming = s.naming;
    picture = subst (λ z. Pictures z (node_at tree) s.naming) (sym (store_same s.param.segments)) s.picture;
    root = s.root;
    births = s.births;
  }

pub disks_stand : DisksStandBehindLogs
disks_stand disk other tree at_first same stands = stand disk other at_first same tree stands
