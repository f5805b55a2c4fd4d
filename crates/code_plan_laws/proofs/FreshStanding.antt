-- A fresh disk stands for the tree of the root alone.
use Rattle.std.proofs.Common.{◌≡◌, ℕ, ◌*◌, ◌^◌, ◌≤◌, true, Some, [], is_some, length, refl, sym, ap, subst, arith}
use Rattle.tree_definitions.specs.Tree.{fresh, node_at}
use Rattle.tree_laws.proofs.FreshLaws.{fresh_well}
use Rattle.sector_bytes.specs.Bytes.{number_at}
use Rattle.disk_definitions.specs.Bitmaps.{bitmap_in}
use Rattle.disk_definitions.specs.Inodes.{inode_in}
use Rattle.disk_definitions.proofs.WrittenFields.{length_zeros, zero_version}
use Rattle.sector_bytes.specs.Sectors.{Sectors}
use Rattle.disk_definitions.specs.Standing.{IsMetadata, IsInGrammar, HasVersionsUpTo, IsReached, StandsFor}
use Rattle.disk_definitions.specs.OnDisk.{StandsBelow}
use Rattle.disk_definitions.specs.FreshDisk.{fresh_param, fresh_disk}
use Rattle.code_plan_laws.specs.Fresh.{FreshStands}
use Rattle.code_plan_laws.proofs.Blocks.{param_reads, first_reads, zeros_read, root_reads, free_reads, first_version, root_version, param_long, first_long, root_long}
use Rattle.code_plan_laws.proofs.Sectors.{each_sector, each_segment, each_inode}
use Rattle.code_plan_laws.proofs.Stored.{store, uses}
use Rattle.code_plan_laws.proofs.Picture.{root_only, naming, picture}

module _ (segments : ℕ) (some : 1 ≤ segments) (few : segments ≤ 64) where
  abbrev disk : Sectors
  disk = fresh_disk segments

  -- no block is a directory's
  no_metadata : (k : ℕ) → IsMetadata ((store segments some few).use_of k) → ⊥
  no_metadata k m = subst IsMetadata (uses segments some few k) m

  grammar : IsInGrammar segments disk
  grammar = record {
    bitmaps = λ k l. each_segment (λ b. is_some (bitmap_in b) ≡ true) segments (ap is_some first_reads) (ap is_some zeros_read) k (omega arith);
    inodes = λ i l. each_inode (λ b. is_some (inode_in b) ≡ true) segments (ap is_some root_reads) (ap is_some free_reads) i;
    directories = λ k p l m d. absurd (no_metadata k d);
  }

  pub versions : (most : ℕ) → 1 ≤ most → HasVersionsUpTo most segments disk
  versions most more = record {
    bitmaps = λ k l. each_segment (λ b. number_at 8 0 b ≤ most) segments (let v = first_version in omega arith) (let v = zero_version in omega arith) k (omega arith);
    inodes = λ i l. each_inode (λ b. number_at 8 0 b ≤ most) segments (let v = root_version in omega arith) (let v = zero_version in omega arith) i;
    directories = λ k p l m d. absurd (no_metadata k d);
  }

  reached : IsReached (node_at (fresh segments))
  reached b e = ([], ap Some (sym (root_only segments b e)))

  births : (b : ℕ) → is_some (node_at (fresh segments) b) ≡ true → 2 ^ 32 ≤ b → 0 ≡ b
  births b e l = sym (root_only segments b e)

  stands : StandsFor disk (fresh segments)
  stands = record {
    param = fresh_param segments;
    parameters = param_reads segments some few;
    segments = refl;
    grammar = grammar;
    versions = versions (131072 * 1) (omega arith);
    well_formed = fresh_well segments;
    reached = reached;
    naming = naming;
    picture = picture segments some few;
    root = refl;
    births = births;
  }

  whole : (s : ℕ) → length (disk s) ≡ 512
  whole = each_sector (λ b. length b ≡ 512) segments (param_long segments) first_long root_long (length_zeros 512)

  below : StandsBelow disk (fresh segments)
  unfolding stands
  below = record { stands = stands; most = 1; below = omega arith; versions = versions 1 (omega arith); whole = whole }

pub fresh_stands : FreshStands
fresh_stands segments some few = below segments some few
