-- A fresh disk is one of an opening, and its sectors are of bytes.
use Rattle.std.proofs.Common.{ℕ, ◌≡◌, ◌≤◌, ◌<◌, ◌*◌, true, Some, is_some, [], ◌∷◌, sym, ◌∙◌, ap, subst, arith}
use Rattle.std.proofs.Math.Path.{fun_ext}
use Rattle.std.proofs.lemmas.Bool.Decides.{nat_tests}
use Rattle.std.proofs.lemmas.List.Elements.{All-from_recursion, All-nil}
use Rattle.tree_definitions.specs.declared.node.Node.TheVariants.{Dir}
use Rattle.tree_definitions.specs.History.{fresh_opening}
use Rattle.tree_definitions.specs.Tree.{fresh, node_at}
use Rattle.script_definitions.specs.Sayable.{IsNodeOf, IsSureCell, IsSureTree}
use Rattle.sector_bytes.specs.Sectors.{Sectors}
use Rattle.disk_definitions.specs.declared.param.Param.{Param}
use Rattle.disk_definitions.specs.declared.region.Region.TheVariants as region
use Rattle.disk_definitions.specs.Regions.{sector_of}
use Rattle.disk_definitions.specs.FreshDisk.{fresh_disk, fresh_param}
use Rattle.disk_definitions.specs.Meets.{directory_blocks_in, is_directory_use}
use Rattle.disk_definitions.specs.OnDisk.{StandsBelow}
use Rattle.disk_definitions.specs.Params.{param_fits}
use Rattle.disk_definitions.specs.Store.{store_of}
use Rattle.disk_definitions.proofs.PickCounts.{count_none}
use Rattle.code_plan_laws.proofs.Blocks.{param_reads}
use Rattle.code_plan_laws.proofs.FreshStanding.{fresh_stands, versions}
use Rattle.code_plan_laws.proofs.Picture.{root_only}
use Rattle.code_plan_laws.proofs.Sectors.{elsewhere}
use Rattle.code_plan_laws.proofs.Stored.{uses}
use Rattle.core_laws.specs.Openings.{FreshDisksArePut}
use Rattle.headline_definitions.specs.Beginning.{IsOpening, versions_before}
use Rattle.opening_laws.specs.Starts.{FreshStartsAreOpenings}

-- ---- parameters that fit

pub segments_some : (p : Param) → param_fits p ≡ true → 1 ≤ p.segments
segments_some p h = grind (arith, nat_tests)

pub segments_few : (p : Param) → param_fits p ≡ true → p.segments ≤ 64
segments_few p h = grind (arith, nat_tests)

module _ (segments : ℕ) (some : 1 ≤ segments) (few : segments ≤ 64) where
  abbrev disk : Sectors
  disk = fresh_disk segments

  below : StandsBelow disk (fresh segments)
  below = fresh_stands segments some few

  run_is : below.stands.param.run ≡ 1
  run_is = ap (λ (p : Param). p.run) (same below.stands.param (sym below.stands.parameters ∙ param_reads segments some few))
    where
      same : (p : Param) → Some p ≡ Some (fresh_param segments) → p ≡ fresh_param segments
      same p e = cc

  born_low : (b : ℕ) → is_some (node_at (fresh segments) b) ≡ true → b < 4294967296
  born_low b e = let z : b ≡ 0 = root_only segments b e in omega arith

  root_sure : IsSureTree (fresh segments)
  root_sure = All-from_recursion (IsNodeOf IsSureCell) (Dir [] 0 ∷ []) (All-nil _, tt)

  no_directories : 0 ≡ directory_blocks_in (store_of segments disk) segments
  no_directories = sym (count_none (λ k. is_directory_use ((store_of segments disk).use_of k)) (1024 * segments) (λ k l. ap is_directory_use (uses segments some few k)))

  first_versions : 1 ≤ versions_before 1
  first_versions = grind (arith, nat_tests)

  pub fresh_is : IsOpening (fresh_opening segments) disk
  fresh_is = record {
    stands = below.stands;
    run = run_is;
    births = born_low;
    sure = root_sure;
    dir_blocks = no_directories;
    versions = versions segments some few (versions_before 1) first_versions;
    logs = λ server slot l m. elsewhere segments (sector_of (region.Log server slot)) (λ e. absurd (omega arith)) (λ e. absurd (omega arith)) (λ e. absurd (omega arith));
    whole = below.whole;
  }

pub fresh_starts : FreshDisksArePut → FreshStartsAreOpenings
fresh_starts fresh_put script segments fits =
    subst (λ disk. IsOpening (fresh_opening segments) disk) (sym (fun_ext (λ s. fresh_put segments s)))
    (fresh_is segments (segments_some (fresh_param segments) fits) (segments_few (fresh_param segments) fits))
