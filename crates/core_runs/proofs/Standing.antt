-- At a moment at which all stands beside: its servers are those of the laws of lines; and where the host reads, all are off, so the disk stands for the tree of the history.
use Rattle.std.proofs.Common.{◌≡◌, ◌≤◌, ℕ, true, false, IsTrue, List, Some, length, refl, sym, ap, ◌∙◌, subst, arith}
use Rattle.std.proofs.lemmas.Bool.{false≢true}
use Rattle.frang_base.specs.declared.limits.TheConstants.{SECTOR_BYTES}
use Rattle.tree_definitions.specs.History.{Opening}
use Rattle.tree_definitions.specs.Live.{live_history}
use Rattle.tree_definitions.specs.Removal.{tree_from, tree_of}
use Rattle.tree_definitions.specs.Tree.{FileTree}
use Rattle.disk_definitions.specs.declared.region.Region.{Region}
use Rattle.disk_definitions.specs.declared.region.Region.TheVariants as region
use Rattle.disk_definitions.specs.Params.{param_in}
use Rattle.disk_definitions.specs.Regions.{is_in_range, sector_of}
use Rattle.disk_definitions.specs.Replay.{is_log}
use Rattle.disk_definitions.specs.Standing.{StandsFor}
use Rattle.disk_definitions.proofs.ParamLaws.{few_segments}
use Rattle.disk_definitions.proofs.RegionLaws.{region_found}
use Rattle.opening_laws.specs.Regions.{HasTheTreeOf, RegionsStand, holds_tree}
use Rattle.sector_world.specs.World.{World, block_at}
use Rattle.sector_world.specs.World.Phase.{Off}
use Rattle.core_definitions.specs.Runs.{State as RunMoment, saids_of}
use Rattle.core_definitions.specs.Servers as life
use Rattle.core_definitions.specs.Servers.{is_off}
use Rattle.core_definitions.specs.Settings.{setting_of}
use Rattle.core_transcripts.specs.Answers.{ReadScriptsHaveOwnNumbers}
use Rattle.core_tree_reads.specs.AtRest.{IsAtRest, TreesAreReadAtRest, has_read}
use Rattle.core_tree_reads.specs.Lines.{StandsAsSet}
use Rattle.core_world.specs.Journals.{Journal}
use Rattle.core_world.specs.Ties.{is_log_sector, phase_of}
use Rattle.rest_laws.specs.AtRest.{AreOff, DisksAtRestStand}
use Rattle.core_runs.specs.Kept.{Further, IsKeptAlong}
use Rattle.core_runs.specs.Trees.{DisksReadStand, KeptAreOfLines, TreesStandAsTold}

pub of_lines : (Else : Further) → KeptAreOfLines Else
of_lines Else s w journal when first_tree numbers kept = record {
  times = kept.beside.run.lines.times;
  stands = kept.beside.run.lines.stands;
  legal = kept.beside.run.lines.legal;
  distinct = kept.beside.run.lines.distinct;
  good = kept.beside.run.good;
  follows = kept.beside.run.lines.follows;
  parameters = kept.beside.run.lines.parameters;
  told = kept.told.sectors;
  paired = kept.told.paired;
  sight = kept.beside.sight;
  said = kept.told.said;
  synced = kept.told.synced;
  known = kept.beside.known;
}

-- ---- the host reads

off_phase : (p : life.Phase) → IsTrue (is_off p) → phase_of p ≡ Off
off_phase life.Off o = refl
off_phase life.Up o = absurd (false≢true o)
off_phase life.Still o = absurd (false≢true o)
off_phase (life.Doomed fate) o = absurd (false≢true o)
off_phase life.Dead o = absurd (false≢true o)

module _ (own : ReadScriptsHaveOwnNumbers) (rest : TreesAreReadAtRest) (stand : DisksAtRestStand) (Else : Further) (s : RunMoment) (w : World) (journal : ℕ → Journal) (when : ℕ → ℕ) (first_tree : FileTree)
    (numbers : List ℕ) (kept : IsKeptAlong Else s w journal when first_tree numbers) (read : IsTrue (has_read s.core)) where
  are_off : AreOff w
  are_off a = kept.beside.run.world.tied.lives.phase a ∙ off_phase (s.core.servers a).phase (at_rest.off a)
    where
      at_rest : IsAtRest s.core
      at_rest =
          let r = kept.beside.run.reached in
          rest (setting_of r.script r.segments r.number) r.disk s (own r.bytes r.script r.read) r.run read

  pub read_stands : StandsFor (block_at w) (tree_from first_tree (live_history s.core.setting.script s.core.setting.run (saids_of s.record_)))
  read_stands =
      subst (λ h. StandsFor (block_at w) (tree_from first_tree h)) kept.told.lines
      (stand s.core.setting.segments when first_tree numbers w kept.told.happened (of_lines Else s w journal when first_tree numbers kept) are_off)

pub disks_stand : ReadScriptsHaveOwnNumbers → TreesAreReadAtRest → DisksAtRestStand → (Else : Further) → DisksReadStand Else
disks_stand own rest stand Else s w journal when first_tree numbers kept read = read_stands own rest stand Else s w journal when first_tree numbers kept read

-- ---- the disk itself

not_log : (place : Region) → holds_tree place ≡ true → is_log (Some place) ≡ false
not_log region.Param h = refl
not_log (region.Log server slot) h = absurd (false≢true h)
not_log (region.Segment k) h = refl
not_log (region.Inode i) h = refl
not_log (region.Small block part) h = refl
not_log (region.Large block part) h = refl

no_log : (segments : ℕ) (place : Region) → segments ≤ 64 → is_in_range segments place ≡ true → holds_tree place ≡ true → is_log_sector segments (sector_of place) ≡ false
no_log segments place few inside holds = ap is_log (region_found segments place few inside) ∙ not_log place holds

module _ (regions : RegionsStand) (own : ReadScriptsHaveOwnNumbers) (rest : TreesAreReadAtRest) (stand : DisksAtRestStand) (Else : Further) (s : RunMoment) (w : World) (journal : ℕ → Journal) (when : ℕ → ℕ)
    (opening : Opening) (numbers : List ℕ) (kept : IsKeptAlong Else s w journal when opening.tree numbers) (run : opening.run ≡ s.core.setting.run)
    (sizes : (sector : ℕ) → length (s.disk sector) ≡ SECTOR_BYTES)
    (count : (tree_of opening (live_history s.core.setting.script opening.run (saids_of s.record_))).segments ≡ s.core.setting.segments) (read : IsTrue (has_read s.core)) where
  abbrev tree : FileTree
  tree = tree_of opening (live_history s.core.setting.script opening.run (saids_of s.record_))

  world_stands : StandsFor (block_at w) tree
  world_stands =
      subst (λ n. StandsFor (block_at w) (tree_from opening.tree (live_history s.core.setting.script n (saids_of s.record_)))) (sym run)
      (read_stands own rest stand Else s w journal when opening.tree numbers kept read)

  few : s.core.setting.segments ≤ 64
  few = subst (λ n. n ≤ 64) (sym world_stands.segments ∙ count) (few_segments (block_at w 0) world_stands.param world_stands.parameters)

  has_the_tree : HasTheTreeOf tree.segments (block_at w) s.disk
  has_the_tree place inside holds =
      sym (kept.beside.run.world.tied.disk (sector_of place) (no_log s.core.setting.segments place few (subst (λ n. is_in_range n place ≡ true) count inside) holds))

  disk_stands : StandsFor s.disk tree
  disk_stands =
      regions (block_at w) s.disk tree world_stands.param world_stands sizes has_the_tree
      (ap param_in (sym (kept.beside.run.world.tied.disk 0 refl)) ∙ world_stands.parameters) (record { segments = sym world_stands.segments; run = same_run world_stands.param.run })
    where
      same_run : (n : ℕ) → n ≤ n
      same_run n = omega arith

  pub as_told : StandsAsSet s.core.setting s.disk tree
  as_told = record { stands = disk_stands; segments = count }

pub trees_stand : RegionsStand → ReadScriptsHaveOwnNumbers → TreesAreReadAtRest → DisksAtRestStand → (Else : Further) → TreesStandAsTold Else
trees_stand regions own rest stand Else s w journal when opening numbers kept run sizes count read = as_told regions own rest stand Else s w journal when opening numbers kept run sizes count read
