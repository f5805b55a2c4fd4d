-- What the laws of histories ask of a moment, from what stands beside it.
use Rattle.std.proofs.Common.{ℕ, ◌≡◌, List, [], sym, ◌∙◌, ap, subst, arith}
use Rattle.tree_definitions.specs.Live.{live_history}
use Rattle.tree_definitions.specs.Removal as trees
use Rattle.sector_world.specs.World.{World}
use Rattle.disk_definitions.specs.Meets.{directory_blocks_in}
use Rattle.line_histories.specs.Following.{store_after}
use Rattle.core_definitions.specs.Runs.{State as RunMoment, first_state, saids_of}
use Rattle.core_definitions.specs.Settings.{Setting}
use Rattle.core_laws.proofs.Kept.{setting_of_run}
use Rattle.core_world.specs.Steps.{IsReached}
use Rattle.stop_laws.specs.Happened.{Happening, on_tree}
use Rattle.stop_laws.specs.Known.{KnowsCells}
use Rattle.rest_laws.specs.Done.{AreLinesOf}
use Rattle.kept_laws.specs.Keeping.{MomentsKeepWhatIsKnown}
use Rattle.kept_laws.specs.Legal.{MomentsAreLegal}
use Rattle.kept_laws.specs.Moments.{IsMoment, IsShownFrom}
use Rattle.headline_definitions.specs.Beginning.{Beginning}
use Rattle.headline_definitions.specs.Headline.{live}
use Rattle.headline_definitions.specs.Laws.{setting_by}
use Rattle.headline_definitions.specs.Meaning.{WitnessedTellsTheLines}
use Rattle.headline_definitions.specs.Witnessed.{Witnessed, saids_in}
use Rattle.headline_histories.specs.Live.{MomentsKeepTheLive}
use Rattle.headline_histories.specs.Moments.{IsMomentOf, witnessed_to}
use Rattle.headline_histories.specs.Starts.{IsCountedDisk, WorldsAreOverCountedDisks}

module _ (disks : WorldsAreOverCountedDisks) (lines : WitnessedTellsTheLines) (b : Beginning) (s : RunMoment) (w : World) (when : ℕ → ℕ) (numbers : List ℕ) (m : IsMomentOf b s w when numbers) where
  abbrev pub segments : ℕ
  segments = s.core.setting.segments

  abbrev pub happened : List Happening
  happened = m.told.happened

  pub same : s.core.setting ≡ setting_by b
  same = setting_of_run (setting_by b) b.disk s m.run

  pub reached : IsReached s
  reached = record {
    bytes = m.begins.bytes;
    script = b.script;
    read = m.begins.script;
    segments = b.opening.tree.segments;
    number = b.opening.run;
    disk = b.disk;
    run = m.run;
  }

  -- ---- what is asked

  pub is_moment : IsMoment segments when b.opening.tree numbers w happened
  is_moment = record {
    times = m.lines.times;
    stands = m.lines.stands;
    follows = m.lines.follows;
    legal = m.lines.legal;
    distinct = m.lines.distinct;
    good = m.good;
    sight = m.sight;
    told = m.told.sectors;
    paired = m.told.paired;
    synced = m.told.synced;
  }

  first : IsCountedDisk b.opening [] w
  first = disks b.opening b.disk m.begins.opening [] w m.began (omega arith)

  segments_are : b.opening.tree.segments ≡ segments
  segments_are = sym (ap (λ (z : Setting). z.segments) same)

  pub known : KnowsCells segments w.opening w.logged w.first b.opening.tree []
  known = subst (λ n. KnowsCells n w.opening w.logged w.first b.opening.tree []) segments_are first.first.known

  pub shown : IsShownFrom segments when b.opening w happened
  shown = record {
    said = m.told.said;
    knows = known;
    counted = subst (λ n. directory_blocks_in (store_after n w.opening []) n ≡ b.opening.dir_blocks) segments_are first.counted;
  }

  pub are_lines : AreLinesOf segments when b.opening.tree numbers w happened
  are_lines = record {
    times = m.lines.times;
    stands = m.lines.stands;
    legal = m.lines.legal;
    distinct = m.lines.distinct;
    good = m.good;
    follows = m.lines.follows;
    parameters = m.lines.parameters;
    told = m.told.sectors;
    paired = m.told.paired;
    sight = m.sight;
    said = m.told.said;
    synced = m.told.synced;
    known = known;
  }

  -- ---- the lines said

  abbrev pub witnessed : List Witnessed
  witnessed = witnessed_to b s m.run

  pub saids_are : saids_of s.record_ ≡ saids_in witnessed
  saids_are = lines (first_state (setting_by b) b.disk) s m.run

  pub live_is : on_tree happened ≡ live b witnessed
  live_is =
      m.told.lines ∙ ap (λ (z : Setting). live_history z.script z.run (saids_of s.record_)) same ∙ ap (live_history b.script b.opening.run) saids_are

pub live_is_kept : WorldsAreOverCountedDisks → WitnessedTellsTheLines → MomentsKeepWhatIsKnown → MomentsAreLegal → MomentsKeepTheLive
live_is_kept disks lines keep legal b s w when numbers m = record {
  live_legal = subst (trees.IsLegal b.opening) (live_is disks lines b s w when numbers m)
      (legal (segments disks lines b s w when numbers m) when b.opening numbers w m.told.happened (is_moment disks lines b s w when numbers m) (shown disks lines b s w when numbers m));
  live_kept = subst (trees.Keeps b.opening) (live_is disks lines b s w when numbers m)
      (keep (segments disks lines b s w when numbers m) when b.opening numbers w m.told.happened (is_moment disks lines b s w when numbers m));
}
