-- What a finished line leaves can be planned over again.
use Rattle.std.proofs.Common.{◌≡◌, ◌<◌, ◌^◌, ◌+◌, ◌*◌, ℕ, Bool, true, false, Some, refl, sym, ◌∙◌, ap, subst}
use Rattle.frang_base.specs.declared.limits.TheConstants.{RUN_VERSIONS_MAX}
use Rattle.frang_base.specs.declared.op.Op.{Op}
use Rattle.tree_definitions.specs.Apply.{Applied}
use Rattle.tree_definitions.specs.Perform.{perform}
use Rattle.tree_definitions.specs.Tree.{FileTree}
use Rattle.tree_definitions.specs.WellFormed.{IsNew}
use Rattle.sector_bytes.specs.Sectors.{Sectors}
use Rattle.disk_definitions.specs.declared.param.Param.{Param}
use Rattle.disk_definitions.specs.declared.region.Region.TheVariants as region
use Rattle.disk_definitions.specs.Params.{param_in}
use Rattle.disk_definitions.specs.Store.{Store, store_of}
use Rattle.disk_definitions.specs.Standing.{HasVersionsUpTo}
use Rattle.disk_definitions.specs.Edits.{edited_all}
use Rattle.disk_definitions.specs.Held.{Segments}
use Rattle.disk_definitions.specs.Allowed.{IsAllowed}
use Rattle.disk_definitions.specs.Ask.{AtHand, Has, looks, meet}
use Rattle.disk_definitions.specs.FitPlans.{IsFitFinish}
use Rattle.disk_definitions.specs.Meets.{directory_blocks_in}
use Rattle.disk_definitions.specs.Missing.{first_missing}
use Rattle.disk_definitions.specs.OnDisk.{AreOfDisk, StandsBelow, FinishStands, MetStands}
use Rattle.disk_definitions.specs.Plans.{Hand, Finish}
use Rattle.disk_definitions.specs.Plans.Plan.{Finishes}
use Rattle.disk_definitions.specs.Ready.{IsReady, disk_after}
use Rattle.disk_definitions.specs.Written.{Cached, at_hand, hand_of, sectors_at_hand, changes_of, byte_writes, laid_over}
use Rattle.plan_fit.proofs.DiskLaws.{written}
use Rattle.plan_fit.proofs.LaidOver.{all_else}
use Rattle.plan_fit.proofs.RecordLaws.{misses, bytes_laid}
use Rattle.line_laws.proofs.Edited.{hand}
use Rattle.line_laws.proofs.OfDisk.{few, of_tree}
use Rattle.line_laws.proofs.Written.{fit_store, ready, not_param}
use Rattle.disk_definitions.specs.Lines.{plan_of_line}
use Rattle.line_laws.proofs.OnDisk.{lines_stand}
use Rattle.line_laws.specs.Onward.{left_by, IsOnward, FinishedLinesGoOn, OnwardStandsBelow}
use Rattle.line_laws.proofs.LineAtHand.{met_is, same_at_hand}
use Rattle.line_laws.proofs.Fitting.{line_fits}
use Rattle.line_laws.proofs.Whole.{stays_whole}

module _ (cached : Cached) (held : Segments) (all : Bool) (sectors : Sectors) (tree : FileTree) (of : AreOfDisk cached held all tree.segments sectors) (below : StandsBelow sectors tree) (birth when m : ℕ) (o : Op) (f : Finish)
    (allowed : IsAllowed o) (new : IsNew tree birth) (small : birth < 2 ^ 64) (timely : when < 2 ^ 64) (count : m ≡ directory_blocks_in (store_of tree.segments sectors) tree.segments)
    (met : meet (plan_of_line (hand_of cached held all) birth when o) (at_hand cached held) ≡ Has (Finishes f)) where
  abbrev segments : ℕ
  segments = tree.segments

  abbrev s : Store
  s = store_of segments sectors

  abbrev h : Hand
  h = hand_of cached held all

  abbrev c : AtHand
  c = at_hand cached held

  abbrev applied : Applied
  applied = perform tree o birth when m

  abbrev after : Sectors
  after = left_by cached held sectors f

  line_stands : FinishStands cached held sectors applied f
  line_stands =
      let line = plan_of_line h birth when o in
      let stands : MetStands cached held all sectors applied (first_missing c (looks line s)) (Has (Finishes f)) =
      subst (MetStands cached held all sectors applied (first_missing c (looks line s))) met (lines_stand o cached held all sectors tree birth when m allowed of below new small timely count) in
      stands.1

  fit : IsFitFinish h segments s f
  fit =
      let runs = met_is cached held all sectors tree of below birth when o f met in
      line_fits h s tree below.stands.naming birth when (of_tree sectors tree below) (hand o cached held all sectors tree birth when of below) (fit_store cached held all sectors tree of below) small timely o f allowed runs.1

  may : IsReady below.most segments sectors f.edits
  may = ready cached held all sectors tree of below f fit

  same : changes_of (sectors_at_hand cached held) f.edits ≡ changes_of sectors f.edits
  same = let runs = met_is cached held all sectors tree of below birth when o f met in same_at_hand cached held all sectors tree of below birth when o f runs.0 runs.1

  left_is : after ≡ disk_after sectors f.edits
  left_is = ap (λ changes. laid_over sectors changes (byte_writes f.edits)) same

  param_stays : after 0 ≡ sectors 0
  param_stays =
      let end = edited_all s f.edits in
      let m = misses segments end true region.Param f.edits (few sectors tree below) refl fit.edits (not_param true end) in
      let n = misses segments end false region.Param f.edits (few sectors tree below) refl fit.edits (not_param false end) in
      ap (λ disk. disk 0) left_is ∙ bytes_laid sectors f.edits 0 m ∙ all_else sectors f.edits 0 m n

  same_param : line_stands.stands.param ≡ below.stands.param
  same_param = let e : Some line_stands.stands.param ≡ Some below.stands.param = sym line_stands.stands.parameters ∙ ap param_in param_stays ∙ below.stands.parameters in cc

  later : HasVersionsUpTo (below.most + 1) segments after
  later = subst (HasVersionsUpTo (below.most + 1) segments) (sym left_is) (written below.most segments sectors f.edits may).versions

  pub goes_on : IsOnward sectors tree below after applied.tree
  goes_on = record {
    stands = line_stands.stands;
    param = same_param;
    versions = subst (λ k. HasVersionsUpTo (below.most + 1) k after) (below.stands.segments ∙ ap (λ (p : Param). p.segments) (sym same_param)) later;
    whole = stays_whole sectors (changes_of (sectors_at_hand cached held) f.edits) f.edits line_stands.recorded below.whole;
  }

  pub answers : FinishStands cached held sectors applied f
  answers = line_stands

pub finished_lines_go_on : FinishedLinesGoOn
finished_lines_go_on o cached held all sectors tree birth when m f allowed of below new small timely count met =
    goes_on cached held all sectors tree of below birth when m o f allowed new small timely count met

-- while a version is left
abbrev pub next_below : (sectors : Sectors) (tree : FileTree) (below : StandsBelow sectors tree) (left : Sectors) (to : FileTree) → IsOnward sectors tree below left to → below.most + 1 < RUN_VERSIONS_MAX * below.stands.param.run →
    StandsBelow left to
next_below sectors tree below left to onward room = record {
  stands = onward.stands;
  most = below.most + 1;
  below = subst (λ (p : Param). below.most + 1 < RUN_VERSIONS_MAX * p.run) (sym onward.param) room;
  versions = onward.versions;
  whole = onward.whole;
}

pub onward_stands_below : OnwardStandsBelow
onward_stands_below = next_below
