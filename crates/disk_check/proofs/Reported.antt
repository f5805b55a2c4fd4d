-- The report of what is seen of a disk is the disk's, and a replay leaves the parameters.
use Rattle.std.proofs.Common.{◌==◌, ◌≡◌, ℕ, ◌*◌, ◌&&◌, Option, Some, None, List, [], ◌∷◌, fold, refl, ◌∙◌, ap, subst}
use Rattle.std.proofs.lemmas.Bool.{and_right, cond-false}
use Rattle.frang_base.specs.declared.change.Change.{Change}
use Rattle.sector_bytes.specs.Sectors.{Sectors, SameSectors, sectors_of}
use Rattle.sector_bytes.specs.Changes.{applied}
use Rattle.disk_definitions.specs.declared.param.Param.{Param}
use Rattle.disk_definitions.specs.Params.{param_in}
use Rattle.disk_definitions.specs.Replay.{with_change, with_logs, logged_changes, replayed}
use Rattle.disk_reading.specs.Seen.{store_in}
use Rattle.disk_reading.specs.Fits.{segment_fits, inode_fits}
use Rattle.report_definitions.specs.View.{View, view_of, IsReach}
use Rattle.report_definitions.specs.Report.{report_by, view_by, IsReport}
use Rattle.disk_check.specs.declared.report.Report.{Report}
use Rattle.report_rules.specs.Seen.{view_in}
use Rattle.disk_check.specs.Told.{told}
use Rattle.disk_check.specs.PartsTold.{IsReportOf}

-- a replay leaves the parameters
one_kept : (segments : ℕ) (s : Sectors) (c : Change) → with_change segments s c 0 ≡ s 0
one_kept segments s c = cond-false (0 == c.sector.0 && _) (applied (s 0) c) (s 0) (and_right (0 == c.sector.0) _ refl)

all_kept : (segments : ℕ) (s : Sectors) (cs : List Change) → fold (with_change segments) s cs 0 ≡ s 0
all_kept segments s [] = refl
all_kept segments s (c ∷ cs) = all_kept segments (with_change segments s c) cs ∙ one_kept segments s c

laid_kept : (o : Option Param) (s : Sectors) → with_logs o s 0 ≡ s 0
laid_kept None s = refl
laid_kept (Some p) s = all_kept p.segments s (logged_changes s)

pub param_kept : (s : Sectors) → param_in (replayed s 0) ≡ param_in (s 0)
param_kept s = ap param_in (laid_kept (param_in (s 0)) s)

viewed : (most segments : ℕ) (disk : List (ℕ × List ℕ)) → view_in most segments disk ≡ view_of most segments (sectors_of disk)
unfolding store_in segment_fits inode_fits
viewed most segments disk = refl

pub reported : (disk : List (ℕ × List ℕ)) (p : Param) (report : Report) → param_in (sectors_of disk 0) ≡ Some p → IsReportOf (view_in (131072 * p.run) p.segments disk) report → IsReport (sectors_of disk) (told report)
reported disk p report e r =
    let v : view_in (131072 * p.run) p.segments disk ≡ view_by p (sectors_of disk) = viewed (131072 * p.run) p.segments disk in
    record {
      param = p;
      parameters = e;
      reached = r.reached;
      reach = subst (λ (v : View). IsReach v.store r.reached) v r.reach;
      is = r.is ∙ ap (λ (v : View). report_by v r.reached) v;
    }

-- sectors that are the same are one
pub all_same : (a b : Sectors) → SameSectors a b → a ≡ b
all_same a b same = λ i sector. same sector i
