-- A run that came to its end is the same run where, behind it, no sector and no act changed: counts alone may have risen. From before the opening no count falls, and the mark stays.
use Rattle.std.proofs.Common.{◌≡◌, ◌∙◌, ◌≤◌, ◌-◌, ◌^◌, ℕ, Some, Ok, List, ap, subst, arith}
use Rattle.frang_base.specs.declared.script.Line.{Line}
use Rattle.frang_outside.specs.Outside.{State as Outside, Follows}
use Rattle.sector_bytes.specs.Sectors.{SameSectors}
use Rattle.core_definitions.specs.Runs.{State as RunMoment}
use Rattle.hall_runs.specs.declared.event.End.TheVariants.{Ended}
use Rattle.hall_runs.specs.Outsets.{IsWithin, Outset, RunsTo}
use Rattle.hall_runs.proofs.Runs.{fell_trans}
use Rattle.frang_board.specs.declared.figures.Figures.{Figures}
use Rattle.hall_scripts.specs.Runs.{Beginning, Ends, Leaves, Stopped, Untouched, Went}
use Rattle.hall_scripts.specs.Watched.{EndedWatched}

within_later : (before calls now later : ℕ) → IsWithin before calls now → now ≤ later → IsWithin before calls later
within_later before calls now later within rose = omega (arith, within, rose)

runs_later : (outset : Outset) (moment : RunMoment) (now later : Outside) → RunsTo outset moment now → SameSectors later.sectors now.sectors → later.acts ≡ now.acts → Follows now later
    → RunsTo outset moment later
runs_later outset moment now later kept sectors acts follows = record {
  run = kept.run;
  sectors = λ sector. sectors sector ∙ kept.sectors sector;
  acts = acts ∙ kept.acts;
  faults = λ party. within_later (outset.outside.faults party) _ (now.faults party) (later.faults party) (kept.faults party) (follows.faults party);
  fell = fell_trans outset.outside now later kept.fell follows;
}

pub ended_later : (script : List Line) (from : Beginning) (before now later : Outside) → Ends script from before now (Ok tt) → SameSectors later.sectors now.sectors → later.acts ≡ now.acts → Follows now later
    → Ends script from before later (Ok tt)
unfolding runs_later
ended_later script from before now later ended sectors acts follows =
    let kept = ended.ran.kept in
    record {
      said = ended.said;
      ran =
          record {
            opened = ended.ran.opened;
            puts = ended.ran.puts;
            kept =
                record {
                  moment = kept.moment;
                  is =
                      record {
                        runs = runs_later _ kept.moment now later kept.is.runs sectors acts follows;
                        stands_for = tt;
                        count = kept.is.count;
                        cause = kept.is.cause;
                        host = kept.is.host;
                      };
                };
          };
    }

-- from before its opening no count fell
pub no_count_fell : (script : List Line) (from : Beginning) (before now : Outside) → Ends script from before now (Ok tt) → Follows before now
no_count_fell script from before now ended =
    let puts = ended.ran.puts in
    let fell = ended.ran.kept.is.runs.fell in
    record {
      faults = λ party. subst (λ n. n ≤ now.faults party) (puts.counts.faults party) (fell.faults party);
      says = subst (λ n. n ≤ now.say_faults) puts.counts.says fell.says;
      mark = fell.mark ∙ puts.mark;
    }

-- whatever a run leaves, the mark is the same
pub marks_stay : (script : List Line) (from : Beginning) (before after : Outside) → Leaves script from before after → after.mark ≡ before.mark
marks_stay script from before after (Untouched same) = ap (λ (o : Outside). o.mark) same
marks_stay script from before after (Stopped fault stops) = stops.mark
marks_stay script from before after (Went over ran) = ran.ran.kept.is.runs.fell.mark ∙ ran.ran.puts.mark

-- so is one that was watched, and what was read of it
pub watched_later : (script : List Line) (from : Beginning) (before now later : Outside) (reads : ℕ) (list : List Figures) → EndedWatched script from before now reads list
    → SameSectors later.sectors now.sectors → later.acts ≡ now.acts → Follows now later → EndedWatched script from before later reads list
unfolding ended_later
watched_later script from before now later reads list ended sectors acts follows =
    let same : Ends script from before later (Ok tt) = ended_later script from before now later (record { said = ended.said; ran = ended.ran }) sectors acts follows in
    record { said = ended.said; ran = same.ran; watched = ended.watched }
