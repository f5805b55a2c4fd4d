-- A watched run of the hall behind the opening is a run of the script, by how it is over, and the figures that were read are of its record.
use Rattle.std.proofs.Common.{◌≡◌, ◌⊎◌, ⊎_elim, ℕ, true, false, Option, Some, None, Result, Ok, Err, List, refl, sym, subst}
use Rattle.std.specs.Global.{Vec}
use Rattle.frang_base.specs.declared.fault.NoMemory.{NoMemory as Want}
use Rattle.frang_base.specs.declared.script.Line.{Line}
use Rattle.frang_outside.specs.Outside.{State as Outside}
use Rattle.frang_board.specs.declared.figures.Figures.{Figures}
use Rattle.core_definitions.specs.Settings.{setting_of}
use Rattle.hall_runs.specs.declared.event.End.{End}
use Rattle.hall_runs.specs.declared.event.End.TheVariants.{Ended, Mute, Fault}
use Rattle.hall_runs.specs.Keeping.{Kept}
use Rattle.opening.specs.Puts.{HasPut}
use Rattle.frang_hall.specs.declared.room.Finish.{Finish}
use Rattle.frang_hall.specs.Finishing.{Finished}
use Rattle.watched_hall.specs.Watching.{Came, IsWatched, WatchedRun}
use Rattle.hall_scripts.specs.declared.fault.RunFault.{RunFault}
use Rattle.hall_scripts.specs.Runs.{Beginning, Leaves, Went, came_to, came_to_by, outset_of}
use Rattle.hall_scripts.specs.Watched.{EndsWatched, figures_read, unless_fault}
use Rattle.hall_scripts.proofs.Results.{leaves, ran}

module _ (script : List Line) (from : Beginning) (before : Outside) (reads : ℕ) where
  module _ (opened after : Outside) (puts : HasPut before opened from.puts) where
    abbrev KeptSo : Option End → ℕ → Type 0
    KeptSo over said = Kept (λ moment. Unit {0}) (outset_of script from opened) over said after

    by_end : (over : Option End) (said : ℕ) (f : Finish) (list : Vec Figures) (kept : KeptSo over said) → Finished over said (Ok f) → IsWatched kept.moment.record_ reads list.items
        → EndsWatched script from before after reads (unless_fault list (came_to (Ok f)))
    by_end None said f list kept finish watched = absurd finish
    by_end (Some Ended) said f list kept finish watched =
        subst (λ x. EndsWatched script from before after reads (unless_fault list (came_to_by x))) (sym finish)
        (record { said = said; ran = record { opened = opened; puts = puts; kept = kept }; watched = watched })
    by_end (Some Mute) said f list kept finish watched =
        subst (λ x. EndsWatched script from before after reads (unless_fault list (came_to_by x))) (sym finish)
        (ran script from before opened after puts (Ok (record { mute = true; fault = None; said = said })) (record { over = Some Mute; said = said; kept = kept; finish = refl }))
    by_end (Some (Fault sector)) said f list kept finish watched =
        subst (λ x. EndsWatched script from before after reads (unless_fault list (came_to_by x))) (sym finish)
        (ran script from before opened after puts (Ok (record { mute = false; fault = Some sector; said = said })) (record { over = Some (Fault sector); said = said; kept = kept; finish = refl }))

    by_came : (over : Option End) (said : ℕ) (came : Result (Finish × Vec Figures) Want) (kept : KeptSo over said) → Came kept.moment.record_ reads None over said came
        → EndsWatched script from before after reads (figures_read came)
    by_came over said (Err want) kept none = ran script from before opened after puts (Err want) (record { over = over; said = said; kept = kept; finish = ⊎_elim (λ e. e) (λ e. e) none })
    by_came over said (Ok came) kept both = by_end over said came.0 came.1 kept both.0 both.1

    pub ran_watched : (came : Result (Finish × Vec Figures) Want) → WatchedRun (setting_of script from.segments from.run) opened after reads came → EndsWatched script from before after reads (figures_read came)
    ran_watched came r = by_came r.over r.said came r.kept r.came

  pub watched_leaves : (after : Outside) (result : Result (Vec Figures) RunFault) → EndsWatched script from before after reads result → Leaves script from before after
  watched_leaves after (Ok list) ended = Went (Some Ended) (record { said = ended.said; ran = ended.ran })
  watched_leaves after (Err fault) ends = leaves script from before after (Err fault) ends
