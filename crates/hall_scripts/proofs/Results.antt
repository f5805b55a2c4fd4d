-- A run of the hall behind the opening is a run of the script, by how it is over; and whatever the result, the outside is as one of them leaves it.
use Rattle.std.proofs.Common.{◌≡◌, inl, inr, ℕ, Option, Some, None, Result, Ok, Err, List, sym, subst}
use Rattle.std.specs.Prelude.{MatchResult}
use Rattle.frang_base.specs.declared.fault.NoMemory.{NoMemory as Want}
use Rattle.frang_base.specs.declared.script.Line.{Line}
use Rattle.frang_outside.specs.Outside.{State as Outside, Follows, Rose}
use Rattle.core_definitions.specs.Scripts.{host_party}
use Rattle.core_definitions.specs.Settings.{setting_of}
use Rattle.hall_runs.specs.declared.event.End.{End}
use Rattle.hall_runs.specs.declared.event.End.TheVariants.{Ended, Mute, Fault}
use Rattle.hall_runs.specs.Keeping.{Kept}
use Rattle.opening.specs.declared.puts.OpenFault.{OpenFault}
use Rattle.opening.specs.declared.puts.OpenFault.TheVariants as fault
use Rattle.opening.specs.Puts.{HasPut, StopsAt}
use Rattle.frang_hall.specs.declared.room.Finish.{Finish}
use Rattle.frang_hall.specs.Finishing.{Finished, Ran}
use Rattle.hall_scripts.specs.declared.fault.RunFault.{RunFault}
use Rattle.hall_scripts.specs.declared.fault.RunFault.TheVariants as run
use Rattle.hall_scripts.specs.Runs.{AtFirst, Beginning, Ends, InOpening, InRun, Leaves, Opens, RanFrom, RanTo, Stopped, Untouched, Went, came_to, came_to_by, opened_by, outset_of}

-- ---- the opening

pub opens : (from : Beginning) (before after : Outside) (result : Result (Unit {0}) OpenFault) → MatchResult result (λ _. HasPut before after from.puts) (λ fault. StopsAt before after from.puts fault)
    → Opens from before after (opened_by result)
opens from before after (Ok done) puts = puts
opens from before after (Err (fault.Failed sector)) stop = stop
opens from before after (Err fault.NoMemory) stop = stop

module _ (script : List Line) (from : Beginning) (before : Outside) where
  pub stopped : (after : Outside) (fault : RunFault) → Opens from before after (Err fault) → Ends script from before after (Err fault)
  stopped after (run.Mute said) none = absurd none
  stopped after (run.Fault sector) stop = (stop.refused.2.own, inl stop)
  stopped after run.NoMemory stop = InOpening stop

  -- ---- the run

  module _ (opened after : Outside) (puts : HasPut before opened from.puts) where
    abbrev KeptSo : Option End → ℕ → Type 0
    KeptSo over said = Kept (λ moment. Unit {0}) (outset_of script from opened) over said after

    ran_from : (over : Option End) (said : ℕ) → KeptSo over said → RanFrom script from before after over said
    ran_from over said kept = record { opened = opened; puts = puts; kept = kept }

    to : (over : Option End) (said : ℕ) → KeptSo over said → RanTo script from before after over
    to over said kept = record { said = said; ran = ran_from over said kept }

    -- no count rose in the opening
    say_rose : Rose opened.say_faults after.say_faults → Rose before.say_faults after.say_faults
    say_rose rose = subst (λ n. Rose n after.say_faults) puts.counts.says rose

    host_rose : Rose (opened.faults host_party) (after.faults host_party) → Rose (before.faults host_party) (after.faults host_party)
    host_rose rose = subst (λ n. Rose n (after.faults host_party)) (puts.counts.faults host_party) rose

    by_end : (over : Option End) (said : ℕ) (result : Result Finish Want) → KeptSo over said → Finished over said result → Ends script from before after (came_to result)
    by_end None said (Err want) kept finish = InRun (to None said kept)
    by_end (Some end) said (Err want) kept finish = absurd (let none : Some end ≡ None = finish in cc)
    by_end None said (Ok f) kept finish = absurd finish
    by_end (Some Ended) said (Ok f) kept finish = subst (λ x. Ends script from before after (came_to_by x)) (sym finish) (to (Some Ended) said kept)
    by_end (Some Mute) said (Ok f) kept finish = subst (λ x. Ends script from before after (came_to_by x)) (sym finish) (say_rose kept.is.cause, ran_from (Some Mute) said kept)
    by_end (Some (Fault sector)) said (Ok f) kept finish =
        subst (λ x. Ends script from before after (came_to_by x)) (sym finish) (host_rose kept.is.cause.0, inr (to (Some (Fault sector)) said kept))

    pub ran : (result : Result Finish Want) → Ran (setting_of script from.segments from.run) opened after result → Ends script from before after (came_to result)
    ran result r = by_end r.over r.said result r.kept r.finish

  -- ---- whatever the result

  pub leaves : (after : Outside) (result : Result (Unit {0}) RunFault) → Ends script from before after result → Leaves script from before after
  leaves after (Ok done) ran = Went (Some Ended) ran
  leaves after (Err (run.Mute said)) (rose, ran) = Went (Some Mute) (record { said = said; ran = ran })
  leaves after (Err (run.Fault sector)) (rose, inl stop) = Stopped (fault.Failed sector) stop
  leaves after (Err (run.Fault sector)) (rose, inr ran) = Went (Some (Fault sector)) ran
  leaves after (Err run.NoMemory) (AtFirst same) = Untouched same
  leaves after (Err run.NoMemory) (InOpening stop) = Stopped fault.NoMemory stop
  leaves after (Err run.NoMemory) (InRun ran) = Went None ran
