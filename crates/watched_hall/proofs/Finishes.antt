-- What was read of a run's record, and the last behind the close; and the run of a hall under its name.
use Rattle.std.proofs.Common.{◌≡◌, ◌∙◌, ◌⊎◌, inl, inr, ℕ, ◌+◌, List, [], ◌∷◌, ◌++◌, length, Option, Some, None, Result, Ok, Err, refl, sym, ap, subst, length-append}
use Rattle.std.specs.Global.{Vec}
use Rattle.frang_base.specs.declared.fault.NoMemory.{NoMemory}
use Rattle.frang_outside.specs.Outside.{State as Outside}
use Rattle.frang_board.specs.declared.figures.Figures.{Figures}
use Rattle.frang_board.specs.Figures.{Reads, last_of, zeros}
use Rattle.core_definitions.specs.Effects.{Deed}
use Rattle.core_definitions.specs.Runs.{State as RunMoment}
use Rattle.core_definitions.specs.Settings.{Setting}
use Rattle.hall_runs.specs.declared.event.End.{End}
use Rattle.hall_runs.specs.Keeping.{KeptAt, Kept}
use Rattle.hall_runs.specs.Outsets.{Outset}
use Rattle.frang_hall.specs.declared.room.Finish.{Finish}
use Rattle.frang_hall.specs.Finishing.{Finished}
use Rattle.frang_hall.specs.Machines.{Stands}
use Rattle.watched_hall.specs.Counting.{figures_in}
use Rattle.watched_hall.specs.Desks.{AreOfPrefixes, IsDesk, IsPosted}
use Rattle.watched_hall.specs.Watching.{Came, IsWatched, Watched, WatchedRun}
use Rattle.watched_hall.proofs.Prefixes.{last_push, prefixes_push, read_of}

-- reads of what was posted, and behind them the last of it
watched : (deeds : List Deed) (reads : ℕ) (posted read list : List Figures) (last : Figures) → IsPosted deeds posted → Reads posted read → length read ≡ reads → last ≡ last_of posted → list ≡ read ++ last ∷ []
    → IsWatched deeds reads list
watched deeds reads posted read list last p r count is are =
    let end : last ≡ figures_in deeds = is ∙ p.last in
    let whole : list ≡ read ++ figures_in deeds ∷ [] = are ∙ ap (λ f. read ++ f ∷ []) end in
    record {
      count = ap length whole ∙ length-append read (figures_in deeds ∷ []) ∙ ap (λ n. n + 1) count;
      prefixes = subst (AreOfPrefixes deeds) (sym whole) (prefixes_push deeds read (read_of deeds posted read p.prefixes r));
      last = ap last_of whole ∙ last_push zeros read (figures_in deeds);
    }

module _ (stands : Stands) (outset : Outset) (before over : Option End) (reads said : ℕ) (now : Outside) where
  -- the hall is over
  pub watched_over : (posted read : List Figures) (list : Vec Figures) (last : Figures) (finish : Finish) → IsDesk stands outset over said now posted → Reads posted read → length read ≡ reads → last ≡ last_of posted
      → list.items ≡ read ++ last ∷ [] → Finished over said (Ok finish) → Watched stands outset before reads over said now (Ok (finish, list))
  watched_over posted read list last finish desk r count is are finished = record {
    moment = desk.moment;
    is = desk.is;
    came = (finished, watched desk.moment.record_ reads posted read list.items last desk.posted r count is are);
  }

  -- memory was wanting in the run
  pub watched_short : (posted : List Figures) (want : NoMemory) → IsDesk stands outset over said now posted → over ≡ None → Watched stands outset before reads over said now (Err want)
  watched_short posted want desk none = record { moment = desk.moment; is = desk.is; came = inl none }

  -- or before it
  pub watched_none : (want : NoMemory) → Kept stands outset over said now → over ≡ before → Watched stands outset before reads over said now (Err want)
  watched_none want kept same = record { moment = kept.moment; is = kept.is; came = inr same }

-- ---- under a name

module _ (stands : Stands) (outset : Outset) (reads : ℕ) (over : Option End) (said : ℕ) (now : Outside) where
  only_kept : (moment : RunMoment) → KeptAt stands outset moment over said now → KeptAt (λ r. Unit {0}) outset moment over said now
  only_kept moment is = record { runs = is.runs; stands_for = tt; count = is.count; cause = is.cause; host = is.host }

  pub watched_run : (result : Result (Finish × Vec Figures) NoMemory) → Watched stands outset None reads over said now result → WatchedRun outset.setting outset.outside now reads result
  watched_run result w = record { over = over; said = said; kept = record { moment = w.moment; is = only_kept w.moment w.is }; came = w.came }
