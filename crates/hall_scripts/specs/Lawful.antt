-- What the laws of all runs of the core say of a run of a script and of what it leaves in an outside.
use Rattle.std.specs.Prelude.{ℕ, List, Option}
use Rattle.frang_base.specs.declared.script.Line.{Line}
use Rattle.frang_outside.specs.Outside.{State as Outside}
use Rattle.tree_definitions.specs.History.{Opening}
use Rattle.core_definitions.specs.Runs.{State as RunMoment, Run, saids_of}
use Rattle.core_laws.specs.Facts.{AreTimely}
use Rattle.lock_definitions.specs.Locks.{AreCompatible}
use Rattle.core_transcripts.specs.Faults.{run_faults}
use Rattle.core_transcripts.specs.Transcripts.{IsNumbered}
use Rattle.core_transcripts.specs.Within.{IsFaultyTranscript}
use Rattle.hall_runs.specs.declared.event.End.{End}
use Rattle.hall_runs.specs.Outsets.{IsWithin, first_of}
use Rattle.hall_scripts.specs.Runs.{Beginning, RanFrom, outset_of}

-- of a run that leaves this: the lines said are a transcript of the script, but for which lines of the tree they are, and within faults that rose no more than the outside's counts; each put
-- came when its answer says; and at each moment no lock is held sole by one server and in any mode by another
pub record IsLawful (script : List Line) (from : Beginning) (before after : Outside) (over : Option End) (said : ℕ) (ran : RanFrom script from before after over said) : Type 0 where
  pub rise : ℕ → ℕ
  pub counted : (party : ℕ) → IsWithin (before.faults party) (rise party) (after.faults party)
  pub transcript :
      (opening : Opening) →
      IsFaultyTranscript script opening rise (run_faults (first_of (outset_of script from ran.opened)) ran.kept.moment ran.kept.is.runs.run) (saids_of ran.kept.moment.record_)
  pub timely : AreTimely ran.kept.moment.record_
  pub compatible : (moment : RunMoment) → Run (first_of (outset_of script from ran.opened)) moment → Run moment ran.kept.moment → AreCompatible moment.core.locks

-- each run that leaves it is so
abbrev pub RunsAreLawful : List Line → Beginning → Outside → Outside → Type 0
RunsAreLawful script from before after = (over : Option End) (said : ℕ) (ran : RanFrom script from before after over said) → IsLawful script from before after over said ran

-- where the script's lines have numbers of their own and the host's ask what a host is asked
abbrev pub WhatIsLeftIsLawful : Type 0
WhatIsLeftIsLawful = (script : List Line) (from : Beginning) (before after : Outside) → IsNumbered script → RunsAreLawful script from before after
