-- A run of a script is one of the core from its opening, so the laws of all runs speak of it; no count rose in the opening.
use Rattle.std.proofs.Common.{◌≡◌, ◌≤◌, ℕ, List, Option, subst, arith}
use Rattle.frang_base.specs.declared.script.Line.{Line}
use Rattle.frang_outside.specs.Outside.{State as Outside}
use Rattle.core_definitions.specs.Faults.{failed_calls}
use Rattle.core_definitions.specs.Runs.{State as RunMoment, Run}
use Rattle.core_definitions.specs.Settings.{Setting, setting_of}
use Rattle.core_laws.specs.Facts.{PutsComeInTime}
use Rattle.core_laws.specs.Laws.{HoldersAreCompatible}
use Rattle.core_transcripts.specs.Transcripts.{IsNumbered}
use Rattle.core_transcripts.specs.Within.{RunsAreWithinTheirFaults}
use Rattle.hall_runs.specs.declared.event.End.{End}
use Rattle.hall_runs.specs.Outsets.{IsWithin, first_of}
use Rattle.hall_scripts.specs.Lawful.{IsLawful, WhatIsLeftIsLawful}
use Rattle.hall_scripts.specs.Runs.{Beginning, RanFrom, outset_of}

no_more : (n : ℕ) → n ≤ n
no_more n = omega arith

module _ (script : List Line) (from : Beginning) (before after : Outside) (over : Option End) (said : ℕ) (ran : RanFrom script from before after over said) where
  abbrev setting : Setting
  setting = setting_of script from.segments from.run

  abbrev first : RunMoment
  first = first_of (outset_of script from ran.opened)

  abbrev moment : RunMoment
  moment = ran.kept.moment

  abbrev run : Run first moment
  run = ran.kept.is.runs.run

  abbrev rise : ℕ → ℕ
  rise party = failed_calls first moment run party

  lawful_run : RunsAreWithinTheirFaults → PutsComeInTime → HoldersAreCompatible → IsNumbered script → IsLawful script from before after over said ran
  lawful_run within timely compatible numbered = record {
    rise = rise;
    counted = λ party. subst (λ n. IsWithin n (rise party) (after.faults party)) (ran.puts.counts.faults party) (ran.kept.is.runs.faults party);
    transcript = λ opening. within setting ran.opened.sectors moment run opening rise numbered (λ party. no_more (rise party));
    timely = timely setting ran.opened.sectors moment run;
    compatible = λ at to on. compatible setting ran.opened.sectors at to;
  }

pub lawful : RunsAreWithinTheirFaults → PutsComeInTime → HoldersAreCompatible → WhatIsLeftIsLawful
lawful within timely compatible script from before after numbered over said ran = lawful_run script from before after over said ran within timely compatible numbered
