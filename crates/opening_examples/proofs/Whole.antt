-- The run of an empty script over a fresh disk: the lines said tell nothing of the history, so the disk is to stand for the fresh tree.
use Rattle.std.proofs.Common.{◌≡◌, [], refl, sym, ap, subst}
use Rattle.tree_definitions.specs.History.{fresh_opening}
use Rattle.tree_definitions.specs.Live.{live_history}
use Rattle.tree_definitions.specs.Removal.{tree_of}
use Rattle.tree_definitions.specs.Transcript.{IsTranscript}
use Rattle.tree_definitions.specs.Tree.{fresh}
use Rattle.disk_definitions.specs.Standing.{StandsFor}
use Rattle.core_definitions.specs.Opening.{moment_of}
use Rattle.core_definitions.specs.Runs.{saids_of}
use Rattle.core_transcripts.specs.Faults.{RunHasItsFaults, run_faults}
use Rattle.core_tree_reads.specs.Examples.{EmptyScriptsReadTheTree, empty_start}
use Rattle.core_tree_reads.specs.Lines.{RunsSayWholeTranscripts, StandsAsTold}
use Rattle.headline_definitions.specs.Beginning.{IsOpening}
use Rattle.opening_laws.specs.Starts.{FreshStartsAreOpenings}
use Rattle.opening_examples.specs.Examples.{EmptyScriptsSayWhole, empty_setting, fresh_left}

module _ (x : EmptyScriptsReadTheTree) (faults : RunHasItsFaults) (whole : RunsSayWholeTranscripts) (openings : FreshStartsAreOpenings) where
  is : IsOpening (fresh_opening 1) fresh_left
  is = openings [] 1 refl

  tree_is : tree_of (fresh_opening 1) (live_history [] 1 (saids_of x.moment.record_)) ≡ fresh 1
  tree_is = ap (λ saids. tree_of (fresh_opening 1) (live_history [] 1 saids)) x.says

  stands : StandsAsTold empty_setting (fresh_opening 1) x.moment
  stands read = record {
    stands = subst (λ tree. StandsFor x.moment.disk tree) (sym tree_is) (subst (λ disk. StandsFor disk (fresh 1)) (sym x.disk) is.stands);
    segments = ap (λ tree. tree.segments) tree_is;
  }

  pub says_whole : EmptyScriptsSayWhole
  says_whole = record {
    moment = x.moment;
    run = x.run;
    read = x.read;
    stands = stands;
    says = x.says;
    faults = run_faults (moment_of empty_start) x.moment x.run;
    whole =
        subst (λ saids. IsTranscript [] (fresh_opening 1) (run_faults (moment_of empty_start) x.moment x.run) saids) x.says
        (whole empty_setting empty_start.disk x.moment x.run (run_faults (moment_of empty_start) x.moment x.run) (fresh_opening 1) (record { apart = refl; hosted = refl })
        (faults (moment_of empty_start) x.moment x.run).1 stands);
  }
