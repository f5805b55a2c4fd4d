-- Step by step: what is due of a server, and what is said.
use Rattle.std.proofs.Common.{ℕ, ◌≤◌, ◌<◌, arith}
use Rattle.tree_definitions.specs.Transcript.{io_answers, unexplained_deaths}
use Rattle.core_definitions.specs.Runs.{first_state, saids_of}
use Rattle.core_definitions.specs.Faults.{failed_calls}
use Rattle.core_transcripts.specs.Faults.{run_faults}
use Rattle.core_transcripts.proofs.Along.{deaths_within, io_within, some_failed}
use Rattle.core_transcripts.proofs.faults.runs_are_within_their_faults.Goals as goal

most : (a b c : ℕ) → a ≤ b → b ≤ c → a ≤ c
most a b c h k = omega (arith, h, k)

rises : (a b : ℕ) → 0 < a → a ≤ b → 0 < b
rises a b h k = omega (arith, h, k)

pub returns : goal.returns
returns c = record {
  within = λ setting disk s run opening rise numbered counts.
      let theirs = c.runs_have_their_faults.ensures.theirs (first_state setting disk) s run in
      record {
        counted = record {
          stay = theirs.0.stay;
          counted = λ place server e.
              rises (failed_calls (first_state setting disk) s run server) (rise server) (some_failed (first_state setting disk) s run server (theirs.0.counted place server e)) (counts server);
        };
        transcript = c.records_are_transcripts.ensures.transcripts setting disk s run (run_faults (first_state setting disk) s run) opening numbered theirs.1;
        within = record {
          answers = λ server. most (io_answers server (saids_of s.record_)) (failed_calls (first_state setting disk) s run server) (rise server)
              (io_within opening setting disk numbered c.who_rests_has_nothing.ensures.landed s run server) (counts server);
          deaths = λ server. most (unexplained_deaths setting.script server (saids_of s.record_)) (failed_calls (first_state setting disk) s run server) (rise server)
              (deaths_within opening setting disk numbered c.who_rests_has_nothing.ensures.landed s run server) (counts server);
        };
      };
}
