-- By the run over the outside that keeps its lines, and by what that gives back.
use Rattle.std.proofs.Common.{refl, sym, subst}
use Rattle.quiet_outside.specs.KeptLines.{GivesBack, first_over, quiet_state}
use Rattle.hall_scripts.specs.Runs.{Ends}
use Rattle.run_commands.specs.Soaking.{soak_beginning}
use Rattle.run_commands.proofs.soaking.soak.Goals as goal

pub returns : goal.returns
returns g c =
    let out = g.O.Outside.state c.args.out in
    let quiet = quiet_state g.O.Outside.state c.run_script-ended.result.1 in
    let ended = c.run_script-ended.result.0 in
    c.end_soak.ensures out
    (record {
      quiet = quiet;
      calm = refl;
      ends =
          subst (λ script. Ends script soak_beginning (first_over out 0) quiet ended) c.in-Ok.ensures
          (subst (λ first. Ends c.in-Ok.script soak_beginning first quiet ended) c.new-quiet.ensures.state c.run_script-ended.ensures.ends);
      gives = subst (λ lines. GivesBack quiet (g.O.Outside.state c.parts-out.result.0) lines) (sym c.deref.ensures.value) c.parts-out.ensures.gives;
    })
