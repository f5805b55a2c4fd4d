-- By the bytes of the file.
use Rattle.std.proofs.Common.{◌≡◌, ◌≤◌, length, subst, sym}
use Rattle.frang_base.specs.declared.limits.TheConstants.{SCRIPT_BYTES_MAX}
use Rattle.frang_outside.specs.Files.{IsFile}
use Rattle.run_commands.proofs.ReadScripts.{script_read}
use Rattle.run_commands.proofs.scripts.script_of_file.Goals as goal

pub returns-in-Ok-clause-outcome : goal.returns-in-Ok-clause-outcome
returns-in-Ok-clause-outcome g c =
    let old = g.F.Files.state c.args.files.now in
    let e = c.deref.ensures.value in
    script_read old (g.F.Files.state c.read.new.self) c.args.name.now c.deref.result.now c.script_in.result
    (subst (λ xs. length xs ≤ SCRIPT_BYTES_MAX) (sym e) c.in-Ok.ensures.outcome.0)
    (subst (λ xs. IsFile old.holds c.args.name.now (λ now. now ≡ xs)) (sym e) c.in-Ok.ensures.outcome.1)
    c.script_in.ensures.gives
