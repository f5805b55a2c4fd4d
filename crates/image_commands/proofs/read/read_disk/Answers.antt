-- By the bytes of the file.
use Rattle.std.proofs.Common.{◌≡◌, subst, sym}
use Rattle.std.specs.Prelude.{length, ◌≤◌}
use Rattle.frang_base.specs.declared.limits.TheConstants.{IMAGE_BYTES_MAX}
use Rattle.frang_outside.specs.Files.{IsFile}
use Rattle.image_commands.proofs.EndLaws.{disk_read, not_read, read_if}
use Rattle.image_commands.proofs.read.read_disk.Goals as goal

pub returns-in-Ok-clause-outcome : goal.returns-in-Ok-clause-outcome
returns-in-Ok-clause-outcome g c =
    let old = g.F.Files.state c.args.files.now in
    let new = g.F.Files.state c.read_bytes.new.files in
    let e = c.deref.ensures.value in
    disk_read old new c.args.image.now c.deref.result.now c.disk_of.result
    (subst (λ xs. length xs ≤ IMAGE_BYTES_MAX) (sym e) c.in-Ok.ensures.outcome.0)
    (subst (λ xs. IsFile old.holds c.args.image.now (λ now. now ≡ xs)) (sym e) c.in-Ok.ensures.outcome.1)
    c.disk_of.ensures.gives

pub returns-in-Err-clause-outcome : goal.returns-in-Err-clause-outcome
returns-in-Err-clause-outcome g c = not_read (g.F.Files.state c.args.files.now) (g.F.Files.state c.read_bytes.new.files) c.args.image.now c.in-Err.end c.in-Err.ensures.outcome

pub returns-in-Ok-clause-read : goal.returns-in-Ok-clause-read
returns-in-Ok-clause-read g c =
    let old = g.F.Files.state c.args.files.now in
    let e = c.deref.ensures.value in
    read_if old.holds c.args.image.now c.deref.result.now c.disk_of.result
    (subst (λ xs. length xs ≤ IMAGE_BYTES_MAX) (sym e) c.in-Ok.ensures.outcome.0)
    (subst (λ xs. IsFile old.holds c.args.image.now (λ now. now ≡ xs)) (sym e) c.in-Ok.ensures.outcome.1)
    c.disk_of.ensures.gives c.disk_of.ensures.again
