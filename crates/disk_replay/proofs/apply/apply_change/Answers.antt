-- The sector is set where it is older and a replay changes it, and else nothing is.
use Rattle.std.proofs.Common.{◌≤◌, sym, ap, ◌∙◌, subst}
use Rattle.std.proofs.lemmas.Result.{on_ok_weaker}
use Rattle.sector_bytes.specs.Changes.{applied}
use Rattle.sector_bytes.specs.Blocks.{version_of}
use Rattle.sector_bytes.specs.Sectors.{sectors_of}
use Rattle.disk_replay.proofs.LaidChanges.{none_laid, none_newer, set_laid}
use Rattle.disk_replay.proofs.apply.apply_change.Goals as goal

pub returns-then-not-is_changed : goal.returns-then-not-is_changed
returns-then-not-is_changed c = none_laid c.args.segments (sectors_of c.args.disk.now) c.args.change.now (sym c.is_changed.ensures ∙ c.if-not-is_changed.true)

pub returns-in-Applied : goal.returns-in-Applied
returns-in-Applied c =
    let change = c.args.change.now in
    let es = c.args.disk.now in
    let laid = set_laid c.args.segments es change c.apply.new.block (sym c.is_changed.ensures ∙ c.if-not-is_changed.false) (c.apply.ensures.block ∙ ap (λ b. applied b change) c.get-block.ensures) in
    on_ok_weaker c.set.result (λ e sector. ap (λ s. sectors_of s sector) e ∙ laid sector) c.set.ensures.ok

pub returns-in-Skipped : goal.returns-in-Skipped
returns-in-Skipped c =
    let change = c.args.change.now in
    none_newer c.args.segments (sectors_of c.args.disk.now) change (subst (λ b. change.version ≤ version_of b) c.get-block.ensures (c.apply.ensures.skipped.0 c.in-Skipped.is))
