-- What the inode shows is what the next node is asked for.
use Rattle.std.proofs.Common.{◌≡◌, ℕ, Some, sym, ◌∙◌, ap₂}
use Rattle.std.proofs.lemmas.Result.{IfOk-weaker, on_err_weaker}
use Rattle.disk_definitions.specs.Store.{stored}
use Rattle.disk_reading.specs.Lined.{shown_in}
use Rattle.disk_reading.specs.Seen.{store_in}
use Rattle.disk_reading.proofs.NodeLines.{inode_shown}
use Rattle.disk_reading.proofs.lines.inode_line.Goals as goal

pub returns-clause-ok : goal.returns-clause-ok
returns-clause-ok c =
    let s = store_in c.args.segments c.args.disk.now in
    let x = c.args.inode.now in
    let at = c.requires.next in
    IfOk-weaker c.show.result _ _
    (λ line says. says (shown_in s) at.0 at.1 (inode_shown s (stored x) at.0 at.2 ∙ ap₂ (λ (links : ℕ) es. Some (record { kind = x.kind; size = x.size; links = links; entries = es })) (sym c.links_shown.ensures) (sym c.in_ok-entries.ensures)))
    c.show.ensures.ok
