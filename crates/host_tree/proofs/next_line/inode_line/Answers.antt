-- What the inode shows is what the next node is asked for.
use Rattle.std.proofs.Common.{ℕ, Some, sym, ◌∙◌, ap, ap₂}
use Rattle.std.specs.Option.{option_map}
use Rattle.std.proofs.lemmas.Result.{IfOk-weaker}
use Rattle.host_tree.specs.Reading.{store_read}
use Rattle.host_tree.specs.Saying.{shown_in, shown_of}
use Rattle.host_tree.proofs.next_line.inode_line.Goals as goal

pub returns-clause-ok : goal.returns-clause-ok
returns-clause-ok c =
    let t = c.args.sectors.now in
    let s = store_read t.segments t.read in
    let x = c.args.inode.now in
    let at = c.requires.next in
    IfOk-weaker c.show.result _ _
    (λ line says. says (shown_in s) at.0 at.1 (ap (option_map (shown_of s)) at.2 ∙ ap₂ (λ (links : ℕ) es. Some (record { kind = x.kind; size = x.size; links = links; entries = es })) (sym c.links_shown.ensures) (sym c.in_ok-entries.ensures)))
    c.show.ensures.ok
