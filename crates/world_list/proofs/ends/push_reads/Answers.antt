-- What is needed, at rest.
use Rattle.std.proofs.Common.{◌++◌, map, sym, ap, ◌∙◌}
use Rattle.std.proofs.lemmas.Result.{on_ok_weaker}
use Rattle.core_definitions.specs.Events.{Read}
use Rattle.world_list.specs.Listing.{events_of}
use Rattle.world_list.proofs.EndRows.{adds_none, reads_off, reads_on}
use Rattle.world_list.specs.Rows.{read_events}
use Rattle.world_list.proofs.ends.push_reads.Goals as goal

pub returns-then-is_at_rest : goal.returns-then-is_at_rest
returns-then-is_at_rest c =
    on_ok_weaker c.push_all_reads.result
    (λ added. added ∙ ap (λ es. events_of c.args.list.now.items ++ es) (ap (map Read) c.needed.ensures ∙ reads_on c.args.world.now c.args.tree.now c.requires (sym c.is_at_rest.ensures ∙ c.if-is_at_rest.true))) c.push_all_reads.ensures

pub returns-else-is_at_rest : goal.returns-else-is_at_rest
returns-else-is_at_rest c =
    adds_none c.args.list.now.items (read_events c.args.world.now c.args.tree.now) (reads_off c.args.world.now c.args.tree.now c.requires (sym c.is_at_rest.ensures ∙ c.if-is_at_rest.false))
