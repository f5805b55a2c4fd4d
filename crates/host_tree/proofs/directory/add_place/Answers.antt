-- One entry more at most.
use Rattle.std.proofs.Common.{Some, ap₂, ◌∙◌}
use Rattle.std.proofs.lemmas.Result.{on_ok_weaker}
use Rattle.tree_definitions.specs.Entries.{with_entry}
use Rattle.disk_definitions.specs.Store.{entered}
use Rattle.host_tree.proofs.PlaceByPlace.{few_more}
use Rattle.host_tree.proofs.directory.add_place.Goals as goal

pub returns-in-Some-clause-few : goal.returns-in-Some-clause-few
returns-in-Some-clause-few c =
    on_ok_weaker c.insert.result (λ is. few_more c.args.entries.now c.insert.new.self (Some (entered c.in-Some.entry)) (is ∙ ap₂ (with_entry c.args.entries.now) c.name_of.ensures c.from.ensures)) c.insert.ensures.ok
