-- Only a lock that is asked for may be given.
use Rattle.std.proofs.Common.{◌≡◌, ap, ◌∙◌}
use Rattle.std.proofs.lemmas.Result.{on_ok_weaker}
use Rattle.lock_definitions.specs.Calls.{revokes}
use Rattle.lock_definitions.specs.Locks.{Locks}
use Rattle.world_list.proofs.Given.{gives_added}
use Rattle.world_list.proofs.gives.push_gives.Goals as goal

pub returns : goal.returns
returns c =
    let are : c.deref.result.now ≡ revokes c.args.world.now.locks.locks c.args.a.0 = c.deref.ensures.value ∙ c.in_ok-asked.ensures ∙ ap (λ (l : Locks). revokes l c.args.a.0) c.locks.ensures in
    on_ok_weaker c.push_given.result (gives_added c.args.world.now c.args.a.0 c.deref.result.now c.args.list.now.items c.push_given.new.list.items are) c.push_given.ensures
