-- The host fetches nothing; a server what its line needs, and then the slots of its log.
use Rattle.std.proofs.Common.{sym, ◌∙◌, ap}
use Rattle.std.proofs.lemmas.Result.{on_ok_weaker}
use Rattle.world_parties.specs.States.{State as Parties, servers_at}
use Rattle.world_list.proofs.FetchRows.{fetches_added, fetches_none}
use Rattle.world_list.proofs.fetches.push_fetches.Goals as goal

pub returns-then-not-is_server : goal.returns-then-not-is_server
returns-then-not-is_server c = fetches_none c.args.world.now c.args.a.0 c.args.list.now.items (sym c.is_server.ensures ∙ c.if-not-is_server.true)

pub returns : goal.returns
returns c =
    on_ok_weaker c.push_slots.result
    (fetches_added c.args.world.now c.args.a.0 c.get.result.now (sym c.is_server.ensures ∙ c.if-not-is_server.false) (c.get.ensures.server ∙ ap (λ (p : Parties). servers_at p c.args.a.0) c.parties.ensures) c.args.list.now.items c.push_needs.new.list.items c.push_slots.new.list.items
    c.in_ok-push_needs.ensures) c.push_slots.ensures
