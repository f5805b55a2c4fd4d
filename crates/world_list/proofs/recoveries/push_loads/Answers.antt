-- Who doesn't work or recovers nothing has none.
use Rattle.std.proofs.Common.{◌++◌, sym, ap, ◌∙◌}
use Rattle.std.specs.List.{flat_map}
use Rattle.std.proofs.lemmas.Result.{on_ok_weaker}
use Rattle.std.specs.Option.{option_copied}
use Rattle.core_definitions.specs.Servers.{is_up}
use Rattle.world_parties.specs.States.{State as Parties, servers_at}
use Rattle.world_list.specs.Listing.{events_of}
use Rattle.world_list.specs.Rows.{party_events}
use Rattle.world_list.specs.Wanting.{load_of}
use Rattle.world_list.specs.declared.row.Row.TheVariants as rows
use Rattle.world_list.proofs.EndRows.{adds_none}
use Rattle.world_list.proofs.RecoveryRows.{loads_none, loads_off, loads_some, worker_party, works}
use Rattle.world_list.proofs.recoveries.push_loads.Goals as goal

pub returns-then-not-is_worker : goal.returns-then-not-is_worker
returns-then-not-is_worker c tree =
    adds_none c.args.list.now.items (party_events c.args.world.now rows.Loads c.args.by.0 tree)
    (loads_off c.args.world.now c.args.by.0 tree (sym (works c.args.world.now c.args.by.0 c.parties.result.now c.is_worker.result c.parties.ensures c.is_worker.ensures) ∙ c.if-not-is_worker.true))

pub recovery-requires : goal.recovery-requires
recovery-requires c = worker_party c.args.by.0 (is_up (servers_at c.parties.result.now c.args.by.0).phase) (sym c.is_worker.ensures ∙ c.if-not-is_worker.false)

pub returns-in-None : goal.returns-in-None
returns-in-None c tree =
    adds_none c.args.list.now.items (party_events c.args.world.now rows.Loads c.args.by.0 tree)
    (loads_none c.args.world.now c.args.by.0 tree (option_copied c.recovery.result) (c.recovery.ensures.core ∙ ap (λ (p : Parties). (servers_at p c.args.by.0).recovery) c.parties-2.ensures) (ap option_copied c.in-None.is))

pub returns-in_ok-wants-in-Some : goal.returns-in_ok-wants-in-Some
returns-in_ok-wants-in-Some c =
    on_ok_weaker c.push_loads_of.result
    (λ added tree. added ∙ ap (λ es. events_of c.args.list.now.items ++ es) (ap (flat_map (load_of c.args.by.0)) (c.deref.ensures.value ∙ c.in_ok-wants-in-Some.ensures)
    ∙ loads_some c.args.world.now c.args.by.0 tree (option_copied c.recovery.result) (c.recovery.ensures.core ∙ ap (λ (p : Parties). (servers_at p c.args.by.0).recovery) c.parties-2.ensures) c.in-Some.demon.now
    (ap option_copied c.in-Some.is) (sym (works c.args.world.now c.args.by.0 c.parties.result.now c.is_worker.result c.parties.ensures c.is_worker.ensures) ∙ c.if-not-is_worker.false)))
    c.push_loads_of.ensures
