-- The next line of the host, if it has one.
use Rattle.std.proofs.Common.{◌++◌, ap, ◌∙◌}
use Rattle.std.proofs.lemmas.Result.{on_ok_weaker}
use Rattle.std.specs.Option.{option_copied}
use Rattle.core_definitions.specs.Enabled.{only}
use Rattle.core_definitions.specs.Events.{HostLine}
use Rattle.world_list.specs.Listing.{events_of}
use Rattle.world_list.proofs.EndRows.{host_none, host_some}
use Rattle.world_list.proofs.ends.push_host_line.Goals as goal

pub returns-in-Some : goal.returns-in-Some
returns-in-Some c =
    on_ok_weaker c.push_if.result
    (λ added. host_some c.args.world.now c.args.list.now.items c.push_if.new.list.items (option_copied c.next_line.result) c.next_line.ensures c.in-Some.line.now (ap option_copied c.in-Some.is) (added ∙ ap (λ b. events_of c.args.list.now.items ++ only b (HostLine c.in-Some.line.now.number)) c.may_host.ensures)) c.push_if.ensures

pub returns-in-None : goal.returns-in-None
returns-in-None c = host_none c.args.world.now c.args.list.now.items c.args.list.now.items (option_copied c.next_line.result) c.next_line.ensures (ap option_copied c.in-None.is)
