-- Sixteen servers are there, and none was ever mounted.
use Rattle.std.proofs.Common.{length, ap, ◌∙◌}
use Rattle.std.proofs.lemmas.List.{length-replicate}
use Rattle.frang_base.specs.declared.limits.TheConstants.{SERVERS}
use Rattle.std.proofs.Common.{false}
use Rattle.world_parties.proofs.Keeping.{bare_first}
use Rattle.world_parties.proofs.Changing.{first_servers, kept_first, none_held}
use Rattle.world_parties.proofs.parties.Parties.new.Goals as goal

pub invariant_of-result : goal.invariant_of-result
invariant_of-result c =
    kept_first c.args.segments c.in_ok-list.list.items c.in_ok-held.held.items c.in_ok-list.ensures.placed c.in_ok-list.ensures.recoveries c.requires
    (ap length c.in_ok-held.ensures ∙ length-replicate SERVERS false)

pub returns-clause-servers : goal.returns-clause-servers
returns-clause-servers c = first_servers c.args.segments c.in_ok-list.list.items c.in_ok-held.held.items c.in_ok-list.ensures.servers

pub returns-clause-held : goal.returns-clause-held
returns-clause-held c = none_held c.in_ok-held.held.items SERVERS c.in_ok-held.ensures

pub returns-clause-bare : goal.returns-clause-bare
returns-clause-bare c = bare_first c.args.segments c.in_ok-list.list.items c.in_ok-held.held.items c.in_ok-list.ensures.flags c.in_ok-list.ensures.recoveries c.in_ok-list.ensures.plans c.in_ok-list.ensures.oldest
