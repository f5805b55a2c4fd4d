-- One stage more, until all are read.
use Rattle.std.proofs.Common.{◌≡◌, ◌<◌, ◌==◌, arith}
use Rattle.std.proofs.lemmas.Bool.{or_left}
use Rattle.frang_base.specs.declared.limits.TheConstants.{SERVERS}
use Rattle.core_definitions.specs.LineGuards.{is_server}
use Rattle.core_definitions.specs.Scripts.{host_party}
use Rattle.world_asks.proofs.Due.{server_is}
use Rattle.world_list.proofs.Staging.{all_read, none_read, one_more}
use Rattle.world_list.proofs.stages.all_stages.Goals as goal

pub loop-a-init : goal.loop-a-init
loop-a-init c = none_read c.args.world.now c.new-stages.result.items c.new-stages.ensures.items

pub stage_at-requires-clause-fresh : goal.stage_at-requires-clause-fresh
stage_at-requires-clause-fresh c =
    let small : c.loop-a.a < SERVERS = omega arith in
    c.requires.fresh c.loop-a.a (or_left (is_server c.loop-a.a) (c.loop-a.a == host_party) (server_is c.loop-a.a small))

pub loop-a-preserved : goal.loop-a-preserved
loop-a-preserved c = one_more c.args.world.now c.loop-a.stages.items c.push.new.self.items c.loop-a.a c.stage_at.result c.loop-a.invariant c.in_ok-push.ensures.items c.stage_at.ensures

pub returns : goal.returns
returns c =
    let all : c.loop-a.a ≡ SERVERS = omega arith in
    all_read c.args.world.now c.loop-a.stages.items c.loop-a.a c.loop-a.invariant all
