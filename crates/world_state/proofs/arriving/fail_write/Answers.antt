-- It counts for a server.
use Rattle.std.proofs.Common.{Bool, if◌then◌else◌, sym, ap, ◌∙◌}
use Rattle.frang_base.specs.Functions.{put}
use Rattle.core_definitions.specs.LineEffects.{failed_by}
use Rattle.world_parties.specs.States.{servers_at}
use Rattle.world_state.specs.Arrivals.{servers_failed}
use Rattle.world_state.proofs.PartySteps.{left_as, left_changed}
use Rattle.world_state.proofs.arriving.fail_write.Goals as goal

pub returns-then-is_server : goal.returns-then-is_server
returns-then-is_server c =
    let flying = c.args.flying.now in
    let old = c.args.parties.now in
    let by = flying.put.server.0 in
    left_as old c.fail.new.self flying (put (servers_at old) by (failed_by (servers_at old by))) (servers_failed old by)
    (left_changed old c.forget_write.new.parties c.fail.new.self flying failed_by c.forget_write.ensures c.fail.ensures.becomes c.fail.ensures.keeps)
    (ap (λ (t : Bool). if t then put (servers_at old) by (failed_by (servers_at old by)) else servers_at old) (sym (sym c.is_server.ensures ∙ c.if-is_server.true)))
