-- One server more wants everything.
use Rattle.std.proofs.Common.{length, get_or, refl, ap, ◌∙◌, arith, sym}
use Rattle.std.proofs.lemmas.List.{length-map}
use Rattle.std.proofs.Math.Seq.{map-set_same}
use Rattle.world_parties.specs.States.{oldest_of}
use Rattle.world_parties.specs.declared.party.Party.{Party}
use Rattle.world_parties.proofs.Changing.{flushed_more}
use Rattle.world_parties.proofs.all.want_all.Goals as goal

pub loop-i-preserved : goal.loop-i-preserved
loop-i-preserved c =
    let first = c.args.parties.now in
    let now = c.loop-i.parties in
    let d = c.index-parties-i.result in
    let new = c.want_all_if_up.new.self in
    let long = sym (length-map now (λ (p : Party). p.server.id)) ∙ ap length c.loop-i.invariant.placed ∙ length-map first (λ (p : Party). p.server.id) in
    record {
      servers = flushed_more first now c.loop-i.i d (get_or now c.loop-i.i d) new (omega (arith, long, c.loop-i-test.true)) long c.loop-i.invariant.servers refl c.want_all_if_up.ensures.server;
      placed = map-set_same (λ (p : Party). p.server.id) now c.loop-i.i new d c.want_all_if_up.ensures.id ∙ c.loop-i.invariant.placed;
      recoveries = map-set_same (λ (p : Party). p.recovery) now c.loop-i.i new d c.want_all_if_up.ensures.recovery ∙ c.loop-i.invariant.recoveries;
      flags = map-set_same (λ (p : Party). p.server.flying) now c.loop-i.i new d c.want_all_if_up.ensures.flags ∙ c.loop-i.invariant.flags;
      plans = map-set_same (λ (p : Party). p.plan) now c.loop-i.i new d c.want_all_if_up.ensures.plan ∙ c.loop-i.invariant.plans;
      oldest = map-set_same oldest_of now c.loop-i.i new d c.want_all_if_up.ensures.oldest ∙ c.loop-i.invariant.oldest;
    }
