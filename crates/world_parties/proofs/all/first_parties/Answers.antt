-- One server more.
use Rattle.std.proofs.Common.{◌≡◌, None, List, [], ◌∷◌, ◌++◌, map, sym, subst, ap, ◌∙◌}
use Rattle.std.specs.List.{All}
use Rattle.std.proofs.lemmas.List.Elements.{All-push}
use Rattle.world_parties.specs.States.{oldest_of, server_of}
use Rattle.world_parties.specs.declared.party.Party.{Party}
use Rattle.world_parties.proofs.Changing.{first_more, placed_more}
use Rattle.world_parties.proofs.all.first_parties.Goals as goal

all_more : (P : Party → Type 0) (parties more : List Party) (new : Party) → more ≡ parties ++ new ∷ [] → All P parties → P new → All P more
all_more P parties more new is all here = subst (All P) (sym is) (All-push P parties new all here)

pub loop-a-preserved : goal.loop-a-preserved
loop-a-preserved c =
    let parties = c.loop-a.parties.items in
    let new = c.first_party.result in
    record {
      servers = ap (map server_of) c.in_ok-push.ensures.items ∙ first_more parties c.loop-a.a new c.loop-a.invariant.servers c.first_party.ensures.server;
      placed = ap (map (λ (p : Party). p.server.id)) c.in_ok-push.ensures.items ∙ placed_more parties c.loop-a.a new c.loop-a.invariant.placed c.first_party.ensures.id;
      recoveries = all_more (λ (p : Party). p.recovery ≡ None) parties _ new c.in_ok-push.ensures.items c.loop-a.invariant.recoveries c.first_party.ensures.recovery;
      flags = all_more (λ (p : Party). p.server.flying ≡ []) parties _ new c.in_ok-push.ensures.items c.loop-a.invariant.flags c.first_party.ensures.flags;
      plans = all_more (λ (p : Party). p.plan ≡ None) parties _ new c.in_ok-push.ensures.items c.loop-a.invariant.plans c.first_party.ensures.plan;
      oldest = all_more (λ (p : Party). oldest_of p ≡ None) parties _ new c.in_ok-push.ensures.items c.loop-a.invariant.oldest c.first_party.ensures.oldest;
    }
