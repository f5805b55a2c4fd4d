-- It is kept.
use Rattle.std.proofs.Common.{Some, IfSome, refl, sym, subst, ap, ◌∙◌}
use Rattle.std.specs.List.{slice_get}
use Rattle.clerk_cache.specs.Dropping.{numbers_of}
use Rattle.core_definitions.specs.Servers.{Server}
use Rattle.line_stages.specs.Oldest.{AreOldest}
use Rattle.world_parties.specs.States.{IsPut}
use Rattle.world_state.specs.States.{State, core_at}
use Rattle.world_state.proofs.Planning.{fits_again, kept_put, of_party, unchanged_is}
use Rattle.world_state.proofs.world.World.keep_oldest.Goals as goal

pub put-requires-clause-fits : goal.put-requires-clause-fits
put-requires-clause-fits c =
    fits_again c.self.inside.parties.segments c.take-party.new.self.segments c.args.a.0 c.take-party.result.recovery _ c.take-party.ensures.fits c.take-party.ensures.others.stays.segments refl

pub invariant_of-self : goal.invariant_of-self
invariant_of-self c =
    let s : State = record { places = c.self.inside.places; run = c.self.inside.run; tick = c.self.inside.tick; parties = c.self.inside.parties; locks = c.self.inside.locks; flights = c.self.inside.flights; ticks = c.self.inside.ticks; over = c.self.inside.over } in
    let P : State → Type 0 = λ s. AreOldest ((core_at s).servers c.args.a.0).ring (numbers_of c.args.oldest.items) in
    let Q : Server → Type 0 = λ server. AreOldest server.ring (numbers_of c.args.oldest.items) in
    kept_put s c.put.new.self c.args.a.0 c.take-party.result (record c.take-party.result { oldest = Some c.args.oldest }) c.self.invariant c.requires.server c.take-party.ensures.party (c.put.ensures.put c.self.inside.parties c.take-party.ensures.others) refl refl
    (λ k. k) (λ k. subst Q (sym c.take-party.ensures.server) (subst P (sym c.self.view_is) c.requires.oldest))

pub returns-clause-core : goal.returns-clause-core
returns-clause-core c =
    let s : State = record { places = c.self.inside.places; run = c.self.inside.run; tick = c.self.inside.tick; parties = c.self.inside.parties; locks = c.self.inside.locks; flights = c.self.inside.flights; ticks = c.self.inside.ticks; over = c.self.inside.over } in
    unchanged_is s c.put.new.self c.args.a.0 c.take-party.result (record c.take-party.result { oldest = Some c.args.oldest }) c.take-party.ensures.server (c.put.ensures.becomes c.self.inside.parties c.take-party.ensures.others) refl ∙ ap core_at c.self.view_is

pub returns-clause-put : goal.returns-clause-put
returns-clause-put c =
    let P : State → Type 0 = λ s. IfSome (slice_get s.parties.parties c.args.a.0) (λ party. IsPut s.parties c.put.new.self c.args.a.0 (record party { oldest = Some c.args.oldest })) in
    subst P c.self.view_is (of_party c.self.inside.parties c.args.a.0 c.take-party.result (λ party. IsPut c.self.inside.parties c.put.new.self c.args.a.0 (record party { oldest = Some c.args.oldest })) c.take-party.ensures.party
    (c.put.ensures.put c.self.inside.parties c.take-party.ensures.others))
