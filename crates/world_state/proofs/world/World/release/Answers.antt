-- The lock is released, and what was cached under it is dropped.
use Rattle.std.proofs.Common.{◌≡◌, false, sym, subst, ap, ◌∙◌}
use Rattle.cache_definitions.specs.Caches.{any_cached, is_dirty_under}
use Rattle.lock_definitions.specs.Calls.{asked_for}
use Rattle.core_definitions.specs.WriteEffects.{given}
use Rattle.world_state.specs.States.{State, core_at}
use Rattle.world_state.proofs.Guarding.{asked_is_held, gives_clean, gives_server}
use Rattle.world_state.proofs.Effects.{released_is}
use Rattle.world_state.proofs.Lasting.{parties_last}
use Rattle.world_state.proofs.world.World.release.Goals as goal

pub release-requires : goal.release-requires
release-requires c = asked_is_held c.self.inside.locks.locks c.args.a.0 c.args.lock (ap (λ (s : State). asked_for s.locks.locks c.args.a.0 c.args.lock) c.self.view_is ∙ c.requires.asked)

pub drop_under-requires-clause-server : goal.drop_under-requires-clause-server
drop_under-requires-clause-server c = gives_server (core_at c.args.self.now) c.args.a.0 c.args.lock c.requires.given

pub drop_under-requires-clause-clean : goal.drop_under-requires-clause-clean
drop_under-requires-clause-clean c =
    let P : State → Type 0 = λ s. any_cached (is_dirty_under c.args.lock) ((core_at s).servers c.args.a.0).cache ≡ false in
    subst P (sym c.self.view_is) (gives_clean (core_at c.args.self.now) c.args.a.0 c.args.lock c.requires.given)

pub invariant_of-self : goal.invariant_of-self
invariant_of-self c =
    let s : State = record { places = c.self.inside.places; run = c.self.inside.run; tick = c.self.inside.tick; parties = c.self.inside.parties; locks = c.self.inside.locks; flights = c.self.inside.flights; ticks = c.self.inside.ticks; over = c.self.inside.over } in
    parties_last s c.drop_under.new.self c.release.new.self c.self.invariant c.drop_under.ensures.keeps c.drop_under.ensures.becomes.stays.segments

pub returns : goal.returns
returns c =
    let s : State = record { places = c.self.inside.places; run = c.self.inside.run; tick = c.self.inside.tick; parties = c.self.inside.parties; locks = c.self.inside.locks; flights = c.self.inside.flights; ticks = c.self.inside.ticks; over = c.self.inside.over } in
    released_is s c.drop_under.new.self c.release.new.self c.args.a.0 c.args.lock c.drop_under.ensures.becomes c.release.ensures.locks
    (ap (λ (s : State). asked_for s.locks.locks c.args.a.0 c.args.lock) c.self.view_is ∙ c.requires.asked) ∙ ap (λ (s : State). given (core_at s) c.args.a.0 c.args.lock) c.self.view_is
