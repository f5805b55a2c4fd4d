-- The line is committed.
use Rattle.std.proofs.Common.{◌≡◌, ℕ, List, Option, IfSome, IsSomeAnd, refl, sym, subst, ap, ◌∙◌}
use Rattle.clerk_cache.specs.Dropping.{numbers_of}
use Rattle.flight_laws.specs.Flights.{flights_of, moved_all}
use Rattle.core_definitions.specs.Cores.{next_of}
use Rattle.core_definitions.specs.LineEffects.{committed, committed_by, number_under}
use Rattle.core_definitions.specs.Servers.{Server}
use Rattle.frang_base.specs.declared.lock.LockId.{LockId}
use Rattle.frang_base.specs.declared.script.Line.{Line}
use Rattle.frang_base.specs.declared.sector.Sector.{Sector}
use Rattle.kept_plans.specs.Outcomes.{IsOutcomeOf}
use Rattle.kept_plans.specs.declared.kept.KeptPlan.{KeptPlan}
use Rattle.line_stages.specs.Stages.{ComesTo}
use Rattle.script_places.specs.Placed.{IsMarked}
use Rattle.server_core.specs.Outcomes.{moves_of}
use Rattle.world_parties.specs.States.{AreAmong, Becomes, PartyKeeps, plan_at, recovery_in, server_of, servers_at}
use Rattle.world_parties.specs.declared.party.Party.{Party}
use Rattle.world_parties.proofs.Flagging.{party_forgets}
use Rattle.world_parties.proofs.Keeping.{View, found_at}
use Rattle.world_state.specs.Rooms.{HasCommitRoom, IsNextLine, MayCommitPlan}
use Rattle.world_state.specs.States.{State, core_at}
use Rattle.world_state.proofs.Committing.{commit_lasts, committed_is, freed_among, next_inside}
use Rattle.world_state.proofs.Planning.{fits_again, party_has, some_and}
use Rattle.world_state.proofs.world.World.commit.Goals as goal

pub commit-reply-requires : goal.commit-reply-requires
commit-reply-requires c = c.in-Some.ensures.may c.take-party.result.server (subst (MayCommitPlan c.take-party.result.server) (sym c.take.ensures.value)
    (party_has c.self.inside.parties c.args.a.0 c.take-party.result (λ party. MayCommitPlan party.server party.plan) c.take-party.ensures.party (let Q : State → Type 0 = λ s. HasCommitRoom s c.args.a.0 in (subst Q (sym c.self.view_is) c.requires.room).plan)))

pub unreachable-requires : goal.unreachable-requires
unreachable-requires c = c.in-None.ensures.may c.take-party.result.server (subst (MayCommitPlan c.take-party.result.server) (sym c.take.ensures.value)
    (party_has c.self.inside.parties c.args.a.0 c.take-party.result (λ party. MayCommitPlan party.server party.plan) c.take-party.ensures.party (let Q : State → Type 0 = λ s. HasCommitRoom s c.args.a.0 in (subst Q (sym c.self.view_is) c.requires.room).plan)))

pub put-requires-clause-fits : goal.put-requires-clause-fits
put-requires-clause-fits c =
    fits_again c.self.inside.parties.segments c.take-party.new.self.segments c.args.a.0 c.take-party.result.recovery _ c.take-party.ensures.fits c.take-party.ensures.others.stays.segments (ap (λ (p : Party). p.recovery) c.forget.ensures)

pub answer-requires : goal.answer-requires
answer-requires c =
    let s : State = record { places = c.self.inside.places; run = c.self.inside.run; tick = c.self.inside.tick; parties = c.self.inside.parties; locks = c.self.inside.locks; flights = c.self.inside.flights; ticks = c.self.inside.ticks; over = c.self.inside.over } in
    let number : c.line_number-number.result ≡ number_under ((core_at s).servers c.args.a.0).under = c.line_number-number.ensures ∙ ap (λ (x : Server). number_under x.under) c.take-party.ensures.server in
    let Q : State → Type 0 = λ s. IsNextLine s c.args.a.0 in
    let R : ℕ → Type 0 = λ n. IsSomeAnd (next_of (core_at s) c.args.a.0) (λ line. line.number ≡ n) in
    subst R (sym number) (subst Q (sym c.self.view_is) c.requires.room.next)

pub invariant_of-self : goal.invariant_of-self
invariant_of-self c =
    let s : State = record { places = c.self.inside.places; run = c.self.inside.run; tick = c.self.inside.tick; parties = c.self.inside.parties; locks = c.self.inside.locks; flights = c.self.inside.flights; ticks = c.self.inside.ticks; over = c.self.inside.over } in
    let among : AreAmong c.commit-reply.new.self.flying c.take-party.result.server.flying =
    subst (λ (xs : List ℕ). AreAmong xs c.take-party.result.server.flying) (sym c.commit-reply.ensures.flying) (freed_among (numbers_of c.in-Some.outcome.freed) c.take-party.result.server.flying) in
    let keeps : PartyKeeps c.take-party.result c.forget.new.self = subst (PartyKeeps c.take-party.result) (sym c.forget.ensures) (party_forgets c.take-party.result _ among refl refl refl) in
    commit_lasts s c.answer.new.self c.put.new.self c.move_covers.new.flights c.args.a.0 c.line_number-number.result (moves_of c.deref.result.now) c.self.invariant
    (c.put.ensures.keeps c.self.inside.parties c.take-party.ensures.others (some_and _ c.take-party.result (λ old. PartyKeeps old c.forget.new.self) c.take-party.ensures.party keeps))
    (c.put.ensures.becomes c.self.inside.parties c.take-party.ensures.others).stays.segments c.move_covers.ensures.flying c.answer.ensures

pub returns-clause-core : goal.returns-clause-core
returns-clause-core c of_core comes =
    let s : State = record { places = c.self.inside.places; run = c.self.inside.run; tick = c.self.inside.tick; parties = c.self.inside.parties; locks = c.self.inside.locks; flights = c.self.inside.flights; ticks = c.self.inside.ticks; over = c.self.inside.over } in
    let number : c.line_number-number.result ≡ number_under ((core_at s).servers c.args.a.0).under = c.line_number-number.ensures ∙ ap (λ (x : Server). number_under x.under) c.take-party.ensures.server in
    let Q : State → Type 0 = λ s. IsNextLine s c.args.a.0 in
    let R : ℕ → Type 0 = λ n. IsSomeAnd (next_of (core_at s) c.args.a.0) (λ line. line.number ≡ n) in
    let known : plan_at c.args.self.now.parties c.args.a.0 ≡ c.take.result =
    ap (λ (s : State). plan_at s.parties c.args.a.0) (sym c.self.view_is) ∙ ap (λ (v : View). v.plan) (found_at c.self.inside.parties c.args.a.0 c.take-party.result c.requires.server c.take-party.ensures.party) ∙ sym c.take.ensures.value in
    let C : Option KeptPlan → Type 0 = λ plan. ComesTo plan of_core in
    let of : IsOutcomeOf c.in-Some.outcome of_core = c.in-Some.ensures.comes of_core (subst C known comes) in
    let is : server_of c.forget.new.self ≡ committed_by of_core (servers_at s.parties c.args.a.0) =
    ap server_of c.forget.ensures
    ∙ ap (λ (x : Server). record x { recovery = recovery_in c.take-party.result.recovery }) (c.commit-reply.ensures.server of_core (c.outcomes_are_committed.ensures.committed c.take-party.result.server.server.cache c.in-Some.outcome of_core of))
    ∙ ap (committed_by of_core) c.take-party.ensures.server in
    let M : Option Line → Type 0 = λ line. IfSome line (IsMarked c.self.inside.places) in
    committed_is s c.answer.new.self c.put.new.self c.move_covers.new.flights c.args.a.0 c.line_number-number.result of_core
    (subst (Becomes s.parties c.put.new.self c.args.a.0) is (c.put.ensures.becomes c.self.inside.parties c.take-party.ensures.others))
    (ap flights_of (c.move_covers.ensures.flying ∙ ap (λ (moves : List (Sector × LockId)). moved_all c.args.a.0 (moves_of moves) s.flights.flying) c.deref.ensures.value)
    ∙ c.outcomes_are_committed.ensures.moves s.flights.flying c.args.a.0 c.in-Some.outcome of_core of)
    c.move_covers.ensures.next c.answer.ensures
    (next_inside s c.args.a.0 c.line_number-number.result (subst R (sym number) (subst Q (sym c.self.view_is) c.requires.room.next)) (subst M c.next-next.ensures.line c.next-next.ensures.marked)) number
    ∙ ap (λ (s : State). committed (core_at s) c.args.a.0 of_core) c.self.view_is

pub returns-clause-reply : goal.returns-clause-reply
returns-clause-reply c of_core comes =
    let known : plan_at c.args.self.now.parties c.args.a.0 ≡ c.take.result =
    ap (λ (s : State). plan_at s.parties c.args.a.0) (sym c.self.view_is) ∙ ap (λ (v : View). v.plan) (found_at c.self.inside.parties c.args.a.0 c.take-party.result c.requires.server c.take-party.ensures.party) ∙ sym c.take.ensures.value in
    let C : Option KeptPlan → Type 0 = λ plan. ComesTo plan of_core in
    let of : IsOutcomeOf c.in-Some.outcome of_core = c.in-Some.ensures.comes of_core (subst C known comes) in
    c.commit-reply.ensures.reply ∙ sym of.reply
