-- What is kept beside parties is read off them in their places, and a change in one place leaves the others fresh.
use Rattle.std.proofs.Common.{◌≡◌, ◌≤◌, ◌<◌, ◌==◌, ◌||◌, ℕ, zero, suc, Bool, true, false, if◌then◌else◌, is_some, IfSome, IsTrue, Option, Some, None, List, [], ◌∷◌, map, nat_eq, refl, sym, ap, ◌∙◌, subst, arith}
use Rattle.std.specs.Prelude.{slice_index_or}
use Rattle.std.specs.List.{slice_get}
use Rattle.std.specs.Option.{option_map, unwrap_or}
use Rattle.std.proofs.lemmas.Bool.{eqb-true, false≢true, ltb-true}
use Rattle.log_slots.specs.Reading.{log_rules}
use Rattle.core_definitions.specs.Cores.{Core, stage}
use Rattle.core_definitions.specs.LineGuards.{is_server}
use Rattle.core_definitions.specs.Scripts.{host_party}
use Rattle.frang_base.specs.declared.limits.TheConstants.{SERVERS}
use Rattle.core_definitions.specs.Writes.{lacks_room}
use Rattle.line_stages.specs.Stages.{wants_plan}
use Rattle.recovery_demon.specs.Recovering.{Recovering}
use Rattle.world_parties.specs.States.{IsFresh, IsPut, State as Parties, oldest_at, oldest_of, plan_at, recovering_by}
use Rattle.world_parties.specs.declared.party.Party.{Party}
use Rattle.world_state.specs.States.{State, core_at}
use Rattle.world_asks.specs.Changes.{ChangesBeside}
use Rattle.world_asks.specs.Fresh.{AreAllFresh, IsFreshAt}

-- ---- read off a party

abbrev of_place : {X : Type 0} → (Party → X) → X → Option Party → X
of_place f d o = unwrap_or (option_map f o) d

read_by : {X : Type 0} (f : Party → X) (parties : List Party) (b : ℕ) (d : X) → slice_index_or (map f parties) b d ≡ of_place f d (slice_get parties b)
read_by f [] b d = refl
read_by f (party ∷ parties) zero d = refl
read_by f (party ∷ parties) (suc b) d = read_by f parties b d

-- alike of two lists with the same party there
alike : {X : Type 0} (f : Party → X) (new old : List Party) (b : ℕ) (d : X) → slice_get new b ≡ slice_get old b → slice_index_or (map f new) b d ≡ slice_index_or (map f old) b d
alike f new old b d same = read_by f new b d ∙ ap (of_place f d) same ∙ sym (read_by f old b d)

-- of a list with this party there
at_party : {X : Type 0} (f : Party → X) (parties : List Party) (b : ℕ) (d : X) (party : Party) → slice_get parties b ≡ Some party → slice_index_or (map f parties) b d ≡ f party
at_party f parties b d party is = read_by f parties b d ∙ ap (of_place f d) is

-- ---- a party is put in its place

module _ (old new : State) (a : ℕ) (changed : Party) (put : IsPut old.parties new.parties a changed) where
  pub put_changes : core_at new ≡ core_at old → ChangesBeside old new a
  put_changes same = record {
    core = same;
    plans = λ b other. alike (λ (p : Party). p.plan) new.parties.parties old.parties.parties b None (put.others.others b other);
    oldest = λ b other. alike oldest_of new.parties.parties old.parties.parties b None (put.others.others b other);
    recoveries = λ b other.
        ap (λ (host : Option Recovering). if nat_eq b host_party then host else slice_index_or (map (λ (p : Party). p.recovery) new.parties.parties) b None) put.others.host
        ∙ ap (λ (own : Option Recovering). if nat_eq b host_party then old.parties.host else own) (alike (λ (p : Party). p.recovery) new.parties.parties old.parties.parties b None (put.others.others b other));
  }

  pub plan_put : plan_at new.parties a ≡ changed.plan
  plan_put = at_party (λ (p : Party). p.plan) new.parties.parties a None changed put.at

  pub oldest_put : oldest_at new.parties a ≡ oldest_of changed
  oldest_put = at_party oldest_of new.parties.parties a None changed put.at

  pub recovery_put : (party : Party) → slice_get old.parties.parties a ≡ Some party → changed.recovery ≡ party.recovery → recovering_by new.parties a ≡ recovering_by old.parties a
  recovery_put party there same =
      ap (λ (host : Option Recovering). if nat_eq a host_party then host else slice_index_or (map (λ (p : Party). p.recovery) new.parties.parties) a None) put.others.host
      ∙ ap (λ (own : Option Recovering). if nat_eq a host_party then old.parties.host else own)
      (at_party (λ (p : Party). p.recovery) new.parties.parties a None changed put.at ∙ same ∙ sym (at_party (λ (p : Party). p.recovery) old.parties.parties a None party there))

  pub plan_stays : (party : Party) → slice_get old.parties.parties a ≡ Some party → changed.plan ≡ party.plan → plan_at new.parties a ≡ plan_at old.parties a
  plan_stays party there same = plan_put ∙ same ∙ sym (at_party (λ (p : Party). p.plan) old.parties.parties a None party there)

-- a party that was found, in parties that are known by another name
pub found : (old : State) (a : ℕ) (parties : Parties) (party : Party) → parties ≡ old.parties → slice_get parties.parties a ≡ Some party → slice_get old.parties.parties a ≡ Some party
found old a parties party same there = ap (λ (p : Parties). slice_get p.parties a) (sym same) ∙ there

-- it is put so in its place
pub put_of : (old new : State) (a : ℕ) (parties : Parties) (party : Party) (change : Party → Party) → parties ≡ old.parties → slice_get parties.parties a ≡ Some party
    → IfSome (slice_get old.parties.parties a) (λ p. IsPut old.parties new.parties a (change p)) → IsPut old.parties new.parties a (change party)
put_of old new a parties party change same there put =
    let P : Option Party → Type 0 = λ o. IfSome o (λ p. IsPut old.parties new.parties a (change p)) in
    subst P (found old a parties party same there) put

-- ---- one change behind another

pub nothing_changes : (s : State) (a : ℕ) → ChangesBeside s s a
nothing_changes s a = record { core = refl; plans = λ b other. refl; oldest = λ b other. refl; recoveries = λ b other. refl }

pub changes_both : (s t u : State) (a : ℕ) → ChangesBeside s t a → ChangesBeside t u a → ChangesBeside s u a
changes_both s t u a first second = record {
  core = second.core ∙ first.core;
  plans = λ b other. second.plans b other ∙ first.plans b other;
  oldest = λ b other. second.oldest b other ∙ first.oldest b other;
  recoveries = λ b other. second.recoveries b other ∙ first.recoveries b other;
}

-- ---- what stays fresh

pub fresh_there : (s : State) (by : ℕ) (recovery : Option Recovering) → recovery ≡ recovering_by s.parties by → IfSome recovery (λ r. IsTrue r.is_fresh) → IsFresh s.parties by
fresh_there s by recovery is fresh = let P : Option Recovering → Type 0 = λ o. IfSome o (λ r. IsTrue r.is_fresh) in subst P is fresh

-- a party of which as much is known as before
pub fresh_as : (old new : State) (b : ℕ) → core_at new ≡ core_at old → plan_at new.parties b ≡ plan_at old.parties b → oldest_at new.parties b ≡ oldest_at old.parties b
    → recovering_by new.parties b ≡ recovering_by old.parties b → IsFreshAt old b → IsFreshAt new b
fresh_as old new b same plan oldest recovery fresh = record {
  plan = λ wants. ap is_some plan ∙ fresh.plan (ap (λ (c : Core). wants_plan c.locks b (c.servers b)) (sym same) ∙ wants);
  oldest = λ lacks. ap is_some oldest ∙ fresh.oldest (ap (λ (c : Core). lacks_room log_rules (c.servers b).ring (stage c b)) (sym same) ∙ lacks);
  recovery = fresh_there new b (recovering_by old.parties b) (sym recovery) fresh.recovery;
}

pub others_fresh : (old new : State) (a : ℕ) → ChangesBeside old new a → (b : ℕ) → (b ≡ a → ⊥) → IsFreshAt old b → IsFreshAt new b
others_fresh old new a changes b other fresh = fresh_as old new b changes.core (changes.plans b other) (changes.oldest b other) (changes.recoveries b other) fresh

-- the host is fresh where what its recovery's slots say is read off them
pub host_fresh : (s : State) → IsFresh s.parties host_party → IsFreshAt s host_party
host_fresh s fresh = record { plan = λ wants. absurd (false≢true wants); oldest = λ lacks. absurd (false≢true lacks); recovery = fresh }

-- ---- a server whose recovery, plan and oldest records are seen to one behind another

abbrev pub HasPlan : State → ℕ → Type 0
HasPlan s a = wants_plan s.locks.locks a ((core_at s).servers a) ≡ true → is_some (plan_at s.parties a) ≡ true

abbrev pub HasOldest : State → ℕ → Type 0
HasOldest s a = lacks_room log_rules ((core_at s).servers a).ring (stage (core_at s) a) ≡ true → is_some (oldest_at s.parties a) ≡ true

pub fresh_after : (first second third : State) (a : ℕ) → IsFresh first.parties a → recovering_by second.parties a ≡ recovering_by first.parties a → HasPlan second a
    → core_at third ≡ core_at second → recovering_by third.parties a ≡ recovering_by second.parties a → plan_at third.parties a ≡ plan_at second.parties a → HasOldest third a → IsFreshAt third a
fresh_after first second third a fresh same planned core still plan oldest = record {
  plan = λ wants. ap is_some plan ∙ planned (ap (λ (c : Core). wants_plan c.locks a (c.servers a)) (sym core) ∙ wants);
  oldest = oldest;
  recovery = fresh_there third a (recovering_by first.parties a) (sym (still ∙ same)) fresh;
}

-- ---- all of them

pub all_fresh : (old new : State) (n : ℕ) → SERVERS ≤ n → ChangesBeside old new host_party → IsFresh new.parties host_party → ((b : ℕ) → b < n → IsFreshAt old b) → AreAllFresh new
all_fresh old new n long changes fresh each a is = go (is_server a) refl (a == host_party) refl is
  where
    go : (server : Bool) → is_server a ≡ server → (host : Bool) → (a == host_party) ≡ host → (server || host) ≡ true → IsFreshAt new a
    go true own host at one = let small : a < SERVERS = ltb-true a SERVERS own in others_fresh old new host_party changes a (λ e. absurd (omega arith)) (each a (omega arith))
    go false own true at one = subst (λ b. IsFreshAt new b) (sym (eqb-true a host_party at)) (host_fresh new fresh)
    go false own false at one = absurd (false≢true one)
