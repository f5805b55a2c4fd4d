-- Which sectors are flagged once one has come among them, has left them, or some are cached no more; and what one party keeps.
use Rattle.std.proofs.Common.{◌≡◌, ◌⊎◌, inl, inr, ℕ, Bool, true, false, not, ◌&&◌, ◌||◌, ◌==◌, if◌then◌else◌, None, List, [], ◌∷◌, filter, is_some, refl, sym, ap, ◌∙◌, subst, nat_eq, eq-eqb}
use Rattle.std.specs.Map.{keys_of}
use Rattle.std.proofs.lemmas.Bool.{and_parts, eqb-true, false≢true}
use Rattle.frang_base.specs.Functions.{member}
use Rattle.sector_bytes.specs.SectorMaps.{value_at}
use Rattle.cache_definitions.specs.Caches.{Cache, CachedSector}
use Rattle.cache_definitions.specs.Flags.{among_cached, but, with_cached}
use Rattle.log_slots.proofs.Maps.{filter_member}
use Rattle.core_definitions.specs.Servers.{Server}
use Rattle.set_definitions.specs.Usable.{usable}
use Rattle.server_core.specs.States as core
use Rattle.world_parties.specs.States.{AreAmong, AreIssuedAmong, OldestStay, PartyKeeps, PlanStays, issued_in, oldest_of, server_of}
use Rattle.world_parties.specs.declared.party.Party.{Party}
use Rattle.world_parties.proofs.Keeping.{oldest_beside, plan_beside}

-- ---- flags

filter_among : (p : ℕ → Bool) (xs : List ℕ) → AreAmong (filter p xs) xs
filter_among p xs sector is = (and_parts (member sector xs) (p sector) (sym (filter_member p sector xs) ∙ is)).0

pub but_among : (sector : ℕ) (xs : List ℕ) → AreAmong (but sector xs) xs
but_among sector xs = filter_among (λ s. not (s == sector)) xs

pub but_gone : (sector : ℕ) (xs : List ℕ) → member sector (but sector xs) ≡ false
but_gone sector xs =
    filter_member (λ s. not (s == sector)) sector xs ∙ ap (λ (t : Bool). member sector xs && not t) (eq-eqb sector sector refl) ∙ and_false (member sector xs)
  where
    and_false : (b : Bool) → (b && false) ≡ false
    and_false true = refl
    and_false false = refl

pub cached_among : (cache : Cache) (xs : List ℕ) → AreAmong (among_cached cache xs) xs
cached_among cache xs = filter_among (λ s. is_some (value_at cache s)) xs

-- one sector at most is new
pub with_one_more : (cache : Cache) (sector : ℕ) (xs : List ℕ) (x : ℕ) → member x (with_cached cache sector xs) ≡ true → (member x xs ≡ true) ⊎ (x ≡ sector)
with_one_more cache sector xs x is = either (x == sector) (member x xs) refl refl (passes cache is)
  where
    either : (here there : Bool) → (x == sector) ≡ here → member x xs ≡ there → (here || there) ≡ true → (member x xs ≡ true) ⊎ (x ≡ sector)
    either true there e f so = inr (eqb-true x sector e)
    either false there e f so = inl (f ∙ so)

    test : ℕ × CachedSector → Bool
    test entry = entry.0 == sector || member entry.0 xs

    passes : (cache : Cache) → member x (with_cached cache sector xs) ≡ true → (x == sector || member x xs) ≡ true
    passes [] is = absurd (false≢true is)
    passes (entry ∷ cache) is = go (entry.0 == sector || member entry.0 xs) refl (nat_eq entry.0 x) refl (passes cache) is
      where
        go : (t : Bool) → (entry.0 == sector || member entry.0 xs) ≡ t → (e : Bool) → nat_eq entry.0 x ≡ e → (member x (with_cached cache sector xs) ≡ true → (x == sector || member x xs) ≡ true)
            → member x (keys_of (if t then entry ∷ filter (λ entry. entry.0 == sector || member entry.0 xs) cache else filter (λ entry. entry.0 == sector || member entry.0 xs) cache)) ≡ true → (x == sector || member x xs) ≡ true
        go false left e same rest is = rest is
        go true passed true same rest is = subst (λ n. (n == sector || member n xs) ≡ true) (eqb-true entry.0 x same) passed
        go true passed false same rest is = rest (sym (ap (λ b. if b then true else member x (with_cached cache sector xs)) same) ∙ is)

-- a sector is set, or is gone
pub set_among : (party new : Party) (sector : ℕ) (flies : Bool)
    → new.server.flying ≡ (if flies then with_cached party.server.server.cache sector party.server.flying else but sector party.server.flying)
    → (x : ℕ) → member x new.server.flying ≡ true → (member x party.server.flying ≡ true) ⊎ (x ≡ sector)
set_among party new sector true is x there = with_one_more party.server.server.cache sector party.server.flying x (subst (λ (xs : List ℕ). member x xs ≡ true) is there)
set_among party new sector false is x there = inl (but_among sector party.server.flying x (subst (λ (xs : List ℕ). member x xs ≡ true) is there))

pub unset : (party new : Party) (sector : ℕ) (flies : Bool)
    → new.server.flying ≡ (if flies then with_cached party.server.server.cache sector party.server.flying else but sector party.server.flying) → flies ≡ false
    → new.server.flying ≡ but sector party.server.flying
unset party new sector flies is off = is ∙ ap (λ (t : Bool). if t then with_cached party.server.server.cache sector party.server.flying else but sector party.server.flying) off

-- ---- what one party keeps

-- its line, its cache and its log are the same
pub party_stays : (old new : Party) → AreAmong new.server.flying old.server.flying → new.recovery ≡ old.recovery → new.plan ≡ old.plan → oldest_of new ≡ oldest_of old
    → new.server.server.under ≡ old.server.server.under → new.server.server.cache ≡ old.server.server.cache → new.server.server.ring ≡ old.server.server.ring → PartyKeeps old new
party_stays old new flags recovery plan oldest under cache ring = record {
  flags = flags;
  issued = subst (λ r. AreIssuedAmong (issued_in r) (issued_in old.recovery)) (sym recovery) (λ sector is. is);
  plan = subst (λ p. PlanStays old.plan (server_of old) p (server_of new)) (sym plan) (plan_beside old.plan (server_of old) (server_of new) (record { under = under; usable = λ set. ap (usable set) cache }));
  oldest = subst (λ o. OldestStay (oldest_of old) (server_of old) o (server_of new)) (sym oldest) (oldest_beside (oldest_of old) (server_of old) (server_of new) ring);
}

pub same_among : (new old : List ℕ) → new ≡ old → AreAmong new old
same_among new old same = subst (λ (xs : List ℕ). AreAmong xs old) (sym same) (λ sector is. is)

-- its server is the same
pub party_unflagged : (old new : Party) → AreAmong new.server.flying old.server.flying → server_of new ≡ server_of old → new.recovery ≡ old.recovery → new.plan ≡ old.plan → oldest_of new ≡ oldest_of old
    → PartyKeeps old new
party_unflagged old new flags server recovery plan oldest =
    party_stays old new flags recovery plan oldest (ap (λ (x : Server). x.under) server) (ap (λ (x : Server). x.cache) server) (ap (λ (x : Server). x.ring) server)

-- its server is changed so
pub server_changes : (old : Party) (server : core.State) → server.flying ≡ old.server.flying → server.server.under ≡ old.server.server.under → server.server.cache ≡ old.server.server.cache
    → server.server.ring ≡ old.server.server.ring → PartyKeeps old (record old { server = server })
server_changes old server flags = party_stays old (record old { server = server }) (same_among server.flying old.server.flying flags) refl refl refl

-- nothing is kept of its line and its log any more
pub party_forgets : (old new : Party) → AreAmong new.server.flying old.server.flying → new.recovery ≡ old.recovery → new.plan ≡ None → oldest_of new ≡ None → PartyKeeps old new
party_forgets old new flags recovery plan oldest = record {
  flags = flags;
  issued = subst (λ r. AreIssuedAmong (issued_in r) (issued_in old.recovery)) (sym recovery) (λ sector is. is);
  plan = subst (λ p. PlanStays old.plan (server_of old) p (server_of new)) (sym plan) tt;
  oldest = subst (λ o. OldestStay (oldest_of old) (server_of old) o (server_of new)) (sym oldest) tt;
}

-- nor is anything flagged or issued
pub party_bare : (old new : Party) → new.server.flying ≡ [] → new.recovery ≡ None → new.plan ≡ None → oldest_of new ≡ None → PartyKeeps old new
party_bare old new flags recovery plan oldest = record {
  flags = subst (λ (xs : List ℕ). AreAmong xs old.server.flying) (sym flags) (λ sector is. absurd (false≢true is));
  issued = subst (λ r. AreIssuedAmong (issued_in r) (issued_in old.recovery)) (sym recovery) (λ sector is. absurd (false≢true is));
  plan = subst (λ p. PlanStays old.plan (server_of old) p (server_of new)) (sym plan) tt;
  oldest = subst (λ o. OldestStay (oldest_of old) (server_of old) o (server_of new)) (sym oldest) tt;
}
