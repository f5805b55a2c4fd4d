-- What a party that is changed in its place makes of all parties.
use Rattle.std.proofs.Common.{◌≡◌, ◌≤◌, ◌<◌, ◌+◌, ℕ, zero, suc, Bool, true, false, if◌then◌else◌, Option, None, List, [], ◌∷◌, ◌++◌, arith, length, map, take, drop, replicate, set, get_or, refl, sym, ap, ◌∙◌, subst, nat_eq, ◌==◌, eq-eqb, add-one}
use Rattle.std.specs.List.{All}
use Rattle.std.proofs.Math.Seq.{map-set_same}
use Rattle.std.proofs.lemmas.List.{get_or-map, get_or-set_same, length-map, length-set, map-append, map-set}
use Rattle.std.proofs.lemmas.List.Edits.{map_over_more}
use Rattle.std.proofs.lemmas.List.Elements.{All-get_or, All-set}
use Rattle.std.proofs.lemmas.Bool.{eqb-true}
use Rattle.frang_base.specs.Functions.{put}
use Rattle.frang_base.specs.declared.limits.TheConstants.{SEGMENTS_MAX, SERVERS}
use Rattle.tree_definitions.specs.Numbers.{below}
use Rattle.disk_definitions.proofs.Lists.{length_below}
use Rattle.core_definitions.specs.Cores.{Core, server_numbers}
use Rattle.core_definitions.specs.Recoveries.{Recovery}
use Rattle.core_definitions.specs.Scripts.{host_party}
use Rattle.core_definitions.specs.Servers.{Server, first_server, wanting_all_up}
use Rattle.recovery_demon.specs.Recovering.{Recovering}
use Rattle.world_definitions.proofs.Changing.{all_same, changed_at, each_server_changes, server_put}
use Rattle.world_definitions.specs.Worlds.{first_world, host_of, servers_of}
use Rattle.world_parties.specs.States.{AreKept, Becomes, EachBecomes, IsRecovery, IsSame, State, held_at, recovering_by, recovery_in, server_of, servers_at}
use Rattle.world_parties.specs.declared.party.Party.{Party}
use Rattle.world_parties.proofs.Reading.{found_number, found_server, recovering_at}

-- ---- a server

-- its server is the core's from then on
party_put : (s : State) (a : ℕ) (party : Party) → AreKept s → a < SERVERS → servers_at (record s { parties = set s.parties a party }) ≡ put (servers_at s) a (server_of party)
party_put s a party kept small =
    ap (λ servers. servers_of servers (recovery_in s.host)) (map-set server_of s.parties a party)
    ∙ server_put (map server_of s.parties) (recovery_in s.host) a (server_of party) (omega (arith, length-map s.parties server_of, kept.long, small)) small

-- one party is changed in its place, by a call that makes this of its server
pub becomes : (s old : State) (a i : ℕ) (d party new : Party) (change : Server → Server) → s ≡ old → AreKept s → a < SERVERS → i ≡ a → party ≡ get_or s.parties i d
    → server_of new ≡ change (server_of party) → Becomes old (record s { parties = set s.parties i new }) a (change (servers_at old a))
becomes s old a i d party new change seen kept small at was is = record {
  servers =
      ap (λ k. servers_at (record s { parties = set s.parties k new })) at ∙ party_put s a new kept small
      ∙ ap (λ (o : State). put (servers_at o) a (server_of new)) seen
      ∙ ap (put (servers_at old) a) (is ∙ ap change (found_server s old a i d party seen kept small at was));
  stays = record { segments = ap (λ (o : State). o.segments) seen; held = ap (λ (o : State). o.held) seen };
}

-- the lists stay what they are
pub kept_put : (s : State) (a i : ℕ) (d party new : Party) → AreKept s → a < SERVERS → i ≡ a → party ≡ get_or s.parties i d → new.server.id ≡ party.server.id
    → IsRecovery s.segments new.server.id new.recovery → AreKept (record s { parties = set s.parties i new })
kept_put s a i d party new kept small at was same fits = record {
  long = length-set s.parties i new ∙ kept.long;
  marked = kept.marked;
  placed = map-set_same (λ (p : Party). p.server.id) s.parties i new d (same ∙ ap (λ (p : Party). p.server.id) was) ∙ kept.placed;
  most = kept.most;
  each = All-set (λ (p : Party). IsRecovery s.segments p.server.id p.recovery) s.parties i new fits kept.each;
  own = kept.own;
}

-- a party whose number and recovery are those of another has a recovery as fit
fits_as : (segments : ℕ) (party new : Party) → new.server.id ≡ party.server.id → new.recovery ≡ party.recovery → IsRecovery segments party.server.id party.recovery
    → IsRecovery segments new.server.id new.recovery
fits_as segments party new same recovery fits =
    let P : ℕ → Type 0 = λ n. IsRecovery segments n new.recovery in
    subst P (sym same) (subst (IsRecovery segments party.server.id) (sym recovery) fits)

-- so they do with any party of this number whose recovery fits
pub kept_placed : (s old : State) (a i : ℕ) (new : Party) → s ≡ old → AreKept s → a < SERVERS → i ≡ a → new.server.id ≡ a → IsRecovery old.segments a new.recovery
    → AreKept (record s { parties = set s.parties i new })
kept_placed s old a i new seen kept small at is fits = kept_put s a i new (get_or s.parties i new) new kept small at refl (is ∙ sym (found_number s a i new (get_or s.parties i new) kept small at refl))
    (let P : ℕ → Type 0 = λ n. IsRecovery s.segments n new.recovery in subst P (sym is) (subst (λ (o : State). IsRecovery o.segments a new.recovery) (sym seen) fits))

-- its recovery is the same
pub kept_same : (s : State) (a i : ℕ) (d party new : Party) → AreKept s → a < SERVERS → i ≡ a → party ≡ get_or s.parties i d → new.server.id ≡ party.server.id
    → new.recovery ≡ party.recovery → AreKept (record s { parties = set s.parties i new })
kept_same s a i d party new kept small at was same recovery = kept_put s a i d party new kept small at was same
    (fits_as s.segments (get_or s.parties i d) new (same ∙ ap (λ (p : Party). p.server.id) was) (recovery ∙ ap (λ (p : Party). p.recovery) was)
    (All-get_or (λ (p : Party). IsRecovery s.segments p.server.id p.recovery) s.parties i d (omega (arith, kept.long, small, at)) kept.each))

-- or gone
pub kept_without : (s : State) (a i : ℕ) (d party new : Party) → AreKept s → a < SERVERS → i ≡ a → party ≡ get_or s.parties i d → new.server.id ≡ party.server.id
    → new.recovery ≡ None → AreKept (record s { parties = set s.parties i new })
kept_without s a i d party new kept small at was same gone = kept_put s a i d party new kept small at was same (subst (IsRecovery s.segments new.server.id) (sym gone) tt)

-- or another
pub kept_with : (s : State) (a i : ℕ) (d party new : Party) (recovery : Option Recovering) → AreKept s → a < SERVERS → i ≡ a → party ≡ get_or s.parties i d
    → new ≡ record party { recovery = recovery } → IsRecovery s.segments a recovery → AreKept (record s { parties = set s.parties i new })
kept_with s a i d party new recovery kept small at was is fits =
    kept_put s a i d party new kept small at was (ap (λ (p : Party). p.server.id) is)
    (fits_as s.segments (record party { recovery = recovery }) new (ap (λ (p : Party). p.server.id) is) (ap (λ (p : Party). p.recovery) is)
    (let P : ℕ → Type 0 = λ n. IsRecovery s.segments n recovery in subst P (sym (found_number s a i d party kept small at was)) fits))

-- ---- the host

host_put : (servers : List Server) (host recovery : Option Recovery) → servers_of servers recovery ≡ put (servers_of servers host) host_party (host_of recovery)
host_put servers host recovery = λ i n. at n i
  where
    at : (n : ℕ) → servers_of servers recovery n ≡ put (servers_of servers host) host_party (host_of recovery) n
    at n = by (nat_eq n host_party)
      where
        by : (t : Bool) → (if t then host_of recovery else get_or servers n first_server) ≡ (if t then host_of recovery else (if t then host_of host else get_or servers n first_server))
        by true = refl
        by false = refl

pub host_becomes : (s old : State) (by : ℕ) (recovery : Option Recovering) → s ≡ old → (by == host_party) ≡ true
    → Becomes old (record s { host = recovery }) by (record (servers_at old by) { recovery = recovery_in recovery })
host_becomes s old by recovery seen is_host =
    let P : ℕ → Type 0 = λ b. Becomes old (record s { host = recovery }) b (record (servers_at old b) { recovery = recovery_in recovery }) in
    subst P (sym (eqb-true by host_party is_host)) host
  where
    host : Becomes old (record s { host = recovery }) host_party (record (servers_at old host_party) { recovery = recovery_in recovery })
    host = record {
      servers = host_put (map server_of s.parties) (recovery_in s.host) (recovery_in recovery)
          ∙ ap (λ (o : State). put (servers_at o) host_party (host_of (recovery_in recovery))) seen;
      stays = record { segments = ap (λ (o : State). o.segments) seen; held = ap (λ (o : State). o.held) seen };
    }

-- the recovery of a party that is put in its place
pub recovering_put : (s : State) (a i : ℕ) (new : Party) (recovery : Option Recovering) → AreKept s → a < SERVERS → i ≡ a → new.recovery ≡ recovery
    → recovering_by (record s { parties = set s.parties i new }) a ≡ recovery
recovering_put s a i new recovery kept small at is =
    recovering_at (record s { parties = set s.parties i new }) a small
    ∙ ap (λ (rs : List (Option Recovering)). get_or rs a None) (map-set (λ (p : Party). p.recovery) s.parties i new)
    ∙ ap (λ k. get_or (set (map (λ (p : Party). p.recovery) s.parties) k new.recovery) a None) at
    ∙ get_or-set_same (map (λ (p : Party). p.recovery) s.parties) a new.recovery None (omega (arith, kept.long, length-map s.parties (λ (p : Party). p.recovery), small)) ∙ is

-- ---- all servers

-- one more has come to want everything
pub flushed_more : (first now : List Party) (i : ℕ) (d party new : Party) → i < length first → length now ≡ length first
    → map server_of now ≡ map wanting_all_up (take i (map server_of first)) ++ drop i (map server_of first) → party ≡ get_or now i d → server_of new ≡ wanting_all_up (server_of party)
    → map server_of (set now i new) ≡ map wanting_all_up (take (i + 1) (map server_of first)) ++ drop (i + 1) (map server_of first)
flushed_more first now i d party new inside long so_far was is =
    map-set server_of now i new ∙ ap (set (map server_of now) i) is
    ∙ map_over_more wanting_all_up (map server_of first) (map server_of now) i (server_of party) (omega (arith, length-map first server_of)) so_far
    (ap server_of was ∙ sym (get_or-map server_of now i d (server_of party) (omega arith)))

-- each is what the flush makes of it, the host too, which has nothing to write
pub flushed : (s old : State) (parties : List Party) → s ≡ old → map server_of parties ≡ map wanting_all_up (map server_of s.parties) → EachBecomes old (record s { parties = parties }) wanting_all_up
flushed s old parties seen is = record {
  servers =
      ap (λ servers. servers_of servers (recovery_in s.host)) is
      ∙ ap {B = ℕ → Server} (λ (c : Core). c.servers) (each_server_changes (record (first_world [] 0 0 0) { servers = map server_of s.parties; host = recovery_in s.host }) wanting_all_up refl refl)
      ∙ ap {B = ℕ → Server} (λ (o : State). λ a. wanting_all_up (servers_at o a)) seen;
  stays = record { segments = ap (λ (o : State). o.segments) seen; held = ap (λ (o : State). o.held) seen };
}

-- what stands at a place of two lists of which as much is the same
same_at : {X : Type 0} (f : Party → X) (now before : List Party) (k : ℕ) (d : Party) → map f now ≡ map f before → k < length now → length now ≡ length before
    → f (get_or now k d) ≡ f (get_or before k d)
same_at f now before k d same inside long =
    sym (get_or-map f now k d (f d) inside) ∙ ap (λ ys. get_or ys k (f d)) same ∙ get_or-map f before k d (f d) (omega (arith, inside, long))

pub kept_flushed : (s : State) (parties : List Party) → AreKept s → map (λ (p : Party). p.server.id) parties ≡ map (λ (p : Party). p.server.id) s.parties
    → map (λ (p : Party). p.recovery) parties ≡ map (λ (p : Party). p.recovery) s.parties → AreKept (record s { parties = parties })
kept_flushed s parties kept same recoveries = record {
  long = long ∙ kept.long;
  marked = kept.marked;
  placed = same ∙ kept.placed;
  most = kept.most;
  each = λ k d inside. fits_as s.segments (get_or s.parties k d) (get_or parties k d) (same_at (λ (p : Party). p.server.id) parties s.parties k d same inside long)
      (same_at (λ (p : Party). p.recovery) parties s.parties k d recoveries inside long) (kept.each k d (omega (arith, inside, long)));
  own = kept.own;
}
  where
    long : length parties ≡ length s.parties
    long = sym (length-map parties (λ (p : Party). p.server.id)) ∙ ap length same ∙ length-map s.parties (λ (p : Party). p.server.id)

-- ---- who is held

pub held_put : (s old : State) (a i : ℕ) (held : Bool) → s ≡ old → AreKept s → a < SERVERS → i ≡ a → held_at (record s { held = set s.held i held }) ≡ put (held_at old) a held
held_put s old a i held seen kept small at =
    ap (λ k. held_at (record s { held = set s.held k held })) at ∙ changed_at s.held a held false (omega (arith, kept.marked, small))
    ∙ ap (λ (o : State). put (held_at o) a held) seen

pub kept_held : (s : State) (i : ℕ) (held : Bool) → AreKept s → AreKept (record s { held = set s.held i held })
kept_held s i held kept = record { long = kept.long; marked = length-set s.held i held ∙ kept.marked; placed = kept.placed; most = kept.most; each = kept.each; own = kept.own }

-- ---- at first

pub kept_first : (segments : ℕ) (parties : List Party) (held : List Bool) → map (λ (p : Party). p.server.id) parties ≡ server_numbers → All (λ (p : Party). p.recovery ≡ None) parties
    → segments ≤ SEGMENTS_MAX → length held ≡ SERVERS → AreKept (record { segments = segments; parties = parties; host = None; held = held })
kept_first segments parties held placed none most marked = record {
  long = sym (length-map parties (λ (p : Party). p.server.id)) ∙ ap length placed ∙ length_below SERVERS;
  marked = marked;
  placed = placed;
  most = most;
  each = λ k d inside. subst (IsRecovery segments (get_or parties k d).server.id) (sym (none k d inside)) tt;
  own = tt;
}

-- one party more
pub first_more : (parties : List Party) (a : ℕ) (new : Party) → map server_of parties ≡ map (λ (n : ℕ). first_server) (below a) → server_of new ≡ first_server
    → map server_of (parties ++ new ∷ []) ≡ map (λ (n : ℕ). first_server) (below (a + 1))
first_more parties a new so_far is =
    map-append server_of parties (new ∷ []) ∙ ap (λ (servers : List Server). servers ++ server_of new ∷ []) so_far
    ∙ ap (λ (server : Server). map (λ (n : ℕ). first_server) (below a) ++ server ∷ []) is
    ∙ sym (map-append (λ (n : ℕ). first_server) (below a) (a ∷ [])) ∙ ap (λ k. map (λ (n : ℕ). first_server) (below k)) (sym (add-one a))

pub placed_more : (parties : List Party) (a : ℕ) (new : Party) → map (λ (p : Party). p.server.id) parties ≡ below a → new.server.id ≡ a
    → map (λ (p : Party). p.server.id) (parties ++ new ∷ []) ≡ below (a + 1)
placed_more parties a new so_far is =
    map-append (λ (p : Party). p.server.id) parties (new ∷ []) ∙ ap (λ (numbers : List ℕ). numbers ++ new.server.id ∷ []) so_far
    ∙ ap (λ k. below a ++ k ∷ []) is ∙ ap below (sym (add-one a))

all_one : (numbers : List ℕ) (server : Server) (k : ℕ) → get_or (map (λ (n : ℕ). server) numbers) k server ≡ server
all_one [] server k = refl
all_one (n ∷ numbers) server zero = refl
all_one (n ∷ numbers) server (suc k) = all_one numbers server k

pub first_servers : (segments : ℕ) (parties : List Party) (held : List Bool) → map server_of parties ≡ map (λ (n : ℕ). first_server) server_numbers
    → servers_at (record { segments = segments; parties = parties; host = None; held = held }) ≡ (λ a. first_server)
first_servers segments parties held is = ap (λ servers. servers_of servers None) is ∙ (λ i n. at n i)
  where
    at : (n : ℕ) → servers_of (map (λ (n : ℕ). first_server) server_numbers) None n ≡ first_server
    at n = by (nat_eq n host_party)
      where
        by : (t : Bool) → (if t then host_of None else get_or (map (λ (n : ℕ). first_server) server_numbers) n first_server) ≡ first_server
        by true = refl
        by false = all_one server_numbers first_server n

pub none_held : (held : List Bool) (n : ℕ) → held ≡ replicate n false → ◌≡◌ {A = ℕ → Bool} (λ a. get_or held a false) (λ a. false)
none_held held n is = ap {B = ℕ → Bool} (λ (marks : List Bool). λ a. get_or marks a false) is ∙ (λ i a. all_same n false a i)

-- ---- one change behind another

put_twice : (servers : ℕ → Server) (a : ℕ) (first second : Server) → put (put servers a first) a second ≡ put servers a second
put_twice servers a first second = λ i n. at n i
  where
    at : (n : ℕ) → put (put servers a first) a second n ≡ put servers a second n
    at n = by (nat_eq n a)
      where
        by : (t : Bool) → (if t then second else (if t then first else servers n)) ≡ (if t then second else servers n)
        by true = refl
        by false = refl

put_own : (servers : ℕ → Server) (a : ℕ) (server : Server) → put servers a server a ≡ server
put_own servers a server = ap (λ (t : Bool). if t then server else servers a) (eq-eqb a a refl)

put_same : (servers : ℕ → Server) (a : ℕ) → put servers a (servers a) ≡ servers
put_same servers a = λ i n. at n i
  where
    at : (n : ℕ) → put servers a (servers a) n ≡ servers n
    at n = by (nat_eq n a) refl
      where
        by : (t : Bool) → nat_eq n a ≡ t → (if t then servers a else servers n) ≡ servers n
        by true e = ap servers (sym (eqb-true n a e))
        by false e = refl

-- a party whose server is as it was
pub becomes_same : (old new : State) (a : ℕ) → Becomes old new a (servers_at old a) → IsSame old new
becomes_same old new a becomes = record { servers = becomes.servers ∙ put_same (servers_at old) a; stays = becomes.stays }

-- a recovery that was taken out of its place is another when it is back there
pub becomes_anew : (old between new : State) (a : ℕ) (recovery : Option Recovery) → Becomes old between a (record (servers_at old a) { recovery = None })
    → Becomes between new a (record (servers_at between a) { recovery = recovery }) → Becomes old new a (record (servers_at old a) { recovery = recovery })
becomes_anew old between new a recovery out back = record {
  servers =
      back.servers
      ∙ ap (λ (servers : ℕ → Server). put servers a (record (servers a) { recovery = recovery })) out.servers
      ∙ put_twice (servers_at old) a (record (servers_at old a) { recovery = None }) (record (put (servers_at old) a (record (servers_at old a) { recovery = None }) a) { recovery = recovery })
      ∙ ap (λ (server : Server). put (servers_at old) a (record server { recovery = recovery })) (put_own (servers_at old) a (record (servers_at old a) { recovery = None }));
  stays = record { segments = back.stays.segments ∙ out.stays.segments; held = back.stays.held ∙ out.stays.held };
}

-- with the recovery that it had it is the server that it was
pub becomes_none : (old new : State) (a : ℕ) (recovery : Option Recovery) → Becomes old new a (record (servers_at old a) { recovery = recovery }) → recovery ≡ (servers_at old a).recovery
    → IsSame old new
becomes_none old new a recovery becomes is = record {
  servers = becomes.servers ∙ ap (λ (r : Option Recovery). put (servers_at old) a (record (servers_at old a) { recovery = r })) is ∙ put_same (servers_at old) a;
  stays = becomes.stays;
}
