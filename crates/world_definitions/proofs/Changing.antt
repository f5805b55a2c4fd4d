-- What a change of a stored world is of its core.
use Rattle.std.proofs.Common.{◌≡◌, ◌<◌, ℕ, zero, suc, Bool, true, false, if◌then◌else◌, Option, None, List, [], arith, length, map, replicate, set, get_or, refl, sym, ap, ◌∙◌, nat_eq}
use Rattle.std.proofs.lemmas.List.{get_or-set_same, get_or-set_other}
use Rattle.std.proofs.Math.ListN.{get_or-map}
use Rattle.std.proofs.lemmas.Bool.{eqb-true, eqb-false}
use Rattle.frang_base.specs.Functions.{put}
use Rattle.frang_base.specs.declared.limits.TheConstants.{SERVERS}
use Rattle.core_definitions.specs.Recoveries.{Recovery}
use Rattle.core_definitions.specs.Scripts.{host_party}
use Rattle.core_definitions.specs.Servers.{Server, first_server, wanting_all_up}
use Rattle.core_definitions.specs.Settings.{setting_of}
use Rattle.lock_definitions.specs.Locks.{no_locks}
use Rattle.world_definitions.specs.Laws.{AServerChanges, AServerIsHeld, ALineIsAnswered, ALinePasses, EachServerChanges, TheFirstIsFirst, TheHostChanges}
use Rattle.world_definitions.specs.Worlds.{core_of, host_of, servers_of}

-- a list that is changed at a place inside is as a function changed there
pub changed_at : {X : Type 0} (xs : List X) (a : ℕ) (v d : X) → a < length xs → (λ (n : ℕ). get_or (set xs a v) n d) ≡ put (λ n. get_or xs n d) a v
changed_at xs a v d inside = λ i n. at n i
  where
    at : (n : ℕ) → get_or (set xs a v) n d ≡ put (λ n. get_or xs n d) a v n
    at n = by (nat_eq n a) refl
      where
        by : (t : Bool) → nat_eq n a ≡ t → get_or (set xs a v) n d ≡ (if t then v else get_or xs n d)
        by true e = ap (λ k. get_or (set xs a v) k d) (eqb-true n a e) ∙ get_or-set_same xs a v d inside
        by false e = get_or-set_other xs a n v d (eqb-false n a e)

-- as many of one thing are that thing at each place, the default too
pub all_same : {X : Type 0} (n : ℕ) (x : X) (k : ℕ) → get_or (replicate n x) k x ≡ x
all_same zero x k = refl
all_same (suc n) x zero = refl
all_same (suc n) x (suc k) = all_same n x k

pub the_first_is_first : TheFirstIsFirst
the_first_is_first script segments run marks = λ i. record {
  setting = setting_of script segments run;
  now = 0;
  servers = λ a. server a i;
  locks = no_locks;
  flights = [];
  tickets = 0;
  answered = λ n. all_same marks false n i;
  passed = λ n. all_same marks false n i;
  ticks = 0;
  paused = λ n. all_same SERVERS false n i;
  read = [];
  shown = 0;
  over = false;
}
  where
    server : (a : ℕ) → servers_of (replicate SERVERS first_server) None a ≡ first_server
    server a = by (nat_eq a host_party)
      where
        by : (t : Bool) → (if t then host_of None else get_or (replicate SERVERS first_server) a first_server) ≡ first_server
        by true = refl
        by false = all_same SERVERS first_server a

-- no server has the host's number
pub not_host : (a : ℕ) → a < SERVERS → nat_eq a host_party ≡ false
not_host a small = by (nat_eq a host_party) refl
  where
    by : (t : Bool) → nat_eq a host_party ≡ t → t ≡ false
    by true e = absurd (let at : a ≡ host_party = eqb-true a host_party e in omega arith)
    by false e = refl

pub server_put : (servers : List Server) (host : Option Recovery) (a : ℕ) (server : Server) → a < length servers → a < SERVERS
    → servers_of (set servers a server) host ≡ put (servers_of servers host) a server
server_put servers host a server inside small = λ i n. at n i
  where
    at : (n : ℕ) → servers_of (set servers a server) host n ≡ put (servers_of servers host) a server n
    at n = by (nat_eq n host_party) refl
      where
        by : (t : Bool) → nat_eq n host_party ≡ t
            → (if t then host_of host else get_or (set servers a server) n first_server) ≡ (if nat_eq n a then server else (if t then host_of host else get_or servers n first_server))
        by true e = ap (λ (t : Bool). if t then server else host_of host) (sym (ap (λ k. nat_eq k a) (eqb-true n host_party e) ∙ other))
          where
            other : nat_eq host_party a ≡ false
            other = by_at (nat_eq host_party a) refl
              where
                by_at : (t : Bool) → nat_eq host_party a ≡ t → t ≡ false
                by_at true e = absurd (let at : host_party ≡ a = eqb-true host_party a e in omega arith)
                by_at false e = refl
        by false e = ap (λ (f : ℕ → Server). f n) (changed_at servers a server first_server inside)

pub a_server_changes : AServerChanges
a_server_changes w a server long small =
    ap (λ servers. record (core_of w) { servers = servers }) (server_put w.servers w.host a server (omega arith) small)

pub each_server_changes : EachServerChanges
each_server_changes w change nothing host = ap (λ servers. record (core_of w) { servers = servers }) (λ i n. at n i)
  where
    at : (n : ℕ) → servers_of (map change w.servers) w.host n ≡ change (servers_of w.servers w.host n)
    at n = by (nat_eq n host_party)
      where
        by : (t : Bool) → (if t then host_of w.host else get_or (map change w.servers) n first_server) ≡ change (if t then host_of w.host else get_or w.servers n first_server)
        by true = sym host
        by false = ap (λ d. get_or (map change w.servers) n d) (sym nothing) ∙ get_or-map change w.servers n first_server

pub the_host_changes : TheHostChanges
the_host_changes w recovery = ap (λ servers. record (core_of w) { servers = servers }) (λ i n. at n i)
  where
    at : (n : ℕ) → servers_of w.servers recovery n ≡ put (servers_of w.servers w.host) host_party (host_of recovery) n
    at n = by (nat_eq n host_party)
      where
        by : (t : Bool) → (if t then host_of recovery else get_or w.servers n first_server)
            ≡ (if t then host_of recovery else (if t then host_of w.host else get_or w.servers n first_server))
        by true = refl
        by false = refl

pub a_line_is_answered : ALineIsAnswered
a_line_is_answered w number mark inside = ap (λ marks. record (core_of w) { answered = marks }) (changed_at w.answered number mark false inside)

pub a_line_passes : ALinePasses
a_line_passes w number mark inside = ap (λ marks. record (core_of w) { passed = marks }) (changed_at w.passed number mark false inside)

pub a_server_is_held : AServerIsHeld
a_server_is_held w a mark long small = ap (λ marks. record (core_of w) { paused = marks }) (changed_at w.paused a mark false (omega arith))

-- to want everything written changes no server that was never mounted, nor the host: so a flush of all servers is one of the list's
flush_changes_who_is_up : (recovery : Option Recovery) → (wanting_all_up first_server ≡ first_server) × (wanting_all_up (host_of recovery) ≡ host_of recovery)
flush_changes_who_is_up recovery = (refl, refl)
