-- Recoveries of the world and those of its core: who carries one out, what is wanted of it, and what its events make.
use Rattle.std.proofs.Common.{◌≡◌, ◌<◌, ℕ, zero, suc, Bool, true, false, not, ◌&&◌, ◌||◌, if◌then◌else◌, is_some, Option, Some, None, IfSome, IsSomeAnd, [], ◌∷◌, arith, refl, sym, ap, ◌∙◌, nat_eq, nat_lt, ◌==◌}
use Rattle.std.specs.List.{list_any}
use Rattle.std.specs.List.Sorted.{IsStrictlySortedBy}
use Rattle.std.specs.Option.{option_map}
use Rattle.std.proofs.lemmas.Bool.{and_parts, eqb-false, eqb-true, false≢true}
use Rattle.std.proofs.lemmas.Bool.Decides.{nat_tests}
use Rattle.std.proofs.lemmas.List.Folds.{list_any-append}
use Rattle.frang_base.specs.Functions.{member, put}
use Rattle.frang_base.specs.declared.limits.TheConstants.{SERVERS}
use Rattle.tree_definitions.specs.Numbers.{below}
use Rattle.sector_bytes.specs.Blocks.{Block}
use Rattle.sector_bytes.specs.SectorMaps.{Ascend, with_value}
use Rattle.lock_definitions.specs.Calls.{cleared, taken}
use Rattle.lock_definitions.specs.Locks.{log_hold}
use Rattle.lock_table.specs.Table.{Table}
use Rattle.core_definitions.specs.Cores.{Core, expiry_of, parties, server_numbers, with_server}
use Rattle.core_definitions.specs.EndEffects.{finished, finished_by, finished_from, looked, recovered, recovering}
use Rattle.core_definitions.specs.EndGuards.{is_hold_over, is_recovering, is_recovery, is_to_recover, is_through, may_finish, may_recover, may_take, none_up, wants_look, wants_slot}
use Rattle.core_definitions.specs.LineGuards.{is_server}
use Rattle.core_definitions.specs.Logs.{SlotsRead, unread}
use Rattle.core_definitions.specs.Recoveries.{Recovery, is_recovered, recovery_of, to_look}
use Rattle.core_definitions.specs.Scripts.{host_party}
use Rattle.core_definitions.specs.Servers.{Phase, Server, Off, Up, Still, Doomed, Dead, is_dead, is_up}
use Rattle.core_definitions.specs.Settings.{disk_logs}
use Rattle.core_definitions.specs.WriteGuards.{is_worker}
use Rattle.log_slots.specs.Reading.{log_rules, unread_slots}
use Rattle.recovery_demon.specs.Recovering.{is_all_done, log_redos, looks_wanted, wanted_over}
use Rattle.world_definitions.proofs.Changing.{not_host}
use Rattle.world_parties.specs.States.{Becomes, State as Parties, servers_at}
use Rattle.world_state.specs.States.{IsRecoveredBy, State, core_at}
use Rattle.world_state.proofs.Effects.{party_and_locks, party_is}
use Rattle.world_state.proofs.Guarding.{is_below}

-- ---- the words of a recovery

pub unread_is : (slots : SlotsRead) → unread_slots slots ≡ unread disk_logs slots
unfolding unread_slots log_rules
unread_is slots = refl

pub looks_are : (segments : ℕ) (recovery : Recovery) → looks_wanted segments recovery ≡ to_look disk_logs segments recovery
unfolding looks_wanted log_rules
looks_are segments recovery = refl

pub done_is : (segments : ℕ) (recovery : Recovery) → is_all_done segments recovery ≡ is_recovered disk_logs segments recovery
unfolding is_all_done log_rules
done_is segments recovery = refl

-- what passes is there
pub there_is : (passes : Recovery → Bool) (recovery : Option Recovery) → is_recovery passes recovery ≡ true → IfSome recovery (λ r. passes r ≡ true)
there_is passes None is = tt
there_is passes (Some r) is = is

-- ---- who works

-- a party that works is a server or the host
pub is_party : (c : Core) (by : ℕ) → is_worker c by ≡ true → (is_server by || by == host_party) ≡ true
is_party c by works = go (is_server by) (is_up (c.servers by).phase) (by == host_party) works
  where
    go : (server up host : Bool) → ((server && up) || host) ≡ true → (server || host) ≡ true
    go true up host works = refl
    go false up host works = works

-- a server that works is up
pub is_small : (c : Core) (by : ℕ) → is_worker c by ≡ true → (by == host_party) ≡ false → by < SERVERS
is_small c by works not_host = is_below by (go (is_server by) (is_up (c.servers by).phase) (by == host_party) works not_host)
  where
    go : (server up host : Bool) → ((server && up) || host) ≡ true → host ≡ false → server ≡ true
    go true up host works not_host = refl
    go false up host works not_host = absurd (false≢true (sym not_host ∙ works))

-- ---- who recovers

any_same : (f g : ℕ → Bool) (n : ℕ) → ((a : ℕ) → a < n → f a ≡ g a) → list_any f (below n) ≡ list_any g (below n)
any_same f g zero each = refl
any_same f g (suc n) each =
    list_any-append f (below n) (n ∷ []) ∙ ap (λ b. b || (f n || false)) (any_same f g n (λ a inside. each a (omega arith)))
    ∙ ap (λ b. list_any g (below n) || (b || false)) (each n (omega arith)) ∙ sym (list_any-append g (below n) (n ∷ []))

or_none : (b : Bool) → (b || false) ≡ b
or_none true = refl
or_none false = refl

server_is : (a : ℕ) → a < SERVERS → is_server a ≡ true
server_is a small = grind (arith, nat_tests, small)

-- a server that is up, or the host
pub any_recovering : (c : Core)
    → list_any (is_recovering c) parties ≡ (list_any (λ a. is_up (c.servers a).phase && is_some (c.servers a).recovery) server_numbers || is_some (c.servers host_party).recovery)
any_recovering c =
    list_any-append (is_recovering c) server_numbers (host_party ∷ [])
    ∙ ap (λ b. b || (is_recovering c host_party || false)) (any_same (is_recovering c) (λ a. is_up (c.servers a).phase && is_some (c.servers a).recovery) SERVERS each)
    ∙ ap (λ b. list_any (λ a. is_up (c.servers a).phase && is_some (c.servers a).recovery) server_numbers || b) (or_none (is_some (c.servers host_party).recovery))
  where
    each : (a : ℕ) → a < SERVERS → is_recovering c a ≡ (is_up (c.servers a).phase && is_some (c.servers a).recovery)
    each a small =
        ap (λ b. ((is_server a && is_up (c.servers a).phase) || b) && is_some (c.servers a).recovery) (not_host a small)
        ∙ ap (λ b. b && is_some (c.servers a).recovery) (or_none (is_server a && is_up (c.servers a).phase))
        ∙ ap (λ b. (b && is_up (c.servers a).phase) && is_some (c.servers a).recovery) (server_is a small)

-- one of two tests, asked one behind the other
pub either_first : (r a b : Bool) → r ≡ a → r ≡ true → r ≡ (a || b)
either_first r a b is so = so ∙ ap (λ (t : Bool). t || b) (sym so ∙ is)

pub either_second : (f r a b : Bool) → f ≡ a → f ≡ false → r ≡ b → r ≡ (a || b)
either_second f r a b is not_so second = second ∙ ap (λ (t : Bool). t || b) (sym not_so ∙ is)

-- one more number
pub any_one_more : (test : ℕ → Bool) (n : ℕ) → list_any test (below n) ≡ false → test n ≡ false → list_any test (below (suc n)) ≡ false
any_one_more test n none not_it = list_any-append test (below n) (n ∷ []) ∙ ap (λ b. b || (test n || false)) none ∙ ap (λ b. b || false) not_it

-- one of them
pub any_found : (test : ℕ → Bool) (n a : ℕ) → a < n → test a ≡ true → list_any test (below n) ≡ true
any_found test zero a inside is = absurd (omega arith)
any_found test (suc n) a inside is = list_any-append test (below n) (n ∷ []) ∙ go (nat_eq a n) refl (λ below. any_found test n a below is)
  where
    or_true : (b : Bool) → (b || true) ≡ true
    or_true true = refl
    or_true false = refl

    apart : nat_eq a n ≡ false → a < n
    apart e = let other : a ≡ n → ⊥ = eqb-false a n e in omega arith

    go : (t : Bool) → nat_eq a n ≡ t → (a < n → list_any test (below n) ≡ true) → (list_any test (below n) || (test n || false)) ≡ true
    go true e rest = ap (λ b. list_any test (below n) || (b || false)) (ap test (sym (eqb-true a n e)) ∙ is) ∙ or_true (list_any test (below n))
    go false e rest = ap (λ b. b || (test n || false)) (rest (apart e))

-- ---- Recover

module _ (c : Core) (dead by : ℕ) (may : may_recover c dead by ≡ true) where
  abbrev waits_and_least : Bool
  waits_and_least = is_to_recover c dead && not (list_any (is_to_recover c) (below dead))

  takes : may_take c by ≡ true
  takes = (and_parts (waits_and_least && not (list_any (is_recovering c) parties)) (may_take c by) may).1

  waits : is_to_recover c dead ≡ true
  waits = (and_parts (is_to_recover c dead) (not (list_any (is_to_recover c) (below dead)))
      (and_parts waits_and_least (not (list_any (is_recovering c) parties)) (and_parts (waits_and_least && not (list_any (is_recovering c) parties)) (may_take c by) may).0).0).0

  is_gone : (is_server dead && is_dead (c.servers dead).phase) ≡ true
  is_gone = (and_parts (is_server dead && is_dead (c.servers dead).phase) (nat_lt (c.servers dead).expiry c.now)
      (and_parts (is_server dead && is_dead (c.servers dead).phase && nat_lt (c.servers dead).expiry c.now) (is_hold_over c.now (log_hold c.locks dead)) waits).0).0

  pub recover_works : is_worker c by ≡ true
  recover_works = go (is_server by && is_up (c.servers by).phase) (by == host_party) (none_up c) takes
    where
      go : (up host none : Bool) → (up || (host && none)) ≡ true → (up || host) ≡ true
      go true host none is = refl
      go false host none is = (and_parts host none is).0

  pub recover_server : dead < SERVERS
  recover_server = is_below dead (and_parts (is_server dead) (is_dead (c.servers dead).phase) is_gone).0

  -- who is up isn't dead, and the host is no server
  pub recover_other : dead ≡ by → ⊥
  recover_other same = go (is_server by && is_up (c.servers by).phase) (by == host_party) refl refl recover_works
    where
      not_both : (phase : Phase) → is_up phase ≡ true → is_dead phase ≡ true → ⊥
      not_both Off up dead = false≢true up
      not_both Up up dead = false≢true dead
      not_both Still up dead = false≢true up
      not_both (Doomed fate) up dead = false≢true up
      not_both Dead up dead = false≢true up

      go : (up host : Bool) → (is_server by && is_up (c.servers by).phase) ≡ up → (by == host_party) ≡ host → (up || host) ≡ true → ⊥
      go true host is_it is_host works = not_both (c.servers by).phase (and_parts (is_server by) (is_up (c.servers by).phase) is_it).1
          (ap (λ a. is_dead (c.servers a).phase) (sym same) ∙ (and_parts (is_server dead) (is_dead (c.servers dead).phase) is_gone).1)
      go false true is_it is_host works = let at : by ≡ host_party = eqb-true by host_party is_host in let small : dead < SERVERS = recover_server in absurd (omega arith)
      go false false is_it is_host works = false≢true works

pub recovering_is : (s : State) (all : Parties) (table : Table) (dead by expiry : ℕ) (recovery : Option Recovery) → Becomes s.parties all by (record (servers_at s.parties by) { recovery = recovery })
    → recovery ≡ Some (recovery_of dead) → table.locks ≡ taken s.locks.locks dead by s.tick expiry → expiry ≡ expiry_of (core_at s) by
    → core_at (record s { parties = all; locks = table }) ≡ recovering (core_at s) dead by
recovering_is s all table dead by expiry recovery becomes is taken_is ends =
    party_and_locks s all table by (record (servers_at s.parties by) { recovery = recovery }) (taken s.locks.locks dead by s.tick expiry) becomes taken_is
    ∙ ap (λ (r : Option Recovery). record (with_server (core_at s) by (record ((core_at s).servers by) { recovery = r })) { locks = taken s.locks.locks dead by s.tick expiry }) is
    ∙ ap (λ (e : ℕ). record (with_server (core_at s) by (record ((core_at s).servers by) { recovery = Some (recovery_of dead) })) { locks = taken s.locks.locks dead by s.tick e }) ends

-- ---- Load and Look

pub looked_is : (s : State) (all : Parties) (by sector : ℕ) (block : Block)
    → Becomes s.parties all by (record (servers_at s.parties by) { recovery = option_map (λ (r : Recovery). record r { looked = with_value r.looked sector (wanted_over r sector block) }) (servers_at s.parties by).recovery })
    → core_at (record s { parties = all }) ≡ looked (core_at s) by sector block
unfolding log_redos log_rules
looked_is s all by sector block becomes =
    party_is s all by (record (servers_at s.parties by) { recovery = option_map (λ (r : Recovery). record r { looked = with_value r.looked sector (wanted_over r sector block) }) (servers_at s.parties by).recovery }) becomes

-- what passes of a recovery passes in other words
in_words : (recovery : Option Recovery) (test words : Recovery → Bool) → ((r : Recovery) → words r ≡ test r) → is_recovery test recovery ≡ true → IfSome recovery (λ r. words r ≡ true)
in_words None test words same is = tt
in_words (Some r) test words same is = same r ∙ is

pub slot_is_wanted : (s : State) (by slot : ℕ) → is_recovery (wants_slot (core_at s) slot) ((core_at s).servers by).recovery ≡ true
    → IfSome (servers_at s.parties by).recovery (λ r. member slot (unread_slots r.slots) ≡ true)
slot_is_wanted s by slot is = in_words (servers_at s.parties by).recovery (wants_slot (core_at s) slot) (λ r. member slot (unread_slots r.slots)) (λ r. ap (member slot) (unread_is r.slots)) is

pub look_is_wanted : (s : State) (by sector : ℕ) → is_recovery (wants_look (core_at s) sector) ((core_at s).servers by).recovery ≡ true
    → IfSome (servers_at s.parties by).recovery (λ r. member sector (looks_wanted s.parties.segments r) ≡ true)
look_is_wanted s by sector is =
    in_words (servers_at s.parties by).recovery (wants_look (core_at s) sector) (λ r. member sector (looks_wanted s.parties.segments r)) (λ r. ap (member sector) (looks_are s.parties.segments r)) is

-- ---- Finish

pub finish_works : (c : Core) (by : ℕ) → may_finish c by ≡ true → is_worker c by ≡ true
finish_works c by may = (and_parts (is_worker c by) (is_recovery (is_through c) (c.servers by).recovery) may).0

finished_where : (c : Core) (by dead : ℕ) (recovery : Option Recovery) → IsSomeAnd recovery (λ r. r.dead ≡ dead) → finished_by c by dead ≡ finished_from c by recovery
finished_where c by dead None is = absurd is
finished_where c by dead (Some r) is = ap (finished_by c by) (sym is)

put_other : (servers : ℕ → Server) (by dead : ℕ) (server : Server) → (dead ≡ by → ⊥) → put servers by server dead ≡ servers dead
put_other servers by dead server other = go (nat_eq dead by) refl
  where
    go : (t : Bool) → nat_eq dead by ≡ t → (if t then server else servers dead) ≡ servers dead
    go true e = absurd (other (eqb-true dead by e))
    go false e = refl

pub finished_is : (s : State) (between all : Parties) (table : Table) (by dead : ℕ) → Becomes s.parties between by (record (servers_at s.parties by) { recovery = None })
    → Becomes between all dead (recovered (servers_at between dead)) → table.locks ≡ cleared s.locks.locks dead → IsRecoveredBy s by dead
    → core_at (record s { parties = all; locks = table }) ≡ finished (core_at s) by
finished_is s between all table by dead out off given_back is =
    party_and_locks (record s { parties = between }) all table dead (recovered (servers_at between dead)) (cleared s.locks.locks dead) off given_back
    ∙ ap (λ (c : Core). record (with_server c dead (recovered (c.servers dead))) { locks = cleared s.locks.locks dead }) (party_is s between by idle out)
    ∙ ap (λ (server : Server). record (with_server (with_server (core_at s) by idle) dead (recovered server)) { locks = cleared s.locks.locks dead })
    (put_other (servers_at s.parties) by dead idle is.other)
    ∙ finished_where (core_at s) by dead ((core_at s).servers by).recovery is.recovery
  where
    idle : Server
    idle = record (servers_at s.parties by) { recovery = None }

-- of no write the sectors ascend
pub none_ascend : Ascend {V = Block} []
unfolding IsStrictlySortedBy
none_ascend = tt
