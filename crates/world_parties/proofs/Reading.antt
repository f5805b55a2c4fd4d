-- A party in its place is the core's server of its number, and what is asked of all sixteen is asked of their list.
use Rattle.std.proofs.Common.{◌≡◌, ◌<◌, ◌≤◌, ℕ, zero, suc, Bool, true, false, ◌&&◌, ◌||◌, if◌then◌else◌, Option, None, List, [], ◌∷◌, arith, length, map, take, get_or, refl, sym, ap, ◌∙◌, ◌==◌, subst, take-suc, take_all}
use Rattle.std.specs.List.{list_all, list_any}
use Rattle.std.proofs.lemmas.Bool.{false≢true, ltb-true}
use Rattle.std.proofs.lemmas.List.{get_or-map, length-map}
use Rattle.std.proofs.lemmas.List.Folds.{list_all-append, list_all-map, list_any-append}
use Rattle.frang_base.specs.declared.limits.TheConstants.{SERVERS}
use Rattle.tree_definitions.specs.Numbers.{below}
use Rattle.disk_definitions.proofs.Lists.{below_at}
use Rattle.core_definitions.specs.Cores.{server_numbers}
use Rattle.core_definitions.specs.LineGuards.{is_server}
use Rattle.core_definitions.specs.Scripts.{host_party}
use Rattle.core_definitions.specs.Servers.{Server, first_server}
use Rattle.recovery_demon.specs.Recovering.{Recovering}
use Rattle.world_definitions.proofs.Changing.{not_host}
use Rattle.world_definitions.specs.Worlds.{host_of}
use Rattle.world_parties.specs.States.{AreKept, IsRecovery, State, held_at, recovering_by, recovery_in, server_of, servers_at}
use Rattle.world_parties.specs.declared.party.Party.{Party}

-- ---- one of them

abbrev recovery_of_party : Party → Option Recovering
recovery_of_party party = party.recovery

-- the server of a number stands in its place of the list
pub server_at : (s : State) (a : ℕ) → a < SERVERS → servers_at s a ≡ get_or (map server_of s.parties) a first_server
server_at s a small = ap (λ (t : Bool). if t then host_of (recovery_in s.host) else get_or (map server_of s.parties) a first_server) (not_host a small)

pub party_at : (s : State) (a : ℕ) (d : Party) → AreKept s → a < SERVERS → server_of (get_or s.parties a d) ≡ servers_at s a
party_at s a d kept small = sym (get_or-map server_of s.parties a d first_server (omega (arith, kept.long, small))) ∙ sym (server_at s a small)

-- its number is that of its place
pub number_at : (s : State) (a : ℕ) (d : Party) → AreKept s → a < SERVERS → (get_or s.parties a d).server.id ≡ a
number_at s a d kept small =
    sym (get_or-map (λ (party : Party). party.server.id) s.parties a d 0 (omega (arith, kept.long, small)))
    ∙ ap (λ (numbers : List ℕ). get_or numbers a 0) kept.placed ∙ below_at SERVERS a small

-- ---- the same of a party that was found, in a state that is known by another name

pub found_server : (s old : State) (a i : ℕ) (d party : Party) → s ≡ old → AreKept s → a < SERVERS → i ≡ a → party ≡ get_or s.parties i d → server_of party ≡ servers_at old a
found_server s old a i d party seen kept small at was =
    ap server_of was ∙ ap (λ k. server_of (get_or s.parties k d)) at ∙ party_at s a d kept small ∙ ap (λ (o : State). servers_at o a) seen

pub found_number : (s : State) (a i : ℕ) (d party : Party) → AreKept s → a < SERVERS → i ≡ a → party ≡ get_or s.parties i d → party.server.id ≡ a
found_number s a i d party kept small at was =
    ap (λ (p : Party). p.server.id) was ∙ ap (λ k. (get_or s.parties k d).server.id) at ∙ number_at s a d kept small

-- ---- its recovery

pub recovering_at : (s : State) (a : ℕ) → a < SERVERS → recovering_by s a ≡ get_or (map recovery_of_party s.parties) a None
recovering_at s a small = ap (λ (t : Bool). if t then s.host else get_or (map recovery_of_party s.parties) a None) (not_host a small)

pub found_recovery : (s old : State) (a i : ℕ) (d party : Party) → s ≡ old → AreKept s → a < SERVERS → i ≡ a → party ≡ get_or s.parties i d → party.recovery ≡ recovering_by old a
found_recovery s old a i d party seen kept small at was =
    ap recovery_of_party was ∙ ap (λ k. recovery_of_party (get_or s.parties k d)) at
    ∙ sym (get_or-map recovery_of_party s.parties a d None (omega (arith, kept.long, small))) ∙ sym (recovering_at s a small) ∙ ap (λ (o : State). recovering_by o a) seen

-- it is of another server's log
pub found_fits : (s old : State) (a i : ℕ) (d party : Party) → s ≡ old → AreKept s → a < SERVERS → i ≡ a → party ≡ get_or s.parties i d → IsRecovery old.segments a party.recovery
found_fits s old a i d party seen kept small at was =
    let P : ℕ → Type 0 = λ n. IsRecovery old.segments n party.recovery in
    let Q : Party → Type 0 = λ p. IsRecovery old.segments p.server.id p.recovery in
    let R : State → Type 0 = λ o. IsRecovery o.segments (get_or s.parties i d).server.id (get_or s.parties i d).recovery in
    subst P (found_number s a i d party kept small at was) (subst Q (sym was) (subst R seen (kept.each i d (omega (arith, kept.long, small, at)))))

-- ---- who is asked

-- a party that isn't the host is a server
pub small_of : (by : ℕ) → (is_server by || by == host_party) ≡ true → (by == host_party) ≡ false → by < SERVERS
small_of by party not_host = ltb-true by SERVERS (go (is_server by) (by == host_party) party not_host)
  where
    go : (server host : Bool) → (server || host) ≡ true → host ≡ false → server ≡ true
    go true host party not_host = refl
    go false host party not_host = absurd (false≢true (sym not_host ∙ party))

-- ---- all sixteen

any_first : {X : Type 0} (test : X → Bool) (asked : ℕ → Bool) (xs : List X) (d : X) → ((a : ℕ) → a < length xs → asked a ≡ test (get_or xs a d))
    → (n : ℕ) → n ≤ length xs → list_any asked (below n) ≡ list_any test (take n xs)
any_first test asked xs d each zero inside = refl
any_first test asked xs d each (suc n) inside =
    list_any-append asked (below n) (n ∷ []) ∙ ap (λ b. b || (asked n || false)) (any_first test asked xs d each n (omega arith))
    ∙ ap (λ b. list_any test (take n xs) || (b || false)) (each n (omega arith))
    ∙ sym (list_any-append test (take n xs) (get_or xs n d ∷ [])) ∙ ap (list_any test) (sym (take-suc xs n d (omega arith)))

all_first : {X : Type 0} (test : X → Bool) (asked : ℕ → Bool) (xs : List X) (d : X) → ((a : ℕ) → a < length xs → asked a ≡ test (get_or xs a d))
    → (n : ℕ) → n ≤ length xs → list_all asked (below n) ≡ list_all test (take n xs)
all_first test asked xs d each zero inside = refl
all_first test asked xs d each (suc n) inside =
    list_all-append asked (below n) (n ∷ []) ∙ ap (λ b. b && (asked n && true)) (all_first test asked xs d each n (omega arith))
    ∙ ap (λ b. list_all test (take n xs) && (b && true)) (each n (omega arith))
    ∙ sym (list_all-append test (take n xs) (get_or xs n d ∷ [])) ∙ ap (list_all test) (sym (take-suc xs n d (omega arith)))

any_map : {A B : Type 0} (test : B → Bool) (f : A → B) (xs : List A) → list_any test (map f xs) ≡ list_any (λ x. test (f x)) xs
any_map test f [] = refl
any_map test f (x ∷ xs) = ap (λ b. test (f x) || b) (any_map test f xs)

mapped_long : (s : State) → AreKept s → length (map server_of s.parties) ≡ SERVERS
mapped_long s kept = length-map s.parties server_of ∙ kept.long

pub any_server : (s : State) (test : Server → Bool) → AreKept s → list_any (λ a. test (servers_at s a)) server_numbers ≡ list_any (λ party. test (server_of party)) s.parties
any_server s test kept =
    any_first test (λ a. test (servers_at s a)) (map server_of s.parties) first_server (λ a inside. ap test (server_at s a (omega (arith, inside, mapped_long s kept)))) SERVERS
    (omega (arith, mapped_long s kept))
    ∙ ap (list_any test) (take_all SERVERS (map server_of s.parties) (omega (arith, mapped_long s kept))) ∙ any_map test server_of s.parties

pub all_servers : (s : State) (test : Server → Bool) → AreKept s → list_all (λ a. test (servers_at s a)) server_numbers ≡ list_all (λ party. test (server_of party)) s.parties
all_servers s test kept =
    all_first test (λ a. test (servers_at s a)) (map server_of s.parties) first_server (λ a inside. ap test (server_at s a (omega (arith, inside, mapped_long s kept)))) SERVERS
    (omega (arith, mapped_long s kept))
    ∙ ap (list_all test) (take_all SERVERS (map server_of s.parties) (omega (arith, mapped_long s kept))) ∙ list_all-map test server_of s.parties

-- the same of marks
pub any_held : (s : State) → AreKept s → list_any (held_at s) server_numbers ≡ list_any (λ mark. mark) s.held
any_held s kept =
    any_first (λ mark. mark) (held_at s) s.held false (λ a inside. refl) SERVERS (omega (arith, kept.marked)) ∙ ap (list_any (λ mark. mark)) (take_all SERVERS s.held (omega (arith, kept.marked)))
