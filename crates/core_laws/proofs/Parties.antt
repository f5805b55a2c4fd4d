-- Lists that go along the servers and the host.
use Rattle.std.proofs.Common.{ℕ, ◌⊎◌, inl, inr, Bool, true, false, ◌&&◌, ◌||◌, ◌==◌, List, [], ◌∷◌, IsTrue, refl, sym, subst, arith}
use Rattle.std.proofs.lemmas.Bool.Decides.{nat_tests}
use Rattle.std.specs.List.{flat_map}
use Rattle.std.proofs.lemmas.Bool.{ltb-true}
use Rattle.disk_definitions.proofs.Listed.{Among, among_left, among_right, among_below}
use Rattle.core_definitions.specs.Scripts.{host_party}
use Rattle.core_definitions.specs.Servers.{is_up}
use Rattle.core_definitions.specs.Cores.{Core, parties, server_numbers}
use Rattle.core_definitions.specs.Events.{Event}
use Rattle.core_definitions.specs.LineGuards.{is_server}
use Rattle.core_definitions.specs.WriteGuards.{is_worker}
use Rattle.core_definitions.specs.Enabled.{Party, all_parties, party_of}
use Rattle.core_laws.proofs.Membership.{into_flat, FromFlat, from_flat, into_map, FromMap, from_map}

pub server_in : (a : ℕ) → IsTrue (is_server a) → Among a server_numbers
server_in a h = among_below 16 a (ltb-true a 16 h)

pub server_in_parties : (a : ℕ) → IsTrue (is_server a) → Among a parties
server_in_parties a h = among_left a server_numbers (host_party ∷ []) (server_in a h)

pub worker_in_parties : (c : Core) (a : ℕ) → IsTrue (is_worker c a) → Among a parties
worker_in_parties c a h = go (cases (is_server a) (is_up (c.servers a).phase) (a == host_party) h)
  where
    cases : (x y z : Bool) → IsTrue ((x && y) || z) → IsTrue x ⊎ IsTrue z
    cases true y z h = inl refl
    cases false y z h = inr h

    go : IsTrue (is_server a) ⊎ IsTrue (a == host_party) → Among a parties
    go (inl s) = server_in_parties a s
    go (inr s) = among_right a server_numbers (host_party ∷ []) (inl (grind (arith, nat_tests, s)))

pub into_parties : (c : Core) (f : Party → List Event) (a : ℕ) (e : Event) → Among a parties → Among e (f (party_of c a)) → Among e (flat_map f (all_parties c))
into_parties c f a e i j = into_flat f (all_parties c) (party_of c a) e (into_map (party_of c) parties a i) j

pub record FromParties (c : Core) (f : Party → List Event) (e : Event) : Type 0 where
  pub a : ℕ
  pub there : Among e (f (party_of c a))

pub from_parties : (c : Core) (f : Party → List Event) (e : Event) → Among e (flat_map f (all_parties c)) → FromParties c f e
from_parties c f e i =
    let r : FromFlat f (all_parties c) e = from_flat f (all_parties c) e i in
    let m : FromMap (party_of c) parties r.from = from_map (party_of c) parties r.from r.there in
    record { a = m.from; there = subst (λ p. Among e (f p)) (sym m.is) r.gives_it }
