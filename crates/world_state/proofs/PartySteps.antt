-- One change of the parties behind another.
use Rattle.std.proofs.Common.{◌≡◌, ◌<◌, ◌==◌, ◌||◌, ℕ, Bool, true, false, if◌then◌else◌, nat_eq, refl, sym, ap, ◌∙◌}
use Rattle.std.proofs.lemmas.Bool.{eqb-true}
use Rattle.frang_base.specs.Functions.{member, put}
use Rattle.frang_base.specs.declared.limits.TheConstants.{SERVERS}
use Rattle.core_definitions.specs.LineGuards.{is_server}
use Rattle.core_definitions.specs.Scripts.{host_party}
use Rattle.core_definitions.specs.Servers.{Server}
use Rattle.petal_disk.specs.declared.flying.Flying.{Flying}
use Rattle.world_parties.proofs.Keeping.{keeps_then, still_none}
use Rattle.world_parties.specs.States.{Becomes, IsSame, Keeps, State as Parties, Stays, flags_at, servers_at}
use Rattle.world_state.specs.Arrivals.{Leaves}

stays_on : (old between new : Parties) → Stays old between → Stays between new → Stays old new
stays_on old between new first next = record { segments = next.segments ∙ first.segments; held = next.held ∙ first.held }

-- the core was the same before
pub becomes_behind : (old between new : Parties) (a : ℕ) (change : Server → Server) → IsSame old between → Becomes between new a (change (servers_at between a))
    → Becomes old new a (change (servers_at old a))
becomes_behind old between new a change first next = record {
  servers = next.servers ∙ ap (λ (f : ℕ → Server). put f a (change (f a))) first.servers;
  stays = stays_on old between new first.stays next.stays;
}

-- a party that is put where it is
pub put_itself : (servers : ℕ → Server) (a : ℕ) → put servers a (servers a) ≡ servers
put_itself servers a = λ i n. at n i
  where
    at : (n : ℕ) → put servers a (servers a) n ≡ servers n
    at n = go (nat_eq n a) refl
      where
        go : (b : Bool) → nat_eq n a ≡ b → (if b then servers a else servers n) ≡ servers n
        go true e = ap servers (sym (eqb-true n a e))
        go false e = refl

pub becomes_itself : (old new : Parties) (a : ℕ) (server : Server) → server ≡ servers_at old a → IsSame old new → Becomes old new a server
becomes_itself old new a server is same = record {
  servers = same.servers ∙ sym (put_itself (servers_at old) a) ∙ ap (put (servers_at old) a) (sym is);
  stays = same.stays;
}

-- who is no server is the host
pub host_of : (by : ℕ) → (is_server by || by == host_party) ≡ true → is_server by ≡ false → by ≡ host_party
host_of by party no_server = eqb-true by host_party (sym (ap (λ b. b || by == host_party) no_server) ∙ party)

-- ---- a write that has landed

-- what is kept no more isn't kept afterwards
pub left_on : (old between new : Parties) (flying : Flying) (first after : ℕ → Server) → Leaves old between flying first → Stays between new → Keeps between new → servers_at new ≡ after
    → Leaves old new flying after
left_on old between new flying first after leaves stays keeps is = record {
  servers = is;
  stays = stays_on old between new leaves.stays stays;
  keeps = keeps_then old between new leaves.keeps keeps;
  forgotten = record {
    flag = λ few. unflagged (member flying.put.sector.0 (flags_at new flying.put.server.0)) refl few;
    issued = still_none between new flying.put.server.0 flying.put.sector.0 keeps leaves.forgotten.issued;
  };
}
  where
    unflagged : (b : Bool) → member flying.put.sector.0 (flags_at new flying.put.server.0) ≡ b → flying.put.server.0 < SERVERS → b ≡ false
    unflagged true there few = sym (keeps.flags flying.put.server.0 flying.put.sector.0 there) ∙ leaves.forgotten.flag few
    unflagged false there few = refl

-- a change of its party behind that
pub left_changed : (old between new : Parties) (flying : Flying) (change : Server → Server) → Leaves old between flying (servers_at old)
    → Becomes between new flying.put.server.0 (change (servers_at between flying.put.server.0)) → Keeps between new
    → Leaves old new flying (put (servers_at old) flying.put.server.0 (change (servers_at old flying.put.server.0)))
left_changed old between new flying change leaves becomes keeps =
    left_on old between new flying (servers_at old) (put (servers_at old) flying.put.server.0 (change (servers_at old flying.put.server.0))) leaves becomes.stays keeps
    (becomes.servers ∙ ap (λ (f : ℕ → Server). put f flying.put.server.0 (change (f flying.put.server.0))) leaves.servers)

-- these are the same servers
pub left_as : (old new : Parties) (flying : Flying) (first after : ℕ → Server) → Leaves old new flying first → first ≡ after → Leaves old new flying after
left_as old new flying first after leaves same = record { servers = leaves.servers ∙ same; stays = leaves.stays; keeps = leaves.keeps; forgotten = leaves.forgotten }
