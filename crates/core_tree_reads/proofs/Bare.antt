-- Over every run who is no server, as the host, is off and has nothing cached, and no sector of a log waits with it: it writes for its recovery alone.
use Rattle.std.proofs.Common.{◌≡◌, ℕ, Bool, true, false, ◌+◌, ◌-◌, ◌%◌, ◌==◌, if◌then◌else◌, IsTrue, List, [], ◌∷◌, None, drop, nat_lt, slice_set, refl, sym, ap, ◌∙◌, subst}
use Rattle.std.proofs.lemmas.Bool.{false≢true}
use Rattle.frang_base.specs.Functions.{put}
use Rattle.frang_base.proofs.Basics.{at_put}
use Rattle.sector_bytes.specs.Blocks.{Block}
use Rattle.sector_bytes.specs.Sectors.{Sectors}
use Rattle.cache_definitions.specs.Caches.{cleaned}
use Rattle.ring_definitions.specs.Rings.{Ring, acked, passed}
use Rattle.core_definitions.specs.Flights.{Purpose, InPlace, OfLog, OfRecovery}
use Rattle.core_definitions.specs.Scripts.{host_party}
use Rattle.core_definitions.specs.Servers.{Server, is_off, is_up, wanting_all, wanting_all_up}
use Rattle.core_definitions.specs.Settings.{Setting}
use Rattle.core_definitions.specs.Writes.{comes_clean}
use Rattle.core_definitions.specs.LineGuards.{is_server}
use Rattle.core_definitions.specs.LineEffects.{failed_by}
use Rattle.core_definitions.specs.WriteEffects.{acknowledged, clean_now, flushed_at, ring_after}
use Rattle.core_definitions.specs.EndEffects.{recovered}
use Rattle.core_definitions.specs.Runs.{State, Run, first_state}
use Rattle.core_facts.proofs.Turns.{Work, work_of, failed_at, Turn, Rests, Stays, Lines, Caches, Reclaims, Clears, Commits, Mounts, Leaves, Arms, Stalls, Settles, Asks, Lowers, Releases, Relocks, Wants, Issues, Fades, Lands, Drifts, Breaks, Fails, Dooms, Resumes, Dies, Renews, Ticks, Recovers, Loads, Looks, Finishes, Halts, step_turn}
use Rattle.core_laws.proofs.Along.{along}

pub record Bare (server : Server) : Type 0 where
  pub off : IsTrue (is_off server.phase)
  pub cache : server.cache ≡ []
  pub waiting : server.ring.waiting ≡ []

-- ---- rings

passed_waits : (r : Ring) (n : ℕ) (above : List Bool) → (passed r n above).waiting ≡ r.waiting
passed_waits r n [] = refl
passed_waits r n (true ∷ above) = passed_waits r (n + 1) above
passed_waits r n (false ∷ above) = refl

acked_waits : (r : Ring) (n : ℕ) → (acked r n).waiting ≡ r.waiting
acked_waits r n = go (nat_lt r.reached n)
  where
    go : (b : Bool) → (if b then passed r r.reached (slice_set r.above (n - r.reached - 1) true) else r).waiting ≡ r.waiting
    go true = passed_waits r r.reached (slice_set r.above (n - r.reached - 1) true)
    go false = refl

issued_waits : (purpose : Purpose) (r : Ring) → r.waiting ≡ [] → (ring_after purpose r).waiting ≡ []
issued_waits (OfLog number) r e = ap (λ xs. drop 1 xs) e
issued_waits (InPlace cover) r e = e
issued_waits OfRecovery r e = e

-- ---- a server

wanting_bare : (server : Server) → Bare server → Bare (wanting_all_up server)
wanting_bare server b = go (is_up server.phase)
  where
    go : (u : Bool) → Bare (if u then wanting_all server else server)
    go true = record { off = b.off; cache = b.cache; waiting = b.waiting }
    go false = b

acknowledged_bare : (sector : ℕ) (block : Block) (purpose : Purpose) (server : Server) → Bare server → Bare (acknowledged sector block purpose server)
acknowledged_bare sector block (OfLog number) server b = record { off = b.off; cache = b.cache; waiting = acked_waits server.ring number ∙ b.waiting }
acknowledged_bare sector block (InPlace cover) server b = go (comes_clean server sector block)
  where
    go : (t : Bool) → Bare (if t then clean_now sector server else server)
    go true = record { off = b.off; cache = ap (λ cache. cleaned cache sector) b.cache; waiting = b.waiting }
    go false = b
acknowledged_bare sector block OfRecovery server b = record { off = b.off; cache = b.cache; waiting = b.waiting }

-- ---- a step

module _ (i : ℕ) (none : is_server i ≡ false) where
  abbrev IsBare : (ℕ → Server) → Type 0
  IsBare servers = Bare (servers i)

  module _ (s : State) (h : IsBare s.core.servers) where
    -- of one that has changed: where it is the host it is bare then
    one_bare : (a : ℕ) (v : Server) → (Bare (s.core.servers a) → Bare v) → IsBare (put s.core.servers a v)
    one_bare a v bare = at_put Bare s.core.servers a v i (λ e. bare (subst (λ k. Bare (s.core.servers k)) e h)) (λ n. h)

    -- of a server
    not_it : (a : ℕ) (v : Server) → IsTrue (is_server a) → IsBare (put s.core.servers a v)
    not_it a v server = at_put Bare s.core.servers a v i (λ e. absurd (false≢true (sym none ∙ subst (λ k. IsTrue (is_server k)) (sym e) server))) (λ n. h)

    failed_bare : (a : ℕ) → IsBare (failed_at s.core.servers a)
    failed_bare a = go (a == host_party)
      where
        go : (b : Bool) → IsBare (if b then s.core.servers else put s.core.servers a (failed_by (s.core.servers a)))
        go true = h
        go false = one_bare a (failed_by (s.core.servers a)) (λ b. record { off = b.off; cache = b.cache; waiting = b.waiting })

    flushed_bare : IsBare (flushed_at s.core (s.core.now + 1))
    flushed_bare = go ((s.core.now + 1) % s.core.setting.flush_ticks == 0)
      where
        go : (b : Bool) → Bare (if b then wanting_all_up (s.core.servers i) else s.core.servers i)
        go true = wanting_bare (s.core.servers i) h
        go false = h

    turn_bare : (w : Work) → Turn s w → IsBare w.servers
    turn_bare w Rests = h
    turn_bare w (Stays a) = one_bare a (s.core.servers a) (λ b. b)
    turn_bare w (Lines a under server step) = not_it a _ server
    turn_bare w (Caches a sector block needs cover server at there got) = not_it a _ server
    turn_bare w (Reclaims a outcome server at) = not_it a _ server
    turn_bare w (Clears a block server at) = not_it a _ server
    turn_bare w (Commits a outcome server at none) = not_it a _ server
    turn_bare w (Mounts a under server off is read) = not_it a _ server
    turn_bare w (Leaves a server up clean) = not_it a _ server
    turn_bare w (Arms a arming server up) = not_it a _ server
    turn_bare w (Stalls a server up) = not_it a _ server
    turn_bare w (Settles a server) = not_it a _ server
    turn_bare w (Asks a lock mode server at) = h
    turn_bare w (Lowers a lock can) = h
    turn_bare w (Releases a lock can) = not_it a _ can.server
    turn_bare w (Relocks locks are same wait) = h
    turn_bare w (Wants a up) = one_bare a (wanting_all (s.core.servers a)) (λ b. record { off = b.off; cache = b.cache; waiting = b.waiting })
    turn_bare w (Issues a sector write can is) =
        one_bare a _ (λ b. record { off = b.off; cache = b.cache; waiting = issued_waits write.purpose (s.core.servers a).ring b.waiting })
    turn_bare w (Fades ticket flight at late) = h
    turn_bare w (Lands ticket flight at early present) = one_bare flight.server _ (acknowledged_bare flight.sector flight.block flight.purpose (s.core.servers flight.server))
    turn_bare w (Drifts ticket flight at early past) = h
    turn_bare w (Breaks ticket flight new at early) = failed_bare flight.server
    turn_bare w (Fails a) = failed_bare a
    turn_bare w (Dooms a fate can) = not_it a _ can.server
    turn_bare w (Resumes a can) = not_it a _ can.server
    turn_bare w (Dies a fate server is) = not_it a _ server
    turn_bare w (Renews a can) = not_it a _ can.server
    turn_bare w (Ticks can) = flushed_bare
    turn_bare w (Recovers dead by can) = one_bare by _ (λ b. record { off = b.off; cache = b.cache; waiting = b.waiting })
    turn_bare w (Loads by slot block recovery who has wants got) = one_bare by _ (λ b. record { off = b.off; cache = b.cache; waiting = b.waiting })
    turn_bare w (Looks by sector block recovery who has wants got) = one_bare by _ (λ b. record { off = b.off; cache = b.cache; waiting = b.waiting })
    turn_bare w (Finishes by recovery can has) =
        at_put Bare (put s.core.servers by (record (s.core.servers by) { recovery = None })) recovery.dead (recovered (s.core.servers recovery.dead)) i
        (λ e. record { off = refl; cache = (subst (λ k. Bare (s.core.servers k)) e h).cache; waiting = refl })
        (λ n. one_bare by (record (s.core.servers by) { recovery = None }) (λ b. record { off = b.off; cache = b.cache; waiting = b.waiting }))
    turn_bare w Halts = h

pub who_is_bare : (setting : Setting) (disk : Sectors) (s : State) → Run (first_state setting disk) s → (i : ℕ) → is_server i ≡ false → Bare (s.core.servers i)
who_is_bare setting disk s run i none =
    along setting disk (λ s. Bare (s.core.servers i)) (λ s v before step h. turn_bare i none s h (work_of v) (step_turn s v step)) (record { off = refl; cache = refl; waiting = refl }) s run
