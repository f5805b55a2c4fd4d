-- What a step makes of the disk: nothing, or a write in flight comes in time, and then clock and leases are as before; and who is dead behind a step wasn't off before it.
use Rattle.std.proofs.Common.{◌≡◌, ℕ, ◌+◌, ◌%◌, ◌≤◌, ◌⊎◌, inl, inr, Bool, true, false, ◌==◌, if◌then◌else◌, IsTrue, None, Some, [], refl, sym, ap, ◌∙◌, subst}
use Rattle.std.proofs.lemmas.Bool.{false≢true}
use Rattle.frang_base.specs.Functions.{put}
use Rattle.frang_base.proofs.Basics.{at_put}
use Rattle.frang_outside.specs.Disk.{written}
use Rattle.sector_bytes.specs.Blocks.{Block}
use Rattle.sector_bytes.specs.SectorMaps.{value_at}
use Rattle.core_definitions.specs.Flights.{Flight, InPlace, OfLog, OfRecovery, Purpose}
use Rattle.core_definitions.specs.LineEffects.{failed_by}
use Rattle.core_definitions.specs.Runs.{State}
use Rattle.core_definitions.specs.Scripts.{host_party}
use Rattle.core_definitions.specs.Servers.{Dead, Doomed, Off, Phase, Server, Still, Up, is_dead, is_off, is_up, wanting_all, wanting_all_up}
use Rattle.core_definitions.specs.WriteEffects.{acknowledged, clean_now}
use Rattle.core_definitions.specs.Writes.{comes_clean}
use Rattle.core_facts.proofs.Turns.{Work, failed_at, Turn, Rests, Stays, Lines, Caches, Reclaims, Clears, Commits, Mounts, Leaves, Arms, Stalls, Settles, Asks, Lowers, Releases, Relocks, Wants, Issues, Fades, Lands, Drifts, Breaks, Fails, Dooms, Resumes, Dies, Renews, Ticks, Recovers, Loads, Looks, Finishes, Halts}

-- ---- arrivals

-- clock, phases and leases are as before
pub record IsBeside (s : State) (w : Work) : Type 0 where
  pub now : w.now ≡ s.core.now
  pub phase : (a : ℕ) → (w.servers a).phase ≡ (s.core.servers a).phase
  pub expiry : (a : ℕ) → (w.servers a).expiry ≡ (s.core.servers a).expiry

-- it has come in time
pub record Came (s : State) (w : Work) : Type 0 where
  pub ticket : ℕ
  pub flight : Flight
  pub there : value_at s.core.flights ticket ≡ Some flight
  pub early : s.core.now ≤ flight.stamp
  pub disk : w.disk ≡ written s.disk flight.sector flight.block
  pub beside : IsBeside s w

put_as : {X : Type 0} (f : Server → X) (servers : ℕ → Server) (b : ℕ) (new : Server) → f new ≡ f (servers b) → (a : ℕ) → f (put servers b new a) ≡ f (servers a)
put_as f servers b new same a = at_put (λ x. f x ≡ f (servers a)) servers b new a (λ e. same ∙ ap (λ n. f (servers n)) (sym e)) (λ n. refl)

taken_as : {X : Type 0} (f : Server → X) → ((server : Server) (number : ℕ) → f (acknowledged 0 [] (OfLog number) server) ≡ f server) → ((server : Server) (sector : ℕ) → f (clean_now sector server) ≡ f server) →
    ((server : Server) (sector : ℕ) (block : Block) → f (acknowledged sector block OfRecovery server) ≡ f server) → (sector : ℕ) (block : Block) (p : Purpose) (server : Server) → f (acknowledged sector block p server) ≡ f server
taken_as f logged cleaned rescued sector block (OfLog number) server = logged server number
taken_as f logged cleaned rescued sector block (InPlace cover) server = go (comes_clean server sector block)
  where
    go : (b : Bool) → f (if b then clean_now sector server else server) ≡ f server
    go true = cleaned server sector
    go false = refl
taken_as f logged cleaned rescued sector block OfRecovery server = rescued server sector block

failed_as : {X : Type 0} (f : Server → X) → ((server : Server) → f (failed_by server) ≡ f server) → (servers : ℕ → Server) (b a : ℕ) → f (failed_at servers b a) ≡ f (servers a)
failed_as f same servers b a = go (b == host_party)
  where
    go : (t : Bool) → f ((if t then servers else put servers b (failed_by (servers b))) a) ≡ f (servers a)
    go true = refl
    go false = put_as f servers b (failed_by (servers b)) (same (servers b)) a

pub turn_comes : (s : State) (w : Work) → Turn s w → (w.disk ≡ s.disk) ⊎ Came s w
turn_comes s w (Lands ticket flight e early present) = inr (record {
  ticket = ticket;
  flight = flight;
  there = e;
  early = early;
  disk = refl;
  beside = record {
    now = refl;
    phase = put_as (λ x. x.phase) s.core.servers flight.server _ (taken_as (λ x. x.phase) (λ x n. refl) (λ x n. refl) (λ x n b. refl) flight.sector flight.block flight.purpose (s.core.servers flight.server));
    expiry = put_as (λ x. x.expiry) s.core.servers flight.server _ (taken_as (λ x. x.expiry) (λ x n. refl) (λ x n. refl) (λ x n b. refl) flight.sector flight.block flight.purpose (s.core.servers flight.server));
  };
})
turn_comes s w (Drifts ticket flight e early present) = inr (record { ticket = ticket; flight = flight; there = e; early = early; disk = refl; beside = record { now = refl; phase = λ a. refl; expiry = λ a. refl } })
turn_comes s w (Breaks ticket flight true e early) = inr (record {
  ticket = ticket;
  flight = flight;
  there = e;
  early = early;
  disk = refl;
  beside = record { now = refl; phase = failed_as (λ x. x.phase) (λ x. refl) s.core.servers flight.server; expiry = failed_as (λ x. x.expiry) (λ x. refl) s.core.servers flight.server };
})
turn_comes s w (Breaks ticket flight false e early) = inl refl
turn_comes s w Rests = inl refl
turn_comes s w (Stays a) = inl refl
turn_comes s w (Lines a under server step) = inl refl
turn_comes s w (Caches a sector block needs cover server e f got) = inl refl
turn_comes s w (Reclaims a outcome server e) = inl refl
turn_comes s w (Clears a block server e) = inl refl
turn_comes s w (Commits a outcome server e cleared) = inl refl
turn_comes s w (Mounts a under server off u read) = inl refl
turn_comes s w (Leaves a server up clean) = inl refl
turn_comes s w (Arms a arming server up) = inl refl
turn_comes s w (Stalls a server up) = inl refl
turn_comes s w (Settles a server) = inl refl
turn_comes s w (Asks a lock mode server e) = inl refl
turn_comes s w (Lowers a lock can) = inl refl
turn_comes s w (Releases a lock can) = inl refl
turn_comes s w (Relocks locks are same wait) = inl refl
turn_comes s w (Wants a up) = inl refl
turn_comes s w (Issues a sector write can e) = inl refl
turn_comes s w (Fades ticket flight e late) = inl refl
turn_comes s w (Fails a) = inl refl
turn_comes s w (Dooms a fate can) = inl refl
turn_comes s w (Resumes a can) = inl refl
turn_comes s w (Dies a fate server p) = inl refl
turn_comes s w (Renews a can) = inl refl
turn_comes s w (Ticks can) = inl refl
turn_comes s w (Recovers dead by can) = inl refl
turn_comes s w (Loads by slot block recovery who has wants got) = inl refl
turn_comes s w (Looks by sector block recovery who has wants got) = inl refl
turn_comes s w (Finishes by recovery can has) = inl refl
turn_comes s w Halts = inl refl

-- ---- who is dead

dead_on : (p : Phase) → IsTrue (is_dead p) → is_off p ≡ false
dead_on Off h = absurd (false≢true h)
dead_on Up h = absurd (false≢true h)
dead_on Still h = absurd (false≢true h)
dead_on (Doomed fate) h = absurd (false≢true h)
dead_on Dead h = refl

module _ (servers : ℕ → Server) (d : ℕ) where
  abbrev Goal : Server → Type 0
  Goal x = IsTrue (is_dead x.phase) → is_off (servers d).phase ≡ false

  same_on : {p : Phase} → p ≡ (servers d).phase → IsTrue (is_dead p) → is_off (servers d).phase ≡ false
  same_on e h = dead_on (servers d).phase (subst (λ p. IsTrue (is_dead p)) e h)

  put_on : (c : ℕ) (new : Server) → (IsTrue (is_dead new.phase) → is_off (servers c).phase ≡ false) → Goal (put servers c new d)
  put_on c new here = at_put Goal servers c new d (λ e h. subst (λ n. is_off (servers n).phase ≡ false) (sym e) (here h)) (λ n. same_on refl)

  kept_on : (c : ℕ) (new : Server) → new.phase ≡ (servers c).phase → Goal (put servers c new d)
  kept_on c new e = put_on c new (λ h. dead_on (servers c).phase (subst (λ p. IsTrue (is_dead p)) e h))

flushed_phase : (server : Server) (test : Bool) → (if test then wanting_all_up server else server).phase ≡ server.phase
flushed_phase server false = refl
flushed_phase server true = go (is_up server.phase)
  where
    go : (b : Bool) → (if b then wanting_all server else server).phase ≡ server.phase
    go true = refl
    go false = refl

pub turn_was_on : (s : State) (w : Work) → Turn s w → (d : ℕ) → IsTrue (is_dead (w.servers d).phase) → is_off (s.core.servers d).phase ≡ false
turn_was_on s w Rests d = same_on s.core.servers d refl
turn_was_on s w (Stays a) d = kept_on s.core.servers d a _ refl
turn_was_on s w (Lines a under server step) d = kept_on s.core.servers d a _ refl
turn_was_on s w (Caches a sector block needs cover server e f got) d = kept_on s.core.servers d a _ refl
turn_was_on s w (Reclaims a outcome server e) d = kept_on s.core.servers d a _ refl
turn_was_on s w (Clears a block server e) d = kept_on s.core.servers d a _ refl
turn_was_on s w (Commits a outcome server e cleared) d = kept_on s.core.servers d a _ refl
turn_was_on s w (Mounts a under server off u read) d = put_on s.core.servers d a _ (λ h. absurd (false≢true h))
turn_was_on s w (Leaves a server up clean) d = put_on s.core.servers d a _ (λ h. absurd (false≢true h))
turn_was_on s w (Arms a arming server up) d = kept_on s.core.servers d a _ refl
turn_was_on s w (Stalls a server up) d = put_on s.core.servers d a _ (λ h. absurd (false≢true h))
turn_was_on s w (Settles a server) d = kept_on s.core.servers d a _ refl
turn_was_on s w (Asks a lock mode server e) d = same_on s.core.servers d refl
turn_was_on s w (Lowers a lock can) d = same_on s.core.servers d refl
turn_was_on s w (Releases a lock can) d = kept_on s.core.servers d a _ refl
turn_was_on s w (Relocks locks are same wait) d = same_on s.core.servers d refl
turn_was_on s w (Wants a up) d = kept_on s.core.servers d a _ refl
turn_was_on s w (Issues a sector write can e) d = kept_on s.core.servers d a _ refl
turn_was_on s w (Fades ticket flight e late) d = same_on s.core.servers d refl
turn_was_on s w (Fails a) d = same_on s.core.servers d (failed_as (λ x. x.phase) (λ x. refl) s.core.servers a d)
turn_was_on s w (Dooms a fate can) d = put_on s.core.servers d a _ (λ h. absurd (false≢true h))
turn_was_on s w (Resumes a can) d = put_on s.core.servers d a _ (λ h. absurd (false≢true h))
turn_was_on s w (Dies a fate server p) d = put_on s.core.servers d a _ (λ h. ap is_off p)
turn_was_on s w (Renews a can) d = kept_on s.core.servers d a _ refl
turn_was_on s w (Ticks can) d = same_on s.core.servers d (flushed_phase (s.core.servers d) ((s.core.now + 1) % s.core.setting.flush_ticks == 0))
turn_was_on s w (Recovers dead by can) d = kept_on s.core.servers d by _ refl
turn_was_on s w (Loads by slot block recovery who has wants got) d = kept_on s.core.servers d by _ refl
turn_was_on s w (Looks by sector block recovery who has wants got) d = kept_on s.core.servers d by _ refl
turn_was_on s w Halts d = same_on s.core.servers d refl
turn_was_on s w (Lands ticket flight e early present) d = same_on s.core.servers d (put_as (λ x. x.phase) s.core.servers flight.server _ (taken_as (λ x. x.phase) (λ x n. refl) (λ x n. refl) (λ x n b. refl) flight.sector flight.block flight.purpose (s.core.servers flight.server)) d)
turn_was_on s w (Drifts ticket flight e early present) d = same_on s.core.servers d refl
turn_was_on s w (Breaks ticket flight new e early) d = same_on s.core.servers d (failed_as (λ x. x.phase) (λ x. refl) s.core.servers flight.server d)
turn_was_on s w (Finishes by recovery can has) d = at_put (λ x. IsTrue (is_dead x.phase) → is_off (s.core.servers d).phase ≡ false) (put s.core.servers by (record (s.core.servers by) { recovery = None })) recovery.dead _ d
    (λ e h. absurd (false≢true h)) (λ n. kept_on s.core.servers d by _ refl)
