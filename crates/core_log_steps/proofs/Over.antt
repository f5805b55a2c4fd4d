-- A server that is dead with its lease over behind a step was so before, or has come to it by the step: by a tick, or as it died late. Then the step leaves the disk, the log and what is in flight.
use Rattle.std.proofs.Common.{◌≡◌, ℕ, ◌+◌, ◌%◌, ◌==◌, ◌≤◌, ◌⊎◌, inl, inr, Bool, true, false, if◌then◌else◌, IsTrue, None, refl, sym, ap, ◌∙◌, subst}
use Rattle.std.proofs.lemmas.Bool.{both_ways, cases_eq, cases_lt, false≢true}
use Rattle.frang_base.specs.Functions.{put}
use Rattle.frang_base.proofs.Basics.{at_put, put_other}
use Rattle.lock_definitions.specs.Lease.{HasEnded}
use Rattle.sector_bytes.specs.Blocks.{Block}
use Rattle.core_definitions.specs.Flights as core
use Rattle.core_definitions.specs.Runs.{State}
use Rattle.core_definitions.specs.Servers.{Server, is_dead, is_up, wanting_all, wanting_all_up}
use Rattle.core_definitions.specs.WriteEffects.{acknowledged, clean_now, died_with}
use Rattle.core_definitions.specs.Writes.{comes_clean}
use Rattle.core_facts.proofs.Phases.{mounted_dead_not, up_mounted}
use Rattle.core_facts.proofs.Turns.{Arms, Asks, Breaks, Caches, Clears, Commits, Dies, Dooms, Drifts, Fades, Fails, Finishes, Halts, Issues, Lands, Leaves, Lines, Loads, Looks, Lowers, Mounts, Reclaims, Recovers, Releases, Relocks, Renews, Rests, Resumes, Settles, Stalls, Stays, Ticks, Turn, Wants, Work}
use Rattle.core_journals.proofs.FlightChanges.{Was, died_were, here_were}
use Rattle.core_journals.proofs.Turning.{turn_next}
use Rattle.core_journals.specs.Journals as journals
use Rattle.core_laws.proofs.FlightLists.{AllFlights}
use Rattle.core_readings.specs.Logs.{log_journal}
use Rattle.core_world.specs.Journals.{Journal}
use Rattle.core_log_steps.proofs.Going.{Goes, Keeps, Turns}
use Rattle.core_log_steps.proofs.Lives.{IsLifeAs, dead_as, failed_life}

-- it was so, with the same lease
pub record WasOver (s : State) (w : Work) (d : ℕ) : Type 0 where
  pub dead : IsTrue (is_dead (s.core.servers d).phase)
  pub over : HasEnded s.core.now (s.core.servers d).expiry
  pub same : (w.servers d).expiry ≡ (s.core.servers d).expiry

-- or it wasn't yet
pub record Falls (s : State) (w : Work) (d : ℕ) (old new : journals.Journal) : Type 0 where
  pub early : IsTrue (is_dead (s.core.servers d).phase) → s.core.now ≤ (s.core.servers d).expiry
  pub flights : AllFlights (Was s) w.flights
  pub disk : w.disk ≡ s.disk
  pub journal : new ≡ old

abbrev Over : State → Work → ℕ → journals.Journal → journals.Journal → Type 0
Over s w d old new = WasOver s w d ⊎ Falls s w d old new

-- what is known of the server then
abbrev Goal : State → ℕ → Server → Type 0
Goal s d x = IsTrue (is_dead x.phase) → HasEnded s.core.now x.expiry → IsTrue (is_dead (s.core.servers d).phase) × HasEnded s.core.now (s.core.servers d).expiry × (x.expiry ≡ (s.core.servers d).expiry)

module _ (s : State) (d : ℕ) where
  abbrev servers : ℕ → Server
  servers = s.core.servers

  same : (x : Server) → is_dead x.phase ≡ is_dead (servers d).phase → x.expiry ≡ (servers d).expiry → Goal s d x
  same x phase expiry dead over = (sym phase ∙ dead, subst (λ e. HasEnded s.core.now e) expiry over, expiry)

  here : Goal s d (servers d)
  here = same (servers d) refl refl

  kept : (c : ℕ) (new : Server) → is_dead new.phase ≡ is_dead (servers c).phase → new.expiry ≡ (servers c).expiry → Goal s d (put servers c new d)
  kept c new phase expiry = at_put (Goal s d) servers c new d (λ e. same new (phase ∙ ap (λ n. is_dead (servers n).phase) (sym e)) (expiry ∙ ap (λ n. (servers n).expiry) (sym e))) (λ n. here)

  alive : (c : ℕ) (new : Server) → is_dead new.phase ≡ false → Goal s d (put servers c new d)
  alive c new not = at_put (Goal s d) servers c new d (λ e dead over. absurd (both_ways (is_dead new.phase) not dead)) (λ n. here)

  life : (x : Server) → IsLifeAs x (servers d) → Goal s d x
  life x l = same x (dead_as x.phase (servers d).phase l.phase) l.expiry

  -- a write of it was acknowledged
  taken_phase : (sector : ℕ) (block : Block) (p : core.Purpose) (server : Server) → (acknowledged sector block p server).phase ≡ server.phase
  taken_phase sector block (core.OfLog number) server = refl
  taken_phase sector block core.OfRecovery server = refl
  taken_phase sector block (core.InPlace cover) server = go (comes_clean server sector block)
    where
      go : (b : Bool) → (if b then clean_now sector server else server).phase ≡ server.phase
      go true = refl
      go false = refl

  taken_expiry : (sector : ℕ) (block : Block) (p : core.Purpose) (server : Server) → (acknowledged sector block p server).expiry ≡ server.expiry
  taken_expiry sector block (core.OfLog number) server = refl
  taken_expiry sector block core.OfRecovery server = refl
  taken_expiry sector block (core.InPlace cover) server = go (comes_clean server sector block)
    where
      go : (b : Bool) → (if b then clean_now sector server else server).expiry ≡ server.expiry
      go true = refl
      go false = refl

  -- at a tick
  flushed_phase : (server : Server) (test : Bool) → (if test then wanting_all_up server else server).phase ≡ server.phase
  flushed_phase server false = refl
  flushed_phase server true = go (is_up server.phase)
    where
      go : (b : Bool) → (if b then wanting_all server else server).phase ≡ server.phase
      go true = refl
      go false = refl

  flushed_expiry : (server : Server) (test : Bool) → (if test then wanting_all_up server else server).expiry ≡ server.expiry
  flushed_expiry server false = refl
  flushed_expiry server true = go (is_up server.phase)
    where
      go : (b : Bool) → (if b then wanting_all server else server).expiry ≡ server.expiry
      go true = refl
      go false = refl

  was : (w : Work) {old new : journals.Journal} → w.now ≡ s.core.now → Goal s d (w.servers d) → IsTrue (is_dead (w.servers d).phase) → HasEnded w.now (w.servers d).expiry → Over s w d old new
  was w now goal dead over = let x = goal dead (subst (λ n. HasEnded n (w.servers d).expiry) now over) in inl (record { dead = x.0; over = x.1; same = x.2 })

  turn_over : (w : Work) (t : Turn s w) (j : journals.Journal) → IsTrue (is_dead (w.servers d).phase) → HasEnded w.now (w.servers d).expiry → Over s w d j (turn_next s w t d j)
  turn_over w Rests j = was w refl here
  turn_over w (Stays a) j = was w refl (kept a (servers a) refl refl)
  turn_over w (Lines a under server step) j = was w refl (kept a _ refl refl)
  turn_over w (Caches a sector block needs cover server e f got) j = was w refl (kept a _ refl refl)
  turn_over w (Reclaims a outcome server e) j = was w refl (kept a _ refl refl)
  turn_over w (Clears a block server e) j = was w refl (kept a _ refl refl)
  turn_over w (Commits a outcome server e cleared) j = was w refl (kept a _ refl refl)
  turn_over w (Mounts a under server off u read) j = was w refl (alive a _ refl)
  turn_over w (Leaves a server up clean) j = was w refl (alive a _ refl)
  turn_over w (Arms a arming server up) j = was w refl (kept a _ refl refl)
  turn_over w (Stalls a server up) j = was w refl (alive a _ refl)
  turn_over w (Settles a server) j = was w refl (kept a _ refl refl)
  turn_over w (Asks a lock mode server e) j = was w refl here
  turn_over w (Lowers a lock can) j = was w refl here
  turn_over w (Releases a lock can) j = was w refl (kept a _ refl refl)
  turn_over w (Relocks locks are same wait) j = was w refl here
  turn_over w (Wants a up) j = was w refl (kept a _ refl refl)
  turn_over w (Issues a sector write can e) j = was w refl (kept a _ refl refl)
  turn_over w (Fades ticket flight e late) j = was w refl here
  turn_over w (Lands ticket flight e early present) j =
      was w refl (kept flight.server _ (ap is_dead (taken_phase flight.sector flight.block flight.purpose (servers flight.server))) (taken_expiry flight.sector flight.block flight.purpose (servers flight.server)))
  turn_over w (Drifts ticket flight e early present) j = was w refl here
  turn_over w (Breaks ticket flight new e early) j = was w refl (life (w.servers d) (failed_life servers flight.server d))
  turn_over w (Fails a) j = was w refl (life (w.servers d) (failed_life servers a d))
  turn_over w (Dooms a fate can) j = was w refl (alive a _ refl)
  turn_over w (Resumes a can) j = was w refl (alive a _ refl)
  turn_over w (Dies a fate server p) j = go (cases_eq d a)
    where
      go : (d ≡ a) ⊎ (d ≡ a → ⊥) → IsTrue (is_dead (w.servers d).phase) → HasEnded w.now (w.servers d).expiry → Over s w d j j
      go (inl e) dead over = inr (record { early = λ h. absurd (both_ways (is_dead (servers d).phase) (ap (λ n. is_dead (servers n).phase) e ∙ ap is_dead p) h); flights = died_were s a fate.loses; disk = refl; journal = refl })
      go (inr apart) dead over = was w refl (subst (Goal s d) (sym (put_other servers a (died_with fate (servers a)) d apart)) here) dead over
  turn_over w (Renews a can) j = was w refl (at_put (Goal s d) servers a _ d (λ e dead over. absurd (both_ways (is_dead (servers a).phase) (mounted_dead_not (servers a).phase (up_mounted (servers a).phase can.up)) dead)) (λ n. here))
  turn_over w (Ticks can) j = λ dead over. go (cases_lt (servers d).expiry s.core.now) dead
    where
      test : Bool
      test = (s.core.now + 1) % s.core.setting.flush_ticks == 0

      go : HasEnded s.core.now (servers d).expiry ⊎ (s.core.now ≤ (servers d).expiry) → IsTrue (is_dead (w.servers d).phase) → Over s w d j j
      go (inl over) dead = inl (record { dead = subst (λ p. IsTrue (is_dead p)) (flushed_phase (servers d) test) dead; over = over; same = flushed_expiry (servers d) test })
      go (inr early) dead = inr (record { early = λ h. early; flights = here_were s; disk = refl; journal = refl })
  turn_over w (Recovers dead by can) j = was w refl (kept by _ refl refl)
  turn_over w (Loads by slot block recovery who has wants got) j = was w refl (kept by _ refl refl)
  turn_over w (Looks by sector block recovery who has wants got) j = was w refl (kept by _ refl refl)
  turn_over w (Finishes by recovery can has) j =
      was w refl (at_put (Goal s d) (put servers by (record (servers by) { recovery = None })) recovery.dead _ d (λ e dead over. absurd (false≢true dead)) (λ n. kept by (record (servers by) { recovery = None }) refl refl))
  turn_over w Halts j = was w refl here

  -- of each step
  pub over_before : (w : Work) (journal further : ℕ → Journal) → Goes s journal further w → IsTrue (is_dead (w.servers d).phase) → HasEnded w.now (w.servers d).expiry →
      Over s w d (log_journal (journal d)) (log_journal (further d))
  over_before w journal further (Turns t is) dead over = subst (Over s w d (log_journal (journal d))) (is d) (turn_over w t (log_journal (journal d)) dead over)
  over_before w journal further (Keeps lives now were disk is) dead over = was w now (life (w.servers d) (lives d)) dead over
