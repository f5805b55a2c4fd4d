-- Over every run over the logs of a disk: what is acknowledged for a recovery is of a sector that it looked at, or of the log.
use Rattle.std.proofs.Common.{◌≡◌, ◌⊎◌, ℕ, ◌+◌, ◌%◌, ◌<◌, ◌≤◌, ◌==◌, Bool, true, false, not, if◌then◌else◌, IsTrue, is_some, List, [], ◌∷◌, Option, Some, None, filter, nat_eq, refl, sym, ap, ◌∙◌, subst, inl, inr, ⊎_elim, arith}
use Rattle.std.proofs.lemmas.Bool.{cases_eq, eqb-true, false≢true, not-true}
use Rattle.std.proofs.lemmas.Cmp.{nat_cmp_total}
use Rattle.std.specs.BTreeMap.{is_at}
use Rattle.std.specs.Option.{option_map}
use Rattle.std.specs.Ordering.{nat_cmp}
use Rattle.frang_base.specs.Functions.{member, put}
use Rattle.frang_base.specs.declared.script.Line.{Line}
use Rattle.frang_base.proofs.Basics.{at_put}
use Rattle.frang_base.proofs.Tests.{at_itself, at_only}
use Rattle.disk_definitions.proofs.Listed.{Among, among_filtered}
use Rattle.disk_definitions.specs.Regions.{region_of}
use Rattle.disk_definitions.specs.Replay.{is_replayed}
use Rattle.sector_bytes.specs.Blocks.{Block}
use Rattle.sector_bytes.specs.SectorMaps.{value_at, with_value}
use Rattle.sector_bytes.specs.Sectors.{Sectors}
use Rattle.sorted_entries.proofs.Sorted.{lookup-insert_entry}
use Rattle.core_definitions.specs.EndEffects.{recovered}
use Rattle.core_definitions.specs.Flights.{Flight, InPlace, OfLog, OfRecovery, Purpose}
use Rattle.core_definitions.specs.LineEffects.{failed_by}
use Rattle.core_definitions.specs.Logs.{is_read, log_sector}
use Rattle.core_definitions.specs.Recoveries.{Recovery, is_written, named_sectors, redos, to_look}
use Rattle.core_definitions.specs.Runs.{State, Run, first_state}
use Rattle.core_definitions.specs.Scripts.{host_party}
use Rattle.core_definitions.specs.Servers.{Server, is_up, wanting_all, wanting_all_up}
use Rattle.core_definitions.specs.Settings.{LogRules, disk_logs, setting_of}
use Rattle.core_definitions.specs.WriteEffects.{acknowledged, acknowledged_for, clean_now}
use Rattle.core_definitions.specs.Writes.{comes_clean}
use Rattle.core_facts.proofs.Owing.{IsOpen, Owed, Replays, SealsFirst, SealsLater, log_low, replayed_high}
use Rattle.core_facts.proofs.Rescuing.{RescueOf, Rescuing, at_ticket, rescuing_of_run}
use Rattle.core_facts.proofs.Rescuing as rescuing
use Rattle.core_facts.proofs.Turns as turns
use Rattle.core_facts.proofs.Turns.{Turn, Work, failed_at, step_turn, work_of}
use Rattle.core_laws.proofs.Along.{along}
use Rattle.core_laws.proofs.Keys.{member_in}

-- ---- maps by sector

at_other : (a b : ℕ) → (a ≡ b → ⊥) → is_at (nat_cmp a) b ≡ false
at_other a b other = go (is_at (nat_cmp a) b) refl
  where
    go : (x : Bool) → is_at (nat_cmp a) b ≡ x → x ≡ false
    go true e = absurd (other (at_only a b e))
    go false e = refl

pub put_in : {V : Type 0} (es : List (ℕ × V)) (s : ℕ) (v : V) → value_at (with_value es s v) s ≡ Some v
put_in es s v = lookup-insert_entry nat_cmp_total s v s es ∙ ap (λ b. if b then Some v else value_at es s) (at_itself s)

pub put_elsewhere : {V : Type 0} (es : List (ℕ × V)) (s : ℕ) (v : V) (x : ℕ) → (x ≡ s → ⊥) → value_at (with_value es s v) x ≡ value_at es x
put_elsewhere es s v x other = lookup-insert_entry nat_cmp_total s v x es ∙ ap (λ b. if b then Some v else value_at es x) (at_other x s other)

-- what is among the entries has a value
some_among : {V : Type 0} (es : List (ℕ × V)) (s : ℕ) (v : V) → Among {X = ℕ × V} (s, v) es → is_some (value_at es s) ≡ true
some_among [] s v i = absurd i
some_among {V} (e ∷ es) s v i = go (is_at (nat_cmp s) e.0) refl i (some_among es s v)
  where
    go : (b : Bool) → is_at (nat_cmp s) e.0 ≡ b → Among {X = ℕ × V} (s, v) (e ∷ es) → (Among {X = ℕ × V} (s, v) es → is_some (value_at es s) ≡ true) → is_some (if b then Some e.1 else value_at es s) ≡ true
    go true f j rest = refl
    go false f (inl same) rest = absurd (false≢true (sym f ∙ ap (λ (x : ℕ × V). is_at (nat_cmp s) x.0) (sym same) ∙ at_itself s))
    go false f (inr j) rest = rest j

-- ---- what is acknowledged

abbrev pub IsKnown : LogRules → Recovery → ℕ → Type 0
IsKnown logs r sector = (is_some (value_at r.looked sector) ≡ true) ⊎ ((number : ℕ) × (sector ≡ log_sector logs r.dead number))

abbrev pub AreKnown : LogRules → Option Recovery → Type 0
AreKnown logs None = Unit {0}
AreKnown logs (Some r) = (sector : ℕ) → is_written r sector ≡ true → IsKnown logs r sector

abbrev pub AllKnown : LogRules → (ℕ → Server) → Type 0
AllKnown logs servers = (i : ℕ) → AreKnown logs (servers i).recovery

-- what is owed is
owed_known : (logs : LogRules) (segments : ℕ) (r : Recovery) (sector : ℕ) (block : Block) → Owed logs segments r sector block → IsKnown logs r sector
owed_known logs segments r sector block (Replays i) = inl (some_among r.looked sector (Some block) i)
owed_known logs segments r sector block (SealsLater number i e b read unsealed) = inr (number, e)
owed_known logs segments r sector block (SealsFirst all e b read unsealed) = inr (_, e)

module _ (logs : LogRules) (servers : ℕ → Server) (m : AllKnown logs servers) where
  one_known : (a : ℕ) (new : Server) → AreKnown logs new.recovery → AllKnown logs (put servers a new)
  one_known a new k i = at_put (λ x. AreKnown logs x.recovery) servers a new i (λ e. k) (λ n. m i)

  one_same : (a : ℕ) (new : Server) → new.recovery ≡ (servers a).recovery → AllKnown logs (put servers a new)
  one_same a new same = one_known a new (subst (AreKnown logs) (sym same) (m a))

  failed_known : (a : ℕ) → AllKnown logs (failed_at servers a)
  failed_known a = go (a == host_party)
    where
      go : (b : Bool) → AllKnown logs (if b then servers else put servers a (failed_by (servers a)))
      go true = m
      go false = one_same a (failed_by (servers a)) refl

-- one more is acknowledged
one_more : (logs : LogRules) (segments : ℕ) (f : Flight) (r : Recovery) → IsOpen logs segments r f.sector f.block → AreKnown logs (Some r) → AreKnown logs (Some (acknowledged_for f.sector r))
one_more logs segments f r open_ k sector = go (nat_eq f.sector sector) refl
  where
    here : f.sector ≡ sector → IsKnown logs r sector
    here e = subst (IsKnown logs r) e (owed_known logs segments r f.sector f.block open_.owed)

    go : (b : Bool) → nat_eq f.sector sector ≡ b → (if b then true else is_written r sector) ≡ true → IsKnown logs r sector
    go true e h = here (eqb-true f.sector sector e)
    go false e h = k sector h

more_known : (logs : LogRules) (segments : ℕ) (f : Flight) (o : Option Recovery) → RescueOf logs segments f o → AreKnown logs o → AreKnown logs (option_map (acknowledged_for f.sector) o)
more_known logs segments f None open_ k = tt
more_known logs segments f (Some r) open_ k = one_more logs segments f r open_.1 k

looked_known : (logs : LogRules) (r : Recovery) (sector : ℕ) (wanted : Option Block) → AreKnown logs (Some r) → AreKnown logs (Some (record r { looked = with_value r.looked sector wanted }))
looked_known logs r sector wanted k other h = ⊎_elim (λ e. inl (go (cases_eq other sector) e)) (λ n. inr n) (k other h)
  where
    go : (other ≡ sector) ⊎ (other ≡ sector → ⊥) → is_some (value_at r.looked other) ≡ true → is_some (value_at (with_value r.looked sector wanted) other) ≡ true
    go (inl e) i = ap is_some (ap (value_at (with_value r.looked sector wanted)) e ∙ put_in r.looked sector wanted)
    go (inr n) i = ap is_some (put_elsewhere r.looked sector wanted other n) ∙ i

-- ---- each step

flushed_recovery : (test : Bool) (server : Server) → (if test then wanting_all_up server else server).recovery ≡ server.recovery
flushed_recovery false server = refl
flushed_recovery true server = go (is_up server.phase)
  where
    go : (b : Bool) → (if b then wanting_all server else server).recovery ≡ server.recovery
    go true = refl
    go false = refl

module _ (s : State) (flight : Flight) (h : flight.purpose ≡ OfRecovery → RescueOf s.core.setting.logs s.core.setting.segments flight (s.core.servers flight.server).recovery)
    (m : AllKnown s.core.setting.logs s.core.servers) where
  lands_known : (purpose : Purpose) → flight.purpose ≡ purpose →
      AllKnown s.core.setting.logs (put s.core.servers flight.server (acknowledged flight.sector flight.block purpose (s.core.servers flight.server)))
  lands_known (OfLog number) is = one_same s.core.setting.logs s.core.servers m flight.server _ refl
  lands_known (InPlace cover) is = go (comes_clean (s.core.servers flight.server) flight.sector flight.block)
    where
      go : (b : Bool) → AllKnown s.core.setting.logs (put s.core.servers flight.server (if b then clean_now flight.sector (s.core.servers flight.server) else s.core.servers flight.server))
      go true = one_same s.core.setting.logs s.core.servers m flight.server _ refl
      go false = one_same s.core.setting.logs s.core.servers m flight.server _ refl
  lands_known OfRecovery is =
      one_known s.core.setting.logs s.core.servers m flight.server _
      (more_known s.core.setting.logs s.core.setting.segments flight (s.core.servers flight.server).recovery (h is) (m flight.server))

known_turn : (s : State) (w : Work) → Turn s w → Rescuing s.core.setting.logs s.core.setting.segments s.core.servers s.core.flights → AllKnown s.core.setting.logs s.core.servers →
    AllKnown w.setting.logs w.servers
known_turn s w turns.Rests k m = m
known_turn s w (turns.Stays a) k m = one_same s.core.setting.logs s.core.servers m a _ refl
known_turn s w (turns.Lines a under server step) k m = one_same s.core.setting.logs s.core.servers m a _ refl
known_turn s w (turns.Caches a sector block needs cover server e need got) k m = one_same s.core.setting.logs s.core.servers m a _ refl
known_turn s w (turns.Reclaims a outcome server e) k m = one_same s.core.setting.logs s.core.servers m a _ refl
known_turn s w (turns.Clears a block server e) k m = one_same s.core.setting.logs s.core.servers m a _ refl
known_turn s w (turns.Commits a outcome server e none) k m = one_same s.core.setting.logs s.core.servers m a _ refl
known_turn s w (turns.Mounts a under server off u read) k m = one_known s.core.setting.logs s.core.servers m a _ tt
known_turn s w (turns.Leaves a server up clean) k m = one_known s.core.setting.logs s.core.servers m a _ tt
known_turn s w (turns.Arms a arming server up) k m = one_same s.core.setting.logs s.core.servers m a _ refl
known_turn s w (turns.Stalls a server up) k m = one_same s.core.setting.logs s.core.servers m a _ refl
known_turn s w (turns.Settles a server) k m = one_same s.core.setting.logs s.core.servers m a _ refl
known_turn s w (turns.Asks a lock mode server e) k m = m
known_turn s w (turns.Lowers a lock can) k m = m
known_turn s w (turns.Releases a lock can) k m = one_same s.core.setting.logs s.core.servers m a _ refl
known_turn s w (turns.Relocks locks are same waits) k m = m
known_turn s w (turns.Wants a up) k m = one_same s.core.setting.logs s.core.servers m a _ refl
known_turn s w (turns.Issues a sector write can e) k m = one_same s.core.setting.logs s.core.servers m a _ refl
known_turn s w (turns.Fades ticket flight e late) k m = m
known_turn s w (turns.Lands ticket flight e early present) k m =
    lands_known s flight (λ is. (at_ticket (rescuing.Ours s.core.setting.logs s.core.setting.segments s.core.servers) s.core.flights ticket flight e k.ours).1 present is) m flight.purpose refl
known_turn s w (turns.Drifts ticket flight e early present) k m = m
known_turn s w (turns.Breaks ticket flight new e early) k m = failed_known s.core.setting.logs s.core.servers m flight.server
known_turn s w (turns.Fails a) k m = failed_known s.core.setting.logs s.core.servers m a
known_turn s w (turns.Dooms a fate can) k m = one_same s.core.setting.logs s.core.servers m a _ refl
known_turn s w (turns.Resumes a can) k m = one_known s.core.setting.logs s.core.servers m a _ tt
known_turn s w (turns.Dies a fate server doomed) k m = one_known s.core.setting.logs s.core.servers m a _ tt
known_turn s w (turns.Renews a can) k m = one_same s.core.setting.logs s.core.servers m a _ refl
known_turn s w (turns.Ticks can) k m =
    λ i. subst (AreKnown s.core.setting.logs) (sym (flushed_recovery ((s.core.now + 1) % s.core.setting.flush_ticks == 0) (s.core.servers i))) (m i)
known_turn s w (turns.Recovers dead by can) k m = one_known s.core.setting.logs s.core.servers m by _ (λ sector h. absurd (false≢true h))
known_turn s w (turns.Loads by slot block recovery who has wants got) k m = one_known s.core.setting.logs s.core.servers m by _ (subst (AreKnown s.core.setting.logs) has (m by))
known_turn s w (turns.Looks by sector block recovery who has wants got) k m =
    one_known s.core.setting.logs s.core.servers m by _ (looked_known s.core.setting.logs recovery sector _ (subst (AreKnown s.core.setting.logs) has (m by)))
known_turn s w (turns.Finishes by recovery can has) k m =
    one_known s.core.setting.logs (put s.core.servers by (record (s.core.servers by) { recovery = None })) (one_known s.core.setting.logs s.core.servers m by _ tt) recovery.dead
    (recovered (s.core.servers recovery.dead)) (m recovery.dead)
known_turn s w turns.Halts k m = m

pub known_of_run : (script : List Line) (segments run : ℕ) (disk : Sectors) (s : State) → Run (first_state (setting_of script segments run) disk) s → AllKnown s.core.setting.logs s.core.servers
known_of_run script segments number disk =
    along (setting_of script segments number) disk (λ s. AllKnown s.core.setting.logs s.core.servers)
    (λ s v run step m. known_turn s (work_of v) (step_turn s v step) (rescuing_of_run script segments number disk s run) m) (λ i. tt)

-- ---- a sector that it is to look at

pub record IsUnlooked (logs : LogRules) (segments : ℕ) (r : Recovery) (sector : ℕ) : Type 0 where
  pub read : is_read logs r.slots ≡ true
  pub none : value_at r.looked sector ≡ None
  pub replayed : IsTrue (is_replayed (region_of segments sector))

pub unlooked : (logs : LogRules) (segments : ℕ) (r : Recovery) (sector : ℕ) → IsTrue (member sector (to_look logs segments r)) → IsTrue (is_replayed (region_of segments sector)) → IsUnlooked logs segments r sector
unlooked logs segments r sector wants replayed = go (is_read logs r.slots) refl (member_in sector (to_look logs segments r) wants)
  where
    no_value : (v : Option (Option Block)) → is_some v ≡ false → v ≡ None
    no_value None e = refl
    no_value (Some v) e = absurd (false≢true (sym e))

    go : (b : Bool) → is_read logs r.slots ≡ b → Among sector (if b then filter (λ s. not (is_some (value_at r.looked s))) (named_sectors segments (redos logs r)) else []) →
        IsUnlooked logs segments r sector
    go true e i = record {
      read = e;
      none = no_value (value_at r.looked sector) (not-true (is_some (value_at r.looked sector))
          (among_filtered (λ s. not (is_some (value_at r.looked s))) (named_sectors segments (redos logs r)) sector i).1);
      replayed = replayed;
    }
    go false e i = absurd i

-- isn't acknowledged for it
pub unlooked_unwritten : (segments : ℕ) (r : Recovery) (sector : ℕ) → r.dead < 256 → AreKnown disk_logs (Some r) → IsUnlooked disk_logs segments r sector → is_written r sector ≡ false
unlooked_unwritten segments r sector low k u = go (is_written r sector) refl
  where
    apart : (x y : ℕ) → 4294967296 ≤ x → y < 4294967296 → x ≡ y → ⊥
    apart x y h i e = absurd (omega (arith, h, i, e))

    go : (b : Bool) → is_written r sector ≡ b → b ≡ false
    go true e = absurd (⊎_elim (λ i. false≢true (sym (ap is_some u.none) ∙ i))
        (λ n. apart sector (log_sector disk_logs r.dead n.0) (replayed_high segments sector u.replayed) (log_low r.dead n.0 low) n.1) (k sector e))
    go false e = refl
