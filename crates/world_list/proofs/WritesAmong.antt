-- The sectors of which a party may issue a write are among those that its server keeps and those that its recovery wants written.
use Rattle.std.proofs.Common.{◌≡◌, ◌≢◌, ◌⊎◌, inl, inr, ⊎_elim, ℕ, Bool, true, false, not, ◌&&◌, ◌||◌, ◌==◌, if◌then◌else◌, List, [], ◌∷◌, ◌++◌, Option, Some, None, cond, filter, is_some, map, nat_eq, nat_le, slice_index_or, refl, sym, ap, ◌∙◌, subst}
use Rattle.std.specs.List.{cons_option, filter_map, flat_map}
use Rattle.std.specs.List.Sorted.{IsStrictlySortedBy}
use Rattle.std.specs.Map.{keys_of}
use Rattle.std.specs.Option.{option_map, option_to_list}
use Rattle.std.proofs.lemmas.Bool.{and_parts, cases_eq, false≢true, or_cases, or_left, or_right}
use Rattle.frang_base.specs.Functions.{member}
use Rattle.sector_bytes.specs.Blocks.{Block}
use Rattle.sector_bytes.specs.SectorMaps.{Ascend, value_at}
use Rattle.lock_definitions.specs.Locks.{Locks}
use Rattle.cache_definitions.specs.declared.dirt.Dirt.{Dirt}
use Rattle.cache_definitions.specs.Caches.{Cache, CachedSector}
use Rattle.clerk_cache.specs.Marks.{marks_of}
use Rattle.core_definitions.specs.Cores.{Core, stage, stamp_of, writes}
use Rattle.core_definitions.specs.Flights.{Flights, OfLog, OfRecovery, is_flying}
use Rattle.core_definitions.specs.LineGuards.{is_server}
use Rattle.core_definitions.specs.Lines.{Stage}
use Rattle.core_definitions.specs.Logs.{log_sector}
use Rattle.core_definitions.specs.Recoveries.{Recovery, recovery_writes}
use Rattle.core_definitions.specs.Rings.{next_write}
use Rattle.core_definitions.specs.Scripts.{host_party}
use Rattle.core_definitions.specs.Servers.{Server, first_server}
use Rattle.core_definitions.specs.Settings.{LogRules, Setting, disk_logs}
use Rattle.core_definitions.specs.WriteGuards.{is_at_last, is_in_flight_window, is_issuable, is_marked, is_worker, may_issue}
use Rattle.core_definitions.specs.Writes.{Write, Writes, is_place_wanted, log_wanted_to, log_write, place_write, place_writes, rescue_writes, wanted_writes}
use Rattle.log_slots.proofs.Maps.{ascending_member, member_append, member_here, member_other}
use Rattle.log_slots.specs.Reading.{log_rules}
use Rattle.recovery_demon.specs.Recovering.{Recovering, all_wanted, write, write_sectors, writes_wanted}
use Rattle.world_definitions.specs.Worlds.{host_of}
use Rattle.world_parties.specs.States.{IsRecovery, issued_at, issued_in, recovering_by, recovery_in, server_of}
use Rattle.world_state.specs.States.{IsKept, State, core_at, flies_by}
use Rattle.world_list.specs.Going.{IsParty}
use Rattle.world_list.specs.Issuing.{AreCandidates, server_sectors}
use Rattle.world_list.specs.Wanting.{Joins, SectorSet, dirty_sectors, kept_sectors, log_sectors, rescue_sectors, written_of}
use Rattle.world_list.proofs.RecoveryWants.{rules_are, writes_are_wanted}
use Rattle.world_list.proofs.Entries.{entries_ascend, of_entries}

-- ---- what a party wants written

-- where a member of a list is told, it is one of the longer list
either_member : (b : Bool) (rest more : Bool) → (rest ≡ true → more ≡ true) → (if b then true else rest) ≡ true → (if b then true else more) ≡ true
either_member true rest more grow is = refl
either_member false rest more grow is = grow is

-- those in place are dirty
module _ (a : ℕ) (wanted : ℕ × CachedSector → Bool) where
  abbrev of_entry : ℕ × CachedSector → Option (ℕ × Write)
  of_entry e = option_map (λ write. (e.0, write)) (place_write a (wanted e) e.1 e.1.dirt)

  dirty_placed : (cache : Cache) (s : ℕ) → member s (keys_of (filter_map of_entry cache)) ≡ true → member s (map (λ mark. mark.sector.0) (marks_of cache)) ≡ true
  dirty_placed [] s is = is
  dirty_placed (e ∷ es) s is = go (dirty_placed es s) (wanted e) e.1.dirt is
    where
      go : (member s (keys_of (filter_map of_entry es)) ≡ true → member s (map (λ mark. mark.sector.0) (marks_of es)) ≡ true) →
          (w : Bool) (d : Option Dirt) → member s (keys_of (cons_option (option_map (λ write. (e.0, write)) (place_write a w e.1 d)) (filter_map of_entry es))) ≡ true →
          member s (map (λ mark. mark.sector.0) (cons_option (option_map (λ dirt. record { sector = record { 0 = e.0 }; mark = dirt.mark }) d) (marks_of es))) ≡ true
      go more w None is = more is
      go more false (Some dirt) is = step (nat_eq e.0 s) (more is)
        where
          step : (b : Bool) → member s (map (λ mark. mark.sector.0) (marks_of es)) ≡ true → (if b then true else member s (map (λ mark. mark.sector.0) (marks_of es))) ≡ true
          step true there = refl
          step false there = there
      go more true (Some dirt) is = either_member (nat_eq e.0 s) (member s (keys_of (filter_map of_entry es))) (member s (map (λ mark. mark.sector.0) (marks_of es))) more is

-- that of the log is its next
abbrev of_log : LogRules → ℕ → ℕ × Block → ℕ × Write
of_log logs a next = (log_sector logs a next.0, record { behalf = a; block = next.1; purpose = OfLog next.0; mark = None })

next_logged : (logs : LogRules) (a upto : ℕ) (next : Option (ℕ × Block)) (s : ℕ) → member s (keys_of (log_write logs a upto next)) ≡ true →
    member s (option_to_list (option_map (λ next. log_sector logs a next.0) next)) ≡ true
next_logged logs a upto None s is = is
next_logged logs a upto (Some next) s is = go (nat_le next.0 upto) is
  where
    go : (b : Bool) → member s (keys_of (if b then of_log logs a next ∷ [] else [])) ≡ true →
        member s (log_sector logs a next.0 ∷ []) ≡ true
    go true is = is
    go false is = absurd (cc)

-- those of a recovery are what it wants written
abbrev of_rescue : ℕ → ℕ × Block → ℕ × Write
of_rescue dead write = (write.0, record { behalf = dead; block = write.1; purpose = OfRecovery; mark = None })

rescue_keys : (logs : LogRules) (segments : ℕ) (recovery : Recovery) → keys_of (rescue_writes logs segments (Some recovery)) ≡ keys_of (recovery_writes logs segments recovery)
rescue_keys logs segments recovery = go (recovery_writes logs segments recovery)
  where
    go : (writes : List (ℕ × Block)) → keys_of (map (of_rescue recovery.dead) writes) ≡ keys_of writes
    go [] = refl
    go (w ∷ ws) = ap (λ ks. w.0 ∷ ks) (go ws)

pub keys_append : {V : Type 0} (xs ys : List (ℕ × V)) → keys_of (xs ++ ys) ≡ keys_of xs ++ keys_of ys
keys_append [] ys = refl
keys_append (x ∷ xs) ys = ap (λ ks. x.0 ∷ ks) (keys_append xs ys)

none_ascend : Ascend {V = Write} []
unfolding IsStrictlySortedBy
none_ascend = tt

module _ (setting : Setting) (locks : Locks) (a : ℕ) (server : Server) (at : Option Stage) where
  abbrev rescues : Writes
  rescues = rescue_writes setting.logs setting.segments server.recovery

  abbrev places : Writes
  places = place_writes setting.logs locks a server at

  abbrev logged : Writes
  logged = log_write setting.logs a (log_wanted_to setting.logs locks a server at) (next_write server.ring)

  pub wants_ascend : Ascend (wanted_writes setting locks a server at)
  wants_ascend = entries_ascend (rescues ++ places ++ logged) [] none_ascend

  wanted_are : (s : ℕ) → is_some (value_at (wanted_writes setting locks a server at) s) ≡ (member s (keys_of rescues) || member s (keys_of places) || member s (keys_of logged))
  wanted_are s =
      of_entries (rescues ++ places ++ logged) [] s ∙ ap (member s) (keys_append (rescues ++ places) logged) ∙ member_append s (keys_of (rescues ++ places)) (keys_of logged)
      ∙ ap (λ b. b || member s (keys_of logged)) (ap (member s) (keys_append rescues places) ∙ member_append s (keys_of rescues) (keys_of places))

  -- each sector of which it wants a write is one that its recovery wants written, or is dirty, or is that of the log's next number
  pub wanted_among : (s : ℕ) → is_some (value_at (wanted_writes setting locks a server at) s) ≡ true → (member s (keys_of rescues) ≡ true) ⊎ ((member s (map (λ mark. mark.sector.0) (marks_of server.cache)) ≡ true)
      ⊎ (member s (option_to_list (option_map (λ next. log_sector setting.logs a next.0) (next_write server.ring))) ≡ true))
  wanted_among s is =
      ⊎_elim
      (λ rest. ⊎_elim (λ r. inl r) (λ p. inr (inl (dirty_placed a (λ e. is_place_wanted setting.logs locks a server at e.0 e.1) server.cache s p))) (or_cases (member s (keys_of rescues)) (member s (keys_of places)) rest))
      (λ l. inr (inr (next_logged setting.logs a (log_wanted_to setting.logs locks a server at) (next_write server.ring) s l)))
      (or_cases (member s (keys_of rescues) || member s (keys_of places)) (member s (keys_of logged)) (sym (wanted_are s) ∙ is))

-- ---- what a recovery wants

-- one that isn't issued is among them
pub written_unissued : (segments : ℕ) (recovery : Recovery) (issued : List (ℕ × Block)) (s : ℕ) → is_some (value_at issued s) ≡ false → member s (keys_of (recovery_writes disk_logs segments recovery)) ≡ true →
    member s (flat_map written_of (all_wanted segments recovery issued)) ≡ true
unfolding write_sectors writes_wanted log_rules
written_unissued segments recovery issued s off there =
    ap (member s) (writes_are_wanted segments recovery issued) ∙ ascending_member (keys_of (filter is_left (recovery_writes disk_logs segments recovery))) s ∙ kept (recovery_writes disk_logs segments recovery) there
  where
    is_left : ℕ × Block → Bool
    is_left w = not (is_some (value_at issued w.0))

    kept : (writes : List (ℕ × Block)) → member s (keys_of writes) ≡ true → member s (keys_of (filter is_left writes)) ≡ true
    kept [] is = is
    kept (w ∷ ws) is = ⊎_elim (λ h. first h) (λ h. behind (kept ws) h (is_left w)) (cases_eq s w.0)
      where
        first : s ≡ w.0 → member s (keys_of (cond (is_left w) (w ∷ filter is_left ws) (filter is_left ws))) ≡ true
        first h =
            ap (λ b. member s (keys_of (cond b (w ∷ filter is_left ws) (filter is_left ws)))) (subst (λ n. not (is_some (value_at issued n)) ≡ true) h (ap not off))
            ∙ subst (λ n. member s (n ∷ keys_of (filter is_left ws)) ≡ true) h (member_here s (keys_of (filter is_left ws)))

        behind : (member s (keys_of ws) ≡ true → member s (keys_of (filter is_left ws)) ≡ true) → s ≢ w.0 → (b : Bool) → member s (keys_of (cond b (w ∷ filter is_left ws) (filter is_left ws))) ≡ true
        behind more h true = member_other s w.0 (keys_of (filter is_left ws)) h ∙ more (sym (member_other s w.0 (keys_of ws) h) ∙ is)
        behind more h false = more (sym (member_other s w.0 (keys_of ws) h) ∙ is)

-- ---- those that may be issued

-- what flies by a party flies
flies : (flights : Flights) (a sector : ℕ) → flies_by flights a sector ≡ true → is_flying flights sector ≡ true
flies [] a sector is = is
flies (entry ∷ flights) a sector is = go (entry.1.server == a) (entry.1.sector == sector) (flies flights a sector) is
  where
    go : (own same : Bool) → (flies_by flights a sector ≡ true → is_flying flights sector ≡ true) → ((own && same) || flies_by flights a sector) ≡ true → (same || is_flying flights sector) ≡ true
    go own true rest there = refl
    go true false rest there = rest there
    go false false rest there = rest there

-- what may be issued is wanted, and no write of it is in flight
module _ (c : Core) (a sector : ℕ) (may : may_issue c a sector (writes c a) ≡ true) where
  abbrev wanted_ : Bool
  wanted_ = is_some (value_at (writes c a) sector)

  abbrev marked_ : Bool
  marked_ = is_marked c a (value_at (writes c a) sector)

  abbrev alone_ : Bool
  alone_ = not (is_flying c.flights sector)

  abbrev window_ : Bool
  window_ = is_in_flight_window c a (value_at (writes c a) sector)

  abbrev early_ : Bool
  early_ = nat_le c.now (stamp_of c a)

  abbrev well_ : Bool
  well_ = not (c.servers a).failed

  alone_so : (is_worker c a && wanted_ && marked_ && alone_) ≡ true
  alone_so =
      (and_parts (is_worker c a && wanted_ && marked_ && alone_) window_
      (and_parts (is_worker c a && wanted_ && marked_ && alone_ && window_) early_
      (and_parts (is_worker c a && wanted_ && marked_ && alone_ && window_ && early_) well_ (and_parts (is_issuable c a sector (writes c a)) (not (is_at_last (c.servers a).arming)) may).0).0).0).0

  pub issued_wanted : is_some (value_at (writes c a) sector) ≡ true
  issued_wanted = (and_parts (is_worker c a) wanted_ (and_parts (is_worker c a && wanted_) marked_ (and_parts (is_worker c a && wanted_ && marked_) alone_ alone_so).0).0).1

  issued_alone : is_flying c.flights sector ≡ true → ⊥
  issued_alone is = false≢true (ap not (sym is) ∙ (and_parts (is_worker c a && wanted_ && marked_) alone_ alone_so).1)

-- of a party in a world that isn't over
module _ (s : State) (a sector : ℕ) (kept : IsKept s) (going : s.over ≡ false) (party : IsParty a) (fits : IsRecovery s.parties.segments a (recovering_by s.parties a))
    (is : recovery_in (recovering_by s.parties a) ≡ ((core_at s).servers a).recovery) (may : may_issue (core_at s) a sector (writes (core_at s) a) ≡ true) where
  abbrev server : Server
  server = (core_at s).servers a

  -- one that its recovery has issued is in flight
  not_issued : is_some (value_at (issued_at s.parties a) sector) ≡ false
  not_issued = go (is_some (value_at (issued_at s.parties a) sector)) refl
    where
      go : (b : Bool) → is_some (value_at (issued_at s.parties a) sector) ≡ b → b ≡ false
      go true there = absurd (issued_alone (core_at s) a sector may (flies (core_at s).flights a sector ((kept.flying going).issued a sector there)))
      go false there = refl

  rescued : member sector (keys_of (rescue_writes disk_logs s.parties.segments server.recovery)) ≡ true → member sector (rescue_sectors (recovering_by s.parties a)) ≡ true
  rescued there = go (recovering_by s.parties a) fits not_issued (ap (λ r. member sector (keys_of (rescue_writes disk_logs s.parties.segments r))) is ∙ there)
    where
      go : (o : Option Recovering) → IsRecovery s.parties.segments a o → is_some (value_at (issued_in o) sector) ≡ false →
          member sector (keys_of (rescue_writes disk_logs s.parties.segments (recovery_in o))) ≡ true → member sector (rescue_sectors o) ≡ true
      go None fits off there = there
      go (Some r) fits off there =
          written_unissued r.segments r.recovery r.issued sector off
          (ap (λ n. member sector (keys_of (recovery_writes disk_logs n r.recovery))) fits.disk ∙ ap (member sector) (sym (rescue_keys disk_logs s.parties.segments r.recovery)) ∙ there)

  -- the host keeps nothing
  kept_so : (b : Bool) → is_server a ≡ b → member sector (kept_sectors a server) ≡ true → member sector (if b then kept_sectors a server else []) ≡ true
  kept_so true on there = there
  kept_so false off there = absurd (false≢true (sym (nothing (a == host_party) refl) ∙ there))
    where
      nothing : (b : Bool) → (a == host_party) ≡ b → member sector (kept_sectors a server) ≡ false
      nothing true host = ap (λ b. member sector (kept_sectors a (if b then host_of (recovery_in s.parties.host) else slice_index_or (map server_of s.parties.parties) a first_server))) host
      nothing false host = absurd (false≢true ((λ j. (sym off j || sym host j)) ∙ party))

  pub issued_among : (member sector (server_sectors s a) || member sector (rescue_sectors (recovering_by s.parties a))) ≡ true
  issued_among =
      ⊎_elim (λ r. or_right (member sector (server_sectors s a)) (member sector (rescue_sectors (recovering_by s.parties a))) (rescued r))
      (λ k. or_left (member sector (server_sectors s a)) (member sector (rescue_sectors (recovering_by s.parties a)))
      (kept_so (is_server a) refl (member_append sector (log_sectors a server) (dirty_sectors server) ∙ ⊎_elim (λ d. or_right (member sector (log_sectors a server)) (member sector (dirty_sectors server)) d)
      (λ l. or_left (member sector (log_sectors a server)) (member sector (dirty_sectors server)) (ap (λ logs. member sector (option_to_list (option_map (λ next. log_sector logs a next.0) (next_write server.ring)))) (sym rules_are) ∙ l)) k)))
      (wanted_among (core_at s).setting (core_at s).locks a server (stage (core_at s) a) sector (issued_wanted (core_at s) a sector may))

  -- of those that were joined
  pub issued_joined : (none servers all : SectorSet) → none ≡ [] → Joins (server_sectors s a) none servers → Joins (rescue_sectors (recovering_by s.parties a)) servers all → is_some (value_at all sector) ≡ true
  issued_joined none servers all empty first second =
      second sector ∙ ap (λ b. b || member sector (rescue_sectors (recovering_by s.parties a))) (first sector ∙ ap (λ (es : SectorSet). is_some (value_at es sector) || member sector (server_sectors s a)) empty)
      ∙ issued_among

no_sectors_ascend : Ascend {V = Unit {0}} []
unfolding IsStrictlySortedBy
no_sectors_ascend = tt

-- who may issue none has no candidates
pub none_wanted : (s : State) (a : ℕ) → ((sector : ℕ) → may_issue (core_at s) a sector (writes (core_at s) a) ≡ false) → AreCandidates s a []
none_wanted s a none = record { ordered = no_sectors_ascend; all = λ sector may. absurd (false≢true (sym (none sector) ∙ may)) }
