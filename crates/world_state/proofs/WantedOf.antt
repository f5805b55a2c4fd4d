-- What a write that is wanted of a sector says of its party, by what the write is of.
use Rattle.std.proofs.Common.{◌≡◌, ◌+◌, ℕ, ◌⊎◌, inl, inr, ⊎_elim, Bool, true, false, not, ◌&&◌, if◌then◌else◌, cond, List, [], ◌∷◌, Option, Some, None, IsSome, IsSomeAnd, is_some, map, nat_le, nat_lt, length, refl, sym, ap, ◌∙◌, subst, arith}
use Rattle.std.proofs.lemmas.Bool.{and_parts, false≢true}
use Rattle.std.proofs.lemmas.Bool.Decides.{nat_tests}
use Rattle.std.proofs.lemmas.Map.Entries.{lookup-filter-keys}
use Rattle.std.proofs.lemmas.Option.{same_Some}
use Rattle.std.specs.BTreeMap.{is_at}
use Rattle.std.specs.List.{cons_option, filter_map, list_all}
use Rattle.std.specs.Option.{option_map, option_or}
use Rattle.std.specs.Ordering.{nat_cmp}
use Rattle.frang_base.specs.declared.lock.LockId.{LockId}
use Rattle.sector_bytes.specs.Blocks.{Block}
use Rattle.sector_bytes.specs.SectorMaps.{value_at}
use Rattle.sector_bytes.proofs.MapLaws.{found}
use Rattle.lock_definitions.specs.Locks.{Locks}
use Rattle.disk_definitions.specs.declared.log_sector.LogSector.{LogSector}
use Rattle.ring_definitions.specs.Rings.{Ring, first_waiting, next_sector}
use Rattle.cache_definitions.specs.declared.dirt.Dirt.{Dirt}
use Rattle.cache_definitions.specs.Caches.{CachedSector}
use Rattle.core_definitions.specs.Flights.{InPlace, OfLog, OfRecovery, Purpose}
use Rattle.core_definitions.specs.Lines.{Stage}
use Rattle.core_definitions.specs.Logs.{log_sector}
use Rattle.core_definitions.specs.Recoveries.{Recovery, recovery_writes}
use Rattle.core_definitions.specs.Rings.{is_in_window, next_write}
use Rattle.core_definitions.specs.Servers.{Server}
use Rattle.core_definitions.specs.Settings.{LogRules, Setting, disk_logs}
use Rattle.core_definitions.specs.Writes.{Write, is_place_wanted, log_wanted_to, log_write, place_write, place_writes, rescue_writes, wanted_writes}
use Rattle.log_slots.specs.Reading.{log_rules}
use Rattle.recovery_demon.specs.Recovering.{writes_wanted}
use Rattle.server_issues.specs.Doubled.{last_at}
use Rattle.server_issues.specs.Laws.{TheLogCountsFirst}

-- ---- the last at a sector

pub last_there : {V : Type 0} (entries : List (ℕ × V)) (s : ℕ) → is_some (last_at entries s) ≡ is_some (value_at entries s)
last_there [] s = refl
last_there {V = V} (e ∷ entries) s = go (is_at (nat_cmp s) e.0) (last_at entries s) (value_at entries s) (last_there entries s)
  where
    go : (b : Bool) (o p : Option V) → is_some o ≡ is_some p → is_some (option_or o (if b then Some e.1 else None)) ≡ is_some (if b then Some e.1 else p)
    go true None p same = refl
    go true (Some x) p same = refl
    go false None p same = same
    go false (Some x) p same = same

-- it passes where all pass
last_passes : {V : Type 0} (test : V → Bool) (entries : List (ℕ × V)) (s : ℕ) (v : V) → list_all (λ e. test e.1) entries ≡ true → last_at entries s ≡ Some v → test v ≡ true
last_passes test [] s v all is = absurd (cc)
last_passes {V = V} test (e ∷ entries) s v all is =
    let parts = and_parts (test e.1) (list_all (λ e. test e.1) entries) all in
    go (last_at entries s) (is_at (nat_cmp s) e.0) parts.0 (last_passes test entries s v parts.1) is
  where
    go : (o : Option V) (b : Bool) → test e.1 ≡ true → (o ≡ Some v → test v ≡ true) → option_or o (if b then Some e.1 else None) ≡ Some v → test v ≡ true
    go (Some x) b passes behind is = behind is
    go None true passes behind is = ap test (sym (same_Some e.1 v is)) ∙ passes
    go None false passes behind is = absurd (cc)

-- ---- by what it is of

abbrev is_of_log : Purpose → Bool
is_of_log (OfLog number) = true
is_of_log (InPlace cover) = false
is_of_log OfRecovery = false

abbrev is_in_place : Purpose → Bool
is_in_place (OfLog number) = false
is_in_place (InPlace cover) = true
is_in_place OfRecovery = false

abbrev is_of_recovery : Purpose → Bool
is_of_recovery (OfLog number) = false
is_of_recovery (InPlace cover) = false
is_of_recovery OfRecovery = true

all_made : {X : Type 0} (f : X → Option (ℕ × Write)) (test : Write → Bool) (xs : List X) → ((x : X) (w : ℕ × Write) → f x ≡ Some w → test w.1 ≡ true)
    → list_all (λ (e : ℕ × Write). test e.1) (filter_map f xs) ≡ true
all_made f test [] each = refl
all_made f test (x ∷ xs) each = go (f x) refl (all_made f test xs each)
  where
    go : (o : Option (ℕ × Write)) → f x ≡ o → list_all (λ (e : ℕ × Write). test e.1) (filter_map f xs) ≡ true → list_all (λ (e : ℕ × Write). test e.1) (cons_option o (filter_map f xs)) ≡ true
    go None is rest = rest
    go (Some w) is rest = ap (λ b. b && list_all (λ (e : ℕ × Write). test e.1) (filter_map f xs)) (each x w is) ∙ rest

all_in_place : (logs : LogRules) (locks : Locks) (number : ℕ) (server : Server) (stage : Option Stage)
    → list_all (λ (e : ℕ × Write). is_in_place e.1.purpose) (place_writes logs locks number server stage) ≡ true
all_in_place logs locks number server stage =
    all_made (λ (entry : ℕ × CachedSector). option_map (λ write. (entry.0, write)) (place_write number (is_place_wanted logs locks number server stage entry.0 entry.1) entry.1 entry.1.dirt))
    (λ w. is_in_place w.purpose) server.cache (λ entry w is. made entry.0 (is_place_wanted logs locks number server stage entry.0 entry.1) entry.1 entry.1.dirt w is)
  where
    in_place : Option (ℕ × Write) → Bool
    in_place None = true
    in_place (Some w) = is_in_place w.1.purpose

    made : (sector : ℕ) (wanted : Bool) (cached : CachedSector) (dirt : Option Dirt) (w : ℕ × Write) → option_map (λ write. (sector, write)) (place_write number wanted cached dirt) ≡ Some w
        → is_in_place w.1.purpose ≡ true
    made sector wanted cached None w is = absurd (cc)
    made sector false cached (Some dirt) w is = absurd (cc)
    made sector true cached (Some dirt) w is = sym (ap in_place is)

abbrev rescue_of : ℕ → ℕ × Block → ℕ × Write
rescue_of dead write = (write.0, record { behalf = dead; block = write.1; purpose = OfRecovery; mark = None })

all_of_recovery : (dead : ℕ) (writes : List (ℕ × Block)) → list_all (λ (e : ℕ × Write). is_of_recovery e.1.purpose) (map (rescue_of dead) writes) ≡ true
all_of_recovery dead [] = refl
all_of_recovery dead (write ∷ writes) = all_of_recovery dead writes

all_rescue : (logs : LogRules) (segments : ℕ) (recovery : Option Recovery) → list_all (λ (e : ℕ × Write). is_of_recovery e.1.purpose) (rescue_writes logs segments recovery) ≡ true
all_rescue logs segments None = refl
all_rescue logs segments (Some recovery) = all_of_recovery recovery.dead (recovery_writes logs segments recovery)

-- as many sectors have one
same_sectors : (dead : ℕ) (writes : List (ℕ × Block)) (s : ℕ) → is_some (value_at (map (rescue_of dead) writes) s) ≡ is_some (value_at writes s)
same_sectors dead [] s = refl
same_sectors dead (write ∷ writes) s = go (is_at (nat_cmp s) write.0) (value_at (map (rescue_of dead) writes) s) (value_at writes s) (same_sectors dead writes s)
  where
    go : (b : Bool) (o : Option Write) (p : Option Block) → is_some o ≡ is_some p → is_some (if b then Some (rescue_of dead write).1 else o) ≡ is_some (if b then Some write.1 else p)
    go true o p same = refl
    go false o p same = same

-- ---- the log's

-- its number is that of the first sector that isn't issued
logged_next : (logs : LogRules) (number upto s : ℕ) (next : Option (ℕ × Block)) (w : Write) (n : ℕ) → value_at (log_write logs number upto next) s ≡ Some w → w.purpose ≡ OfLog n
    → IsSomeAnd next (λ x. x.0 ≡ n)
logged_next logs number upto s None w n at is = absurd (cc)
logged_next logs number upto s (Some x) w n at is = go (nat_le x.0 upto) (is_at (nat_cmp s) (log_sector logs number x.0)) at
  where
    one : Write
    one = record { behalf = number; block = x.1; purpose = OfLog x.0; mark = None }

    number_of : Purpose → ℕ
    number_of (OfLog m) = m
    number_of (InPlace cover) = 0
    number_of OfRecovery = 0

    numbered : Option Write → ℕ
    numbered None = 0
    numbered (Some w) = number_of w.purpose

    found_one : (here : Bool) → (if here then Some one else None) ≡ Some w → x.0 ≡ n
    found_one true at = ap numbered at ∙ ap number_of is
    found_one false at = absurd (cc)

    go : (early here : Bool) → value_at (if early then (log_sector logs number x.0, one) ∷ [] else []) s ≡ Some w → x.0 ≡ n
    go false here at = absurd (cc)
    go true here at = found_one (is_at (nat_cmp s) (log_sector logs number x.0)) at

logged_of_log : (logs : LogRules) (number upto s : ℕ) (next : Option (ℕ × Block)) (w : Write) → value_at (log_write logs number upto next) s ≡ Some w → is_of_log w.purpose ≡ true
logged_of_log logs number upto s None w at = absurd (cc)
logged_of_log logs number upto s (Some x) w at = go (nat_le x.0 upto) at
  where
    one : Write
    one = record { behalf = number; block = x.1; purpose = OfLog x.0; mark = None }

    of_log : Option Write → Bool
    of_log None = true
    of_log (Some w) = is_of_log w.purpose

    found_one : (here : Bool) → (if here then Some one else None) ≡ Some w → is_of_log w.purpose ≡ true
    found_one true at = sym (ap of_log at)
    found_one false at = absurd (cc)

    go : (early : Bool) → value_at (if early then (log_sector logs number x.0, one) ∷ [] else []) s ≡ Some w → is_of_log w.purpose ≡ true
    go false at = absurd (cc)
    go true at = found_one (is_at (nat_cmp s) (log_sector logs number x.0)) at

-- ---- all

module _ (law : TheLogCountsFirst) (setting : Setting) (locks : Locks) (number : ℕ) (server : Server) (stage : Option Stage) (s : ℕ) (w : Write)
    (wanted : value_at (wanted_writes setting locks number server stage) s ≡ Some w) where
  abbrev logged : Option Write
  logged = value_at (log_write setting.logs number (log_wanted_to setting.logs locks number server stage) (next_write server.ring)) s

  abbrev placed : Option Write
  placed = last_at (place_writes setting.logs locks number server stage) s

  abbrev rescued : Option Write
  rescued = last_at (rescue_writes setting.logs setting.segments server.recovery) s

  either : (o p : Option Write) → option_or o p ≡ Some w → (o ≡ Some w) ⊎ (p ≡ Some w)
  either None p is = inr is
  either (Some x) p is = inl is

  kinds : (logged ≡ Some w) ⊎ ((placed ≡ Some w) ⊎ (rescued ≡ Some w))
  kinds = ⊎_elim (λ l. inl l) (λ rest. inr (either placed rescued rest)) (either logged (option_or placed rescued) (sym (law setting locks number server stage s) ∙ wanted))

  in_place : placed ≡ Some w → is_in_place w.purpose ≡ true
  in_place is = last_passes (λ w. is_in_place w.purpose) (place_writes setting.logs locks number server stage) s w (all_in_place setting.logs locks number server stage) is

  of_recovery : rescued ≡ Some w → is_of_recovery w.purpose ≡ true
  of_recovery is = last_passes (λ w. is_of_recovery w.purpose) (rescue_writes setting.logs setting.segments server.recovery) s w (all_rescue setting.logs setting.segments server.recovery) is

  of_log : logged ≡ Some w → is_of_log w.purpose ≡ true
  of_log is = logged_of_log setting.logs number (log_wanted_to setting.logs locks number server stage) s (next_write server.ring) w is

  pub log_is_next : (n : ℕ) → w.purpose ≡ OfLog n → IsSomeAnd (next_write server.ring) (λ x. x.0 ≡ n)
  log_is_next n is = ⊎_elim
      (λ l. logged_next setting.logs number (log_wanted_to setting.logs locks number server stage) s (next_write server.ring) w n l is)
      (λ rest. ⊎_elim (λ p. absurd (false≢true (sym (ap is_in_place is) ∙ in_place p))) (λ r. absurd (false≢true (sym (ap is_of_recovery is) ∙ of_recovery r))) rest) kinds

  -- in place it is of a sector that is cached
  pub place_is_cached : (cover : LockId) → w.purpose ≡ InPlace cover → server.cache ≡ [] → ⊥
  place_is_cached cover is none = ⊎_elim
      (λ l. false≢true (sym (ap is_of_log is) ∙ of_log l))
      (λ rest. ⊎_elim (λ p. nothing_there (sym (ap (λ cache. last_at (filter_map made cache) s) none) ∙ p)) (λ r. false≢true (sym (ap is_of_recovery is) ∙ of_recovery r)) rest) kinds
    where
      made : ℕ × CachedSector → Option (ℕ × Write)
      made = λ entry. option_map (λ write. (entry.0, write)) (place_write number (is_place_wanted setting.logs locks number server stage entry.0 entry.1) entry.1 entry.1.dirt)

      nothing_there : None ≡ Some w → ⊥
      nothing_there e = absurd (cc)

  -- of a recovery it is one that this one wants
  pub rescue_is_wanted : w.purpose ≡ OfRecovery → IsSomeAnd server.recovery (λ r. is_some (value_at (recovery_writes setting.logs setting.segments r) s) ≡ true)
  rescue_is_wanted is = ⊎_elim
      (λ l. absurd (false≢true (sym (ap is_of_log is) ∙ of_log l)))
      (λ rest. ⊎_elim (λ p. absurd (false≢true (sym (ap is_in_place is) ∙ in_place p))) (λ r. by_recovery server.recovery r) rest) kinds
    where
      by_recovery : (recovery : Option Recovery) → last_at (rescue_writes setting.logs setting.segments recovery) s ≡ Some w
          → IsSomeAnd recovery (λ r. is_some (value_at (recovery_writes setting.logs setting.segments r) s) ≡ true)
      by_recovery None e = absurd (cc)
      by_recovery (Some r) e =
          sym (same_sectors r.dead (recovery_writes setting.logs setting.segments r) s) ∙ sym (last_there (rescue_writes setting.logs setting.segments (Some r)) s) ∙ ap is_some e

-- ---- what the code asks

-- within the limit of sectors in flight it is the ring's next
pub next_in_window : (ring : Ring) (n : ℕ) → IsSomeAnd (next_write ring) (λ x. x.0 ≡ n) → is_in_window disk_logs ring n ≡ true → IsSomeAnd (next_sector ring) (λ x. x.0 ≡ n)
next_in_window ring n next within = go ring.waiting next
  where
    in_window : (reached above m : ℕ) → reached + above + 1 ≡ m → nat_le m (reached + 64) ≡ true → nat_lt above 64 ≡ true
    in_window reached above m is early = grind (arith, nat_tests)

    go : (waiting : List LogSector) → IsSomeAnd (first_waiting (ring.reached + length ring.above + 1) waiting) (λ x. x.0 ≡ n)
        → IsSomeAnd (if nat_lt (length ring.above) 64 then first_waiting (ring.reached + length ring.above + 1) waiting else None) (λ x. x.0 ≡ n)
    go [] next = absurd next
    go (x ∷ waiting) next =
        let P : Bool → Type 0 = λ b. IsSomeAnd (if b then first_waiting (ring.reached + length ring.above + 1) (x ∷ waiting) else None) (λ x. x.0 ≡ n) in
        subst P (sym (in_window ring.reached (length ring.above) n next within)) next

-- one that isn't issued is wanted
pub wanted_unissued : (segments : ℕ) (recovery : Recovery) (issued : List (ℕ × Block)) (s : ℕ) → is_some (value_at issued s) ≡ false → is_some (value_at (recovery_writes disk_logs segments recovery) s) ≡ true
    → IsSome (value_at (writes_wanted segments recovery issued) s)
unfolding writes_wanted log_rules
wanted_unissued segments recovery issued s off there =
    ap is_some (lookup-filter-keys (is_at (nat_cmp s)) (λ k. not (is_some (value_at issued k))) (not (is_some (value_at issued s))) (λ k h. ap (λ n. not (is_some (value_at issued n))) (found s k h))
    (recovery_writes disk_logs segments recovery))
    ∙ ap (λ b. is_some (cond (not b) (value_at (recovery_writes disk_logs segments recovery) s) None)) off ∙ there
