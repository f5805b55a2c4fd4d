-- Whether a server may issue the write of a sector, by what it is and by the kinds of writes.
use Rattle.std.proofs.Common.{◌≡◌, ℕ, ◌+◌, ◌<◌, ◌==◌, Bool, true, false, not, ◌&&◌, ◌||◌, if◌then◌else◌, List, [], ◌∷◌, length, Option, Some, None, is_some, nat_le, nat_lt, refl, sym, ap, ◌∙◌, subst, arith}
use Rattle.std.proofs.lemmas.Bool.{and_parts, false≢true, lt-ltb}
use Rattle.std.proofs.lemmas.Bool.Decides.{nat_tests}
use Rattle.std.proofs.lemmas.Option.{same_Some}
use Rattle.std.specs.BTreeMap.{is_at}
use Rattle.std.specs.Option.{IfSome, option_and_then, option_map, option_or}
use Rattle.std.specs.Ordering.{nat_cmp}
use Rattle.frang_base.specs.declared.limits.TheConstants.{SERVERS}
use Rattle.lock_definitions.specs.Lease.{write_stamp, write_stamp_of}
use Rattle.lock_definitions.specs.Locks.{Locks}
use Rattle.ring_definitions.specs.Rings.{Ring, first_waiting, next_sector}
use Rattle.disk_definitions.specs.declared.log_sector.LogSector.{LogSector}
use Rattle.sector_bytes.specs.Blocks.{Block}
use Rattle.sector_bytes.specs.SectorMaps.{Ascend, value_at}
use Rattle.log_slots.specs.Reading.{log_rules}
use Rattle.core_definitions.specs.Cores.{Core, stage, stamp_of, writes}
use Rattle.core_definitions.specs.Flights.{OfRecovery, is_flying}
use Rattle.core_definitions.specs.LineGuards.{is_server}
use Rattle.core_definitions.specs.Lines.{Stage}
use Rattle.core_definitions.specs.Logs.{log_sector}
use Rattle.core_definitions.specs.Recoveries.{Recovery, recovery_writes}
use Rattle.core_definitions.specs.Rings.{is_in_window, next_write}
use Rattle.core_definitions.specs.Scripts.{host_party}
use Rattle.core_definitions.specs.Servers.{Server, is_up}
use Rattle.core_definitions.specs.Settings.{LogRules, lease_to}
use Rattle.core_definitions.specs.WriteGuards.{is_issuable, is_worker, is_write}
use Rattle.core_definitions.specs.Writes.{Write, is_mark_reached, keeps_window, log_wanted_to, log_write, place_writes, rescue_writes}
use Rattle.recovery_demon.specs.Recovering.{Recovering}
use Rattle.server_writes.specs.Lists as lists
use Rattle.server_writes.specs.Lists.{entry_at, entry_of, write_at}
use Rattle.server_writes.specs.declared.writes.PlaceWrite.{PlaceWrite}
use Rattle.server_issues.specs.Doubled.{last_at}
use Rattle.server_issues.specs.Issuing.{IsIssuing, IsRecoveryOf, Issuing, issuable_write, log_entry, wanted_number}
use Rattle.server_issues.proofs.Doubled.{last-map}
use Rattle.server_issues.proofs.Overlay.{place_once, the_log_counts_first}

-- ---- a write that is found, where it may go

-- where its mark is reached and the limit of log sectors in flight is kept
abbrev pub settled : Ring → Option Write → Option Write
settled ring None = None
settled ring (Some w) = if is_mark_reached ring w.mark && keeps_window log_rules ring w.purpose then Some w else None

-- a test of all parts
abbrev pub by_parts : Bool → Bool → Bool → Bool → LogRules → Ring → Option Write → Bool
by_parts who early well flies logs ring write =
    who && is_some write && is_write (λ w. is_mark_reached ring w.mark) write && not flies && is_write (λ w. keeps_window logs ring w.purpose) write && early && well

pub free_passes : (ring : Ring) (write : Option Write) → (if by_parts true true true false log_rules ring write then write else None) ≡ settled ring write
free_passes ring None = refl
free_passes ring (Some w) = go (is_mark_reached ring w.mark) (keeps_window log_rules ring w.purpose)
  where
    chosen : Bool → Option Write
    chosen b = if b then Some w else None

    go : (m k : Bool) → chosen (((m && true) && k) && true && true) ≡ chosen (m && k)
    go true true = refl
    go true false = refl
    go false k = refl

-- without one of these nothing passes
pub stopped : (who early well flies : Bool) (logs : LogRules) (ring : Ring) (write : Option Write) → (who && early && well) ≡ false → by_parts who early well flies logs ring write ≡ false
stopped who early well flies logs ring write off =
    go who early well off (is_some write) (is_write (λ w. is_mark_reached ring w.mark) write) (not flies) (is_write (λ w. keeps_window logs ring w.purpose) write)
  where
    last : (a : Bool) → (a && false) ≡ false
    last true = refl
    last false = refl

    go : (a b d : Bool) → (a && b && d) ≡ false → (e f g h : Bool) → (a && e && f && g && h && b && d) ≡ false
    go false b d off e f g h = refl
    go true false d off e f g h = ap (λ t. t && d) (last (true && e && f && g && h))
    go true true true off e f g h = absurd (false≢true (sym off))
    go true true false off e f g h = last (true && e && f && g && h && true)

pub busy : (who early well : Bool) (logs : LogRules) (ring : Ring) (write : Option Write) → by_parts who early well true logs ring write ≡ false
busy who early well logs ring write = go who (is_some write) (is_write (λ w. is_mark_reached ring w.mark) write) (is_write (λ w. keeps_window logs ring w.purpose) write) early well
  where
    last : (a : Bool) → (a && false) ≡ false
    last true = refl
    last false = refl

    go : (a b d e f g : Bool) → (a && b && d && false && e && f && g) ≡ false
    go a b d e f g = ap (λ t. t && e && f && g) (last (a && b && d))

-- there is a write where one passes
pub some_passes : (who early well flies : Bool) (logs : LogRules) (ring : Ring) (write : Option Write)
    → is_some (if by_parts who early well flies logs ring write then write else None) ≡ by_parts who early well flies logs ring write
some_passes who early well flies logs ring None = go who (not flies) early well
  where
    nothing : Bool → Option Write
    nothing b = if b then None else None

    go : (a f e w : Bool) → is_some (nothing (a && false && false && f && false && e && w)) ≡ (a && false && false && f && false && e && w)
    go true f e w = refl
    go false f e w = refl
some_passes who early well flies logs ring (Some w) = go (by_parts who early well flies logs ring (Some w))
  where
    chosen : Bool → Option Write
    chosen b = if b then Some w else None

    go : (b : Bool) → is_some (chosen b) ≡ b
    go true = refl
    go false = refl

-- ---- the log's write

same_test : (a b : ℕ) → is_at (nat_cmp a) b ≡ (b == a)
same_test a b = grind (arith, nat_tests)

module _ (number upto s : ℕ) where
  abbrev numbered : Option (ℕ × Block) → Option ℕ
  numbered next = option_and_then (λ x. if nat_le x.0 upto && (log_sector log_rules number x.0 == s) then Some x.0 else None) next

  pub log_none : (next : Option (ℕ × Block)) → numbered next ≡ None → value_at (log_write log_rules number upto next) s ≡ None
  log_none None is = refl
  log_none (Some x) is = go (nat_le x.0 upto) (log_sector log_rules number x.0 == s) (same_test s (log_sector log_rules number x.0)) is
    where
      go : (b d : Bool) → is_at (nat_cmp s) (log_sector log_rules number x.0) ≡ d → (if b && d then Some x.0 else None) ≡ None
          → value_at (if b then (log_sector log_rules number x.0, log_entry number x) ∷ [] else []) s ≡ None
      go false d at is = refl
      go true true at is = absurd (cc)
      go true false at is = ap (λ t. if t then Some (log_entry number x) else None) at

  -- the same by the next number alone
  pub numbered_none : (next : Option (ℕ × Block)) → None ≡ option_map (λ x. x.0) next → None ≡ numbered next
  numbered_none None is = refl
  numbered_none (Some x) is = absurd (cc)

  pub numbered_some : (next : Option (ℕ × Block)) (n : ℕ) → Some n ≡ option_map (λ x. x.0) next → (b : Bool) → (nat_le n upto && (log_sector log_rules number n == s)) ≡ b → (if b then Some n else None) ≡ numbered next
  numbered_some None n is b test = absurd (cc)
  numbered_some (Some x) n is b test =
      let same : n ≡ x.0 = same_Some n x.0 is in
      ap (λ t. if t then Some n else None) (sym test) ∙ ap (λ k. if nat_le k upto && (log_sector log_rules number k == s) then Some k else None) same

  pub record IsLogged (next : Option (ℕ × Block)) (n : ℕ) : Type 0 where
    pub block : Block
    pub is : next ≡ Some (n, block)
    pub found : value_at (log_write log_rules number upto next) s ≡ Some (log_entry number (n, block))

  pub log_some : (next : Option (ℕ × Block)) (n : ℕ) → numbered next ≡ Some n → IsLogged next n
  log_some None n is = absurd (cc)
  log_some (Some x) n is = go (nat_le x.0 upto) refl (log_sector log_rules number x.0 == s) (same_test s (log_sector log_rules number x.0)) is
    where
      go : (b : Bool) → nat_le x.0 upto ≡ b → (d : Bool) → is_at (nat_cmp s) (log_sector log_rules number x.0) ≡ d → (if b && d then Some x.0 else None) ≡ Some n → IsLogged (Some x) n
      go false early d at is = absurd (cc)
      go true early false at is = absurd (cc)
      go true early true at is =
          let same : x.0 ≡ n = same_Some x.0 n is in
          record {
            block = x.1;
            is = ap (λ k. Some (k, x.1)) same;
            found = ap (λ b. value_at (if b then (log_sector log_rules number x.0, log_entry number x) ∷ [] else []) s) early
                ∙ ap (λ t. if t then Some (log_entry number x) else None) at ∙ ap (λ k. Some (log_entry number (k, x.1))) same;
          }

-- the next sector that the ring gives is the first not issued, where its number is in the window
next_by_window : (ring : Ring) (n : ℕ) (block : Block) → next_write ring ≡ Some (n, block) → next_sector ring ≡ (if is_in_window log_rules ring n then Some (n, block) else None)
unfolding log_rules
next_by_window ring n block is =
    ap (λ o. if nat_lt (length ring.above) 64 then o else None) is ∙ ap (λ b. if b then Some (n, block) else None) (same_window ring.reached (length ring.above) n (next_is ring.waiting is))
  where
    same_window : (reached above n : ℕ) → n ≡ reached + above + 1 → nat_lt above 64 ≡ nat_le n (reached + 64)
    same_window reached above n e = grind (arith, nat_tests)

    next_is : (waiting : List LogSector) → first_waiting (ring.reached + length ring.above + 1) waiting ≡ Some (n, block) → n ≡ ring.reached + length ring.above + 1
    next_is [] e = absurd (cc)
    next_is (x ∷ xs) e = sym (ap number_of e)
      where
        number_of : Option (ℕ × Block) → ℕ
        number_of None = 0
        number_of (Some p) = p.0

pub log_settled : (ring : Ring) (number n : ℕ) (block : Block) → next_write ring ≡ Some (n, block) → option_map (log_entry number) (next_sector ring) ≡ settled ring (Some (log_entry number (n, block)))
log_settled ring number n block is = ap (option_map (log_entry number)) (next_by_window ring n block is) ∙ go (is_in_window log_rules ring n)
  where
    go : (b : Bool) → option_map (log_entry number) (if b then Some (n, block) else None) ≡ (if true && b then Some (log_entry number (n, block)) else None)
    go true = refl
    go false = refl

-- ---- the write in place

pub from_entry : (number s : ℕ) (o : Option Write) (write : PlaceWrite) → Some (entry_of number write) ≡ option_map {U = ℕ × Write} (λ w. (s, w)) o → o ≡ Some (lists.write_of number write)
from_entry number s None write e = absurd (cc)
from_entry number s (Some w) write e = ap (λ p. Some p.1) (sym (same_Some (entry_of number write) (s, w) e))

pub no_entry : (s : ℕ) (o : Option Write) → None ≡ option_map {U = ℕ × Write} (λ w. (s, w)) o → o ≡ None
no_entry s None e = refl
no_entry s (Some w) e = absurd (cc)

pub place_settled : (ring : Ring) (number : ℕ) (write : PlaceWrite) → (if nat_le write.mark ring.reached then Some (lists.write_of number write) else None) ≡ settled ring (Some (lists.write_of number write))
place_settled ring number write = go (nat_le write.mark ring.reached)
  where
    chosen : Bool → Option Write
    chosen b = if b then Some (lists.write_of number write) else None

    go : (b : Bool) → chosen b ≡ chosen (b && true)
    go true = refl
    go false = refl

-- ---- the write of a recovery

pub rescue_settled : (ring : Ring) (segments : ℕ) (recovery : Option Recovery) (s : ℕ) → settled ring (last_at (rescue_writes log_rules segments recovery) s) ≡ last_at (rescue_writes log_rules segments recovery) s
rescue_settled ring segments None s = refl
rescue_settled ring segments (Some recovery) s = ap (settled ring) there ∙ go (last_at (recovery_writes log_rules segments recovery) s) ∙ sym there
  where
    made : Block → Write
    made block = record { behalf = recovery.dead; block = block; purpose = OfRecovery; mark = None }

    there : last_at (rescue_writes log_rules segments (Some recovery)) s ≡ option_map made (last_at (recovery_writes log_rules segments recovery) s)
    there = last-map made (recovery_writes log_rules segments recovery) s

    go : (o : Option Block) → settled ring (option_map made o) ≡ option_map made o
    go None = refl
    go (Some block) = refl

-- it isn't issued where none of the sector is in flight
pub unissued : (c : Core) (recovery : Option Recovering) (s : ℕ) → IfSome recovery (IsRecoveryOf c) → (r : Recovering) → recovery ≡ Some r → is_flying c.flights s ≡ false
    → (is_some (value_at r.issued s) ≡ false) × (c.setting.segments ≡ r.segments)
unissued c recovery s there r at flies =
    let P : Option Recovering → Type 0 = λ o. IfSome o (IsRecoveryOf c) in
    let of : IsRecoveryOf c r = subst P at there in
    (none (is_some (value_at r.issued s)) (λ e. sym flies ∙ of.issued s e), of.segments)
  where
    none : (b : Bool) → (b ≡ true → false ≡ true) → b ≡ false
    none true h = absurd (false≢true (h refl))
    none false h = refl

-- what the code finds of it is what is wanted there
pub rescued_at : (c : Core) (recovery : Option Recovering) (s : ℕ) → IfSome recovery (IsRecoveryOf c) → (r : Recovering) → recovery ≡ Some r → is_flying c.flights s ≡ false → (write : Option Write)
    → (is_some (value_at r.issued s) ≡ false → write ≡ last_at (rescue_writes log_rules r.segments (Some r.recovery)) s)
    → write ≡ last_at (rescue_writes log_rules c.setting.segments (option_map (λ r. r.recovery) recovery)) s
rescued_at c recovery s there r at flies write is =
    let of = unissued c recovery s there r at flies in
    is of.0 ∙ ap (λ n. last_at (rescue_writes log_rules n (Some r.recovery)) s) (sym of.1) ∙ ap (λ o. last_at (rescue_writes log_rules c.setting.segments (option_map (λ r. r.recovery) o)) s) (sym at)

-- ---- of a core

module _ (c : Core) (i : Issuing) (s : ℕ) (is : IsIssuing c i) (few : i.server.id < SERVERS) where
  abbrev number : ℕ
  number = i.server.id

  abbrev at : Option Stage
  at = stage c number

  abbrev pub ring : Ring
  ring = i.server.server.ring

  abbrev pub may_work : Bool
  may_work = is_up i.server.server.phase && nat_le i.tick (write_stamp i.server.server.expiry) && not i.server.server.failed

  abbrev over : LogRules → Locks → Server → Option Write
  over logs locks server = option_or (value_at (log_write logs number (log_wanted_to logs locks number server at) (next_write server.ring)) s)
      (option_or (last_at (place_writes logs locks number server at) s) (last_at (rescue_writes logs c.setting.segments server.recovery) s))

  abbrev pub logged : Option Write
  logged = value_at (log_write log_rules number (log_wanted_to log_rules i.locks number i.server.server at) (next_write ring)) s

  abbrev pub placed : Option Write
  placed = last_at (place_writes log_rules i.locks number i.server.server at) s

  abbrev pub rescued : Option Write
  rescued = last_at (rescue_writes log_rules c.setting.segments (option_map (λ r. r.recovery) i.recovery)) s

  found : value_at (writes c number) s ≡ option_or logged (option_or placed rescued)
  found = the_log_counts_first c.setting c.locks number (c.servers number) at s ∙ (λ j. over (is.logs j) (is.locks j) (is.server j))

  -- the host has another number
  other : (number == host_party) ≡ false
  other = not_host number few
    where
      not_host : (n : ℕ) → n < 16 → (n == 255) ≡ false
      not_host n small = grind (arith, nat_tests)

  works : is_worker c number ≡ is_up i.server.server.phase
  works = (λ j. (is_server number && is_up (is.server j).phase) || number == host_party) ∙ ap (λ b. (b && is_up i.server.server.phase) || number == host_party) (lt-ltb number SERVERS few)
      ∙ ap (λ b. is_up i.server.server.phase || b) other ∙ alone (is_up i.server.server.phase)
    where
      alone : (b : Bool) → (b || false) ≡ b
      alone true = refl
      alone false = refl

  early : nat_le c.now (stamp_of c number) ≡ nat_le i.tick (write_stamp i.server.server.expiry)
  early = (λ j. nat_le (is.tick j) (write_stamp_of (is.margin j) (if number == host_party then lease_to c.setting c.now else (is.server j).expiry)))
      ∙ ap (λ b. nat_le i.tick (write_stamp (if b then lease_to c.setting c.now else i.server.server.expiry))) other

  pub parts : is_issuable c number s (writes c number)
      ≡ by_parts (is_up i.server.server.phase) (nat_le i.tick (write_stamp i.server.server.expiry)) (not i.server.server.failed) (is_flying c.flights s) log_rules ring (value_at (writes c number) s)
  parts = λ j. by_parts (works j) (early j) (not (is.server j).failed) (is_flying c.flights s) (is.logs j) (is.server j).ring (value_at (writes c number) s)

  chosen : Bool → Option Write
  chosen b = if b then value_at (writes c number) s else None

  -- a write of the sector is in flight
  pub stops_busy : is_flying c.flights s ≡ true → is_issuable c number s (writes c number) ≡ false
  stops_busy flies =
      parts ∙ ap (λ f. by_parts (is_up i.server.server.phase) (nat_le i.tick (write_stamp i.server.server.expiry)) (not i.server.server.failed) f log_rules ring (value_at (writes c number) s)) flies
      ∙ busy (is_up i.server.server.phase) (nat_le i.tick (write_stamp i.server.server.expiry)) (not i.server.server.failed) log_rules ring (value_at (writes c number) s)

  -- no write of it is wanted, or none whose mark is reached
  pub stops_unmarked : (write : Option Write) → option_or logged (option_or placed rescued) ≡ write → is_write (λ w. is_mark_reached ring w.mark) write ≡ false
      → is_issuable c number s (writes c number) ≡ false
  stops_unmarked write there off =
      parts ∙ ap (by_parts (is_up i.server.server.phase) (nat_le i.tick (write_stamp i.server.server.expiry)) (not i.server.server.failed) (is_flying c.flights s) log_rules ring) (found ∙ there)
      ∙ ap (λ m. is_up i.server.server.phase && is_some write && m && not (is_flying c.flights s) && is_write (λ w. keeps_window log_rules ring w.purpose) write
      && nat_le i.tick (write_stamp i.server.server.expiry) && not i.server.server.failed) off
      ∙ go (is_up i.server.server.phase && is_some write) (not (is_flying c.flights s)) (is_write (λ w. keeps_window log_rules ring w.purpose) write) (nat_le i.tick (write_stamp i.server.server.expiry))
      (not i.server.server.failed)
    where
      go : (a f k e w : Bool) → (a && false && f && k && e && w) ≡ false
      go true f k e w = refl
      go false f k e w = refl

  -- where one may be issued there is one
  pub there_is : is_issuable c number s (writes c number) ≡ true → is_some (value_at (writes c number) s) ≡ true
  there_is may = go (is_some (value_at (writes c number) s)) refl
    where
      none_marked : (o : Option Write) → is_some o ≡ false → is_write (λ w. is_mark_reached ring w.mark) o ≡ false
      none_marked None e = refl
      none_marked (Some w) e = absurd (false≢true (sym e))

      go : (b : Bool) → is_some (value_at (writes c number) s) ≡ b → b ≡ true
      go true e = refl
      go false e = sym (stops_unmarked (value_at (writes c number) s) (sym found) (none_marked (value_at (writes c number) s) e)) ∙ may

  -- it doesn't work, or a write of the sector is in flight
  pub none_resting : may_work ≡ false → None ≡ issuable_write c number s
  none_resting off = sym (ap (λ b. if b then value_at (writes c number) s else None)
      (parts ∙ stopped (is_up i.server.server.phase) (nat_le i.tick (write_stamp i.server.server.expiry)) (not i.server.server.failed) (is_flying c.flights s) log_rules ring (value_at (writes c number) s) off))

  pub none_busy : is_flying c.flights s ≡ true → None ≡ issuable_write c number s
  none_busy flies = sym (ap (λ b. if b then value_at (writes c number) s else None) (stops_busy flies))

  -- else the write of the sector settles it
  pub by_write : may_work ≡ true → is_flying c.flights s ≡ false → (write : Option Write) → option_or logged (option_or placed rescued) ≡ write → settled ring write ≡ issuable_write c number s
  by_write works flies write there =
      let p = and_parts (is_up i.server.server.phase && nat_le i.tick (write_stamp i.server.server.expiry)) (not i.server.server.failed) works in
      let q = and_parts (is_up i.server.server.phase) (nat_le i.tick (write_stamp i.server.server.expiry)) p.0 in
      let free : is_issuable c number s (writes c number) ≡ by_parts true true true false log_rules ring (value_at (writes c number) s) =
      parts ∙ (λ j. by_parts (q.0 j) (q.1 j) (p.1 j) (flies j) log_rules ring (value_at (writes c number) s)) in
      sym (ap (λ b. if b then value_at (writes c number) s else None) free ∙ free_passes ring (value_at (writes c number) s) ∙ ap (settled ring) (found ∙ there))

  -- there is one that may be issued exactly where one may be
  pub some_may : is_some (issuable_write c number s) ≡ is_issuable c number s (writes c number)
  some_may = ap (λ b. is_some (if b then value_at (writes c number) s else None)) parts
      ∙ some_passes (is_up i.server.server.phase) (nat_le i.tick (write_stamp i.server.server.expiry)) (not i.server.server.failed) (is_flying c.flights s) log_rules ring (value_at (writes c number) s)
      ∙ sym parts

  -- ---- by kinds

  abbrev pub logs_number : Option ℕ
  logs_number = wanted_number i.locks number i.server.server at s

  no_log : (o : Option ℕ) → o ≡ logs_number → is_some o ≡ false → logged ≡ None
  no_log None there off = log_none number (log_wanted_to log_rules i.locks number i.server.server at) s (next_write ring) (sym there)
  no_log (Some n) there off = absurd (false≢true (sym off))

  pub by_log : may_work ≡ true → is_flying c.flights s ≡ false → (o : Option ℕ) → o ≡ logs_number → is_some o ≡ true → (write : Option Write) → write ≡ option_map (log_entry number) (next_sector ring)
      → write ≡ issuable_write c number s
  by_log works flies None there on write made = absurd (false≢true on)
  by_log works flies (Some n) there on write made =
      let l = log_some number (log_wanted_to log_rules i.locks number i.server.server at) s (next_write ring) n (sym there) in
      made ∙ log_settled ring number n l.block l.is ∙ by_write works flies (Some (log_entry number (n, l.block))) (ap (λ o. option_or o (option_or placed rescued)) l.found)

  module _ (sorted : Ascend i.server.server.cache) (o : Option ℕ) (there : o ≡ logs_number) (off : is_some o ≡ false) (works : may_work ≡ true) (flies : is_flying c.flights s ≡ false) where
    in_place : placed ≡ write_at i.locks number i.server.server at s
    in_place = place_once i.locks number i.server.server at s sorted

    over_log : option_or logged (option_or placed rescued) ≡ option_or (write_at i.locks number i.server.server at s) rescued
    over_log = ap (λ l. option_or l (option_or placed rescued)) (no_log o there off) ∙ ap (λ p. option_or p rescued) in_place

    pub by_place : (one : PlaceWrite) → Some (entry_of number one) ≡ entry_at i.locks number i.server.server at s → (write : Option Write)
        → write ≡ (if nat_le one.mark ring.reached then Some (lists.write_of number one) else None) → write ≡ issuable_write c number s
    by_place one is_one write made =
        made ∙ place_settled ring number one
        ∙ by_write works flies (Some (lists.write_of number one)) (over_log ∙ ap (λ w. option_or w rescued) (from_entry number s (write_at i.locks number i.server.server at s) one is_one))

    by_rest : None ≡ entry_at i.locks number i.server.server at s → rescued ≡ issuable_write c number s
    by_rest none = sym (rescue_settled ring c.setting.segments (option_map (λ r. r.recovery) i.recovery) s)
        ∙ by_write works flies rescued (over_log ∙ ap (λ w. option_or w rescued) (no_entry s (write_at i.locks number i.server.server at s) none))

    pub by_rescue : None ≡ entry_at i.locks number i.server.server at s → (r : Recovering) → i.recovery ≡ Some r → (write : Option Write)
        → (is_some (value_at r.issued s) ≡ false → write ≡ last_at (rescue_writes log_rules r.segments (Some r.recovery)) s) → write ≡ issuable_write c number s
    by_rescue none r there write made = rescued_at c i.recovery s is.recovery r there flies write made ∙ by_rest none

    pub by_none : None ≡ entry_at i.locks number i.server.server at s → i.recovery ≡ None → None ≡ issuable_write c number s
    by_none none there = sym (ap (λ recovery. last_at (rescue_writes log_rules c.setting.segments (option_map (λ r. r.recovery) recovery)) s) there) ∙ by_rest none
