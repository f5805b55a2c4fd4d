-- Where no write of a kind may be issued, and where none may at all.
use Rattle.std.proofs.Common.{◌≡◌, ℕ, ◌<◌, ◌==◌, Bool, true, false, not, ◌&&◌, ◌||◌, if◌then◌else◌, List, [], ◌∷◌, Option, Some, None, is_some, nat_le, refl, sym, ap, ◌∙◌, subst, eqb-true}
use Rattle.std.proofs.lemmas.Bool.{and_parts, false≢true}
use Rattle.std.proofs.lemmas.Option.{same_Some}
use Rattle.std.specs.BTreeMap.{is_at}
use Rattle.std.specs.List.{list_any}
use Rattle.std.specs.Option.{IfSome, option_and_then, option_map, option_or, unwrap_or}
use Rattle.std.specs.Ordering.{nat_cmp}
use Rattle.frang_base.specs.Functions.{member}
use Rattle.frang_base.proofs.Tests.{is_some-option_map}
use Rattle.frang_base.specs.declared.limits.TheConstants.{SERVERS}
use Rattle.frang_base.specs.declared.sector.Sector.{Sector}
use Rattle.sector_bytes.specs.Blocks.{Block}
use Rattle.sector_bytes.specs.SectorMaps.{Ascend, value_at}
use Rattle.sector_bytes.proofs.MapLaws.{found}
use Rattle.cache_definitions.specs.Caches.{CachedSector}
use Rattle.cache_definitions.specs.declared.dirt.Dirt.{Dirt}
use Rattle.log_slots.specs.Reading.{log_rules}
use Rattle.core_definitions.specs.Cores.{Core, stage, writes}
use Rattle.core_definitions.specs.Flights.{is_flying}
use Rattle.core_definitions.specs.Logs.{log_sector}
use Rattle.core_definitions.specs.Recoveries.{recovery_writes}
use Rattle.core_definitions.specs.Rings.{next_write}
use Rattle.core_definitions.specs.WriteGuards.{is_at_last, is_issuable, is_write, may_issue}
use Rattle.core_definitions.specs.Writes.{Write, is_mark_reached, is_place_wanted, log_wanted_to, place_write, rescue_writes}
use Rattle.recovery_demon.specs.Recovering.{Recovering}
use Rattle.server_writes.specs.Lists.{write_at}
use Rattle.server_writes.specs.Wants.{is_dirt_reached, is_due}
use Rattle.server_writes.proofs.Cached.{none_any, some_there}
use Rattle.server_issues.specs.Doubled.{last_at}
use Rattle.server_issues.specs.Issuing.{IsIssuing, IsOneThat, IsRecoveryOf, Issuing, wanted_number}
use Rattle.server_issues.specs.Nexts.{IsOneAmong, is_cached_at, is_log_at, is_place_at, is_rescue_at, is_rescue_of}
use Rattle.server_issues.proofs.Doubled.{last-map}
use Rattle.server_issues.proofs.Issued as issued
use Rattle.server_issues.proofs.Issued.{log_none}
use Rattle.server_issues.proofs.Overlay.{place_once}
use Rattle.server_issues.proofs.Rescues.{rescue_of, unissued}

nothing : {X : Type 0} (o : Option X) → is_some o ≡ false → o ≡ None
nothing None e = refl
nothing (Some x) e = absurd (false≢true (sym e))

-- ---- lists

-- none of the entries passes: nor the one that is found
pub none_found : {V : Type 0} (p : ℕ × V → Bool) (entries : List (ℕ × V)) (s : ℕ) (v : V) → list_any p entries ≡ false → value_at entries s ≡ Some v → p (s, v) ≡ false
none_found p [] s v none there = absurd (cc)
none_found {V = V} p (e ∷ entries) s v none there = go (λ rest at. none_found p entries s v rest at) (p e) refl (list_any p entries) refl none (is_at (nat_cmp s) e.0) refl there
  where
    at_key : (n : ℕ) (w : V) → e.0 ≡ n → e.1 ≡ w → p e ≡ p (n, w)
    at_key n w a b = λ j. p (a j, b j)

    go : (list_any p entries ≡ false → value_at entries s ≡ Some v → p (s, v) ≡ false) → (a : Bool) → p e ≡ a → (r : Bool) → list_any p entries ≡ r → (a || r) ≡ false → (b : Bool) → is_at (nat_cmp s) e.0 ≡ b → (if b then Some e.1 else value_at entries s) ≡ Some v → p (s, v) ≡ false
    go behind true is r rest none b at there = absurd (false≢true (sym none))
    go behind false is true rest none b at there = absurd (false≢true (sym none))
    go behind false is false rest none true at there = sym (at_key s v (found s e.0 at) (same_Some e.1 v there)) ∙ is
    go behind false is false rest none false at there = behind rest there

-- there is a last one exactly where there is one
some_last : {V : Type 0} (xs : List (ℕ × V)) (s : ℕ) → is_some (last_at xs s) ≡ is_some (value_at xs s)
some_last [] s = refl
some_last {V = V} (x ∷ xs) s = go (last_at xs s) (is_at (nat_cmp s) x.0) (some_last xs s)
  where
    go : (o : Option V) (b : Bool) → is_some o ≡ is_some (value_at xs s) → is_some (option_or o (if b then Some x.1 else None)) ≡ is_some (if b then Some x.1 else value_at xs s)
    go None true rest = refl
    go (Some v) true rest = refl
    go None false rest = rest
    go (Some v) false rest = rest

-- ---- a recovery

-- where it wants no write of a sector of which none is in flight, the core has none
pub rescued_none : (c : Core) (recovery : Option Recovering) (s : ℕ) → IfSome recovery (IsRecoveryOf c) → is_flying c.flights s ≡ false → unwrap_or (option_map (λ r. is_rescue_of r s) recovery) false ≡ false
    → last_at (rescue_writes log_rules c.setting.segments (option_map (λ r. r.recovery) recovery)) s ≡ None
rescued_none c recovery s there flies none = go recovery refl none
  where
    go : (o : Option Recovering) → recovery ≡ o → unwrap_or (option_map (λ r. is_rescue_of r s) o) false ≡ false → last_at (rescue_writes log_rules c.setting.segments (option_map (λ r. r.recovery) o)) s ≡ None
    go None at none = refl
    go (Some r) at none =
        let of = issued.unissued c recovery s there r at flies in
        nothing (last_at (rescue_writes log_rules c.setting.segments (Some r.recovery)) s)
        (ap is_some (last-map (rescue_of r.recovery) (recovery_writes log_rules c.setting.segments r.recovery) s)
        ∙ is_some-option_map (rescue_of r.recovery) (last_at (recovery_writes log_rules c.setting.segments r.recovery) s)
        ∙ some_last (recovery_writes log_rules c.setting.segments r.recovery) s ∙ ap (λ n. is_some (value_at (recovery_writes log_rules n r.recovery) s)) of.1
        ∙ ap is_some (sym (unissued r.segments r.recovery r.issued s of.0)) ∙ none)

-- ---- answers

-- what passes is of one of three kinds
pub of_kinds : (a b d passes : ℕ → Bool) → ((s : ℕ) → a s ≡ false → b s ≡ false → d s ≡ false → passes s ≡ false) → (r : Option Sector)
    → IsOneAmong a passes None → IsOneAmong b passes None → IsOneAmong d passes r → IsOneThat passes r
of_kinds a b d passes covered (Some sector) first second third = third
of_kinds a b d passes covered None first second third = λ s. go s (a s) refl (b s) refl (d s) refl
  where
    go : (s : ℕ) (x : Bool) → a s ≡ x → (y : Bool) → b s ≡ y → (z : Bool) → d s ≡ z → passes s ≡ false
    go s true is y at z of = first s is
    go s false is true at z of = second s at
    go s false is false at true of = third s of
    go s false is false at false of = covered s is at of

-- all that pass are among those chosen
pub covered : (chosen passes : ℕ → Bool) → ((s : ℕ) → chosen s ≡ false → passes s ≡ false) → (r : Option Sector) → IsOneAmong chosen passes r → IsOneThat passes r
covered chosen passes else_none (Some sector) one = one
covered chosen passes else_none None none = λ s. go s (chosen s) refl
  where
    go : (s : ℕ) (b : Bool) → chosen s ≡ b → passes s ≡ false
    go s true is = none s is
    go s false is = else_none s is

-- of fewer
pub weaker : (a b passes : ℕ → Bool) → ((s : ℕ) → b s ≡ true → a s ≡ true) → (r : Option Sector) → IsOneAmong a passes r → IsOneAmong b passes r
weaker a b passes fewer None none = λ s there. none s (fewer s there)
weaker a b passes fewer (Some sector) one = one

-- ---- of a core

module _ (c : Core) (i : Issuing) (is : IsIssuing c i) (few : i.server.id < SERVERS) where
  abbrev number : ℕ
  number = i.server.id

  abbrev passes : ℕ → Bool
  passes s = is_issuable c number s (writes c number)

  -- ---- the log

  pub of_log : (n s : ℕ) → option_map (λ next. next.0) (next_write i.server.server.ring) ≡ Some n → is_log_at i c s ≡ true → s ≡ log_sector log_rules number n
  of_log n s next there = go (next_write i.server.server.ring) next there
    where
      upto : ℕ
      upto = log_wanted_to log_rules i.locks number i.server.server (stage c number)

      go : (o : Option (ℕ × Block)) → option_map (λ next. next.0) o ≡ Some n
          → is_some (option_and_then (λ next. if nat_le next.0 upto && (log_sector log_rules number next.0 == s) then Some next.0 else None) o) ≡ true → s ≡ log_sector log_rules number n
      go None next there = absurd (cc)
      go (Some x) next there = at (nat_le x.0 upto) (log_sector log_rules number x.0 == s) refl there
        where
          at : (a b : Bool) → (log_sector log_rules number x.0 == s) ≡ b → is_some (if a && b then Some x.0 else None) ≡ true → s ≡ log_sector log_rules number n
          at false b is there = absurd (false≢true there)
          at true false is there = absurd (false≢true there)
          at true true is there = sym (eqb-true (log_sector log_rules number x.0) s is) ∙ ap (log_sector log_rules number) (same_Some x.0 n next)

  pub of_none : None ≡ option_map (λ next. next.0) (next_write i.server.server.ring) → (s : ℕ) → is_log_at i c s ≡ false
  of_none none s = go (next_write i.server.server.ring) none
    where
      go : (o : Option (ℕ × Block)) → None ≡ option_map (λ next. next.0) o
          → is_some (option_and_then (λ next. if nat_le next.0 (log_wanted_to log_rules i.locks number i.server.server (stage c number)) && (log_sector log_rules number next.0 == s) then Some next.0 else None) o) ≡ false
      go None none = refl
      go (Some x) none = absurd (cc)

  -- ---- with the arming

  pub unarmed : is_at_last i.server.server.arming ≡ false → (s : ℕ) → may_issue c number s (writes c number) ≡ passes s
  unarmed off s = (λ j. passes s && not (is_at_last (is.server j).arming)) ∙ ap (λ b. passes s && not b) off ∙ alone (passes s)
    where
      alone : (b : Bool) → (b && true) ≡ b
      alone true = refl
      alone false = refl

  pub armed : is_at_last i.server.server.arming ≡ true → (s : ℕ) → may_issue c number s (writes c number) ≡ false
  armed on s = (λ j. passes s && not (is_at_last (is.server j).arming)) ∙ ap (λ b. passes s && not b) on ∙ none (passes s)
    where
      none : (b : Bool) → (b && false) ≡ false
      none true = refl
      none false = refl

  pub with_arming : is_at_last i.server.server.arming ≡ false → (r : Option Sector) → IsOneThat passes r → IsOneThat (λ s. may_issue c number s (writes c number)) r
  with_arming off r one = subst (λ f. IsOneThat f r) (λ j s. sym (unarmed off s) j) one

  -- one may be issued exactly where one of the wanted writes may
  pub held : (r : Option Sector) → IsOneThat passes r → is_some r ≡ list_any (λ entry. is_issuable c number entry.0 (writes c number)) (writes c number)
  held None none = sym (none_any passes (writes c number) none)
  held (Some sector) one = sym (some_there passes (writes c number) sector.0 (issued.there_is c i sector.0 is few one) one)

  -- ---- in place

  -- what is wanted in place is cached
  pub cached_there : (s : ℕ) → is_place_at i c s ≡ true → is_cached_at i s ≡ true
  cached_there s there = go (value_at i.server.server.cache s) (and_parts (not (is_log_at i c s)) (is_some (write_at i.locks number i.server.server (stage c number) s)) there).1
    where
      go : (o : Option CachedSector)
          → is_some (option_and_then (λ cached. place_write number (is_place_wanted log_rules i.locks number i.server.server (stage c number) s cached) cached cached.dirt) o) ≡ true → is_some o ≡ true
      go None there = there
      go (Some cached) there = refl

  none_logged : (s : ℕ) → is_log_at i c s ≡ false → issued.logged c i s is few ≡ None
  none_logged s off = log_none number (log_wanted_to log_rules i.locks number i.server.server (stage c number)) s (next_write i.server.server.ring)
      (nothing (wanted_number i.locks number i.server.server (stage c number) s) off)

  module _ (sorted : Ascend i.server.server.cache) where
    abbrev wanted : ℕ → CachedSector → Bool
    wanted s cached = is_place_wanted log_rules i.locks number i.server.server (stage c number) s cached

    abbrev in_place : ℕ → Option Write
    in_place s = write_at i.locks number i.server.server (stage c number) s

    unmarked : (s : ℕ) (flagged want : Bool) (cached : CachedSector) (dirt : Option Dirt) → flagged ≡ false → is_some (place_write number want cached dirt) ≡ true
        → ((not flagged && is_dirt_reached i.server.server.ring.reached dirt) && want) ≡ false
        → is_write (λ w. is_mark_reached i.server.server.ring w.mark) (place_write number want cached dirt) ≡ false
    unmarked s true want cached dirt off there due = absurd (false≢true (sym off))
    unmarked s false want cached None off there due = absurd (false≢true there)
    unmarked s false false cached (Some dirt) off there due = absurd (false≢true there)
    unmarked s false true cached (Some dirt) off there due = alone (nat_le dirt.mark i.server.server.ring.reached) due
      where
        alone : (b : Bool) → (b && true) ≡ false → b ≡ false
        alone true e = absurd (false≢true (sym e))
        alone false e = refl

    unflagged : (s : ℕ) → is_flying c.flights s ≡ false → member s i.server.flying ≡ false
    unflagged s flies = go (member s i.server.flying) refl
      where
        go : (b : Bool) → member s i.server.flying ≡ b → b ≡ false
        go true e = absurd (false≢true (sym flies ∙ is.flagged s e))
        go false e = refl

    -- where none that is wanted in place is due, none of these may be issued
    pub none_due : list_any (is_due i.locks number i.server.server (stage c number) i.server.flying) i.server.server.cache ≡ false → (s : ℕ) → is_place_at i c s ≡ true → passes s ≡ false
    none_due none s there = by_flying (is_flying c.flights s) refl
      where
        sides : (not (is_log_at i c s) ≡ true) × (is_some (in_place s) ≡ true)
        sides = and_parts (not (is_log_at i c s)) (is_some (in_place s)) there

        no_log : (b : Bool) → not b ≡ true → b ≡ false
        no_log true e = absurd (false≢true e)
        no_log false e = refl

        or_some : (o p : Option Write) → is_some o ≡ true → option_or o p ≡ o
        or_some None p e = absurd (false≢true e)
        or_some (Some w) p e = refl

        over : option_or (issued.logged c i s is few) (option_or (issued.placed c i s is few) (issued.rescued c i s is few)) ≡ in_place s
        over =
            ap (λ o. option_or o (option_or (issued.placed c i s is few) (issued.rescued c i s is few))) (none_logged s (no_log (is_log_at i c s) sides.0))
            ∙ ap (λ o. option_or o (issued.rescued c i s is few)) (place_once i.locks number i.server.server (stage c number) s sorted) ∙ or_some (in_place s) (issued.rescued c i s is few) sides.1

        by_cached : is_flying c.flights s ≡ false → (o : Option CachedSector) → value_at i.server.server.cache s ≡ o
            → is_some (option_and_then (λ cached. place_write number (wanted s cached) cached cached.dirt) o) ≡ true
            → is_write (λ w. is_mark_reached i.server.server.ring w.mark) (option_and_then (λ cached. place_write number (wanted s cached) cached cached.dirt) o) ≡ false
        by_cached flies None at some = absurd (false≢true some)
        by_cached flies (Some cached) at some = unmarked s (member s i.server.flying) (wanted s cached) cached cached.dirt (unflagged s flies) some
            (none_found (is_due i.locks number i.server.server (stage c number) i.server.flying) i.server.server.cache s cached none at)

        by_flying : (b : Bool) → is_flying c.flights s ≡ b → passes s ≡ false
        by_flying true flies = issued.stops_busy c i s is few flies
        by_flying false flies = issued.stops_unmarked c i s is few (in_place s) over (by_cached flies (value_at i.server.server.cache s) refl sides.1)

    -- ---- none at all

    pub none_at_all : (s : ℕ) → is_log_at i c s ≡ false → is_place_at i c s ≡ false → is_rescue_at i s ≡ false → passes s ≡ false
    none_at_all s log place rescue = by_flying (is_flying c.flights s) refl
      where
        not_placed : (b d : Bool) → b ≡ false → (not b && d) ≡ false → d ≡ false
        not_placed true d off e = absurd (false≢true (sym off))
        not_placed false d off e = e

        over : is_flying c.flights s ≡ false → option_or (issued.logged c i s is few) (option_or (issued.placed c i s is few) (issued.rescued c i s is few)) ≡ None
        over flies =
            ap (λ o. option_or o (option_or (issued.placed c i s is few) (issued.rescued c i s is few))) (none_logged s log)
            ∙ ap (λ o. option_or o (issued.rescued c i s is few))
            (place_once i.locks number i.server.server (stage c number) s sorted ∙ nothing (in_place s) (not_placed (is_log_at i c s) (is_some (in_place s)) log place))
            ∙ rescued_none c i.recovery s is.recovery flies rescue

        by_flying : (b : Bool) → is_flying c.flights s ≡ b → passes s ≡ false
        by_flying true flies = issued.stops_busy c i s is few flies
        by_flying false flies = issued.stops_unmarked c i s is few None (over flies) refl
