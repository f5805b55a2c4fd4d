-- The numbers of a server's log that are in flight beside its ring: which are, and what each change of the ring and of the writes in flight makes of that.
use Rattle.std.proofs.Common.{◌≡◌, ℕ, suc, ◌<◌, ◌≤◌, ◌⊎◌, inl, inr, Bool, true, false, not, ◌&&◌, ◌==◌, ◌+◌, ◌-◌, if◌then◌else◌, cond, IsTrue, List, [], ◌∷◌, ◌++◌, length, drop, min, Option, Some, None, nat_lt, nat_eq, refl, sym, ap, ◌∙◌, subst, arith}
use Rattle.std.proofs.lemmas.Bool.{false≢true, eqb-true, leb-true, or_parts, or_from}
use Rattle.std.proofs.lemmas.Bool.Decides.{nat_tests}
use Rattle.std.proofs.lemmas.List.{length-set}
use Rattle.std.specs.BTreeMap.{is_at}
use Rattle.std.specs.List.{cons_option, list_any}
use Rattle.std.specs.Prelude.{slice_set}
use Rattle.std.specs.Map.{remove_entry}
use Rattle.std.specs.Ordering.{nat_cmp}
use Rattle.std.proofs.lemmas.Option.{same_Some, none-some}
use Rattle.frang_base.specs.declared.change.Redo.{Redo}
use Rattle.disk_definitions.specs.Regions.{sector_of}
use Rattle.disk_definitions.specs.declared.region.Region.TheVariants as region
use Rattle.disk_definitions.specs.declared.log_sector.LogSector.{LogSector}
use Rattle.disk_definitions.specs.Frames.{frame_bytes}
use Rattle.disk_definitions.proofs.Listed.{Among}
use Rattle.ring_definitions.specs.Rings.{Ring, acked, appended, first_waiting, free_of, issued, last, need, passed, reclaimed_of, ring_at, sent}
use Rattle.ring_definitions.proofs.Flags.{AreFlags, IsPassed, flags_kept, flags_push, flags_set, passed_is}
use Rattle.ring_definitions.proofs.Packed.{length-framed}
use Rattle.sector_bytes.specs.SectorMaps.{value_at, without}
use Rattle.core_definitions.specs.Flights.{Flight, Flights, InPlace, OfLog, OfRecovery, Purpose, each_of_server, has_flights, is_of_mount, left_behind, lost}
use Rattle.core_definitions.specs.Logs.{log_sector}
use Rattle.core_definitions.specs.Rings.{appended_some, has_room, next_write}
use Rattle.core_definitions.specs.Settings.{LogRules, slot_of}
use Rattle.core_laws.proofs.FlightLists.{AllFlights, all_landed, in_flights}
use Rattle.core_laws.specs.Facts.{KeepsWindows, log_slot, log_slots, slot_in}
use Rattle.core_laws.specs.Laws.{AreOnce}
use Rattle.core_laws.proofs.Flying.{Once, sectors_in, once_of, as_words}
use Rattle.core_laws.proofs.Membership.{contains_in, into_map}

-- ---- which numbers fly

abbrev pub is_number : ℕ → Purpose → Bool
is_number number (OfLog n) = n == number
is_number number (InPlace cover) = false
is_number number OfRecovery = false

-- a write of this number of the log of the server's present mount
abbrev pub is_log_flight : ℕ → ℕ → Flight → Bool
is_log_flight server number flight = is_of_mount server flight && is_number number flight.purpose

abbrev pub flies : Flights → ℕ → ℕ → Bool
flies flights server number = list_any (λ one. is_log_flight server number one.1) flights

-- a server of whose present mount nothing is in flight has no number in flight
pub none_flies : (flights : Flights) (a number : ℕ) → has_flights flights a ≡ false → flies flights a number ≡ false
none_flies [] a number e = refl
none_flies (one ∷ others) a number e =
    or_from (is_log_flight a number one.1) (flies others a number) (ap (λ b. b && is_number number one.1.purpose) (or_parts (is_of_mount a one.1) (has_flights others a) e).0)
    (none_flies others a number (or_parts (is_of_mount a one.1) (has_flights others a) e).1)

-- a change that makes no number fly
pub fewer_changed : (server : ℕ) (change : Flight → Flight) (a number : ℕ) →
    ((f : Flight) → is_log_flight a number f ≡ false → is_log_flight a number (change f) ≡ false) → (flights : Flights) →
    flies flights a number ≡ false → flies (each_of_server server change flights) a number ≡ false
fewer_changed server change a number keeps [] e = refl
fewer_changed server change a number keeps (one ∷ others) e =
    or_from _ (flies (each_of_server server change others) a number) (go (one.1.server == server))
    (fewer_changed server change a number keeps others (or_parts (is_log_flight a number one.1) (flies others a number) e).1)
  where
    go : (b : Bool) → is_log_flight a number (if b then (one.0, change one.1) else one).1 ≡ false
    go true = keeps one.1 (or_parts (is_log_flight a number one.1) (flies others a number) e).0
    go false = (or_parts (is_log_flight a number one.1) (flies others a number) e).0

past : (x y : Bool) → ((x && false) && y) ≡ false
past true y = refl
past false y = refl

pub fewer_behind : (server a number : ℕ) (flights : Flights) → flies flights a number ≡ false → flies (left_behind server flights) a number ≡ false
fewer_behind server a number flights e = fewer_changed server (λ flight. record flight { present = false }) a number (λ f h. past (f.server == a) (is_number number f.purpose)) flights e

pub fewer_lost : (server a number : ℕ) (flights : Flights) → flies flights a number ≡ false → flies (lost server flights) a number ≡ false
fewer_lost server a number [] e = refl
fewer_lost server a number (one ∷ others) e = go (one.1.server == server) (fewer_lost server a number others (or_parts (is_log_flight a number one.1) (flies others a number) e).1)
  where
    go : (b : Bool) → flies (lost server others) a number ≡ false → flies (cond (not b) (one ∷ lost server others) (lost server others)) a number ≡ false
    go true rest = rest
    go false rest = or_from (is_log_flight a number one.1) (flies (lost server others) a number) (or_parts (is_log_flight a number one.1) (flies others a number) e).0 rest

pub fewer_landed : (ticket a number : ℕ) (flights : Flights) → flies flights a number ≡ false → flies (without flights ticket) a number ≡ false
fewer_landed ticket a number [] e = refl
fewer_landed ticket a number (one ∷ others) e = go (is_at (nat_cmp ticket) one.0) (fewer_landed ticket a number others there)
  where
    there : flies others a number ≡ false
    there = (or_parts (is_log_flight a number one.1) (flies others a number) e).1

    go : (b : Bool) → flies (without others ticket) a number ≡ false →
        flies (cond b others (one ∷ remove_entry (is_at (nat_cmp ticket)) others)) a number ≡ false
    go true rest = there
    go false rest = or_from (is_log_flight a number one.1) (flies (without others ticket) a number) (or_parts (is_log_flight a number one.1) (flies others a number) e).0 rest

-- one more
pub more_joined : (a number ticket : ℕ) (flight : Flight) (flights : Flights) → is_log_flight a number flight ≡ false →
    flies flights a number ≡ false → flies (flights ++ (ticket, flight) ∷ []) a number ≡ false
more_joined a number ticket flight [] away e = or_from (is_log_flight a number flight) false away refl
more_joined a number ticket flight (one ∷ others) away e =
    or_from (is_log_flight a number one.1) (flies (others ++ (ticket, flight) ∷ []) a number) (or_parts (is_log_flight a number one.1) (flies others a number) e).0
    (more_joined a number ticket flight others away (or_parts (is_log_flight a number one.1) (flies others a number) e).1)

-- ---- a ring beside what flies

pub record IsShipped (logs : LogRules) (fly : ℕ → Bool) (ring : Ring) : Type 0 where
  pub windows : KeepsWindows logs ring
  pub flags : AreFlags fly ring.reached ring.above
  pub above : (number : ℕ) → fly number ≡ true → ring.reached < number
  pub issued : (number : ℕ) → fly number ≡ true → number ≤ sent ring

was_flying : (x y : Bool) → (x ≡ false → y ≡ false) → y ≡ true → x ≡ true
was_flying true y h t = refl
was_flying false y h t = absurd (false≢true (sym (h refl) ∙ t))

-- fewer fly
pub with_fewer : (logs : LogRules) (old new : ℕ → Bool) (ring : Ring) → ((number : ℕ) → old number ≡ false → new number ≡ false) → IsShipped logs old ring → IsShipped logs new ring
with_fewer logs old new ring fewer s = record {
  windows = s.windows;
  flags = flags_kept old new ring.reached ring.above (λ n l u e. fewer n e) s.flags;
  above = λ number t. s.above number (was_flying (old number) (new number) (fewer number) t);
  issued = λ number t. s.issued number (was_flying (old number) (new number) (fewer number) t);
}

-- a ring that begins, of which nothing flies
pub at_first : (logs : LogRules) (fly : ℕ → Bool) (end : ℕ) → ((number : ℕ) → fly number ≡ false) → IsShipped logs fly (ring_at end)
at_first logs fly end none = record {
  windows = record { window = omega arith; kept = omega arith; given = omega arith };
  flags = tt;
  above = λ number t. absurd (false≢true (sym (none number) ∙ t));
  issued = λ number t. absurd (false≢true (sym (none number) ∙ t));
}

-- a record more
pub with_record : (logs : LogRules) (fly : ℕ → Bool) (ring : Ring) (redo : Option Redo) → IsTrue (has_room logs ring redo) → IsShipped logs fly ring →
    IsShipped logs fly (appended_some ring redo)
with_record logs fly ring None room s = s
with_record logs fly ring (Some redo) room s = record {
  windows = record { window = s.windows.window; kept = kept; given = s.windows.given };
  flags = s.flags;
  above = s.above;
  issued = s.issued;
}
  where
    within : (all gone waits more low : ℕ) → gone + waits ≤ low + all → low ≤ gone → more ≤ all - (gone + waits - low) → gone + (waits + more) ≤ low + all
    within all gone waits more low h i j = omega (arith, h, i, j)

    kept : sent ring + length (appended ring redo).waiting ≤ ring.given_up + logs.room
    kept =
        subst (λ n. sent ring + n ≤ ring.given_up + logs.room) (sym (length-framed (last ring + 1) ring.waiting (frame_bytes redo)))
        (within logs.room (sent ring) (length ring.waiting) (need ring redo) ring.given_up s.windows.kept s.windows.given (leb-true (need ring redo) (free_of logs.room ring) room))

-- the reclaimable records are given up
pub without_reclaimable : (logs : LogRules) (fly : ℕ → Bool) (ring : Ring) → IsShipped logs fly ring → IsShipped logs fly (reclaimed_of logs.quarter ring)
without_reclaimable logs fly ring s = record {
  windows = record { window = s.windows.window; kept = kept logs.room logs.quarter ring.given_up (sent ring) (last ring) s.windows.kept s.windows.given; given = given logs.quarter ring.given_up (sent ring) };
  flags = s.flags;
  above = s.above;
  issued = s.issued;
}
  where
    kept : (all quarter low issued end : ℕ) → end ≤ low + all → low ≤ issued → end ≤ min (low + quarter) issued + all
    kept all quarter low issued end h i = omega (arith, h, i)

    given : (quarter low issued : ℕ) → min (low + quarter) issued ≤ issued
    given quarter low issued = omega arith

-- the first number that waits is issued, and flies
pub with_issued : (logs : LogRules) (old new : ℕ → Bool) (ring : Ring) (number : ℕ) (block : List ℕ) → next_write ring ≡ Some (number, block) →
    number ≤ ring.reached + logs.in_flight →
    ((n : ℕ) → (n ≡ number → ⊥) → old n ≡ false → new n ≡ false) → IsShipped logs old ring → IsShipped logs new (issued ring)
with_issued logs old new ring number block next inside fewer s = record {
  windows = record { window = within; kept = all; given = given };
  flags = flags_push new ring.reached ring.above (flags_kept old new ring.reached ring.above (λ n l u e. fewer n (λ same. below n u (same ∙ is_next)) e) s.flags);
  above = λ n t. over n (flying n t);
  issued = λ n t. up_to n (flying n t);
}
  where
    in_first : (from : ℕ) (waiting : List LogSector) → first_waiting from waiting ≡ Some (number, block) →
        (number ≡ from) × (length waiting ≡ suc (length (drop 1 waiting)))
    in_first from [] e = absurd (cc)
    in_first from (x ∷ xs) e = (ap first (sym e), refl)
      where
        first : Option (ℕ × List ℕ) → ℕ
        first None = 0
        first (Some w) = w.0

    is_next : number ≡ sent ring + 1
    is_next = (in_first (sent ring + 1) ring.waiting next).0

    one_less : length ring.waiting ≡ suc (length (drop 1 ring.waiting))
    one_less = (in_first (sent ring + 1) ring.waiting next).1

    longer : length (issued ring).above ≡ suc (length ring.above)
    longer = length_push ring.above
      where
        length_push : (bs : List Bool) → length (bs ++ false ∷ []) ≡ suc (length bs)
        length_push [] = refl
        length_push (b ∷ bs) = ap suc (length_push bs)

    below : (n : ℕ) → n ≤ ring.reached + length ring.above → n ≡ sent ring + 1 → ⊥
    below n u e = absurd (omega (arith, u, e))

    within : sent (issued ring) ≤ ring.reached + logs.in_flight
    within = omega (arith, longer, is_next, inside)

    all : last (issued ring) ≤ ring.given_up + logs.room
    all = omega (arith, longer, one_less, s.windows.kept)

    given : ring.given_up ≤ sent (issued ring)
    given = omega (arith, longer, s.windows.given)

    flying : (n : ℕ) → new n ≡ true → (n ≡ number) ⊎ (old n ≡ true)
    flying n t = go (nat_eq n number) refl
      where
        same : nat_eq n number ≡ true → n ≡ number
        same e = grind (arith, nat_tests, e)

        apart : nat_eq n number ≡ false → n ≡ number → ⊥
        apart e f = absurd (grind (arith, nat_tests, e, f))

        go : (b : Bool) → nat_eq n number ≡ b → (n ≡ number) ⊎ (old n ≡ true)
        go true e = inl (same e)
        go false e = inr (was_flying (old n) (new n) (fewer n (apart e)) t)

    over : (n : ℕ) → (n ≡ number) ⊎ (old n ≡ true) → ring.reached < n
    over n (inl e) = omega (arith, e, is_next)
    over n (inr t) = s.above n t

    up_to : (n : ℕ) → (n ≡ number) ⊎ (old n ≡ true) → n ≤ sent (issued ring)
    up_to n (inl e) = omega (arith, e, is_next, longer)
    up_to n (inr t) = let before : n ≤ sent ring = s.issued n t in omega (arith, before, longer)

-- a number is acknowledged, which doesn't fly any more
pub with_acknowledged : (logs : LogRules) (fly : ℕ → Bool) (ring : Ring) (number : ℕ) → fly number ≡ false → IsShipped logs fly ring → IsShipped logs fly (acked ring number)
with_acknowledged logs fly ring number landed s = go (nat_lt ring.reached number) refl
  where
    flags : List Bool
    flags = slice_set ring.above (number - ring.reached - 1) true

    ends : ring.reached + length flags ≡ sent ring
    ends = ap (λ n. ring.reached + n) (length-set ring.above (number - ring.reached - 1) true)

    is_number_at : nat_lt ring.reached number ≡ true → ring.reached + 1 + (number - ring.reached - 1) ≡ number
    is_number_at e = grind (arith, nat_tests, e)

    gone : nat_lt ring.reached number ≡ true → IsPassed fly ring ring.reached (sent ring) (passed ring ring.reached flags)
    gone e = passed_is fly ring ring.reached (sent ring) flags ends (flags_set fly ring.reached (number - ring.reached - 1) ring.above s.flags (ap fly (is_number_at e) ∙ landed))

    go : (b : Bool) → nat_lt ring.reached number ≡ b → IsShipped logs fly (if b then passed ring ring.reached flags else ring)
    go false e = s
    go true e = record {
      windows = record {
        window = omega (arith, p.sent, p.low, s.windows.window);
        kept = let w : length q.waiting ≡ length ring.waiting = ap length p.waiting in omega (arith, p.sent, w, p.given_up, s.windows.kept);
        given = omega (arith, p.sent, p.given_up, s.windows.given);
      };
      flags = p.flags;
      above = λ n t. over n t (nat_lt q.reached n) refl;
      issued = λ n t. let before : n ≤ sent ring = s.issued n t in omega (arith, before, p.sent);
    }
      where
        q : Ring
        q = passed ring ring.reached flags

        p : IsPassed fly ring ring.reached (sent ring) q
        p = gone e

        over : (n : ℕ) → fly n ≡ true → (b : Bool) → nat_lt q.reached n ≡ b → q.reached < n
        over n t true l = grind (arith, nat_tests, l)
        over n t false l = absurd (false≢true (sym (p.none n (s.above n t) (under l)) ∙ t))
          where
            under : nat_lt q.reached n ≡ false → n ≤ q.reached
            under l = grind (arith, nat_tests, l)

-- ---- where the sectors of logs in flight lie

abbrev pub IsAtSlotFor : LogRules → ℕ → ℕ → Purpose → Type 0
IsAtSlotFor logs server sector (OfLog number) = sector ≡ log_sector logs server number
IsAtSlotFor logs server sector (InPlace cover) = Unit {0}
IsAtSlotFor logs server sector OfRecovery = Unit {0}

-- a write of a log is of the slot of its number
abbrev pub IsAtSlot : LogRules → Flight → Type 0
IsAtSlot logs flight = IsAtSlotFor logs flight.server flight.sector flight.purpose

abbrev pub AllAtSlots : LogRules → Flights → Type 0
AllAtSlots logs flights = AllFlights (IsAtSlot logs) flights

-- ---- a write that lands was the only one of its number

sector_found : (flights : Flights) (ticket : ℕ) (flight : Flight) → value_at flights ticket ≡ Some flight → Among flight.sector (sectors_in flights)
sector_found [] ticket flight e = absurd (cc)
sector_found (x ∷ xs) ticket flight e = go (is_at (nat_cmp ticket) x.0) (sector_found xs ticket flight) e
  where
    go : (b : Bool) → (value_at xs ticket ≡ Some flight → Among flight.sector (sectors_in xs)) → cond b (Some x.1) (value_at xs ticket) ≡ Some flight →
        Among flight.sector (sectors_in (x ∷ xs))
    go true rest e = inl (sym (ap (λ f. f.sector) (same_Some x.1 flight e)))
    go false rest e = inr (rest e)

-- no other write in flight is of the sector of the one with this ticket
alone : (flights : Flights) (ticket : ℕ) (flight : Flight) → value_at flights ticket ≡ Some flight → Once (sectors_in flights) → (one : ℕ × Flight) →
    Among one (without flights ticket) → one.1.sector ≡ flight.sector → ⊥
alone [] ticket flight e o one i same = absurd i
alone (x ∷ xs) ticket flight e o one i same = go (is_at (nat_cmp ticket) x.0) (λ f j. alone xs ticket flight f o.1 one j same) e i
  where
    listed : (one : ℕ × Flight) (n : ℕ) → Among one xs → one.1.sector ≡ n → Among n (sectors_in xs)
    listed one n j f = subst (λ k. Among k (sectors_in xs)) f (into_map (λ one. one.1.sector) xs one j)

    go : (b : Bool) → (value_at xs ticket ≡ Some flight → Among one (without xs ticket) → ⊥) → cond b (Some x.1) (value_at xs ticket) ≡ Some flight →
        Among one (cond b xs (x ∷ without xs ticket)) → ⊥
    go true rest e j = o.0 (listed one x.1.sector j (same ∙ sym (ap (λ f. f.sector) (same_Some x.1 flight e))))
    go false rest e (inl f) = o.0 (subst (λ k. Among k (sectors_in xs)) (sym same ∙ ap (λ one. one.1.sector) f) (sector_found xs ticket flight e))
    go false rest e (inr j) = rest e j

none_any : {X : Type 0} (test : X → Bool) (xs : List X) → ((x : X) → Among x xs → test x ≡ false) → list_any test xs ≡ false
none_any test [] h = refl
none_any test (x ∷ xs) h = or_from (test x) (list_any test xs) (h x (inl refl)) (none_any test xs (λ y i. h y (inr i)))

-- so its number doesn't fly any more
pub none_left : (logs : LogRules) (flights : Flights) (ticket : ℕ) (flight : Flight) (number : ℕ) → value_at flights ticket ≡ Some flight →
    flight.purpose ≡ OfLog number → AreOnce (sectors_in flights) →
    AllAtSlots logs flights → IsAtSlot logs flight → flies (without flights ticket) flight.server number ≡ false
none_left logs flights ticket flight number e p once at here = none_any (λ one. is_log_flight flight.server number one.1) (without flights ticket) (λ one i. other one i (is_log_flight flight.server number one.1) refl)
  where
    -- a write of this number is of this sector
    of_purpose : (f : Flight) (purpose : Purpose) → f.purpose ≡ purpose →
        IsTrue ((f.server == flight.server && f.present) && is_number number purpose) → IsAtSlot logs f → f.sector ≡ flight.sector
    of_purpose f (InPlace cover) q t s = absurd (no (f.server == flight.server) f.present t)
      where
        no : (x y : Bool) → IsTrue ((x && y) && false) → ⊥
        no true true t = false≢true t
        no true false t = false≢true t
        no false y t = false≢true t
    of_purpose f OfRecovery q t s = absurd (no (f.server == flight.server) f.present t)
      where
        no : (x y : Bool) → IsTrue ((x && y) && false) → ⊥
        no true true t = false≢true t
        no true false t = false≢true t
        no false y t = false≢true t
    of_purpose f (OfLog n) q t s = subst (IsAtSlotFor logs f.server f.sector) q s ∙ same_place ∙ sym (subst (IsAtSlotFor logs flight.server flight.sector) p here)
      where
        both : (x y z : Bool) → IsTrue ((x && y) && z) → IsTrue x × IsTrue z
        both true true true t = (refl, refl)
        both true true false t = absurd (false≢true t)
        both true false z t = absurd (false≢true t)
        both false y z t = absurd (false≢true t)

        parts : IsTrue (f.server == flight.server) × IsTrue (n == number)
        parts = both (f.server == flight.server) f.present (n == number) t

        same_place : log_sector logs f.server n ≡ log_sector logs flight.server number
        same_place = ap (λ a. log_sector logs a n) (eqb-true f.server flight.server parts.0) ∙ ap (log_sector logs flight.server) (eqb-true n number parts.1)

    other : (one : ℕ × Flight) → Among one (without flights ticket) → (b : Bool) → is_log_flight flight.server number one.1 ≡ b → b ≡ false
    other one i false t = refl
    other one i true t =
        absurd (alone flights ticket flight e (once_of (sectors_in flights) once) one i (of_purpose one.1 one.1.purpose refl t (in_flights (IsAtSlot logs) (without flights ticket) one i (all_landed (IsAtSlot logs) ticket flights at))))

pub slot_of_found : (logs : LogRules) (flights : Flights) (ticket : ℕ) (flight : Flight) → value_at flights ticket ≡ Some flight →
    AllAtSlots logs flights → IsAtSlot logs flight
slot_of_found logs [] ticket flight e at = absurd (cc)
slot_of_found logs (x ∷ xs) ticket flight e at = go (is_at (nat_cmp ticket) x.0) (λ f. slot_of_found logs xs ticket flight f at.1) e
  where
    go : (b : Bool) → (value_at xs ticket ≡ Some flight → IsAtSlot logs flight) → cond b (Some x.1) (value_at xs ticket) ≡ Some flight → IsAtSlot logs flight
    go true rest e = subst (IsAtSlot logs) (same_Some x.1 flight e) at.0
    go false rest e = rest e

-- ---- slots

sector_at_slot : (logs : LogRules) (a slot : ℕ) (f : Flight) → log_slot logs a f ≡ Some slot → IsAtSlot logs f → f.sector ≡ sector_of (region.Log a slot)
sector_at_slot logs a slot f e at = go (f.server == a) refl f.purpose refl e
  where
    go : (b : Bool) → (f.server == a) ≡ b → (purpose : Purpose) → f.purpose ≡ purpose → (if b then slot_in logs purpose else None) ≡ Some slot →
        f.sector ≡ sector_of (region.Log a slot)
    go false s purpose p e = absurd (none-some slot e)
    go true s (InPlace cover) p e = absurd (none-some slot e)
    go true s OfRecovery p e = absurd (none-some slot e)
    go true s (OfLog number) p e =
        subst (IsAtSlotFor logs f.server f.sector) p at ∙ ap (λ n. log_sector logs n number) (eqb-true f.server a s) ∙ ap (λ n. sector_of (region.Log a n)) (same_Some (slot_of logs number) slot e)

-- the sector of a slot in flight is among the sectors in flight
slot_sector : (logs : LogRules) (a slot : ℕ) (flights : Flights) → AllAtSlots logs flights → Among slot (log_slots logs a flights) →
    Among (sector_of (region.Log a slot)) (sectors_in flights)
slot_sector logs a slot [] at i = absurd i
slot_sector logs a slot (x ∷ xs) at i = go (log_slot logs a x.1) refl (slot_sector logs a slot xs at.1) i
  where
    go : (o : Option ℕ) → log_slot logs a x.1 ≡ o → (Among slot (log_slots logs a xs) → Among (sector_of (region.Log a slot)) (sectors_in xs)) →
        Among slot (cons_option o (log_slots logs a xs)) →
        Among (sector_of (region.Log a slot)) (sectors_in (x ∷ xs))
    go None e rest j = inr (rest j)
    go (Some k) e rest (inr j) = inr (rest j)
    go (Some k) e rest (inl same) = inl (ap (λ n. sector_of (region.Log a n)) same ∙ sym (sector_at_slot logs a k x.1 e at.0))

slots_single : (logs : LogRules) (a : ℕ) (flights : Flights) → AllAtSlots logs flights → Once (sectors_in flights) → Once (log_slots logs a flights)
slots_single logs a [] at o = tt
slots_single logs a (x ∷ xs) at o = go (log_slot logs a x.1) refl (slots_single logs a xs at.1 o.1)
  where
    go : (s : Option ℕ) → log_slot logs a x.1 ≡ s → Once (log_slots logs a xs) → Once (cons_option s (log_slots logs a xs))
    go None e rest = rest
    go (Some k) e rest = ((λ i. o.0 (subst (λ n. Among n (sectors_in xs)) (sym (sector_at_slot logs a k x.1 e at.0)) (slot_sector logs a k xs at.1 i))), rest)

pub slots_once : (logs : LogRules) (a : ℕ) (flights : Flights) → AllAtSlots logs flights → AreOnce (sectors_in flights) → AreOnce (log_slots logs a flights)
slots_once logs a flights at once = as_words (log_slots logs a flights) (slots_single logs a flights at (once_of (sectors_in flights) once))
