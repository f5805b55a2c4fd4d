-- A change of one write in its box is that change of what the boxes hold, and the write of a sector is found by its ticket.
use Rattle.std.proofs.Common.{◌≡◌, ℕ, zero, suc, ◌+◌, ◌≤◌, ◌==◌, Bool, true, false, ◌&&◌, if◌then◌else◌, List, [], ◌∷◌, length, map, find, Option, Some, None, is_some, IsSome, IfSome, refl, sym, ap, ◌∙◌, subst, arith}
use Rattle.std.proofs.lemmas.Bool.{false≢true}
use Rattle.std.proofs.lemmas.Bool.Decides.{nat_tests}
use Rattle.std.specs.List.{AllByRecursion, IsDistinct, slice_get}
use Rattle.std.specs.List.Sorted.{IsStrictlySortedBy}
use Rattle.std.specs.Map.{lookup, keys_of}
use Rattle.std.specs.BTreeMap.{insert_entry, is_at}
use Rattle.std.specs.Option.{option_map}
use Rattle.std.specs.Ordering.{nat_cmp, is_eq, match_ordering}
use Rattle.std.specs.declared.cmp.Ordering.{Ordering}
use Rattle.std.specs.declared.cmp.Ordering.TheVariants.{Less, Equal, Greater}
use Rattle.frang_base.specs.declared.lock.LockId.{LockId}
use Rattle.frang_base.proofs.Tests.{is_some-option_map}
use Rattle.petal_disk.specs.declared.ticket.Ticket.{Ticket}
use Rattle.petal_disk.specs.declared.flying.Flying.{Flying}
use Rattle.petal_disk.specs.Flights.{is_ticket, ticket_cmp, write_at, busy_with, sectors}
use Rattle.petal_disk.specs.Flying.{InFlight, put_of, puts, changed_at, changed_first, changed_place, each_of_sector, covered, left, under}
use Rattle.petal_disk.specs.Keeping.{opened}
use Rattle.petal_disk.proofs.TicketOrder.{same_test, write-opened}

-- ---- in boxes

pub box_there : {B V : Type 0} (held : B → V) (t : Ticket) (boxes : List (Ticket × B)) → IsSome (write_at (opened boxes held) t.0) → IsSome (lookup (is_at (ticket_cmp t)) boxes)
box_there held t boxes some = sym (is_some-option_map held (lookup (is_at (ticket_cmp t)) boxes)) ∙ ap is_some (sym (write-opened held t boxes)) ∙ some

module _ {B V : Type 0} (held : B → V) (change : V → V) (kept : B → B) (same : (b : B) → held (kept b) ≡ change (held b)) (t : Ticket) where
  missed_above : (boxes : List (Ticket × B)) (first : Ticket) → ticket_cmp t first ≡ Less → AllByRecursion (λ y. ticket_cmp first y ≡ Less) (keys_of boxes) → lookup (is_at (ticket_cmp t)) boxes ≡ None
  missed_above [] first is all = refl
  missed_above (box ∷ boxes) first is all = ap (λ b. if b then Some box.1 else lookup (is_at (ticket_cmp t)) boxes) (apart t.0 first.0 box.0.0 is all.0) ∙ missed_above boxes first is all.1
    where
      apart : (a b c : ℕ) → nat_cmp a b ≡ Less → nat_cmp b c ≡ Less → is_eq (nat_cmp a c) ≡ false
      apart a b c below above = grind (arith, nat_tests)

  inserted_there : (boxes : List (Ticket × B)) (b : B) → IsStrictlySortedBy ticket_cmp (keys_of boxes) → lookup (is_at (ticket_cmp t)) boxes ≡ Some b
      → opened (insert_entry ticket_cmp boxes t (kept b)) held ≡ changed_at change (opened boxes held) t.0
  unfolding IsStrictlySortedBy
  inserted_there [] b sorted there = cc there
  inserted_there (box ∷ boxes) b sorted there = go (ticket_cmp t box.0) refl there (inserted_there boxes b sorted.1)
    where
      Changed : Bool → List (Ticket × V)
      Changed here = if here then (box.0, change (held box.1)) ∷ opened boxes held else (box.0, held box.1) ∷ changed_at change (opened boxes held) t.0

      of_first : Some box.1 ≡ Some b → held (kept b) ≡ change (held box.1)
      of_first e = same b ∙ ap change (first e)
        where
          first : Some box.1 ≡ Some b → held b ≡ held box.1
          first e = cc e

      go : (o : Ordering) → ticket_cmp t box.0 ≡ o → (if is_eq o then Some box.1 else lookup (is_at (ticket_cmp t)) boxes) ≡ Some b
          → (lookup (is_at (ticket_cmp t)) boxes ≡ Some b → opened (insert_entry ticket_cmp boxes t (kept b)) held ≡ changed_at change (opened boxes held) t.0)
          → opened (match_ordering o ((t, kept b) ∷ box ∷ boxes) ((box.0, kept b) ∷ boxes) (box ∷ insert_entry ticket_cmp boxes t (kept b))) held ≡ Changed (is_ticket t.0 box.0)
      go Less is there rest = absurd (false≢true (ap is_some (sym (missed_above boxes box.0 is sorted.0) ∙ there)))
      go Equal is there rest = ap (λ v. (box.0, v) ∷ opened boxes held) (of_first there) ∙ ap Changed (sym (ap is_eq is) ∙ same_test t.0 box.0.0)
      go Greater is there rest = ap (λ tail. (box.0, held box.1) ∷ tail) (rest there) ∙ ap Changed (sym (ap is_eq is) ∙ same_test t.0 box.0.0)

  pub changed_over : (boxes new : List (Ticket × B)) → IsStrictlySortedBy ticket_cmp (keys_of boxes) → IsSome (lookup (is_at (ticket_cmp t)) boxes)
      → IfSome (lookup (is_at (ticket_cmp t)) boxes) (λ b. new ≡ insert_entry ticket_cmp boxes t (kept b)) → opened new held ≡ changed_at change (opened boxes held) t.0
  changed_over boxes new sorted some is = go (lookup (is_at (ticket_cmp t)) boxes) refl some is
    where
      go : (o : Option B) → lookup (is_at (ticket_cmp t)) boxes ≡ o → IsSome o → IfSome o (λ b. new ≡ insert_entry ticket_cmp boxes t (kept b)) → opened new held ≡ changed_at change (opened boxes held) t.0
      go None there none e = absurd (false≢true none)
      go (Some b) there some e = ap (λ es. opened es held) e ∙ inserted_there boxes b sorted there

-- what isn't changed stays
pub unchanged : {V : Type 0} (flights : List (Ticket × V)) (t : ℕ) → changed_at (λ (v : V). v) flights t ≡ flights
unchanged [] t = refl
unchanged (one ∷ flights) t = go (is_ticket t one.0) (unchanged flights t)
  where
    go : (b : Bool) → changed_at (λ v. v) flights t ≡ flights → (if b then (one.0, one.1) ∷ flights else one ∷ changed_at (λ v. v) flights t) ≡ one ∷ flights
    go true rest = refl
    go false rest = ap (λ tail. one ∷ tail) rest

-- the puts are those of the writes
pub puts-opened : {B : Type 0} (held : B → Flying) (boxes : List (Ticket × B)) → opened boxes (λ b. put_of (held b)) ≡ puts (opened boxes held)
puts-opened held [] = refl
puts-opened held (box ∷ boxes) = ap (λ tail. (box.0, put_of (held box.1)) ∷ tail) (puts-opened held boxes)

-- neither change is one of the put
pub put_covered : (server : ℕ) (cover : LockId) (flying : Flying) → put_of (covered server cover flying) ≡ put_of flying
put_covered server cover flying = go (flying.put.server.0 == server && flying.present)
  where
    go : (b : Bool) → put_of (if b then record flying { purpose = under cover flying.purpose } else flying) ≡ put_of flying
    go true = refl
    go false = refl

pub put_left : (server : ℕ) (flying : Flying) → put_of (left server flying) ≡ put_of flying
put_left server flying = go (flying.put.server.0 == server)
  where
    go : (b : Bool) → put_of (if b then record flying { present = false } else flying) ≡ put_of flying
    go true = refl
    go false = refl

-- ---- by sector

module _ (sector : ℕ) where
  -- the ticket of a sector's write, by whether the first write is of that sector
  abbrev here_or : (Ticket × Flying) → InFlight → Bool → Option Ticket
  here_or one flights b = option_map (λ w. w.0) (if b then Some (one.0, put_of one.1) else find (λ w. w.1.sector.0 == sector) (puts flights))

  of_ticket : (P : Ticket → Type 0) (flights : InFlight) (t : Ticket) → busy_with (puts flights) sector ≡ Some t → AllByRecursion P (keys_of flights) → P t
  of_ticket P [] t busy all = cc busy
  of_ticket P (one ∷ flights) t busy all = go (one.1.put.sector.0 == sector) busy (λ rest. of_ticket P flights t rest all.1)
    where
      is_first : Some one.0 ≡ Some t → one.0 ≡ t
      is_first e = cc e

      go : (b : Bool) → here_or one flights b ≡ Some t → (busy_with (puts flights) sector ≡ Some t → P t) → P t
      go true busy rest = subst P (is_first busy) all.0
      go false busy rest = rest busy

  pub flying_there : (flights : InFlight) (t : Ticket) → busy_with (puts flights) sector ≡ Some t → IsSome (write_at flights t.0)
  flying_there [] t busy = cc busy
  flying_there (one ∷ flights) t busy = go (one.1.put.sector.0 == sector) busy (flying_there flights t)
    where
      found : (b : Bool) → IsSome (write_at flights t.0) → IsSome (if b then Some one.1 else write_at flights t.0)
      found true some = refl
      found false some = some

      at_first : Some one.0 ≡ Some t → is_ticket t.0 one.0 ≡ true
      at_first e = let same : one.0.0 ≡ t.0 = cc e in equal one.0.0 t.0 same
        where
          equal : (a b : ℕ) → a ≡ b → (a == b) ≡ true
          equal a b same = grind (arith, nat_tests)

      go : (b : Bool) → here_or one flights b ≡ Some t → (busy_with (puts flights) sector ≡ Some t → IsSome (write_at flights t.0)) → IsSome (write_at (one ∷ flights) t.0)
      go true busy rest = subst IsSome (sym (ap (λ b. if b then Some one.1 else write_at flights t.0) (at_first busy))) refl
      go false busy rest = found (is_ticket t.0 one.0) (rest busy)

  module _ (change : Flying → Flying) where
    pub nowhere : (flights : InFlight) → busy_with (puts flights) sector ≡ None → each_of_sector sector change flights ≡ flights
    nowhere [] free = refl
    nowhere (one ∷ flights) free = go (one.1.put.sector.0 == sector) free (nowhere flights)
      where
        go : (b : Bool) → here_or one flights b ≡ None → (busy_with (puts flights) sector ≡ None → each_of_sector sector change flights ≡ flights)
            → (if b then (one.0, change one.1) else one) ∷ each_of_sector sector change flights ≡ one ∷ flights
        go true free rest = cc free
        go false free rest = ap (λ tail. one ∷ tail) (rest free)

    none_of : (flights : InFlight) (first : ℕ) → (first == sector) ≡ true → AllByRecursion (λ s. (first == s) ≡ false) (sectors (puts flights)) → each_of_sector sector change flights ≡ flights
    none_of [] first is all = refl
    none_of (one ∷ flights) first is all =
        ap (λ b. (if b then (one.0, change one.1) else one) ∷ each_of_sector sector change flights) (other first one.1.put.sector.0 sector is all.0) ∙ ap (λ tail. one ∷ tail) (none_of flights first is all.1)
      where
        other : (a b c : ℕ) → (a == c) ≡ true → (a == b) ≡ false → (b == c) ≡ false
        other a b c is apart = grind (arith, nat_tests)

    pub by_ticket : (flights : InFlight) (t : Ticket) → IsStrictlySortedBy ticket_cmp (keys_of flights) → IsDistinct (λ a b. a == b) (sectors (puts flights)) → busy_with (puts flights) sector ≡ Some t
        → changed_at change flights t.0 ≡ each_of_sector sector change flights
    unfolding IsStrictlySortedBy IsDistinct
    by_ticket [] t sorted apart busy = refl
    by_ticket (one ∷ flights) t sorted apart busy = go (one.1.put.sector.0 == sector) refl busy (by_ticket flights t sorted.1 apart.1)
      where
        Changed : Bool → InFlight
        Changed b = if b then (one.0, change one.1) ∷ flights else one ∷ changed_at change flights t.0

        at_first : Some one.0 ≡ Some t → is_ticket t.0 one.0 ≡ true
        at_first e = let same : one.0.0 ≡ t.0 = cc e in equal one.0.0 t.0 same
          where
            equal : (a b : ℕ) → a ≡ b → (a == b) ≡ true
            equal a b same = grind (arith, nat_tests)

        behind : (a b : ℕ) → nat_cmp a b ≡ Less → (a == b) ≡ false
        behind a b below = grind (arith, nat_tests)

        go : (b : Bool) → (one.1.put.sector.0 == sector) ≡ b → here_or one flights b ≡ Some t
            → (busy_with (puts flights) sector ≡ Some t → changed_at change flights t.0 ≡ each_of_sector sector change flights)
            → Changed (is_ticket t.0 one.0) ≡ (if b then (one.0, change one.1) else one) ∷ each_of_sector sector change flights
        go true is busy rest = ap Changed (at_first busy) ∙ ap (λ tail. (one.0, change one.1) ∷ tail) (sym (none_of flights one.1.put.sector.0 is apart.0))
        go false is busy rest = ap Changed (behind one.0.0 t.0 (of_ticket (λ y. ticket_cmp one.0 y ≡ Less) flights t busy sorted.0)) ∙ ap (λ tail. one ∷ tail) (rest busy)

-- the keys are those of the puts
pub keys-puts : (flights : InFlight) → keys_of (puts flights) ≡ keys_of flights
keys-puts [] = refl
keys-puts (one ∷ flights) = ap (λ tail. one.0 ∷ tail) (keys-puts flights)

-- ---- by place

module _ {V : Type 0} (change : V → V) where
  key_at : (P : Ticket → Type 0) (flights : List (Ticket × V)) (i : ℕ) (one : Ticket × V) → slice_get flights i ≡ Some one → AllByRecursion P (keys_of flights) → P one.0
  key_at P [] i one there all = cc there
  key_at P (first ∷ flights) zero one there all = same first there all.0
    where
      same : (first : Ticket × V) → Some first ≡ Some one → P first.0 → P one.0
      same first e holds = let key : first.0 ≡ one.0 = cc e in subst P key holds
  key_at P (first ∷ flights) (suc i) one there all = key_at P flights i one there all.1

  pub there_at : (flights : List (Ticket × V)) (i : ℕ) (one : Ticket × V) → slice_get flights i ≡ Some one → IsSome (write_at flights one.0.0)
  there_at [] i one there = cc there
  there_at (first ∷ flights) zero one there = ap (λ b. is_some (if b then Some first.1 else write_at flights one.0.0)) (is_key first there)
    where
      equal : (a b : ℕ) → a ≡ b → (a == b) ≡ true
      equal a b same = grind (arith, nat_tests)

      is_key : (first : Ticket × V) → Some first ≡ Some one → is_ticket one.0.0 first.0 ≡ true
      is_key first e = let key : first.0.0 ≡ one.0.0 = cc e in equal first.0.0 one.0.0 key
  there_at (first ∷ flights) (suc i) one there = go (is_ticket one.0.0 first.0) (there_at flights i one there)
    where
      go : (b : Bool) → IsSome (write_at flights one.0.0) → IsSome (if b then Some first.1 else write_at flights one.0.0)
      go true some = refl
      go false some = some

  pub at_place : (flights : List (Ticket × V)) (i : ℕ) (one : Ticket × V) → IsStrictlySortedBy ticket_cmp (keys_of flights) → slice_get flights i ≡ Some one → changed_at change flights one.0.0 ≡ changed_place change flights i
  unfolding IsStrictlySortedBy
  at_place [] i one sorted there = refl
  at_place (first ∷ flights) zero one sorted there = ap (λ b. if b then (first.0, change first.1) ∷ flights else first ∷ changed_at change flights one.0.0) (is_key first there)
    where
      equal : (a b : ℕ) → a ≡ b → (a == b) ≡ true
      equal a b same = grind (arith, nat_tests)

      is_key : (first : Ticket × V) → Some first ≡ Some one → is_ticket one.0.0 first.0 ≡ true
      is_key first e = let key : first.0.0 ≡ one.0.0 = cc e in equal first.0.0 one.0.0 key
  at_place (first ∷ flights) (suc i) one sorted there =
      ap (λ b. if b then (first.0, change first.1) ∷ flights else first ∷ changed_at change flights one.0.0) (behind first.0.0 one.0.0 (key_at (λ y. ticket_cmp first.0 y ≡ Less) flights i one there sorted.0))
      ∙ ap (λ tail. first ∷ tail) (at_place flights i one sorted.1 there)
    where
      behind : (a b : ℕ) → nat_cmp a b ≡ Less → (a == b) ≡ false
      behind a b below = grind (arith, nat_tests)

  pub no_place : (flights : List (Ticket × V)) (i : ℕ) → slice_get flights i ≡ None → changed_place change flights i ≡ flights
  no_place [] i none = refl
  no_place (first ∷ flights) zero none = cc none
  no_place (first ∷ flights) (suc i) none = ap (λ tail. first ∷ tail) (no_place flights i none)

  pub none_changed : (flights : List (Ticket × V)) → flights ≡ changed_first change flights 0
  none_changed [] = refl
  none_changed (one ∷ flights) = refl

  next_changed : (flights : List (Ticket × V)) (n : ℕ) → changed_place change (changed_first change flights n) n ≡ changed_first change flights (suc n)
  next_changed [] n = refl
  next_changed (first ∷ flights) zero = ap (λ tail. (first.0, change first.1) ∷ tail) (none_changed flights)
  next_changed (first ∷ flights) (suc n) = ap (λ tail. (first.0, change first.1) ∷ tail) (next_changed flights n)

  pub one_more : (flights : List (Ticket × V)) (n : ℕ) → changed_place change (changed_first change flights n) n ≡ changed_first change flights (n + 1)
  one_more flights n = next_changed flights n ∙ ap (changed_first change flights) same
    where
      same : suc n ≡ n + 1
      same = omega arith

  pub all_changed : (flights : List (Ticket × V)) (n : ℕ) → length flights ≤ n → changed_first change flights n ≡ map (λ one. (one.0, change one.1)) flights
  all_changed [] n all = refl
  all_changed (first ∷ flights) zero all = absurd (omega (arith, all))
  all_changed (first ∷ flights) (suc n) all = ap (λ tail. (first.0, change first.1) ∷ tail) (all_changed flights n (omega (arith, all)))
