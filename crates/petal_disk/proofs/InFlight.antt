-- Writes stay in order and of sectors of their own when one is added or taken out.
use Rattle.std.proofs.Common.{◌≡◌, ℕ, ◌+◌, ◌<◌, ◌==◌, Bool, true, false, ◌||◌, if◌then◌else◌, List, [], ◌∷◌, ◌++◌, Some, None, refl, sym, ap, ◌∙◌, subst, arith}
use Rattle.std.specs.List.{All, AllByRecursion, IsDistinct, list_any, find}
use Rattle.std.specs.List.Sorted.{IsStrictlySortedBy}
use Rattle.std.specs.Map.{keys_of}
use Rattle.std.specs.Option.{option_map}
use Rattle.std.specs.declared.cmp.Ordering.TheVariants.{Less, Equal, Greater}
use Rattle.std.proofs.lemmas.Bool.{lt-ltb}
use Rattle.std.proofs.lemmas.List.{map-append}
use Rattle.std.proofs.lemmas.List.Elements.{All-push, All-weaker, All-nil, All-head, All-tail}
use Rattle.std.proofs.lemmas.Map.Keys.{IsDistinct-push}
use Rattle.std.proofs.lemmas.Map.Views.{All-map-remove_entry}
use Rattle.std.proofs.lemmas.Cmp.{nat_eq_equiv}
use Rattle.frang_outside.specs.declared.act.Put.{Put}
use Rattle.sector_bytes.specs.SectorMaps.{Ascend}
use Rattle.sorted_entries.proofs.Sorted.{sorted-remove_entry}
use Rattle.petal_disk.specs.declared.ticket.Ticket.{Ticket}
use Rattle.petal_disk.specs.Flights.{Writes, is_ticket, without, busy_with, ticket_cmp, sectors, AreFlights}

-- nothing in flight
pub AreFlights-none : (next : ℕ) → AreFlights (record { writes = []; flying = []; next = next; room = 0 })
unfolding IsStrictlySortedBy IsDistinct
AreFlights-none next = record { ascending = tt; given = All-nil (λ ticket. ticket.0 < next); apart = tt }

pub no_tickets : Ascend {V = Ticket} []
unfolding IsStrictlySortedBy
no_tickets = tt

-- ---- one more

all_pushed : (P : Ticket → Type 0) (keys : List Ticket) (key : Ticket) → AllByRecursion P keys → P key → AllByRecursion P (keys ++ key ∷ [])
all_pushed P [] key all last = (last, tt)
all_pushed P (k ∷ keys) key all last = (all.0, all_pushed P keys key all.1 last)

below_is_less : (a b : Ticket) → a.0 < b.0 → ticket_cmp a b ≡ Less
below_is_less a b below = ap (λ (t : Bool). if t then Less else (if a.0 == b.0 then Equal else Greater)) (lt-ltb a.0 b.0 below)

pub sorted_push : (keys : List Ticket) (key : Ticket) → IsStrictlySortedBy ticket_cmp keys → All (λ t. t.0 < key.0) keys → IsStrictlySortedBy ticket_cmp (keys ++ key ∷ [])
unfolding IsStrictlySortedBy
sorted_push [] key sorted below = (tt, tt)
sorted_push (k ∷ keys) key sorted below =
    (all_pushed (λ y. ticket_cmp k y ≡ Less) keys key sorted.0 (below_is_less k key (All-head (λ t. t.0 < key.0) k keys below)), sorted_push keys key sorted.1 (All-tail (λ t. t.0 < key.0) k keys below))

not_busy : (writes : Writes) (sector : ℕ) → busy_with writes sector ≡ None → list_any (λ s. s == sector) (sectors writes) ≡ false
not_busy [] sector free = refl
not_busy (write ∷ writes) sector free = go (write.1.sector.0 == sector) refl (not_busy writes sector)
  where
    go : (b : Bool) → (write.1.sector.0 == sector) ≡ b → (busy_with writes sector ≡ None → list_any (λ s. s == sector) (sectors writes) ≡ false) → (b || list_any (λ s. s == sector) (sectors writes)) ≡ false
    go true is rest = cc (ap (λ b. option_map (λ w. w.0) (if b then Some write else find (λ w. w.1.sector.0 == sector) writes)) (sym is) ∙ free)
    go false is rest = rest (ap (λ b. option_map (λ w. w.0) (if b then Some write else find (λ w. w.1.sector.0 == sector) writes)) (sym is) ∙ free)

pub AreFlights-issued : (writes : Writes) (next : ℕ) (put : Put) → AreFlights (record { writes = writes; flying = []; next = next; room = 0 }) → busy_with writes put.sector.0 ≡ None
    → AreFlights (record { writes = writes ++ (record { 0 = next }, put) ∷ []; flying = []; next = next + 1; room = 0 })
AreFlights-issued writes next put are free = record {
  ascending = subst (IsStrictlySortedBy ticket_cmp) (sym (map-append (λ w. w.0) writes _)) (sorted_push (keys_of writes) (record { 0 = next }) are.ascending are.given);
  given = subst (All (λ t. t.0 < next + 1)) (sym (map-append (λ w. w.0) writes _)) (All-push (λ t. t.0 < next + 1) (keys_of writes) (record { 0 = next }) (All-weaker (λ t. t.0 < next) (λ t. t.0 < next + 1) (λ t below. omega arith) (keys_of writes) are.given) (omega arith));
  apart = subst (IsDistinct (λ a b. a == b)) (sym (map-append (λ w. w.1.sector.0) writes _)) (IsDistinct-push nat_eq_equiv (sectors writes) put.sector.0 are.apart (turned (sectors writes) put.sector.0 (not_busy writes put.sector.0 free)));
}
  where
    turned : (xs : List ℕ) (y : ℕ) → list_any (λ s. s == y) xs ≡ false → list_any (λ s. y == s) xs ≡ false
    turned xs y none = (λ i. list_any (λ s. nat_eq_equiv.symm y s i) xs) ∙ none

-- ---- one less

module _ (t : ℕ) where
  all_left : (P : ℕ → Type 0) (writes : Writes) → AllByRecursion P (sectors writes) → AllByRecursion P (sectors (without writes t))
  all_left P [] all = tt
  all_left P (write ∷ writes) all = go (is_ticket t write.0) (all_left P writes all.1)
    where
      go : (b : Bool) → AllByRecursion P (sectors (without writes t)) → AllByRecursion P (sectors (if b then writes else write ∷ without writes t))
      go true rest = all.1
      go false rest = (all.0, rest)

  apart_left : (writes : Writes) → IsDistinct (λ a b. a == b) (sectors writes) → IsDistinct (λ a b. a == b) (sectors (without writes t))
  unfolding IsDistinct
  apart_left [] apart = tt
  apart_left (write ∷ writes) apart = go (is_ticket t write.0) (apart_left writes apart.1)
    where
      go : (b : Bool) → IsDistinct (λ a b. a == b) (sectors (without writes t)) → IsDistinct (λ a b. a == b) (sectors (if b then writes else write ∷ without writes t))
      go true rest = apart.1
      go false rest = (all_left (λ s. (write.1.sector.0 == s) ≡ false) writes apart.0, rest)

  pub AreFlights-without : (writes : Writes) (next : ℕ) → AreFlights (record { writes = writes; flying = []; next = next; room = 0 }) → AreFlights (record { writes = without writes t; flying = []; next = next; room = 0 })
  AreFlights-without writes next are = record {
    ascending = sorted-remove_entry ticket_cmp (is_ticket t) writes are.ascending;
    given = All-map-remove_entry (is_ticket t) (λ w. w.0) (λ ticket. ticket.0 < next) writes are.given;
    apart = apart_left writes are.apart;
  }
