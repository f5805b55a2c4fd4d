-- Tickets are keys in order of their numbers, and what is kept in boxes has the same places and values as what the boxes hold.
use Rattle.std.proofs.Common.{◌≡◌, ℕ, suc, ◌==◌, ◌<◌, ◌≤◌, ◌++◌, Bool, true, false, if◌then◌else◌, List, [], ◌∷◌, length, refl, sym, ap, ◌∙◌, Option, Some, None, IfSome, arith}
use Rattle.std.proofs.lemmas.Bool.{le-ltb, ne_eqb}
use Rattle.std.proofs.lemmas.Bool.Decides.{nat_tests}
use Rattle.std.proofs.lemmas.Cmp.{ranked}
use Rattle.std.specs.List.{All, AllByRecursion, slice_get}
use Rattle.std.specs.declared.cmp.Ordering.TheVariants.{Less, Equal, Greater}
use Rattle.std.proofs.lemmas.List.Elements.{All-from_recursion, All-head, All-tail}
use Rattle.std.specs.List.Sorted.{IsStrictlySortedBy}
use Rattle.std.specs.Map.{lookup, remove_entry, keys_of}
use Rattle.std.specs.BTreeMap.{insert_entry, is_at}
use Rattle.std.specs.Option.{option_map}
use Rattle.std.proofs.lemmas.Map.Made.{lookup-map_values}
use Rattle.std.specs.Ordering.{nat_cmp, is_eq, match_ordering}
use Rattle.petal_disk.specs.declared.ticket.Ticket.{Ticket}
use Rattle.petal_disk.specs.Flights.{Writes, is_ticket, ticket_cmp, write_at, without}
use Rattle.petal_disk.specs.Keeping.{opened}

-- to compare equal is to be the same number
pub same_test : (a b : ℕ) → is_eq (nat_cmp a b) ≡ (b == a)
same_test a b = grind (arith, nat_tests)

ticket_test : (t : Ticket) → is_at (ticket_cmp t) ≡ is_ticket t.0
ticket_test t = λ i. λ ticket. same_test t.0 ticket.0 i

looked_up : {V : Type 0} (writes : List (Ticket × V)) (t : Ticket) → lookup (is_at (ticket_cmp t)) writes ≡ write_at writes t.0
looked_up writes t = ap (λ test. lookup test writes) (ticket_test t)

taken_out : {V : Type 0} (writes : List (Ticket × V)) (t : Ticket) → remove_entry (is_at (ticket_cmp t)) writes ≡ without writes t.0
taken_out writes t = ap (λ test. remove_entry test writes) (ticket_test t)

-- ---- what the boxes hold

module _ {B V : Type 0} (held : B → V) where
  pub length-opened : (boxes : List (Ticket × B)) → length (opened boxes held) ≡ length boxes
  length-opened [] = refl
  length-opened (box ∷ boxes) = ap suc (length-opened boxes)

  pub keys-opened : (boxes : List (Ticket × B)) → keys_of (opened boxes held) ≡ keys_of boxes
  keys-opened [] = refl
  keys-opened (box ∷ boxes) = ap (λ tail. box.0 ∷ tail) (keys-opened boxes)

  pub write-opened : (t : Ticket) (boxes : List (Ticket × B)) → write_at (opened boxes held) t.0 ≡ option_map held (lookup (is_at (ticket_cmp t)) boxes)
  write-opened t boxes = sym (looked_up (opened boxes held) t) ∙ lookup-map_values held (is_at (ticket_cmp t)) boxes

  removed-opened : (test : Ticket → Bool) (boxes : List (Ticket × B)) → opened (remove_entry test boxes) held ≡ remove_entry test (opened boxes held)
  removed-opened test [] = refl
  removed-opened test (box ∷ boxes) = go (test box.0) (removed-opened test boxes)
    where
      go : (b : Bool) → opened (remove_entry test boxes) held ≡ remove_entry test (opened boxes held)
          → opened (if b then boxes else box ∷ remove_entry test boxes) held ≡ (if b then opened boxes held else (box.0, held box.1) ∷ remove_entry test (opened boxes held))
      go true rest = refl
      go false rest = ap (λ tail. (box.0, held box.1) ∷ tail) rest

  pub without-opened : (t : Ticket) (boxes : List (Ticket × B)) → opened (remove_entry (is_at (ticket_cmp t)) boxes) held ≡ without (opened boxes held) t.0
  without-opened t boxes = removed-opened (is_at (ticket_cmp t)) boxes ∙ taken_out (opened boxes held) t

  above_is_greater : (a b : Ticket) → b.0 < a.0 → ticket_cmp a b ≡ Greater
  above_is_greater a b above =
      ap (λ (t : Bool). if t then Less else (if a.0 == b.0 then Equal else Greater)) (le-ltb a.0 b.0 (omega arith))
      ∙ ap (λ (t : Bool). if t then Equal else Greater) (ne_eqb a.0 b.0 (λ same. omega arith))

  -- a ticket above all others goes to the end
  pub inserted-opened : (t : Ticket) (kept : B) (boxes : List (Ticket × B)) → All (λ key. key.0 < t.0) (keys_of (opened boxes held))
      → opened (insert_entry ticket_cmp boxes t kept) held ≡ opened boxes held ++ (t, held kept) ∷ []
  inserted-opened t kept [] below = refl
  inserted-opened t kept (box ∷ boxes) below =
      ap (λ o. opened (match_ordering o ((t, kept) ∷ box ∷ boxes) ((box.0, kept) ∷ boxes) (box ∷ insert_entry ticket_cmp boxes t kept)) held)
      (above_is_greater t box.0 (All-head (λ key. key.0 < t.0) box.0 (keys_of (opened boxes held)) below))
      ∙ ap (λ tail. (box.0, held box.1) ∷ tail) (inserted-opened t kept boxes (All-tail (λ key. key.0 < t.0) box.0 (keys_of (opened boxes held)) below))

-- one more takes at most one place
pub at_most_one : (b : Bool) → (if b then 0 else 1) ≤ 1
at_most_one true = omega arith
at_most_one false = omega arith

-- ---- the first

not_below : (ticket : Ticket) (all : List Ticket) → AllByRecursion (λ y. ticket_cmp ticket y ≡ Less) all → AllByRecursion (λ y. ticket.0 ≤ y.0) all
not_below ticket [] above = tt
not_below ticket (y ∷ all) above = (at_most ticket y above.0, not_below ticket all above.1)
  where
    at_most : (a b : Ticket) → ticket_cmp a b ≡ Less → a.0 ≤ b.0
    at_most a b is = let below : a.0 < b.0 = ranked a.0 b.0 Less (sym is) in omega arith

pub first_is_least : (writes : Writes) → IsStrictlySortedBy ticket_cmp (keys_of writes) → IfSome (slice_get writes 0) (λ write. All (λ ticket. write.0.0 ≤ ticket.0) (keys_of writes))
unfolding IsStrictlySortedBy
first_is_least [] sorted = tt
first_is_least (write ∷ writes) sorted =
    All-from_recursion (λ ticket. write.0.0 ≤ ticket.0) (keys_of (write ∷ writes)) (omega arith, not_below write.0 (keys_of writes) sorted.0)

-- what holds of what a value is seen as
pub seen_as : {X Y : Type 0} (f : X → Y) (P : Y → Type 0) (o : Option X) → IfSome (option_map f o) P → IfSome o (λ x. P (f x))
seen_as f P None holds = tt
seen_as f P (Some x) holds = holds
