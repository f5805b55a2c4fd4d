-- The writes of a server are lost one after the other, each by its place.
use Rattle.std.proofs.Common.{◌≡◌, ℕ, zero, suc, ◌+◌, ◌≤◌, ◌==◌, Bool, true, false, not, if◌then◌else◌, [], ◌∷◌, length, Some, None, is_some, IsSome, refl, ap, ◌∙◌, subst, arith}
use Rattle.std.proofs.lemmas.Bool.Decides.{nat_tests}
use Rattle.std.specs.List.{AllByRecursion, slice_get}
use Rattle.std.specs.List.Sorted.{IsStrictlySortedBy}
use Rattle.std.specs.Map.{keys_of}
use Rattle.std.specs.Ordering.{nat_cmp}
use Rattle.std.specs.declared.cmp.Ordering.TheVariants.{Less}
use Rattle.petal_disk.specs.declared.ticket.Ticket.{Ticket}
use Rattle.petal_disk.specs.Flights.{is_ticket, ticket_cmp, without, write_at}
use Rattle.petal_disk.specs.Flying.{InFlight, lost, lost_from, put_of, puts, ticket_of}

equal : (a b : ℕ) → a ≡ b → (a == b) ≡ true
equal a b same = grind (arith, nat_tests)

behind : (a b : ℕ) → nat_cmp a b ≡ Less → (a == b) ≡ false
behind a b below = grind (arith, nat_tests)

module _ (server : ℕ) where
  -- the write at the place is another server's, or there is none
  pub passed : (flights : InFlight) (i : ℕ) → ticket_of server (slice_get flights i) ≡ None → lost_from server (suc i) flights ≡ lost_from server i flights
  passed [] zero none = refl
  passed [] (suc i) none = refl
  passed (one ∷ flights) zero none = go (one.1.put.server.0 == server) none
    where
      go : (b : Bool) → (if b then Some one.0 else None) ≡ None → one ∷ lost server flights ≡ (if not b then one ∷ lost server flights else lost server flights)
      go true none = cc none
      go false none = refl
  passed (one ∷ flights) (suc i) none = ap (λ tail. one ∷ tail) (passed flights i none)

  -- the write at the place has this ticket, and is the server's
  key_of : (P : Ticket → Type 0) (flights : InFlight) (i : ℕ) (t : Ticket) → ticket_of server (slice_get flights i) ≡ Some t → AllByRecursion P (keys_of flights) → P t
  key_of P [] i t there all = cc there
  key_of P (one ∷ flights) zero t there all = go (one.1.put.server.0 == server) there
    where
      is_first : Some one.0 ≡ Some t → one.0 ≡ t
      is_first e = cc e

      go : (b : Bool) → (if b then Some one.0 else None) ≡ Some t → P t
      go true there = subst P (is_first there) all.0
      go false there = cc there
  key_of P (one ∷ flights) (suc i) t there all = key_of P flights i t there all.1

  pub taken_out : (flights : InFlight) (i : ℕ) (t : Ticket) → IsStrictlySortedBy ticket_cmp (keys_of flights) → ticket_of server (slice_get flights i) ≡ Some t
      → lost_from server i (without flights t.0) ≡ lost_from server i flights
  unfolding IsStrictlySortedBy
  taken_out [] i t sorted there = refl
  taken_out (one ∷ flights) zero t sorted there = go (one.1.put.server.0 == server) refl there
    where
      at_first : Some one.0 ≡ Some t → is_ticket t.0 one.0 ≡ true
      at_first e = let same : one.0.0 ≡ t.0 = cc e in equal one.0.0 t.0 same

      go : (b : Bool) → (one.1.put.server.0 == server) ≡ b → (if b then Some one.0 else None) ≡ Some t
          → lost server (without (one ∷ flights) t.0) ≡ (if not b then one ∷ lost server flights else lost server flights)
      go true is there = ap (λ b. lost server (if b then flights else one ∷ without flights t.0)) (at_first there)
      go false is there = cc there
  taken_out (one ∷ flights) (suc i) t sorted there =
      ap (λ b. lost_from server (suc i) (if b then flights else one ∷ without flights t.0)) (behind one.0.0 t.0 (key_of (λ y. ticket_cmp one.0 y ≡ Less) flights i t there sorted.0))
      ∙ ap (λ tail. one ∷ tail) (taken_out flights i t sorted.1 there)

  pub one_less : (flights : InFlight) (i : ℕ) (t : Ticket) → IsStrictlySortedBy ticket_cmp (keys_of flights) → ticket_of server (slice_get flights i) ≡ Some t → length (without flights t.0) + 1 ≡ length flights
  unfolding IsStrictlySortedBy
  one_less [] i t sorted there = cc there
  one_less (one ∷ flights) zero t sorted there = go (one.1.put.server.0 == server) there
    where
      at_first : Some one.0 ≡ Some t → is_ticket t.0 one.0 ≡ true
      at_first e = let same : one.0.0 ≡ t.0 = cc e in equal one.0.0 t.0 same

      go : (b : Bool) → (if b then Some one.0 else None) ≡ Some t → length (without (one ∷ flights) t.0) + 1 ≡ suc (length flights)
      go true there = let first = ap (λ b. length (if b then flights else one ∷ without flights t.0)) (at_first there) in omega (arith, first)
      go false there = cc there
  one_less (one ∷ flights) (suc i) t sorted there =
      let rest = one_less flights i t sorted.1 there in
      let later = ap (λ b. length (if b then flights else one ∷ without flights t.0)) (behind one.0.0 t.0 (key_of (λ y. ticket_cmp one.0 y ≡ Less) flights i t there sorted.0)) in
      omega (arith, rest, later)

  pub put_there : (flights : InFlight) (i : ℕ) (t : Ticket) → ticket_of server (slice_get flights i) ≡ Some t → IsSome (write_at (puts flights) t.0)
  put_there [] i t there = cc there
  put_there (one ∷ flights) zero t there = go (one.1.put.server.0 == server) there
    where
      at_first : Some one.0 ≡ Some t → is_ticket t.0 one.0 ≡ true
      at_first e = let same : one.0.0 ≡ t.0 = cc e in equal one.0.0 t.0 same

      go : (b : Bool) → (if b then Some one.0 else None) ≡ Some t → IsSome (write_at (puts (one ∷ flights)) t.0)
      go true there = ap (λ b. is_some (if b then Some (put_of one.1) else write_at (puts flights) t.0)) (at_first there)
      go false there = cc there
  put_there (one ∷ flights) (suc i) t there = go (is_ticket t.0 one.0) (put_there flights i t there)
    where
      go : (b : Bool) → IsSome (write_at (puts flights) t.0) → IsSome (if b then Some (put_of one.1) else write_at (puts flights) t.0)
      go true some = refl
      go false some = some

  -- past all of them nothing more is lost
  pub all_passed : (flights : InFlight) (i : ℕ) → length flights ≤ i → lost_from server i flights ≡ flights
  all_passed [] zero all = refl
  all_passed [] (suc i) all = refl
  all_passed (one ∷ flights) zero all = absurd (omega (arith, all))
  all_passed (one ∷ flights) (suc i) all = ap (λ tail. one ∷ tail) (all_passed flights i (omega (arith, all)))

-- one place further
pub further : (server : ℕ) (flights : InFlight) (i : ℕ) → ticket_of server (slice_get flights i) ≡ None → lost_from server (i + 1) flights ≡ lost_from server i flights
further server flights i none = ap (λ n. lost_from server n flights) same ∙ passed server flights i none
  where
    same : i + 1 ≡ suc i
    same = omega arith
