-- The tickets by sector go on being those of the writes in flight when one is added or taken out.
use Rattle.std.proofs.Common.{◌≡◌, ℕ, ◌==◌, Bool, true, false, if◌then◌else◌, List, [], ◌∷◌, ◌++◌, Option, Some, None, find, refl, sym, ap, ◌∙◌, arith}
use Rattle.std.proofs.lemmas.Bool.{eqb-true, eqb-false, ne_eqb}
use Rattle.std.proofs.lemmas.Bool.Decides.{nat_tests}
use Rattle.std.proofs.lemmas.Cmp.{nat_cmp_total, eq_by_cmp_equiv}
use Rattle.std.proofs.lemmas.Map.{lookup-remove_entry}
use Rattle.std.proofs.lemmas.Map.Keys.{IsDistinct-from_sorted}
use Rattle.std.specs.BTreeMap.{is_at}
use Rattle.std.specs.List.{AllByRecursion, IsDistinct}
use Rattle.std.specs.Option.{option_map}
use Rattle.std.specs.Ordering.{nat_cmp}
use Rattle.frang_outside.specs.declared.act.Put.{Put}
use Rattle.sector_bytes.specs.SectorMaps.{Ascend, value_at, with_value, without as without_sector}
use Rattle.sorted_entries.proofs.Sorted.{lookup-insert_entry}
use Rattle.petal_disk.specs.declared.ticket.Ticket.{Ticket}
use Rattle.petal_disk.specs.Flights.{Writes, is_ticket, write_at, without, busy_with, sectors}
use Rattle.petal_disk.specs.Keeping.{IsIndex}
use Rattle.petal_disk.proofs.TicketOrder.{same_test}

-- the ticket of a sector's write, by whether the first write is of that sector
abbrev here_or : (Ticket × Put) → Writes → ℕ → Bool → Option Ticket
here_or write writes q b = option_map (λ w. w.0) (if b then Some write else find (λ w. w.1.sector.0 == q) writes)

-- what equals one number and not another tells these two apart
other_number : (a b c : ℕ) → (a == b) ≡ true → (a == c) ≡ false → (c == b) ≡ false
other_number a b c is other = ne_eqb c b (λ same. eqb-false a c other (eqb-true a b is ∙ sym same))

-- ---- one more

module _ (ticket : Ticket) (put : Put) (q : ℕ) where
  apart_from_new : (write : Ticket × Put) → (write.1.sector.0 == q) ≡ true → (write.1.sector.0 == put.sector.0) ≡ false → (put.sector.0 == q) ≡ false
  apart_from_new write is other = other_number write.1.sector.0 q put.sector.0 is other

  free_rest : (write : Ticket × Put) (writes : Writes) → busy_with (write ∷ writes) put.sector.0 ≡ None → (write.1.sector.0 == put.sector.0) ≡ false
  free_rest write writes free = go (write.1.sector.0 == put.sector.0) refl
    where
      go : (b : Bool) → (write.1.sector.0 == put.sector.0) ≡ b → b ≡ false
      go true is = cc (ap (here_or write writes put.sector.0) (sym is) ∙ free)
      go false is = refl

  busy-issued : (writes : Writes) → busy_with writes put.sector.0 ≡ None → busy_with (writes ++ (ticket, put) ∷ []) q ≡ (if put.sector.0 == q then Some ticket else busy_with writes q)
  busy-issued [] free = go (put.sector.0 == q)
    where
      go : (b : Bool) → option_map (λ (w : Ticket × Put). w.0) (if b then Some (ticket, put) else None) ≡ (if b then Some ticket else None)
      go true = refl
      go false = refl
  busy-issued (write ∷ writes) free =
      go (write.1.sector.0 == q) refl (busy-issued writes (sym (ap (here_or write writes put.sector.0) (free_rest write writes free)) ∙ free))
    where
      go : (b : Bool) → (write.1.sector.0 == q) ≡ b → busy_with (writes ++ (ticket, put) ∷ []) q ≡ (if put.sector.0 == q then Some ticket else busy_with writes q)
          → here_or write (writes ++ (ticket, put) ∷ []) q b ≡ (if put.sector.0 == q then Some ticket else here_or write writes q b)
      go true is rest = sym (ap (λ b. if b then Some ticket else Some write.0) (apart_from_new write is (free_rest write writes free)))
      go false is rest = rest

pub IsIndex-issued : (entries : List (ℕ × Ticket)) (writes : Writes) (ticket : Ticket) (put : Put) → busy_with writes put.sector.0 ≡ None → IsIndex entries writes
    → IsIndex (with_value entries put.sector.0 ticket) (writes ++ (ticket, put) ∷ [])
IsIndex-issued entries writes ticket put free index q =
    lookup-insert_entry nat_cmp_total put.sector.0 ticket q entries
    ∙ ap (λ b. if b then Some ticket else value_at entries q) (same_test q put.sector.0)
    ∙ ap (λ o. if put.sector.0 == q then Some ticket else o) (index q)
    ∙ sym (busy-issued ticket put q writes free)

-- ---- one less

module _ (t q : ℕ) where
  nobody : (sector : ℕ) (writes : Writes) → (sector == q) ≡ true → AllByRecursion (λ s. (sector == s) ≡ false) (sectors writes) → busy_with writes q ≡ None
  nobody sector [] is all = refl
  nobody sector (write ∷ writes) is all = ap (here_or write writes q) (differs write.1.sector.0 all.0) ∙ nobody sector writes is all.1
    where
      differs : (s : ℕ) → (sector == s) ≡ false → (s == q) ≡ false
      differs s other = other_number sector q s is other

  of_write : (P : ℕ → Type 0) (writes : Writes) (put : Put) → write_at writes t ≡ Some put → AllByRecursion P (sectors writes) → P put.sector.0
  of_write P [] put there all = cc there
  of_write P (write ∷ writes) put there all = go (is_ticket t write.0) there (λ there. of_write P writes put there all.1)
    where
      go : (b : Bool) → (if b then Some write.1 else write_at writes t) ≡ Some put → (write_at writes t ≡ Some put → P put.sector.0) → P put.sector.0
      go true there rest = same write.1 there all.0
        where
          same : (p : Put) → Some p ≡ Some put → P p.sector.0 → P put.sector.0
          same p e holds = let s : p.sector.0 ≡ put.sector.0 = cc in rw (← s) holds
      go false there rest = rest there

  busy-without : (writes : Writes) (put : Put) → IsDistinct (λ a b. a == b) (sectors writes) → write_at writes t ≡ Some put
      → busy_with (without writes t) q ≡ (if put.sector.0 == q then None else busy_with writes q)
  unfolding IsDistinct
  busy-without [] put apart there = cc there
  busy-without (write ∷ writes) put apart there = go (is_ticket t write.0) there (λ there. busy-without writes put apart.1 there)
    where
      gone : (b : Bool) → (write.1.sector.0 == q) ≡ b → busy_with writes q ≡ (if b then None else here_or write writes q b)
      gone true is = nobody write.1.sector.0 writes is apart.0
      gone false is = refl

      away : (write.1.sector.0 == q) ≡ true → (write.1.sector.0 == put.sector.0) ≡ false → (put.sector.0 == q) ≡ false
      away is other = other_number write.1.sector.0 q put.sector.0 is other

      stays : (b : Bool) → (write.1.sector.0 == q) ≡ b → write_at writes t ≡ Some put → busy_with (without writes t) q ≡ (if put.sector.0 == q then None else busy_with writes q)
          → here_or write (without writes t) q b ≡ (if put.sector.0 == q then None else here_or write writes q b)
      stays true is there rest = sym (ap (λ b. if b then None else Some write.0) (away is (of_write (λ s. (write.1.sector.0 == s) ≡ false) writes put there apart.0)))
      stays false is there rest = rest

      go : (b : Bool) → (if b then Some write.1 else write_at writes t) ≡ Some put
          → (write_at writes t ≡ Some put → busy_with (without writes t) q ≡ (if put.sector.0 == q then None else busy_with writes q))
          → busy_with (if b then writes else write ∷ without writes t) q ≡ (if put.sector.0 == q then None else busy_with (write ∷ writes) q)
      go true there rest = gone (write.1.sector.0 == q) refl ∙ same write.1 there
        where
          same : (p : Put) → Some p ≡ Some put → (if p.sector.0 == q then None else busy_with (write ∷ writes) q) ≡ (if put.sector.0 == q then None else busy_with (write ∷ writes) q)
          same p e = let s : p.sector.0 ≡ put.sector.0 = cc in ap (λ n. if n == q then None else busy_with (write ∷ writes) q) s
      go false there rest = stays (write.1.sector.0 == q) refl there (rest there)

pub IsIndex-without : (entries : List (ℕ × Ticket)) (writes : Writes) (t : ℕ) (put : Put) → Ascend entries → IsDistinct (λ a b. a == b) (sectors writes) → write_at writes t ≡ Some put → IsIndex entries writes
    → IsIndex (without_sector entries put.sector.0) (without writes t)
IsIndex-without entries writes t put sorted apart there index q =
    lookup-remove_entry (eq_by_cmp_equiv nat_cmp_total) (is_at (nat_cmp put.sector.0)) (λ x y at. (eq_by_cmp_equiv nat_cmp_total).congr put.sector.0 x y at) q entries (IsDistinct-from_sorted nat_cmp _ sorted)
    ∙ ap (λ b. if b then None else value_at entries q) (same_test put.sector.0 q ∙ turned q put.sector.0)
    ∙ ap (λ o. if put.sector.0 == q then None else o) (index q)
    ∙ sym (busy-without t q writes put apart there)
  where
    turned : (a b : ℕ) → (a == b) ≡ (b == a)
    turned a b = grind (arith, nat_tests)
