-- A sector that arrives stands in its slot, and the sectors in other slots stay.
use Rattle.std.proofs.Common.{◌≡◌, ◌≢◌, ℕ, ◌%◌, ◌^◌, ◌<◌, ◌&&◌, ◌||◌, ◌==◌, nat_lt, true, Some, refl, sym, ap, ◌∙◌, arith, ne_eqb, eq-eqb}
use Rattle.std.proofs.lemmas.Bool.{and_from, cond-true, cond-false}
use Rattle.std.proofs.lemmas.Bool.Decides.{nat_tests}
use Rattle.disk_definitions.specs.declared.log_sector.LogSector.{LogSector}
use Rattle.disk_definitions.specs.LogSectors.{log_sector_bytes, log_sector_fits, is_empty_sector, is_filled_sector, empty_sector, log_sector_in}
use Rattle.disk_definitions.proofs.LogSectorLaws.{IsStorable, log_sector_back}
use Rattle.disk_definitions.proofs.WrittenFields.{zeros_are_zero, length_zeros}
use Rattle.disk_definitions.specs.Arriving.{with_sector}
use Rattle.disk_definitions.specs.Logs.{Slots, numbered, sector_numbered}
use Rattle.disk_definitions.proofs.EndLaws.{numbered_is, numbered_of}

-- a sector that may stand in its slot does so once it has arrived
pub arrived : (slots : Slots) (x : LogSector) → IsStorable x → log_sector_fits (x.seq % 256) x ≡ true → sector_numbered (with_sector slots x) x.seq ≡ Some x
arrived slots x storable fits =
    let slot = x.seq % 256 in
    let block : with_sector slots x slot ≡ log_sector_bytes x = cond-true (slot == slot) (log_sector_bytes x) (slots slot) (eq-eqb slot slot refl) in
    numbered_of x.seq (log_sector_in slot (with_sector slots x slot)) x (ap (log_sector_in slot) block ∙ log_sector_back slot x storable fits) refl

-- the sectors in other slots stay
pub others_stay : (slots : Slots) (x : LogSector) (n : ℕ) → n % 256 ≢ x.seq % 256 → sector_numbered (with_sector slots x) n ≡ sector_numbered slots n
others_stay slots x n other = ap (λ block. numbered n (log_sector_in (n % 256) block)) (cond-false (n % 256 == x.seq % 256) (log_sector_bytes x) (slots (n % 256)) (ne_eqb (n % 256) (x.seq % 256) other))

-- one slot has one number
pub one_number : (slots : Slots) (n m : ℕ) (x y : LogSector) → sector_numbered slots n ≡ Some x → sector_numbered slots m ≡ Some y → n % 256 ≡ m % 256 → n ≡ m
one_number slots n m x y e f s =
    let a = numbered_is n (log_sector_in (n % 256) (slots (n % 256))) x e in
    let b = numbered_is m (log_sector_in (m % 256) (slots (m % 256))) y f in
    let one : Some x ≡ Some y = sym a.0 ∙ ap (λ k. log_sector_in k (slots k)) s ∙ b.0 in
    let same : x ≡ y = cc in
    sym a.1 ∙ ap (λ (z : LogSector). z.seq) same ∙ b.1

-- ---- empty sectors

pub empty_storable : (n : ℕ) → n < 2 ^ 63 → IsStorable (empty_sector n)
empty_storable n h = record { seq = omega arith; op = omega arith; part = omega arith; parts = omega arith; used = omega arith; body = length_zeros 488 }

-- the empty sector of any number may stand in its slot
pub empty_fits_any : (n : ℕ) → n < 2 ^ 63 → log_sector_fits (n % 256) (empty_sector n) ≡ true
empty_fits_any n h =
    let low : nat_lt n (2 ^ 63) ≡ true = grind (arith, nat_tests) in
    let slot : (n % 256 == n % 256) ≡ true = eq-eqb (n % 256) (n % 256) refl in
    and_from (nat_lt n (2 ^ 63) && n % 256 == n % 256) (is_empty_sector (empty_sector n) || is_filled_sector (empty_sector n)) (and_from (nat_lt n (2 ^ 63)) (n % 256 == n % 256) low slot)
    (ap (λ b. b || is_filled_sector (empty_sector n)) (zeros_are_zero 488))

pub empty_arrived : (slots : Slots) (n : ℕ) → n < 2 ^ 63 → sector_numbered (with_sector slots (empty_sector n)) n ≡ Some (empty_sector n)
empty_arrived slots n h = arrived slots (empty_sector n) (empty_storable n h) (empty_fits_any n h)
