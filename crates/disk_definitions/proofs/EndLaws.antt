-- Where a log ends: an end says which numbers stand, and the log's end is the greatest one.
use Rattle.std.proofs.Common.{◌≡◌, ℕ, ◌+◌, ◌-◌, ◌%◌, ◌^◌, ◌<◌, ◌≤◌, ⊎_elim, Bool, true, false, ◌&&◌, ◌||◌, ◌==◌, nat_le, nat_lt, is_some, Option, Some, None, List, cond, refl, sym, ap, ◌∙◌, subst, arith, leb-true, le-leb, eqb-true, eq-eqb}
use Rattle.std.specs.List.{list_all, filter}
use Rattle.std.specs.Option.{option_map}
use Rattle.std.proofs.lemmas.Bool.{and_parts, and_from, cond-true}
use Rattle.frang_base.proofs.Tests.{some_there}
use Rattle.tree_definitions.specs.Numbers.{below}
use Rattle.disk_definitions.specs.declared.log_sector.LogSector.{LogSector}
use Rattle.disk_definitions.specs.LogSectors.{log_sector_in, is_empty_sector, is_filled_sector}
use Rattle.disk_definitions.proofs.LogSectorLaws.{log_sector_read}
use Rattle.disk_definitions.specs.Logs.{Slots, numbered, sector_numbered, stands, window, is_end, seq_of, numbers_in, log_end, is_sealed}
use Rattle.disk_definitions.proofs.Listed.{Among, all_at, all_from, among_filter, among_filtered, among_map, among_mapped, among_filter_map, among_filter_mapped, among_below, below_among, max_above, max_reached}

-- ---- a sector with its number

pub numbered_is : (n : ℕ) (o : Option LogSector) (x : LogSector) → numbered n o ≡ Some x → (o ≡ Some x) × (x.seq ≡ n)
numbered_is n None x e = cc
numbered_is n (Some y) x e = go (y.seq == n) refl e
  where
    go : (b : Bool) → (y.seq == n) ≡ b → (cond b (Some y) None) ≡ Some x → (Some y ≡ Some x) × (x.seq ≡ n)
    go true t e = (e, (let same : y ≡ x = cc in ap (λ (z : LogSector). z.seq) (sym same) ∙ eqb-true y.seq n t))
    go false t e = cc

pub numbered_of : (n : ℕ) (o : Option LogSector) (x : LogSector) → o ≡ Some x → x.seq ≡ n → numbered n o ≡ Some x
numbered_of n o x e s = ap (numbered n) e ∙ cond-true (x.seq == n) (Some x) None (eq-eqb x.seq n s)

-- the sector of a number that stands
pub sector_of_number : (slots : Slots) (n : ℕ) → stands slots n ≡ true → (x : LogSector) × (sector_numbered slots n ≡ Some x)
sector_of_number slots n e = some_there (sector_numbered slots n) e

pub number_of_sector : (slots : Slots) (n : ℕ) (x : LogSector) → sector_numbered slots n ≡ Some x → x.seq ≡ n
number_of_sector slots n x e = (numbered_is n (log_sector_in (n % 256) (slots (n % 256))) x e).1

-- the number of a sector tells its slot
pub slot_of_number : (slot : ℕ) (block : List ℕ) (x : LogSector) → slot < 256 → log_sector_in slot block ≡ Some x → x.seq % 256 ≡ slot
slot_of_number slot block x low e =
    let fits = (log_sector_read slot block x low e).1 in
    let outer = and_parts (nat_lt x.seq (2 ^ 63) && x.seq % 256 == slot) (is_empty_sector x || is_filled_sector x) fits in
    eqb-true (x.seq % 256) slot (and_parts (nat_lt x.seq (2 ^ 63)) (x.seq % 256 == slot) outer.0).1

-- ---- the numbers in the slots are those that stand

-- the number in a slot
number_at : Slots → ℕ → Option ℕ
number_at slots slot = option_map seq_of (log_sector_in slot (slots slot))

pub number_is_listed : (slots : Slots) (n : ℕ) → stands slots n ≡ true → Among n (numbers_in slots)
unfolding numbers_in number_at
number_is_listed slots n e =
    let s = sector_of_number slots n e in
    let is = numbered_is n (log_sector_in (n % 256) (slots (n % 256))) s.0 s.1 in
    among_filter_map (number_at slots) (below 256) (n % 256) n (among_below 256 (n % 256) (omega arith)) (ap (option_map seq_of) is.0 ∙ ap (λ k. Some k) is.1)

number_found : (o : Option LogSector) (n : ℕ) → option_map seq_of o ≡ Some n → (x : LogSector) × (o ≡ Some x) × (x.seq ≡ n)
number_found None n e = absurd cc
number_found (Some x) n e = (x, refl, cc)

pub listed_number_stands : (slots : Slots) (n : ℕ) → Among n (numbers_in slots) → stands slots n ≡ true
unfolding numbers_in number_at
listed_number_stands slots n a =
    let found = among_filter_mapped (number_at slots) (below 256) n a in
    let slot = found.0 in
    let x = number_found (log_sector_in slot (slots slot)) n found.2 in
    let at : n % 256 ≡ slot = ap (λ k. k % 256) (sym x.2) ∙ slot_of_number slot (slots slot) x.0 (below_among 256 slot found.1) x.1 in
    ap is_some (numbered_of n (log_sector_in (n % 256) (slots (n % 256))) x.0 (subst (λ k. log_sector_in k (slots k) ≡ Some x.0) (sym at) x.1) x.2)

-- all numbers that stand are at most this one
pub numbers_are_below : (slots : Slots) (bound : ℕ) → list_all (λ n. nat_le n bound) (numbers_in slots) ≡ true → (n : ℕ) → stands slots n ≡ true → n ≤ bound
numbers_are_below slots bound all n s = leb-true n bound (all_at (λ k. nat_le k bound) (numbers_in slots) all n (number_is_listed slots n s))

pub all_numbers_below : (slots : Slots) (bound : ℕ) → ((n : ℕ) → stands slots n ≡ true → n ≤ bound) → list_all (λ n. nat_le n bound) (numbers_in slots) ≡ true
all_numbers_below slots bound each = all_from (λ k. nat_le k bound) (numbers_in slots) (λ n a. le-leb n bound (each n (listed_number_stands slots n a)))

pub sealed_numbers : (slots : Slots) → is_sealed slots ≡ true → (n : ℕ) → stands slots n ≡ true → n ≤ log_end slots
sealed_numbers slots = numbers_are_below slots (log_end slots)

pub sealed_from : (slots : Slots) → ((n : ℕ) → stands slots n ≡ true → n ≤ log_end slots) → is_sealed slots ≡ true
sealed_from slots = all_numbers_below slots (log_end slots)

-- ---- the numbers up to an end

pub among_window : (end n : ℕ) → 191 ≤ end → end - 191 ≤ n → n ≤ end → Among n (window end)
unfolding window
among_window end n h low high = among_map (λ k. end - 191 + k) (below 192) (n - (end - 191)) n (among_below 192 (n - (end - 191)) (omega arith)) (omega arith)

pub window_among : (end n : ℕ) → 191 ≤ end → Among n (window end) → (end - 191 ≤ n) × (n ≤ end)
unfolding window
window_among end n h a =
    let k = among_mapped (λ k. end - 191 + k) (below 192) n a in
    let small : k.0 < 192 = below_among 192 k.0 k.1 in
    let is : end - 191 + k.0 ≡ n = k.2 in
    (omega arith, omega arith)

pub end_is_high : (slots : Slots) (end : ℕ) → is_end slots end ≡ true → 191 ≤ end
end_is_high slots end e = leb-true 191 end (and_parts (nat_le 191 end) (list_all (stands slots) (window end)) e).0

pub end_stands : (slots : Slots) (end : ℕ) → is_end slots end ≡ true → (n : ℕ) → end - 191 ≤ n → n ≤ end → stands slots n ≡ true
end_stands slots end e n low high =
    all_at (stands slots) (window end) (and_parts (nat_le 191 end) (list_all (stands slots) (window end)) e).1 n (among_window end n (end_is_high slots end e) low high)

pub end_from : (slots : Slots) (end : ℕ) → 191 ≤ end → ((n : ℕ) → end - 191 ≤ n → n ≤ end → stands slots n ≡ true) → is_end slots end ≡ true
end_from slots end h each =
    and_from (nat_le 191 end) (list_all (stands slots) (window end)) (le-leb 191 end h) (all_from (stands slots) (window end) (λ n a. let w = window_among end n h a in each n w.0 w.1))

-- ---- the end

pub end_is_below : (slots : Slots) (end : ℕ) → is_end slots end ≡ true → end ≤ log_end slots
unfolding log_end
end_is_below slots end e =
    let here : stands slots end ≡ true = end_stands slots end e end (omega arith) (omega arith) in
    max_above 0 (filter (is_end slots) (numbers_in slots)) end (among_filter (is_end slots) (numbers_in slots) end (number_is_listed slots end here) e)

pub log_end_is_one : (slots : Slots) → 0 < log_end slots → is_end slots (log_end slots) ≡ true
unfolding log_end
log_end_is_one slots h =
    ⊎_elim (λ e. absurd (omega arith)) (λ a. (among_filtered (is_end slots) (numbers_in slots) (log_end slots) a).1) (max_reached 0 (filter (is_end slots) (numbers_in slots)))

-- an end that no number above it is
pub log_end_is : (slots : Slots) (end : ℕ) → is_end slots end ≡ true → ((n : ℕ) → is_end slots n ≡ true → n ≤ end) → log_end slots ≡ end
log_end_is slots end e each =
    let low : end ≤ log_end slots = end_is_below slots end e in
    let some : 191 ≤ end = end_is_high slots end e in
    let high : log_end slots ≤ end = each (log_end slots) (log_end_is_one slots (omega arith)) in
    omega arith
