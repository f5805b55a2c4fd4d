-- Logs that have the same sectors read alike, and a log of zeros has no records.
use Rattle.std.proofs.Common.{◌≡◌, ℕ, zero, suc, ◌%◌, ◌<◌, ◌≤◌, ⊎_elim, inl, inr, Bool, true, ◌==◌, is_some, Option, Some, List, [], ◌∷◌, refl, sym, ap, ◌∙◌, arith}
use Rattle.std.specs.List.{list_all, filter_map, cons_option}
use Rattle.std.proofs.lemmas.Bool.{cond-true, cases_lt}
use Rattle.disk_definitions.specs.declared.log_sector.LogSector.{LogSector}
use Rattle.sector_bytes.specs.Bytes.{zeros}
use Rattle.std.specs.Str.{bytes_eq}
use Rattle.disk_definitions.specs.LogSectors.{log_sector_fields, empty_sector, numbered_sector_in, log_sector_in}
use Rattle.sector_bytes.proofs.SameBytes.{same_bytes_refl}
use Rattle.disk_definitions.specs.Logs.{Slots, numbered, sector_numbered, stands, window, is_end, log_end, sectors_read, log_records, records_among}
use Rattle.disk_definitions.proofs.Listed.{Among, all_from, among_filter_mapped}
use Rattle.disk_definitions.proofs.EndLaws.{numbered_is, numbered_of, sector_of_number, end_is_high, end_stands, end_from, end_is_below, log_end_is_one, log_end_is}
use Rattle.disk_definitions.proofs.ReadingLaws.{no_records}

filter_map_same : {X Y : Type 0} (f g : X → Option Y) (xs : List X) → ((x : X) → Among x xs → f x ≡ g x) → filter_map f xs ≡ filter_map g xs
filter_map_same f g [] each = refl
filter_map_same f g (x ∷ xs) each = ap (λ o. cons_option o (filter_map f xs)) (each x (inl refl)) ∙ ap (cons_option (g x)) (filter_map_same f g xs (λ y a. each y (inr a)))

-- the same sectors up to an end are read alike
pub sectors_same : (a b : Slots) (end : ℕ) → ((n : ℕ) → Among n (window end) → sector_numbered a n ≡ sector_numbered b n) → sectors_read a end ≡ sectors_read b end
sectors_same a b zero each = refl
sectors_same a b (suc end) each = filter_map_same (sector_numbered a) (sector_numbered b) (window (suc end)) each

-- a test that all sectors which stand pass
pub all_read : (slots : Slots) (end : ℕ) (test : LogSector → Bool) → ((n : ℕ) (x : LogSector) → sector_numbered slots n ≡ Some x → test x ≡ true) → list_all test (sectors_read slots end) ≡ true
all_read slots zero test each = refl
all_read slots (suc end) test each =
    all_from test (filter_map (sector_numbered slots) (window (suc end))) (λ x a. let r = among_filter_mapped (sector_numbered slots) (window (suc end)) x a in each r.0 x r.2)

-- ---- logs with the same slots

-- the same blocks in the 256 slots
abbrev pub SameSlots : Slots → Slots → Type 0
SameSlots a b = (slot : ℕ) → slot < 256 → a slot ≡ b slot

pub sector_same : (a b : Slots) → SameSlots a b → (n : ℕ) → sector_numbered a n ≡ sector_numbered b n
sector_same a b same n = ap (λ block. numbered n (log_sector_in (n % 256) block)) (same (n % 256) (omega arith))

stands_same : (a b : Slots) → SameSlots a b → (n : ℕ) → stands a n ≡ true → stands b n ≡ true
stands_same a b same n s = ap is_some (sym (sector_same a b same n)) ∙ s

end_same : (a b : Slots) → SameSlots a b → (end : ℕ) → is_end a end ≡ true → is_end b end ≡ true
end_same a b same end e = end_from b end (end_is_high a end e) (λ n low high. stands_same a b same n (end_stands a end e n low high))

log_end_within : (a b : Slots) → SameSlots a b → log_end a ≤ log_end b
log_end_within a b same = ⊎_elim (λ h. end_is_below b (log_end a) (end_same a b same (log_end a) (log_end_is_one a h))) (λ h. omega arith) (cases_lt 0 (log_end a))

pub log_end_same : (a b : Slots) → SameSlots a b → log_end a ≡ log_end b
log_end_same a b same =
    let low : log_end a ≤ log_end b = log_end_within a b same in
    let high : log_end b ≤ log_end a = log_end_within b a (λ slot h. sym (same slot h)) in
    omega arith

pub log_records_same : (a b : Slots) → SameSlots a b → log_records a ≡ log_records b
log_records_same a b same = ap (λ end. records_among (sectors_read a end)) (log_end_same a b same) ∙ ap records_among (sectors_same a b (log_end b) (λ n m. sector_same a b same n))

-- ---- a log of zeros

-- its 256 slots are zero
abbrev pub IsZeroLog : Slots → Type 0
IsZeroLog slots = (slot : ℕ) → slot < 256 → slots slot ≡ zeros 512

zero_slot : (slots : Slots) → IsZeroLog slots → (slot : ℕ) → slot < 256 → log_sector_in slot (slots slot) ≡ Some (empty_sector slot)
zero_slot slots z slot h =
    ap (log_sector_in slot) (z slot h) ∙ cond-true (bytes_eq (zeros 512) (zeros 512)) (Some (empty_sector slot)) (numbered_sector_in slot (zeros 512) (log_sector_fields (zeros 512))) (same_bytes_refl (zeros 512))

zero_number : (slots : Slots) → IsZeroLog slots → (n : ℕ) (x : LogSector) → sector_numbered slots n ≡ Some x → (empty_sector (n % 256) ≡ x) × (x.seq ≡ n)
zero_number slots z n x e =
    let is = numbered_is n (log_sector_in (n % 256) (slots (n % 256))) x e in
    let same : Some (empty_sector (n % 256)) ≡ Some x = sym (zero_slot slots z (n % 256) (omega arith)) ∙ is.0 in
    (cc, is.1)

zero_numbers : (slots : Slots) → IsZeroLog slots → (n : ℕ) → stands slots n ≡ true → n < 256
zero_numbers slots z n s =
    let x = sector_of_number slots n s in
    let is = zero_number slots z n x.0 x.1 in
    let same : n % 256 ≡ n = ap (λ (y : LogSector). y.seq) is.0 ∙ is.1 in
    omega arith

zero_stands : (slots : Slots) → IsZeroLog slots → (n : ℕ) → n < 256 → stands slots n ≡ true
zero_stands slots z n h = ap is_some (numbered_of n (log_sector_in (n % 256) (slots (n % 256))) (empty_sector (n % 256)) (zero_slot slots z (n % 256) (omega arith)) (omega arith))

pub zero_log_end : (slots : Slots) → IsZeroLog slots → log_end slots ≡ 255
zero_log_end slots z =
    log_end_is slots 255 (end_from slots 255 (omega arith) (λ n low high. zero_stands slots z n (omega arith)))
    (λ n e. let h : n < 256 = zero_numbers slots z n (end_stands slots n e n (omega arith) (omega arith)) in omega arith)

pub zero_log_records : (slots : Slots) → IsZeroLog slots → log_records slots ≡ []
zero_log_records slots z =
    no_records (sectors_read slots (log_end slots)) (all_read slots (log_end slots) (λ x. x.parts == 0) (λ n x e. ap (λ (y : LogSector). y.parts == 0) (sym (zero_number slots z n x e).0)))
