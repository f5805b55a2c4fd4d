-- The bytes of a file, sector by sector.
use Rattle.std.proofs.Common.{◌≡◌, ℕ, suc, ◌+◌, ◌-◌, ◌*◌, ◌/◌, ◌%◌, ◌<◌, ◌≤◌, List, [], ◌∷◌, ◌++◌, length, map, take, drop, sym, ◌∙◌, ap, subst, arith, nat_lt, slice_index, lt-ltb, le-ltb, append_assoc, append-nil, ⊎_elim, get_or-take, length-take, min}
use Rattle.std.proofs.lemmas.Bool.{cases_lt, cond-true, cond-false}
use Rattle.std.proofs.lemmas.List.{take_all, drop_all}
use Rattle.tree_definitions.specs.declared.cells.Cell.{Cell}
use Rattle.tree_definitions.specs.declared.cells.Cell.TheVariants.{Byte}
use Rattle.tree_definitions.specs.Apply.{overwritten}
use Rattle.disk_definitions.specs.declared.region.Region.TheVariants as region
use Rattle.disk_definitions.specs.Regions.{sector_of}
use Rattle.sector_bytes.specs.Sectors.{Sectors}
use Rattle.disk_definitions.specs.Store.{StoredNode, store_of}
use Rattle.standing_laws.specs.ReadTree.{byte_at, cells_to}
use Rattle.standing_laws.proofs.Pictured.{length_cells}
use Rattle.disk_reading.specs.Files.{data_sector}

-- cells that go on with bytes
cells_on : (f : ℕ → ℕ) (a : ℕ) (bytes : List ℕ) → ((j : ℕ) → j < length bytes → slice_index bytes j ≡ f (a + j)) → cells_to f (a + length bytes) ≡ cells_to f a ++ map Byte bytes
cells_on f a [] h = (let e : a + 0 ≡ a = omega arith in ap (cells_to f) e) ∙ sym (append-nil (cells_to f a))
cells_on f a (x ∷ xs) h =
    let e : a + suc (length xs) ≡ suc a + length xs = omega arith in
    let i : x ≡ f (a + 0) = h 0 (omega arith) in
    let z : a + 0 ≡ a = omega arith in
    let r : cells_to f (suc a + length xs) ≡ cells_to f (suc a) ++ map Byte xs = cells_on f (suc a) xs (λ j l. (let k : a + suc j ≡ suc a + j = omega arith in h (suc j) (omega arith) ∙ ap f k)) in
    ap (cells_to f) e ∙ r ∙ ap (λ v. (cells_to f a ++ Byte v ∷ []) ++ map Byte xs) (sym (i ∙ ap f z)) ∙ append_assoc (cells_to f a) (Byte x ∷ []) (map Byte xs)

-- bytes written over the end are added
pub cells_more : (f : ℕ → ℕ) (a : ℕ) (bytes : List ℕ) → ((j : ℕ) → j < length bytes → slice_index bytes j ≡ f (a + j)) → overwritten (cells_to f a) a (map Byte bytes) ≡ cells_to f (a + length bytes)
cells_more f a bytes h =
    let l : length (cells_to f a) ≤ a = subst (λ n. n ≤ a) (sym (length_cells f a)) (let z : a ≤ a = omega arith in z) in
    let m : length (cells_to f a) ≤ a + length (map Byte bytes) = omega arith in
    ap (λ c. c ++ map Byte bytes ++ drop (a + length (map Byte bytes)) (cells_to f a)) (take_all a (cells_to f a) l)
    ∙ ap (λ c. cells_to f a ++ map Byte bytes ++ c) (drop_all (a + length (map Byte bytes)) (cells_to f a) m)
    ∙ append-nil (cells_to f a ++ map Byte bytes) ∙ sym (cells_on f a bytes h)

-- a byte of a sector of a file
pub data_byte : (segments : ℕ) (sectors : Sectors) (x : StoredNode) (part j : ℕ) → j < 512 → slice_index (sectors (data_sector x part)) j ≡ byte_at (store_of segments sectors) x (part * 512 + j)
data_byte segments sectors x part j h = ⊎_elim
    (λ l. (let w : part * 512 + j < 65536 = omega arith in
    let b : (part * 512 + j) / 4096 ≡ part / 8 = omega arith in
    let p : (part * 512 + j) % 4096 / 512 ≡ part % 8 = omega arith in
    let q : (part * 512 + j) % 4096 % 512 ≡ j = omega arith in
    ap (λ n. slice_index (sectors n) j) (cond-true (nat_lt part 128) (sector_of (region.Small (x.small (part / 8)) (part % 8))) (sector_of (region.Large (x.large - 1) (part - 128))) (lt-ltb part 128 l))
    ∙ sym (cond-true (nat_lt (part * 512 + j) 65536) ((store_of segments sectors).byte (x.small ((part * 512 + j) / 4096)) ((part * 512 + j) % 4096)) ((store_of segments sectors).large_byte (x.large - 1) (part * 512 + j - 65536)) (lt-ltb (part * 512 + j) 65536 w)
    ∙ ap (λ r. slice_index (sectors (sector_of (region.Small (x.small r) ((part * 512 + j) % 4096 / 512)))) ((part * 512 + j) % 4096 % 512)) b
    ∙ ap (λ r. slice_index (sectors (sector_of (region.Small (x.small (part / 8)) r))) ((part * 512 + j) % 4096 % 512)) p
    ∙ ap (λ r. slice_index (sectors (sector_of (region.Small (x.small (part / 8)) (part % 8)))) r) q)))
    (λ l. (let w : 65536 ≤ part * 512 + j = omega arith in
    let p : (part * 512 + j - 65536) / 512 ≡ part - 128 = omega arith in
    let q : (part * 512 + j - 65536) % 512 ≡ j = omega arith in
    ap (λ n. slice_index (sectors n) j) (cond-false (nat_lt part 128) (sector_of (region.Small (x.small (part / 8)) (part % 8))) (sector_of (region.Large (x.large - 1) (part - 128))) (le-ltb part 128 l))
    ∙ sym (cond-false (nat_lt (part * 512 + j) 65536) ((store_of segments sectors).byte (x.small ((part * 512 + j) / 4096)) ((part * 512 + j) % 4096)) ((store_of segments sectors).large_byte (x.large - 1) (part * 512 + j - 65536)) (le-ltb (part * 512 + j) 65536 w)
    ∙ ap (λ r. slice_index (sectors (sector_of (region.Large (x.large - 1) r))) ((part * 512 + j - 65536) % 512)) p
    ∙ ap (λ r. slice_index (sectors (sector_of (region.Large (x.large - 1) (part - 128)))) r) q)))
    (cases_lt part 128)

-- the first bytes of a sector
pub data_bytes : (segments : ℕ) (sectors : Sectors) (x : StoredNode) (part len : ℕ) → len ≤ 512 → (j : ℕ) → j < length (take len (sectors (data_sector x part))) → slice_index (take len (sectors (data_sector x part))) j ≡ byte_at (store_of segments sectors) x (part * 512 + j)
data_bytes segments sectors x part len h j l =
    let t : length (take len (sectors (data_sector x part))) ≡ min len (length (sectors (data_sector x part))) = length-take len (sectors (data_sector x part)) in
    let k : j < len = omega arith in
    get_or-take len (sectors (data_sector x part)) j 0 k ∙ data_byte segments sectors x part j (omega arith)

-- a sector of a file is added, up to the size
pub sector_added : (segments : ℕ) (sectors : Sectors) (x : StoredNode) (part size len : ℕ) (cells : List Cell) (block : List ℕ) → block ≡ sectors (data_sector x part) → length block ≡ 512 → part * 512 < size → len ≡ min 512 (size - part * 512)
    → cells ≡ cells_to (byte_at (store_of segments sectors) x) (part * 512) → overwritten cells (part * 512) (map Byte (take len block)) ≡ cells_to (byte_at (store_of segments sectors) x) (min (part * 512 + 512) size)
sector_added segments sectors x part size len cells block b l w n e =
    let f = byte_at (store_of segments sectors) x in
    let t : length (take len block) ≡ min len (length block) = length-take len block in
    let k : part * 512 + length (take len block) ≡ min (part * 512 + 512) size = omega arith in
    let h : len ≤ 512 = omega arith in
    ap (λ c. overwritten c (part * 512) (map Byte (take len block))) e
    ∙ cells_more f (part * 512) (take len block) (subst (λ s. (j : ℕ) → j < length (take len s) → slice_index (take len s) j ≡ f (part * 512 + j)) (sym b) (data_bytes segments sectors x part len h))
    ∙ ap (cells_to f) k
