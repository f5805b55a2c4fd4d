-- An entry of an image reads back as its sector and block, and bytes are the entry that they read as.
use Rattle.std.proofs.Common.{◌≡◌, ℕ, ◌^◌, ◌<◌, ◌≤◌, List, ◌++◌, length, take, drop, sym, ap, ◌∙◌, append_assoc, drop-drop, length-append, arith}
use Rattle.std.proofs.Math.Seq.{take-append_seam, drop-append_seam}
use Rattle.std.proofs.lemmas.List.{take-append-drop, length-take, length-drop}
use Rattle.byteorder.specs.Endian.{little_from, little_bytes}
use Rattle.byteorder.specs.Numbers.{little_from-lt, little_number-reads_back, length-bytes_low_first}
use Rattle.sector_bytes.specs.Bytes.{AreBytes}
use Rattle.disk_definitions.proofs.NumberBytes.{number_again}
use Rattle.image_file.specs.Images.{image_entry, entry_in}

-- a number of eight bytes, and a block
pub record IsEntry (e : ℕ × List ℕ) : Type 0 where
  pub number : e.0 < 2 ^ 64
  pub block : length e.1 ≡ 512

pub length_entry : (s : ℕ) (block : List ℕ) → length block ≡ 512 → length (image_entry (s, block)) ≡ 520
length_entry s block h = omega (arith, length-append (little_bytes 8 s) block, length-bytes_low_first 0 8 s)

abbrev entry : ℕ → List ℕ → ℕ × List ℕ
entry s block = (s, block)

pair : (a x : ℕ) (b y : List ℕ) → a ≡ x → b ≡ y → entry a b ≡ entry x y
pair a x b y p q = cc

-- an entry is read from its bytes, whatever follows
pub entry_reads : (s : ℕ) (block rest : List ℕ) → IsEntry (s, block) → entry_in (image_entry (s, block) ++ rest) ≡ (s, block)
entry_reads s block rest h =
    let number = little_bytes 8 s in
    let joined : image_entry (s, block) ++ rest ≡ number ++ (block ++ rest) = append_assoc number block rest in
    let n : length number ≡ 8 = length-bytes_low_first 0 8 s in
    let behind : drop 8 (image_entry (s, block) ++ rest) ≡ block ++ rest =
    ap (drop 8) joined ∙ (ap (λ (i : ℕ). drop i (number ++ (block ++ rest))) (sym n) ∙ drop-append_seam number (block ++ rest)) in
    pair _ s _ block
    (ap (little_from 0 8) joined ∙ little_number-reads_back 8 s (block ++ rest) h.number)
    (ap (take 512) behind ∙ (ap (λ (i : ℕ). take i (block ++ rest)) (sym h.block) ∙ take-append_seam block rest))

pub behind_entry : (s : ℕ) (block rest : List ℕ) → length block ≡ 512 → drop 520 (image_entry (s, block) ++ rest) ≡ rest
behind_entry s block rest h =
    ap (λ (i : ℕ). drop i (image_entry (s, block) ++ rest)) (sym (length_entry s block h)) ∙ drop-append_seam (image_entry (s, block)) rest

-- bytes begin with the entry that they read as
pub entry_again : (bytes : List ℕ) → AreBytes bytes → 520 ≤ length bytes → bytes ≡ image_entry (entry_in bytes) ++ drop 520 bytes
entry_again bytes f h =
    let number : little_bytes 8 (entry_in bytes).0 ≡ take 8 bytes = number_again 8 bytes f (omega arith) in
    let rest : drop 512 (drop 8 bytes) ≡ drop 520 bytes = drop-drop 512 8 bytes in
    sym (ap (λ (xs : List ℕ). (xs ++ take 512 (drop 8 bytes)) ++ drop 520 bytes) number
    ∙ (append_assoc (take 8 bytes) (take 512 (drop 8 bytes)) (drop 520 bytes)
    ∙ (ap (λ (xs : List ℕ). take 8 bytes ++ (take 512 (drop 8 bytes) ++ xs)) (sym rest)
    ∙ (ap (λ (xs : List ℕ). take 8 bytes ++ xs) (take-append-drop 512 (drop 8 bytes)) ∙ take-append-drop 8 bytes))))

-- what is read is an entry
pub read_entry : (bytes : List ℕ) → AreBytes bytes → 520 ≤ length bytes → IsEntry (entry_in bytes)
read_entry bytes f h = record {
  number = little_from-lt 0 8 bytes f;
  block = omega (arith, length-take 512 (drop 8 bytes), length-drop 8 bytes);
}
