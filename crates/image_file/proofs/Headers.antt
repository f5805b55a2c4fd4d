-- The header of an image: its mark and its count read back, and bytes begin with the header that they read as.
use Rattle.std.proofs.Common.{◌≡◌, ℕ, ◌^◌, ◌<◌, ◌≤◌, Bool, true, false, cond, nat_lt, Result, Ok, Err, List, ◌++◌, length, take, drop, sym, ap, ◌∙◌, append_assoc, drop-drop, length-append, length-drop, arith}
use Rattle.std.proofs.Math.Seq.{drop-append_seam, take-append_seam}
use Rattle.std.proofs.lemmas.List.{take-append-drop}
use Rattle.std.proofs.lemmas.Bool.Decides.{nat_tests}
use Rattle.frang_base.proofs.Basics.{by_test}
use Rattle.byteorder.specs.Endian.{little_from, little_bytes}
use Rattle.byteorder.specs.Numbers.{little_number-reads_back, length-bytes_low_first}
use Rattle.sector_bytes.specs.Bytes.{number_at, AreBytes}
use Rattle.std.specs.Str.{bytes_eq}
use Rattle.std.proofs.lemmas.Bool.{le-ltb}
use Rattle.sector_bytes.proofs.SameBytes.{same_bytes_is, same_bytes_refl}
use Rattle.disk_definitions.proofs.NumberBytes.{number_again, drop_are}
use Rattle.image_file.specs.declared.fault.ImageFault.{ImageFault}
use Rattle.image_file.specs.declared.fault.ImageFlaw.TheVariants.{Cut, OtherMark}
use Rattle.image_file.specs.Images.{Blocks, image_mark, sectors_in, image_in, fault}

-- the header with a count, and what follows it
abbrev pub headed : ℕ → List ℕ → List ℕ
headed count rest = image_mark ++ little_bytes 8 count ++ rest

read_by : (count : ℕ) (rest bytes : List ℕ) → nat_lt (length bytes) 16 ≡ false → bytes_eq (take 8 bytes) image_mark ≡ true → number_at 8 8 bytes ≡ count → drop 16 bytes ≡ rest
    → image_in bytes ≡ sectors_in count rest
read_by count rest bytes t m c r =
    ap (λ (b : Bool). cond b (Err (fault 0 Cut)) (cond (bytes_eq (take 8 bytes) image_mark) (sectors_in (number_at 8 8 bytes) (drop 16 bytes)) (Err (fault 0 OtherMark)))) t
    ∙ (ap (λ (b : Bool). cond b (sectors_in (number_at 8 8 bytes) (drop 16 bytes)) (Err (fault 0 OtherMark))) m
    ∙ (ap (λ (n : ℕ). sectors_in n (drop 16 bytes)) c ∙ ap (sectors_in count) r))

length_marked : (count : ℕ) → length (image_mark ++ little_bytes 8 count) ≡ 16
length_marked count = omega (arith, length-append image_mark (little_bytes 8 count), length-bytes_low_first 0 8 count)

joined : (count : ℕ) (rest : List ℕ) → headed count rest ≡ image_mark ++ (little_bytes 8 count ++ rest)
joined count rest = append_assoc image_mark (little_bytes 8 count) rest

pub header_count : (count : ℕ) (rest : List ℕ) → count < 2 ^ 64 → number_at 8 8 (headed count rest) ≡ count
header_count count rest h =
    ap (λ (xs : List ℕ). number_at 8 8 xs) (joined count rest)
    ∙ (ap (λ (xs : List ℕ). little_from 0 8 xs) (drop-append_seam image_mark (little_bytes 8 count ++ rest)) ∙ little_number-reads_back 8 count rest h)

pub header_rest : (count : ℕ) (rest : List ℕ) → drop 16 (headed count rest) ≡ rest
header_rest count rest =
    ap (λ (i : ℕ). drop i (headed count rest)) (sym (length_marked count)) ∙ drop-append_seam (image_mark ++ little_bytes 8 count) rest

pub header_read : (count : ℕ) (rest : List ℕ) → count < 2 ^ 64 → image_in (headed count rest) ≡ sectors_in count rest
header_read count rest h =
    read_by count rest (headed count rest)
    (le-ltb _ 16 (omega (arith, length-append (image_mark ++ little_bytes 8 count) rest, length_marked count)))
    (ap (λ (xs : List ℕ). bytes_eq (take 8 xs) image_mark) (joined count rest)
    ∙ (ap (λ (xs : List ℕ). bytes_eq xs image_mark) (take-append_seam image_mark (little_bytes 8 count ++ rest)) ∙ same_bytes_refl image_mark))
    (header_count count rest h) (header_rest count rest)

pub record Header (bytes : List ℕ) (es : Blocks) : Type 0 where
  pub text : bytes ≡ headed (number_at 8 8 bytes) (drop 16 bytes)
  pub sectors : sectors_in (number_at 8 8 bytes) (drop 16 bytes) ≡ Ok es

header_text : (bytes : List ℕ) → AreBytes bytes → 16 ≤ length bytes → bytes_eq (take 8 bytes) image_mark ≡ true → bytes ≡ headed (number_at 8 8 bytes) (drop 16 bytes)
header_text bytes f h m =
    let mark : take 8 bytes ≡ image_mark = same_bytes_is (take 8 bytes) image_mark m in
    let count : little_bytes 8 (number_at 8 8 bytes) ≡ take 8 (drop 8 bytes) = number_again 8 (drop 8 bytes) (drop_are 8 bytes f) (omega (arith, length-drop 8 bytes)) in
    let rest : drop 8 (drop 8 bytes) ≡ drop 16 bytes = drop-drop 8 8 bytes in
    sym (ap (λ (xs : List ℕ). image_mark ++ xs ++ drop 16 bytes) count
    ∙ (ap (λ (xs : List ℕ). xs ++ take 8 (drop 8 bytes) ++ drop 16 bytes) (sym mark)
    ∙ (append_assoc (take 8 bytes) (take 8 (drop 8 bytes)) (drop 16 bytes)
    ∙ (ap (λ (xs : List ℕ). take 8 bytes ++ (take 8 (drop 8 bytes) ++ xs)) (sym rest)
    ∙ (ap (λ (xs : List ℕ). take 8 bytes ++ xs) (take-append-drop 8 (drop 8 bytes)) ∙ take-append-drop 8 bytes)))))

pub header_back : (bytes : List ℕ) (es : Blocks) → AreBytes bytes → image_in bytes ≡ Ok es → Header bytes es
header_back bytes es f =
    by_test (λ (r : Result Blocks ImageFault). r ≡ Ok es → Header bytes es)
    (Err (fault 0 Cut))
    (cond (bytes_eq (take 8 bytes) image_mark) (sectors_in (number_at 8 8 bytes) (drop 16 bytes)) (Err (fault 0 OtherMark)))
    (nat_lt (length bytes) 16)
    (λ t h. cc)
    (λ t. by_test (λ (r : Result Blocks ImageFault). r ≡ Ok es → Header bytes es)
    (sectors_in (number_at 8 8 bytes) (drop 16 bytes)) (Err (fault 0 OtherMark)) (bytes_eq (take 8 bytes) image_mark)
    (λ m h. let long : 16 ≤ length bytes = grind (arith, nat_tests) in record { text = header_text bytes f long m; sectors = h })
    (λ m h. cc))
