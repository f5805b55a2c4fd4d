-- The image of a disk reads back as its sectors that aren't zero, unless the disk has a flaw, and tells the disk from any other.
use Rattle.std.proofs.Common.{◌≡◌, ℕ, suc, ◌^◌, ◌<◌, ◌≤◌, Bool, true, false, not, cond, nat_eq, Option, Some, None, Ok, List, [], ◌∷◌, ◌++◌, length, drop, replicate, refl, sym, ap, ◌∙◌, subst, arith}
use Rattle.std.specs.List.{flat_map, All, AllByRecursion}
use Rattle.std.specs.List.Sorted.{IsStrictlySortedBy}
use Rattle.std.specs.Map.{keys_of, values_of, lookup}
use Rattle.std.specs.BTreeMap.{is_at}
use Rattle.std.specs.Ordering.{nat_cmp, is_eq}
use Rattle.std.specs.Option.{unwrap_or}
use Rattle.std.proofs.lemmas.Bool.{and_parts, not-false, eqb-true}
use Rattle.std.proofs.lemmas.List.Elements.{recursion_from_All}
use Rattle.frang_base.proofs.Basics.{by_test}
use Rattle.frang_base.proofs.Tests.{at_only}
use Rattle.sector_bytes.specs.Bytes.{number_at, zeros, are_zero, AreBytes}
use Rattle.sector_bytes.specs.Sectors.{sectors_of, SameSectors}
use Rattle.image_file.specs.Images.{Blocks, image_entry, entry_in, image_with, image_text, image_in, sectors_written}
use Rattle.image_file.specs.Laws.{ReadsBack}
use Rattle.image_file.proofs.EntryBytes.{IsEntry, entry_reads, behind_entry}
use Rattle.image_file.proofs.Ascending.{Above, ascend_of, sorted_written, all_written, written_not_zero, written_all, above_written}
use Rattle.image_file.proofs.Headers.{headed, header_count, header_rest, header_read}
use Rattle.image_file.proofs.FirstSector.{AscendAll, sectors_read_back}
use Rattle.image_file.proofs.ImageLaws.{none_of_zeros, read_is_image}

-- ---- reading back

all_entries : (es : Blocks) → AllByRecursion (λ k. k < 2 ^ 64) (keys_of es) → AllByRecursion (λ b. length b ≡ 512) (values_of es) → AllByRecursion IsEntry es
all_entries [] n b = tt
all_entries (e ∷ es) n b = (record { number = n.0; block = b.0 }, all_entries es n.1 b.1)

ascend_all : (es : Blocks) → IsStrictlySortedBy nat_cmp (keys_of es) → AllByRecursion IsEntry es → AllByRecursion (λ e. are_zero e.1 ≡ false) es → AscendAll es
unfolding IsStrictlySortedBy
ascend_all [] s w z = tt
ascend_all (e ∷ es) s w z = (w.0, z.0, ascend_of e.0 es s.0 s.1 w.1 z.1)

few_written : (es : Blocks) → length (sectors_written es) ≤ length es
few_written [] = omega arith
few_written (e ∷ es) =
    let few = few_written es in
    by_test (λ (xs : Blocks). length xs ≤ suc (length es)) (e ∷ sectors_written es) (sectors_written es) (not (are_zero e.1)) (λ t. omega arith) (λ t. omega arith)

-- sectors as a disk has them
pub record AreSectors (es : Blocks) : Type 0 where
  pub ascending : IsStrictlySortedBy nat_cmp (keys_of es)
  pub numbers : All (λ sector. sector < 2 ^ 64) (keys_of es)
  pub blocks : All (λ block. length block ≡ 512) (values_of es)
  pub count : length es < 2 ^ 64

entries_of : (es : Blocks) → AreSectors es → AllByRecursion IsEntry es
entries_of es h = all_entries es (recursion_from_All _ (keys_of es) h.numbers) (recursion_from_All _ (values_of es) h.blocks)

pub written_reads_back : (es : Blocks) → AreSectors es → ReadsBack (sectors_written es) (image_in (image_text es))
written_reads_back es h =
    let few : length (sectors_written es) < 2 ^ 64 = omega (arith, few_written es, h.count) in
    rw (header_read (length (sectors_written es)) (flat_map image_entry (sectors_written es)) few)
    (sectors_read_back (sectors_written es) (ascend_all (sectors_written es) (sorted_written es h.ascending) (all_written IsEntry es (entries_of es h)) (written_not_zero es)))

-- what is read, written again, gives the same bytes
pub read_written_again : (bytes : List ℕ) (es : Blocks) → AreBytes bytes → image_in bytes ≡ Ok es → image_text es ≡ bytes
read_written_again bytes es f e =
    let i = read_is_image bytes es f e in
    ap image_with (written_all es (none_of_zeros i.param.segments es (recursion_from_All _ es i.each))) ∙ sym i.text

-- ---- zeros

all_zero : (bytes : List ℕ) → are_zero bytes ≡ true → bytes ≡ replicate (length bytes) 0
all_zero [] z = refl
all_zero (b ∷ bytes) z =
    let parts = and_parts (nat_eq b 0) (are_zero bytes) z in
    let first : b ≡ 0 = eqb-true b 0 parts.0 in
    let rest = all_zero bytes parts.1 in
    cc

zero_block : (block : List ℕ) → are_zero block ≡ true → length block ≡ 512 → block ≡ zeros 512
unfolding zeros
zero_block block z n = all_zero block z ∙ ap (λ (k : ℕ). replicate k 0) n

above_misses : (k : ℕ) (es : Blocks) → Above k es → lookup (is_at (nat_cmp k)) es ≡ None
above_misses k [] u = refl
above_misses k (e ∷ es) u =
    let apart : is_at (nat_cmp k) e.0 ≡ false = ap is_eq u.0 in
    ap (λ (t : Bool). cond t (Some e.1) (lookup (is_at (nat_cmp k)) es)) apart ∙ above_misses k es u.1

-- without a sector of zeros a look-up finds what it found, or zeros
without_zero : (k : ℕ) (e : ℕ × List ℕ) (es : Blocks) → Above e.0 es → e.1 ≡ zeros 512 → sectors_of (sectors_written es) k ≡ sectors_of es k → sectors_of (sectors_written es) k ≡ sectors_of (e ∷ es) k
without_zero k e es u z ih =
    by_test (λ (o : Option (List ℕ)). sectors_of (sectors_written es) k ≡ unwrap_or o (zeros 512)) (Some e.1) (lookup (is_at (nat_cmp k)) es) (is_at (nat_cmp k) e.0)
    (λ t.
    let same = at_only k e.0 t in
    let none : lookup (is_at (nat_cmp k)) (sectors_written es) ≡ None =
    above_misses k (sectors_written es) (subst (λ (n : ℕ). Above n (sectors_written es)) (sym same) (above_written e.0 es u)) in
    ap (λ (o : Option (List ℕ)). unwrap_or o (zeros 512)) none ∙ sym z)
    (λ t. ih)

with_first : (k : ℕ) (e : ℕ × List ℕ) (xs ys : Blocks) → sectors_of xs k ≡ sectors_of ys k → sectors_of (e ∷ xs) k ≡ sectors_of (e ∷ ys) k
with_first k e xs ys ih =
    by_test (λ (o : Option (List ℕ)). unwrap_or o (zeros 512) ≡ sectors_of (e ∷ ys) k) (Some e.1) (lookup (is_at (nat_cmp k)) xs) (is_at (nat_cmp k) e.0)
    (λ t. sym (ap (λ (b : Bool). unwrap_or (cond b (Some e.1) (lookup (is_at (nat_cmp k)) ys)) (zeros 512)) t))
    (λ t. ih ∙ sym (ap (λ (b : Bool). unwrap_or (cond b (Some e.1) (lookup (is_at (nat_cmp k)) ys)) (zeros 512)) t))

written_same : (k : ℕ) (es : Blocks) → IsStrictlySortedBy nat_cmp (keys_of es) → AllByRecursion (λ b. length b ≡ 512) (values_of es) → sectors_of (sectors_written es) k ≡ sectors_of es k
unfolding IsStrictlySortedBy
written_same k [] s b = refl
written_same k (e ∷ es) s b =
    by_test (λ (xs : Blocks). sectors_of xs k ≡ sectors_of (e ∷ es) k) (e ∷ sectors_written es) (sectors_written es) (not (are_zero e.1))
    (λ t. with_first k e (sectors_written es) es (written_same k es s.1 b.1))
    (λ t. without_zero k e es s.0 (zero_block e.1 (not-false (are_zero e.1) t) b.0) (written_same k es s.1 b.1))

-- the sectors that aren't zero are the disk
pub written_is_the_disk : (es : Blocks) → AreSectors es → SameSectors (sectors_of (sectors_written es)) (sectors_of es)
written_is_the_disk es h k = written_same k es h.ascending (recursion_from_All _ (values_of es) h.blocks)

-- ---- telling disks apart

same_first : (a b : ℕ × List ℕ) (xs ys : List ℕ) → IsEntry a → IsEntry b → image_entry a ++ xs ≡ image_entry b ++ ys → (a ≡ b) × (xs ≡ ys)
same_first (s, c) (t, d) xs ys g h e =
    (sym (entry_reads s c xs g) ∙ (ap entry_in e ∙ entry_reads t d ys h), sym (behind_entry s c xs g.block) ∙ (ap (drop 520) e ∙ behind_entry t d ys h.block))

same_entries : (xs ys : Blocks) → length xs ≡ length ys → AllByRecursion IsEntry xs → AllByRecursion IsEntry ys → flat_map image_entry xs ≡ flat_map image_entry ys → xs ≡ ys
same_entries [] [] n g h e = refl
same_entries [] (y ∷ ys) n g h e = absurd (omega arith)
same_entries (x ∷ xs) [] n g h e = absurd (omega arith)
same_entries (x ∷ xs) (y ∷ ys) n g h e =
    let f = same_first x y (flat_map image_entry xs) (flat_map image_entry ys) g.0 h.0 e in
    let first : x ≡ y = f.0 in
    let rest : xs ≡ ys = same_entries xs ys (omega arith) g.1 h.1 f.1 in
    cc

same_headers : (c d : ℕ) (xs ys : List ℕ) → c < 2 ^ 64 → d < 2 ^ 64 → headed c xs ≡ headed d ys → (c ≡ d) × (xs ≡ ys)
same_headers c d xs ys g h e =
    (sym (header_count c xs g) ∙ (ap (number_at 8 8) e ∙ header_count d ys h), sym (header_rest c xs) ∙ (ap (drop 16) e ∙ header_rest d ys))

pub same_written : (xs ys : Blocks) → AreSectors xs → AreSectors ys → image_text xs ≡ image_text ys → sectors_written xs ≡ sectors_written ys
same_written xs ys g h e =
    let a : length (sectors_written xs) < 2 ^ 64 = omega (arith, few_written xs, g.count) in
    let b : length (sectors_written ys) < 2 ^ 64 = omega (arith, few_written ys, h.count) in
    let parts = same_headers (length (sectors_written xs)) (length (sectors_written ys)) (flat_map image_entry (sectors_written xs)) (flat_map image_entry (sectors_written ys)) a b e in
    same_entries (sectors_written xs) (sectors_written ys) parts.0 (all_written IsEntry xs (entries_of xs g)) (all_written IsEntry ys (entries_of ys h)) parts.1

-- disks with one image are one
pub same_disk : (xs ys : Blocks) → AreSectors xs → AreSectors ys → image_text xs ≡ image_text ys → SameSectors (sectors_of xs) (sectors_of ys)
same_disk xs ys g h e k =
    sym (written_is_the_disk xs g k) ∙ (ap (λ (zs : Blocks). sectors_of zs k) (same_written xs ys g h e) ∙ written_is_the_disk ys h k)
