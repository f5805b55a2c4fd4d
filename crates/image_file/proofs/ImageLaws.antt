-- Bytes are read as sectors exactly where they are their image; the image of a disk reads back, unless the disk has a flaw; it tells its disk from any other.
use Rattle.std.proofs.Common.{◌≡◌, ℕ, suc, ◌^◌, ◌<◌, ◌≤◌, true, false, Some, Ok, List, [], ◌∷◌, ◌++◌, length, drop, refl, sym, ap, ◌∙◌, subst, arith}
use Rattle.std.specs.List.{flat_map, AllByRecursion}
use Rattle.std.specs.List.Sorted.{IsStrictlySortedBy}
use Rattle.std.specs.Map.{keys_of}
use Rattle.std.specs.Ordering.{nat_cmp}
use Rattle.std.proofs.lemmas.List.Elements.{All-from_recursion, recursion_from_All}
use Rattle.std.proofs.lemmas.Map.Entries.{length-keys_of}
use Rattle.std.proofs.lemmas.Map.Views.{length-le_from_below}
use Rattle.disk_definitions.specs.declared.param.Param.{Param}
use Rattle.disk_definitions.specs.declared.region.Region.{Region}
use Rattle.disk_definitions.specs.declared.region.Region.TheVariants as region
use Rattle.sector_bytes.specs.Bytes.{number_at, are_zero, AreBytes}
use Rattle.disk_definitions.specs.Params.{param_in}
use Rattle.disk_definitions.proofs.NumberBytes.{drop_are}
use Rattle.image_file.specs.Images.{Blocks, image_entry, image_with, image_in, IsImaged, IsImage, block_fits, may_run_again}
use Rattle.image_file.proofs.EntryBytes.{IsEntry}
use Rattle.image_file.proofs.EntriesRead.{Ascend}
use Rattle.image_file.proofs.Ascending.{ascend_of, above_of, sorted_of, blocks_of}
use Rattle.image_file.proofs.Headers.{headed, header_read, header_back}
use Rattle.image_file.proofs.Bounds.{region_ends, has_segments}
use Rattle.image_file.proofs.FirstSector.{first_of, sectors_found, sectors_read}

-- ---- what is read is an image

-- the parameter sector is one that an image may have
param_imaged : (segments : ℕ) (block : List ℕ) → are_zero block ≡ false → may_run_again (param_in block) ≡ true → IsImaged segments (0, block)
param_imaged segments block z f = record { region = region.Param; place = refl; written = z; grammar = f }

image_by : (bytes : List ℕ) (es : Blocks) (block : List ℕ) (others : Blocks) (param : Param) → es ≡ (0, block) ∷ others → bytes ≡ image_with ((0, block) ∷ others) → param_in block ≡ Some param
    → may_run_again (param_in block) ≡ true → are_zero block ≡ false → length block ≡ 512 → Ascend 0 others → AllByRecursion (IsImaged param.segments) others → IsImage bytes es
unfolding IsStrictlySortedBy
image_by bytes es block others param all text is fits written long ascend each =
    subst (IsImage bytes) (sym all) (record {
      text = text;
      param = param;
      parameters = is;
      ascending = (above_of 0 others ascend, sorted_of 0 others ascend);
      blocks = All-from_recursion _ ((0, block) ∷ others) (long, blocks_of 0 others ascend);
      each = All-from_recursion _ ((0, block) ∷ others) (param_imaged param.segments block written fits, each);
    })

text_by : (bytes : List ℕ) (count : ℕ) (block : List ℕ) (others : Blocks) → bytes ≡ headed count (drop 16 bytes) → drop 16 bytes ≡ image_entry (0, block) ++ flat_map image_entry others → suc (length others) ≡ count
    → bytes ≡ image_with ((0, block) ∷ others)
text_by bytes count block others h t n =
    h ∙ (ap (headed count) t ∙ ap (λ (c : ℕ). headed c (image_entry (0, block) ++ flat_map image_entry others)) (sym n))

pub read_is_image : (bytes : List ℕ) (es : Blocks) → AreBytes bytes → image_in bytes ≡ Ok es → IsImage bytes es
read_is_image bytes es f e =
    let h = header_back bytes es f e in
    let s = sectors_read (number_at 8 8 bytes) (drop 16 bytes) es (drop_are 16 bytes f) h.sectors in
    image_by bytes es s.block s.others s.param s.all (text_by bytes (number_at 8 8 bytes) s.block s.others h.text s.text s.long) s.is s.fits s.written s.entry.block s.ascend s.each

-- ---- an image is read

-- what may stand at sector 0
at_zero : (segments : ℕ) (block : List ℕ) → IsImaged segments (0, block) → may_run_again (param_in block) ≡ true
at_zero segments block i =
    let same : i.region ≡ region.Param = cc (i.place) in
    ap (λ (r : Region). block_fits r block) (sym same) ∙ i.grammar

numbers_end : (segments : ℕ) (es : Blocks) → segments ≤ 64 → AllByRecursion (IsImaged segments) es → AllByRecursion (λ k. k < 2 ^ 40) (keys_of es)
numbers_end segments [] few i = tt
numbers_end segments (e ∷ es) few i = (region_ends segments e.0 i.0.region few i.0.place, numbers_end segments es few i.1)

entries_of : (es : Blocks) → AllByRecursion (λ k. k < 2 ^ 40) (keys_of es) → AllByRecursion (λ e. length e.1 ≡ 512) es → AllByRecursion IsEntry es
entries_of [] n b = tt
entries_of (e ∷ es) n b = (record { number = let h = n.0 in omega arith; block = b.0 }, entries_of es n.1 b.1)

pub none_of_zeros : (segments : ℕ) (es : Blocks) → AllByRecursion (IsImaged segments) es → AllByRecursion (λ e. are_zero e.1 ≡ false) es
none_of_zeros segments [] i = tt
none_of_zeros segments (e ∷ es) i = (i.0.written, none_of_zeros segments es i.1)

few_sectors : (es : Blocks) → IsStrictlySortedBy nat_cmp (keys_of es) → AllByRecursion (λ k. k < 2 ^ 40) (keys_of es) → length es < 2 ^ 64
few_sectors es s n =
    let few : length (keys_of es) ≤ 2 ^ 40 = length-le_from_below (2 ^ 40) (keys_of es) s (All-from_recursion (λ k. k < 2 ^ 40) (keys_of es) n) in
    omega (arith, length-keys_of es)

found_by : (es : Blocks) (block : List ℕ) (others : Blocks) (p : Param) → es ≡ (0, block) ∷ others → param_in block ≡ Some p → IsStrictlySortedBy nat_cmp (keys_of ((0, block) ∷ others))
    → AllByRecursion (λ e. length e.1 ≡ 512) ((0, block) ∷ others) → AllByRecursion (IsImaged p.segments) ((0, block) ∷ others) → image_in (image_with es) ≡ Ok es
unfolding IsStrictlySortedBy
found_by es block others p all is s b i =
    let few = (has_segments block p is).1 in
    let ends = numbers_end p.segments ((0, block) ∷ others) few i in
    let entries = entries_of ((0, block) ∷ others) ends b in
    let ascend = ascend_of 0 others s.0 s.1 entries.1 (none_of_zeros p.segments others i.1) in
    let found : image_in (image_with ((0, block) ∷ others)) ≡ Ok ((0, block) ∷ others) =
    header_read (suc (length others)) (image_entry (0, block) ++ flat_map image_entry others) (few_sectors ((0, block) ∷ others) s ends)
    ∙ sectors_found block others p is (at_zero p.segments block i.0) i.0.written entries.0 ascend i.1 in
    subst (λ (xs : Blocks). image_in (image_with xs) ≡ Ok xs) (sym all) found

pub image_is_read : (bytes : List ℕ) (es : Blocks) → IsImage bytes es → image_in bytes ≡ Ok es
image_is_read bytes es i =
    let first = first_of es i.param i.ascending i.parameters in
    ap image_in i.text ∙ found_by es first.block first.others i.param first.all first.param
    (subst (λ (xs : Blocks). IsStrictlySortedBy nat_cmp (keys_of xs)) first.all i.ascending)
    (subst (AllByRecursion (λ (e : ℕ × List ℕ). length e.1 ≡ 512)) first.all (recursion_from_All _ es i.blocks))
    (subst (AllByRecursion (IsImaged i.param.segments)) first.all (recursion_from_All _ es i.each))
