-- There are as many sectors that aren't zero as blocks that aren't.
use Rattle.std.proofs.Common.{◌≡◌, ℕ, suc, Bool, true, false, not, cond, List, [], ◌∷◌, ◌++◌, length, refl, sym, ap, ◌∙◌, append_assoc}
use Rattle.std.specs.List.{flat_map}
use Rattle.std.specs.Map.{values_of}
use Rattle.sector_bytes.specs.Bytes.{are_zero}
use Rattle.image_file.specs.Images.{Blocks, image_entry, sectors_written}
use Rattle.image_file.specs.Entries.{written_blocks}

both : (b : Bool) (block : List ℕ) (e : ℕ × List ℕ) (xs : List (List ℕ)) (ys : Blocks) → length xs ≡ length ys → length (cond b (block ∷ xs) xs) ≡ length (cond b (e ∷ ys) ys)
both true block e xs ys h = ap suc h
both false block e xs ys h = h

pub count_of_blocks : (es : Blocks) → length (written_blocks (values_of es)) ≡ length (sectors_written es)
count_of_blocks [] = refl
count_of_blocks (e ∷ es) = both (not (are_zero e.1)) e.1 e (written_blocks (values_of es)) (sectors_written es) (count_of_blocks es)

pub fewer_blocks : (left rest : List (List ℕ)) (block : List ℕ) → left ≡ block ∷ rest → are_zero block ≡ false → length (written_blocks left) ≡ suc (length (written_blocks rest))
fewer_blocks left rest block l z =
    ap (λ (xs : List (List ℕ)). length (written_blocks xs)) l
    ∙ ap (λ (b : Bool). length (cond (not b) (block ∷ written_blocks rest) (written_blocks rest))) z

pub same_blocks : (left rest : List (List ℕ)) (block : List ℕ) → left ≡ block ∷ rest → are_zero block ≡ true → length (written_blocks left) ≡ length (written_blocks rest)
same_blocks left rest block l z =
    ap (λ (xs : List (List ℕ)). length (written_blocks xs)) l
    ∙ ap (λ (b : Bool). length (cond (not b) (block ∷ written_blocks rest) (written_blocks rest))) z

-- ---- one sector more is written

pub written_first : (left rest : Blocks) (s : ℕ) (block : List ℕ) → left ≡ (s, block) ∷ rest → are_zero block ≡ false → sectors_written left ≡ (s, block) ∷ sectors_written rest
written_first left rest s block l z =
    ap sectors_written l ∙ ap (λ (b : Bool). cond (not b) ((s, block) ∷ sectors_written rest) (sectors_written rest)) z

pub written_turn : (to new all : List ℕ) (left rest : Blocks) (s : ℕ) (block : List ℕ) → left ≡ (s, block) ∷ rest → are_zero block ≡ false → new ≡ to ++ image_entry (s, block)
    → to ++ flat_map image_entry (sectors_written left) ≡ all → new ++ flat_map image_entry (sectors_written rest) ≡ all
written_turn to new all left rest s block l z n a =
    ap (λ (xs : List ℕ). xs ++ flat_map image_entry (sectors_written rest)) n
    ∙ (append_assoc to (image_entry (s, block)) (flat_map image_entry (sectors_written rest))
    ∙ (ap (λ (es : Blocks). to ++ flat_map image_entry es) (sym (written_first left rest s block l z)) ∙ a))

pub fewer_left : (left rest : Blocks) (s : ℕ) (block : List ℕ) → left ≡ (s, block) ∷ rest → are_zero block ≡ false → length (sectors_written left) ≡ suc (length (sectors_written rest))
fewer_left left rest s block l z = ap length (written_first left rest s block l z)
