-- Patches laid over a block one after the other.
use Rattle.std.proofs.Common.{◌≡◌, ℕ, zero, suc, ◌+◌, ◌*◌, ◌<◌, ◌≤◌, List, [], ◌∷◌, ◌++◌, length, take, drop, get_or, append_assoc, true, refl, sym, ap, ◌∙◌, subst, add-one, arith}
use Rattle.std.proofs.Math.Seq.{drop-cons}
use Rattle.std.proofs.lemmas.List.{drop-drop}
use borrow.Rule.Slice.PartMut.{put_mid}
use Rattle.byteorder.specs.Endian.{little_bytes}
use Rattle.frang_base.specs.declared.change.Patch.{Patch}
use Rattle.frang_base.specs.declared.change.Change.{Change}
use Rattle.sector_bytes.specs.Blocks.{Block, spelling, patched}
use Rattle.sector_bytes.specs.Changes.{Fit, changed, is_change}
use Rattle.sector_bytes.proofs.ChangeLaws.{spelling_is, well_formed}

-- the patches from place i on fit
pub record FitFrom (patches : List Patch) (i : ℕ) : Type 0 where
  pub fit : Fit (drop i patches)

pub next_fits : (patches : List Patch) (i : ℕ) (d : Patch) → i < length patches → FitFrom patches i → (get_or patches i d).at + length (get_or patches i d).bytes ≤ 512
next_fits patches i d inside from = let fit = subst Fit (drop-cons patches i d inside) from.fit in fit.1

pub rest_fit : (patches : List Patch) (i : ℕ) (d : Patch) → i < length patches → FitFrom patches i → FitFrom patches (i + 1)
rest_fit patches i d inside from = let fit = subst Fit (drop-cons patches i d inside) from.fit in record { fit = subst (λ n. Fit (drop n patches)) (sym (add-one i)) fit.2 }

pub all_fit : (change : Change) → is_change change ≡ true → FitFrom change.patches 0
all_fit change e = record { fit = (well_formed change e).fit }

-- one patch more is laid
pub one_more : (block : Block) (patches : List Patch) (i : ℕ) (d : Patch) → i < length patches
    → patched (drop (i + 1) patches) (patched (get_or patches i d ∷ []) block) ≡ patched (drop i patches) block
one_more block patches i d inside =
    ap (λ n. patched (drop n patches) (patched (get_or patches i d ∷ []) block)) (add-one i) ∙ sym (ap (λ (ps : List Patch). patched ps block) (drop-cons patches i d inside))

-- the version is written last
pub versioned : (block laid : Block) (change : Change) → laid ≡ patched change.patches block → is_change change ≡ true → little_bytes 8 change.version ++ drop 8 laid ≡ changed block change
unfolding changed
versioned block laid change is e = ap (λ head. head ++ drop 8 laid) (sym (spelling_is change.version (well_formed change e).version)) ∙ ap (λ b. spelling 7 change.version ++ drop 8 b) is

-- bytes that stand in place of as many are written over them
pub put_in : (block bytes : Block) (at : ℕ) → put_mid at (length bytes) block bytes ≡ patched (record { at = at; bytes = bytes } ∷ []) block
put_in block bytes at = sym (append_assoc (take at block) bytes _) ∙ ap (λ rest. take at block ++ bytes ++ rest) (drop-drop (length bytes) at block)
