-- The sectors with the changes of edits, as histories make them: where no bytes are written they are the disk after the edits, and each keeps its length.
use Rattle.std.proofs.Common.{ℕ, ◌≡◌, ◌+◌, ◌≤◌, ◌&&◌, Bool, true, false, nat_eq, nat_le, if◌then◌else◌, Option, Some, None, List, [], ◌∷◌, length, refl, sym, ◌∙◌, ap, arith, leb-true}
use Rattle.std.specs.List.{cons_option}
use Rattle.std.proofs.lemmas.Bool.{and_parts, ne_eqb, eq-eqb}
use Rattle.frang_base.specs.declared.change.Change.{Change}
use Rattle.frang_base.specs.declared.change.Patch.{Patch}
use Rattle.frang_base.specs.Functions.{member}
use Rattle.sector_bytes.specs.Changes.{Fit}
use Rattle.sector_bytes.specs.Patches.{patches_with, are_apart}
use Rattle.sector_bytes.specs.Replays.{change_at, forced}
use Rattle.sector_bytes.specs.Sectors.{Sectors}
use Rattle.sector_bytes.proofs.ChangeLaws.{length-fit}
use Rattle.sector_bytes.proofs.PatchLaws.{forced_patches_apart}
use Rattle.disk_definitions.specs.Standing.{version_at}
use Rattle.disk_definitions.specs.Edits.{Edit}
use Rattle.disk_definitions.specs.Ready.{disk_after}
use Rattle.disk_definitions.specs.Written.{edit_sector, all_edited, is_metadata, change_by, forced_in, change_of, changes_of}
use Rattle.plan_fit.proofs.LaidOver.{Misses, made, all_else}
use Rattle.plan_fit.proofs.RecordLaws.{metadata_laid, bytes_laid}
use Rattle.line_histories.proofs.Changes.{numbers_of, change_is}

-- the sectors with these changes
abbrev pub with_changes : Sectors → List Edit → Sectors
with_changes disk edits s = forced (change_at (changes_of disk edits) s) (disk s)

-- ---- whether an edit of a sector with a version is of this one

unnamed : (edits : List Edit) (s : ℕ) → member s (numbers_of edits) ≡ false → Misses true s edits
unnamed [] s none = tt
unnamed (e ∷ edits) s none = go (is_metadata e) refl none (unnamed edits s)
  where
    go : (b : Bool) → is_metadata e ≡ b → member s (cons_option (if b then Some (edit_sector e) else None) (numbers_of edits)) ≡ false → (member s (numbers_of edits) ≡ false → Misses true s edits) → Misses true s (e ∷ edits)
    go false i h rest = (λ j. absurd cc, rest h)
    go true i h rest = at (nat_eq (edit_sector e) s) refl h
      where
        at : (c : Bool) → nat_eq (edit_sector e) s ≡ c → (if c then true else member s (numbers_of edits)) ≡ false → Misses true s (e ∷ edits)
        at true q h = absurd cc
        at false q h = ((λ j here. let same : nat_eq (edit_sector e) s ≡ true = eq-eqb (edit_sector e) s (sym here) in cc), rest h)

missed : (edits : List Edit) (s : ℕ) → Misses true s edits → member s (numbers_of edits) ≡ false
missed [] s m = refl
missed (e ∷ edits) s m = go (is_metadata e) refl (missed edits s m.1)
  where
    go : (b : Bool) → is_metadata e ≡ b → member s (numbers_of edits) ≡ false → member s (cons_option (if b then Some (edit_sector e) else None) (numbers_of edits)) ≡ false
    go false i rest = rest
    go true i rest = ap (λ (t : Bool). if t then true else member s (numbers_of edits)) (ne_eqb (edit_sector e) s (λ q. m.0 i (sym q))) ∙ rest

-- ---- the sector

forced_is : (o : Option Change) (block : List ℕ) → forced o block ≡ made block o
forced_is None block = refl
forced_is (Some c) block = refl

-- with its change, where one is named, or as it was
module _ (disk : Sectors) (edits : List Edit) (s : ℕ) where
  abbrev own : List ℕ
  own = made (disk s) (change_of edits disk (all_edited disk edits) s)

  chosen : (b : Bool) → member s (numbers_of edits) ≡ b → with_changes disk edits s ≡ (if b then own else disk s)
  chosen b e = ap (λ o. forced o (disk s)) (change_is disk edits s ∙ ap (λ (t : Bool). if t then change_of edits disk (all_edited disk edits) s else None) e) ∙ go b
    where
      go : (b : Bool) → forced (if b then change_of edits disk (all_edited disk edits) s else None) (disk s) ≡ (if b then own else disk s)
      go true = forced_is (change_of edits disk (all_edited disk edits) s) (disk s)
      go false = refl

  -- where no bytes are written it is the disk's after the edits
  pub changed_same : length (disk s) ≡ 512 → Misses false s edits → with_changes disk edits s ≡ disk_after disk edits s
  changed_same long n = go (member s (numbers_of edits)) refl
    where
      go : (b : Bool) → member s (numbers_of edits) ≡ b → with_changes disk edits s ≡ disk_after disk edits s
      go true e = chosen true e ∙ sym (metadata_laid disk edits s long n)
      go false e = let m = unnamed edits s e in chosen false e ∙ sym (bytes_laid disk edits s m ∙ all_else disk edits s m n)

  -- where nothing but bytes is written it stays
  pub unchanged : Misses true s edits → with_changes disk edits s ≡ disk s
  unchanged m = chosen false (missed edits s m)

-- ---- its length

apart_fit : (ps : List Patch) (from : ℕ) → 8 ≤ from → are_apart from 512 ps ≡ true → Fit ps
apart_fit [] from l h = tt
apart_fit (p ∷ ps) from l h =
    let end : ℕ = p.at + length p.bytes in
    let a = and_parts (nat_le from p.at && nat_le 1 (length p.bytes) && nat_le end 512) (are_apart (end + 1) 512 ps) h in
    let b = and_parts (nat_le from p.at && nat_le 1 (length p.bytes)) (nat_le end 512) a.0 in
    let c = and_parts (nat_le from p.at) (nat_le 1 (length p.bytes)) b.0 in
    let after : from ≤ p.at = leb-true from p.at c.0 in
    (omega arith, leb-true end 512 b.1, apart_fit ps (end + 1) (omega arith) a.1)

made_long : (forced : ℕ → Bool) (old new : List ℕ) (s v : ℕ) → length old ≡ 512 → length (made old (change_by s v (patches_with forced old new))) ≡ 512
made_long forced old new s v long = go (patches_with forced old new) (forced_patches_apart forced old new long)
  where
    go : (ps : List Patch) → are_apart 8 512 ps ≡ true → length (made old (change_by s v ps)) ≡ 512
    go [] h = long
    go (p ∷ ps) h = length-fit old (record { sector = record { 0 = s }; version = v; patches = p ∷ ps }) long (apart_fit (p ∷ ps) 8 (omega arith) h)

pub changed_long : (disk : Sectors) (edits : List Edit) (s : ℕ) → length (disk s) ≡ 512 → length (with_changes disk edits s) ≡ 512
changed_long disk edits s long = go (member s (numbers_of edits)) refl
  where
    go : (b : Bool) → member s (numbers_of edits) ≡ b → length (with_changes disk edits s) ≡ 512
    go true e = ap length (chosen disk edits s true e) ∙ made_long (forced_in edits s) (disk s) (all_edited disk edits s) s (version_at disk s + 1) long
    go false e = ap length (chosen disk edits s false e) ∙ long
