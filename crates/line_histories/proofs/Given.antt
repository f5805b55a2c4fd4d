-- What edits make of sectors of bytes: what they give back is free, and where they write no bytes nothing is made.
use Rattle.std.proofs.Common.{ℕ, ◌≡◌, ◌<◌, Bool, true, false, nat_eq, if◌then◌else◌, Some, None, List, [], ◌∷◌, map, refl, sym, ◌∙◌, ap, subst}
use Rattle.std.specs.List.{flat_map, cons_option, Contains}
use Rattle.std.specs.BTreeMap.{is_at}
use Rattle.std.specs.Option.{option_map}
use Rattle.std.specs.Ordering.{nat_cmp}
use Rattle.std.proofs.lemmas.Bool.{eqb-true}
use Rattle.frang_base.specs.Functions.{member}
use Rattle.sector_bytes.specs.SectorMaps.{value_at}
use Rattle.sector_bytes.proofs.MapLaws.{found}
use Rattle.sector_world.specs.Histories.Fill.{Written, Freed}
use Rattle.disk_definitions.specs.declared.region.Region.TheVariants as region
use Rattle.disk_definitions.specs.Regions.{sector_of}
use Rattle.tree_definitions.specs.Numbers.{below}
use Rattle.disk_definitions.specs.Store.Use.{Fresh}
use Rattle.disk_definitions.specs.Edits.{Edit}
use Rattle.disk_definitions.specs.Edits.Edit.{SetInode, SetBit, SetUse, SetPlace, SetLarge, SetBytes, SetLargeBytes}
use Rattle.disk_definitions.specs.Written.{edit_sector, edited_block, is_metadata, byte_writes, sectors_given_back, freed_sectors}
use Rattle.plan_laws.proofs.Covering.{map_has, below_has, flat_has}
use Rattle.disk_definitions.specs.Moves.{first_said, use_said, large_said}
use Rattle.plan_laws.proofs.Owned.{sayer}
use Rattle.plan_fit.proofs.LaidOver.{Misses}
use Rattle.line_histories.specs.LinePlans.{fill_by}
use Rattle.line_histories.proofs.Changes.{ascending_member}
use Rattle.line_histories.proofs.Lists.{has_member}

-- ---- what edits give back

given_back : (edits : List Edit) (e : Edit) (s : ℕ) → Contains edits e → Contains (sectors_given_back e) s → member s (freed_sectors edits) ≡ true
given_back edits e s among has = ascending_member s (flat_map sectors_given_back edits) ∙ has_member s (flat_map sectors_given_back edits) (flat_has sectors_given_back edits e s among has)

-- a small block of which the first use that is said is none
small_back : (k part : ℕ) (e : Edit) → use_said k e ≡ Some Fresh → part < 8 → Contains (sectors_given_back e) (sector_of (region.Small k part))
small_back k part (SetInode i x dated) h l = absurd (cc)
small_back k part (SetBit i b) h l = absurd (cc)
small_back k part (SetUse j u) h l = go (nat_eq k j) refl h
  where
    go : (b : Bool) → nat_eq k j ≡ b → (if b then Some u else None) ≡ Some Fresh → Contains (sectors_given_back (SetUse j u)) (sector_of (region.Small k part))
    go true q i =
        let same : k ≡ j = eqb-true k j q in
        let fresh : Fresh ≡ u = cc in
        subst (λ v. Contains (sectors_given_back (SetUse j v)) (sector_of (region.Small k part))) fresh
        (subst (λ m. Contains (map (λ p. sector_of (region.Small m p)) (below 8)) (sector_of (region.Small k part))) same (map_has (λ p. sector_of (region.Small k p)) (below 8) part (below_has 8 part l)))
    go false q i = absurd (cc)
small_back k part (SetPlace j p e) h l = absurd (cc)
small_back k part (SetLarge g b) h l = absurd (cc)
small_back k part (SetBytes j p bytes) h l = absurd (cc)
small_back k part (SetLargeBytes g p bytes) h l = absurd (cc)

large_back : (g part : ℕ) (e : Edit) → large_said g e ≡ Some false → part < 2048 → Contains (sectors_given_back e) (sector_of (region.Large g part))
large_back g part (SetInode i x dated) h l = absurd (cc)
large_back g part (SetBit i b) h l = absurd (cc)
large_back g part (SetUse j u) h l = absurd (cc)
large_back g part (SetPlace j p e) h l = absurd (cc)
large_back g part (SetLarge j b) h l = go (nat_eq g j) refl h
  where
    go : (c : Bool) → nat_eq g j ≡ c → (if c then Some b else None) ≡ Some false → Contains (sectors_given_back (SetLarge j b)) (sector_of (region.Large g part))
    go true q i =
        let same : g ≡ j = eqb-true g j q in
        let free : false ≡ b = cc in
        subst (λ v. Contains (sectors_given_back (SetLarge j v)) (sector_of (region.Large g part))) free
        (subst (λ m. Contains (map (λ p. sector_of (region.Large m p)) (below 2048)) (sector_of (region.Large g part))) same (map_has (λ p. sector_of (region.Large g p)) (below 2048) part (below_has 2048 part l)))
    go false q i = absurd (cc)
large_back g part (SetBytes j p bytes) h l = absurd (cc)
large_back g part (SetLargeBytes j p bytes) h l = absurd (cc)

pub small_given : (edits : List Edit) (k part : ℕ) → first_said (use_said k) edits ≡ Some Fresh → part < 8 → member (sector_of (region.Small k part)) (freed_sectors edits) ≡ true
small_given edits k part h l = let r = sayer (use_said k) edits Fresh h in given_back edits r.0 (sector_of (region.Small k part)) r.1 (small_back k part r.0 r.2 l)

pub large_given : (edits : List Edit) (g part : ℕ) → first_said (large_said g) edits ≡ Some false → part < 2048 → member (sector_of (region.Large g part)) (freed_sectors edits) ≡ true
large_given edits g part h l = let r = sayer (large_said g) edits false h in given_back edits r.0 (sector_of (region.Large g part)) r.1 (large_back g part r.0 r.2 l)

-- ---- what is made

pub fills_back : (edits : List Edit) (s : ℕ) → member s (freed_sectors edits) ≡ true → fill_by edits s ≡ Some Freed
fills_back edits s h = ap (λ (b : Bool). if b then Some Freed else option_map (λ bytes. Written bytes) (value_at (byte_writes edits) s)) h

-- no bytes are written there
no_value : (edits : List Edit) (s : ℕ) → Misses false s edits → value_at (byte_writes edits) s ≡ None
no_value [] s m = refl
no_value (e ∷ edits) s m = go (is_metadata e) refl (no_value edits s m.1)
  where
    go : (b : Bool) → is_metadata e ≡ b → value_at (byte_writes edits) s ≡ None → value_at (cons_option (if b then None else Some (edit_sector e, edited_block [] 0 e)) (byte_writes edits)) s ≡ None
    go true i rest = rest
    go false i rest = at (is_at (nat_cmp s) (edit_sector e)) refl
      where
        at : (c : Bool) → is_at (nat_cmp s) (edit_sector e) ≡ c → (if is_at (nat_cmp s) (edit_sector e) then Some (edited_block [] 0 e) else value_at (byte_writes edits) s) ≡ None
        at true q = absurd (m.0 i (sym (found s (edit_sector e) q)))
        at false q = ap (λ (t : Bool). if t then Some (edited_block [] 0 e) else value_at (byte_writes edits) s) q ∙ rest

-- then nothing is made
pub fills_none : (edits : List Edit) (s : ℕ) → member s (freed_sectors edits) ≡ false → Misses false s edits → fill_by edits s ≡ None
fills_none edits s h m =
    ap (λ (b : Bool). if b then Some Freed else option_map (λ bytes. Written bytes) (value_at (byte_writes edits) s)) h ∙ ap (option_map (λ bytes. Written bytes)) (no_value edits s m)
