-- The changes of edits are well formed, and their sectors ascend.
use Rattle.std.proofs.Common.{◌≡◌, ℕ, ◌+◌, ◌*◌, ◌/◌, ◌^◌, ◌<◌, ◌≤◌, Bool, true, ◌&&◌, nat_le, nat_lt, Some, List, [], ◌∷◌, length, refl, sym, ap, ◌∙◌, subst, arith, leb-true}
use Rattle.std.specs.List.{filter_map, list_all}
use Rattle.std.specs.List.Sorted.{IsStrictlySortedBy}
use Rattle.std.specs.Map.{keys_of}
use Rattle.std.specs.Ordering.{nat_cmp, match_ordering}
use Rattle.std.specs.declared.cmp.Ordering.{Ordering}
use Rattle.std.specs.declared.cmp.Ordering.TheVariants.{Less, Equal, Greater}
use Rattle.std.proofs.lemmas.Bool.{and_parts, and_from, lt-ltb, le-leb}
use Rattle.std.proofs.lemmas.Bool.Decides.{nat_tests}
use Rattle.frang_base.proofs.Basics.{by_some}
use Rattle.frang_base.specs.declared.change.Patch.{Patch}
use Rattle.frang_base.specs.declared.change.Change.{Change}
use Rattle.sector_bytes.specs.Changes.{are_patches, is_change}
use Rattle.sector_bytes.specs.SectorMaps.{with_value, Ascend}
use Rattle.sector_bytes.proofs.MapLaws.{AllAbove}
use Rattle.disk_definitions.specs.Records.{record_bytes, sectors_ascend}
use Rattle.disk_definitions.specs.declared.region.Region.TheVariants as region
use Rattle.disk_definitions.specs.Regions.{sector_of}
use Rattle.sector_bytes.specs.Patches.{patches_with, are_apart}
use Rattle.sector_bytes.proofs.PatchLaws.{forced_patches_apart}
use Rattle.sector_bytes.specs.Sectors.{Sectors}
use Rattle.disk_definitions.specs.Standing.{version_at}
use Rattle.disk_definitions.specs.Edits.{Edit}
use Rattle.disk_definitions.specs.Edits.Edit.{SetInode, SetBit, SetUse, SetPlace, SetLarge, SetBytes, SetLargeBytes}
use Rattle.disk_definitions.specs.Written.{edit_sector, all_edited, is_metadata, metadata_sector, with_number, change_by, forced_in, change_of, changes_of}
use Rattle.disk_definitions.specs.FitEdits.{IsFitEdit, MeetsUse, AreFit}
use Rattle.disk_definitions.specs.Ready.{store_after, IsReady}
use Rattle.plan_fit.specs.Laws.{RecordsFit}
use Rattle.plan_fit.proofs.EditLaws.{fit_inode, fit_place}
use Rattle.plan_fit.proofs.LaidOver.{by_bool, filter_none, filter_some, named, named_true, named_false, named_ascend, changes, change_sector}

-- ---- patches

-- patches that are apart don't overlap
apart_patches : (ps : List Patch) (from start : ℕ) → start ≤ from → are_apart from 512 ps ≡ true → are_patches start ps ≡ true
apart_patches [] from start l h = refl
apart_patches (p ∷ ps) from start l h =
    let end : ℕ = p.at + length p.bytes in
    let a = and_parts (nat_le from p.at && nat_le 1 (length p.bytes) && nat_le end 512) (are_apart (end + 1) 512 ps) h in
    let b = and_parts (nat_le from p.at && nat_le 1 (length p.bytes)) (nat_le end 512) a.0 in
    let c = and_parts (nat_le from p.at) (nat_le 1 (length p.bytes)) b.0 in
    let after : from ≤ p.at = leb-true from p.at c.0 in
    let some : 1 ≤ length p.bytes = leb-true 1 (length p.bytes) c.1 in
    and_from (nat_le start p.at && nat_lt 0 (length p.bytes) && nat_le end 512) (are_patches end ps)
    (and_from (nat_le start p.at && nat_lt 0 (length p.bytes)) (nat_le end 512) (and_from (nat_le start p.at) (nat_lt 0 (length p.bytes)) (le-leb start p.at (omega arith)) (lt-ltb 0 (length p.bytes) (omega arith))) b.1)
    (apart_patches ps (end + 1) end (omega arith) a.1)

change_is : (forced : ℕ → Bool) (old new : List ℕ) (k v : ℕ) (c : Change) → length old ≡ 512 → k < 2 ^ 55 → v < 2 ^ 64 → change_by k v (patches_with forced old new) ≡ Some c → is_change c ≡ true
change_is forced old new k v c long small fits e = go (patches_with forced old new) (forced_patches_apart forced old new long) e
  where
    go : (ps : List Patch) → are_apart 8 512 ps ≡ true → change_by k v ps ≡ Some c → is_change c ≡ true
    go [] h f = absurd cc
    go (p ∷ ps) h f =
        let same : record { sector = record { 0 = k }; version = v; patches = p ∷ ps } ≡ c = cc in
        subst (λ (x : Change). is_change x ≡ true) same
        (and_from (nat_lt k (2 ^ 55) && nat_lt v (2 ^ 64) && nat_lt 0 (length (p ∷ ps))) (are_patches 8 (p ∷ ps))
        (and_from (nat_lt k (2 ^ 55) && nat_lt v (2 ^ 64)) (nat_lt 0 (length (p ∷ ps))) (and_from (nat_lt k (2 ^ 55)) (nat_lt v (2 ^ 64)) (lt-ltb k (2 ^ 55) small) (lt-ltb v (2 ^ 64) fits)) (lt-ltb 0 (length (p ∷ ps)) (omega arith)))
        (apart_patches (p ∷ ps) 8 8 (omega arith) h))

-- ---- the sectors that are named

abbrev Keys : (ℕ → Type 0) → List (ℕ × ℕ) → Type 0
Keys P [] = Unit {0}
Keys P (e ∷ es) = P e.0 × Keys P es

keys_put : (P : ℕ → Type 0) (es : List (ℕ × ℕ)) (k v : ℕ) → P k → Keys P es → Keys P (with_value es k v)
keys_put P [] k v h all = (h, tt)
keys_put P (e ∷ es) k v h all = go (nat_cmp k e.0) (keys_put P es k v h all.1)
  where
    go : (o : Ordering) → Keys P (with_value es k v) → Keys P (match_ordering o ((k, v) ∷ e ∷ es) ((e.0, v) ∷ es) (e ∷ with_value es k v))
    go Less rest = (h, all)
    go Equal rest = all
    go Greater rest = (all.0, rest)

above_is : (k j : ℕ) → nat_cmp k j ≡ Less → k + 1 ≤ j
above_is k j e = grind (arith, nat_tests)

above_keys : (k : ℕ) (es : List (ℕ × ℕ)) → AllAbove k es → Keys (λ j. k + 1 ≤ j) es
above_keys k [] all = tt
above_keys k (e ∷ es) all = (above_is k e.0 all.0, above_keys k es all.1)

-- each of the edits that is of metadata names such a sector
abbrev Names : (ℕ → Type 0) → List Edit → Type 0
Names P [] = Unit {0}
Names P (e ∷ es) = (is_metadata e ≡ true → P (edit_sector e)) × Names P es

named_keys : (P : ℕ → Type 0) (sorted : List (ℕ × ℕ)) (es : List Edit) → Keys P sorted → Names P es → Keys P (named sorted es)
named_keys P sorted [] h n = h
named_keys P sorted (e ∷ es) h n = by_bool (is_metadata e)
    (λ i. subst (Keys P) (sym (named_true sorted e es i)) (named_keys P (with_number sorted (edit_sector e)) es (keys_put P sorted (edit_sector e) 0 (n.0 i) h) n.1))
    (λ i. subst (Keys P) (sym (named_false sorted e es i)) (named_keys P sorted es h n.1))

-- ---- the changes

-- a sector with room for its number and its next version
record IsChangeable (sectors : Sectors) (k : ℕ) : Type 0 where
  small : k < 2 ^ 55
  fits : version_at sectors k + 1 < 2 ^ 64

are_changes : (edits : List Edit) (old new : Sectors) (sorted : List (ℕ × ℕ)) → ((k : ℕ) → length (old k) ≡ 512) → Keys (IsChangeable old) sorted → list_all is_change (changes edits old new sorted) ≡ true
are_changes edits old new [] long h = refl
are_changes edits old new (k ∷ sorted) long h =
    let rest = are_changes edits old new sorted long h.1 in
    by_some (λ o. change_of edits old new k.0 ≡ o → list_all is_change (changes edits old new (k ∷ sorted)) ≡ true) (change_of edits old new k.0)
    (λ e f. ap (list_all is_change) (filter_none (change_of edits old new) k.0 (keys_of sorted) f) ∙ rest)
    (λ c e f. ap (list_all is_change) (filter_some (change_of edits old new) k.0 (keys_of sorted) c f)
    ∙ and_from (is_change c) (list_all is_change (changes edits old new sorted)) (change_is (forced_in edits k.0) (old k.0) (new k.0) k.0 (version_at old k.0 + 1) c (long k.0) h.0.small h.0.fits f) rest) refl

ascend_changes : (edits : List Edit) (old new : Sectors) (sorted : List (ℕ × ℕ)) (from : ℕ) → Ascend sorted → Keys (λ k. from ≤ k) sorted → sectors_ascend from (changes edits old new sorted) ≡ true
unfolding IsStrictlySortedBy
ascend_changes edits old new [] from asc h = refl
ascend_changes edits old new (k ∷ sorted) from asc h =
    by_some (λ o. change_of edits old new k.0 ≡ o → sectors_ascend from (changes edits old new (k ∷ sorted)) ≡ true) (change_of edits old new k.0)
    (λ e f. ap (sectors_ascend from) (filter_none (change_of edits old new) k.0 (keys_of sorted) f) ∙ ascend_changes edits old new sorted from asc.1 h.1)
    (λ c e f. ap (sectors_ascend from) (filter_some (change_of edits old new) k.0 (keys_of sorted) c f)
    ∙ (let here : c.sector.0 ≡ k.0 = change_sector k.0 (version_at old k.0 + 1) (patches_with (forced_in edits k.0) (old k.0) (new k.0)) c f in
    and_from (nat_le from c.sector.0) (sectors_ascend (c.sector.0 + 1) (changes edits old new sorted)) (le-leb from c.sector.0 (let l = h.0 in omega arith))
    (ap (λ (n : ℕ). sectors_ascend (n + 1) (changes edits old new sorted)) here ∙ ascend_changes edits old new sorted (k.0 + 1) asc.1 (above_keys k.0 sorted asc.0)))) refl

module _ (most segments : ℕ) (sectors : Sectors) (edits : List Edit) (h : IsReady most segments sectors edits) where
  changeable : (k : ℕ) → k < 2 ^ 55 → version_at sectors k ≤ most → IsChangeable sectors k
  changeable k small low = let last : most + 1 < 2 ^ 64 = h.last in record { small = small; fits = omega arith }

  one_named : (e : Edit) → IsFitEdit segments e → MeetsUse (store_after segments sectors edits) e → is_metadata e ≡ true → IsChangeable sectors (edit_sector e)
  one_named (SetInode i x dated) fit meets m = let few = h.few in let l : i < 64 * segments = (fit_inode segments i x dated fit).0 in changeable (sector_of (region.Inode i)) (omega arith) (h.versions.inodes i l)
  one_named (SetBit i b) fit meets m = let few = h.few in let l : i / 64 < segments = omega arith in changeable (sector_of (region.Segment (i / 64))) (omega arith) (h.versions.bitmaps (i / 64) l)
  one_named (SetUse k u) fit meets m = let few = h.few in let l : k / 1024 < segments = omega arith in changeable (sector_of (region.Segment (k / 1024))) (omega arith) (h.versions.bitmaps (k / 1024) l)
  one_named (SetPlace k p o) fit meets m =
      let few = h.few in
      let f = fit_place segments k p o fit in
      let l : k < 1024 * segments = f.0 in
      let lp : p < 56 = f.1 in
      let part : p / 7 < 8 = omega arith in
      changeable (sector_of (region.Small k (p / 7))) (omega arith) (h.directory_versions k (p / 7) l part meets)
  one_named (SetLarge g b) fit meets m = let few = h.few in changeable (sector_of (region.Segment g)) (omega arith) (h.versions.bitmaps g fit)
  one_named (SetBytes k part bytes) fit meets m = absurd cc
  one_named (SetLargeBytes g part bytes) fit meets m = absurd cc

  all_named : (es : List Edit) → AreFit segments (store_after segments sectors edits) es → Names (IsChangeable sectors) es
  all_named [] fit = tt
  all_named (e ∷ es) fit = (one_named e fit.0.0 fit.0.1, all_named es fit.1)

anywhere : (es : List (ℕ × ℕ)) → Keys (λ k. 0 ≤ k) es
anywhere [] = tt
anywhere (e ∷ es) = (omega arith, anywhere es)

pub records_fit : RecordsFit
unfolding IsStrictlySortedBy
records_fit most segments sectors edits h some few short =
    let cs = changes_of sectors edits in
    let new : Sectors = all_edited sectors edits in
    let sorted : List (ℕ × ℕ) = named [] edits in
    let none : Ascend (named [] []) = tt in
    let good = are_changes edits sectors new sorted h.whole (named_keys (IsChangeable sectors) [] edits tt (all_named most segments sectors edits h edits h.fit)) in
    let rise = ascend_changes edits sectors new sorted 0 (named_ascend [] (filter_map metadata_sector edits) none) (anywhere sorted) in
    and_from (nat_le 1 (length cs) && nat_le (length cs) 32 && list_all is_change cs && sectors_ascend 0 cs) (nat_le (length (record_bytes cs)) 4096)
    (and_from (nat_le 1 (length cs) && nat_le (length cs) 32 && list_all is_change cs) (sectors_ascend 0 cs)
    (and_from (nat_le 1 (length cs) && nat_le (length cs) 32) (list_all is_change cs) (and_from (nat_le 1 (length cs)) (nat_le (length cs) 32) (le-leb 1 (length cs) some) (le-leb (length cs) 32 few)) good) rise)
    (le-leb (length (record_bytes cs)) 4096 short)
