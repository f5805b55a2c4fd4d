-- Edits of few sectors and of few bytes make a small record.
use Rattle.std.proofs.Common.{◌≡◌, ℕ, ◌+◌, ◌≤◌, Bool, true, ◌&&◌, ◌==◌, if◌then◌else◌, Some, List, [], ◌∷◌, length, refl, sym, ap, ◌∙◌, subst, arith, length-append}
use Rattle.std.specs.List.{filter_map, flat_map}
use Rattle.std.specs.List.Sorted.{IsStrictlySortedBy}
use Rattle.std.specs.Map.{keys_of}
use Rattle.std.specs.Ordering.{nat_cmp, match_ordering}
use Rattle.std.specs.declared.cmp.Ordering.{Ordering}
use Rattle.std.specs.declared.cmp.Ordering.TheVariants.{Less, Equal, Greater}
use Rattle.std.proofs.lemmas.Bool.{or_left, or_right, eq-eqb}
use Rattle.frang_base.proofs.Basics.{by_some}
use Rattle.byteorder.specs.Endian.{little_bytes}
use Rattle.frang_base.specs.declared.change.Patch.{Patch}
use Rattle.frang_base.specs.declared.change.Change.{Change}
use Rattle.sector_bytes.specs.SectorMaps.{with_value, Ascend}
use Rattle.disk_definitions.specs.Records.{change_bytes}
use Rattle.sector_bytes.specs.Patches.{patches_with}
use Rattle.sector_bytes.specs.Sectors.{Sectors}
use Rattle.disk_definitions.specs.Standing.{version_at}
use Rattle.disk_definitions.specs.Store.{store_of}
use Rattle.disk_definitions.specs.Edits.{Edit}
use Rattle.disk_definitions.specs.Written.{edit_sector, all_edited, is_metadata, metadata_sector, with_number, change_by, forced_in, change_of, changes_of}
use Rattle.plan_fit.specs.Says.{Says}
use Rattle.disk_definitions.specs.Ready.{store_after, IsReady}
use Rattle.plan_fit.proofs.LaidOver.{by_bool, filter_none, filter_some, named, named_true, named_false, named_ascend, changes}
use Rattle.disk_definitions.specs.SmallRecords.{IsSmall}
use Rattle.plan_fit.proofs.PatchCosts.{cost, length_change, length_little}
use Rattle.plan_fit.proofs.Charges.{budget, charge, names, sector_cost}
use Rattle.plan_fit.proofs.Sums.{total, total_charge}

-- how many edits name a sector
abbrev pub namings : List Edit → ℕ
namings [] = 0
namings (e ∷ es) = (if is_metadata e then 1 else 0) + namings es

-- few enough for a record
pub record AreSmall (edits : List Edit) : Type 0 where
  pub few : namings edits ≤ 32
  pub short : 2 + budget edits ≤ 4096

-- ---- the sectors

length_put : (sorted : List (ℕ × ℕ)) (n : ℕ) → length (with_number sorted n) ≤ 1 + length sorted
length_put [] n = omega arith
length_put (k ∷ ks) n = go (nat_cmp n k.0) (length_put ks n)
  where
    go : (o : Ordering) → length (with_value ks n 0) ≤ 1 + length ks → length (match_ordering o ((n, 0) ∷ k ∷ ks) ((k.0, 0) ∷ ks) (k ∷ with_value ks n 0)) ≤ 1 + length (k ∷ ks)
    go Less l = omega arith
    go Equal l = omega arith
    go Greater l = omega arith

length_named : (es : List Edit) (sorted : List (ℕ × ℕ)) → length (named sorted es) ≤ namings es + length sorted
length_named [] sorted = omega arith
length_named (e ∷ es) sorted = by_bool (is_metadata e)
    (λ i. let a = length_named es (with_number sorted (edit_sector e)) in let b = length_put sorted (edit_sector e) in let c = ap length (named_true sorted e es i) in
    let d : namings (e ∷ es) ≡ 1 + namings es = ap (λ (t : Bool). (if t then 1 else 0) + namings es) i in omega arith)
    (λ i. let a = length_named es sorted in let c = ap length (named_false sorted e es i) in
    let d : namings (e ∷ es) ≡ 0 + namings es = ap (λ (t : Bool). (if t then 1 else 0) + namings es) i in omega arith)

-- each of the sectors is named by one of the edits
abbrev AreNamed : List Edit → List (ℕ × ℕ) → Type 0
AreNamed es [] = Unit {0}
AreNamed es (k ∷ ks) = (names k.0 es ≡ true) × AreNamed es ks

named_put : (all : List Edit) (ks : List (ℕ × ℕ)) (n : ℕ) → names n all ≡ true → AreNamed all ks → AreNamed all (with_number ks n)
named_put all [] n h r = (h, tt)
named_put all (k ∷ ks) n h r = go (nat_cmp n k.0) (named_put all ks n h r.1)
  where
    go : (o : Ordering) → AreNamed all (with_value ks n 0) → AreNamed all (match_ordering o ((n, 0) ∷ k ∷ ks) ((k.0, 0) ∷ ks) (k ∷ with_value ks n 0))
    go Less l = (h, r)
    go Equal l = r
    go Greater l = (r.0, l)

all_named : (all es : List Edit) (ks : List (ℕ × ℕ)) → ((s : ℕ) → names s es ≡ true → names s all ≡ true) → AreNamed all ks → AreNamed all (named ks es)
all_named all [] ks within r = r
all_named all (e ∷ es) ks within r = by_bool (is_metadata e)
    (λ i. let here : (is_metadata e && edit_sector e == edit_sector e) ≡ true = ap (λ (t : Bool). t && edit_sector e == edit_sector e) i ∙ eq-eqb (edit_sector e) (edit_sector e) refl in
    subst (AreNamed all) (sym (named_true ks e es i)) (all_named all es (with_number ks (edit_sector e)) (λ s h. within s (or_right (is_metadata e && s == edit_sector e) (names s es) h))
    (named_put all ks (edit_sector e) (within (edit_sector e) (or_left (is_metadata e && edit_sector e == edit_sector e) (names (edit_sector e) es) here)) r)))
    (λ i. subst (AreNamed all) (sym (named_false ks e es i)) (all_named all es ks (λ s h. within s (or_right (is_metadata e && s == edit_sector e) (names s es) h)) r))

-- ---- the changes

length_changes : (all : List Edit) (old new : Sectors) (ks : List (ℕ × ℕ)) → length (changes all old new ks) ≤ length ks
length_changes all old new [] = omega arith
length_changes all old new (k ∷ ks) =
    let rest = length_changes all old new ks in
    by_some (λ o. change_of all old new k.0 ≡ o → length (changes all old new (k ∷ ks)) ≤ length (k ∷ ks)) (change_of all old new k.0)
    (λ e f. let a = ap length (filter_none (change_of all old new) k.0 (keys_of ks) f) in omega arith)
    (λ c e f. let a = ap length (filter_some (change_of all old new) k.0 (keys_of ks) c f) in omega arith) refl

change_cost : (sector version : ℕ) (ps : List Patch) (c : Change) → change_by sector version ps ≡ Some c → cost c.patches ≡ cost ps
change_cost sector version [] c e = absurd cc
change_cost sector version (p ∷ ps) c e = let same : record { sector = record { 0 = sector }; version = version; patches = p ∷ ps } ≡ c = cc in sym (ap (λ (x : Change). cost x.patches) same)

module _ (all : List Edit) (old new : Sectors) (es : List Edit) (each : (s : ℕ) → names s es ≡ true → 18 + cost (patches_with (forced_in all s) (old s) (new s)) ≤ charge es s) where
  bytes_of_changes : (ks : List (ℕ × ℕ)) → AreNamed es ks → length (flat_map change_bytes (changes all old new ks)) ≤ total (charge es) ks
  bytes_of_changes [] n = omega arith
  bytes_of_changes (k ∷ ks) n =
      let rest = bytes_of_changes ks n.1 in
      let one = each k.0 n.0 in
      by_some (λ o. change_of all old new k.0 ≡ o → length (flat_map change_bytes (changes all old new (k ∷ ks))) ≤ total (charge es) (k ∷ ks)) (change_of all old new k.0)
      (λ e f. let a = ap (λ (cs : List Change). length (flat_map change_bytes cs)) (filter_none (change_of all old new) k.0 (keys_of ks) f) in omega arith)
      (λ c e f. let a = ap (λ (cs : List Change). length (flat_map change_bytes cs)) (filter_some (change_of all old new) k.0 (keys_of ks) c f) in
      let b = length-append (change_bytes c) (flat_map change_bytes (changes all old new ks)) in
      let l = length_change c in
      let p = change_cost k.0 (version_at old k.0 + 1) (patches_with (forced_in all k.0) (old k.0) (new k.0)) c f in
      omega arith) refl

-- ---- the record

module _ (most segments : ℕ) (sectors : Sectors) (edits : List Edit) (h : IsReady most segments sectors edits) where
  start : Says segments (store_after segments sectors edits) sectors (store_of segments sectors)
  start = record {
    in_segments = record { grammar = h.grammar.bitmaps; bits = λ i. refl; uses = λ k. refl; large_bits = λ g. refl };
    in_inodes = record { grammar = h.grammar.inodes; inodes = λ i. refl };
    in_places = record { grammar = h.directories; places = λ k p l m d. refl };
    in_bytes = λ k j l m u. refl;
    in_large = λ g j l m u. refl;
  }

  each_sector : (s : ℕ) → names s edits ≡ true → 18 + cost (patches_with (forced_in edits s) (sectors s) (all_edited sectors edits s)) ≤ charge edits s
  each_sector = sector_cost segments (store_after segments sectors edits) (store_of segments sectors) sectors edits h.few h.whole start h.fit

pub small_record : (most segments : ℕ) (sectors : Sectors) (edits : List Edit) → AreSmall edits → IsReady most segments sectors edits → IsSmall sectors edits
unfolding IsStrictlySortedBy
small_record most segments sectors edits small h =
    let new : Sectors = all_edited sectors edits in
    let sorted : List (ℕ × ℕ) = named [] edits in
    let cs : List Change = changes_of sectors edits in
    let none : Ascend (named [] []) = tt in
    let asc = named_ascend [] (filter_map metadata_sector edits) none in
    let a = length_changes edits sectors new sorted in
    let b = length_named edits [] in
    let c = bytes_of_changes edits sectors new edits (each_sector most segments sectors edits h) sorted (all_named edits edits [] (λ s q. q) tt) in
    let d = total_charge edits sorted asc in
    let few : namings edits ≤ 32 = small.few in
    let short : 2 + budget edits ≤ 4096 = small.short in
    record {
      few = omega arith;
      short = omega (arith, length-append (little_bytes 2 (length cs)) (flat_map change_bytes cs), length_little 2 (length cs));
    }
