-- The changes and the bytes of edits, laid over the disk, at one sector.
use Rattle.std.proofs.Common.{◌≡◌, ◌≢◌, ℕ, ◌+◌, Bool, true, false, ◌==◌, if◌then◌else◌, Option, Some, None, List, [], ◌∷◌, refl, sym, ap, ◌∙◌, subst}
use Rattle.std.specs.Prelude.{fold}
use Rattle.std.specs.List.{filter_map, list_any}
use Rattle.std.specs.List.Sorted.{IsStrictlySortedBy}
use Rattle.std.specs.Map.{keys_of}
use Rattle.std.specs.BTreeMap.{is_at}
use Rattle.std.specs.Ordering.{nat_cmp}
use Rattle.std.proofs.lemmas.Bool.{and_right, ne_eqb, eq-eqb}
use Rattle.frang_base.specs.declared.change.Patch.{Patch}
use Rattle.frang_base.specs.declared.change.Change.{Change}
use Rattle.sector_bytes.specs.Changes.{changed}
use Rattle.sector_bytes.specs.SectorMaps.{value_at, Ascend}
use Rattle.sector_bytes.proofs.MapLaws.{absent, ascend_with, AllAbove, found}
use Rattle.sector_bytes.specs.Patches.{patches_with}
use Rattle.tree_definitions.proofs.Pairs.{birth_exact, self, found_put, found_other}
use Rattle.disk_definitions.specs.Inodes.{is_time_place}
use Rattle.sector_bytes.specs.Sectors.{Sectors}
use Rattle.disk_definitions.specs.Standing.{version_at}
use Rattle.disk_definitions.specs.Edits.{Edit}
use Rattle.disk_definitions.specs.Edits.Edit.{SetInode, SetBit, SetUse, SetPlace, SetLarge, SetBytes, SetLargeBytes}
use Rattle.disk_definitions.specs.Written.{edit_sector, edited_block, edited_sectors, all_edited, is_metadata, metadata_sector, with_number, change_by, dates, forced_in, change_of, byte_write, byte_writes, with_change, with_bytes}
use Rattle.plan_fit.proofs.Kept.{edited_else}

pub by_bool : {P : Type 0} (b : Bool) → (b ≡ true → P) → (b ≡ false → P) → P
by_bool true f g = f refl
by_bool false f g = g refl

-- ---- lists that are filtered

pub filter_none : {X Y : Type 0} (h : X → Option Y) (x : X) (xs : List X) → h x ≡ None → filter_map h (x ∷ xs) ≡ filter_map h xs
filter_none h x xs e = rw e refl

pub filter_some : {X Y : Type 0} (h : X → Option Y) (x : X) (xs : List X) (y : Y) → h x ≡ Some y → filter_map h (x ∷ xs) ≡ y ∷ filter_map h xs
filter_some h x xs y e = rw e refl

-- ---- edits that don't write a sector

-- no edit of metadata, or none of bytes, writes the sector
abbrev pub Misses : Bool → ℕ → List Edit → Type 0
Misses kind s [] = Unit {0}
Misses kind s (e ∷ es) = (is_metadata e ≡ kind → s ≡ edit_sector e → ⊥) × Misses kind s es

-- none of the edits puts an inode with its time into the sector
abbrev pub Undated : ℕ → List Edit → Type 0
Undated s [] = Unit {0}
Undated s (e ∷ es) = (dates s e ≡ false) × Undated s es

none_dated : (es : List Edit) (s : ℕ) → Undated s es → list_any (dates s) es ≡ false
none_dated [] s u = refl
none_dated (e ∷ es) s u = rw u.0 (none_dated es s u.1)

-- so nothing in it counts as changed that stays
pub none_forced : (es : List Edit) (s at : ℕ) → Undated s es → forced_in es s at ≡ false
none_forced es s at u = and_right (is_time_place at) (list_any (dates s) es) (none_dated es s u)

-- nor does an edit of another sector
pub not_dated : (e : Edit) (s : ℕ) → (is_metadata e ≡ true → s ≡ edit_sector e → ⊥) → dates s e ≡ false
not_dated (SetInode i x true) s m = ne_eqb s (edit_sector (SetInode i x true)) (m refl)
not_dated (SetInode i x false) s m = refl
not_dated (SetBit i b) s m = refl
not_dated (SetUse k u) s m = refl
not_dated (SetPlace k p o) s m = refl
not_dated (SetLarge g b) s m = refl
not_dated (SetBytes k part bytes) s m = refl
not_dated (SetLargeBytes g part bytes) s m = refl

pub missed_undated : (es : List Edit) (s : ℕ) → Misses true s es → Undated s es
missed_undated [] s m = tt
missed_undated (e ∷ es) s m = (not_dated e s m.0, missed_undated es s m.1)

pub all_else : (sectors : Sectors) (es : List Edit) (s : ℕ) → Misses true s es → Misses false s es → all_edited sectors es s ≡ sectors s
all_else sectors [] s m n = refl
all_else sectors (e ∷ es) s m n = all_else (edited_sectors sectors e) es s m.1 n.1 ∙ edited_else sectors e s (apart (is_metadata e) refl)
  where
    apart : (b : Bool) → is_metadata e ≡ b → s ≢ edit_sector e
    apart true i = m.0 i
    apart false i = n.0 i

-- bytes that are written elsewhere leave it
pub bytes_else : (x : Sectors) (es : List Edit) (s : ℕ) → Misses false s es → fold with_bytes x (byte_writes es) s ≡ x s
bytes_else x [] s n = refl
bytes_else x (e ∷ es) s n = by_bool (is_metadata e)
    (λ i. ap (λ (ws : List (ℕ × List ℕ)). fold with_bytes x ws s) (filter_none byte_write e es (ap (λ (t : Bool). if t then None else Some (edit_sector e, edited_block [] 0 e)) i)) ∙ bytes_else x es s n.1)
    (λ i. ap (λ (ws : List (ℕ × List ℕ)). fold with_bytes x ws s) (filter_some byte_write e es (edit_sector e, edited_block [] 0 e) (ap (λ (t : Bool). if t then None else Some (edit_sector e, edited_block [] 0 e)) i))
    ∙ bytes_else (with_bytes x (edit_sector e, edited_block [] 0 e)) es s n.1 ∙ ap (λ (t : Bool). if t then edited_block [] 0 e else x s) (ne_eqb s (edit_sector e) (n.0 i)))

-- bytes don't go by what the sector held
same_block : (e : Edit) (block : List ℕ) (v : ℕ) → is_metadata e ≡ false → edited_block block v e ≡ edited_block [] 0 e
same_block (SetInode i x dated) block v f = absurd cc
same_block (SetBit i b) block v f = absurd cc
same_block (SetUse k u) block v f = absurd cc
same_block (SetPlace k p o) block v f = absurd cc
same_block (SetLarge g b) block v f = absurd cc
same_block (SetBytes k part bytes) block v f = refl
same_block (SetLargeBytes g part bytes) block v f = refl

-- a sector that no change names has the bytes that the edits write
pub bytes_same : (sectors x : Sectors) (es : List Edit) (s : ℕ) → Misses true s es → x s ≡ sectors s → fold with_bytes x (byte_writes es) s ≡ all_edited sectors es s
bytes_same sectors x [] s m same = same
bytes_same sectors x (e ∷ es) s m same = by_bool (is_metadata e)
    (λ i. ap (λ (ws : List (ℕ × List ℕ)). fold with_bytes x ws s) (filter_none byte_write e es (ap (λ (t : Bool). if t then None else Some (edit_sector e, edited_block [] 0 e)) i))
    ∙ bytes_same (edited_sectors sectors e) x es s m.1 (same ∙ sym (edited_else sectors e s (m.0 i))))
    (λ i. ap (λ (ws : List (ℕ × List ℕ)). fold with_bytes x ws s) (filter_some byte_write e es (edit_sector e, edited_block [] 0 e) (ap (λ (t : Bool). if t then None else Some (edit_sector e, edited_block [] 0 e)) i))
    ∙ bytes_same (edited_sectors sectors e) (with_bytes x (edit_sector e, edited_block [] 0 e)) es s m.1
    (ap (λ (b : List ℕ). if s == edit_sector e then b else x s) (sym (same_block e (sectors s) (version_at sectors s) i)) ∙ ap (λ (b : List ℕ). if s == edit_sector e then edited_block (sectors s) (version_at sectors s) e else b) same))

-- ---- the sectors that are named

abbrev pub named : List (ℕ × ℕ) → List Edit → List (ℕ × ℕ)
named sorted es = fold with_number sorted (filter_map metadata_sector es)

pub named_true : (sorted : List (ℕ × ℕ)) (e : Edit) (es : List Edit) → is_metadata e ≡ true → named sorted (e ∷ es) ≡ named (with_number sorted (edit_sector e)) es
named_true sorted e es i = ap (fold with_number sorted) (filter_some metadata_sector e es (edit_sector e) (ap (λ (t : Bool). if t then Some (edit_sector e) else None) i))

pub named_false : (sorted : List (ℕ × ℕ)) (e : Edit) (es : List Edit) → is_metadata e ≡ false → named sorted (e ∷ es) ≡ named sorted es
named_false sorted e es i = ap (fold with_number sorted) (filter_none metadata_sector e es (ap (λ (t : Bool). if t then Some (edit_sector e) else None) i))

pub named_ascend : (sorted : List (ℕ × ℕ)) (ns : List ℕ) → Ascend sorted → Ascend (fold with_number sorted ns)
named_ascend sorted [] h = h
named_ascend sorted (n ∷ ns) h = named_ascend (with_number sorted n) ns (ascend_with n 0 sorted h)

-- none of the edits names it
pub unnamed : (sorted : List (ℕ × ℕ)) (es : List Edit) (s : ℕ) → Misses true s es → value_at (named sorted es) s ≡ value_at sorted s
unnamed sorted [] s m = refl
unnamed sorted (e ∷ es) s m = by_bool (is_metadata e)
    (λ i. ap (λ (xs : List (ℕ × ℕ)). value_at xs s) (named_true sorted e es i) ∙ unnamed (with_number sorted (edit_sector e)) es s m.1 ∙ found_other nat_cmp birth_exact sorted (edit_sector e) 0 s (m.0 i))
    (λ i. ap (λ (xs : List (ℕ × ℕ)). value_at xs s) (named_false sorted e es i) ∙ unnamed sorted es s m.1)

-- where it isn't named, none of the edits writes it
pub not_named : (sorted : List (ℕ × ℕ)) (es : List Edit) (s : ℕ) → value_at (named sorted es) s ≡ None → (value_at sorted s ≡ None) × Misses true s es
not_named sorted [] s h = (h, tt)
not_named sorted (e ∷ es) s h = by_bool (is_metadata e)
    (λ i. let r = not_named (with_number sorted (edit_sector e)) es s (sym (ap (λ (xs : List (ℕ × ℕ)). value_at xs s) (named_true sorted e es i)) ∙ h) in
    let d : s ≢ edit_sector e = λ q. let some : value_at (with_number sorted (edit_sector e)) s ≡ Some 0 = ap (value_at (with_number sorted (edit_sector e))) q ∙ found_put nat_cmp birth_exact sorted (edit_sector e) 0 in let none = r.0 in cc in
    (sym (found_other nat_cmp birth_exact sorted (edit_sector e) 0 s d) ∙ r.0, ((λ j. d), r.1)))
    (λ i. let r = not_named sorted es s (sym (ap (λ (xs : List (ℕ × ℕ)). value_at xs s) (named_false sorted e es i)) ∙ h) in (r.0, ((λ j. absurd cc), r.1)))

-- ---- the changes

-- a block with a change, where there is one
abbrev pub made : List ℕ → Option Change → List ℕ
made block None = block
made block (Some c) = changed block c

pub change_sector : (sector version : ℕ) (ps : List Patch) (c : Change) → change_by sector version ps ≡ Some c → c.sector.0 ≡ sector
change_sector sector version [] c e = absurd cc
change_sector sector version (p ∷ ps) c e = let same : record { sector = record { 0 = sector }; version = version; patches = p ∷ ps } ≡ c = cc in sym (ap (λ (x : Change). x.sector.0) same)

abbrev pub changes : List Edit → Sectors → Sectors → List (ℕ × ℕ) → List Change
changes edits old new sorted = filter_map (change_of edits old new) (keys_of sorted)

-- the change of the first sector, and then the others
one_laid : (edits : List Edit) (old new x : Sectors) (k : ℕ × ℕ) (sorted : List (ℕ × ℕ)) (s : ℕ) → s ≢ k.0 → ((y : Sectors) → y s ≡ x s → fold with_change y (changes edits old new sorted) s ≡ x s)
    → fold with_change x (changes edits old new (k ∷ sorted)) s ≡ x s
one_laid edits old new x k sorted s d rest = go (change_of edits old new k.0) refl
  where
    go : (o : Option Change) → change_of edits old new k.0 ≡ o → fold with_change x (changes edits old new (k ∷ sorted)) s ≡ x s
    go None e = ap (λ (cs : List Change). fold with_change x cs s) (filter_none (change_of edits old new) k.0 (keys_of sorted) e) ∙ rest x refl
    go (Some c) e = ap (λ (cs : List Change). fold with_change x cs s) (filter_some (change_of edits old new) k.0 (keys_of sorted) c e)
        ∙ rest (with_change x c) (ap (λ (t : Bool). if t then changed (x s) c else x s) (ne_eqb s c.sector.0 (λ q. d (q ∙ change_sector k.0 (version_at old k.0 + 1) (patches_with (forced_in edits k.0) (old k.0) (new k.0)) c e))))

pub laid_else : (edits : List Edit) (old new x : Sectors) (sorted : List (ℕ × ℕ)) (s : ℕ) → value_at sorted s ≡ None → fold with_change x (changes edits old new sorted) s ≡ x s
laid_else edits old new x [] s h = refl
laid_else edits old new x (k ∷ sorted) s h = by_bool (is_at (nat_cmp s) k.0)
    (λ e. let some : value_at (k ∷ sorted) s ≡ Some k.1 = ap (λ (t : Bool). if t then Some k.1 else value_at sorted s) e in absurd cc)
    (λ e. one_laid edits old new x k sorted s (λ q. let t : is_at (nat_cmp s) k.0 ≡ true = ap (λ (z : ℕ). is_at (nat_cmp s) z) (sym q) ∙ self nat_cmp birth_exact s in absurd cc)
    (λ y same. laid_else edits old new y sorted s (sym (ap (λ (t : Bool). if t then Some k.1 else value_at sorted s) e) ∙ h) ∙ same))

-- the change of the sector itself, and none of it later
first_laid : (edits : List Edit) (old new x : Sectors) (k : ℕ × ℕ) (sorted : List (ℕ × ℕ)) (s : ℕ) → k.0 ≡ s → ((y : Sectors) → fold with_change y (changes edits old new sorted) s ≡ y s)
    → fold with_change x (changes edits old new (k ∷ sorted)) s ≡ made (x s) (change_of edits old new s)
first_laid edits old new x k sorted s here rest = subst (λ (z : ℕ). fold with_change x (changes edits old new (k ∷ sorted)) s ≡ made (x s) (change_of edits old new z)) here (go (change_of edits old new k.0) refl)
  where
    go : (o : Option Change) → change_of edits old new k.0 ≡ o → fold with_change x (changes edits old new (k ∷ sorted)) s ≡ made (x s) (change_of edits old new k.0)
    go None e = ap (λ (cs : List Change). fold with_change x cs s) (filter_none (change_of edits old new) k.0 (keys_of sorted) e) ∙ rest x ∙ sym (ap (made (x s)) e)
    go (Some c) e = ap (λ (cs : List Change). fold with_change x cs s) (filter_some (change_of edits old new) k.0 (keys_of sorted) c e) ∙ rest (with_change x c)
        ∙ ap (λ (t : Bool). if t then changed (x s) c else x s) (eq-eqb s c.sector.0 (sym (change_sector k.0 (version_at old k.0 + 1) (patches_with (forced_in edits k.0) (old k.0) (new k.0)) c e ∙ here))) ∙ sym (ap (made (x s)) e)

-- the change of another sector
by_some_change : (edits : List Edit) (old new x : Sectors) (k : ℕ × ℕ) (sorted : List (ℕ × ℕ)) (s : ℕ) → s ≢ k.0 → ((y : Sectors) → y s ≡ x s → fold with_change y (changes edits old new sorted) s ≡ made (x s) (change_of edits old new s))
    → fold with_change x (changes edits old new (k ∷ sorted)) s ≡ made (x s) (change_of edits old new s)
by_some_change edits old new x k sorted s d rest = go (change_of edits old new k.0) refl
  where
    go : (o : Option Change) → change_of edits old new k.0 ≡ o → fold with_change x (changes edits old new (k ∷ sorted)) s ≡ made (x s) (change_of edits old new s)
    go None e = ap (λ (cs : List Change). fold with_change x cs s) (filter_none (change_of edits old new) k.0 (keys_of sorted) e) ∙ rest x refl
    go (Some c) e = ap (λ (cs : List Change). fold with_change x cs s) (filter_some (change_of edits old new) k.0 (keys_of sorted) c e)
        ∙ rest (with_change x c) (ap (λ (t : Bool). if t then changed (x s) c else x s) (ne_eqb s c.sector.0 (λ q. d (q ∙ change_sector k.0 (version_at old k.0 + 1) (patches_with (forced_in edits k.0) (old k.0) (new k.0)) c e))))

pub laid_here : (edits : List Edit) (old new x : Sectors) (sorted : List (ℕ × ℕ)) (s v : ℕ) → Ascend sorted → value_at sorted s ≡ Some v → fold with_change x (changes edits old new sorted) s ≡ made (x s) (change_of edits old new s)
unfolding IsStrictlySortedBy
laid_here edits old new x [] s v asc h = absurd cc
laid_here edits old new x (k ∷ sorted) s v asc h = by_bool (is_at (nat_cmp s) k.0)
    (λ e. let here : k.0 ≡ s = found s k.0 e in first_laid edits old new x k sorted s here (λ y. laid_else edits old new y sorted s (absent s sorted (subst (λ (z : ℕ). AllAbove z sorted) here asc.0))))
    (λ e. by_some_change edits old new x k sorted s (λ q. let t : is_at (nat_cmp s) k.0 ≡ true = ap (λ (z : ℕ). is_at (nat_cmp s) z) (sym q) ∙ self nat_cmp birth_exact s in absurd cc)
    (λ y same. laid_here edits old new y sorted s v asc.1 (sym (ap (λ (t : Bool). if t then Some k.1 else value_at sorted s) e) ∙ h) ∙ ap (λ (b : List ℕ). made b (change_of edits old new s)) same))
