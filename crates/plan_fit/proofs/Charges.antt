-- What each edit adds to a record: the bytes of the change of a sector are at most what the edits of this sector add.
use Rattle.std.proofs.Common.{◌≡◌, ◌≢◌, ℕ, ◌+◌, ◌*◌, ◌/◌, ◌<◌, ◌≤◌, Bool, true, false, ◌||◌, ◌&&◌, ◌==◌, if◌then◌else◌, inl, inr, List, [], ◌∷◌, length, refl, sym, ap, ◌∙◌, subst, arith}
use Rattle.std.proofs.lemmas.Bool.{cases_eq, or_left, or_right, ne_eqb, eq-eqb, eqb-true}
use Rattle.disk_definitions.specs.declared.region.Region.{Region}
use Rattle.disk_definitions.specs.declared.region.Region.TheVariants as region
use Rattle.disk_definitions.specs.Regions.{sector_of, is_in_range}
use Rattle.sector_bytes.specs.Patches.{patches_with}
use Rattle.disk_definitions.proofs.RegionLaws.{region_once}
use Rattle.disk_definitions.proofs.Readings.{and_l, and_r}
use Rattle.sector_bytes.specs.Sectors.{Sectors}
use Rattle.disk_definitions.specs.Store.{Store}
use Rattle.disk_definitions.specs.Standing.{IsMetadata}
use Rattle.disk_definitions.specs.Edits.{Edit, edited}
use Rattle.disk_definitions.specs.Edits.Edit.{SetInode, SetBit, SetUse, SetPlace, SetLarge, SetBytes, SetLargeBytes}
use Rattle.disk_definitions.specs.Written.{edit_sector, edited_sectors, all_edited, is_metadata, dates, forced_in}
use Rattle.disk_definitions.specs.FitEdits.{IsFitEdit, MeetsUse, AreFit}
use Rattle.plan_fit.specs.Says.{Says}
use Rattle.plan_fit.proofs.Kept.{edit_region, edit_sector_is, edit_in_range, edited_here, edited_else, in_segment, in_small}
use Rattle.plan_fit.proofs.EditLaws.{not_both, fit_place, each}
use Rattle.plan_fit.proofs.LaidOver.{Undated, none_forced, not_dated}
use Rattle.plan_fit.proofs.Differing.{differing, between, same_bytes}
use Rattle.plan_fit.proofs.PatchCosts.{cost, cost_by_bytes, cost_at_most}
use Rattle.plan_fit.proofs.EditCosts.{is_partial, most_in, part_differs}

-- ---- definitions

-- it sets this inode
abbrev pub sets_inode : ℕ → Edit → Bool
sets_inode i (SetInode j x dated) = i == j
sets_inode i e = false

-- one of the edits sets this inode
abbrev pub sets_later : ℕ → List Edit → Bool
sets_later i [] = false
sets_later i (e ∷ es) = sets_inode i e || sets_later i es

-- what an edit adds to the record, where these come after it: an inode's sector counts at the last edit that sets it
abbrev pub price : Edit → List Edit → ℕ
price (SetInode i x dated) es = if sets_later i es then 0 else 1280
price (SetBit i b) es = 58
price (SetUse k u) es = 23
price (SetPlace k p e) es = 378
price (SetLarge g b) es = 23
price (SetBytes k part bytes) es = 0
price (SetLargeBytes g part bytes) es = 0

-- what all of the edits add
abbrev pub budget : List Edit → ℕ
budget [] = 0
budget (e ∷ es) = price e es + budget es

-- of this, what belongs to a sector
abbrev pub charge : List Edit → ℕ → ℕ
charge [] s = 0
charge (e ∷ es) s = (if s == edit_sector e then price e es else 0) + charge es s

-- one of the edits is of metadata and writes the sector
abbrev pub names : ℕ → List Edit → Bool
names s [] = false
names s (e ∷ es) = (is_metadata e && s == edit_sector e) || names s es

or_cases : {P : Type 0} (a b : Bool) → (a || b) ≡ true → (a ≡ true → P) → (b ≡ true → P) → P
or_cases true b h f g = f refl
or_cases false b h f g = g h

-- ---- sums over one sector

charge_here : (e : Edit) (es : List Edit) (s : ℕ) → s ≡ edit_sector e → charge (e ∷ es) s ≡ price e es + charge es s
charge_here e es s q = ap (λ (t : Bool). (if t then price e es else 0) + charge es s) (eq-eqb s (edit_sector e) q)

charge_else : (e : Edit) (es : List Edit) (s : ℕ) → s ≢ edit_sector e → charge (e ∷ es) s ≡ charge es s
charge_else e es s d = let a : charge (e ∷ es) s ≡ 0 + charge es s = ap (λ (t : Bool). (if t then price e es else 0) + charge es s) (ne_eqb s (edit_sector e) d) in omega arith

charge_more : (e : Edit) (es : List Edit) (s : ℕ) → charge es s ≤ charge (e ∷ es) s
charge_more e es s = omega arith

-- an inode's sector
inode_price : (i : ℕ) (e : Edit) (es : List Edit) → sets_inode i e ≡ true → sets_later i es ≡ false → (sector_of (region.Inode i) ≡ edit_sector e) × (price e es ≡ 1280)
inode_price i (SetInode j x dated) es h g = let same : i ≡ j = eqb-true i j h in (ap (λ (k : ℕ). sector_of (region.Inode k)) same, ap (λ (t : Bool). if t then 0 else 1280) (ap (λ (k : ℕ). sets_later k es) (sym same) ∙ g))
inode_price i (SetBit j b) es h g = absurd cc
inode_price i (SetUse k u) es h g = absurd cc
inode_price i (SetPlace k p o) es h g = absurd cc
inode_price i (SetLarge k b) es h g = absurd cc
inode_price i (SetBytes k part bytes) es h g = absurd cc
inode_price i (SetLargeBytes k part bytes) es h g = absurd cc

inode_charge : (es : List Edit) (i : ℕ) → sets_later i es ≡ true → 1280 ≤ charge es (sector_of (region.Inode i))
inode_charge [] i h = absurd cc
inode_charge (e ∷ es) i h = go (inode_charge es i) (sets_later i es) refl
  where
    go : (sets_later i es ≡ true → 1280 ≤ charge es (sector_of (region.Inode i))) → (t : Bool) → sets_later i es ≡ t → 1280 ≤ charge (e ∷ es) (sector_of (region.Inode i))
    go rest true q = let l = rest q in let m = charge_more e es (sector_of (region.Inode i)) in omega arith
    go rest false q = or_cases (sets_inode i e) (sets_later i es) h
        (λ t. let p = inode_price i e es t q in let c = charge_here e es (sector_of (region.Inode i)) p.0 in let d : price e es ≡ 1280 = p.1 in omega arith)
        (λ t. absurd cc)

-- ---- sectors of which parts change

-- each edit of the sector writes a part of it
abbrev pub Partly : ℕ → List Edit → Type 0
Partly s [] = Unit {0}
Partly s (e ∷ es) = (s ≡ edit_sector e → is_partial e ≡ true) × Partly s es

-- so none of them puts an inode with its time there
parts_undated : (es : List Edit) (s : ℕ) → Partly s es → Undated s es
parts_undated [] s p = tt
parts_undated (e ∷ es) s p = (one e p.0, parts_undated es s p.1)
  where
    one : (e : Edit) → (s ≡ edit_sector e → is_partial e ≡ true) → dates s e ≡ false
    one (SetInode i x dated) p = not_dated (SetInode i x dated) s (λ m q. let t = p q in absurd cc)
    one (SetBit i b) p = refl
    one (SetUse k u) p = refl
    one (SetPlace k r o) p = refl
    one (SetLarge g b) p = refl
    one (SetBytes k part bytes) p = refl
    one (SetLargeBytes g part bytes) p = refl

part_price : (e : Edit) (es : List Edit) → is_partial e ≡ true → price e es ≡ 18 + 5 * most_in e
part_price (SetInode i x dated) es t = absurd cc
part_price (SetBit i b) es t = refl
part_price (SetUse k u) es t = refl
part_price (SetPlace k p o) es t = refl
part_price (SetLarge g b) es t = refl
part_price (SetBytes k part bytes) es t = absurd cc
part_price (SetLargeBytes g part bytes) es t = absurd cc

-- 18 bytes of the change where one of the edits names the sector
abbrev front : Bool → ℕ
front t = if t then 18 else 0

front_most : (t : Bool) → front t ≤ 18
front_most true = omega arith
front_most false = omega arith

names_else : (e : Edit) (es : List Edit) (s : ℕ) → s ≢ edit_sector e → names s (e ∷ es) ≡ names s es
names_else e es s d = ap (λ (t : Bool). (is_metadata e && t) || names s es) (ne_eqb s (edit_sector e) d) ∙ go (is_metadata e)
  where
    go : (t : Bool) → ((t && false) || names s es) ≡ names s es
    go true = refl
    go false = refl

part_changes : (segments : ℕ) (end st : Store) (sectors : Sectors) (es : List Edit) (s : ℕ) → segments ≤ 64 → Says segments end sectors st → AreFit segments end es → Partly s es
    → front (names s es) + 5 * differing (sectors s) (all_edited sectors es s) ≤ charge es s
part_changes segments end st sectors [] s few h fit p = let e = same_bytes (sectors s) in omega arith
part_changes segments end st sectors (e ∷ es) s few h fit p =
    let next : Sectors = edited_sectors sectors e in
    let last : List ℕ = all_edited next es s in
    let rest : front (names s es) + 5 * differing (next s) last ≤ charge es s = part_changes segments end (edited st e) next es s few (each segments end st sectors e few h fit.0.0 fit.0.1) fit.1 p.1 in
    let whole : differing (sectors s) last ≤ differing (sectors s) (next s) + differing (next s) last = between (sectors s) (next s) last in
    elim (cases_eq s (edit_sector e)) [
      | inl q ↦
          let t : is_partial e ≡ true = p.0 q in
          let one : differing (sectors (edit_sector e)) (next (edit_sector e)) ≤ most_in e =
          subst (λ (b : List ℕ). differing (sectors (edit_sector e)) b ≤ most_in e) (sym (edited_here sectors e)) (part_differs segments end st sectors h e fit.0.0 fit.0.1 t) in
          let here : differing (sectors s) (next s) ≤ most_in e = subst (λ (k : ℕ). differing (sectors k) (next k) ≤ most_in e) (sym q) one in
          let a = charge_here e es s q in
          let b = part_price e es t in
          let c = front_most (names s (e ∷ es)) in
          omega arith
      | inr d ↦
          let same : differing (sectors s) (next s) ≡ 0 = ap (differing (sectors s)) (edited_else sectors e s d) ∙ same_bytes (sectors s) in
          let a = charge_else e es s d in
          let b : front (names s (e ∷ es)) ≡ front (names s es) = ap front (names_else e es s d) in
          omega arith
    ]

-- ---- the edit that names a sector

-- an edit of metadata that writes the sector
pub record Writer (segments : ℕ) (end : Store) (s : ℕ) (es : List Edit) : Type 0 where
  pub edit : Edit
  pub metadata : is_metadata edit ≡ true
  pub here : s ≡ edit_sector edit
  pub fit : IsFitEdit segments edit
  pub meets : MeetsUse end edit
  pub inodes : (i : ℕ) → sets_inode i edit ≡ true → sets_later i es ≡ true

writer : (segments : ℕ) (end : Store) (s : ℕ) (es : List Edit) → AreFit segments end es → names s es ≡ true → Writer segments end s es
writer segments end s [] fit h = absurd cc
writer segments end s (e ∷ es) fit h = or_cases (is_metadata e && s == edit_sector e) (names s es) h
    (λ t. record { edit = e; metadata = and_l (is_metadata e) (s == edit_sector e) t; here = eqb-true s (edit_sector e) (and_r (is_metadata e) (s == edit_sector e) t); fit = fit.0.0; meets = fit.0.1; inodes = λ i q. or_left (sets_inode i e) (sets_later i es) q })
    (λ t. let w = writer segments end s es fit.1 t in record { edit = w.edit; metadata = w.metadata; here = w.here; fit = w.fit; meets = w.meets; inodes = λ i q. or_right (sets_inode i e) (sets_later i es) (w.inodes i q) })

partly : (segments : ℕ) (end : Store) (r : Region) (es : List Edit) → segments ≤ 64 → is_in_range segments r ≡ true → AreFit segments end es → ((e : Edit) → MeetsUse end e → edit_region e ≡ r → is_partial e ≡ true) → Partly (sector_of r) es
partly segments end r [] few inside fit to = tt
partly segments end r (e ∷ es) few inside fit to =
    (λ q. to e fit.0.1 (region_once segments (edit_region e) r few (edit_in_range segments e fit.0.0) inside (sym (edit_sector_is e) ∙ sym q)), partly segments end r es few inside fit.1 to)

segment_partial : (end : Store) (k : ℕ) (e : Edit) → MeetsUse end e → edit_region e ≡ region.Segment k → is_partial e ≡ true
segment_partial end k (SetInode i x dated) u q = absurd cc
segment_partial end k (SetBit i b) u q = refl
segment_partial end k (SetUse i x) u q = refl
segment_partial end k (SetPlace i p o) u q = refl
segment_partial end k (SetLarge g b) u q = refl
segment_partial end k (SetBytes i part bytes) u q = absurd cc
segment_partial end k (SetLargeBytes g part bytes) u q = absurd cc

directory_partial : (end : Store) (k p : ℕ) → IsMetadata (end.use_of k) → (e : Edit) → MeetsUse end e → edit_region e ≡ region.Small k p → is_partial e ≡ true
directory_partial end k p d (SetInode i x dated) u q = absurd cc
directory_partial end k p d (SetBit i b) u q = refl
directory_partial end k p d (SetUse i x) u q = refl
directory_partial end k p d (SetPlace i r o) u q = refl
directory_partial end k p d (SetLarge g b) u q = refl
directory_partial end k p d (SetBytes i part bytes) u q = let same : i ≡ k = cc in absurd (not_both (end.use_of k) d (sym (ap end.use_of same) ∙ u))
directory_partial end k p d (SetLargeBytes g part bytes) u q = absurd cc

-- ---- the change of a sector

module _ (segments : ℕ) (end st : Store) (sectors : Sectors) (es : List Edit) (few : segments ≤ 64) (long : (s : ℕ) → length (sectors s) ≡ 512) (h : Says segments end sectors st) (fit : AreFit segments end es) where
  part_cost : (s : ℕ) → names s es ≡ true → Partly s es → 18 + cost (patches_with (forced_in es s) (sectors s) (all_edited sectors es s)) ≤ charge es s
  part_cost s named p =
      let a = part_changes segments end st sectors es s few h fit p in
      let b = cost_by_bytes (forced_in es s) (λ at. none_forced es s at (parts_undated es s p)) (sectors s) (all_edited sectors es s) in
      let c : front (names s es) ≡ 18 = ap front named in
      omega arith

  region_cost : (s : ℕ) (r : Region) → s ≡ sector_of r → is_in_range segments r ≡ true → names s es ≡ true → ((e : Edit) → MeetsUse end e → edit_region e ≡ r → is_partial e ≡ true) → 18 + cost (patches_with (forced_in es s) (sectors s) (all_edited sectors es s)) ≤ charge es s
  region_cost s r at inside named to = part_cost s named (subst (λ (k : ℕ). Partly k es) (sym at) (partly segments end r es few inside fit to))

  by_writer : (s : ℕ) (e : Edit) → names s es ≡ true → is_metadata e ≡ true → s ≡ edit_sector e → IsFitEdit segments e → MeetsUse end e → ((i : ℕ) → sets_inode i e ≡ true → sets_later i es ≡ true) → 18 + cost (patches_with (forced_in es s) (sectors s) (all_edited sectors es s)) ≤ charge es s
  by_writer s (SetInode i x dated) named m at f u inodes =
      let a : 1280 ≤ charge es (sector_of (region.Inode i)) = inode_charge es i (inodes i (eq-eqb i i refl)) in
      let b : charge es s ≡ charge es (sector_of (region.Inode i)) = ap (charge es) at in
      let c = cost_at_most (forced_in es s) (sectors s) (all_edited sectors es s) (long s) in
      omega arith
  by_writer s (SetBit i b) named m at f u inodes = region_cost s (region.Segment (i / 64)) at (in_segment segments (i / 64) (omega arith)) named (segment_partial end (i / 64))
  by_writer s (SetUse k v) named m at f u inodes = region_cost s (region.Segment (k / 1024)) at (in_segment segments (k / 1024) (omega arith)) named (segment_partial end (k / 1024))
  by_writer s (SetPlace k p o) named m at f u inodes =
      let g = fit_place segments k p o f in
      let lp : p < 56 = g.1 in
      region_cost s (region.Small k (p / 7)) at (in_small segments k (p / 7) g.0 (omega arith)) named (directory_partial end k (p / 7) u)
  by_writer s (SetLarge g b) named m at f u inodes = region_cost s (region.Segment g) at (in_segment segments g f) named (segment_partial end g)
  by_writer s (SetBytes k part bytes) named m at f u inodes = absurd cc
  by_writer s (SetLargeBytes g part bytes) named m at f u inodes = absurd cc

  pub sector_cost : (s : ℕ) → names s es ≡ true → 18 + cost (patches_with (forced_in es s) (sectors s) (all_edited sectors es s)) ≤ charge es s
  sector_cost s named = let w = writer segments end s es fit named in by_writer s w.edit named w.metadata w.here w.fit w.meets w.inodes
