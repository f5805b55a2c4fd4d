-- What a finished line writes and frees is what its outcome makes of the cached blocks that it reads.
use Rattle.std.proofs.Common.{ℕ, ◌≡◌, ◌<◌, ◌≤◌, ◌+◌, ◌*◌, ◌/◌, ◌%◌, ⊎_elim, Bool, true, false, nat_eq, nat_lt, if◌then◌else◌, Option, Some, None, List, [], ◌∷◌, is_some, slice_index, refl, sym, ap, ap₂, ◌∙◌, subst, arith}
use Rattle.std.proofs.Math.Path.{fun_ext}
use Rattle.std.proofs.lemmas.Bool.{cases_lt, eq-eqb, le-ltb, eqb-true}
use Rattle.std.specs.List.{filter_map, Contains}
use Rattle.std.specs.Option.{option_map, unwrap_or}
use Rattle.frang_base.specs.declared.op.Op.{Op}
use Rattle.frang_base.specs.Functions.{member}
use Rattle.sector_bytes.specs.Blocks.{Block}
use Rattle.sector_bytes.specs.SectorMaps.{value_at}
use Rattle.sector_bytes.specs.Sectors.{Sectors}
use Rattle.sector_world.specs.Histories.{Fill}
use Rattle.sector_world.specs.Histories.Fill.{Written, Freed}
use Rattle.sector_world.specs.Plans.{made_of}
use Rattle.disk_definitions.specs.declared.region.Region.TheVariants as region
use Rattle.disk_definitions.specs.Regions.{sector_of}
use Rattle.tree_definitions.specs.Tree.{FileTree}
use Rattle.disk_definitions.specs.Naming.{Naming}
use Rattle.disk_definitions.specs.Store.{Store, store_of}
use Rattle.disk_definitions.specs.Held.{Segments}
use Rattle.disk_definitions.specs.Ask.{Sector, InodeAt, DirectoryAt, SegmentAt, BytesAt, LargeAt, Ask, part_of, run, looks, number_of}
use Rattle.disk_definitions.specs.Meets.{IsOfTree}
use Rattle.disk_definitions.specs.Missing.{is_at_hand}
use Rattle.disk_definitions.specs.Plans.{Hand, Plan, Finish}
use Rattle.disk_definitions.specs.Plans.Plan.{Finishes}
use Rattle.disk_definitions.specs.Written.{Cached, at_hand, bytes_at_hand, byte_writes}
use Rattle.plan_laws.specs.Looking.{AllSayTheSame}
use Rattle.plan_laws.proofs.Asking.{framed}
use Rattle.plan_laws.proofs.Covering.{has_head, has_more}
use Rattle.plan_laws.specs.Plans.{Planner}
use Rattle.plan_laws.proofs.Filled.{filter_from}
use Rattle.line_laws.specs.Stores.{with_bytes}
use Rattle.line_histories.specs.LinePlans.{byte_shown, store_showing, store_on, plain, fill_by, edits_in, makes_by}
use Rattle.line_histories.specs.Outcomes.{fill_shape}
use Rattle.line_histories.specs.Places.{SameBytesAt, WritesInPlace}
use Rattle.line_histories.specs.Planners.{plan_shape, IsSoundPlanner}
use Rattle.line_histories.proofs.Lists.{has_member, member_has, filter_has}
use Rattle.line_histories.proofs.Outcomes.{edits_same, fills_same}
use Rattle.line_histories.proofs.Shapes.{freed_same}

-- parts that are the same byte by byte
pub part_same : (f g : ℕ → ℕ → ℕ) (k part : ℕ) → ((r : ℕ) → r < 512 → f k (512 * part + r) ≡ g k (512 * part + r)) → part_of f k part ≡ part_of g k part
part_same f g k part h = fun_ext (λ r. ⊎_elim (inside r) (outside r) (cases_lt r 512))
  where
    inside : (r : ℕ) → r < 512 → part_of f k part r ≡ part_of g k part r
    inside r l = ap (λ v. if nat_lt r 512 then v else 0) (h r l)

    outside : (r : ℕ) → 512 ≤ r → part_of f k part r ≡ part_of g k part r
    outside r l = rw (le-ltb r 512 l) refl

-- what is made of a block is what is made where it's shown, if that's of the same shape
made_shown : (fills : Option Block → Option Fill) (shown : Option Block) (a b : Option Fill) → fills shown ≡ b → fill_shape b ≡ fill_shape a → made_of (option_map (λ fill shown. unwrap_or (fills shown) fill) a) shown ≡ b
made_shown fills shown None None q e = refl
made_shown fills shown None (Some (Written block)) q e = absurd (cc)
made_shown fills shown None (Some Freed) q e = absurd (cc)
made_shown fills shown (Some (Written block)) None q e = absurd (cc)
made_shown fills shown (Some Freed) None q e = absurd (cc)
made_shown fills shown (Some fill) (Some other) q e = ap (λ o. Some (unwrap_or o fill)) q

-- what is made is what the plan makes of what is shown
pub made_exact : (planned : Option Block → Plan) (number : ℕ) (shown : Option Block) → fill_shape (fill_by (edits_in (planned shown)) number) ≡ fill_shape (fill_by (edits_in (planned None)) number) →
    made_of (makes_by planned number) shown ≡ fill_by (edits_in (planned shown)) number
made_exact planned number shown same =
    made_shown (λ shown. fill_by (edits_in (planned shown)) number) shown (fill_by (edits_in (planned None)) number) (fill_by (edits_in (planned shown)) number) refl same

same_fill : (v w : Plan) (number : ℕ) → plan_shape v ≡ plan_shape w → value_at (byte_writes (edits_in v)) number ≡ value_at (byte_writes (edits_in w)) number → fill_by (edits_in v) number ≡ fill_by (edits_in w) number
same_fill v w number shape value =
    ap₂ (λ freed (o : Option (List ℕ)). if member number freed then Some Freed else option_map (λ bytes. Written bytes) o) (freed_same (edits_in v) (edits_in w) (edits_same v w shape)) value

module _ (planner : Planner) (sound : IsSoundPlanner planner) (places : WritesInPlace planner) (op : Op) (g : Hand) (n time : ℕ) (cached : Cached) (held : Segments) (segments : ℕ) (disk : Sectors) (tree : FileTree) (naming : Naming)
    (of : IsOfTree (store_on segments disk) tree naming) (as_cached : (sector : ℕ) (block : List ℕ) → value_at cached sector ≡ Some block → block ≡ disk sector) (f : Finish)
    (over_bytes : run (planner g n time op) (store_of segments disk) ≡ Finishes f)
    (there : (x : Sector) → Contains (looks (planner g n time op) (store_on segments disk)) x → is_at_hand (at_hand cached held) x ≡ true) where
  abbrev s : Store
  s = store_of segments disk

  abbrev b : Store
  b = store_on segments disk

  abbrev q : Ask Plan
  q = planner g n time op

  abbrev planned : Option Block → Plan
  planned shown = run q (store_showing shown segments disk)

  abbrev reads : List ℕ
  reads = filter_map plain (looks q b)

  shape : (shown : Option Block) → plan_shape (planned shown) ≡ plan_shape (run q s)
  shape shown =
      (sound.blind op g b n time (λ block index. byte_shown shown (index % 512)) (λ large index. byte_shown shown (index % 512))).1 ∙ sym (sound.blind op g b n time s.byte s.large_byte).1

  -- ---- a sector that is read

  block_of : (number : ℕ) → member number reads ≡ true → (block : Block) × (value_at cached number ≡ Some block)
  block_of number e = let r = filter_from plain (looks q b) number (member_has number reads e) in by_sector r.0 r.2 (there r.0 r.1)
    where
      by_value : (sector : ℕ) → sector ≡ number → (o : Option (List ℕ)) → value_at cached sector ≡ o → is_some (bytes_at_hand cached sector) ≡ true → (block : Block) × (value_at cached number ≡ Some block)
      by_value sector same None i h = absurd (let z : is_some (bytes_at_hand cached sector) ≡ false = rw i refl in cc)
      by_value sector same (Some block) i h = (block, ap (value_at cached) (sym same) ∙ i)

      by_sector : (x : Sector) → plain x ≡ Some number → is_at_hand (at_hand cached held) x ≡ true → (block : Block) × (value_at cached number ≡ Some block)
      by_sector (InodeAt i) p h = absurd (cc)
      by_sector (DirectoryAt k part) p h = absurd (cc)
      by_sector (SegmentAt k) p h = absurd (cc)
      by_sector (BytesAt k part) p h = by_value (sector_of (region.Small k part)) (let z : sector_of (region.Small k part) ≡ number = cc in z) (value_at cached (sector_of (region.Small k part))) refl h
      by_sector (LargeAt l part) p h = by_value (sector_of (region.Large l part)) (let z : sector_of (region.Large l part) ≡ number = cc in z) (value_at cached (sector_of (region.Large l part))) refl h

  same_shown : (number : ℕ) (block : Block) → block ≡ disk number → SameBytesAt s.byte s.large_byte (λ k index. byte_shown (Some block) (index % 512)) (λ l index. byte_shown (Some block) (index % 512)) number
  same_shown number block is = record {
    small = λ k part e. part_same (λ k index. byte_shown (Some block) (index % 512)) s.byte k part
        (λ r l. let a : part ≡ (512 * part + r) / 512 = omega arith in
        ap (λ z. slice_index z ((512 * part + r) % 512)) (is ∙ ap disk (sym e) ∙ ap (λ z. disk (sector_of (region.Small k z))) a));
    large = λ h part e. part_same (λ k index. byte_shown (Some block) (index % 512)) s.large_byte h part
        (λ r l. let a : part ≡ (512 * part + r) / 512 = omega arith in
        ap (λ z. slice_index z ((512 * part + r) % 512)) (is ∙ ap disk (sym e) ∙ ap (λ z. disk (sector_of (region.Large h z))) a));
  }

  read_value : (number : ℕ) (block : Block) → block ≡ disk number → value_at (byte_writes (edits_in (planned (Some block)))) number ≡ value_at (byte_writes (edits_in (run q s))) number
  read_value number block is =
      places op g b tree naming n time s.byte s.large_byte (λ k index. byte_shown (Some block) (index % 512)) (λ l index. byte_shown (Some block) (index % 512)) number of (same_shown number block is)

  -- ---- a sector that isn't read

  module _ (number : ℕ) (unread : member number reads ≡ false) where
    -- the bytes with zeros for those of this sector
    abbrev byte : ℕ → ℕ → ℕ
    byte k index = if nat_eq (number_of (BytesAt k (index / 512))) number then 0 else s.byte k index

    abbrev large_byte : ℕ → ℕ → ℕ
    large_byte l index = if nat_eq (number_of (LargeAt l (index / 512))) number then 0 else s.large_byte l index

    elsewhere : (x : Sector) → Contains (looks q b) x → plain x ≡ Some (number_of x) → nat_eq (number_of x) number ≡ false
    elsewhere x c p = go (nat_eq (number_of x) number) refl
      where
        go : (d : Bool) → nat_eq (number_of x) number ≡ d → d ≡ false
        go false e = refl
        go true e = absurd (let z : member number reads ≡ true = has_member number reads (filter_has plain (looks q b) x number (p ∙ ap Some (eqb-true (number_of x) number e)) c) in cc)

    says : (xs : List Sector) → ((x : Sector) → Contains xs x → Contains (looks q b) x) → AllSayTheSame s (with_bytes s byte large_byte) xs
    says [] among = tt
    says (InodeAt i ∷ xs) among = (refl, says xs (λ x c. among x (has_more (InodeAt i) x xs c)))
    says (DirectoryAt k part ∷ xs) among = (refl, says xs (λ x c. among x (has_more (DirectoryAt k part) x xs c)))
    says (SegmentAt k ∷ xs) among = (tt, says xs (λ x c. among x (has_more (SegmentAt k) x xs c)))
    says (BytesAt k part ∷ xs) among = (
      part_same byte s.byte k part (λ r l. let a : part ≡ (512 * part + r) / 512 = omega arith in
          let e : nat_eq (number_of (BytesAt k ((512 * part + r) / 512))) number ≡ false = subst (λ z. nat_eq (number_of (BytesAt k z)) number ≡ false) a (elsewhere (BytesAt k part) (among (BytesAt k part) (has_head (BytesAt k part) xs)) refl) in
          ap (λ z. if z then 0 else s.byte k (512 * part + r)) e),
      says xs (λ x c. among x (has_more (BytesAt k part) x xs c)),
    )
    says (LargeAt h part ∷ xs) among = (
      part_same large_byte s.large_byte h part (λ r l. let a : part ≡ (512 * part + r) / 512 = omega arith in
          let e : nat_eq (number_of (LargeAt h ((512 * part + r) / 512))) number ≡ false = subst (λ z. nat_eq (number_of (LargeAt h z)) number ≡ false) a (elsewhere (LargeAt h part) (among (LargeAt h part) (has_head (LargeAt h part) xs)) refl) in
          ap (λ z. if z then 0 else s.large_byte h (512 * part + r)) e),
      says xs (λ x c. among x (has_more (LargeAt h part) x xs c)),
    )

    same_run : run q (with_bytes s byte large_byte) ≡ run q s
    same_run = (framed q s (with_bytes s byte large_byte) (says (looks q s) (λ x c. subst (λ l. Contains l x) (sound.blind op g b n time s.byte s.large_byte).0 c))).0

    same_zero : SameBytesAt byte large_byte (λ k index. byte_shown None (index % 512)) (λ l index. byte_shown None (index % 512)) number
    same_zero = record {
      small = λ k part e. part_same (λ k index. byte_shown None (index % 512)) byte k part
          (λ r l. let a : part ≡ (512 * part + r) / 512 = omega arith in
          let t : nat_eq (number_of (BytesAt k ((512 * part + r) / 512))) number ≡ true = eq-eqb (number_of (BytesAt k ((512 * part + r) / 512))) number (ap (λ z. number_of (BytesAt k z)) (sym a) ∙ e) in
          ap (λ z. if z then 0 else s.byte k (512 * part + r)) (sym t));
      large = λ h part e. part_same (λ k index. byte_shown None (index % 512)) large_byte h part
          (λ r l. let a : part ≡ (512 * part + r) / 512 = omega arith in
          let t : nat_eq (number_of (LargeAt h ((512 * part + r) / 512))) number ≡ true = eq-eqb (number_of (LargeAt h ((512 * part + r) / 512))) number (ap (λ z. number_of (LargeAt h z)) (sym a) ∙ e) in
          ap (λ z. if z then 0 else s.large_byte h (512 * part + r)) (sym t));
    }

    unread_value : value_at (byte_writes (edits_in (planned None))) number ≡ value_at (byte_writes (edits_in (run q s))) number
    unread_value =
        places op g b tree naming n time byte large_byte (λ k index. byte_shown None (index % 512)) (λ l index. byte_shown None (index % 512)) number of same_zero
        ∙ ap (λ v. value_at (byte_writes (edits_in v)) number) same_run

  -- ---- either way

  abbrev shown_at : ℕ → Option Block
  shown_at number = if member number reads then value_at cached number else None

  shown_value : (number : ℕ) → value_at (byte_writes (edits_in (planned (shown_at number)))) number ≡ value_at (byte_writes (edits_in (run q s))) number
  shown_value number = go (member number reads) refl
    where
      go : (d : Bool) → member number reads ≡ d → value_at (byte_writes (edits_in (planned (if d then value_at cached number else None)))) number ≡ value_at (byte_writes (edits_in (run q s))) number
      go true e = let r = block_of number e in ap (λ o. value_at (byte_writes (edits_in (planned o))) number) r.1 ∙ read_value number r.0 (as_cached number r.0 r.1)
      go false e = unread_value number e

  pub made : (number : ℕ) → made_of (makes_by planned number) (shown_at number) ≡ fill_by f.edits number
  made number =
      let shown = shown_at number in
      made_exact planned number shown (fills_same (edits_in (planned shown)) (edits_in (planned None)) (edits_same (planned shown) (planned None) (shape shown ∙ sym (shape None))) number)
      ∙ same_fill (planned shown) (run q s) number (shape shown) (shown_value number)
      ∙ ap (λ v. fill_by (edits_in v) number) over_bytes
