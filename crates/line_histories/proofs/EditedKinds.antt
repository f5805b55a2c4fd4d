-- What a line changes has a version after it, and what it writes or frees as bytes has none.
use Rattle.std.proofs.Common.{ℕ, ◌≡◌, ◌<◌, ◌≤◌, inl, inr, Bool, true, false, if◌then◌else◌, IsSome, Option, Some, None, List, [], ◌∷◌, refl, sym, ap, ◌∙◌, subst}
use Rattle.std.specs.List.{flat_map, Contains}
use Rattle.frang_base.specs.declared.change.Change.{Change}
use Rattle.frang_base.specs.Functions.{member}
use Rattle.sector_bytes.specs.Blocks.{Block}
use Rattle.sector_bytes.specs.Replays.{change_at}
use Rattle.sector_world.specs.Histories.{Fill, Commit, Item, is_logged, Changes, Writes}
use Rattle.sector_world.specs.Histories.Item.{Done}
use Rattle.sector_world.specs.Plans.{Outcome, Legal, made_of}
use Rattle.sector_world.specs.Trees.{Distinct}
use Rattle.disk_definitions.specs.declared.region.Region.TheVariants as region
use Rattle.disk_definitions.specs.Regions.{sector_of}
use Rattle.disk_definitions.proofs.RegionLaws.{region_found}
use Rattle.tree_definitions.specs.Numbers.{below}
use Rattle.disk_definitions.specs.Store.{Store}
use Rattle.disk_definitions.specs.Store.Use.{Fresh, Bytes, Empty, Entries}
use Rattle.disk_definitions.specs.Edits.{Edit}
use Rattle.disk_definitions.specs.Edits.Edit.{SetInode, SetBit, SetUse, SetPlace, SetLarge, SetBytes, SetLargeBytes}
use Rattle.disk_definitions.specs.Ask.{Sector, DirectoryAt, LargeAt, Ask, run}
use Rattle.disk_definitions.specs.FitEdits.{MeetsUse, AreFit}
use Rattle.disk_definitions.specs.Lines.{plan_of_line}
use Rattle.disk_definitions.specs.Meets.{is_directory_use}
use Rattle.disk_definitions.specs.Numbered.{sector_in, sector_at}
use Rattle.disk_definitions.specs.Plans.{Plan}
use Rattle.disk_definitions.specs.Written.{byte_write, is_metadata, edit_sector, edited_block, sectors_given_back, freed_sectors}
use Rattle.plan_fit.proofs.Kept.{in_small, in_large}
use Rattle.plan_fit.proofs.Uses as uses
use Rattle.plan_laws.proofs.Covering.{not_in_none}
use Rattle.plan_laws.proofs.Filled.{flat_from, filter_from}
use Rattle.plan_laws.specs.Plans.{Fills}
use Rattle.line_histories.specs.Following.{is_versioned, KindsFollow, KeepsKinds}
use Rattle.line_histories.specs.Laws.{LinesKeepKinds}
use Rattle.line_histories.specs.LinePlans.{hand_on, store_showing, store_on, fill_by, edits_in, sector_plan}
use Rattle.line_histories.specs.Standing.{StandsNumbered}
use Rattle.line_histories.specs.Trees.{AreTimes, NumberedTree, MayTake}
use Rattle.line_histories.proofs.Apart.{one_fit}
use Rattle.line_histories.proofs.Changes.{change_of_edit, ascending_member}
use Rattle.line_histories.proofs.Following as following
use Rattle.line_histories.proofs.Guarded.{filled_is, made_some}
use Rattle.line_histories.proofs.Lists.{has_member, member_has, has_map}
use Rattle.line_histories.proofs.Owned.{below_less, placed, placed_here, write_of}
use Rattle.line_histories.proofs.Runs.{numbered, take_distinct}

-- ---- the kinds of edited sectors

changed_kind : (end : Store) (e : Edit) → is_metadata e ≡ true → MeetsUse end e → is_versioned end (placed e) ≡ true
changed_kind end (SetInode i x dated) m u = refl
changed_kind end (SetBit i b) m u = refl
changed_kind end (SetUse k x) m u = refl
changed_kind end (SetPlace k p x) m u = uses.is_metadata (end.use_of k) u
changed_kind end (SetLarge g b) m u = refl
changed_kind end (SetBytes k part bytes) m u = absurd (cc)
changed_kind end (SetLargeBytes g part bytes) m u = absurd (cc)

written_kind : (end : Store) (e : Edit) → is_metadata e ≡ false → MeetsUse end e → is_versioned end (placed e) ≡ false
written_kind end (SetBytes k part bytes) m u = ap is_directory_use u
written_kind end (SetLargeBytes g part bytes) m u = refl
written_kind end (SetInode i x dated) m u = absurd (cc)
written_kind end (SetBit i b) m u = absurd (cc)
written_kind end (SetUse k x) m u = absurd (cc)
written_kind end (SetPlace k p x) m u = absurd (cc)
written_kind end (SetLarge g b) m u = absurd (cc)

-- a write is of an edit of bytes
plain_write : (e : Edit) (v : ℕ × List ℕ) → byte_write e ≡ Some v → is_metadata e ≡ false
plain_write e v = go (edit_sector e, edited_block [] 0 e) (is_metadata e)
  where
    go : (w : ℕ × List ℕ) (b : Bool) → (if b then None else Some w) ≡ Some v → b ≡ false
    go w true i = absurd (cc)
    go w false i = refl

-- a sector of the disk that has a version, or none
record IsOfKind (segments : ℕ) (end : Store) (kind : Bool) (number : ℕ) : Type 0 where
  pub sector : Sector
  pub here : sector_at segments number ≡ Some sector
  pub kind_is : is_versioned end sector ≡ kind

module _ (segments : ℕ) (few : segments ≤ 64) (end : Store) (edits : List Edit) (fit : AreFit segments end edits) (fresh : (k : ℕ) → Contains edits (SetUse k Fresh) → end.use_of k ≡ Fresh) where
  edit_kind : (kind : Bool) (e : Edit) → Contains edits e → is_versioned end (placed e) ≡ kind → (number : ℕ) → edit_sector e ≡ number → IsOfKind segments end kind number
  edit_kind kind e c v number same = record { sector = placed e; here = ap (sector_at segments) (sym same) ∙ placed_here segments few e (one_fit segments end edits e fit c).0; kind_is = v }

  change_kind : (e : Edit) → Contains edits e → is_metadata e ≡ true → (number : ℕ) → edit_sector e ≡ number → IsOfKind segments end true number
  change_kind e c m = edit_kind true e c (changed_kind end e m (one_fit segments end edits e fit c).1)

  write_kind : (e : Edit) → Contains edits e → is_metadata e ≡ false → (number : ℕ) → edit_sector e ≡ number → IsOfKind segments end false number
  write_kind e c m = edit_kind false e c (written_kind end e m (one_fit segments end edits e fit c).1)

  small_kind : (k part number : ℕ) → Contains edits (SetUse k Fresh) → part < 8 → sector_of (region.Small k part) ≡ number → IsOfKind segments end false number
  small_kind k part number c l e = record {
    sector = DirectoryAt k part;
    here = ap (sector_at segments) (sym e) ∙ ap sector_in (region_found segments (region.Small k part) few (in_small segments k part (one_fit segments end edits (SetUse k Fresh) fit c).0 l));
    kind_is = ap is_directory_use (fresh k c);
  }

  large_kind : (g part number : ℕ) → Contains edits (SetLarge g false) → part < 2048 → sector_of (region.Large g part) ≡ number → IsOfKind segments end false number
  large_kind g part number c l e = record {
    sector = LargeAt g part;
    here = ap (sector_at segments) (sym e) ∙ ap sector_in (region_found segments (region.Large g part) few (in_large segments g part (one_fit segments end edits (SetLarge g false) fit c).0 l));
    kind_is = refl;
  }

  freed_kind : (number : ℕ) (e : Edit) → Contains edits e → Contains (sectors_given_back e) number → IsOfKind segments end false number
  freed_kind number (SetUse k Fresh) c i = let r = has_map (λ part. sector_of (region.Small k part)) (below 8) number i in small_kind k r.0 number c (below_less 8 r.0 r.1) r.2
  freed_kind number (SetUse k Bytes) c i = absurd (not_in_none number i)
  freed_kind number (SetUse k Empty) c i = absurd (not_in_none number i)
  freed_kind number (SetUse k Entries) c i = absurd (not_in_none number i)
  freed_kind number (SetLarge g false) c i = let r = has_map (λ part. sector_of (region.Large g part)) (below 2048) number i in large_kind g r.0 number c (below_less 2048 r.0 r.1) r.2
  freed_kind number (SetLarge g true) c i = absurd (not_in_none number i)
  freed_kind number (SetInode j x dated) c i = absurd (not_in_none number i)
  freed_kind number (SetBit j u) c i = absurd (not_in_none number i)
  freed_kind number (SetPlace k q e) c i = absurd (not_in_none number i)
  freed_kind number (SetBytes k part bytes) c i = absurd (not_in_none number i)
  freed_kind number (SetLargeBytes g part bytes) c i = absurd (not_in_none number i)

  fill_kind : (number : ℕ) → Fills edits number → IsOfKind segments end false number
  fill_kind number (inl w) = let r = filter_from byte_write edits (number, w.0) w.1 in write_kind r.0 r.1 (plain_write r.0 (number, w.0) r.2) number (write_of r.0 number w.0 r.2)
  fill_kind number (inr i) =
      let m : member number (flat_map sectors_given_back edits) ≡ true = sym (ascending_member number (flat_map sectors_given_back edits)) ∙ has_member number (freed_sectors edits) i in
      let r = flat_from sectors_given_back edits number (member_has number (flat_map sectors_given_back edits) m) in
      freed_kind number r.0 r.1 r.2

-- ---- one operation more

makes_some : (make : Option (Option Block → Fill)) (shown : Option Block) → IsSome (made_of make shown) → IsSome make
makes_some None shown e = absurd (cc)
makes_some (Some make) shown e = refl

module _ (segments : ℕ) (when : ℕ → ℕ) (times : AreTimes when) (opening : ℕ → Block) (start : NumberedTree) (begins : StandsNumbered segments opening start) (c : Commit) (h : List Item)
    (l : Legal (sector_plan segments when) opening (Done c ∷ h)) (d : Distinct MayTake start (Done c ∷ h)) (logged : ℕ → Bool) (kinds : KindsFollow segments opening logged h)
    (made : (number : ℕ) → c.writes number ≡ made_of (c.makes number) (c.shown number)) where
  abbrev edits : List Edit
  edits = following.edits segments when times opening start begins c h l d

  abbrev end : Store
  end = store_on segments (following.next segments when times opening start begins c h l d)

  few : segments ≤ 64
  few = following.few segments when times opening start begins c h l d

  fit : AreFit segments end edits
  fit = (following.step segments when times opening start begins c h l d).fit

  fresh : (k : ℕ) → Contains edits (SetUse k Fresh) → end.use_of k ≡ Fresh
  fresh = (following.step segments when times opening start begins c h l d).small_fresh

  outcome_is : (number : ℕ) → change_at c.changes number ≡ change_at (following.outcome segments when times opening start begins c h l d).changes number
  outcome_is number = ap (λ (q : Outcome). change_at q.changes number) (following.fin segments when times opening start begins c h l d).comes.outcome

  by_kind : (kind : Bool) (number : ℕ) → IsOfKind segments end kind number → is_logged logged (Done c ∷ h) number ≡ kind
  by_kind kind number r =
      following.kinds_on segments when times opening start begins c h l d logged kinds number r.sector r.here
      ∙ ap (λ s. is_versioned s r.sector) (following.store_is segments when times opening start begins c h l d) ∙ r.kind_is

  named : (number : ℕ) → Changes number c → is_logged logged (Done c ∷ h) number ≡ true
  named number s = go (change_at c.changes number) refl s
    where
      go : (o : Option Change) → change_at c.changes number ≡ o → IsSome o → is_logged logged (Done c ∷ h) number ≡ true
      go None e s = absurd (cc)
      go (Some change) e s =
          let r = (change_of_edit (following.disk segments when times opening start begins c h l d) edits number change (sym (outcome_is number) ∙ e)).edited in
          by_kind true number (change_kind segments few end edits fit fresh r.edit r.among r.metadata number r.here)

  plain : (number : ℕ) → Writes number c → is_logged logged (Done c ∷ h) number ≡ false
  plain number s =
      let o = following.outcome segments when times opening start begins c h l d in
      let fin = following.fin segments when times opening start begins c h l d in
      let disk = following.disk segments when times opening start begins c h l d in
      let p : Ask Plan = plan_of_line (hand_on segments disk c.hint) c.op (when c.op) c.asked in
      let makes : IsSome (c.makes number) = makes_some (c.makes number) (c.shown number) (subst (λ v. IsSome v) (made number) s) in
      let planned : IsSome (o.makes number) = subst (λ v. IsSome v) (ap (λ (q : Outcome). q.makes number) fin.comes.outcome) makes in
      let some : IsSome (fill_by (edits_in (run p (store_on segments disk))) number) =
      made_some (λ shown. fill_by (edits_in (run p (store_showing shown segments disk))) number) (fill_by (edits_in (run p (store_on segments disk))) number) planned in
      let some_edit : IsSome (fill_by edits number) = subst (λ v. IsSome (fill_by (edits_in v) number)) fin.comes.is some in
      by_kind false number (fill_kind segments few end edits fit fresh number (filled_is edits number some_edit))

  all_kept : KeepsKinds logged h c
  all_kept = record { named = named; plain = plain }

pub lines_keep : LinesKeepKinds
lines_keep segments when opening first_tree numbers h c logged times begins legal distinct made kinds =
    all_kept segments when times opening (numbered first_tree numbers) begins c h legal (take_distinct when first_tree numbers (Done c ∷ h) distinct) logged kinds made
