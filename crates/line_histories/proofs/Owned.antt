-- What an outcome changes, writes and frees lies on the disk, and was under locks that it uses alone.
use Rattle.std.proofs.Common.{ℕ, zero, suc, ◌≡◌, ◌<◌, ◌≤◌, ◌/◌, ◌^◌, inl, inr, ⊎_elim, Bool, true, false, if◌then◌else◌, IsSome, Option, Some, None, List, [], refl, sym, ap, ◌∙◌, subst, arith}
use Rattle.std.proofs.lemmas.List.Elements.{Contains-push_cases}
use Rattle.std.specs.List.{flat_map, Contains}
use Rattle.std.proofs.lemmas.Bool.{eq-eqb}
use Rattle.frang_base.specs.declared.change.Change.{Change}
use Rattle.frang_base.specs.declared.lock.LockId.{LockId}
use Rattle.frang_base.specs.declared.lock.LockId.TheVariants as lock
use Rattle.frang_base.specs.declared.op.Op.{Op}
use Rattle.frang_base.specs.Functions.{member}
use Rattle.sector_bytes.specs.Blocks.{Block}
use Rattle.sector_bytes.specs.Replays.{change_at}
use Rattle.sector_bytes.specs.Sectors.{Sectors}
use Rattle.sector_world.specs.Plans.{Outcome}
use Rattle.disk_definitions.specs.declared.region.Region.TheVariants as region
use Rattle.disk_definitions.specs.Regions.{sector_of}
use Rattle.disk_definitions.proofs.RegionLaws.{region_found}
use Rattle.tree_definitions.specs.Numbers.{below}
use Rattle.tree_definitions.specs.Tree.{FileTree}
use Rattle.disk_definitions.specs.Naming.{Naming}
use Rattle.disk_definitions.specs.Store.{Store, Use, is_unused, store_of}
use Rattle.disk_definitions.specs.Store.Use.{Fresh, Bytes, Empty, Entries}
use Rattle.disk_definitions.specs.Edits.{Edit, edited_all}
use Rattle.disk_definitions.specs.Edits.Edit.{SetInode, SetBit, SetUse, SetPlace, SetLarge, SetBytes, SetLargeBytes}
use Rattle.disk_definitions.specs.Allowed.{IsAllowed}
use Rattle.disk_definitions.specs.Ask.{Sector, DirectoryAt, LargeAt, Ask, run, looks}
use Rattle.disk_definitions.specs.FitEdits.{AreFit, IsFitEdit}
use Rattle.disk_definitions.specs.FitPlans.{IsFitStore, PlanIsFit}
use Rattle.disk_definitions.specs.Meets.{IsHandOf}
use Rattle.disk_definitions.specs.Plans.{Hand, Plan, Finish}
use Rattle.disk_definitions.specs.Plans.Plan.{Finishes}
use Rattle.disk_definitions.specs.Written.{byte_write, is_metadata, edit_sector, edited_block, sectors_given_back, freed_sectors}
use Rattle.plan_fit.proofs.DecodedEntries.{disks_fit}
use Rattle.plan_laws.proofs.Covering.{not_in_none}
use Rattle.plan_laws.specs.Looked.{edited_at}
use Rattle.disk_definitions.specs.Covers.{cover_of}
use Rattle.disk_definitions.specs.Moves.{first_said, use_said, large_said, taker_said, large_taker_said, small_move, large_move, moved_by, node_lock}
use Rattle.plan_laws.specs.Moves.{AreTidy}
use Rattle.plan_laws.specs.Plans.{Planner, Fills}
use Rattle.plan_laws.proofs.Owned.{something_said}
use Rattle.plan_fit.proofs.Kept.{edit_in_range, in_small, in_large}
use Rattle.disk_definitions.specs.Lines.{plan_of_line}
use Rattle.disk_definitions.specs.Numbered.{sector_in, sector_at}
use Rattle.plan_laws.proofs.Filled.{flat_from, filter_from}
use Rattle.line_histories.specs.LinePlans.{hand_on, store_showing, store_on, fill_by, edits_in, outcome_by}
use Rattle.line_histories.specs.Planners.{IsSoundPlanner}
use Rattle.line_histories.specs.Done.{IsWholeDisk}
use Rattle.line_histories.specs.Outcomes.{IsOfAPlan}
use Rattle.line_histories.specs.Owned.{IsCoveredAt, OwnsWhatItWrites, SoundPlansOwn, LinePlansOwn}
use Rattle.line_histories.proofs.Apart.{one_fit}
use Rattle.line_histories.proofs.Changes.{change_of_edit, ascending_member}
use Rattle.line_histories.proofs.Guarded.{filled_is, made_some, sole_alone}
use Rattle.line_histories.proofs.Hands.{is_hand}
use Rattle.line_histories.proofs.LinesSound.{lines_are_sound}
use Rattle.line_histories.proofs.Lists.{has_member, member_has, has_map}
use Rattle.line_histories.proofs.Outcomes.{outcomes_of_plans}

-- ---- lists

pub below_less : (n j : ℕ) → Contains (below n) j → j < n
below_less zero j c = absurd (not_in_none j c)
below_less (suc n) j c = ⊎_elim (λ i. let l : j < n = below_less n j i in omega arith) (λ q. subst (λ z. z < suc n) q (omega arith)) (Contains-push_cases (below n) n j c)

-- ---- sectors of edits

-- the sector of an edit, one of a small block as a directory's
abbrev pub placed : Edit → Sector
placed (SetBytes k part bytes) = DirectoryAt k part
placed e = edited_at e

pub placed_cover : (naming : Naming) (e : Edit) → cover_of naming (edited_at e) ≡ cover_of naming (placed e)
placed_cover naming (SetInode i x dated) = refl
placed_cover naming (SetBit i b) = refl
placed_cover naming (SetUse k u) = refl
placed_cover naming (SetPlace k p e) = refl
placed_cover naming (SetLarge g b) = refl
placed_cover naming (SetBytes k part bytes) = refl
placed_cover naming (SetLargeBytes g part bytes) = refl

pub placed_here : (segments : ℕ) → segments ≤ 64 → (e : Edit) → IsFitEdit segments e → sector_at segments (edit_sector e) ≡ Some (placed e)
placed_here segments few (SetInode i x dated) fit = ap sector_in (region_found segments (region.Inode i) few (edit_in_range segments (SetInode i x dated) fit))
placed_here segments few (SetBit i b) fit = ap sector_in (region_found segments (region.Segment (i / 64)) few (edit_in_range segments (SetBit i b) fit))
placed_here segments few (SetUse k u) fit = ap sector_in (region_found segments (region.Segment (k / 1024)) few (edit_in_range segments (SetUse k u) fit))
placed_here segments few (SetPlace k p e) fit = ap sector_in (region_found segments (region.Small k (p / 7)) few (edit_in_range segments (SetPlace k p e) fit))
placed_here segments few (SetLarge g b) fit = ap sector_in (region_found segments (region.Segment g) few (edit_in_range segments (SetLarge g b) fit))
placed_here segments few (SetBytes k part bytes) fit = ap sector_in (region_found segments (region.Small k part) few (edit_in_range segments (SetBytes k part bytes) fit))
placed_here segments few (SetLargeBytes g part bytes) fit = ap sector_in (region_found segments (region.Large g part) few (edit_in_range segments (SetLargeBytes g part bytes) fit))

-- a write of bytes is of the sector of its edit
pub write_of : (e : Edit) (number : ℕ) (bytes : List ℕ) → byte_write e ≡ Some (number, bytes) → edit_sector e ≡ number
write_of e number bytes q = go (edit_sector e, edited_block [] 0 e) (is_metadata e) q
  where
    go : (v : ℕ × List ℕ) (b : Bool) → (if b then None else Some v) ≡ Some (number, bytes) → v.0 ≡ number
    go v true i = absurd (cc)
    go v false i = let z : v ≡ (number, bytes) = cc in ap (λ (y : ℕ × List ℕ). y.0) z

module _ (planner : Planner) (sound : IsSoundPlanner planner) (segments : ℕ) (when : ℕ → ℕ) (hint : List ℕ) (n : ℕ) (op : Op) (disk : Sectors) (tree : FileTree) (naming : Naming) (on : IsWholeDisk segments disk tree naming)
    (small : n < 2 ^ 64) (timely : when n < 2 ^ 64) (allowed : IsAllowed op) (f : Finish) (is : run (planner (hand_on segments disk hint) n (when n) op) (store_on segments disk) ≡ Finishes f) where
  abbrev b : Store
  b = store_on segments disk

  abbrev h : Hand
  h = hand_on segments disk hint

  abbrev p : Ask Plan
  p = planner h n (when n) op

  abbrev planned : Option Block → Plan
  planned shown = run p (store_showing shown segments disk)

  abbrev o : Outcome
  o = outcome_by segments disk hint planned (looks p b) f

  few : segments ≤ 64
  few = subst (λ k. k ≤ 64) on.of.count on.of.of.few

  hand : IsHandOf h b tree.segments
  hand = subst (IsHandOf h b) (sym on.of.count) (is_hand segments disk hint on.of.clear)

  fit : AreFit segments (edited_all b f.edits) f.edits
  fit = by_finish (subst (PlanIsFit h tree.segments b) is (sound.fit op h b tree naming n (when n) on.of.of hand (subst (λ k. IsFitStore k b) (sym on.of.count) blank_fit) small timely allowed))
    where
      all_fit : IsFitStore segments (store_of segments disk)
      all_fit = disks_fit disk segments on.grammar on.whole

      blank_fit : IsFitStore segments b
      blank_fit = record { nodes = all_fit.nodes; entries = all_fit.entries }

      by_finish : PlanIsFit h tree.segments b (Finishes f) → AreFit segments (edited_all b f.edits) f.edits
      by_finish m = subst (λ k. AreFit k (edited_all b f.edits) f.edits) on.of.count m.edits

  tidy : AreTidy b (edited_all b f.edits) f.edits
  tidy = sound.tidy op h b tree naming n (when n) f on.of.of hand is

  -- an edit is of a sector of the disk that is held alone
  own_edit : (e : Edit) → Contains f.edits e → (number : ℕ) → edit_sector e ≡ number → IsCoveredAt segments naming o.alone number
  own_edit e c number same = record {
    sector = placed e;
    here = ap (sector_at segments) (sym same) ∙ placed_here segments few e (one_fit segments (edited_all b f.edits) f.edits e fit c).0;
    covered = subst (Contains o.alone) (placed_cover naming e) (sole_alone f.locks (cover_of naming (edited_at e)) (sound.edits op h b tree naming n (when n) f on.of.of hand is e c));
  }

  -- a sector that moves was held alone
  own_move : (x : Sector) (new : LockId) → moved_by f.edits x ≡ Some new → (number : ℕ) → sector_at segments number ≡ Some x → IsCoveredAt segments naming o.alone number
  own_move x new m number e = record { sector = x; here = e; covered = sole_alone f.locks (cover_of naming x) (sound.owned op h b tree naming n (when n) f on.of.of hand is x new m).0 }

  -- a small block whose use is set moves, and so does a large one whose bit is
  small_moves : (k : ℕ) (u : Use) → first_said (use_said k) f.edits ≡ Some u → (new : LockId) × (small_move k (first_said (taker_said k) f.edits) (Some u) ≡ Some new)
  small_moves k u e = go (is_unused u) refl
    where
      go : (t : Bool) → is_unused u ≡ t → (new : LockId) × (small_move k (first_said (taker_said k) f.edits) (Some u) ≡ Some new)
      go true q = (lock.Segment (k / 1024), rw q refl)
      go false q = let r = tidy.gains k u e q in (node_lock r.0, rw (q, r.1) refl)

  large_moves : (g : ℕ) (u : Bool) → first_said (large_said g) f.edits ≡ Some u → (new : LockId) × (large_move g (first_said (large_taker_said g) f.edits) (Some u) ≡ Some new)
  large_moves g false e = (lock.Segment g, refl)
  large_moves g true e = let r = tidy.gains_large g e in (node_lock r.0, rw r.1 refl)

  freed_small : (k part number : ℕ) (u : Use) → Contains f.edits (SetUse k u) → part < 8 → sector_of (region.Small k part) ≡ number → IsCoveredAt segments naming o.alone number
  freed_small k part number u c l e =
      let said : use_said k (SetUse k u) ≡ Some u = ap (λ z. if z then Some u else None) (eq-eqb k k refl) in
      let first = something_said (use_said k) f.edits (SetUse k u) u c said in
      let new = small_moves k first.0 first.1 in
      let inside = (one_fit segments (edited_all b f.edits) f.edits (SetUse k u) fit c).0 in
      own_move (DirectoryAt k part) new.0 (ap (small_move k (first_said (taker_said k) f.edits)) first.1 ∙ new.1) number
      (ap (sector_at segments) (sym e) ∙ ap sector_in (region_found segments (region.Small k part) few (in_small segments k part inside l)))

  freed_large : (g part number : ℕ) (u : Bool) → Contains f.edits (SetLarge g u) → part < 2048 → sector_of (region.Large g part) ≡ number → IsCoveredAt segments naming o.alone number
  freed_large g part number u c l e =
      let said : large_said g (SetLarge g u) ≡ Some u = ap (λ z. if z then Some u else None) (eq-eqb g g refl) in
      let first = something_said (large_said g) f.edits (SetLarge g u) u c said in
      let new = large_moves g first.0 first.1 in
      let inside = (one_fit segments (edited_all b f.edits) f.edits (SetLarge g u) fit c).0 in
      own_move (LargeAt g part) new.0 (ap (large_move g (first_said (large_taker_said g) f.edits)) first.1 ∙ new.1) number
      (ap (sector_at segments) (sym e) ∙ ap sector_in (region_found segments (region.Large g part) few (in_large segments g part inside l)))

  own_freed : (number : ℕ) (e : Edit) → Contains f.edits e → Contains (sectors_given_back e) number → IsCoveredAt segments naming o.alone number
  own_freed number (SetUse k Fresh) c i = let r = has_map (λ part. sector_of (region.Small k part)) (below 8) number i in freed_small k r.0 number Fresh c (below_less 8 r.0 r.1) r.2
  own_freed number (SetUse k Bytes) c i = absurd (not_in_none number i)
  own_freed number (SetUse k Empty) c i = absurd (not_in_none number i)
  own_freed number (SetUse k Entries) c i = absurd (not_in_none number i)
  own_freed number (SetLarge g false) c i = let r = has_map (λ part. sector_of (region.Large g part)) (below 2048) number i in freed_large g r.0 number false c (below_less 2048 r.0 r.1) r.2
  own_freed number (SetLarge g true) c i = absurd (not_in_none number i)
  own_freed number (SetInode j x dated) c i = absurd (not_in_none number i)
  own_freed number (SetBit j u) c i = absurd (not_in_none number i)
  own_freed number (SetPlace k q e) c i = absurd (not_in_none number i)
  own_freed number (SetBytes k part bytes) c i = absurd (not_in_none number i)
  own_freed number (SetLargeBytes g part bytes) c i = absurd (not_in_none number i)

  own_fill : (number : ℕ) → Fills f.edits number → IsCoveredAt segments naming o.alone number
  own_fill number (inl w) = let r = filter_from byte_write f.edits (number, w.0) w.1 in own_edit r.0 r.1 number (write_of r.0 number w.0 r.2)
  own_fill number (inr i) =
      let m : member number (flat_map sectors_given_back f.edits) ≡ true = sym (ascending_member number (flat_map sectors_given_back f.edits)) ∙ has_member number (freed_sectors f.edits) i in
      let r = flat_from sectors_given_back f.edits number (member_has number (flat_map sectors_given_back f.edits) m) in
      own_freed number r.0 r.1 r.2

  own_made : (number : ℕ) → IsSome (o.makes number) → IsCoveredAt segments naming o.alone number
  own_made number e =
      let made : IsSome (fill_by (edits_in (run p b)) number) = made_some (λ shown. fill_by (edits_in (planned shown)) number) (fill_by (edits_in (run p b)) number) e in
      own_fill number (filled_is f.edits number (subst (λ v. IsSome (fill_by (edits_in v) number)) is made))

  own_change : (number : ℕ) (change : Change) → change_at o.changes number ≡ Some change → IsCoveredAt segments naming o.alone number
  own_change number change e = let r = (change_of_edit disk f.edits number change e).edited in own_edit r.edit r.among number r.here

  owns : OwnsWhatItWrites segments naming o
  owns = record { changed = own_change; made = own_made }

pub sound_owns : SoundPlansOwn
sound_owns planner sound segments when hint n op disk tree naming o on small timely e =
    let r : IsOfAPlan planner segments when hint n op disk o = outcomes_of_plans planner segments when hint n op disk o e in
    subst (OwnsWhatItWrites segments naming) (sym r.comes.outcome) (owns planner sound segments when hint n op disk tree naming on small timely r.allowed r.comes.finish r.comes.is)

pub lines_own : LinePlansOwn
lines_own segments when hint n op disk tree naming o on small timely e = sound_owns plan_of_line lines_are_sound segments when hint n op disk tree naming o on small timely e
