-- Each sector with a version at which a line looks, or that it changes, has one by what the disk says, or is of an unused block.
use Rattle.std.proofs.Common.{ℕ, ◌≡◌, ◌⊎◌, ◌<◌, ◌≤◌, inl, inr, ⊎_elim, true, false, if◌then◌else◌, IsTrue, Option, Some, None, List, [], ◌∷◌, map, nat_lt, is_some, refl, sym, ap, ◌∙◌, subst}
use Rattle.std.proofs.lemmas.Bool.{and_parts, ltb-true}
use Rattle.std.proofs.lemmas.List.Elements.{Contains-append_cases}
use Rattle.std.specs.List.{filter_map, Contains}
use Rattle.frang_base.specs.declared.change.Change.{Change}
use Rattle.frang_base.specs.declared.op.Op.{Op}
use Rattle.frang_base.specs.Functions.{member}
use Rattle.sector_bytes.specs.Replays.{change_at}
use Rattle.sector_bytes.specs.Sectors.{Sectors}
use Rattle.sector_world.specs.Plans.{Outcome}
use Rattle.tree_definitions.specs.Tree.{FileTree}
use Rattle.disk_definitions.specs.declared.region.Region.TheVariants as region
use Rattle.disk_definitions.proofs.RegionLaws.{region_found}
use Rattle.disk_definitions.specs.Ask.{Sector, InodeAt, DirectoryAt, SegmentAt, BytesAt, LargeAt, Ask, run, looks, number_of}
use Rattle.disk_definitions.specs.Edits.Edit.{SetInode, SetLarge}
use Rattle.disk_definitions.specs.Lines.{plan_of_line}
use Rattle.disk_definitions.specs.Meets.{IsHandOf}
use Rattle.disk_definitions.specs.Naming.{Naming}
use Rattle.disk_definitions.specs.Numbered.{sector_in, sector_at}
use Rattle.disk_definitions.specs.Plans.{Hand, Finish, Plan}
use Rattle.disk_definitions.specs.Plans.Plan.{Finishes}
use Rattle.disk_definitions.specs.Store.{Store}
use Rattle.plan_fit.proofs.Kept.{edit_in_range, in_small}
use Rattle.plan_laws.proofs.Covering.{has_cases, not_in_none}
use Rattle.plan_laws.proofs.Filled.{filter_from}
use Rattle.line_histories.specs.Done.{IsWholeDisk}
use Rattle.line_histories.specs.Following.{is_versioned}
use Rattle.line_histories.specs.LinePlans.{are_segments, hand_on, outcome_by, segment_number, store_on, store_showing, versioned}
use Rattle.line_histories.specs.Outcomes.{IsOfAPlan}
use Rattle.line_histories.proofs.Guarded.{inside, lines_guarded, part}
use Rattle.line_histories.proofs.Hands.{is_hand}
use Rattle.line_histories.proofs.LinesSound.{lines_are_sound}
use Rattle.line_histories.proofs.Lists.{has_map, member_has}
use Rattle.line_histories.proofs.NearSegments.{lines_look_in_segments}
use Rattle.line_histories.proofs.Outcomes.{outcomes_of_plans}
use Rattle.line_sectors.specs.Looks.{IsOfFresh, LinesLookAtVersions}
use Rattle.line_sectors.proofs.Looks.{lines_look_at_directories}

-- each segment of a hint is one of the disk's
hinted : (segments : ℕ) (hint : List ℕ) → are_segments segments hint ≡ true → (k : ℕ) → Contains hint k → k < segments
hinted segments [] e k c = absurd (not_in_none k c)
hinted segments (j ∷ hint) e k c =
    let p = and_parts (nat_lt j segments) (are_segments segments hint) e in
    ⊎_elim (λ q. subst (λ z. z < segments) q (ltb-true j segments p.0)) (λ d. hinted segments hint p.1 k d) (has_cases j k hint c)

one_sector : (x y : Sector) → Some x ≡ Some y → x ≡ y
one_sector x y e = cc

module _ (segments : ℕ) (when : ℕ → ℕ) (hint : List ℕ) (n : ℕ) (op : Op) (disk : Sectors) (tree : FileTree) (naming : Naming) (on : IsWholeDisk segments disk tree naming) (known : are_segments segments hint ≡ true) (f : Finish)
    (is : run (plan_of_line (hand_on segments disk hint) n (when n) op) (store_on segments disk) ≡ Finishes f) where
  abbrev b : Store
  b = store_on segments disk

  abbrev h : Hand
  h = hand_on segments disk hint

  abbrev p : Ask Plan
  p = plan_of_line h n (when n) op

  few : segments ≤ 64
  few = subst (λ k. k ≤ 64) on.of.count on.of.of.few

  hand : IsHandOf h b tree.segments
  hand = subst (IsHandOf h b) (sym on.of.count) (is_hand segments disk hint on.of.clear)

  abbrev HasOne : Sector → Type 0
  HasOne x = (is_versioned b x ≡ true) ⊎ IsOfFresh b x

  -- the sector with the number of one that was looked at
  at : (x : Sector) → Contains (looks p b) x → (number : ℕ) → versioned x ≡ Some number → (y : Sector) → sector_at segments number ≡ Some y → HasOne y
  at (InodeAt i) c number e y here = subst HasOne (one_sector (InodeAt i) y (lies ∙ ap (λ m. sector_at segments m) number_is ∙ here)) (inl refl)
    where
      number_is : number_of (InodeAt i) ≡ number
      number_is = cc

      lies : Some (InodeAt i) ≡ sector_at segments (number_of (InodeAt i))
      lies = sym (ap sector_in (region_found segments (region.Inode i) few (edit_in_range segments (SetInode i None false) (inside plan_of_line lines_are_sound segments when hint n op disk tree naming on.of f is (InodeAt i) c))))
  at (SegmentAt k) c number e y here = subst HasOne (one_sector (SegmentAt k) y (lies ∙ ap (λ m. sector_at segments m) number_is ∙ here)) (inl refl)
    where
      number_is : number_of (SegmentAt k) ≡ number
      number_is = cc

      lies : Some (SegmentAt k) ≡ sector_at segments (number_of (SegmentAt k))
      lies = sym (ap sector_in (region_found segments (region.Segment k) few (edit_in_range segments (SetLarge k true) (subst (λ m. k < m) on.of.count (lines_look_in_segments b tree naming on.of.of op h n (when n) hand k c)))))
  at (DirectoryAt k j) c number e y here = subst HasOne (one_sector (DirectoryAt k j) y (lies ∙ ap (λ m. sector_at segments m) number_is ∙ here)) kind
    where
      number_is : number_of (DirectoryAt k j) ≡ number
      number_is = cc

      lies : Some (DirectoryAt k j) ≡ sector_at segments (number_of (DirectoryAt k j))
      lies = sym (ap sector_in (region_found segments (region.Small k j) few
          (in_small segments k j (inside plan_of_line lines_are_sound segments when hint n op disk tree naming on.of f is (DirectoryAt k j) c)
          (part plan_of_line lines_are_sound segments when hint n op disk tree naming on.of f is (DirectoryAt k j) c))))

      kind : HasOne (DirectoryAt k j)
      kind = ⊎_elim inl (λ q. inr q.0) (lines_look_at_directories op h b tree naming n (when n) on.of.of hand (DirectoryAt k j) c)
  at (BytesAt k j) c number e y here = absurd (cc)
  at (LargeAt g j) c number e y here = absurd (cc)

  at_hint : (k : ℕ) → Contains hint k → (number : ℕ) → segment_number k ≡ number → (y : Sector) → sector_at segments number ≡ Some y → HasOne y
  at_hint k c number e y here =
      let lies : sector_at segments number ≡ Some (SegmentAt k) = ap (λ m. sector_at segments m) (sym e) ∙ ap sector_in (region_found segments (region.Segment k) few (edit_in_range segments (SetLarge k true) (hinted segments hint known k c))) in
      subst HasOne (one_sector (SegmentAt k) y (sym lies ∙ here)) (inl refl)

  abbrev o : Outcome
  o = outcome_by segments disk hint (λ shown. run p (store_showing shown segments disk)) (looks p b) f

  looked : (number : ℕ) → member number o.looked ≡ true → (y : Sector) → sector_at segments number ≡ Some y → HasOne y
  looked number e y here = ⊎_elim
      (λ c. let r = filter_from versioned (looks p b) number c in at r.0 r.1 number r.2 y here)
      (λ c. let r = has_map segment_number hint number c in at_hint r.0 r.1 number r.2 y here)
      (Contains-append_cases (filter_map versioned (looks p b)) (map segment_number hint) number (member_has number o.looked e))

pub lines_look_at_versions : LinesLookAtVersions
lines_look_at_versions segments when hint n op disk tree naming o on e number y look here =
    let r : IsOfAPlan plan_of_line segments when hint n op disk o = outcomes_of_plans plan_of_line segments when hint n op disk o e in
    looked segments when hint n op disk tree naming on r.known r.comes.finish r.comes.is number (ap (λ (v : Outcome). member number v.looked) (sym r.comes.outcome) ∙ was (change_at o.changes number) refl look) y here
  where
    was : (q : Option Change) → change_at o.changes number ≡ q → IsTrue (if is_some q then true else member number o.looked) → member number o.looked ≡ true
    was None i t = t
    was (Some c) i t = ((lines_guarded segments when hint n op disk tree naming o on.of e).based number c i).0
