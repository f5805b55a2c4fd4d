-- What an outcome of a line looks at and reads lies on the disk, under locks that it uses.
use Rattle.std.proofs.Common.{ℕ, false, ◌≡◌, ◌<◌, ◌≤◌, ◌*◌, ⊎_elim, true, if◌then◌else◌, IsTrue, Option, Some, None, List, [], ◌∷◌, map, nat_lt, is_some, refl, sym, ap, ◌∙◌, subst}
use Rattle.std.proofs.lemmas.List.Elements.{Contains-append_right, Contains-append_cases}
use Rattle.std.specs.List.{filter_map, Contains}
use Rattle.std.proofs.lemmas.Bool.{and_parts, ltb-true}
use Rattle.frang_base.specs.declared.change.Change.{Change}
use Rattle.frang_base.specs.declared.lock.LockId.TheVariants as lock
use Rattle.frang_base.specs.declared.op.Op.{Op}
use Rattle.frang_base.specs.Functions.{member}
use Rattle.sector_bytes.specs.Blocks.{Block}
use Rattle.sector_bytes.specs.Replays.{change_at}
use Rattle.sector_bytes.specs.Sectors.{Sectors}
use Rattle.sector_world.specs.Plans.{Outcome, looks as touched}
use Rattle.disk_definitions.specs.declared.region.Region.TheVariants as region
use Rattle.disk_definitions.proofs.RegionLaws.{region_found}
use Rattle.disk_definitions.proofs.Counts.{files_fit}
use Rattle.disk_definitions.specs.ChangeLaws.{FilesFit}
use Rattle.disk_definitions.specs.FitPlans.{IsFitStore}
use Rattle.disk_definitions.specs.Meets.{IsHandOf}
use Rattle.disk_definitions.specs.Naming.{Naming}
use Rattle.disk_definitions.specs.Store.{Store, store_of}
use Rattle.disk_definitions.specs.Edits.Edit.{SetInode, SetLarge}
use Rattle.disk_definitions.specs.Ask.{Sector, InodeAt, DirectoryAt, SegmentAt, BytesAt, LargeAt, Ask, run, looks, number_of}
use Rattle.disk_definitions.specs.Plans.{Hand, Plan, Finish}
use Rattle.disk_definitions.specs.Plans.Plan.{Finishes}
use Rattle.disk_definitions.specs.Covers.{cover_of}
use Rattle.disk_definitions.specs.Numbered.{sector_in, sector_at}
use Rattle.disk_definitions.specs.Lines.{plan_of_line}
use Rattle.tree_definitions.specs.Tree.{FileTree, node_at}
use Rattle.plan_fit.proofs.DecodedEntries.{disks_fit}
use Rattle.plan_fit.proofs.FileNodes.{fit_file}
use Rattle.plan_fit.proofs.Kept.{edit_in_range, in_small, in_large}
use Rattle.plan_laws.specs.Looked.{edited_at}
use Rattle.plan_laws.proofs.Covering.{has_cases, not_in_none, map_has}
use Rattle.plan_laws.proofs.Filled.{filter_from}
use Rattle.line_histories.specs.LinePlans.{hand_on, store_showing, store_on, versioned, plain, are_segments, lock_in, segment_lock, segment_number, outcome_by}
use Rattle.line_histories.specs.Done.{IsWholeDisk}
use Rattle.line_histories.specs.Outcomes.{IsOfAPlan}
use Rattle.line_histories.specs.Owned.{IsCoveredAt, LooksWhereItLies, LinePlansLookWhereTheyLie}
use Rattle.line_histories.proofs.Filled.{IsInUse, in_use}
use Rattle.line_histories.proofs.Guarded.{versioned_number, plain_number, under, inside, part, edit_seen}
use Rattle.line_histories.proofs.Hands.{is_hand}
use Rattle.line_histories.proofs.LinesSound.{lines_are_sound}
use Rattle.line_histories.proofs.Lists.{member_has, has_map}
use Rattle.line_histories.proofs.Looked.{lines_look}
use Rattle.line_histories.proofs.NearSegments.{lines_look_in_segments}
use Rattle.line_histories.proofs.Outcomes.{outcomes_of_plans}

-- ---- where sectors lie

-- the sector is one of a disk of so many segments
abbrev LiesIn : ℕ → Sector → Type 0
LiesIn segments (InodeAt i) = i < 64 * segments
LiesIn segments (DirectoryAt k part) = (k < 1024 * segments) × (part < 8)
LiesIn segments (SegmentAt k) = k < segments
LiesIn segments (BytesAt k part) = (k < 1024 * segments) × (part < 8)
LiesIn segments (LargeAt g part) = (g < segments) × (part < 2048)

-- one of a small block as a directory's
abbrev as_placed : Sector → Sector
as_placed (BytesAt k part) = DirectoryAt k part
as_placed x = x

same_cover : (naming : Naming) (x : Sector) → cover_of naming x ≡ cover_of naming (as_placed x)
same_cover naming (InodeAt i) = refl
same_cover naming (DirectoryAt k part) = refl
same_cover naming (SegmentAt k) = refl
same_cover naming (BytesAt k part) = refl
same_cover naming (LargeAt g part) = refl

lies_here : (segments : ℕ) → segments ≤ 64 → (x : Sector) → LiesIn segments x → sector_at segments (number_of x) ≡ Some (as_placed x)
lies_here segments few (InodeAt i) l = ap sector_in (region_found segments (region.Inode i) few (edit_in_range segments (SetInode i None false) l))
lies_here segments few (DirectoryAt k part) l = ap sector_in (region_found segments (region.Small k part) few (in_small segments k part l.0 l.1))
lies_here segments few (SegmentAt k) l = ap sector_in (region_found segments (region.Segment k) few (edit_in_range segments (SetLarge k true) l))
lies_here segments few (BytesAt k part) l = ap sector_in (region_found segments (region.Small k part) few (in_small segments k part l.0 l.1))
lies_here segments few (LargeAt g part) l = ap sector_in (region_found segments (region.Large g part) few (in_large segments g part l.0 l.1))

-- each segment of a hint is one of the disk's
hinted : (segments : ℕ) (hint : List ℕ) → are_segments segments hint ≡ true → (k : ℕ) → Contains hint k → k < segments
hinted segments [] e k c = absurd (not_in_none k c)
hinted segments (j ∷ hint) e k c =
    let p = and_parts (nat_lt j segments) (are_segments segments hint) e in
    ⊎_elim (λ q. subst (λ z. z < segments) q (ltb-true j segments p.0)) (λ d. hinted segments hint p.1 k d) (has_cases j k hint c)

-- ---- a finished line

module _ (segments : ℕ) (when : ℕ → ℕ) (hint : List ℕ) (n : ℕ) (op : Op) (disk : Sectors) (tree : FileTree) (naming : Naming) (on : IsWholeDisk segments disk tree naming) (known : are_segments segments hint ≡ true) (f : Finish)
    (is : run (plan_of_line (hand_on segments disk hint) n (when n) op) (store_on segments disk) ≡ Finishes f) where
  abbrev b : Store
  b = store_on segments disk

  abbrev h : Hand
  h = hand_on segments disk hint

  abbrev p : Ask Plan
  p = plan_of_line h n (when n) op

  abbrev planned : Option Block → Plan
  planned shown = run p (store_showing shown segments disk)

  abbrev o : Outcome
  o = outcome_by segments disk hint planned (looks p b) f

  few : segments ≤ 64
  few = subst (λ k. k ≤ 64) on.of.count on.of.of.few

  hand : IsHandOf h b tree.segments
  hand = subst (IsHandOf h b) (sym on.of.count) (is_hand segments disk hint on.of.clear)

  fit : FilesFit (node_at tree)
  fit = files_fit b (node_at tree) naming on.of.of.pictures (λ i x e k. (fit_file x (all_fit.nodes i x e).1 k).size)
    where
      all_fit : IsFitStore segments (store_of segments disk)
      all_fit = disks_fit disk segments on.grammar on.whole

  lies : (x : Sector) → Contains (looks p b) x → LiesIn segments x
  lies (InodeAt i) c = inside plan_of_line lines_are_sound segments when hint n op disk tree naming on.of f is (InodeAt i) c
  lies (DirectoryAt k j) c = (
    inside plan_of_line lines_are_sound segments when hint n op disk tree naming on.of f is (DirectoryAt k j) c,
    part plan_of_line lines_are_sound segments when hint n op disk tree naming on.of f is (DirectoryAt k j) c,
  )
  lies (SegmentAt k) c = subst (λ m. k < m) on.of.count (lines_look_in_segments b tree naming on.of.of op h n (when n) hand k c)
  lies (BytesAt k j) c = let u = (subst (λ m. IsInUse m b (BytesAt k j)) on.of.count (in_use b tree naming on.of.of fit (BytesAt k j) (lines_look op h b n (when n) (BytesAt k j) c))) in (u.1, u.2)
  lies (LargeAt g j) c = let u = (subst (λ m. IsInUse m b (LargeAt g j)) on.of.count (in_use b tree naming on.of.of fit (LargeAt g j) (lines_look op h b n (when n) (LargeAt g j) c))) in (u.1, u.2)

  -- what was looked at lies under a lock that is used
  seen_lies : (x : Sector) → Contains (looks p b) x → (number : ℕ) → number ≡ number_of x → IsCoveredAt segments naming o.uses number
  seen_lies x c number e = record {
    sector = as_placed x;
    here = ap (sector_at segments) e ∙ lies_here segments few x (lies x c);
    covered = subst (Contains o.uses) (same_cover naming x) (under plan_of_line lines_are_sound segments when hint n op disk tree naming on.of f is x c);
  }

  hint_lies : (k : ℕ) → Contains hint k → (number : ℕ) → segment_number k ≡ number → IsCoveredAt segments naming o.uses number
  hint_lies k c number e = record {
    sector = SegmentAt k;
    here = ap (sector_at segments) (sym e) ∙ lies_here segments few (SegmentAt k) (hinted segments hint known k c);
    covered = Contains-append_right (map lock_in f.locks) (map segment_lock hint) (lock.Segment k) (map_has segment_lock hint k c);
  }

  looked_lies : (number : ℕ) → member number o.looked ≡ true → IsCoveredAt segments naming o.uses number
  looked_lies number e = ⊎_elim
      (λ c. let r = filter_from versioned (looks p b) number c in seen_lies r.0 r.1 number (versioned_number r.0 number r.2))
      (λ c. let r = has_map segment_number hint number c in hint_lies r.0 r.1 number r.2)
      (Contains-append_cases (filter_map versioned (looks p b)) (map segment_number hint) number (member_has number o.looked e))

  touched_lies : (number : ℕ) → IsTrue (touched o number) → IsCoveredAt segments naming o.uses number
  touched_lies number e = go (change_at o.changes number) refl e
    where
      go : (q : Option Change) → change_at o.changes number ≡ q → IsTrue (if is_some q then true else member number o.looked) → IsCoveredAt segments naming o.uses number
      go None i t = looked_lies number t
      go (Some c) i t = let r = edit_seen plan_of_line lines_are_sound segments when hint n op disk tree naming on.of f is number c i in seen_lies (edited_at r.0) r.2 number r.4

  read_lies : (number : ℕ) → IsTrue (member number o.reads) → IsCoveredAt segments naming o.uses number
  read_lies number e = let r = filter_from plain (looks p b) number (member_has number o.reads e) in seen_lies r.0 r.1 number (plain_number r.0 number r.2)

  all_lies : LooksWhereItLies segments naming o
  all_lies = record { looked = touched_lies; read = read_lies }

pub lines_lie : LinePlansLookWhereTheyLie
lines_lie segments when hint n op disk tree naming o on e =
    let r : IsOfAPlan plan_of_line segments when hint n op disk o = outcomes_of_plans plan_of_line segments when hint n op disk o e in
    subst (LooksWhereItLies segments naming) (sym r.comes.outcome) (all_lies segments when hint n op disk tree naming on r.known r.comes.finish r.comes.is)
