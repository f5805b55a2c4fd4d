-- A line over sectors and bitmaps that are at hand of a whole disk: it is met as over the disk, and sets each sector once.
use Rattle.std.proofs.Common.{◌≡◌, ◌<◌, ◌^◌, ℕ, Bool, true, false, if◌then◌else◌, List, [], ◌∷◌, ◌*◌, nat_lt, Option, Some, None, refl, sym, ap, ◌∙◌, subst, ⊎_elim}
use Rattle.std.proofs.lemmas.Bool.{and_parts, eqb-true, false≢true, ltb-true}
use Rattle.std.specs.List.{Contains}
use Rattle.std.specs.Option.{unwrap_or}
use Rattle.frang_base.specs.declared.op.Op.{Op}
use Rattle.sector_bytes.specs.SectorMaps.{value_at}
use Rattle.sector_bytes.specs.Sectors.{Sectors}
use Rattle.tree_definitions.specs.Touched.{shape_of, shaped}
use Rattle.tree_definitions.specs.Tree.{FileTree, node_at}
use Rattle.tree_definitions.specs.WellFormed.{IsNew}
use Rattle.tree_laws.proofs.ShapeNodes.{found}
use Rattle.disk_definitions.specs.declared.region.Region.{Region}
use Rattle.disk_definitions.specs.declared.region.Region.TheVariants as region
use Rattle.disk_definitions.specs.Allowed.{IsAllowed}
use Rattle.disk_definitions.specs.Ask.{Ask, AtHand, Has, Needs, Sector, looks, meet, run}
use Rattle.disk_definitions.specs.ChangeLaws.{FilesFit}
use Rattle.disk_definitions.specs.Edits.{Edit, edited_all}
use Rattle.disk_definitions.specs.FitEdits.{AreFit, IsFitEdit}
use Rattle.disk_definitions.specs.FitPlans.{IsFitFinish, IsFitStore, PlanIsFit}
use Rattle.disk_definitions.specs.Held.{Segments, state_in}
use Rattle.disk_definitions.specs.Lines.{plan_of_line}
use Rattle.disk_definitions.specs.Meets.{IsHandOf, IsOfTree, directory_blocks_in, is_directory_use}
use Rattle.disk_definitions.specs.Missing.{first_missing, is_at_hand, unless_missing}
use Rattle.disk_definitions.specs.Moves.{first_said, use_said}
use Rattle.disk_definitions.specs.Naming.{Naming}
use Rattle.disk_definitions.specs.Numbered.{sector_in}
use Rattle.disk_definitions.specs.OnDisk.{AreOfDisk}
use Rattle.disk_definitions.specs.Picks.{is_in_state}
use Rattle.disk_definitions.specs.Plans.{Finish, Hand, Plan}
use Rattle.disk_definitions.specs.Plans.Plan.{Finishes}
use Rattle.disk_definitions.specs.Regions.{region_of, sector_of}
use Rattle.disk_definitions.specs.Standing.{IsMetadata}
use Rattle.disk_definitions.specs.Store.{Store, Use, store_of}
use Rattle.disk_definitions.specs.Store.Use.{Fresh, Bytes, Empty, Entries}
use Rattle.disk_definitions.specs.Written.{Cached, at_hand, edit_sector, hand_of, is_metadata, is_zero_at_hand, is_zeroed}
use Rattle.disk_definitions.proofs.Counts.{files_fit}
use Rattle.disk_definitions.proofs.RegionLaws.{region_read}
use Rattle.plan_fit.proofs.DecodedEntries.{disks_fit}
use Rattle.plan_fit.proofs.FileNodes.{fit_file}
use Rattle.plan_laws.specs.Inside.{AreInside}
use Rattle.plan_laws.specs.Moves.{AreTidy}
use Rattle.plan_laws.proofs.Covering.{has_head, has_more}
use Rattle.plan_laws.proofs.Deciding.{meets_where}
use Rattle.line_laws.proofs.AtHand.{agrees}
use Rattle.line_laws.proofs.Shaping.{shapes_stand}
use Rattle.line_laws.proofs.Zeroed.{each_below, zero_places}
use Rattle.line_histories.specs.Done.{IsWholeDisk}
use Rattle.line_histories.specs.LinePlans.{becomes_directory, claims_of, is_claimed, store_on}
use Rattle.line_histories.proofs.Apart.{one_fit}
use Rattle.line_histories.proofs.Hands.{hand_is}
use Rattle.line_histories.proofs.LinesSound.{lines_are_sound}
use Rattle.line_sectors.specs.Sets.{DoneLinesHaveWhatTheyClaim, DoneLinesSetSectorsOnce}
use Rattle.line_sectors.proofs.Pieces.{lines_set_sectors_once}

-- the first that is missing is looked at, and isn't at hand
pub missing_is : (c : AtHand) (xs : List Sector) (x : Sector) → first_missing c xs ≡ Some x → Contains xs x × (is_at_hand c x ≡ false)
missing_is c [] x e = absurd (cc)
missing_is c (y ∷ ys) x e = go (is_at_hand c y) refl e (missing_is c ys x)
  where
    go : (b : Bool) → is_at_hand c y ≡ b → (if b then first_missing c ys else Some y) ≡ Some x → (first_missing c ys ≡ Some x → Contains ys x × (is_at_hand c x ≡ false)) → Contains (y ∷ ys) x × (is_at_hand c x ≡ false)
    go true i j rest = let r = rest j in (has_more y x ys r.0, r.1)
    go false i j rest = let same : y ≡ x = cc in (subst (Contains (y ∷ ys)) same (has_head y ys), subst (λ z. is_at_hand c z ≡ false) same i)

pub needs_is : (o : Option Sector) (v : Plan) (x : Sector) → unless_missing o v ≡ Needs x → o ≡ Some x
needs_is None v x e = absurd (cc)
needs_is (Some y) v x e = cc

pub zero_there : (cached : Cached) (number : ℕ) (o : Option (List ℕ)) → value_at cached number ≡ o → is_zero_at_hand cached number ≡ true → (block : List ℕ) × (value_at cached number ≡ Some block)
zero_there cached number None e z = absurd (let y : is_zero_at_hand cached number ≡ false = rw e refl in false≢true (sym y ∙ z))
zero_there cached number (Some block) e z = (block, e)

in_zero : (o : Option ℕ) → is_in_state 0 o ≡ true → o ≡ Some 0
in_zero None e = absurd (false≢true e)
in_zero (Some state) e = ap (λ k. Some k) (eqb-true state 0 e)

has_is : (o : Option Sector) (v w : Plan) → unless_missing o v ≡ Has w → v ≡ w
has_is None v w e = cc
has_is (Some y) v w e = absurd (cc)

module _ (operation : Op) (cached : Cached) (held : Segments) (all : Bool) (segments birth when : ℕ) (disk : Sectors) (tree : FileTree) (naming : Naming) (of : AreOfDisk cached held all segments disk)
    (on : IsWholeDisk segments disk tree naming) where
  abbrev pub hand_here : Hand
  hand_here = hand_of cached held all

  abbrev pub known_here : AtHand
  known_here = at_hand cached held

  abbrev pub blank : Store
  blank = store_on segments disk

  abbrev pub full : Store
  full = store_of segments disk

  abbrev pub program : Ask Plan
  program = plan_of_line (hand_of cached held all) birth when operation

  pub is_hand_of : IsHandOf hand_here blank tree.segments
  is_hand_of = subst (IsHandOf hand_here blank) (sym on.of.count)
      (hand_is segments disk held of.as_held all (is_zeroed cached) of.all_held (λ k slot e l. zero_places cached disk of.as_cached segments k slot e l))

  pub same_looks : looks program full ≡ looks program blank
  same_looks = (lines_are_sound.blind operation hand_here blank birth when full.byte full.large_byte).0

  pub looks_inside : AreInside segments (looks program blank)
  looks_inside = subst (λ k. AreInside k (looks program blank)) on.of.count (lines_are_sound.inside operation hand_here blank tree naming birth when on.of.of is_hand_of)

  -- what is met is what is met over the disk
  pub met_over : meet program known_here ≡ unless_missing (first_missing known_here (looks program full)) (run program full)
  met_over = meets_where program known_here full (agrees cached held segments disk of.as_cached on.whole (looks program full) (subst (AreInside segments) (sym same_looks) looks_inside))

  -- a sector that is needed is looked at, and isn't at hand
  pub needed_missing : (x : Sector) → meet program known_here ≡ Needs x → Contains (looks program blank) x × (is_at_hand known_here x ≡ false)
  needed_missing x e = let r = missing_is known_here (looks program full) x (needs_is (first_missing known_here (looks program full)) (run program full) x (sym met_over ∙ e)) in (subst (λ l. Contains l x) same_looks r.0, r.1)

  -- ---- a finished line, over the disk with its bytes

  pub of_full : IsOfTree full (shape_of tree) naming
  of_full = (shapes_stand blank tree naming on.of.of).others full.byte full.large_byte

  pub hand_full : IsHandOf hand_here full tree.segments
  hand_full = let h = is_hand_of in record { within = h.within; all = h.all; bits = h.bits; states = h.states; larges = h.larges; zeroed = h.zeroed }

  pub finished_full : (finish : Finish) → meet program known_here ≡ Has (Finishes finish) → run program full ≡ Finishes finish
  finished_full finish e = has_is (first_missing known_here (looks program full)) (run program full) (Finishes finish) (sym met_over ∙ e)

  store_fit : IsFitStore segments full
  store_fit = disks_fit disk segments on.grammar on.whole

  fit_full : FilesFit (node_at (shape_of tree))
  fit_full = files_fit full (node_at (shape_of tree)) naming of_full.pictures (λ i y e k. (fit_file y (store_fit.nodes i y e).1 k).size)

  pub once_here : (finish : Finish) → IsNew tree birth → meet program known_here ≡ Has (Finishes finish) → (edit other : Edit) → Contains finish.edits edit → Contains finish.edits other → is_metadata edit ≡ false →
      is_metadata other ≡ false → edit_sector edit ≡ edit_sector other → edit ≡ other
  once_here finish new e =
      lines_set_sectors_once operation hand_here full (shape_of tree) naming birth when (directory_blocks_in full tree.segments) finish of_full hand_full (found tree birth ∙ ap shaped new)
      (record { fit = fit_full; directories = refl }) (finished_full finish e)

  -- its edits, and what it claims
  module _ (finish : Finish) (allowed : IsAllowed operation) (small : birth < 2 ^ 64) (timely : when < 2 ^ 64) (e : meet program known_here ≡ Has (Finishes finish)) where
    fit_finish : IsFitFinish hand_here tree.segments full finish
    fit_finish = subst (PlanIsFit hand_here tree.segments full) (finished_full finish e)
        (lines_are_sound.fit operation hand_here full (shape_of tree) naming birth when of_full hand_full (subst (λ k. IsFitStore k full) (sym on.of.count) store_fit) small timely allowed)

    tidy : AreTidy full (edited_all full finish.edits) finish.edits
    tidy = lines_are_sound.tidy operation hand_here full (shape_of tree) naming birth when finish of_full hand_full (finished_full finish e)

    -- each of its edits is of a sector of the disk
    pub edits_lie : (edit : Edit) → Contains finish.edits edit → IsFitEdit segments edit
    edits_lie edit c = (one_fit segments (edited_all full finish.edits) finish.edits edit (subst (λ k. AreFit k (edited_all full finish.edits) finish.edits) on.of.count fit_finish.edits) c).0

    metadata : (said : Option Use) (old new : Use) → becomes_directory said ≡ true → new ≡ unwrap_or said old → IsMetadata new
    metadata None old new b q = absurd (false≢true b)
    metadata (Some state) old new b q = subst IsMetadata (sym q) (by state b)
      where
        by : (state : Use) → is_directory_use state ≡ true → IsMetadata state
        by Fresh b = absurd (false≢true b)
        by Bytes b = absurd (false≢true b)
        by Empty b = tt
        by Entries b = tt

    not_fresh : (old : Use) → old ≡ Fresh → IsMetadata old → ⊥
    not_fresh Fresh q m = m
    not_fresh Bytes q m = m
    not_fresh Empty q m = absurd (cc)
    not_fresh Entries q m = absurd (cc)

    zeroed_block : (block : ℕ) → becomes_directory (first_said (use_said block) finish.edits) ≡ true → is_in_state 0 (state_in held block) ≡ true → is_zeroed cached block ≡ true
    zeroed_block block becomes state =
        ⊎_elim (λ m. absurd (not_fresh (full.use_of block) (is_hand_of.states block 0 (in_zero (state_in held block) state)) m)) (λ z. z)
        (fit_finish.clear block (metadata (first_said (use_said block) finish.edits) (full.use_of block) ((edited_all full finish.edits).use_of block) becomes (tidy.uses block)))

    pub claimed_here : (number : ℕ) → claims_of segments held finish.edits number ≡ true → (block : List ℕ) × (value_at cached number ≡ Some block)
    claimed_here number claims = go (region_of segments number) refl claims
      where
        go : (r : Option Region) → region_of segments number ≡ r → is_claimed held finish.edits (sector_in r) ≡ true → (block : List ℕ) × (value_at cached number ≡ Some block)
        go None q c = absurd (false≢true c)
        go (Some region.Param) q c = absurd (false≢true c)
        go (Some (region.Log server slot)) q c = absurd (false≢true c)
        go (Some (region.Segment k)) q c = absurd (false≢true c)
        go (Some (region.Inode i)) q c = absurd (false≢true c)
        go (Some (region.Large g part)) q c = absurd (false≢true c)
        go (Some (region.Small block part)) q c =
            let both = and_parts (becomes_directory (first_said (use_said block) finish.edits)) (is_in_state 0 (state_in held block)) c in
            let place = region_read segments number (region.Small block part) q in
            let zero = each_below (λ part. is_zero_at_hand cached (sector_of (region.Small block part))) 8 (zeroed_block block both.0 both.1) part (ltb-true part 8 (and_parts (nat_lt block (1024 * segments)) (nat_lt part 8) place.1).1) in
            zero_there cached number (value_at cached number) refl (subst (λ m. is_zero_at_hand cached m ≡ true) place.0 zero)

pub done_lines_set_sectors_once : DoneLinesSetSectorsOnce
done_lines_set_sectors_once operation cached held all segments birth when disk tree naming finish of on new e = once_here operation cached held all segments birth when disk tree naming of on finish new e

pub done_lines_have_what_they_claim : DoneLinesHaveWhatTheyClaim
done_lines_have_what_they_claim operation cached held all segments birth when disk tree naming finish of on allowed small timely e =
    claimed_here operation cached held all segments birth when disk tree naming of on finish allowed small timely e
