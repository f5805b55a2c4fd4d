-- A line that is finished over what is at hand is the outcome of the plan over all sectors.
use Rattle.std.proofs.Common.{ℕ, ◌≡◌, ◌<◌, ◌≤◌, ◌^◌, ◌&&◌, ⊎_elim, Bool, true, false, if◌then◌else◌, Option, Some, None, List, ◌++◌, map, is_some, refl, sym, ap, ◌∙◌, subst}
use Rattle.std.proofs.lemmas.List.Elements.{Contains-append_cases}
use Rattle.std.specs.List.{filter_map, list_all, Contains}
use Rattle.std.specs.Map.{keys_of}
use Rattle.frang_base.specs.declared.bitmap.Bitmap.{Bitmap}
use Rattle.frang_base.specs.declared.op.Op.{Op}
use Rattle.frang_base.specs.Functions.{member}
use Rattle.frang_base.proofs.Tests.{same_tests}
use Rattle.sector_bytes.specs.Blocks.{Block}
use Rattle.sector_bytes.specs.SectorMaps.{Ascend}
use Rattle.sector_bytes.specs.Sectors.{Sectors}
use Rattle.sector_world.specs.Plans.{Outcome, made_of}
use Rattle.tree_definitions.specs.Numbers.{below as numbers_below}
use Rattle.tree_definitions.specs.Tree.{FileTree}
use Rattle.disk_definitions.specs.Naming.{Naming}
use Rattle.disk_definitions.specs.Store.{Store, store_of}
use Rattle.disk_definitions.specs.Held.{Segments, bitmap_of, state_in}
use Rattle.disk_definitions.specs.Picks.{is_in_state}
use Rattle.disk_definitions.specs.Edits.{Edit, edited_all}
use Rattle.disk_definitions.specs.Allowed.{IsAllowed}
use Rattle.disk_definitions.specs.Ask.{Sector, SegmentAt, Ask, AtHand, Has, run, looks, meet}
use Rattle.disk_definitions.specs.FitEdits.{AreFit}
use Rattle.disk_definitions.specs.FitPlans.{IsFitStore, PlanIsFit}
use Rattle.disk_definitions.specs.Meets.{IsHandOf}
use Rattle.disk_definitions.specs.Missing.{is_at_hand, first_missing, unless_missing}
use Rattle.disk_definitions.specs.OnDisk.{AreOfDisk}
use Rattle.disk_definitions.specs.Plans.{Hand, Plan, Finish}
use Rattle.disk_definitions.specs.Plans.Plan.{Lacks, Clears, Finishes}
use Rattle.disk_definitions.specs.Written.{Cached, at_hand, hand_of, is_held, is_zeroed, sectors_at_hand, changes_of, is_metadata, edit_sector}
use Rattle.plan_fit.proofs.DecodedEntries.{disks_fit}
use Rattle.plan_laws.specs.Inside.{AreInside}
use Rattle.plan_laws.specs.Looked.{edited_at}
use Rattle.plan_laws.proofs.Deciding.{meets_where}
use Rattle.plan_laws.specs.Plans.{Planner}
use Rattle.plan_laws.proofs.Fine.{held_key}
use Rattle.plan_laws.proofs.Covering.{all_from}
use Rattle.plan_laws.proofs.Filled.{filter_from}
use Rattle.plan_fit.proofs.LaidOver.{Misses}
use Rattle.line_laws.specs.Laws.{HasPath}
use Rattle.line_laws.proofs.AtHand.{agrees}
use Rattle.line_laws.proofs.Held.{edit_is, none_missing}
use Rattle.line_laws.proofs.SameChanges.{same_changes}
use Rattle.line_laws.proofs.Zeroed.{zero_places, each_below}
use Rattle.disk_definitions.specs.Lines.{plan_of_line}
use Rattle.line_histories.specs.LinePlans.{held_of, hand_by, hand_on, store_showing, store_on, without_bytes, blocks_told, versioned, plain, claims_of, fill_by, lock_in, sole_in, segment_lock, segment_number, outcome_by, outcome_if, outcome_over, are_segments, sector_plan_by}
use Rattle.line_histories.specs.Planners.{edit_shape, finish_shape, plan_shape, cleared, IsSoundPlanner}
use Rattle.line_histories.specs.Done.{IsThere, IsOutcomeOf, IsWholeDisk, DoneIsOutcome, LineDoneIsOutcome}
use Rattle.line_histories.specs.Places.{WritesInPlace, shown_of, LineDoneIsMade}
use Rattle.line_histories.proofs.Apart.{missed}
use Rattle.line_histories.proofs.Changes.{numbers_of}
use Rattle.line_histories.proofs.Guarded.{versioned_number, plain_number}
use Rattle.line_histories.proofs.Hands.{hand_is, all_below}
use Rattle.line_histories.proofs.HeldSegments.{there, hinted, below}
use Rattle.line_histories.proofs.LinesSound.{lines_are_sound}
use Rattle.line_histories.proofs.Lists.{member_has, has_map}
use Rattle.line_histories.proofs.Made.{made}
use Rattle.line_histories.proofs.MayBePlanned.{may}
use Rattle.line_histories.proofs.Places.{lines_write_in_place}
use Rattle.line_histories.proofs.Shapes.{told_shape, moves_same, claims_same, changes_same, numbers_same, misses_by}

-- ---- what is met, and shapes

-- a value that is met needs nothing
nothing_missing : (o : Option Sector) (v w : Plan) → unless_missing o v ≡ Has w → (o ≡ None) × (v ≡ w)
nothing_missing None v w e = (refl, cc)
nothing_missing (Some x) v w e = absurd (cc)

-- a plan with the shape of a finished one is finished
record HasShape (v : Plan) (f : Finish) : Type 0 where
  finish : Finish
  is : v ≡ Finishes finish
  same : finish_shape finish ≡ finish_shape f

shaped : (v : Plan) (f : Finish) → plan_shape v ≡ Finishes (finish_shape f) → HasShape v f
shaped Lacks f e = absurd (cc)
shaped (Clears k locks) f e = absurd (cc)
shaped (Finishes g) f e = record { finish = g; is = refl; same = cc }

-- ---- hands

abbrev hand_from : Segments → Bool → Hand
hand_from held all = record { held = held; all = all; zeroed = λ block. is_in_state 0 (state_in held block) }

module _ (planner : Planner) (sound : IsSoundPlanner planner) (op : Op) (cached : Cached) (held : Segments) (all : Bool) (segments : ℕ) (when : ℕ → ℕ) (n : ℕ) (disk : Sectors) (tree : FileTree) (naming : Naming) (f : Finish)
    (allowed : IsAllowed op) (small : n < 2 ^ 64) (timely : when n < 2 ^ 64) (sorted : Ascend held) (of : AreOfDisk cached held all segments disk) (on : IsWholeDisk segments disk tree naming)
    (done : meet (planner (hand_of cached held all) n (when n) op) (at_hand cached held) ≡ Has (Finishes f)) where
  -- the disk with the bytes of files, and without them
  abbrev s : Store
  s = store_of segments disk

  abbrev b : Store
  b = store_on segments disk

  abbrev h : Hand
  h = hand_of cached held all

  abbrev c : AtHand
  c = at_hand cached held

  abbrev p : Ask Plan
  p = planner h n (when n) op

  abbrev hint : List ℕ
  hint = keys_of held

  -- the plan where all blocks count as clear
  abbrev q : Ask Plan
  q = planner (cleared h) n (when n) op

  hand : IsHandOf h b tree.segments
  hand = subst (IsHandOf h b) (sym on.of.count)
      (hand_is segments disk held of.as_held all (is_zeroed cached) of.all_held (λ k slot e l. zero_places cached disk of.as_cached segments k slot e l))

  -- whatever the bytes, the same is looked at
  blind : (looks p s ≡ looks p b) × (plan_shape (run p s) ≡ plan_shape (run p b))
  blind = sound.blind op h b n (when n) s.byte s.large_byte

  inside : AreInside segments (looks p s)
  inside = subst (AreInside segments) (sym blind.0) (subst (λ k. AreInside k (looks p b)) on.of.count (sound.inside op h b tree naming n (when n) on.of.of hand))

  met : (first_missing c (looks p s) ≡ None) × (run p s ≡ Finishes f)
  met = nothing_missing (first_missing c (looks p s)) (run p s) (Finishes f) (sym (meets_where p c s (agrees cached held segments disk of.as_cached on.whole (looks p s) inside)) ∙ done)

  over_blank : HasShape (run p b) f
  over_blank = shaped (run p b) f (sym blind.1 ∙ ap plan_shape met.1)

  abbrev g : Finish
  g = over_blank.finish

  goes : (run q b ≡ Finishes g) × (looks q b ≡ looks p b)
  goes = sound.clears op h b n (when n) g over_blank.is

  -- the same hand
  held_there : held_of segments disk hint ≡ held
  held_there = hinted segments disk held (there segments disk held sorted of.as_held)

  all_there : list_all (λ k. is_some (bitmap_of held k)) (numbers_below segments) ≡ all
  all_there = same_tests (list_all (λ k. is_some (bitmap_of held k)) (numbers_below segments)) all
      (λ e. of.all_held.1 (λ k l. each_below (λ k. is_some (bitmap_of held k)) segments e k l)) (λ e. all_below (λ k. is_some (bitmap_of held k)) segments (of.all_held.0 e))

  same_hand : hand_on segments disk hint ≡ cleared h
  same_hand = ap (hand_by segments) held_there ∙ ap (hand_from held) all_there

  -- the outcome
  abbrev planned : Option Block → Plan
  planned shown = run q (store_showing shown segments disk)

  abbrev o : Outcome
  o = outcome_by segments disk hint planned (looks q b) g

  comes : HasPath op → sector_plan_by planner segments when hint n op disk ≡ Some o
  comes path =
      ap (λ t. if t && are_segments segments hint then outcome_over segments disk hint (planner (hand_on segments disk hint) n (when n) op) else None) (may op allowed path)
      ∙ ap (λ t. if t then outcome_over segments disk hint (planner (hand_on segments disk hint) n (when n) op) else None) (below segments disk held (there segments disk held sorted of.as_held))
      ∙ ap (λ z. outcome_over segments disk hint (planner z n (when n) op)) same_hand
      ∙ ap (λ v. outcome_if segments disk hint planned (looks q b) v) goes.0

  -- all that is looked at is at hand
  looked_there : (x : Sector) → Contains (looks q b) x → is_at_hand c x ≡ true
  looked_there x i = none_missing c (looks p s) met.0 x (subst (λ l. Contains l x) (goes.1 ∙ sym blind.0) i)

  held_at_hand : (k : ℕ) → Contains hint k → is_held held k ≡ true
  held_at_hand k i = by_bitmap (bitmap_of held k) refl (held_key held k i)
    where
      by_bitmap : (v : Option Bitmap) → bitmap_of held k ≡ v → is_some v ≡ true → is_held held k ≡ true
      by_bitmap None e i = absurd (cc)
      by_bitmap (Some x) e i = rw e refl

  looked_at_hand : (number : ℕ) → member number o.looked ≡ true → IsThere cached held number
  looked_at_hand number e = ⊎_elim
      (λ i. let r = filter_from versioned (looks q b) number i in record { sector = r.0; here = versioned_number r.0 number r.2; there = looked_there r.0 r.1 })
      (λ i. let r = has_map segment_number hint number i in record { sector = SegmentAt r.0; here = sym r.2; there = held_at_hand r.0 r.1 })
      (Contains-append_cases (filter_map versioned (looks q b)) (map segment_number hint) number (member_has number o.looked e))

  read_at_hand : (number : ℕ) → member number o.reads ≡ true → IsThere cached held number
  read_at_hand number e = let r = filter_from plain (looks q b) number (member_has number o.reads e) in record { sector = r.0; here = plain_number r.0 number r.2; there = looked_there r.0 r.1 }

  -- edits, but for bytes
  same_edits : map edit_shape g.edits ≡ map edit_shape f.edits
  same_edits = ap (λ (z : Finish). z.edits) over_blank.same

  same_reply : without_bytes g.reply ≡ without_bytes f.reply
  same_reply = ap (λ (z : Finish). z.reply) over_blank.same

  same_locks : g.locks ≡ f.locks
  same_locks = ap (λ (z : Finish). z.locks) over_blank.same

  fit_store : IsFitStore segments s
  fit_store = disks_fit disk segments on.grammar on.whole

  fit : AreFit segments (edited_all b g.edits) g.edits
  fit = by_finish (subst (PlanIsFit h tree.segments b) over_blank.is (sound.fit op h b tree naming n (when n) on.of.of hand (subst (λ k. IsFitStore k b) (sym on.of.count) blank_fit) small timely allowed))
    where
      blank_fit : IsFitStore segments b
      blank_fit = record { nodes = fit_store.nodes; entries = fit_store.entries }

      by_finish : PlanIsFit h tree.segments b (Finishes g) → AreFit segments (edited_all b g.edits) g.edits
      by_finish m = subst (λ k. AreFit k (edited_all b g.edits) g.edits) on.of.count m.edits

  few : segments ≤ 64
  few = subst (λ k. k ≤ 64) on.of.count on.of.of.few

  -- bytes go into no sector with a version: both have the same changes, with the sectors at hand too
  miss : (es : List Edit) → map edit_shape g.edits ≡ map edit_shape es → (number : ℕ) → member number (numbers_of es) ≡ true → Misses false number es
  miss es same number m = misses_by g.edits es same number (missed segments (edited_all b g.edits) g.edits few fit number (ap (member number) (numbers_same g.edits es same) ∙ m))

  at_hand_changes : changes_of (sectors_at_hand cached held) f.edits ≡ changes_of disk f.edits
  at_hand_changes = same_changes (sectors_at_hand cached held) disk f.edits (all_from (λ e. is_metadata e ≡ true → sectors_at_hand cached held (edit_sector e) ≡ disk (edit_sector e)) f.edits
      (λ e i m. edit_is cached held all segments disk of e m (none_missing c (looks p s) met.0 (edited_at e) (sound.looked op h s n (when n) f met.1 e i m))))

  done_outcome : IsOutcomeOf segments cached held f o
  done_outcome = record {
    reply = same_reply;
    blocks = sym (told_shape g.reply) ∙ ap blocks_told same_reply ∙ told_shape f.reply;
    looked = looked_at_hand;
    changes = changes_same disk g.edits f.edits same_edits (miss g.edits refl) (miss f.edits same_edits) ∙ sym at_hand_changes;
    claims = claims_same g.edits f.edits same_edits segments (held_of segments disk hint) ∙ ap (λ z. claims_of segments z f.edits) held_there;
    moves = moves_same g.edits f.edits same_edits segments;
    read = read_at_hand;
    uses = ap (λ locks. map lock_in locks ++ map segment_lock hint) same_locks;
    alone = ap (filter_map sole_in) same_locks;
  }

  -- with all blocks counted as clear, over the disk with its bytes, it is finished alike; so what it writes is made of what is cached
  made_done : WritesInPlace planner → (number : ℕ) → made_of (o.makes number) (shown_of cached o number) ≡ fill_by f.edits number
  made_done places number =
      made planner sound places op (cleared h) n (when n) cached held segments disk tree naming on.of.of of.as_cached f (sound.clears op h s n (when n) f met.1).0 looked_there number

pub done_is_outcome : DoneIsOutcome
done_is_outcome planner sound op cached held all segments when n disk tree naming f allowed path small timely sorted of on done = (
  o planner sound op cached held all segments when n disk tree naming f allowed small timely sorted of on done,
  comes planner sound op cached held all segments when n disk tree naming f allowed small timely sorted of on done path,
  done_outcome planner sound op cached held all segments when n disk tree naming f allowed small timely sorted of on done,
)

pub line_done_is_outcome : LineDoneIsOutcome
line_done_is_outcome op cached held all segments when n disk tree naming f allowed path small timely sorted of on done =
    done_is_outcome plan_of_line lines_are_sound op cached held all segments when n disk tree naming f allowed path small timely sorted of on done

pub line_done_is_made : LineDoneIsMade
line_done_is_made op cached held all segments when n disk tree naming f a allowed path small timely sorted of on done e number =
    let mine = comes plan_of_line lines_are_sound op cached held all segments when n disk tree naming f allowed small timely sorted of on done path in
    let same : o plan_of_line lines_are_sound op cached held all segments when n disk tree naming f allowed small timely sorted of on done ≡ a = (let z = sym mine ∙ e in cc) in
    subst (λ (z : Outcome). made_of (z.makes number) (shown_of cached z number) ≡ fill_by f.edits number) same
    (made_done plan_of_line lines_are_sound op cached held all segments when n disk tree naming f allowed small timely sorted of on done lines_write_in_place number)
