-- With every segment at hand, a line that may be planned comes to an outcome.
use Rattle.std.proofs.Common.{ℕ, zero, suc, ◌≡◌, ◌<◌, ◌≤◌, ◌&&◌, ⊎_elim, Bool, true, false, not, nat_lt, if◌then◌else◌, Some, None, List, [], ◌∷◌, is_some, refl, sym, ◌∙◌, ap, subst, arith}
use Rattle.std.specs.BTreeMap.{is_at}
use Rattle.std.specs.List.{Contains}
use Rattle.std.specs.Ordering.{nat_cmp}
use Rattle.std.proofs.lemmas.List.Folds.{list_all-append}
use Rattle.std.proofs.lemmas.Bool.{lt-ltb}
use Rattle.frang_base.specs.declared.bitmap.Bitmap.{Bitmap}
use Rattle.frang_base.specs.declared.op.Op.{Op}
use Rattle.frang_base.proofs.Tests.{some_there}
use Rattle.tree_definitions.specs.Numbers.{below}
use Rattle.tree_definitions.specs.Tree.{FileTree}
use Rattle.tree_definitions.specs.Touched.{shape_of, shaped}
use Rattle.tree_definitions.specs.Perform.{perform}
use Rattle.tree_definitions.proofs.Pairs.{birth_exact, self}
use Rattle.tree_laws.proofs.ShapeNodes.{found}
use Rattle.sector_bytes.specs.Sectors.{Sectors}
use Rattle.sector_world.specs.Plans.{Outcome}
use Rattle.disk_definitions.specs.Store.{segment_at}
use Rattle.disk_definitions.specs.Held.{bitmap_of, state_in}
use Rattle.disk_definitions.specs.Picks.{is_in_state}
use Rattle.disk_definitions.specs.Ask.{Ask, run, looks}
use Rattle.disk_definitions.specs.Meets.{IsHandOf}
use Rattle.plan_laws.specs.Keeping.{PlanKeeps}
use Rattle.disk_definitions.specs.Plans.{Hand, Plan, Finish}
use Rattle.disk_definitions.specs.Plans.Plan.{Lacks, Clears, Finishes}
use Rattle.plan_laws.proofs.Covering.{has_head, has_more, has_cases, not_in_none, below_has}
use Rattle.disk_definitions.specs.Lines.{plan_of_line}
use Rattle.line_laws.proofs.Planned.{lines_planned}
use Rattle.line_histories.specs.LinePlans.{may_be_planned, are_segments, held_of, hand_on, store_on, store_showing, outcome_by, outcome_over, sector_plan}
use Rattle.line_histories.proofs.Hands.{is_hand}
use Rattle.line_histories.specs.Laws.{LinesComeToOutcomes}
use Rattle.line_histories.specs.Standing.{StandsForShape}
use Rattle.line_histories.specs.Trees.{MayNumber}
use Rattle.line_histories.proofs.Disks.{blank_of, files, ever}
use Rattle.line_histories.proofs.Meeting.{is_clear}
use Rattle.line_histories.proofs.Owned.{below_less}

-- ---- the hint of all segments

are_below : (segments n : ℕ) → n ≤ segments → are_segments segments (below n) ≡ true
are_below segments zero l = refl
are_below segments (suc n) l = list_all-append (λ k. nat_lt k segments) (below n) (n ∷ []) ∙ rw (are_below segments n (omega arith), lt-ltb n segments (omega arith)) refl

module _ (segments : ℕ) (disk : Sectors) (there : (k : ℕ) → k < segments → is_some (segment_at disk k) ≡ true) where
  -- each segment of a hint is held
  some_held : (hint : List ℕ) → ((j : ℕ) → Contains hint j → j < segments) → (k : ℕ) → Contains hint k → is_some (bitmap_of (held_of segments disk hint) k) ≡ true
  some_held [] all k c = absurd (not_in_none k c)
  some_held (j ∷ hint) all k c =
      let l : j < segments = all j (has_head j hint) in
      let x = some_there (segment_at disk j) (there j l) in
      let first : is_some (if is_at (nat_cmp k) j then Some x.0 else bitmap_of (held_of segments disk hint) k) ≡ true = at x.0 (some_held hint (λ i e. all i (has_more j i hint e)) k) (is_at (nat_cmp k) j) refl in
      rw (lt-ltb j segments l, x.1) first
    where
      at : (x : Bitmap) → (Contains hint k → is_some (bitmap_of (held_of segments disk hint) k) ≡ true) → (b : Bool) → is_at (nat_cmp k) j ≡ b → is_some (if b then Some x else bitmap_of (held_of segments disk hint) k) ≡ true
      at x rest true q = refl
      at x rest false q =
          ⊎_elim (λ same. absurd (let z : is_at (nat_cmp k) j ≡ true = subst (λ i. is_at (nat_cmp k) i ≡ true) (sym same) (self nat_cmp birth_exact k) in cc)) rest (has_cases j k hint c)

  all_held : (k : ℕ) → k < segments → is_some (bitmap_of (held_of segments disk (below segments)) k) ≡ true
  all_held k l = some_held (below segments) (λ j c. below_less segments j c) k (below_has segments k l)

-- ---- the outcome

not_both : (b : Bool) → (b && not b) ≡ true → ⊥
not_both true e = cc
not_both false e = cc

module _ (disk : Sectors) (tree : FileTree) (stands : StandsForShape tree.segments disk tree) (numbers : List ℕ) (when : ℕ → ℕ) (n : ℕ) (o : Op) (may : MayNumber numbers n tree) (allowed : may_be_planned o ≡ true) where
  abbrev segments : ℕ
  segments = tree.segments

  abbrev hint : List ℕ
  hint = below segments

  abbrev h : Hand
  h = hand_on segments disk hint

  abbrev p : Ask Plan
  p = plan_of_line h n (when n) o

  at : IsHandOf h (store_on segments disk) segments
  at = is_hand segments disk hint (is_clear segments disk tree stands)

  there : (k : ℕ) → k < segments → is_some (segment_at disk k) ≡ true
  there k l = stands.below.stands.grammar.bitmaps k (subst (λ m. k < m) stands.below.stands.segments l)

  met : PlanKeeps h (store_on segments disk) (shape_of tree) stands.below.stands.naming (perform (shape_of tree) o n (when n) (ever disk tree stands)) (run p (store_on segments disk))
  met = lines_planned o h (store_on segments disk) (shape_of tree) stands.below.stands.naming n (when n) (ever disk tree stands) (blank_of disk tree stands) at (found tree n ∙ ap shaped may.new) (files disk tree stands)

  abbrev outcome : Finish → Outcome
  outcome f = outcome_by segments disk hint (λ shown. run p (store_showing shown segments disk)) (looks p (store_on segments disk)) f

  planned : outcome_over segments disk hint p ≡ sector_plan segments when hint n o disk
  planned = sym (ap (λ (b : Bool). if b && are_segments segments hint then outcome_over segments disk hint p else None) allowed ∙ ap (λ (b : Bool). if b then outcome_over segments disk hint p else None) (are_below segments segments (omega arith)))

  comes : (v : Plan) → run p (store_on segments disk) ≡ v → PlanKeeps h (store_on segments disk) (shape_of tree) stands.below.stands.naming (perform (shape_of tree) o n (when n) (ever disk tree stands)) v → (q : Outcome) × (outcome_over segments disk hint p ≡ Some q)
  comes Lacks is m = absurd (let all : h.all ≡ true = at.all.1 (λ k l. all_held segments disk there k l) in let none : h.all ≡ false = m in cc)
  comes (Clears k locks) is m = absurd (not_both (is_in_state 0 (state_in (held_of segments disk hint) k)) m)
  comes (Finishes f) is m = (outcome f, rw is refl)

  own_comes : (q : Outcome) × (sector_plan segments when hint n o disk ≡ Some q)
  own_comes = let r = comes (run p (store_on segments disk)) refl met in (r.0, sym planned ∙ r.1)

pub lines_come : LinesComeToOutcomes
lines_come count when n o tree numbers disk stands may allowed =
    subst (λ k. (q : Outcome) × (sector_plan k when (below k) n o disk ≡ Some q)) stands.as_many
    (own_comes disk tree (record { well_formed = stands.well_formed; as_many = refl; below = stands.below; zeros = stands.zeros }) numbers when n o may allowed)
