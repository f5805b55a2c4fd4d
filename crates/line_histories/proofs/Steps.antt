-- What a finished line does to covers, uses and bytes, by what the sectors with versions say before and after it.
use Rattle.std.proofs.Common.{ℕ, ◌≡◌, ◌^◌, ◌<◌, ◌⊎◌, inl, inr, ⊎_elim, true, false, List, [], ◌∷◌, refl, sym, ◌∙◌, ap, subst}
use Rattle.std.specs.List.{Contains}
use Rattle.plan_fit.proofs.Uses.{is_metadata, metadata_is}
use Rattle.frang_base.specs.declared.op.Op.{Op}
use Rattle.tree_definitions.specs.Tree.{FileTree}
use Rattle.tree_definitions.specs.Touched.{shape_of}
use Rattle.tree_definitions.specs.WellFormed.{IsNew}
use Rattle.sector_bytes.specs.Sectors.{Sectors}
use Rattle.disk_definitions.specs.Naming.{Naming}
use Rattle.disk_definitions.specs.Standing.{IsMetadata}
use Rattle.disk_definitions.specs.Store.{Store, is_unused}
use Rattle.disk_definitions.specs.Store.Use.{Fresh}
use Rattle.disk_definitions.specs.Held.{state_in}
use Rattle.disk_definitions.specs.Picks.{is_in_state}
use Rattle.disk_definitions.specs.Edits.{Edit, edited_all}
use Rattle.disk_definitions.specs.Edits.Edit.{SetInode, SetBit, SetUse, SetPlace, SetLarge, SetBytes, SetLargeBytes}
use Rattle.disk_definitions.specs.Allowed.{IsAllowed}
use Rattle.disk_definitions.specs.Ask.{Sector, run}
use Rattle.disk_definitions.specs.FitEdits.{MeetsUse, AreFit}
use Rattle.disk_definitions.specs.Meets.{IsOfTree, IsHandOf, is_directory_use}
use Rattle.disk_definitions.specs.Plans.{Hand, Finish}
use Rattle.disk_definitions.specs.Plans.Plan.{Finishes}
use Rattle.plan_laws.specs.Moves.{AreTidy, HasSmall, HasLarge}
use Rattle.disk_definitions.specs.Lines.{plan_of_line}
use Rattle.line_laws.proofs.Laws.{lines_move, line_directories_stay}
use Rattle.line_histories.specs.Files.{HoldsBytes, IsWritten, LeavesFilled, GivesBackFree}
use Rattle.line_histories.proofs.FilesFilled.{lines_leave_filled, lines_give_back_free}
use Rattle.line_histories.specs.LinePlans.{held_of, hand_on, store_on}
use Rattle.line_histories.proofs.Hands.{is_hand}
use Rattle.line_histories.specs.Standing.{StandsForShape}
use Rattle.line_histories.proofs.Disks.{blank_of}
use Rattle.line_histories.proofs.Laid.{with_changes}
use Rattle.line_histories.proofs.Leading.{inodes_next, bits_next, uses_next, larges_next, fit_next}
use Rattle.line_histories.proofs.Meeting.{is_clear, hand_clear}

-- ---- two stores that say the same of inodes, bits and uses

module _ (t u : Store) (inode : (i : ℕ) → u.inode i ≡ t.inode i) (bit : (i : ℕ) → u.bit i ≡ t.bit i) (uses : (k : ℕ) → u.use_of k ≡ t.use_of k) (larges : (g : ℕ) → u.large_bit g ≡ t.large_bit g) where
  small_too : (i k : ℕ) → HasSmall t i k → HasSmall u i k
  small_too i k h = record { node = h.node; is = inode i ∙ h.is; index = h.index; inside = h.inside; here = h.here }

  large_too : (i g : ℕ) → HasLarge t i g → HasLarge u i g
  large_too i g h = record { node = h.node; is = inode i ∙ h.is; here = h.here }

  tidy_too : (s : Store) (edits : List Edit) → AreTidy s t edits → AreTidy s u edits
  tidy_too s edits tidy = record {
    bits = λ i. bit i ∙ tidy.bits i;
    uses = λ k. uses k ∙ tidy.uses k;
    larges = λ g. larges g ∙ tidy.larges g;
    keeps = λ i k h none. small_too i k (tidy.keeps i k h none);
    gains = λ k x e used. let r = tidy.gains k x e used in (r.0, r.1, small_too r.0 k r.2);
    keeps_large = λ i g h none. large_too i g (tidy.keeps_large i g h none);
    gains_large = λ g e. let r = tidy.gains_large g e in (r.0, r.1, large_too r.0 g r.2);
  }

  meets_too : (e : Edit) → MeetsUse t e → MeetsUse u e
  meets_too (SetInode i x dated) m = m
  meets_too (SetBit i b) m = m
  meets_too (SetUse k x) m = m
  meets_too (SetPlace k p e) m = subst IsMetadata (sym (uses k)) m
  meets_too (SetLarge g b) m = m
  meets_too (SetBytes k part bytes) m = uses k ∙ m
  meets_too (SetLargeBytes g part bytes) m = larges g ∙ m

  fit_too : (segments : ℕ) (edits : List Edit) → AreFit segments t edits → AreFit segments u edits
  fit_too segments [] fit = tt
  fit_too segments (e ∷ edits) fit = ((fit.0.0, meets_too e fit.0.1), fit_too segments edits fit.1)

-- ---- a step

-- edits between two disks, with the segments of a hint at hand: the first says what a tree is, the edits are tidy and fit; a directory's block stays one,
-- and one that becomes one was in its first state; a sector that holds bytes of a file held such before, or is written, and what is given back is free
pub record IsStep (segments : ℕ) (disk next : Sectors) (hint : List ℕ) (tree : FileTree) (naming : Naming) (edits : List Edit) : Type 0 where
  pub of : IsOfTree (store_on segments disk) tree naming
  pub tidy : AreTidy (store_on segments disk) (store_on segments next) edits
  pub fit : AreFit segments (store_on segments next) edits
  pub stay : (k : ℕ) → is_directory_use ((store_on segments disk).use_of k) ≡ true → is_directory_use ((store_on segments next).use_of k) ≡ true
  pub filled : (x : Sector) → HoldsBytes (store_on segments next) x → IsWritten edits x ⊎ HoldsBytes (store_on segments disk) x
  pub small_fresh : (k : ℕ) → Contains edits (SetUse k Fresh) → (store_on segments next).use_of k ≡ Fresh
  pub small_back : (k : ℕ) → Contains edits (SetUse k Fresh) → is_unused ((store_on segments next).use_of k) ≡ true
  pub large_back : (g : ℕ) → Contains edits (SetLarge g false) → (store_on segments next).large_bit g ≡ false
  pub come : (k : ℕ) → is_directory_use ((store_on segments next).use_of k) ≡ true →
      (is_directory_use ((store_on segments disk).use_of k) ≡ true) ⊎ (is_in_state 0 (state_in (held_of segments disk hint) k) ≡ true)

module _ (disk : Sectors) (tree : FileTree) (stands : StandsForShape tree.segments disk tree) (hint : List ℕ) (birth when : ℕ) (o : Op) (may : IsAllowed o) (new : IsNew tree birth) (small_birth : birth < 2 ^ 64) (small_time : when < 2 ^ 64) (f : Finish)
    (is : run (plan_of_line (hand_on tree.segments disk hint) birth when o) (store_on tree.segments disk) ≡ Finishes f) where
  abbrev segments : ℕ
  segments = tree.segments

  abbrev h : Hand
  h = hand_on segments disk hint

  abbrev s : Store
  s = store_on segments disk

  abbrev next : Sectors
  next = with_changes disk f.edits

  abbrev naming : Naming
  naming = stands.below.stands.naming

  at : IsHandOf h s segments
  at = is_hand segments disk hint (is_clear segments disk tree stands)

  of : IsOfTree s (shape_of tree) naming
  of = blank_of disk tree stands

  uses : (k : ℕ) → (store_on segments next).use_of k ≡ (edited_all s f.edits).use_of k
  uses = uses_next disk tree stands h at (hand_clear segments disk tree stands hint) birth when o may new small_birth small_time f is

  larges : (g : ℕ) → (store_on segments next).large_bit g ≡ (edited_all s f.edits).large_bit g
  larges = larges_next disk tree stands h at (hand_clear segments disk tree stands hint) birth when o may new small_birth small_time f is

  inode : (i : ℕ) → (store_on segments next).inode i ≡ (edited_all s f.edits).inode i
  inode = inodes_next disk tree stands h at (hand_clear segments disk tree stands hint) birth when o may new small_birth small_time f is

  bit : (i : ℕ) → (store_on segments next).bit i ≡ (edited_all s f.edits).bit i
  bit = bits_next disk tree stands h at (hand_clear segments disk tree stands hint) birth when o may new small_birth small_time f is

  step_stays : (k : ℕ) → is_directory_use (s.use_of k) ≡ true → is_directory_use ((store_on segments next).use_of k) ≡ true
  step_stays k d = ap is_directory_use (uses k) ∙ line_directories_stay o h s (shape_of tree) naming birth when f of at is k d

  step_comes : (k : ℕ) → is_directory_use ((store_on segments next).use_of k) ≡ true → (is_directory_use (s.use_of k) ≡ true) ⊎ (is_in_state 0 (state_in (held_of segments disk hint) k) ≡ true)
  step_comes k d =
      ⊎_elim (λ was. inl (is_metadata (s.use_of k) was)) (λ zero. inr zero)
      ((fit_next disk tree stands h at (hand_clear segments disk tree stands hint) birth when o may new small_birth small_time f is).clear k
      (metadata_is ((edited_all s f.edits).use_of k) (ap is_directory_use (sym (uses k)) ∙ d)))

  line_filled : LeavesFilled s naming f
  line_filled = lines_leave_filled o h s (shape_of tree) naming birth when f of at is

  line_free : GivesBackFree s naming f
  line_free = lines_give_back_free o h s (shape_of tree) naming birth when f of at is

  own_step : IsStep segments disk next hint (shape_of tree) naming f.edits
  own_step = record {
    of = of;
    tidy = tidy_too (edited_all s f.edits) (store_on segments next) inode bit uses larges s f.edits (lines_move o h s (shape_of tree) naming birth when f of at is);
    fit = fit_too (edited_all s f.edits) (store_on segments next) inode bit uses larges segments f.edits
        (fit_next disk tree stands h at (hand_clear segments disk tree stands hint) birth when o may new small_birth small_time f is).edits;
    filled = λ x holds. line_filled x (record { inode = holds.inode; node = holds.node; is = sym (inode holds.inode) ∙ holds.is; kind = holds.kind; index = holds.index; below = holds.below; here = holds.here });
    small_fresh = λ k c. uses k ∙ line_free.small k c;
    small_back = λ k c. ap is_unused (uses k ∙ line_free.small k c);
    large_back = λ g c. larges g ∙ line_free.large g c;
    stay = step_stays;
    come = step_comes;
  }

pub line_step : (segments : ℕ) (disk : Sectors) (tree : FileTree) (stands : StandsForShape segments disk tree) (hint : List ℕ) (birth when : ℕ) (o : Op) → IsAllowed o → IsNew tree birth → birth < 2 ^ 64 → when < 2 ^ 64 → (f : Finish) →
    run (plan_of_line (hand_on segments disk hint) birth when o) (store_on segments disk) ≡ Finishes f → IsStep segments disk (with_changes disk f.edits) hint (shape_of tree) stands.below.stands.naming f.edits
line_step count disk tree stands hint birth when o may new small_birth small_time f =
    subst (λ k. run (plan_of_line (hand_on k disk hint) birth when o) (store_on k disk) ≡ Finishes f → IsStep k disk (with_changes disk f.edits) hint (shape_of tree) stands.below.stands.naming f.edits) stands.as_many
    (own_step disk tree (record { well_formed = stands.well_formed; as_many = refl; below = stands.below; zeros = stands.zeros }) hint birth when o may new small_birth small_time f)
