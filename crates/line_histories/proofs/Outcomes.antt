-- What an outcome is of, and what it makes of bytes.
use Rattle.std.proofs.Common.{ℕ, ◌≡◌, ◌%◌, ◌&&◌, Bool, true, false, if◌then◌else◌, Option, Some, None, List, [], ◌∷◌, map, is_some, refl, sym, ap, ap₂, ◌∙◌}
use Rattle.std.proofs.lemmas.Map.Made.{is_some-lookup}
use Rattle.std.specs.BTreeMap.{is_at}
use Rattle.std.specs.List.{cons_option, list_any}
use Rattle.std.specs.Map.{keys_of}
use Rattle.std.specs.Option.{option_map, unwrap_or}
use Rattle.std.specs.Ordering.{nat_cmp}
use Rattle.frang_base.specs.Functions.{member}
use Rattle.sector_bytes.specs.Blocks.{Block}
use Rattle.sector_bytes.specs.SectorMaps.{value_at}
use Rattle.sector_bytes.specs.Sectors.{Sectors}
use Rattle.sector_world.specs.Histories.{Fill}
use Rattle.sector_world.specs.Histories.Fill.{Written, Freed}
use Rattle.sector_world.specs.Plans.{Outcome, made_of}
use Rattle.disk_definitions.specs.Edits.{Edit}
use Rattle.disk_definitions.specs.Edits.Edit.{SetInode, SetBit, SetUse, SetPlace, SetLarge, SetBytes, SetLargeBytes}
use Rattle.disk_definitions.specs.Ask.{Ask, run, looks}
use Rattle.disk_definitions.specs.Plans.{Hand, Plan}
use Rattle.disk_definitions.specs.Plans.Plan.{Lacks, Clears, Finishes}
use Rattle.disk_definitions.specs.Written.{byte_write, byte_writes, freed_sectors}
use Rattle.line_histories.specs.LinePlans.{may_be_planned, hand_on, byte_shown, store_showing, store_on, fill_by, edits_in, makes_by, outcome_by, outcome_if, outcome_over, are_segments}
use Rattle.line_histories.specs.Planners.{edit_shape, plan_shape}
use Rattle.line_histories.specs.Outcomes.{IsOfAFinish, IsOfAPlan, OutcomesAreOfPlans, fill_shape, MakesAreOfEdits}
use Rattle.line_histories.proofs.MayBePlanned.{allowed}
use Rattle.line_histories.proofs.Shapes.{freed_same}

-- ---- of a plan

of_finish : (segments : ℕ) (disk : Sectors) (hint : List ℕ) (program : Ask Plan) (o : Outcome) → outcome_over segments disk hint program ≡ Some o → IsOfAFinish segments disk hint program o
of_finish segments disk hint program o e = go (run program (store_on segments disk)) refl e
  where
    planned : Option Block → Plan
    planned shown = run program (store_showing shown segments disk)

    go : (v : Plan) → run program (store_on segments disk) ≡ v → outcome_if segments disk hint planned (looks program (store_on segments disk)) v ≡ Some o → IsOfAFinish segments disk hint program o
    go Lacks is e = absurd (cc)
    go (Clears k locks) is e = absurd (cc)
    go (Finishes f) is e = record { finish = f; is = is; outcome = let q : outcome_by segments disk hint planned (looks program (store_on segments disk)) f ≡ o = cc in sym q }

pub outcomes_of_plans : OutcomesAreOfPlans
outcomes_of_plans planner segments when hint n op disk o e = go (may_be_planned op) refl (are_segments segments hint) refl e
  where
    program : Ask Plan
    program = planner (hand_on segments disk hint) n (when n) op

    go : (a : Bool) → may_be_planned op ≡ a → (b : Bool) → are_segments segments hint ≡ b → (if a && b then outcome_over segments disk hint program else None) ≡ Some o → IsOfAPlan planner segments when hint n op disk o
    go true p true q e = let r = allowed op p in record { allowed = r.0; path = r.1; known = q; comes = of_finish segments disk hint program o e }
    go true p false q e = absurd (cc)
    go false p b q e = absurd (cc)

-- ---- fills

-- the numbers of the sectors that are written
write_number : (e : Edit) (es : List Edit) → keys_of (byte_writes (edit_shape e ∷ map edit_shape es)) ≡ keys_of (cons_option (byte_write e) (byte_writes (map edit_shape es)))
write_number (SetInode i x dated) es = refl
write_number (SetBit i b) es = refl
write_number (SetUse k u) es = refl
write_number (SetPlace k p o) es = refl
write_number (SetLarge g b) es = refl
write_number (SetBytes k part bytes) es = refl
write_number (SetLargeBytes g part bytes) es = refl

keys_cons : (o : Option (ℕ × List ℕ)) (xs ys : List (ℕ × List ℕ)) → keys_of xs ≡ keys_of ys → keys_of (cons_option o xs) ≡ keys_of (cons_option o ys)
keys_cons None xs ys e = e
keys_cons (Some v) xs ys e = ap (λ ks. v.0 ∷ ks) e

write_numbers : (es : List Edit) → keys_of (byte_writes (map edit_shape es)) ≡ keys_of (byte_writes es)
write_numbers [] = refl
write_numbers (e ∷ es) = write_number e es ∙ keys_cons (byte_write e) (byte_writes (map edit_shape es)) (byte_writes es) (write_numbers es)

abbrev kind_by : (freed written : Bool) → Option Fill
kind_by true written = Some Freed
kind_by false true = Some (Written [])
kind_by false false = None

kind_is : (es : List Edit) (number : ℕ) → fill_shape (fill_by es number) ≡ kind_by (member number (freed_sectors es)) (is_some (value_at (byte_writes es) number))
kind_is es number = go (member number (freed_sectors es)) (value_at (byte_writes es) number)
  where
    go : (a : Bool) (v : Option (List ℕ)) → fill_shape (if a then Some Freed else option_map (λ bytes. Written bytes) v) ≡ kind_by a (is_some v)
    go true v = refl
    go false None = refl
    go false (Some bytes) = refl

-- fills of edits that are the same but for bytes
pub fills_same : (es fs : List Edit) → map edit_shape es ≡ map edit_shape fs → (number : ℕ) → fill_shape (fill_by es number) ≡ fill_shape (fill_by fs number)
fills_same es fs same number =
    kind_is es number
    ∙ ap₂ kind_by (ap (member number) (freed_same es fs same))
    (is_some-lookup (is_at (nat_cmp number)) (byte_writes es) ∙ ap (list_any (is_at (nat_cmp number))) (sym (write_numbers es) ∙ ap (λ gs. keys_of (byte_writes gs)) same ∙ write_numbers fs)
    ∙ sym (is_some-lookup (is_at (nat_cmp number)) (byte_writes fs)))
    ∙ sym (kind_is fs number)

-- edits of plans of one shape
pub edits_same : (v w : Plan) → plan_shape v ≡ plan_shape w → map edit_shape (edits_in v) ≡ map edit_shape (edits_in w)
edits_same v w e = sym (shape v) ∙ ap edits_in e ∙ shape w
  where
    shape : (v : Plan) → edits_in (plan_shape v) ≡ map edit_shape (edits_in v)
    shape Lacks = refl
    shape (Clears k locks) = refl
    shape (Finishes f) = refl

made_kind : (planned : Option Block → Plan) (number : ℕ) (shown : Option Block) → fill_shape (fill_by (edits_in (planned shown)) number) ≡ fill_shape (fill_by (edits_in (planned None)) number) →
    fill_shape (made_of (makes_by planned number) shown) ≡ fill_shape (fill_by (edits_in (planned None)) number)
made_kind planned number shown same = go (fill_by (edits_in (planned None)) number) (fill_by (edits_in (planned shown)) number) refl same
  where
    go : (a b : Option Fill) → fill_by (edits_in (planned shown)) number ≡ b → fill_shape b ≡ fill_shape a →
        fill_shape (made_of (option_map (λ fill shown. unwrap_or (fill_by (edits_in (planned shown)) number) fill) a) shown) ≡ fill_shape a
    go None b q e = refl
    go (Some fill) None q e = rw q refl
    go (Some fill) (Some other) q e = rw q e

pub makes_of_edits : MakesAreOfEdits
makes_of_edits planner sound segments when hint n op disk o of number shown =
    ap (λ (z : Outcome). fill_shape (made_of (z.makes number) shown)) of.comes.outcome
    ∙ made_kind planned number shown (fills_same (edits_in (planned shown)) (edits_in (planned None)) (edits_same (planned shown) (planned None) blind) number)
    ∙ ap (λ v. fill_shape (fill_by (edits_in v) number)) of.comes.is
  where
    h : Hand
    h = hand_on segments disk hint

    planned : Option Block → Plan
    planned shown = run (planner h n (when n) op) (store_showing shown segments disk)

    blind : plan_shape (planned shown) ≡ plan_shape (planned None)
    blind = (sound.blind op h (store_on segments disk) n (when n) (λ block index. byte_shown shown (index % 512)) (λ large index. byte_shown shown (index % 512))).1
