-- A removal leaves the marks of doubt covered: another server's parts lay where they lie, and a server's own operations before its last recovery stay.
use Rattle.std.proofs.Common.{ℕ, ◌≡◌, ◌≢◌, ◌≤◌, ◌<◌, ◌&&◌, ◌||◌, ◌==◌, not, ⊎_elim, Bool, true, false, if◌then◌else◌, is_some, nat_eq, nat_le, nat_lt, Option, Some, List, [], ◌∷◌, refl, sym, ◌∙◌, ap, subst, arith}
use Rattle.std.proofs.lemmas.Bool.Decides.{nat_tests}
use Rattle.std.proofs.lemmas.Bool.{cases_eq}
use Rattle.frang_base.specs.Functions.{keep_if}
use Rattle.frang_base.specs.declared.lock.LockId.{LockId}
use Rattle.frang_base.proofs.Basics.{by_keep}
use Rattle.tree_definitions.specs.History.{CellRun}
use Rattle.tree_definitions.specs.Touched.{shape_of}
use Rattle.tree_definitions.specs.Tree.{FileTree, node_at}
use Rattle.sector_bytes.specs.Blocks.{Block}
use Rattle.sector_world.specs.Histories.{Commit, Each, Item, in_doubt, is_own, kept, survives}
use Rattle.sector_world.specs.Histories.Item.{Done, Doubt}
use Rattle.sector_world.specs.Plans.{IsByPlan, Legal}
use Rattle.sector_world.proofs.Bytes.{doubt_kept}
use Rattle.sector_world.proofs.HistoryLaws.{each_kept, each_map}
use Rattle.sector_world.proofs.Plans.{legal_kept}
use Rattle.sector_world.proofs.Removals.{survives_low}
use Rattle.sector_world.proofs.Seen.{clear_survives}
use Rattle.sector_world.specs.Trees.{Distinct, tree_of}
use Rattle.disk_definitions.specs.Meets.{IsOfTree}
use Rattle.line_histories.specs.LinePlans.{sector_plan}
use Rattle.line_histories.proofs.Framed.{lines_framed}
use Rattle.line_histories.specs.Following.{CoversFollow, store_after}
use Rattle.line_histories.specs.Trees.{MayNumber, MayTake, performed, performed_numbered}
use Rattle.line_histories.proofs.Runs.{numbered, take_distinct}
use Rattle.line_histories.proofs.Following.{distinct_kept}
use Rattle.byte_trees.specs.Deeds.{Deed, Does, Says, Doubts, items, tree_after}
use Rattle.stop_laws.specs.Along.{LiesAfter}
use Rattle.stop_laws.specs.Happened.{has_lost, what_stays}
use Rattle.stop_laws.specs.Paired.{AreLines}
use Rattle.stop_laws.proofs.Lines.{shapes_follow}
use Rattle.stop_laws.proofs.Staying.{items_stay}
use Rattle.stop_laws.specs.Cells.{CoversMarks}
use Rattle.stop_laws.specs.Coverage.{AllCovered, IsCovered, RemovalsKeepCoverage}
use Rattle.stop_laws.specs.Sight.{AllSee, Begins, MayGo, RemovalsKeepSight}
use Rattle.stop_laws.proofs.Guarded.{all_guarded, all_own, covers}
use Rattle.stop_laws.proofs.Parts.{LiesOn, LiesSized, lay}
use Rattle.stop_laws.proofs.Removing.{sight_stays}

-- ---- what a removal leaves

-- deeds none of whose operations go stay whole
whole : (server durable : ℕ) (deeds : List Deed) → Each (λ c. c.by ≡ server → c.op ≤ durable) (items deeds) → (what_stays server durable deeds ≡ deeds) × (has_lost server durable deeds ≡ false)
whole server durable [] low = (refl, refl)
whole server durable (Does c e ∷ older) low =
    let rest = whole server durable older low.1 in
    let there : survives server durable c ≡ true = survives_low server durable c low.0 in (
      ap (λ b. keep_if b (Does c e) (what_stays server durable older)) there ∙ ap (λ l. Does c e ∷ l) rest.0,
      ap (λ b. b || has_lost server durable older) (not_own there) ∙ rest.1,
    )
  where
    not_own : survives server durable c ≡ true → is_own server durable c ≡ false
    not_own there = go (nat_eq c.by server) there
      where
        go : (b : Bool) → (if b then nat_le c.op durable else true) ≡ true → (if b then nat_lt durable c.op else false) ≡ false
        go true e = grind (arith, nat_tests)
        go false e = refl
whole server durable (Says e ∷ older) low =
    let rest = whole server durable older low in (
      ap (λ b. keep_if (not (e.server.0 == server && b)) (Says e) (what_stays server durable older)) rest.1
          ∙ ap (λ b. keep_if b (Says e) (what_stays server durable older)) (stays (e.server.0 == server)) ∙ ap (λ l. Says e ∷ l) rest.0,
      rest.1,
    )
  where
    stays : (b : Bool) → not (b && false) ≡ true
    stays true = refl
    stays false = refl
whole server durable (Doubts marked runs ∷ older) low = let rest = whole server durable older low in (ap (λ l. Doubts marked runs ∷ l) rest.0, rest.1)

-- operations and entries of lines stay such
lines_stay : (when : ℕ → ℕ) (server durable : ℕ) (deeds : List Deed) → AreLines when deeds → AreLines when (what_stays server durable deeds)
lines_stay when server durable [] all = tt
lines_stay when server durable (Does c e ∷ older) all =
    by_keep (AreLines when) (survives server durable c) (Does c e) (what_stays server durable older) (λ there. (all.0, lines_stay when server durable older all.1))
    (λ goes. lines_stay when server durable older all.1)
lines_stay when server durable (Says e ∷ older) all =
    by_keep (AreLines when) (not (e.server.0 == server && has_lost server durable older)) (Says e) (what_stays server durable older)
    (λ there. (all.0, lines_stay when server durable older all.1)) (λ goes. lines_stay when server durable older all.1)
lines_stay when server durable (Doubts marked runs ∷ older) all = lines_stay when server durable older all

-- numbers that are apart for a tree with those that are left are so for the tree
untaken : (numbers : List ℕ) (first : FileTree) (h : List Item) → Distinct MayTake (numbered first numbers) h → Distinct (MayNumber numbers) first h
untaken numbers first [] d = tt
untaken numbers first (Done c ∷ h) d = (d.0, d.1, untaken numbers first h d.2)
untaken numbers first (Doubt m ∷ h) d = untaken numbers first h d

same_tree : (when : ℕ → ℕ) (first : FileTree) (numbers : List ℕ) (h : List Item) →
    (tree_of (performed_numbered when) (numbered first numbers) h).tree ≡ tree_of (performed when) first h
same_tree when first numbers [] = refl
same_tree when first numbers (Done c ∷ h) = ap (λ t. (performed when c.op c.asked c.blocks t).tree) (same_tree when first numbers h)
same_tree when first numbers (Doubt m ∷ h) = same_tree when first numbers h

module _ (segments : ℕ) (when : ℕ → ℕ) (opening : ℕ → Block) (first_tree : FileTree) (numbers : List ℕ) (home : ℕ → LockId) (logged : ℕ → Bool) (first : ℕ → Option Block)
    (begins : Begins segments when opening first_tree numbers home logged first) (server durable : ℕ) where
  pub legal_stays : (h : List Item) → MayGo segments when opening first_tree numbers server durable h → Legal (sector_plan segments when) opening (kept (survives server durable) h)
  legal_stays h may =
      legal_kept (sector_plan segments when) opening (survives server durable) (lines_framed segments when) h (clear_survives server durable h may.rises may.unseen) may.legal

  pub distinct_stays : (h : List Item) → MayGo segments when opening first_tree numbers server durable h → Distinct (MayNumber numbers) first_tree (kept (survives server durable) h)
  distinct_stays h may = distinct_kept numbers first_tree (survives server durable) h may.distinct

  by_plan_stays : (h : List Item) → MayGo segments when opening first_tree numbers server durable h → Each IsByPlan (kept (survives server durable) h)
  by_plan_stays h may = each_kept IsByPlan (survives server durable) h may.by_plan

  pub sees_on : (h : List Item) → MayGo segments when opening first_tree numbers server durable h → AllSee home h → AllSee home (kept (survives server durable) h)
  sees_on h may a =
      sight_stays home server durable h may.rises may.unmet
      (all_guarded segments when opening first_tree numbers home logged first begins h may.legal may.distinct may.by_plan) a

  -- ---- marks of another server

  shape_is : (deeds : List Deed) → Legal (sector_plan segments when) opening (items deeds) → Distinct (MayNumber numbers) first_tree (items deeds) → AreLines when deeds →
      shape_of (tree_after first_tree deeds) ≡ shape_of (tree_of (performed_numbered when) (numbered first_tree numbers) (items deeds)).tree
  shape_is deeds l d lines =
      shapes_follow segments when opening first_tree numbers deeds begins.times begins.stands l d lines ∙ ap shape_of (sym (same_tree when first_tree numbers (items deeds)))

  module _ (older : List Deed) (may : MayGo segments when opening first_tree numbers server durable (items older)) (lines : AreLines when older) (a : AllSee home (items older))
      (marked : ℕ → Bool) (runs : List CellRun) (other number : ℕ) (far : other ≢ server)
      (marks : (sector : ℕ) → marked sector ≡ true → in_doubt other number (items older) sector ≡ true) (cover : CoversMarks segments opening first_tree marked runs older) where
    left_is : items (what_stays server durable older) ≡ kept (survives server durable) (items older)
    left_is = items_stay server durable older

    shape_left : shape_of (tree_after first_tree (what_stays server durable older))
        ≡ shape_of (tree_of (performed_numbered when) (numbered first_tree numbers) (kept (survives server durable) (items older))).tree
    shape_left =
        shape_is (what_stays server durable older) (subst (Legal (sector_plan segments when) opening) (sym left_is) (legal_stays (items older) may))
        (subst (Distinct (MayNumber numbers) first_tree) (sym left_is) (distinct_stays (items older) may)) (lines_stay when server durable older lines)
        ∙ ap (λ h. shape_of (tree_of (performed_numbered when) (numbered first_tree numbers) h).tree) left_is

    shape_older : shape_of (tree_after first_tree older) ≡ shape_of (tree_of (performed_numbered when) (numbered first_tree numbers) (items older)).tree
    shape_older = shape_is older may.legal may.distinct lines

    module _ (birth part sector : ℕ) (lies : LiesAfter segments opening first_tree birth part sector (what_stays server durable older)) (is : marked sector ≡ true) where
      abbrev on : LiesOn segments when begins.times opening (numbered first_tree numbers) begins.stands birth part sector (kept (survives server durable) (items older))
      on = record {
        naming = lies.naming;
        of = subst (λ t. IsOfTree (store_after segments opening (kept (survives server durable) (items older))) t lies.naming) shape_left
            (subst (λ h. IsOfTree (store_after segments opening h) (shape_of (tree_after first_tree (what_stays server durable older))) lies.naming) left_is lies.of);
        sector = lies.sector;
        lies = record {
          there = subst (λ t. is_some (node_at t birth) ≡ true) shape_left lies.lies.there;
          stored = lies.lies.stored;
          is = subst (λ h. (store_after segments opening h).inode (lies.naming.inode birth) ≡ Some lies.lies.stored) left_is lies.lies.is;
          kind = lies.lies.kind;
          below = lies.lies.below;
          here = lies.lies.here;
        };
        here = lies.here;
      }

      follow : (h : List Item) → Legal (sector_plan segments when) opening h → Distinct MayTake (numbered first_tree numbers) h → Each IsByPlan h → CoversFollow segments opening home h
      follow h l d by = covers segments when opening first_tree numbers home logged first begins h l (untaken numbers first_tree h d) by

      before : LiesSized segments when begins.times opening (numbered first_tree numbers) begins.stands birth part sector lies.lies.stored.size (items older)
      before =
          lay segments when begins.times opening (numbered first_tree numbers) begins.stands home server durable follow (items older) may.rises may.unseen may.unmet
          (all_guarded segments when opening first_tree numbers home logged first begins (items older) may.legal may.distinct may.by_plan)
          (λ i low. all_own segments when opening first_tree numbers home logged first begins i low (items older) may.legal may.distinct may.by_plan) a
          may.legal (take_distinct when first_tree numbers (items older) may.distinct) may.by_plan
          (legal_stays (items older) may) (take_distinct when first_tree numbers (kept (survives server durable) (items older)) (distinct_stays (items older) may)) (by_plan_stays (items older) may)
          other number far birth part sector on (marks sector is)

    covers_left : CoversMarks segments opening first_tree marked runs (what_stays server durable older)
    covers_left birth part sector lies is at lo hi low =
        let x = before birth part sector lies is in
        let back : LiesAfter segments opening first_tree birth part sector older = record {
          naming = x.on.naming;
          of = subst (λ t. IsOfTree (store_after segments opening (items older)) t x.on.naming) (sym shape_older) x.on.of;
          sector = x.on.sector;
          lies = record {
            there = subst (λ t. is_some (node_at t birth) ≡ true) (sym shape_older) x.on.lies.there;
            stored = x.on.lies.stored;
            is = x.on.lies.is;
            kind = x.on.lies.kind;
            below = x.on.lies.below;
            here = x.on.lies.here;
          };
          here = x.on.here;
        } in
        cover birth part sector back is at lo hi (subst (λ z. at < z) (sym x.same) low)

  -- ---- all marks

  older_goes : (c : Commit) (h : List Item) → MayGo segments when opening first_tree numbers server durable (Done c ∷ h) → MayGo segments when opening first_tree numbers server durable h
  older_goes c h may = record {
    legal = may.legal.1;
    distinct = may.distinct.2;
    by_plan = may.by_plan.1;
    rises = may.rises.1;
    unseen = may.unseen.1;
    unmet = may.unmet.1;
  }

  marked_goes : (m : ℕ → Bool) (h : List Item) → MayGo segments when opening first_tree numbers server durable (Doubt m ∷ h) → MayGo segments when opening first_tree numbers server durable h
  marked_goes m h may = record { legal = may.legal; distinct = may.distinct; by_plan = may.by_plan; rises = may.rises; unseen = may.unseen; unmet = may.unmet }

  module _ (most : ℕ → ℕ) (within : most server ≤ durable) where
    covered_on : (marked : ℕ → Bool) (runs : List CellRun) (older : List Deed) → MayGo segments when opening first_tree numbers server durable (items older) → AreLines when older →
        AllSee home (items older) → IsCovered segments opening first_tree most marked runs older → IsCovered segments opening first_tree most marked runs (what_stays server durable older)
    covered_on marked runs older may lines a its = ⊎_elim own another (cases_eq its.server server)
      where
        own : its.server ≡ server → IsCovered segments opening first_tree most marked runs (what_stays server durable older)
        own same =
            subst (λ d. IsCovered segments opening first_tree most marked runs d)
            (sym (whole server durable older
            (each_map (λ c. c.by ≡ its.server → c.op ≤ most its.server) (λ c. c.by ≡ server → c.op ≤ durable)
            (λ c low by. let m : c.op ≤ most its.server = low (by ∙ sym same) in let n : most its.server ≤ durable = subst (λ s. most s ≤ durable) (sym same) within in omega arith)
            (items older) its.stays)).0)
            its

        another : its.server ≢ server → IsCovered segments opening first_tree most marked runs (what_stays server durable older)
        another far = record {
          server = its.server;
          number = its.number;
          marks = λ sector is. subst (λ h. in_doubt its.server its.number h sector ≡ true) (sym (items_stay server durable older))
              (doubt_kept its.server its.number sector server durable far (items older) (its.marks sector is));
          stays = subst (Each (λ c. c.by ≡ its.server → c.op ≤ most its.server)) (sym (items_stay server durable older))
              (each_kept (λ c. c.by ≡ its.server → c.op ≤ most its.server) (survives server durable) (items older) its.stays);
          covers = covers_left older may lines a marked runs its.server its.number far its.marks its.covers;
        }

    pub all_covered_on : (deeds : List Deed) → MayGo segments when opening first_tree numbers server durable (items deeds) → AreLines when deeds → AllSee home (items deeds) →
        AllCovered segments opening first_tree most deeds → AllCovered segments opening first_tree most (what_stays server durable deeds)
    all_covered_on [] may lines a all = tt
    all_covered_on (Does c e ∷ older) may lines a all =
        let rest = all_covered_on older (older_goes c (items older) may) lines.1 a.1 all in
        by_keep (AllCovered segments opening first_tree most) (survives server durable c) (Does c e) (what_stays server durable older) (λ there. rest) (λ goes. rest)
    all_covered_on (Says e ∷ older) may lines a all =
        let rest = all_covered_on older may lines.1 a all in
        by_keep (AllCovered segments opening first_tree most) (not (e.server.0 == server && has_lost server durable older)) (Says e) (what_stays server durable older)
        (λ there. rest) (λ goes. rest)
    all_covered_on (Doubts marked runs ∷ older) may lines a all =
        (covered_on marked runs older (marked_goes marked (items older) may) lines a all.0, all_covered_on older (marked_goes marked (items older) may) lines a all.1)

pub removals_keep_sight : RemovalsKeepSight
removals_keep_sight segments when opening first_tree numbers home logged first server durable h begins may a =
    sees_on segments when opening first_tree numbers home logged first begins server durable h may a

pub removals_keep_coverage : RemovalsKeepCoverage
removals_keep_coverage segments when opening first_tree numbers home logged first server durable most deeds begins may lines a within all =
    all_covered_on segments when opening first_tree numbers home logged first begins server durable most within deeds may lines a all
