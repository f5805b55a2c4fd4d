-- No later deed shows anything of what nobody met: what it touches is under a lock that it uses, and where it is refused for want of room it uses that of each segment.
use Rattle.std.proofs.Common.{ℕ, ◌≡◌, ◌≢◌, ◌≤◌, ◌==◌, ◌&&◌, ◌||◌, ◌⊎◌, ⊎_elim, inl, inr, not, Bool, true, false, is_some, if◌then◌else◌, Option, List, [], ◌∷◌, ◌++◌, filter, refl, sym, ◌∙◌, ap, subst}
use Rattle.std.specs.List.{list_any}
use Rattle.std.proofs.lemmas.Bool.{and_parts, eq-eqb, eqb-true, false_from_ne_true}
use Rattle.std.proofs.lemmas.List.{append_assoc}
use mathlib.Core.Bool.{and-false, or-true}
use Rattle.frang_base.specs.Locks.{has_lock}
use Rattle.frang_base.specs.declared.lock.LockId.{LockId}
use Rattle.frang_base.specs.declared.lock.LockId.TheVariants as lock
use Rattle.frang_base.specs.declared.op.Op.{Op}
use Rattle.frang_base.specs.declared.op.Op.TheVariants as op
use Rattle.frang_base.specs.declared.reply.Reply.{Reply}
use Rattle.frang_base.specs.declared.reply.Reply.TheVariants as reply
use Rattle.tree_definitions.specs.declared.history.Entry.{Entry}
use Rattle.tree_definitions.specs.History.{InDoubt, Settled, Stays, applied, leaves_tree}
use Rattle.tree_definitions.specs.Touched.{births, changed, changes, changes_room, is_mounted, is_nospace, is_ok, is_sync, is_unmount, touches}
use Rattle.tree_definitions.specs.Tree.{FileTree, node_at}
use Rattle.tree_laws.specs.Syncing.{stalled_along}
use Rattle.known_laws.specs.Knowing.{is_foreign, is_hidden, is_refused, makes_sure, step_touches}
use Rattle.known_laws.proofs.There.{touched_are_there}
use Rattle.sector_bytes.specs.Blocks.{Block}
use Rattle.sector_world.specs.Histories.{Commit, Each, Item, logical}
use Rattle.sector_world.specs.Histories.Item.{Done, Doubt}
use Rattle.sector_world.specs.Plans.{IsByPlan, Legal, outcome_of}
use Rattle.sector_world.specs.Seen.{IsLost, Unmet}
use Rattle.sector_world.specs.Trees.{Distinct}
use Rattle.disk_definitions.specs.Meets.{IsOfTree}
use Rattle.disk_definitions.specs.Lines.{plan_of_line}
use Rattle.line_laws.specs.Laws.{HasPath}
use Rattle.line_histories.specs.LinePlans.{sector_plan}
use Rattle.line_histories.specs.Following.{store_after}
use Rattle.line_histories.specs.Trees.{MayNumber}
use Rattle.line_histories.proofs.Outcomes.{outcomes_of_plans}
use Rattle.line_histories.proofs.Runs.{numbered, take_distinct}
use Rattle.byte_trees.specs.Deeds.{Deed, Does, Says, Doubts, items, steps, tree_after}
use Rattle.stop_laws.specs.Happened.{has_lost}
use Rattle.stop_laws.specs.Pairs.{ComesAfter}
use Rattle.stop_laws.specs.Paired.{AreLines}
use Rattle.stop_laws.specs.Sight.{Begins}
use Rattle.stop_laws.specs.Sure.{AllSure}
use Rattle.stop_laws.proofs.Alone.{leaving_touches_none, path_no_sync}
use Rattle.stop_laws.proofs.Births as named
use Rattle.stop_laws.proofs.Pairs.{distinct_behind, each_behind, legal_behind, nothing_lost_is_touched}
use Rattle.stop_laws.proofs.Staying.{some_above}
use Rattle.stop_laws.proofs.Uses.{lines_take_room_alone}
use Rattle.kept_laws.specs.Hidden.{AllHide, HidesLost, UnmetDeedsAreHidden}
use Rattle.kept_laws.proofs.Nodes.{AreGood, good_before, new_after, shape_is, there_in_shape, there_or_own}
use Rattle.kept_laws.proofs.Room.{uses_all}

-- ---- tests

-- no element that one test passes passes another
none_any : (f p : ℕ → Bool) (xs : List ℕ) → ((x : ℕ) → p x ≡ true → f x ≡ true → ⊥) → list_any f (filter p xs) ≡ false
none_any f p [] none = refl
none_any f p (x ∷ xs) none = go (p x) refl (none_any f p xs none)
  where
    go : (b : Bool) → p x ≡ b → list_any f (filter p xs) ≡ false → list_any f (if b then x ∷ filter p xs else filter p xs) ≡ false
    go true is rest = ap (λ c. c || list_any f (filter p xs)) (false_from_ne_true (f x) (none x is)) ∙ rest
    go false is rest = rest

neither : (a b : Bool) → (a ≡ true → b ≡ true → ⊥) → a && b ≡ false
neither true b none = false_from_ne_true b (none refl)
neither false b none = refl

either_false : (a b : Bool) → a ≡ false → b ≡ false → a || b ≡ false
either_false true b none other = none
either_false false b none other = other

also : (m x y : Bool) → x || y ≡ true → m || x || y ≡ true
also true x y some = refl
also false true y some = refl
also false false true some = refl
also false false false some = absurd (cc)

-- a reply that leaves the tree is no answer for want of room
leaving_has_room : (o : Op) (r : Reply) → leaves_tree o r ≡ true → is_nospace r ≡ false
leaving_has_room o reply.NoInode leaves = absurd (cc)
leaving_has_room o reply.NoDirBlock leaves = absurd (cc)
leaving_has_room o (reply.NoBlock m) leaves = absurd (cc)
leaving_has_room o reply.NoLarge leaves = absurd (cc)
leaving_has_room o _ leaves = refl

-- an operation with a path is no unmount
path_no_unmount : (o : Op) → HasPath o → is_unmount o ≡ false
path_no_unmount op.Unmount path = absurd path
path_no_unmount o path = refl

-- ---- what is hidden by what a step doesn't show

module _ (server : ℕ) (last t : FileTree) (s : Settled) (e : Entry) where
  -- what the step shows of the entry
  abbrev shows : Bool
  shows = list_any (step_touches last s) (changed t e) || (changes_room t e && is_refused s)

  hidden_where : shows ≡ false → is_hidden server last s t (Stays e) ≡ true
  hidden_where none =
      ap (λ b. not (e.server.0 == server) || not (is_foreign server s && b)) none ∙ ap (λ b. not (e.server.0 == server) || not b) (and-false (is_foreign server s))
      ∙ or-true (not (e.server.0 == server))

  hidden_from_own : is_foreign server s ≡ false → is_hidden server last s t (Stays e) ≡ true
  hidden_from_own own = ap (λ b. not (e.server.0 == server) || not (b && shows)) own ∙ or-true (not (e.server.0 == server))

  -- of nothing that it touches, nor where it is refused
  hidden_by : ((b : ℕ) → changes t e b ≡ true → step_touches last s b ≡ true → ⊥) → (changes_room t e ≡ true → is_refused s ≡ true → ⊥) → is_hidden server last s t (Stays e) ≡ true
  hidden_by untouched unrefused =
      hidden_where
      (either_false (list_any (step_touches last s) (changed t e)) (changes_room t e && is_refused s)
      (none_any (step_touches last s) (changes t e) (births t (applied t e).tree) untouched) (neither (changes_room t e) (is_refused s) unrefused))

-- ---- two deeds

module _ (segments : ℕ) (when : ℕ → ℕ) (opening : ℕ → Block) (first : FileTree) (numbers : List ℕ) (home : ℕ → LockId) (logged : ℕ → Bool) (bytes : ℕ → Option Block)
    (begin : Begins segments when opening first numbers home logged bytes) (server durable : ℕ) where
  abbrev pub Good : List Deed → Type 0
  Good deeds = AreGood segments when opening first numbers begin.times begin.stands deeds

  module _ (c2 : Commit) (e2 : Entry) (older2 : List Deed) (good2 : Good (Does c2 e2 ∷ older2)) (by2 : Each IsByPlan (items older2))
      (unmet : Unmet server durable (items (Does c2 e2 ∷ older2))) where
    abbrev last : FileTree
    last = tree_after first older2

    module _ (c : Commit) (e : Entry) (older : List Deed) (more : List Item) (place : items older2 ≡ more ++ Done c ∷ items older) (lines : AreLines when (Does c e ∷ older))
        (lost : IsLost server durable c) (foreign : c2.by ≢ server) where
      abbrev t : FileTree
      t = tree_after first older

      comes : ComesAfter server durable c older more c2 older2
      comes = record { place = place; lost = lost; foreign = foreign }

      good : Good (Does c e ∷ older)
      good = record {
        legal = legal_behind (sector_plan segments when) opening more (Done c ∷ items older) (subst (Legal (sector_plan segments when) opening) place good2.legal.1);
        distinct = distinct_behind numbers first more (Done c ∷ items older) (subst (Distinct (MayNumber numbers) first) place good2.distinct.2);
        lines = lines;
      }

      -- of what each operation between them is not
      of_it : (P : Commit → Type 0) → Each P (items older2) → Each P (Done c ∷ items older)
      of_it P all = each_behind P more (Done c ∷ items older) (subst (Each P) place all)

      others : Each (λ x. x.op ≢ c2.op) (Done c ∷ items older)
      others = of_it (λ x. x.op ≢ c2.op) good2.distinct.1

      -- what the first changed isn't what the second makes
      not_its_own : (b : ℕ) → changes t e b ≡ true → b ≡ c2.op → ⊥
      not_its_own b change own =
          ⊎_elim
          (λ there.
          let none = new_after segments when opening first numbers begin.times begin.stands older (good_before segments when opening first numbers begin.times begin.stands c e older good) c2.op
          others.1 (take_distinct when first numbers (items (Does c2 e2 ∷ older2)) good2.distinct).0 in
          let z : true ≡ false = sym there ∙ ap (λ k. is_some (node_at t k)) own ∙ ap is_some none in
          cc)
          (λ is. others.0 (sym is ∙ own)) (there_or_own segments when opening first numbers begin.times begin.stands c e older good b change)

      is_there : (b : ℕ) → changes t e b ≡ true → touches last e2 b ≡ true → is_some (node_at last b) ≡ true
      is_there b change touch =
          ⊎_elim (λ there. there)
          (λ change2. ⊎_elim (λ there. there) (λ own. absurd (not_its_own b change own)) (there_or_own segments when opening first numbers begin.times begin.stands c2 e2 older2 good2 b change2))
          (touched_are_there last e2 b touch)

      none_touched : (b : ℕ) → changes t e b ≡ true → touches last e2 b ≡ true → ⊥
      none_touched b change touch =
          nothing_lost_is_touched segments when opening first numbers home logged bytes begin server durable c e older more c2 e2 older2 good2.legal good2.distinct by2 good2.lines lines unmet comes b
          (⊎_elim (λ there. inl (there_in_shape t b there)) (λ own. inr own) (there_or_own segments when opening first numbers begin.times begin.stands c e older good b change))
          (there_in_shape last b (is_there b change touch)) change touch

      none_refused : changes_room t e ≡ true → is_nospace e2.reply ≡ true → ⊥
      none_refused takes refused =
          let n = named.named segments when begin.times opening (numbered first numbers) begin.stands (items older) good.legal.1 (take_distinct when first numbers (items older) good.distinct.2) in
          let shape = shape_is segments when opening first numbers begin.times begin.stands older (good_before segments when opening first numbers begin.times begin.stands c e older good) in
          let held = lines_take_room_alone segments when opening first numbers c e older begin.times begin.stands good.legal good.distinct lines n.0
          (subst (λ u. IsOfTree (store_after segments opening (items older)) u n.0) (sym shape) n.1) takes in
          let used : has_lock (lock.Segment held.0) c2.uses ≡ true = uses_all segments when opening first numbers begin.times begin.stands c2 e2 older2 good2 refused held.0 held.1 in
          (of_it (λ x. IsLost server durable x → has_lock (lock.Segment held.0) x.alone ≡ true → ⊥) (unmet.0 foreign (lock.Segment held.0) used)).0 lost held.2

    -- so the second shows nothing of the first
    hides_one : (c : Commit) (e : Entry) (older : List Deed) (more : List Item) → items older2 ≡ more ++ Done c ∷ items older → AreLines when (Does c e ∷ older) → IsLost server durable c →
        is_hidden server last (Stays e2) (tree_after first older) (Stays e) ≡ true
    hides_one c e older more place lines lost = go (e2.server.0 == server) refl
      where
        go : (own : Bool) → e2.server.0 == server ≡ own → is_hidden server last (Stays e2) (tree_after first older) (Stays e) ≡ true
        go true is = hidden_from_own server last (tree_after first older) (Stays e2) e (ap not is)
        go false is =
            let foreign : c2.by ≢ server = (λ same. let z : true ≡ false = sym (eq-eqb e2.server.0 server (good2.lines.0.by ∙ same)) ∙ is in cc) in
            hidden_by server last (tree_after first older) (Stays e2) e (none_touched c e older more place lines lost foreign) (none_refused c e older more place lines lost foreign)

    -- nor of any lost one
    hides_lost : (more : List Item) (rest : List Deed) → items older2 ≡ more ++ items rest → AreLines when rest → HidesLost server durable first last (Stays e2) rest
    hides_lost more [] place lines = tt
    hides_lost more (Does c e ∷ older) place lines = (
      (λ lost. hides_one c e older more place lines lost),
      hides_lost (more ++ Done c ∷ []) older (place ∙ sym (append_assoc more (Done c ∷ []) (items older))) lines.1,
    )
    hides_lost more (Says e ∷ older) place lines = hides_lost more older place lines.1
    hides_lost more (Doubts marked runs ∷ older) place lines = hides_lost (more ++ Doubt marked ∷ []) older (place ∙ sym (append_assoc more (Doubt marked ∷ []) (items older))) lines

  -- ---- entries alone, and ends of recoveries

  -- a step of which nothing is shown
  shows_nothing : (last : FileTree) (s : Settled) → ((t : FileTree) (e : Entry) → is_hidden server last s t (Stays e) ≡ true) → (deeds : List Deed) → HidesLost server durable first last s deeds
  shows_nothing last s none [] = tt
  shows_nothing last s none (Does c e ∷ older) = ((λ lost. none (tree_after first older) e), shows_nothing last s none older)
  shows_nothing last s none (Says e ∷ older) = shows_nothing last s none older
  shows_nothing last s none (Doubts marked runs ∷ older) = shows_nothing last s none older

  saying_hides : (last : FileTree) (e2 : Entry) → leaves_tree e2.op e2.reply ≡ true → (t : FileTree) (e : Entry) → is_hidden server last (Stays e2) t (Stays e) ≡ true
  saying_hides last e2 leaves t e =
      hidden_by server last t (Stays e2) e (λ b change touch. let z : true ≡ false = sym touch ∙ leaving_touches_none last e2 leaves b in cc)
      (λ takes refused. let z : true ≡ false = sym refused ∙ leaving_has_room e2.op e2.reply leaves in cc)

  -- ---- what makes sure

  none_lost : (deeds : List Deed) → Each (λ c. c.by ≡ server → c.op ≤ durable) (items deeds) → has_lost server durable deeds ≡ false
  none_lost deeds low = false_from_ne_true (has_lost server durable deeds) (λ some. some_above server 0 durable first deeds some low)

  saying_sure : (e : Entry) (older : List Deed) → AllSure server durable (Says e ∷ older) → makes_sure server (stalled_along server false (steps older)) (Stays e) ≡ true →
      has_lost server durable older ≡ false
  saying_sure e older sure makes =
      let stalled = stalled_along server false (steps older) in
      let p = and_parts (e.server.0 == server) ((is_sync e.op && is_ok e.reply) || (is_unmount e.op && is_ok e.reply && not stalled)) makes in
      none_lost older
      (sure.0 (eqb-true e.server.0 server p.0) (also (is_mounted e.reply) (is_sync e.op && is_ok e.reply) (is_unmount e.op && is_ok e.reply && not stalled) p.1))

  doing_unsure : (c : Commit) (e : Entry) (older : List Deed) → Good (Does c e ∷ older) → (stalled : Bool) → makes_sure server stalled (Stays e) ≡ true → ⊥
  doing_unsure c e older good stalled makes =
      let path : HasPath c.asked = (outcomes_of_plans plan_of_line segments when c.hint c.op c.asked (logical opening (items older)) (outcome_of c) good.legal.0).path in
      let p = and_parts (e.server.0 == server) ((is_sync e.op && is_ok e.reply) || (is_unmount e.op && is_ok e.reply && not stalled)) makes in
      let none : (is_sync e.op && is_ok e.reply) || (is_unmount e.op && is_ok e.reply && not stalled) ≡ false =
      ap (λ o. (is_sync o && is_ok e.reply) || (is_unmount o && is_ok e.reply && not stalled)) good.lines.0.asked
      ∙ ap (λ b. (b && is_ok e.reply) || (is_unmount c.asked && is_ok e.reply && not stalled)) (path_no_sync c.asked path)
      ∙ ap (λ b. b && is_ok e.reply && not stalled) (path_no_unmount c.asked path) in
      let z : true ≡ false = sym p.1 ∙ none in
      cc

  -- ---- all deeds

  all_hide : (deeds : List Deed) → Good deeds → Each IsByPlan (items deeds) → Unmet server durable (items deeds) → AllSure server durable deeds → AllHide server durable first deeds
  all_hide [] good by unmet sure = tt
  all_hide (Does c e ∷ older) good by unmet sure = (
    hides_lost c e older good by.1 unmet [] older refl good.lines.1,
    (λ makes. absurd (doing_unsure c e older good (stalled_along server false (steps older)) makes)),
    all_hide older (good_before segments when opening first numbers begin.times begin.stands c e older good) by.1 unmet.1 sure,
  )
  all_hide (Says e ∷ older) good by unmet sure = (
    shows_nothing (tree_after first older) (Stays e) (saying_hides (tree_after first older) e good.lines.0) older,
    saying_sure e older sure,
    all_hide older (record { legal = good.legal; distinct = good.distinct; lines = good.lines.1 }) by unmet sure.1,
  )
  all_hide (Doubts marked runs ∷ older) good by unmet sure = (
    shows_nothing (tree_after first older) (InDoubt runs) (λ t e. hidden_from_own server (tree_after first older) t (InDoubt runs) e refl) older,
    (λ makes. absurd (let z : false ≡ true = makes in cc)),
    all_hide older (record { legal = good.legal; distinct = good.distinct; lines = good.lines }) by unmet sure,
  )

pub unmet_hidden : UnmetDeedsAreHidden
unmet_hidden segments when opening first numbers home logged bytes begin server durable deeds legal distinct by lines unmet sure =
    all_hide segments when opening first numbers home logged bytes begin server durable deeds (record { legal = legal; distinct = distinct; lines = lines }) by unmet sure
