-- Deeds of lines that the core keeps are told twice, and shown: replies are the tree's answers, deed by deed.
use Rattle.std.proofs.Common.{ℕ, ◌≡◌, ◌≤◌, ◌&&◌, ◌||◌, not, Bool, true, false, Option, List, [], ◌∷◌, refl, ◌∙◌, ap, subst}
use Rattle.std.proofs.lemmas.Bool.{eqb-true}
use Rattle.frang_base.specs.declared.lock.LockId.{LockId}
use Rattle.tree_definitions.specs.declared.history.Entry.{Entry}
use Rattle.tree_definitions.specs.History.{CellRun}
use Rattle.tree_definitions.specs.Touched.{is_mounted, is_ok, is_sync, is_unmount}
use Rattle.tree_definitions.specs.Tree.{FileTree}
use Rattle.sector_bytes.specs.Blocks.{Block}
use Rattle.sector_world.specs.HistoryBytes.{Agree}
use Rattle.sector_world.specs.Histories.{Commit, Each, logical}
use Rattle.sector_world.specs.Histories.Item.{Done}
use Rattle.sector_world.specs.Plans.{IsByPlan, Legal, outcome_of}
use Rattle.sector_world.specs.Trees.{Distinct}
use Rattle.disk_definitions.specs.Ask.{run}
use Rattle.disk_definitions.specs.Plans.{Plan, Finish}
use Rattle.disk_definitions.specs.Plans.Plan.{Lacks, Clears, Finishes}
use Rattle.disk_definitions.specs.Lines.{plan_of_line}
use Rattle.line_histories.specs.LinePlans.{hand_on, sector_plan}
use Rattle.line_histories.specs.Planners.{plan_shape}
use Rattle.line_histories.proofs.AllBlind.{bytes_dont_decide}
use Rattle.line_histories.proofs.Outcomes.{outcomes_of_plans}
use Rattle.line_histories.specs.Following.{Follows, store_after}
use Rattle.line_histories.specs.Standing.{StandsNumbered}
use Rattle.line_histories.specs.Trees.{AreTimes, MayNumber}
use Rattle.line_histories.proofs.Runs.{numbered}
use Rattle.byte_trees.specs.Deeds.{Deed, Does, Says, Doubts, items, tree_after}
use Rattle.stop_laws.specs.Along.{AllTold, HasShape, IsSaid, IsTold}
use Rattle.stop_laws.specs.Known.{IsToldTwice, KnowsCells}
use Rattle.stop_laws.specs.Synced.{AllSaid}
use Rattle.stop_laws.specs.Paired.{AreLines, AreOfOneLine}
use Rattle.stop_laws.proofs.Lines.{shapes_follow}
use Rattle.stop_laws.specs.Cells.{AllShown, IsShown, having}
use Rattle.stop_laws.proofs.Deeds.{replies_are}
use Rattle.stop_laws.proofs.Keeping.{AreKept, SaysWhatItShowed}
use Rattle.stop_laws.proofs.Alone.{leaving_stays, leaving_touches_none, leaving_writes_none, path_no_sync}

-- the entry of a sync or of a mount says that operations are synced
ends_say : (m s u : Bool) → m || s ≡ true → m || s || u ≡ true
ends_say true s u ends = refl
ends_say false true u ends = refl
ends_say false false u ends = absurd (cc)

-- a plan that comes to the same as a finished one, but for bytes, is finished
is_finished : (p : Plan) (f : Finish) → plan_shape p ≡ plan_shape (Finishes f) → (g : Finish) × (p ≡ Finishes g)
is_finished Lacks f e = absurd (cc)
is_finished (Clears block locks) f e = absurd (cc)
is_finished (Finishes g) f e = (g, refl)

module _ (segments : ℕ) (when : ℕ → ℕ) (times : AreTimes when) (opening : ℕ → Block) (first_tree : FileTree) (numbers : List ℕ)
    (begins : StandsNumbered segments opening (numbered first_tree numbers)) (home : ℕ → LockId) (logged : ℕ → Bool) (first : ℕ → Option Block)
    (follows : Follows segments opening home logged first []) (knows : KnowsCells segments opening logged first first_tree []) (server number : ℕ) where
  abbrev Told : List Deed → Type 0
  Told deeds = AllTold segments when opening home first_tree server number deeds

  -- a history of lines, with new numbers, by plan, whose reads agree with what was known
  pub record IsRun (deeds : List Deed) : Type 0 where
    pub legal : Legal (sector_plan segments when) opening (items deeds)
    pub distinct : Distinct (MayNumber numbers) first_tree (items deeds)
    pub by_plan : Each IsByPlan (items deeds)
    pub agrees : Agree first (items deeds)
    pub lines : AreLines when deeds

  -- ---- each deed is shown

  shown_here : (c : Commit) (e : Entry) (older : List Deed) → Legal (sector_plan segments when) opening (Done c ∷ items older) → AreOfOneLine when c e →
      SaysWhatItShowed segments when opening c e older → IsShown segments when opening c e older
  shown_here c e older legal one says =
      let fin = outcomes_of_plans plan_of_line segments when c.hint c.op c.asked (logical opening (items older)) (outcome_of c) legal.0 in
      let base = store_after segments opening (items older) in
      let blind = bytes_dont_decide c.asked (hand_on segments (logical opening (items older)) c.hint) base c.op (when c.op) (having c.shown base).byte (having c.shown base).large_byte in
      let comes = is_finished (run (plan_of_line (hand_on segments (logical opening (items older)) c.hint) c.op (when c.op) c.asked) (having c.shown base)) fin.comes.finish (blind.1 ∙ ap plan_shape fin.comes.is) in
      record { number = one.number; time = one.time; finish = comes.0; comes = comes.1; said = says comes.0 comes.1 }

  -- and each mark covered, and an entry alone leaves the tree
  pub all_shown : (deeds : List Deed) → Legal (sector_plan segments when) opening (items deeds) → AreLines when deeds → AreKept segments when opening home first_tree deeds →
      AllShown segments when opening first_tree deeds
  all_shown [] legal lines kept = tt
  all_shown (Does c e ∷ older) legal lines kept = (shown_here c e older legal lines.0 kept.1, all_shown older legal.1 lines.1 kept.2)
  all_shown (Says e ∷ older) legal lines kept = (leaving_stays first_tree e older lines.0, all_shown older legal lines.1 kept)
  all_shown (Doubts marked runs ∷ older) legal lines kept = (kept.0, all_shown older legal lines kept.1)

  pub twice : (deeds : List Deed) → IsRun deeds → Told deeds → IsToldTwice segments when opening first_tree numbers home logged first server number deeds
  twice deeds runs told = record {
    times = times;
    begins = begins;
    legal = runs.legal;
    distinct = runs.distinct;
    by_plan = runs.by_plan;
    follows = follows;
    told = told;
  }

  shape : (deeds : List Deed) → IsRun deeds → HasShape when first_tree deeds
  shape deeds runs = shapes_follow segments when opening first_tree numbers deeds times begins runs.legal runs.distinct runs.lines

  no_sync : (c : Commit) (e : Entry) (older : List Deed) → Legal (sector_plan segments when) opening (Done c ∷ items older) → e.op ≡ c.asked → is_sync e.op && is_ok e.reply ≡ false
  no_sync c e older legal asked =
      ap (λ b. b && is_ok e.reply)
      (ap is_sync asked ∙ path_no_sync c.asked (outcomes_of_plans plan_of_line segments when c.hint c.op c.asked (logical opening (items older)) (outcome_of c) legal.0).path)

  -- ---- the older deeds are such

  runs_before_it : (c : Commit) (e : Entry) (older : List Deed) → IsRun (Does c e ∷ older) → IsRun older
  runs_before_it c e older runs = record { legal = runs.legal.1; distinct = runs.distinct.2; by_plan = runs.by_plan.1; agrees = runs.agrees.1; lines = runs.lines.1 }

  runs_before_saying : (e : Entry) (older : List Deed) → IsRun (Says e ∷ older) → IsRun older
  runs_before_saying e older runs = record { legal = runs.legal; distinct = runs.distinct; by_plan = runs.by_plan; agrees = runs.agrees; lines = runs.lines.1 }

  runs_before_marks : (marked : ℕ → Bool) (cells : List CellRun) (older : List Deed) → IsRun (Doubts marked cells ∷ older) → IsRun older
  runs_before_marks marked cells older runs = record { legal = runs.legal; distinct = runs.distinct; by_plan = runs.by_plan; agrees = runs.agrees; lines = runs.lines }

  -- ---- each deed is told

  told_here : (c : Commit) (e : Entry) (older : List Deed) → IsRun (Does c e ∷ older) → AreKept segments when opening home first_tree (Does c e ∷ older) → Told older →
      IsTold segments opening home first_tree c e older
  told_here c e older runs kept before = record {
    by = runs.lines.0.by;
    asked = runs.lines.0.asked;
    reply = runs.lines.0.reply;
    answers = replies_are segments when opening first_tree numbers home logged first server number older c e (twice older (runs_before_it c e older runs) before)
        (all_shown older runs.legal.1 runs.lines.1 kept.2) knows runs.legal runs.distinct runs.by_plan.0 runs.agrees runs.lines.0.asked
        (shown_here c e older runs.legal runs.lines.0 kept.1);
    no_mount = runs.lines.0.no_mount;
    no_sync = no_sync c e older runs.legal runs.lines.0.asked;
    uses = kept.0.uses;
    sees = kept.0.sees;
  }

  said_here : (synced : ℕ → ℕ) → synced server ≡ number → (e : Entry) (older : List Deed) → AllSaid synced (Says e ∷ older) → IsRun (Says e ∷ older) →
      IsSaid first_tree server number e older
  said_here synced is e older said runs = record {
    meets_none = leaving_writes_none (tree_after first_tree older) e runs.lines.0;
    touches_none = leaving_touches_none (tree_after first_tree older) e runs.lines.0;
    covers = λ own ends. subst (λ n. Each (λ c. c.by ≡ server → c.op ≤ n) (items older)) is
        (subst (λ s. Each (λ c. c.by ≡ s → c.op ≤ synced s) (items older)) (eqb-true e.server.0 server own) (said.0 (ends_say (is_mounted e.reply) (is_sync e.op && is_ok e.reply) (is_unmount e.op && is_ok e.reply && not true) ends)));
  }

  pub all_told : (synced : ℕ → ℕ) → synced server ≡ number → (deeds : List Deed) → AllSaid synced deeds → IsRun deeds → AreKept segments when opening home first_tree deeds → Told deeds
  all_told synced is [] said runs kept = tt
  all_told synced is (Does c e ∷ older) said runs kept =
      let before = all_told synced is older said (runs_before_it c e older runs) kept.2 in (told_here c e older runs kept before, shape (Does c e ∷ older) runs, before)
  all_told synced is (Says e ∷ older) said runs kept =
      (said_here synced is e older said runs, shape (Says e ∷ older) runs, all_told synced is older said.1 (runs_before_saying e older runs) kept)
  all_told synced is (Doubts marked cells ∷ older) said runs kept =
      (shape (Doubts marked cells ∷ older) runs, all_told synced is older said (runs_before_marks marked cells older runs) kept.1)
