-- Each operation of what happened has an entry in the history that the lines said tell, and each entry there is of a line that is answered.
use Rattle.std.proofs.Common.{ℕ, ◌≡◌, ◌≢◌, inl, inr, ⊎_elim, ◌==◌, Bool, true, false, Option, Some, None, List, [], ◌∷◌, refl, sym, ap, ◌∙◌, subst, arith}
use Rattle.std.proofs.lemmas.Bool.{eq-eqb, false≢true, or_left, or_right}
use Rattle.std.specs.List.{list_any}
use Rattle.disk_definitions.proofs.Listed.{Among, among_either, among_left, among_right}
use Rattle.frang_base.specs.declared.op.What.{What}
use Rattle.frang_base.specs.declared.op.What.TheVariants.{Server, Host}
use Rattle.frang_base.specs.declared.reply.Reply.{Reply}
use Rattle.frang_base.specs.declared.said.Said.{Said}
use Rattle.frang_base.specs.declared.said.Said.TheVariants as said
use Rattle.frang_base.specs.declared.script.Line.{Line}
use Rattle.frang_base.specs.declared.sector.ServerId.{ServerId}
use Rattle.tree_definitions.specs.declared.history.Entry.{Entry}
use Rattle.tree_definitions.specs.declared.history.Item.{Item}
use Rattle.tree_definitions.specs.declared.history.Item.TheVariants.{Did, Recovered}
use Rattle.tree_definitions.specs.Live.{item_of, item_of_line, item_of_what, line_of, live_history, number_of, script_time}
use Rattle.tree_definitions.specs.Transcript.{answers}
use Rattle.tree_definitions.specs.Tree.{FileTree}
use Rattle.sector_bytes.specs.Blocks.{Block}
use Rattle.sector_world.specs.Histories.{Commit, Each, settled, survives}
use Rattle.sector_world.specs.World.{World}
use Rattle.sector_world.proofs.HistoryLaws.{each_kept, each_map}
use Rattle.core_definitions.specs.Lines.{Under}
use Rattle.core_definitions.specs.Runs.{State, saids_of}
use Rattle.core_laws.specs.Facts.{OffHasNoFlights}
use Rattle.core_transcripts.specs.Scripts.{ReadScriptsAreNumbered}
use Rattle.core_commits.specs.Finished.{number_in}
use Rattle.core_world.specs.Steps.{IsReached}
use Rattle.stop_laws.specs.Happened.{Happening, Acts, Speaks, Mounts, Covers, Recovers, on_sectors, on_tree}
use Rattle.stop_laws.specs.Paired.{ArePaired}
use Rattle.core_histories.specs.Numbers.{IsOfAnAnswer, LinesUnderWayAreNew, OperationsAreOfAnswers}
use Rattle.core_histories.specs.Tellings.{IsTold}
use Rattle.core_histories.proofs.Due.{holds, unanswered}

-- ---- entries of lines that are answered

item_number : Item → ℕ
item_number (Did e) = e.number.0
item_number (Recovered server greatest) = 0

is_did : Item → Bool
is_did (Did e) = true
is_did (Recovered server greatest) = false

module _ (script : List Line) (run : ℕ) where
  record IsSaid (saids : List Said) (e : Entry) : Type 0 where
    line : ℕ
    number : e.number.0 ≡ number_of run line
    said_so : list_any (answers line) saids ≡ true

  module _ (e : Entry) where
    of_what : (server : ServerId) (line ticks : ℕ) (r : Reply) (w : What) → Among (Did e) (item_of_what run server r line ticks w) → e.number.0 ≡ number_of run line
    unfolding item_number
    of_what server line ticks r (Server o) (inl same) = ap item_number same
    of_what server line ticks r (Server o) (inr i) = absurd i
    of_what server line ticks r (Host asked) i = absurd i

    of_line : (server : ServerId) (line ticks : ℕ) (r : Reply) (l : Option Line) → Among (Did e) (item_of_line run server r line ticks l) → e.number.0 ≡ number_of run line
    of_line server line ticks r None i = absurd i
    of_line server line ticks r (Some l) i = of_what server line ticks r l.what i

    of_said : (x : Said) (xs : List Said) → Among (Did e) (item_of script run x) → IsSaid (x ∷ xs) e
    unfolding is_did
    of_said (said.Answer server line r) xs i = record {
      line = line;
      number = of_line server line (script_time script line) r (line_of script line) i;
      said_so = or_left (line == line) (list_any (answers line) xs) (eq-eqb line line refl);
    }
    of_said (said.Recovered server kept) xs (inl same) = absurd (false≢true (sym (ap is_did same)))
    of_said (said.Recovered server kept) xs (inr i) = absurd i
    of_said x xs i = absurd i

    later : (x : Said) (xs : List Said) → IsSaid xs e → IsSaid (x ∷ xs) e
    later x xs h = record { line = h.line; number = h.number; said_so = or_right (answers h.line x) (list_any (answers h.line) xs) h.said_so }

    live_is_said : (saids : List Said) → Among (Did e) (live_history script run saids) → IsSaid saids e
    live_is_said [] i = absurd i
    live_is_said (x ∷ xs) i = ⊎_elim (of_said x xs) (λ k. later x xs (live_is_said xs k)) (among_either (Did e) (item_of script run x) (live_history script run xs) i)

-- ---- operations of what happened

AllActs : (Commit → Type 0) → List Happening → Type 0
AllActs P [] = Unit {0}
AllActs P (Acts c e ∷ older) = P c × AllActs P older
AllActs P (Speaks e ∷ older) = AllActs P older
AllActs P (Mounts number e ∷ older) = AllActs P older
AllActs P (Covers server number ∷ older) = AllActs P older
AllActs P (Recovers server greatest durable ∷ older) = AllActs P older

-- what has settled is among them
each_settled : (P : Commit → Type 0) (h : List Happening) → AllActs P h → Each P (settled (on_sectors h))
unfolding AllActs
each_settled P [] all = tt
each_settled P (Acts c e ∷ older) all = (all.0, each_settled P older all.1)
each_settled P (Speaks e ∷ older) all = each_settled P older all
each_settled P (Mounts number e ∷ older) all = each_settled P older all
each_settled P (Covers server number ∷ older) all = each_settled P older all
each_settled P (Recovers server greatest durable ∷ older) all = each_kept P (survives server durable) (settled (on_sectors older)) (each_settled P older all)

-- an operation with its entry among these
abbrev HasEntryIn : List Item → Commit → Type 0
HasEntryIn items c = (e : Entry) × (e.number.0 ≡ c.op) × Among (Did e) items

module _ (segments : ℕ) (when : ℕ → ℕ) (opening : ℕ → Block) (first_tree : FileTree) (numbers : List ℕ) (items : List Item) where
  all_acts : (h : List Happening) → ((x : Item) → Among x (on_tree h) → Among x items) → ArePaired segments when opening first_tree numbers h → AllActs (HasEntryIn items) h
  unfolding AllActs
  all_acts [] within paired = tt
  all_acts (Acts c e ∷ older) within paired = (
    (e, paired.0.number, within (Did e) (among_right (Did e) (on_tree older) (Did e ∷ []) (inl refl))),
    all_acts older (λ x i. within x (among_left x (on_tree older) (Did e ∷ []) i)) paired.1,
  )
  all_acts (Speaks e ∷ older) within paired = all_acts older (λ x i. within x (among_left x (on_tree older) (Did e ∷ []) i)) paired.2
  all_acts (Mounts number e ∷ older) within paired = all_acts older (λ x i. within x (among_left x (on_tree older) (Did e ∷ []) i)) paired.2
  all_acts (Covers server number ∷ older) within paired = all_acts older within paired
  all_acts (Recovers server greatest durable ∷ older) within paired =
      all_acts older (λ x i. within x (among_left x (on_tree older) (Recovered (record { 0 = server }) (record { 0 = greatest }) ∷ []) i)) paired.1

-- ---- at a moment

module _ (scripts : ReadScriptsAreNumbered) (ashore : OffHasNoFlights) (s : State) (w : World) (when : ℕ → ℕ) (first_tree : FileTree) (numbers : List ℕ) (r : IsReached s) (told : IsTold when first_tree numbers s w) where
  abbrev live : List Item
  live = live_history s.core.setting.script s.core.setting.run (saids_of s.record_)

  entries : Each (HasEntryIn live) (settled w.history)
  entries = subst (λ l. Each (HasEntryIn live) (settled l)) told.sectors
      (each_settled (HasEntryIn live) told.happened
      (all_acts s.core.setting.segments when w.opening first_tree numbers live told.happened (λ x i. subst (Among x) told.lines i) told.paired))

  of_answers : Each (IsOfAnAnswer s) (settled w.history)
  of_answers = each_map (HasEntryIn live) (IsOfAnAnswer s) (λ c h.
      let x = live_is_said s.core.setting.script s.core.setting.run h.0 (saids_of s.record_) h.2 in
      record { line = x.line; number = sym h.1 ∙ x.number; answered = sym ((holds scripts ashore s r).fits.marks x.line) ∙ x.said_so }) (settled w.history) entries

  other_number : (n m : ℕ) → number_in s.core.setting n ≡ number_in s.core.setting m → n ≡ m
  other_number n m e = omega (arith, e)

  is_new : (a : ℕ) (u : Under) → (s.core.servers a).under ≡ Some u → Each (λ c. c.op ≢ number_in s.core.setting u.line.number) (settled w.history)
  is_new a u under = each_map (IsOfAnAnswer s) (λ c. c.op ≢ number_in s.core.setting u.line.number) (λ c h e.
      false≢true (sym (unanswered scripts ashore s r a u under) ∙ subst (λ n. s.core.answered n ≡ true) (other_number h.line u.line.number (sym h.number ∙ e)) h.answered)) (settled w.history) of_answers

pub operations_are_of_answers : ReadScriptsAreNumbered → OffHasNoFlights → OperationsAreOfAnswers
operations_are_of_answers scripts ashore s w when first_tree numbers r told = of_answers scripts ashore s w when first_tree numbers r told

pub lines_under_way_are_new : ReadScriptsAreNumbered → OffHasNoFlights → LinesUnderWayAreNew
lines_under_way_are_new scripts ashore s w when first_tree numbers a u r told under = is_new scripts ashore s w when first_tree numbers r told a u under
