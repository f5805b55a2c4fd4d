-- The lines of the tree that are said are those of the tree for which the disk stands; and a transcript but for which lines of the tree it has is a whole one where they are.
use Rattle.std.proofs.Common.{◌≡◌, ◌⊎◌, inl, inr, ℕ, zero, suc, ◌≤◌, ◌<◌, Bool, true, false, not, ◌&&◌, ◌||◌, if◌then◌else◌, IsTrue, List, [], ◌∷◌, ◌++◌, Some, filter, length, take, refl, sym, ap, ◌∙◌, subst, append_assoc, arith}
use Rattle.std.proofs.lemmas.Bool.{and_parts, false≢true, or_left, or_right}
use Rattle.std.proofs.lemmas.List.{length-take-le}
use Rattle.std.proofs.lemmas.List.Elements.{filter-append}
use Rattle.std.proofs.lemmas.List.Folds.{list_any-append}
use Rattle.std.proofs.lemmas.Option.{none-some}
use Rattle.std.specs.List.{list_any, slice_get}
use Rattle.frang_base.specs.declared.said.Said.{Said}
use Rattle.frang_base.specs.declared.said.Said.TheVariants as said
use Rattle.frang_base.specs.declared.script.Line.{Line}
use Rattle.tree_definitions.specs.History.{Opening}
use Rattle.tree_definitions.specs.Live.{item_of, live_history}
use Rattle.tree_definitions.specs.Removal.{tree_of}
use Rattle.tree_definitions.specs.Transcript.{Faults, IsTranscript, MaySay, MaySayAll, all_settled, are_answered, goes_on, halts, is_end, is_node, is_over, live_tree, nodes_said}
use Rattle.tree_definitions.specs.Tree.{FileTree}
use Rattle.tree_definitions.specs.TreeLines as trees
use Rattle.sector_bytes.specs.Sectors.{Sectors}
use Rattle.core_definitions.specs.Logs.{is_none}
use Rattle.core_definitions.specs.Settings.{Setting}
use Rattle.core_definitions.specs.Trees.{needed_sectors, read_lines}
use Rattle.core_definitions.specs.Cores.{tree_lines, tree_needs}
use Rattle.core_definitions.specs.Runs.{State, Run, first_state, saids_of}
use Rattle.core_laws.proofs.Kept.{setting_of_run}
use Rattle.core_transcripts.specs.Answers.{HaveOwnNumbers}
use Rattle.core_transcripts.specs.Faults.{TellFaults}
use Rattle.core_transcripts.specs.Scripts.{ApartIsOwn, ReadScriptsAreNumbered}
use Rattle.core_transcripts.specs.Transcripts.{EachMay, IsNumbered, IsTranscriptButTree, MayEnd, MaySayButTree, RunsSayTranscripts}
use Rattle.tree_reading_laws.specs.Reading.{ReadLinesAreTheTrees}
use Rattle.core_tree_reads.specs.AtRest.{has_read}
use Rattle.core_tree_reads.specs.Lines.{AreLinesOfTree, LinesSaidAreTheTrees, RunsOfReadScriptsSayWholeTranscripts, RunsSayWholeTranscripts, StandsAsSet, StandsAsTold}
use Rattle.core_tree_reads.specs.Reads.{AreLinesRead, BlocksReadAreTheDisks, LinesSaidAreRead}
use Rattle.core_tree_reads.proofs.Reading.{none_read, root_needed}

-- ---- the tree's lines

take_all : {X : Type 0} (xs : List X) → take (length xs) xs ≡ xs
take_all [] = refl
take_all (x ∷ xs) = ap (λ l. x ∷ l) (take_all xs)

take_none : {X : Type 0} (xs : List X) → take 0 xs ≡ []
take_none [] = refl
take_none (x ∷ xs) = refl

zero_or_some : {P : Type 0} (n : ℕ) → (n ≡ 0 → P) → (0 < n → P) → P
zero_or_some zero none some = none refl
zero_or_some (suc n) none some = some (omega arith)

zero_within : (n : ℕ) → 0 ≤ n
zero_within n = omega arith

module _ (reads : ReadLinesAreTheTrees) (blocks : BlocksReadAreTheDisks) (lines : LinesSaidAreRead) where
  module _ (setting : Setting) (disk : Sectors) (s : State) (tree : FileTree) (own : HaveOwnNumbers setting.script) (run : Run (first_state setting disk) s) (stands : StandsAsSet setting s.disk tree) where
    read : AreLinesRead s
    read = lines setting disk s run

    same : s.core.setting.segments ≡ tree.segments
    same = ap (λ z. z.segments) (setting_of_run setting disk s run) ∙ sym stands.segments

    -- once no sector is needed
    are_trees : tree_needs s.core ≡ [] → tree_lines s.core ≡ trees.tree_lines tree
    are_trees none =
        ap (λ n. read_lines n s.core.read) same
        ∙ reads s.disk tree s.core.read stands.stands (blocks setting disk s own run) (ap (λ n. needed_sectors n s.core.read) (sym same) ∙ none)

    abbrev nodes : List Said
    nodes = filter is_node (saids_of s.record_)

    first_ones : nodes ≡ take s.core.shown (trees.tree_lines tree)
    first_ones =
        zero_or_some s.core.shown
        (λ none. read.lines ∙ ap (λ k. take k (tree_lines s.core)) none ∙ take_none (tree_lines s.core) ∙ sym (ap (λ k. take k (trees.tree_lines tree)) none ∙ take_none (trees.tree_lines tree)))
        (λ some. read.lines ∙ ap (take s.core.shown) (are_trees (read.whole some)))

    no_more : s.core.shown ≤ length (trees.tree_lines tree)
    no_more =
        zero_or_some s.core.shown (λ none. subst (λ k. k ≤ length (trees.tree_lines tree)) (sym none) (zero_within (length (trees.tree_lines tree))))
        (λ some. subst (λ l. s.core.shown ≤ length l) (are_trees (read.whole some)) read.within)

    pub of_tree : AreLinesOfTree tree s
    of_tree = record {
      lines = first_ones;
      within = no_more;
      all = λ ended. let end : (tree_needs s.core ≡ []) × (s.core.shown ≡ length (tree_lines s.core)) = read.ended ended in
          read.lines ∙ ap (λ k. take k (tree_lines s.core)) end.1 ∙ take_all (tree_lines s.core) ∙ are_trees end.0;
    }

pub lines_are_trees : ReadLinesAreTheTrees → BlocksReadAreTheDisks → LinesSaidAreRead → LinesSaidAreTheTrees
lines_are_trees reads blocks lines setting disk s tree own run stands = of_tree reads blocks lines setting disk s tree own run stands

-- ---- lists

take_gets : {X : Type 0} (n : ℕ) (xs : List X) (k : ℕ) (x : X) → slice_get (take n xs) k ≡ Some x → slice_get xs k ≡ Some x
take_gets zero xs k x e = absurd (none-some x (sym (ap (λ l. slice_get l k) (take_none xs)) ∙ e))
take_gets (suc n) [] k x e = e
take_gets (suc n) (y ∷ ys) zero x e = e
take_gets (suc n) (y ∷ ys) (suc k) x e = take_gets n ys k x e

got_behind : {X : Type 0} (xs ys : List X) (x : X) → slice_get (xs ++ x ∷ ys) (length xs) ≡ Some x
got_behind [] ys x = refl
got_behind (z ∷ zs) ys x = got_behind zs ys x

-- ---- transcripts

module _ (script : List Line) (opening : Opening) (faults : Faults) where
  abbrev Rule : List Said → Said → Type 0
  Rule = MaySayButTree script opening faults

  -- a line of the tree is said, or the end
  abbrev is_closed : List Said → Bool
  is_closed saids = list_any is_node saids || list_any is_end saids

  closed_stops : (over node : Bool) → IsTrue (not over && not node) → IsTrue over ⊎ IsTrue node → ⊥
  closed_stops over node on (inl o) = false≢true (sym (ap not o) ∙ (and_parts (not over) (not node) on).0)
  closed_stops over node on (inr n) = false≢true (sym (ap not n) ∙ (and_parts (not over) (not node) on).1)

  -- then nothing goes on but lines of the tree and the end
  stops : (before : List Said) → IsTrue (is_closed before) → IsTrue (goes_on script before) → ⊥
  stops before closed on = go (list_any is_node before) (list_any is_end before) refl refl closed
    where
      go : (n e : Bool) → list_any is_node before ≡ n → list_any is_end before ≡ e → IsTrue (n || e) → ⊥
      go true e f g h = closed_stops (is_over script before) (list_any is_node before) on (inr f)
      go false true f g h = closed_stops (is_over script before) (list_any is_node before) on (inl (or_right (list_any (halts script) before) (list_any is_end before) g))
      go false false f g h = false≢true h

  abbrev closing : Said → Bool
  closing x = is_node x || is_end x

  still_closed : (before : List Said) (x : Said) → IsTrue (is_closed before) → IsTrue (is_closed (before ++ x ∷ []))
  still_closed before x h = go (list_any is_node before) (list_any is_end before) (list_any-append is_node before (x ∷ [])) (list_any-append is_end before (x ∷ [])) h
    where
      go : (n e : Bool) → list_any is_node (before ++ x ∷ []) ≡ (n || list_any is_node (x ∷ [])) → list_any is_end (before ++ x ∷ []) ≡ (e || list_any is_end (x ∷ [])) → IsTrue (n || e) →
          IsTrue (is_closed (before ++ x ∷ []))
      go true e f g h = or_left (list_any is_node (before ++ x ∷ [])) (list_any is_end (before ++ x ∷ [])) f
      go false true f g h = or_right (list_any is_node (before ++ x ∷ [])) (list_any is_end (before ++ x ∷ [])) g
      go false false f g h = absurd (false≢true h)

  -- of the lines behind none is an entry
  none_later : (before xs : List Said) → IsTrue (is_closed before) → EachMay Rule before xs → live_history script opening.run xs ≡ []
  none_later before [] closed each = refl
  none_later before (said.Node path kind size links ∷ xs) closed each =
      none_later (before ++ said.Node path kind size links ∷ []) xs (still_closed before (said.Node path kind size links) closed) each.1
  none_later before (said.End ∷ xs) closed each = none_later (before ++ said.End ∷ []) xs (still_closed before said.End closed) each.1
  none_later before (said.Answer s number r ∷ xs) closed each = absurd (stops before closed (and_parts (goes_on script before) _ each.0).0)
  none_later before (said.Dead s ∷ xs) closed each = absurd (stops before closed (and_parts (goes_on script before) _ each.0).0)
  none_later before (said.Recovering s by ∷ xs) closed each = absurd (stops before closed (and_parts (goes_on script before) _ each.0).0)
  none_later before (said.Recovered s kept ∷ xs) closed each = absurd (stops before closed (and_parts (goes_on script before) _ each.0).0)
  none_later before (said.Renewed s ∷ xs) closed each = absurd (stops before closed (and_parts (goes_on script before) _ each.0).0)
  none_later before (said.Redo number ∷ xs) closed each = absurd each.0
  none_later before (said.Backup line ∷ xs) closed each = absurd (stops before closed each.0)
  none_later before (said.Locks line ∷ xs) closed each = absurd (stops before closed each.0)
  none_later before (said.Shown text ∷ xs) closed each = absurd each.0

  flat_more : (xs ys : List Said) → live_history script opening.run (xs ++ ys) ≡ live_history script opening.run xs ++ live_history script opening.run ys
  flat_more [] ys = refl
  flat_more (x ∷ xs) ys =
      ap (λ l. item_of script opening.run x ++ l) (flat_more xs ys) ∙ sym (append_assoc (item_of script opening.run x) (live_history script opening.run xs) (live_history script opening.run ys))

  nil_right : {X : Type 0} (xs : List X) → xs ++ [] ≡ xs
  nil_right [] = refl
  nil_right (x ∷ xs) = ap (λ l. x ∷ l) (nil_right xs)

  closed_by : (before : List Said) (x : Said) → IsTrue (closing x) → IsTrue (is_closed (before ++ x ∷ []))
  closed_by before x h = go (is_node x) (is_end x) refl refl h
    where
      any_one : (test : Said → Bool) → test x ≡ true → list_any test (before ++ x ∷ []) ≡ true
      any_one test e = list_any-append test before (x ∷ []) ∙ or_right (list_any test before) (test x || false) (or_left (test x) false e)

      go : (n e : Bool) → is_node x ≡ n → is_end x ≡ e → IsTrue (n || e) → IsTrue (is_closed (before ++ x ∷ []))
      go true e f g h = or_left (list_any is_node (before ++ x ∷ [])) (list_any is_end (before ++ x ∷ [])) (any_one is_node f)
      go false true f g h = or_right (list_any is_node (before ++ x ∷ [])) (list_any is_end (before ++ x ∷ [])) (any_one is_end g)
      go false false f g h = absurd (false≢true h)

  -- so the history behind a line of the tree, or the end, is that before it
  same_tree : (before xs : List Said) (x : Said) → IsTrue (closing x) → item_of script opening.run x ≡ [] → EachMay Rule (before ++ x ∷ []) xs →
      live_tree script opening (before ++ x ∷ xs) ≡ live_tree script opening before
  same_tree before xs x closes none each =
      ap (λ h. trees.tree_lines (tree_of opening h))
      (flat_more before (x ∷ xs)
      ∙ ap (λ l. live_history script opening.run before ++ l) (ap (λ l. l ++ live_history script opening.run xs) none ∙ none_later (before ++ x ∷ []) xs (closed_by before x closes) each)
      ∙ nil_right (live_history script opening.run before))

  -- behind the end nothing is said
  ended_stops : (before : List Said) → list_any is_end before ≡ true → IsTrue (not (is_over script before)) → ⊥
  ended_stops before e h = false≢true (sym (ap not (or_right (list_any (halts script) before) (list_any is_end before) e)) ∙ h)

  going_not_over : (before : List Said) → IsTrue (goes_on script before) → IsTrue (not (is_over script before))
  going_not_over before on = (and_parts (not (is_over script before)) (not (list_any is_node before)) on).0

  end_not_over : (before : List Said) → MayEnd script faults before → IsTrue (not (is_over script before))
  end_not_over before may =
      (and_parts (not (is_over script before)) (are_answered script before)
      (and_parts (not (is_over script before) && are_answered script before) (all_settled script faults before) may).0).0

  may_not_over : (before : List Said) (x : Said) → Rule before x → IsTrue (not (is_over script before))
  may_not_over before (said.Node path kind size links) may = end_not_over before may
  may_not_over before said.End may = end_not_over before may
  may_not_over before (said.Answer s number r) may = going_not_over before (and_parts (goes_on script before) _ may).0
  may_not_over before (said.Dead s) may = going_not_over before (and_parts (goes_on script before) _ may).0
  may_not_over before (said.Recovering s by) may = going_not_over before (and_parts (goes_on script before) _ may).0
  may_not_over before (said.Recovered s kept) may = going_not_over before (and_parts (goes_on script before) _ may).0
  may_not_over before (said.Renewed s) may = going_not_over before (and_parts (goes_on script before) _ may).0
  may_not_over before (said.Redo number) may = absurd may
  may_not_over before (said.Backup line) may = going_not_over before may
  may_not_over before (said.Locks line) may = going_not_over before may
  may_not_over before (said.Shown text) may = absurd may

  nothing_behind : (before xs : List Said) → list_any is_end before ≡ true → EachMay Rule before xs → xs ≡ []
  nothing_behind before [] e each = refl
  nothing_behind before (x ∷ xs) e each = absurd (ended_stops before e (may_not_over before x each.0))

  -- ---- line by line, where all lines of the tree that are said are the first of these

  module _ (lines : List Said) (n : ℕ) (within : n ≤ length lines) where
    record AreFirst (saids : List Said) : Type 0 where
      tree : live_tree script opening saids ≡ lines
      nodes : filter is_node saids ≡ take n lines
      ended : list_any is_end saids ≡ true → n ≡ length lines

    node_may : (before xs : List Said) (x : Said) → is_node x ≡ true → item_of script opening.run x ≡ [] → AreFirst (before ++ x ∷ xs) → EachMay Rule (before ++ x ∷ []) xs →
        slice_get (live_tree script opening before) (nodes_said before) ≡ Some x
    node_may before xs x is none first each =
        ap (λ l. slice_get l (nodes_said before)) (sym (same_tree before xs x (or_left (is_node x) (is_end x) is) none each) ∙ first.tree)
        ∙ take_gets n lines (nodes_said before) x
        (ap (λ l. slice_get l (nodes_said before)) (sym first.nodes ∙ filter-append is_node before (x ∷ xs) ∙ ap (λ b. filter is_node before ++ (if b then x ∷ filter is_node xs else filter is_node xs)) is)
        ∙ got_behind (filter is_node before) (filter is_node xs) x)

    end_may : (before xs : List Said) → AreFirst (before ++ said.End ∷ xs) → EachMay Rule (before ++ said.End ∷ []) xs → nodes_said before ≡ length (live_tree script opening before)
    end_may before xs first each =
        ap (λ l. length l) (sym (filter-append is_node before (said.End ∷ xs) ∙ ap (λ l. filter is_node before ++ filter is_node l) nothing ∙ nil_right (filter is_node before)) ∙ first.nodes)
        ∙ length-take-le n lines within ∙ first.ended told ∙ ap (λ l. length l) (sym first.tree ∙ same_tree before xs said.End refl refl each)
      where
        any_one : list_any is_end (before ++ said.End ∷ []) ≡ true
        any_one = list_any-append is_end before (said.End ∷ []) ∙ or_right (list_any is_end before) true refl

        nothing : xs ≡ []
        nothing = nothing_behind (before ++ said.End ∷ []) xs any_one each

        told : list_any is_end (before ++ said.End ∷ xs) ≡ true
        told = list_any-append is_end before (said.End ∷ xs) ∙ or_right (list_any is_end before) true refl

    one_may : (before xs : List Said) (x : Said) → AreFirst (before ++ x ∷ xs) → Rule before x → EachMay Rule (before ++ x ∷ []) xs → MaySay script opening faults before x
    one_may before xs (said.Node path kind size links) first may each = (may, node_may before xs (said.Node path kind size links) refl refl first each)
    one_may before xs said.End first may each = (may, end_may before xs first each)
    one_may before xs (said.Answer s number r) first may each = may
    one_may before xs (said.Dead s) first may each = may
    one_may before xs (said.Recovering s by) first may each = may
    one_may before xs (said.Recovered s kept) first may each = may
    one_may before xs (said.Renewed s) first may each = may
    one_may before xs (said.Redo number) first may each = may
    one_may before xs (said.Backup line) first may each = may
    one_may before xs (said.Locks line) first may each = may
    one_may before xs (said.Shown text) first may each = may

    all_may : (before saids : List Said) → AreFirst (before ++ saids) → EachMay Rule before saids → MaySayAll script opening faults before saids
    all_may before [] first each = tt
    all_may before (x ∷ xs) first each =
        (one_may before xs x first each.0 each.1, all_may (before ++ x ∷ []) xs (subst AreFirst (sym (append_assoc before (x ∷ []) xs)) first) each.1)

-- ---- of a run

take_whole : {X : Type 0} (n : ℕ) (xs : List X) → n ≤ length xs → take n xs ≡ xs → n ≡ length xs
take_whole n xs within e = sym (length-take-le n xs within) ∙ ap (λ l. length l) e

module _ (transcripts : RunsSayTranscripts) (trees_lines : LinesSaidAreTheTrees) (read : LinesSaidAreRead) (apart : ApartIsOwn) (setting : Setting) (disk : Sectors) (s : State)
    (run : Run (first_state setting disk) s) (faults : Faults) (opening : Opening) (numbered : IsNumbered setting.script) (tells : TellFaults faults (first_state setting disk) s run)
    (told : StandsAsTold setting opening s) where
  abbrev saids : List Said
  saids = saids_of s.record_

  abbrev tree : FileTree
  tree = tree_of opening (live_history setting.script opening.run saids)

  lines_read : AreLinesRead s
  lines_read = read setting disk s run

  -- as long as nothing is read no line of the tree is said
  module _ (unread : s.core.read ≡ []) where
    needs_some : tree_needs s.core ≡ [] → ⊥
    needs_some none = root_needed s.core.setting.segments s.core.read unread (ap (λ l. is_none l) none)

    none_shown : s.core.shown ≡ 0
    none_shown = zero_or_some s.core.shown (λ none. none) (λ some. absurd (needs_some (lines_read.whole some)))

    early : AreFirst setting.script opening faults (trees.tree_lines tree) 0 (zero_within (length (trees.tree_lines tree))) saids
    early = record {
      tree = refl;
      nodes = lines_read.lines ∙ ap (λ k. take k (tree_lines s.core)) none_shown ∙ take_none (tree_lines s.core) ∙ sym (take_none (trees.tree_lines tree));
      ended = λ e. absurd (needs_some (lines_read.ended e).0);
    }

  pub whole : IsTranscript setting.script opening faults saids
  whole = go (has_read s.core) refl
    where
      each : IsTranscriptButTree setting.script opening faults saids
      each = transcripts setting disk s run faults opening numbered tells

      go : (b : Bool) → has_read s.core ≡ b → IsTranscript setting.script opening faults saids
      go true has =
          let of : AreLinesOfTree tree s = trees_lines setting disk s tree ((apart setting.script).0 numbered.apart) run (told has) in
          all_may setting.script opening faults (trees.tree_lines tree) s.core.shown of.within [] saids
          (record { tree = refl; nodes = of.lines; ended = λ e. take_whole s.core.shown (trees.tree_lines tree) of.within (sym of.lines ∙ of.all e) }) each
      go false has =
          all_may setting.script opening faults (trees.tree_lines tree) 0 (zero_within (length (trees.tree_lines tree))) [] saids (early (none_read s.core.read has)) each

pub runs_say_whole : RunsSayTranscripts → LinesSaidAreTheTrees → LinesSaidAreRead → ApartIsOwn → RunsSayWholeTranscripts
runs_say_whole transcripts lines read apart setting disk s run faults opening numbered tells told =
    whole transcripts lines read apart setting disk s run faults opening numbered tells told

pub read_scripts_say_whole : ReadScriptsAreNumbered → RunsSayWholeTranscripts → RunsOfReadScriptsSayWholeTranscripts
read_scripts_say_whole numbers runs bytes setting disk s run faults opening read tells told = runs setting disk s run faults opening (numbers bytes setting.script read) tells told
