-- Marks of doubt at the end of a history change nothing of what is known, of what a recovery removes, or of what is legal; and one that removes nothing removes nothing known.
use Rattle.std.proofs.Common.{ℕ, suc, ◌+◌, ◌≡◌, ◌≤◌, ◌==◌, ◌&&◌, ◌||◌, not, Bool, true, false, if◌then◌else◌, List, [], ◌∷◌, ◌++◌, filter, length, refl, sym, ◌∙◌, ap, ap₂, subst, arith}
use Rattle.std.specs.List.{list_any}
use Rattle.std.proofs.lemmas.Bool.{and_parts}
use Rattle.tree_definitions.specs.declared.history.Entry.{Entry}
use Rattle.tree_definitions.specs.declared.history.Item.{Item}
use Rattle.tree_definitions.specs.History.{CellRun, InDoubt, Settled, Stays, after, grows, legal_from, may_stand}
use Rattle.tree_definitions.specs.Live.{drop_after, dropped_for}
use Rattle.tree_definitions.specs.Removal.{begins_removal, is_lost, is_of, keeps_known, kept_from, left, none_known, recovered, settled}
use Rattle.tree_definitions.specs.Touched.{changed, changes_room, is_mounted, is_nospace, is_ok, is_seen, is_sync, is_synced, is_unmount, refused_later, stalled_after, touched_later, touches}
use Rattle.tree_definitions.specs.Tree.{FileTree}
use Rattle.tree_definitions.specs.WellFormed.{BirthsAscend}
use Rattle.tree_laws.proofs.HistoryLaws.{kept-recovered}
use Rattle.stop_laws.specs.ClosedStop.{ClosedKeepAll, still_open}
use Rattle.stop_laws.proofs.ClosedStops.{DifferByMarks, all_differ, differ_at_first, marks, no_mounts, push, step_both, step_closed}
use Rattle.kept_laws.specs.Closed.{ClosedServersAreLegal, ClosedServersKeep}

-- a test passes no more than there are
few_pass : (test : Settled → Bool) (list : List Settled) → length (filter test list) ≤ length list
few_pass test [] = omega arith
few_pass test (s ∷ list) = go (test s) (few_pass test list)
  where
    go : (b : Bool) → length (filter test list) ≤ length list → length (if b then s ∷ filter test list else filter test list) ≤ suc (length list)
    go true few = omega arith
    go false few = omega arith

-- ---- what is seen and synced

touched_marks : (server : ℕ) (nodes : List ℕ) (t : FileTree) (rest : List Settled) (many : List (List CellRun)) →
    touched_later server nodes t (rest ++ marks many) ≡ touched_later server nodes t rest
touched_marks server nodes t [] [] = refl
touched_marks server nodes t [] (x ∷ many) = touched_marks server nodes (after t (InDoubt x)) [] many
touched_marks server nodes t (Stays e ∷ rest) many =
    ap (λ b. (not (e.server.0 == server) && list_any (touches t e) nodes) || b) (touched_marks server nodes (after t (Stays e)) rest many)
touched_marks server nodes t (InDoubt runs ∷ rest) many = touched_marks server nodes (after t (InDoubt runs)) rest many

refused_marks : (server : ℕ) (rest : List Settled) (many : List (List CellRun)) → refused_later server (rest ++ marks many) ≡ refused_later server rest
refused_marks server [] [] = refl
refused_marks server [] (x ∷ many) = refused_marks server [] many
refused_marks server (Stays e ∷ rest) many = ap (λ b. (not (e.server.0 == server) && is_nospace e.reply) || b) (refused_marks server rest many)
refused_marks server (InDoubt runs ∷ rest) many = refused_marks server rest many

seen_marks : (t : FileTree) (e : Entry) (rest : List Settled) (many : List (List CellRun)) → is_seen t e (rest ++ marks many) ≡ is_seen t e rest
seen_marks t e rest many =
    ap₂ (λ a b. a || (changes_room t e && b)) (touched_marks e.server.0 (changed t e) (after t (Stays e)) rest many) (refused_marks e.server.0 rest many)

module _ (server : ℕ) where
  synced_marks : (st : Bool) (rest : List Settled) (many : List (List CellRun)) → is_synced server st (rest ++ marks many) ≡ is_synced server st rest
  synced_marks st [] [] = refl
  synced_marks st [] (x ∷ many) = synced_marks st [] many
  synced_marks st (InDoubt runs ∷ rest) many = synced_marks st rest many
  synced_marks st (Stays e ∷ rest) many =
      ap₂
      (λ a b. if not (e.server.0 == server) then a
      else (if is_mounted e.reply then false else ((is_sync e.op && is_ok e.reply) || (is_unmount e.op && is_ok e.reply && not st) || b)))
      (synced_marks st rest many) (synced_marks (stalled_after server st (Stays e)) rest many)

  known_marks : (st : Bool) (t : FileTree) (list : List Settled) (many : List (List CellRun)) → none_known server st t (list ++ marks many) ≡ none_known server st t list
  known_marks st t [] [] = refl
  known_marks st t [] (x ∷ many) = known_marks st (after t (InDoubt x)) [] many
  known_marks st t (InDoubt runs ∷ rest) many = known_marks st (after t (InDoubt runs)) rest many
  known_marks st t (Stays e ∷ rest) many =
      let now : Bool = stalled_after server st (Stays e) in
      ap (λ b. (not (e.server.0 == server) || (not b && not (is_synced server now (rest ++ marks many)))) && none_known server now (after t (Stays e)) (rest ++ marks many)) (seen_marks t e rest many)
      ∙ ap₂ (λ a b. (not (e.server.0 == server) || (not (is_seen t e rest) && not a)) && b) (synced_marks now rest many) (known_marks now (after t (Stays e)) rest many)

  -- ---- what a recovery keeps

  module _ (keeps : ℕ) where
    begins_marks : (t : FileTree) (s : Settled) (rest : List Settled) (many : List (List CellRun)) →
        begins_removal server keeps t s (rest ++ marks many) ≡ begins_removal server keeps t s rest
    begins_marks t s rest many = ap (λ b. is_lost server keeps t s && not b) (no_mounts server keeps rest many)

    keeps_marks : (st : Bool) (t : FileTree) (list : List Settled) (many : List (List CellRun)) →
        keeps_known server keeps st t (list ++ marks many) ≡ keeps_known server keeps st t list
    keeps_marks st t [] [] = refl
    keeps_marks st t [] (x ∷ many) = keeps_marks st (after t (InDoubt x)) [] many
    keeps_marks st t (s ∷ list) many =
        ap (λ (b : Bool). if b then none_known server st t (s ∷ (list ++ marks many)) else keeps_known server keeps (stalled_after server st s) (after t s) (list ++ marks many))
        (begins_marks t s list many)
        ∙ ap₂ (λ a b. if begins_removal server keeps t s list then a else b) (known_marks st t (s ∷ list) many) (keeps_marks (stalled_after server st s) (after t s) list many)

    -- where it removes nothing it keeps all
    keeps_whole : (st : Bool) (t : FileTree) (list : List Settled) → left server keeps t list ≡ list → keeps_known server keeps st t list ≡ true
    keeps_whole st t [] whole = refl
    keeps_whole st t (s ∷ rest) whole = go (begins_removal server keeps t s rest) whole (keeps_whole (stalled_after server st s) (after t s) rest)
      where
        go : (b : Bool) → (if b then filter (λ u. not (is_of server u)) rest else s ∷ left server keeps (after t s) rest) ≡ s ∷ rest →
            (left server keeps (after t s) rest ≡ rest → keeps_known server keeps (stalled_after server st s) (after t s) rest ≡ true) →
            (if b then none_known server st t (s ∷ rest) else keeps_known server keeps (stalled_after server st s) (after t s) rest) ≡ true
        go true same later =
            let long : length (filter (λ u. not (is_of server u)) rest) ≡ suc (length rest) = ap length same in
            let few : length (filter (λ u. not (is_of server u)) rest) ≤ length rest = few_pass (λ u. not (is_of server u)) rest in
            absurd (omega arith)
        go false same later = let tail : left server keeps (after t s) rest ≡ rest = cc in later tail

-- ---- what is legal

legal_marks : (t : FileTree) (ever : ℕ) (list : List Settled) (many : List (List CellRun)) → legal_from t ever (list ++ marks many) ≡ legal_from t ever list
legal_marks t ever [] [] = refl
legal_marks t ever [] (x ∷ many) = legal_marks (after t (InDoubt x)) (ever + grows t (InDoubt x)) [] many
legal_marks t ever (s ∷ list) many = ap (λ b. may_stand t ever s && b) (legal_marks (after t s) (ever + grows t s) list many)

-- ---- with the recoveries of closed servers among those of others

module _ (first : FileTree) (births : BirthsAscend first) (closed : ℕ → Bool) (greatest : ℕ → ℕ) where
  -- what is kept at the end was kept before
  kept_before : (servers : List ℕ) (history : List Item) → kept_from first [] (dropped_for history servers greatest) ≡ true → kept_from first [] history ≡ true
  kept_before [] history kept = kept
  kept_before (server ∷ servers) history kept =
      (and_parts (kept_from first [] history) (keeps_known server (greatest server) false first (settled first history))
      (sym (kept-recovered first [] history (record { 0 = server }) (record { 0 = greatest server }))
      ∙ kept_before servers (drop_after history (record { 0 = server }) (greatest server)) kept)).0

  -- by the next recovery too
  keeps_next : (server : ℕ) (servers : List ℕ) (history : List Item) → kept_from first [] (dropped_for history (server ∷ servers) greatest) ≡ true →
      keeps_known server (greatest server) false first (settled first history) ≡ true
  keeps_next server servers history kept =
      (and_parts (kept_from first [] history) (keeps_known server (greatest server) false first (settled first history))
      (sym (kept-recovered first [] history (record { 0 = server }) (record { 0 = greatest server }))
      ∙ kept_before servers (drop_after history (record { 0 = server }) (greatest server)) kept)).1

  -- the same of two lists that differ by marks
  keeps_alike : (server : ℕ) (one two : List Settled) → DifferByMarks one two → keeps_known server (greatest server) false first one ≡ true →
      keeps_known server (greatest server) false first two ≡ true
  keeps_alike server one two d keeps =
      ap (keeps_known server (greatest server) false first) d.two_is ∙ keeps_marks server (greatest server) false first d.core d.many
      ∙ sym (ap (keeps_known server (greatest server) false first) d.one_is ∙ keeps_marks server (greatest server) false first d.core d.few) ∙ keeps

  all_keep : (servers : List ℕ) (one two : List Item) → DifferByMarks (settled first one) (settled first two) → ClosedKeepAll first closed greatest servers (settled first two) →
      kept_from first [] (dropped_for one (still_open closed servers) greatest) ≡ true → kept_from first [] two ≡ true → kept_from first [] (dropped_for two servers greatest) ≡ true
  all_keep [] one two d whole kept now = now
  all_keep (server ∷ servers) one two d whole kept now =
      go (closed server) (λ is. whole.0 is) kept
      (λ other e k keeps. all_keep servers other (drop_after two (record { 0 = server }) (greatest server)) e
      (subst (ClosedKeepAll first closed greatest servers) (sym (push first births two server (greatest server))) whole.1) k
      (kept-recovered first [] two (record { 0 = server }) (record { 0 = greatest server }) ∙ ap (λ b. b && keeps_known server (greatest server) false first (settled first two)) now ∙ keeps))
    where
      go : (b : Bool) → (b ≡ true → left server (greatest server) first (settled first two) ≡ settled first two) →
          kept_from first [] (dropped_for one (if not b then server ∷ still_open closed servers else still_open closed servers) greatest) ≡ true →
          ((other : List Item) → DifferByMarks (settled first other) (settled first (drop_after two (record { 0 = server }) (greatest server))) →
          kept_from first [] (dropped_for other (still_open closed servers) greatest) ≡ true → keeps_known server (greatest server) false first (settled first two) ≡ true →
          kept_from first [] (dropped_for two (server ∷ servers) greatest) ≡ true) →
          kept_from first [] (dropped_for two (server ∷ servers) greatest) ≡ true
      go true same k next =
          next one
          (subst (DifferByMarks (settled first one)) (sym (push first births two server (greatest server)))
          (step_closed first births server (greatest server) (settled first one) (settled first two) (same refl) d))
          k (keeps_whole server (greatest server) false first (settled first two) (same refl))
      go false same k next =
          next (drop_after one (record { 0 = server }) (greatest server))
          (subst (λ l. DifferByMarks l (settled first (drop_after two (record { 0 = server }) (greatest server)))) (sym (push first births one server (greatest server)))
          (subst (DifferByMarks (recovered first server (greatest server) (settled first one))) (sym (push first births two server (greatest server)))
          (step_both first births server (greatest server) (settled first one) (settled first two) d)))
          k (keeps_alike server (settled first one) (settled first two) d (keeps_next server (still_open closed servers) one k))

pub closed_keep : ClosedServersKeep
closed_keep opening history closed greatest servers births whole kept =
    all_keep opening.tree births closed greatest servers history history (differ_at_first (settled opening.tree history)) whole kept
    (kept_before opening.tree births closed greatest (still_open closed servers) history kept)

pub closed_legal : ClosedServersAreLegal
closed_legal opening history closed greatest servers births whole legal =
    let first = opening.tree in
    let ever = opening.dir_blocks in
    let d : DifferByMarks (settled first (dropped_for history (still_open closed servers) greatest)) (settled first (dropped_for history servers greatest)) =
    all_differ first births closed greatest servers history history whole (differ_at_first (settled first history)) in
    ap (legal_from first ever) d.two_is ∙ legal_marks first ever d.core d.many ∙ sym (ap (legal_from first ever) d.one_is ∙ legal_marks first ever d.core d.few) ∙ legal
