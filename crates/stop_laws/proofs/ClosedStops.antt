-- What further marks of doubt change of what recoveries leave: nothing but cells in doubt.
use Rattle.std.proofs.Common.{ℕ, zero, suc, ◌≡◌, ◌+◌, ◌-◌, ◌/◌, ◌==◌, ◌&&◌, ◌||◌, not, Bool, true, false, if◌then◌else◌, Option, Some, None, List, [], ◌∷◌, ◌++◌, map, filter, take, drop, length, refl, sym, ◌∙◌, ap, subst, inl, inr, append_assoc, append-nil, take-append-drop, drop-drop}
use Rattle.std.proofs.Math.Path.{fun_ext}
use Rattle.std.specs.List.{flat_map, list_any, slice_get}
use Rattle.std.proofs.lemmas.List.Elements.{filter-append}
use Rattle.tree_definitions.specs.declared.cells.Cell.{Cell}
use Rattle.tree_definitions.specs.declared.cells.Cell.TheVariants.{Byte, Doubtful}
use Rattle.tree_definitions.specs.declared.history.Item.{Item}
use Rattle.tree_definitions.specs.declared.node.Node.{Node}
use Rattle.tree_definitions.specs.declared.node.Node.TheVariants.{Dir, File, Link}
use Rattle.tree_definitions.specs.History.{CellRun, InDoubt, Settled, Stays, after, after_all, doubted, doubted_cells, doubted_file, file_of}
use Rattle.tree_definitions.specs.Live.{drop_after, dropped_for}
use Rattle.tree_definitions.specs.Removal.{begins_removal, doubtful, doubtful_after, file_sectors, is_doubtful, is_lost, is_of, left, mounts, recovered, sector_cells, settled, step_writes}
use Rattle.tree_definitions.specs.Numbers.{below}
use Rattle.tree_definitions.specs.Perform.{resolved}
use Rattle.tree_definitions.specs.Touched.{doubts, is_ok, is_sync, node_shape, shape_of, touches}
use Rattle.frang_base.specs.declared.limits.TheConstants.{SECTOR_BYTES}
use Rattle.tree_definitions.specs.Tree.{FileTree, node_at, with_node}
use Rattle.tree_definitions.specs.WellFormed.{BirthsAscend}
use Rattle.tree_definitions.proofs.Births.{each_but}
use Rattle.tree_laws.specs.Alike.{Vaguer}
use Rattle.tree_laws.proofs.Likeness.{Like, Near, like_equal, like_same}
use Rattle.tree_laws.proofs.Nodes.{with_other, with_same}
use Rattle.tree_laws.proofs.Vagueness.{doubted_near, vague, vague_joined, vague_nodes_trans, vague_same}
use Rattle.tree_laws.proofs.HistoryLaws.{after_all-append, settled-recovered}
use Rattle.tree_laws.proofs.OrderLaws.{births_after, births_after_all}
use Rattle.sector_bytes.specs.Sectors.{Sectors}
use Rattle.disk_definitions.specs.Naming.{cell_in}
use Rattle.disk_definitions.specs.Standing.{StandsFor}
use Rattle.stop_laws.proofs.Closed.{vaguer_stands}
use Rattle.stop_laws.specs.ClosedStop.{ClosedKeepAll, ClosedServersStand, still_open}
use Rattle.stop_laws.proofs.Doubted.{doubted_shape}

-- marks of doubt alone
abbrev pub marks : List (List CellRun) → List Settled
marks many = map (λ runs. InDoubt runs) many

more_marks : (many : List (List CellRun)) (runs : List CellRun) → marks (many ++ runs ∷ []) ≡ marks many ++ InDoubt runs ∷ []
more_marks [] runs = refl
more_marks (x ∷ many) runs = ap (λ l. InDoubt x ∷ l) (more_marks many runs)

-- ---- removals behind them

module _ (server keeps : ℕ) where
  pub no_mounts : (list : List Settled) (many : List (List CellRun)) → list_any (mounts server) (list ++ marks many) ≡ list_any (mounts server) list
  no_mounts [] [] = refl
  no_mounts [] (x ∷ many) = no_mounts [] many
  no_mounts (s ∷ list) many = ap (λ b. mounts server s || b) (no_mounts list many)

  all_pass : (many : List (List CellRun)) → filter (λ t. not (is_of server t)) (marks many) ≡ marks many
  all_pass [] = refl
  all_pass (x ∷ many) = ap (λ l. InDoubt x ∷ l) (all_pass many)

  left_marks : (tree : FileTree) (list : List Settled) (many : List (List CellRun)) → left server keeps tree (list ++ marks many) ≡ left server keeps tree list ++ marks many
  left_marks tree [] [] = refl
  left_marks tree [] (x ∷ many) = ap (λ l. InDoubt x ∷ l) (left_marks (after tree (InDoubt x)) [] many)
  left_marks tree (s ∷ list) many =
      ap (λ b. if is_lost server keeps tree s && not b then filter (λ t. not (is_of server t)) (list ++ marks many) else s ∷ left server keeps (after tree s) (list ++ marks many)) (no_mounts list many)
      ∙ go (begins_removal server keeps tree s list) (left_marks (after tree s) list many)
    where
      go : (b : Bool) → left server keeps (after tree s) (list ++ marks many) ≡ left server keeps (after tree s) list ++ marks many →
          (if b then filter (λ t. not (is_of server t)) (list ++ marks many) else s ∷ left server keeps (after tree s) (list ++ marks many))
          ≡ (if b then filter (λ t. not (is_of server t)) list else s ∷ left server keeps (after tree s) list) ++ marks many
      go true same = filter-append (λ t. not (is_of server t)) list (marks many) ∙ ap (λ l. filter (λ t. not (is_of server t)) list ++ l) (all_pass many)
      go false same = ap (λ l. s ∷ l) same

-- ---- what comes into doubt behind them

module _ (server birth sector : ℕ) where
  doubtful_marks : (before : Bool) (tree : FileTree) (list : List Settled) (many : List (List CellRun)) →
      is_doubtful server birth sector before tree (list ++ marks many) ≡ is_doubtful server birth sector before tree list
  doubtful_marks before tree [] [] = refl
  doubtful_marks before tree [] (x ∷ many) = doubtful_marks before (after tree (InDoubt x)) [] many
  doubtful_marks before tree (InDoubt x ∷ list) many = doubtful_marks before (after tree (InDoubt x)) list many
  doubtful_marks before tree (Stays e ∷ list) many =
      doubtful_marks (doubtful_after server birth sector before tree e (list ++ marks many)) (after tree (Stays e)) list many
      ∙ ap (λ b. is_doubtful server birth sector b (after tree (Stays e)) list)
      (ap (λ (m : Bool). if step_writes tree (resolved tree e.op).step e.reply birth sector then e.server.0 == server && not m
      else (if e.server.0 == server then before && not (is_sync e.op && is_ok e.reply) else before && not (touches tree e birth))) (no_mounts server 0 list many))

-- the sectors of files go by their sizes
doubts_long : (cells : List Cell) → length (doubts cells) ≡ length cells
doubts_long [] = refl
doubts_long (c ∷ cells) = ap suc (doubts_long cells)

sectors_shaped : (wanted : ℕ → ℕ → Bool) (birth : ℕ) (node : Node) → file_sectors wanted birth (node_shape node) ≡ file_sectors wanted birth node
sectors_shaped wanted birth (File cells links when) =
    ap (λ n. map (sector_cells birth n) (filter (wanted birth) (below ((n + (SECTOR_BYTES - 1)) / SECTOR_BYTES)))) (doubts_long cells)
sectors_shaped wanted birth (Dir entries blocks) = refl
sectors_shaped wanted birth (Link target links) = refl

module _ (wanted : ℕ → ℕ → Bool) where
  abbrev all_sectors : List (ℕ × Node) → List CellRun
  all_sectors nodes = flat_map (λ n. file_sectors wanted n.0 n.1) nodes

  all_shaped : (nodes : List (ℕ × Node)) → all_sectors (map (λ n. (n.0, node_shape n.1)) nodes) ≡ all_sectors nodes
  all_shaped [] = refl
  all_shaped (n ∷ nodes) = ap (λ l. l ++ all_sectors (map (λ n. (n.0, node_shape n.1)) nodes)) (sectors_shaped wanted n.0 n.1) ∙ ap (λ l. file_sectors wanted n.0 n.1 ++ l) (all_shaped nodes)

  same_sectors : (t u : FileTree) → shape_of t ≡ shape_of u → all_sectors t.nodes ≡ all_sectors u.nodes
  same_sectors t u same = sym (all_shaped t.nodes) ∙ ap (λ (v : FileTree). all_sectors v.nodes) same ∙ all_shaped u.nodes

module _ (first : FileTree) (births : BirthsAscend first) where
  -- marks leave the shape
  marks_shape : (tree : FileTree) (many : List (List CellRun)) → BirthsAscend tree → shape_of (after_all tree (marks many)) ≡ shape_of tree
  marks_shape tree [] ascend = refl
  marks_shape tree (runs ∷ many) ascend = marks_shape (doubted tree runs) many (births_after tree (InDoubt runs) ascend) ∙ doubted_shape tree runs ascend

  doubt_is : (server : ℕ) (core : List Settled) (many : List (List CellRun)) → doubtful server first (core ++ marks many) ≡ doubtful server first core
  doubt_is server core many =
      ap (λ (wanted : ℕ → ℕ → Bool). flat_map (λ n. file_sectors wanted n.0 n.1) (after_all first (core ++ marks many)).nodes)
      (fun_ext (λ birth. fun_ext (λ sector. doubtful_marks server birth sector false first core many)))
      ∙ same_sectors (λ birth sector. is_doubtful server birth sector false first core) (after_all first (core ++ marks many)) (after_all first core)
      (ap shape_of (after_all-append first core (marks many)) ∙ marks_shape (after_all first core) many (births_after_all first core births))

  recovered_marks : (server keeps : ℕ) (core : List Settled) (many : List (List CellRun)) →
      recovered first server keeps (core ++ marks many) ≡ left server keeps first core ++ marks (many ++ doubtful server first (left server keeps first core) ∷ [])
  recovered_marks server keeps core many =
      let rest = left server keeps first core in
      ap (λ l. l ++ InDoubt (doubtful server first l) ∷ []) (left_marks server keeps first core many)
      ∙ ap (λ runs. (rest ++ marks many) ++ InDoubt runs ∷ []) (doubt_is server rest many)
      ∙ append_assoc rest (marks many) (InDoubt (doubtful server first rest) ∷ [])
      ∙ ap (λ l. rest ++ l) (sym (more_marks many (doubtful server first rest)))

-- ---- some of the marks

pub data Among : List (List CellRun) → List (List CellRun) → Type 0 where
  none : Among [] []
  both : {few many : List (List CellRun)} (runs : List CellRun) → Among few many → Among (runs ∷ few) (runs ∷ many)
  only : {few many : List (List CellRun)} (runs : List CellRun) → Among few many → Among few (runs ∷ many)

among_both : (few many : List (List CellRun)) (runs : List CellRun) → Among few many → Among (few ++ runs ∷ []) (many ++ runs ∷ [])
among_both few many runs none = both runs none
among_both few many runs (both x rest) = both x (among_both _ _ runs rest)
among_both few many runs (only x rest) = only x (among_both few _ runs rest)

among_only : (few many : List (List CellRun)) (runs : List CellRun) → Among few many → Among few (many ++ runs ∷ [])
among_only few many runs none = only runs none
among_only few many runs (both x rest) = both x (among_only _ _ runs rest)
among_only few many runs (only x rest) = only x (among_only few _ runs rest)

-- two lists that differ by marks behind them
pub record DifferByMarks (one two : List Settled) : Type 0 where
  pub core : List Settled
  pub few : List (List CellRun)
  pub many : List (List CellRun)
  pub one_is : one ≡ core ++ marks few
  pub two_is : two ≡ core ++ marks many
  pub among : Among few many

-- none at first
pub differ_at_first : (list : List Settled) → DifferByMarks list list
differ_at_first list = record { core = list; few = []; many = []; one_is = sym (append-nil list); two_is = sym (append-nil list); among = none }

module _ (first : FileTree) (births : BirthsAscend first) where
  pub step_both : (server keeps : ℕ) (one two : List Settled) → DifferByMarks one two → DifferByMarks (recovered first server keeps one) (recovered first server keeps two)
  step_both server keeps one two d =
      let runs = doubtful server first (left server keeps first d.core) in
      record {
        core = left server keeps first d.core;
        few = d.few ++ runs ∷ [];
        many = d.many ++ runs ∷ [];
        one_is = ap (recovered first server keeps) d.one_is ∙ recovered_marks first births server keeps d.core d.few;
        two_is = ap (recovered first server keeps) d.two_is ∙ recovered_marks first births server keeps d.core d.many;
        among = among_both d.few d.many runs d.among;
      }

  pub step_closed : (server keeps : ℕ) (one two : List Settled) → left server keeps first two ≡ two → DifferByMarks one two → DifferByMarks one (recovered first server keeps two)
  step_closed server keeps one two whole d =
      let runs = doubtful server first two in
      record {
        core = d.core;
        few = d.few;
        many = d.many ++ runs ∷ [];
        one_is = d.one_is;
        two_is = ap (λ l. l ++ InDoubt (doubtful server first l) ∷ []) whole ∙ ap (λ l. l ++ InDoubt runs ∷ []) d.two_is ∙ append_assoc d.core (marks d.many) (InDoubt runs ∷ [])
            ∙ ap (λ l. d.core ++ l) (sym (more_marks d.many runs));
        among = among_only d.few d.many runs d.among;
      }

  pub push : (history : List Item) (server keeps : ℕ) → settled first (drop_after history (record { 0 = server }) keeps) ≡ recovered first server keeps (settled first history)
  push history server keeps = settled-recovered first [] history (record { 0 = server }) (record { 0 = keeps })

  module _ (closed : ℕ → Bool) (greatest : ℕ → ℕ) where
    pub all_differ : (servers : List ℕ) (one two : List Item) → ClosedKeepAll first closed greatest servers (settled first two) → DifferByMarks (settled first one) (settled first two) →
        DifferByMarks (settled first (dropped_for one (still_open closed servers) greatest)) (settled first (dropped_for two servers greatest))
    all_differ [] one two kept d = d
    all_differ (server ∷ servers) one two kept d =
        go (closed server) (λ is. kept.0 is)
        (λ other e. all_differ servers other (drop_after two (record { 0 = server }) (greatest server))
        (subst (ClosedKeepAll first closed greatest servers) (sym (push two server (greatest server))) kept.1) e)
      where
        go : (b : Bool) → (b ≡ true → left server (greatest server) first (settled first two) ≡ settled first two) →
            ((other : List Item) → DifferByMarks (settled first other) (settled first (drop_after two (record { 0 = server }) (greatest server))) →
            DifferByMarks (settled first (dropped_for other (still_open closed servers) greatest)) (settled first (dropped_for two (server ∷ servers) greatest))) →
            DifferByMarks (settled first (dropped_for one (if not b then server ∷ still_open closed servers else still_open closed servers) greatest)) (settled first (dropped_for two (server ∷ servers) greatest))
        go true whole next =
            next one (subst (DifferByMarks (settled first one)) (sym (push two server (greatest server))) (step_closed server (greatest server) (settled first one) (settled first two) (whole refl) d))
        go false whole next =
            next (drop_after one (record { 0 = server }) (greatest server))
            (subst (λ l. DifferByMarks l (settled first (drop_after two (record { 0 = server }) (greatest server)))) (sym (push one server (greatest server)))
            (subst (DifferByMarks (recovered first server (greatest server) (settled first one))) (sym (push two server (greatest server)))
            (step_both server (greatest server) (settled first one) (settled first two) d)))

-- ---- marks make a tree vaguer

cells_vaguer : (xs : List Cell) (from count : ℕ) → Vaguer xs (doubted_cells xs from count)
cells_vaguer xs from count =
    let mid = take count (drop from xs) in
    let end = drop (from + count) xs in
    let whole : take from xs ++ mid ++ end ≡ xs =
    append_assoc (take from xs) mid end ∙ ap (λ l. take from xs ++ (mid ++ l)) (sym (drop-drop count from xs)) ∙ ap (λ l. take from xs ++ l) (take-append-drop count (drop from xs)) ∙ take-append-drop from xs in
    subst (λ z. Vaguer z (doubted_cells xs from count)) whole
    (vague_joined (take from xs ++ mid) (take from xs ++ map (λ c. Doubtful) mid) end end
    (vague_joined (take from xs) (take from xs) mid (map (λ c. Doubtful) mid) (vague_same (take from xs)) (all_doubt mid)) (vague_same end))
  where
    all_doubt : (xs : List Cell) → Vaguer xs (map (λ c. Doubtful) xs)
    all_doubt [] = tt
    all_doubt (x ∷ xs) = (inr refl, all_doubt xs)

file_vaguer : (u : FileTree) (d from count : ℕ) (o : Option Node) → node_at u d ≡ o → (b : ℕ) → Near vague u (doubted_file u (file_of d o) from count) b
file_vaguer u d from count (Some (File cells links when)) i b =
    let new = File (doubted_cells cells from count) links when in
    each_but (λ b. Like vague (node_at u b) (node_at (with_node u d new) b)) d
    (subst (λ z. Like vague z (node_at (with_node u d new) d)) (sym i) (doubted_cells cells from count, with_same u d new, cells_vaguer cells from count))
    (λ c far. like_equal vague (node_at u c) (node_at (with_node u d new) c) (sym (with_other u d new c far))) b
file_vaguer u d from count (Some (Dir es n)) i b = like_same vague (node_at u b)
file_vaguer u d from count (Some (Link target links)) i b = like_same vague (node_at u b)
file_vaguer u d from count None i b = like_same vague (node_at u b)

doubted_vaguer : (runs : List CellRun) (u : FileTree) (b : ℕ) → Near vague u (doubted u runs) b
doubted_vaguer [] u b = like_same vague (node_at u b)
doubted_vaguer (run ∷ runs) u b =
    let v = doubted_file u (file_of run.birth (node_at u run.birth)) run.from run.count in
    vague_nodes_trans (node_at u b) (node_at v b) (node_at (doubted v runs) b) (file_vaguer u run.birth run.from run.count (node_at u run.birth) refl b) (doubted_vaguer runs v b)

among_near : (few many : List (List CellRun)) → Among few many → (t u : FileTree) → ((b : ℕ) → Near vague t u b) → (b : ℕ) → Near vague (after_all t (marks few)) (after_all u (marks many)) b
among_near few many none t u near b = near b
among_near few many (both runs rest) t u near b = among_near _ _ rest (doubted t runs) (doubted u runs) (λ b. doubted_near t u runs b (near b)) b
among_near few many (only runs rest) t u near b =
    among_near few _ rest t (doubted u runs) (λ b. vague_nodes_trans (node_at t b) (node_at u b) (node_at (doubted u runs) b) (near b) (doubted_vaguer runs u b)) b

byte_before : (xs ys : List Cell) (j x : ℕ) → Vaguer xs ys → slice_get ys j ≡ Some (Byte x) → slice_get xs j ≡ Some (Byte x)
byte_before [] [] j x l e = e
byte_before [] (y ∷ ys) j x l e = absurd l
byte_before (c ∷ xs) [] j x l e = absurd l
byte_before (c ∷ xs) (y ∷ ys) zero x (inl same, l) e = ap Some same ∙ e
byte_before (c ∷ xs) (y ∷ ys) zero x (inr doubt, l) e = absurd (let z : Some Doubtful ≡ Some (Byte x) = ap Some (sym doubt) ∙ e in cc)
byte_before (c ∷ xs) (y ∷ ys) (suc j) x l e = byte_before xs ys j x l.1 e

node_before : (o q : Option Node) (j x : ℕ) → Like vague o q → cell_in q j ≡ Some (Byte x) → cell_in o j ≡ Some (Byte x)
node_before (Some (Dir entries blocks)) q j x l e = ap (λ z. cell_in z j) (sym l) ∙ e
node_before (Some (File cells links when)) q j x l e = byte_before cells l.0 j x l.2 (ap (λ z. cell_in z j) (sym l.1) ∙ e)
node_before (Some (Link target links)) q j x l e = ap (λ z. cell_in z j) (sym l) ∙ e
node_before None q j x l e = ap (λ z. cell_in z j) (sym l) ∙ e

-- ---- what stands, stands for it

module _ (disk : Sectors) (first : FileTree) (births : BirthsAscend first) (one two : List Settled) (d : DifferByMarks one two) where
  abbrev before : FileTree
  before = after_all first d.core

  tree_of_one : after_all first one ≡ after_all before (marks d.few)
  tree_of_one = ap (after_all first) d.one_is ∙ after_all-append first d.core (marks d.few)

  tree_of_two : after_all first two ≡ after_all before (marks d.many)
  tree_of_two = ap (after_all first) d.two_is ∙ after_all-append first d.core (marks d.many)

  ascends : BirthsAscend before
  ascends = births_after_all first d.core births

  same : shape_of (after_all before (marks d.many)) ≡ shape_of (after_all before (marks d.few))
  same = marks_shape first births before d.many ascends ∙ sym (marks_shape first births before d.few ascends)

  fewer : (b j x : ℕ) → cell_in (node_at (after_all before (marks d.many)) b) j ≡ Some (Byte x) → cell_in (node_at (after_all before (marks d.few)) b) j ≡ Some (Byte x)
  fewer b j x = node_before (node_at (after_all before (marks d.few)) b) (node_at (after_all before (marks d.many)) b) j x (among_near d.few d.many d.among before before (λ b. like_same vague (node_at before b)) b)

  still_stands : StandsFor disk (after_all first one) → StandsFor disk (after_all first two)
  still_stands stands = subst (StandsFor disk) (sym tree_of_two) (vaguer_stands disk (after_all before (marks d.few)) (after_all before (marks d.many)) same fewer (subst (StandsFor disk) tree_of_one stands))

pub closed_servers_stand : ClosedServersStand
closed_servers_stand disk first history closed greatest servers births kept stands =
    still_stands disk first births (settled first (dropped_for history (still_open closed servers) greatest)) (settled first (dropped_for history servers greatest))
    (all_differ first births closed greatest servers history history kept (differ_at_first (settled first history))) stands
