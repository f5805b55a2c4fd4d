-- Cells that come into doubt, run by run; and that the sectors in doubt of a file are among the runs.
use Rattle.std.proofs.Common.{ℕ, zero, suc, ◌≡◌, ◌≢◌, ◌≤◌, ◌<◌, ◌+◌, ◌-◌, ◌*◌, ◌/◌, ◌⊎◌, ⊎_elim, Bool, true, false, if◌then◌else◌, min, Option, Some, None, List, [], ◌∷◌, length, filter, replicate, refl, sym, ◌∙◌, ap, subst, arith}
use Rattle.std.specs.List.{Contains, slice_get}
use Rattle.std.specs.Map.{lookup}
use Rattle.std.specs.BTreeMap.{is_at}
use Rattle.std.specs.Ordering.{nat_cmp}
use Rattle.std.proofs.lemmas.Bool.{cases_lt, cases_eq}
use Rattle.std.proofs.lemmas.List.{length-replicate}
use Rattle.tree_definitions.specs.declared.cells.Cell.{Cell}
use Rattle.tree_definitions.specs.declared.cells.Cell.TheVariants.{Byte, Doubtful}
use Rattle.tree_definitions.specs.declared.node.Node.{Node}
use Rattle.tree_definitions.specs.declared.node.Node.TheVariants.{Dir, File, Link}
use Rattle.tree_definitions.specs.Apply.{overwritten}
use Rattle.tree_definitions.specs.History.{CellRun, Settled, after_all, doubted_cells, doubted_file, file_of}
use Rattle.tree_definitions.specs.Numbers.{below}
use Rattle.tree_definitions.specs.Removal.{doubtful, file_sectors, is_doubtful, sector_cells}
use Rattle.tree_definitions.specs.Tree.{FileTree, node_at}
use Rattle.tree_definitions.proofs.CellLaws.{doubted_over}
use Rattle.tree_laws.proofs.Nodes.{with_same, with_other}
use Rattle.tree_definitions.proofs.Pairs.{birth_exact, tie}
use Rattle.disk_definitions.specs.Naming.{cell_in}
use Rattle.plan_laws.proofs.Covering.{below_has, has_cases, has_head, has_more, map_has, not_in_none, filter_has, flat_has}
use Rattle.plan_laws.proofs.Overwriting as over
use Rattle.byte_trees.specs.Cells.{Covers, IsByte, DoubtKeepsOtherBytes, PartsInDoubtHaveNoBytes}

-- ---- the cells of one file

get_doubt : (n i : ℕ) (x : ℕ) → slice_get (replicate n Doubtful) i ≡ Some (Byte x) → ⊥
get_doubt zero i x e = cc
get_doubt (suc n) zero x e = cc
get_doubt (suc n) (suc i) x e = get_doubt n i x e

pub get_past : {X : Type 0} (xs : List X) (j : ℕ) (c : X) → slice_get xs j ≡ Some c → j < length xs
get_past [] j c e = absurd (cc)
get_past (x ∷ xs) zero c e = omega arith
get_past (x ∷ xs) (suc j) c e = let l : j < length xs = get_past xs j c e in omega arith

-- a cell that is a byte was it, and lies apart from the run
record StaysByte (cells : List Cell) (from count j x : ℕ) : Type 0 where
  before : slice_get cells j ≡ Some (Byte x)
  apart : from ≤ j → j < from + count → ⊥

module _ (cells : List Cell) (from count : ℕ) where
  inside : min from (length cells) ≤ length cells
  inside = omega arith

  abbrev begin : ℕ
  begin = min from (length cells)

  abbrev many : ℕ
  many = min count (length cells - min from (length cells))

  abbrev fresh : List Cell
  fresh = replicate (min count (length cells - min from (length cells))) Doubtful

  fresh_long : length fresh ≡ many
  fresh_long = length-replicate many Doubtful

  same : (j : ℕ) → slice_get (doubted_cells cells from count) j ≡ slice_get (overwritten cells begin fresh) j
  same j = ap (λ xs. slice_get xs j) (sym (doubted_over cells from count begin many refl refl))

  stays : (j x : ℕ) → slice_get (doubted_cells cells from count) j ≡ Some (Byte x) → StaysByte cells from count j x
  stays j x e = ⊎_elim (λ l. in_front l) (λ g. ⊎_elim (λ l. absurd (within g l)) (λ p. behind p) (cases_lt j (begin + many))) (cases_lt j begin)
    where
      in_front : j < min from (length cells) → StaysByte cells from count j x
      in_front l = record { before = sym (over.before_is cells fresh begin inside j l) ∙ sym (same j) ∙ e; apart = λ a b. omega arith }

      within : min from (length cells) ≤ j → j < min from (length cells) + min count (length cells - min from (length cells)) → ⊥
      within g l =
          let place : begin + (j - begin) ≡ j = omega arith in
          let short : j - begin < length fresh = subst (λ k. j - begin < k) (sym fresh_long) (omega arith) in
          get_doubt many (j - begin) x (sym (over.within_is cells fresh begin inside (j - begin) short) ∙ ap (slice_get (overwritten cells begin fresh)) place ∙ sym (same j) ∙ e)

      behind : min from (length cells) + min count (length cells - min from (length cells)) ≤ j → StaysByte cells from count j x
      behind p =
          let place : begin + length fresh + (j - (begin + many)) ≡ j = (let f : length fresh ≡ many = fresh_long in omega arith) in
          let was : slice_get cells j ≡ Some (Byte x) = ap (slice_get cells) (sym place) ∙ sym (over.behind_is cells fresh begin inside (j - (begin + many))) ∙ ap (slice_get (overwritten cells begin fresh)) place ∙ sym (same j) ∙ e in
          let low : j < length cells = get_past cells j (Byte x) was in
          record { before = was; apart = λ a b. omega arith }

-- ---- one run

module _ (tree : FileTree) (run : CellRun) (b j x : ℕ) where
  record StaysIn : Type 0 where
    before : IsByte tree b j x
    apart : Covers run b j → ⊥

  abbrev once : Option Node → FileTree
  once o = doubted_file tree (file_of run.birth o) run.from run.count

  by_node : (o : Option Node) → node_at tree run.birth ≡ o → IsByte (once o) b j x → StaysIn
  by_node None is e = record { before = e; apart = λ c. none c }
    where
      none : Covers run b j → ⊥
      none c = let z : cell_in None j ≡ Some (Byte x) = ap (λ o. cell_in o j) (sym is ∙ ap (node_at tree) c.of) ∙ e in cc
  by_node (Some (Dir entries blocks)) is e = record { before = e; apart = λ c. no_dir c }
    where
      no_dir : Covers run b j → ⊥
      no_dir c = let z : cell_in (Some (Dir entries blocks)) j ≡ Some (Byte x) = ap (λ o. cell_in o j) (sym is ∙ ap (node_at tree) c.of) ∙ e in cc
  by_node (Some (Link target links)) is e = record { before = e; apart = λ c. no_link c }
    where
      no_link : Covers run b j → ⊥
      no_link c = let z : cell_in (Some (Link target links)) j ≡ Some (Byte x) = ap (λ o. cell_in o j) (sym is ∙ ap (node_at tree) c.of) ∙ e in cc
  by_node (Some (File cells links when)) is e = ⊎_elim here elsewhere (cases_eq b run.birth)
    where
      here : b ≡ run.birth → StaysIn
      here same =
          let there : cell_in (Some (File (doubted_cells cells run.from run.count) links when)) j ≡ Some (Byte x) =
          ap (λ o. cell_in o j) (sym (with_same tree run.birth (File (doubted_cells cells run.from run.count) links when)) ∙ ap (node_at (once (Some (File cells links when)))) (sym same)) ∙ e in
          let r = stays cells run.from run.count j x there in
          record { before = ap (λ o. cell_in o j) (ap (node_at tree) same ∙ is) ∙ r.before; apart = λ c. r.apart c.from c.to }

      elsewhere : b ≢ run.birth → StaysIn
      elsewhere far = record {
        before = ap (λ o. cell_in o j) (sym (with_other tree run.birth (File (doubted_cells cells run.from run.count) links when) b far)) ∙ e;
        apart = λ c. far (sym c.of);
      }

-- ---- all runs

pub doubt_keeps : DoubtKeepsOtherBytes
doubt_keeps tree [] b j x e = record { before = e; apart = λ run c. absurd (not_in_none run c) }
doubt_keeps tree (run ∷ runs) b j x e =
    let later = doubt_keeps (doubted_file tree (file_of run.birth (node_at tree run.birth)) run.from run.count) runs b j x e in
    let first = by_node tree run b j x (node_at tree run.birth) refl later.before in
    record {
      before = first.before;
      apart = λ other c covers. ⊎_elim (λ same. first.apart (subst (λ r. Covers r b j) (sym same) covers)) (λ more. later.apart other more covers) (has_cases run other runs c);
    }

-- ---- the sectors in doubt

-- a node that is found is among the nodes
found_in : (nodes : List (ℕ × Node)) (b : ℕ) (x : Node) → lookup (is_at (nat_cmp b)) nodes ≡ Some x → Contains nodes (b, x)
found_in [] b x e = absurd (cc)
found_in (n ∷ nodes) b x e = go (found_in nodes b x) (is_at (nat_cmp b) n.0) refl e
  where
    go : (lookup (is_at (nat_cmp b)) nodes ≡ Some x → Contains nodes (b, x)) → (c : Bool) → is_at (nat_cmp b) n.0 ≡ c → (if c then Some n.1 else lookup (is_at (nat_cmp b)) nodes) ≡ Some x → Contains (n ∷ nodes) (b, x)
    go rest true q i =
        let key : n.0 ≡ b = sym (tie nat_cmp birth_exact b n.0 q) in
        let value : n.1 ≡ x = cc in
        let pair : n ≡ (b, x) = rw (key, value) refl in
        subst (Contains (n ∷ nodes)) pair (has_head n nodes)
    go rest false q i = has_more n (b, x) nodes (rest i)

module _ (server : ℕ) (opening : FileTree) (list : List Settled) (b part j x : ℕ) (lo : 512 * part ≤ j) (hi : j < 512 * (part + 1)) (doubt : is_doubtful server b part false opening list ≡ true) where
  abbrev tree : FileTree
  tree = after_all opening list

  abbrev wanted : ℕ → ℕ → Bool
  wanted birth sector = is_doubtful server birth sector false opening list

  pub listed : (cells : List Cell) (links when : ℕ) → node_at tree b ≡ Some (File cells links when) → j < length cells → Contains (doubtful server opening list) (sector_cells b (length cells) part)
  listed cells links when is l =
      let inside : part < (length cells + 511) / 512 = omega arith in
      flat_has (λ n. file_sectors wanted n.0 n.1) tree.nodes (b, File cells links when) (sector_cells b (length cells) part) (found_in tree.nodes b (File cells links when) is)
      (map_has (sector_cells b (length cells)) (filter (wanted b) (below ((length cells + 511) / 512))) part (filter_has (wanted b) (below ((length cells + 511) / 512)) part (below_has ((length cells + 511) / 512) part inside) doubt))

  pub covers : (size : ℕ) → j < size → Covers (sector_cells b size part) b j
  covers size l = record { of = refl; from = lo; to = omega arith }

  by_cell : (o : Option Node) → node_at tree b ≡ o → cell_in o j ≡ Some (Byte x) → ((run : CellRun) → Contains (doubtful server opening list) run → Covers run b j → ⊥) → ⊥
  by_cell None is e apart = cc
  by_cell (Some (Dir entries blocks)) is e apart = cc
  by_cell (Some (Link target links)) is e apart = cc
  by_cell (Some (File cells links when)) is e apart =
      let l : j < length cells = get_past cells j (Byte x) e in
      apart (sector_cells b (length cells) part) (listed cells links when is l) (covers (length cells) l)

pub parts_have_none : PartsInDoubtHaveNoBytes
parts_have_none server opening list b part j x lo hi doubt e =
    let r = doubt_keeps (after_all opening list) (doubtful server opening list) b j x e in
    by_cell server opening list b part j x lo hi doubt (node_at (after_all opening list) b) refl r.before r.apart
