-- One place, and one inode, more of what is read.
use Rattle.std.proofs.Common.{◌==◌, ◌≡◌, ◌≢◌, ℕ, suc, ◌+◌, ◌*◌, ◌<◌, ◌≤◌, ⊎_elim, true, false, not, ◌||◌, Option, Some, None, List, length, is_some, take, min, cond, refl, sym, ◌∙◌, ap, arith, eq-eqb, ne_eqb, length-take}
use Rattle.std.specs.Ordering.{nat_cmp}
use Rattle.std.specs.Cmp.Lexicographic.{slice_cmp}
use Rattle.std.proofs.lemmas.Bool.{and_parts, and_from, and_left, and_right, or_cases, not-true, cond-true, cond-false, both_ways, false_from_ne_true}
use Rattle.frang_base.proofs.Tests.{none_of}
use Rattle.disk_definitions.specs.declared.inode.Inode.{Inode}
use Rattle.disk_definitions.specs.Inodes.{is_free_inode, is_file_inode, is_directory_inode, is_link_inode, inode_fits}
use Rattle.tree_definitions.specs.declared.cells.Cell.{Cell}
use Rattle.tree_definitions.specs.declared.node.Node.TheVariants.{Dir, File, Link}
use Rattle.tree_definitions.specs.Entries.{Entries, entry_at}
use Rattle.tree_definitions.proofs.Pairs.{name_exact, length_put}
use Rattle.disk_definitions.specs.Store.{Store, StoredEntry, stored}
use Rattle.standing_laws.specs.ReadTree.{place_at, with_place, entries_to, byte_at, cells_to}
use Rattle.standing_laws.specs.Soundness.{has_kind, entry_agrees, entries_agree, directory_agrees, node_agrees}
use Rattle.standing_laws.proofs.Bounded.{all_more, all_at}
use Rattle.standing_laws.proofs.Shapes.{file_shape, dir_shape, link_shape}
use Rattle.standing_laws.proofs.Pictured.{read_file, read_dir, read_link}
use Rattle.disk_reading.specs.Files.{IsNode}
use Rattle.disk_reading.proofs.Decoded.{free_kind}

-- ---- places
few_more : (s : Store) (es : Entries) (o : Option StoredEntry) → entry_agrees s es o ≡ true → length (with_place es o) ≤ length es + 1
few_more s es None h = omega arith
few_more s es (Some e) h =
    let n : is_some (entry_at es e.name) ≡ false = not-true (is_some (entry_at es e.name)) (and_parts (not (is_some (entry_at es e.name))) (has_kind (s.inode e.inode) e.kind) h).0 in
    let l : length (with_place es (Some e)) ≡ length es + 1 = length_put (slice_cmp nat_cmp) name_exact es e.name e.inode (none_of (entry_at es e.name) n) in
    omega arith

pub record OneMore (s : Store) (place : ℕ → Option StoredEntry) (n : ℕ) (es : Entries) : Type 0 where
  pub agree : entries_agree s place n ≡ true
  pub are : es ≡ entries_to place n
  pub few : length es ≤ n

pub place_more : (s : Store) (place : ℕ → Option StoredEntry) (n : ℕ) (es new : Entries) (o : Option StoredEntry) → entries_agree s place n ≡ true → es ≡ entries_to place n → length es ≤ n → o ≡ place n → entry_agrees s es o ≡ true → new ≡ with_place es o → OneMore s place (n + 1) new
place_more s place n es new o a e f i h g =
    let l : length (with_place es o) ≤ length es + 1 = few_more s es o h in
    let m : length new ≡ length (with_place es o) = ap length g in
    let k : n + 1 ≡ suc n = omega arith in
    let b : entry_agrees s (entries_to place n) (place n) ≡ true = ap (λ o. entry_agrees s (entries_to place n) o) (sym i) ∙ ap (λ es. entry_agrees s es o) (sym e) ∙ h in
    record {
      agree = all_more n (λ q. entry_agrees s (entries_to place q) (place q)) ∙ and_from (entries_agree s place n) (entry_agrees s (entries_to place n) (place n)) a b;
      are = g ∙ ap (λ es. with_place es o) e ∙ ap (with_place (entries_to place n)) i ∙ sym (ap (entries_to place) k);
      few = omega arith;
    }

pub place_fails : (s : Store) (place : ℕ → Option StoredEntry) (n size : ℕ) (es : Entries) (o : Option StoredEntry) → n < size → es ≡ entries_to place n → o ≡ place n → entry_agrees s es o ≡ false → entries_agree s place size ≡ false
place_fails s place n size es o l e i h = false_from_ne_true (entries_agree s place size) (λ t.
    (let b : entry_agrees s (entries_to place n) (place n) ≡ false = ap (λ o. entry_agrees s (entries_to place n) o) (sym i) ∙ ap (λ es. entry_agrees s es o) (sym e) ∙ h in
    both_ways (entry_agrees s (entries_to place n) (place n)) b (all_at size (λ q. entry_agrees s (entries_to place q) (place q)) t n l)))

-- ---- kinds
module _ (x : Inode) (fits : inode_fits x ≡ true) where
  used : x.kind ≢ 0 → is_free_inode x ≡ false
  used n = free_kind x fits ∙ ne_eqb x.kind 0 n

  shaped : (k : ℕ) → x.kind ≡ k → k ≢ 0 → (P : Type 0) → (is_file_inode x ≡ true → k ≡ 1 → P) → (is_directory_inode x ≡ true → k ≡ 2 → P) → (is_link_inode x ≡ true → k ≡ 3 → P) → P
  shaped k e n P f d l = ⊎_elim
      (λ r. ⊎_elim
      (λ r. ⊎_elim (λ t. absurd (both_ways (is_free_inode x) (used (λ z. n (sym e ∙ z))) t)) (λ t. f t (sym e ∙ (file_shape x t).kind)) (or_cases (is_free_inode x) (is_file_inode x) r))
      (λ t. d t (sym e ∙ (dir_shape x t).kind)) (or_cases (is_free_inode x || is_file_inode x) (is_directory_inode x) r))
      (λ t. l t (sym e ∙ (link_shape x t).kind)) (or_cases (is_free_inode x || is_file_inode x || is_directory_inode x) (is_link_inode x) fits)

  pub dir_fits : x.kind ≡ 2 → is_directory_inode x ≡ true
  dir_fits e = shaped 2 e (λ z. omega arith) (is_directory_inode x ≡ true) (λ t z. absurd (omega arith)) (λ t z. t) (λ t z. absurd (omega arith))

  pub dir_few : x.kind ≡ 2 → x.blocks ≤ 16
  dir_few e = (dir_shape x (dir_fits e)).few

  pub file_fits : x.kind ≡ 1 → is_file_inode x ≡ true
  file_fits e = shaped 1 e (λ z. omega arith) (is_file_inode x ≡ true) (λ t z. t) (λ t z. absurd (omega arith)) (λ t z. absurd (omega arith))

  pub link_fits : x.kind ≢ 0 → x.kind ≢ 2 → x.kind ≢ 1 → is_link_inode x ≡ true
  link_fits n m k = shaped x.kind refl n (is_link_inode x ≡ true) (λ t z. absurd (k z)) (λ t z. absurd (m z)) (λ t z. t)

  pub link_few : x.kind ≢ 0 → x.kind ≢ 2 → x.kind ≢ 1 → x.size ≤ 384
  link_few n m k = (link_shape x (link_fits n m k)).size.1

-- ---- nodes
module _ (s : Store) (x : Inode) where
  abbrev places : ℕ → Option StoredEntry
  places = place_at s (stored x)

  as_dir : x.kind ≡ 2 → node_agrees s (Some (stored x)) ≡ directory_agrees s (stored x)
  as_dir k = cond-true (x.kind == 2) (directory_agrees s (stored x)) (cond (x.kind == 3) (length (stored x).target == x.size) true) (ap (λ k. k == 2) k)

  pub dir_node : (es : Entries) → x.kind ≡ 2 → entries_agree s places (56 * x.blocks) ≡ true → es ≡ entries_to places (56 * x.blocks) → length es ≡ x.size → IsNode s (stored x) (Some (Dir es x.blocks))
  dir_node es k a e l =
      let m : length (entries_to places (56 * x.blocks)) ≡ x.size = ap length (sym e) ∙ l in (
        as_dir k ∙ and_from (entries_agree s places (56 * x.blocks)) (length (entries_to places (56 * x.blocks)) == x.size) a (eq-eqb (length (entries_to places (56 * x.blocks))) x.size m),
        ap (λ es. Dir es x.blocks) e ∙ sym (read_dir s (stored x) k),
      )

  pub dir_apart : x.kind ≡ 2 → entries_agree s places (56 * x.blocks) ≡ false → node_agrees s (Some (stored x)) ≡ false
  dir_apart k a = as_dir k ∙ and_left (entries_agree s places (56 * x.blocks)) (length (entries_to places (56 * x.blocks)) == x.size) a

  pub dir_other_size : (es : Entries) → x.kind ≡ 2 → es ≡ entries_to places (56 * x.blocks) → length es ≢ x.size → node_agrees s (Some (stored x)) ≡ false
  dir_other_size es k e n = as_dir k ∙ and_right (entries_agree s places (56 * x.blocks)) (length (entries_to places (56 * x.blocks)) == x.size) (ne_eqb (length (entries_to places (56 * x.blocks))) x.size (λ z. n (ap length e ∙ z)))

  pub file_node : (cells : List Cell) → x.kind ≡ 1 → cells ≡ cells_to (byte_at s (stored x)) x.size → IsNode s (stored x) (Some (File cells x.links x.when))
  file_node cells k e = (
    cond-false (x.kind == 2) (directory_agrees s (stored x)) (cond (x.kind == 3) (length (stored x).target == x.size) true) (ap (λ k. k == 2) k) ∙ cond-false (x.kind == 3) (length (stored x).target == x.size) true (ap (λ k. k == 3) k),
    ap (λ c. File c x.links x.when) e ∙ sym (read_file s (stored x) k),
  )

  pub link_node : (target : List ℕ) → is_link_inode x ≡ true → length x.target ≡ 384 → target ≡ take x.size x.target → IsNode s (stored x) (Some (Link target x.links))
  link_node target h l e =
      let f = link_shape x h in
      let k : x.kind ≡ 3 = f.kind in
      let t : (stored x).target ≡ take x.size x.target = cond-true (x.kind == 3) (take x.size x.target) _ (ap (λ k. k == 3) k) in
      let q : x.size ≤ 384 = f.size.1 in
      let a : length (take x.size x.target) ≡ min x.size (length x.target) = length-take x.size x.target in
      let z : length (stored x).target ≡ length (take x.size x.target) = ap length t in
      let m : length (stored x).target ≡ x.size = omega arith in (
        cond-false (x.kind == 2) (directory_agrees s (stored x)) (cond (x.kind == 3) (length (stored x).target == x.size) true) (ap (λ k. k == 2) k) ∙ cond-true (x.kind == 3) (length (stored x).target == x.size) true (ap (λ k. k == 3) k) ∙ eq-eqb (length (stored x).target) x.size m,
        ap (λ t. Link t x.links) (e ∙ sym t) ∙ sym (read_link s (stored x) k),
      )
