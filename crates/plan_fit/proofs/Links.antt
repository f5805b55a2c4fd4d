-- An inode that isn't a directory's stays fit with another number of links; new nodes are fit.
use Rattle.std.proofs.Common.{◌≡◌, ◌≢◌, ℕ, ◌-◌, ◌^◌, ◌<◌, ◌≤◌, ⊎_elim, Bool, true, false, cond, ◌||◌, ◌==◌, nat_le, nat_lt, if◌then◌else◌, Some, List, [], ◌∷◌, ◌++◌, length, take, drop, refl, sym, subst, ap, ◌∙◌, arith, eqb-true, leb-true}
use Rattle.std.proofs.lemmas.Bool.{or_cases, or_left, or_right}
use Rattle.std.proofs.lemmas.Bool.Decides.{nat_tests}
use Rattle.std.proofs.lemmas.List.{take_at}
use Rattle.std.specs.List.{list_all}
use Rattle.tree_definitions.specs.declared.node.Node.TheVariants.{Dir, File, Link}
use Rattle.tree_definitions.specs.Tree.{small_blocks_of}
use Rattle.disk_definitions.specs.declared.inode.Inode.{Inode}
use Rattle.sector_bytes.specs.Bytes.{zeros, are_zero}
use Rattle.disk_definitions.specs.Inodes.{ends_blocks, inode_fits, is_free_inode, is_file_inode, is_directory_inode, is_link_inode}
use Rattle.frang_base.specs.Name.{is_target_byte}
use Rattle.disk_definitions.proofs.Readings.{and_l, and_r}
use Rattle.disk_definitions.proofs.WrittenFields.{zeros_are_zero}
use Rattle.disk_definitions.specs.Store.{StoredNode}
use Rattle.disk_definitions.specs.Naming.{inode_of, first_blocks}
use Rattle.disk_definitions.specs.Written.{inode_with}
use Rattle.disk_definitions.specs.FitEdits.{IsFitNode}
use Rattle.plan_fit.proofs.InodeEdits.{free_is}
use Rattle.disk_definitions.specs.Allowed.{IsTarget}
use Rattle.plan_fit.proofs.Directories.{untargeted, directory_fits}

file_relinked : (x : Inode) (links : ℕ) → is_file_inode x ≡ true → 1 ≤ links → links ≤ 1000 → is_file_inode (record x { links = links }) ≡ true
file_relinked x links h a b =
    let kind : x.kind == 1 ≡ true = search (and_l, and_r) depth 12 in
    let size : nat_le x.size 1114112 ≡ true = search (and_l, and_r) depth 12 in
    let blocks : x.blocks == small_blocks_of x.size ≡ true = search (and_l, and_r) depth 12 in
    let ends : ends_blocks x ≡ true = search (and_l, and_r) depth 12 in
    let large : (if nat_lt 65536 x.size then nat_lt 0 x.large else x.large == 0) ≡ true = search (and_l, and_r) depth 12 in
    let target : are_zero x.target ≡ true = search (and_l, and_r) depth 12 in
    let some : nat_le 1 links ≡ true = grind (arith, nat_tests) in
    let few : nat_le links 1000 ≡ true = grind (arith, nat_tests) in
    rw (kind, some, few, size, blocks, ends, large, target) refl

link_relinked : (x : Inode) (links : ℕ) → is_link_inode x ≡ true → 1 ≤ links → links ≤ 1000 → is_link_inode (record x { links = links }) ≡ true
link_relinked x links h a b =
    let kind : x.kind == 3 ≡ true = search (and_l, and_r) depth 12 in
    let blocks : x.blocks == 0 ≡ true = search (and_l, and_r) depth 12 in
    let none : are_zero x.small ≡ true = search (and_l, and_r) depth 12 in
    let large : x.large == 0 ≡ true = search (and_l, and_r) depth 12 in
    let when : x.when == 0 ≡ true = search (and_l, and_r) depth 12 in
    let least : nat_le 1 x.size ≡ true = search (and_l, and_r) depth 12 in
    let most : nat_le x.size 384 ≡ true = search (and_l, and_r) depth 12 in
    let bytes : list_all is_target_byte (take x.size x.target) ≡ true = search (and_l, and_r) depth 12 in
    let rest : are_zero (drop x.size x.target) ≡ true = search (and_l, and_r) depth 12 in
    let some : nat_le 1 links ≡ true = grind (arith, nat_tests) in
    let few : nat_le links 1000 ≡ true = grind (arith, nat_tests) in
    rw (kind, some, few, blocks, none, large, when, least, most, bytes, rest) refl

directory_kind : (x : Inode) → is_directory_inode x ≡ true → x.kind ≡ 2
directory_kind x h = let kind : x.kind == 2 ≡ true = search (and_l, and_r) depth 12 in eqb-true x.kind 2 kind

is_file_fits : (x : Inode) → is_file_inode x ≡ true → inode_fits x ≡ true
is_file_fits x h = or_left (is_free_inode x || is_file_inode x || is_directory_inode x) (is_link_inode x) (or_left (is_free_inode x || is_file_inode x) (is_directory_inode x) (or_right (is_free_inode x) (is_file_inode x) h))

is_link_fits : (x : Inode) → is_link_inode x ≡ true → inode_fits x ≡ true
is_link_fits x h = or_right (is_free_inode x || is_file_inode x || is_directory_inode x) (is_link_inode x) h

relinked : (x : Inode) (links : ℕ) → inode_fits x ≡ true → 1 ≤ x.kind → x.kind ≢ 2 → 1 ≤ links → links ≤ 1000 → inode_fits (record x { links = links }) ≡ true
relinked x links h used plain a b = ⊎_elim
    (λ r. ⊎_elim
    (λ r. ⊎_elim (λ e. absurd (let z : x.kind ≡ 0 = free_is x e in omega arith)) (λ e. is_file_fits (record x { links = links }) (file_relinked x links e a b)) (or_cases (is_free_inode x) (is_file_inode x) r))
    (λ e. absurd (plain (directory_kind x e))) (or_cases (is_free_inode x || is_file_inode x) (is_directory_inode x) r))
    (λ e. is_link_fits (record x { links = links }) (link_relinked x links e a b)) (or_cases (is_free_inode x || is_file_inode x || is_directory_inode x) (is_link_inode x) h)

file_links : (x : Inode) → is_file_inode x ≡ true → x.links ≤ 1000
file_links x h = let links : nat_le x.links 1000 ≡ true = search (and_l, and_r) depth 12 in leb-true x.links 1000 links

link_links : (x : Inode) → is_link_inode x ≡ true → x.links ≤ 1000
link_links x h = let links : nat_le x.links 1000 ≡ true = search (and_l, and_r) depth 12 in leb-true x.links 1000 links

few_links : (x : Inode) → inode_fits x ≡ true → 1 ≤ x.kind → x.kind ≢ 2 → x.links ≤ 1000
few_links x h used plain = ⊎_elim
    (λ r. ⊎_elim
    (λ r. ⊎_elim (λ e. absurd (let z : x.kind ≡ 0 = free_is x e in omega arith)) (λ e. file_links x e) (or_cases (is_free_inode x) (is_file_inode x) r))
    (λ e. absurd (plain (directory_kind x e))) (or_cases (is_free_inode x || is_file_inode x) (is_directory_inode x) r))
    (λ e. link_links x e) (or_cases (is_free_inode x || is_file_inode x || is_directory_inode x) (is_link_inode x) h)

pub links_most : (x : StoredNode) → IsFitNode x → x.kind ≢ 2 → x.links ≤ 1000
links_most x h plain = few_links (inode_with 0 (Some x)) h.fits h.used plain

pub relinked_fits : (x : StoredNode) (links : ℕ) → IsFitNode x → x.kind ≢ 2 → 1 ≤ links → links ≤ 1000 → IsFitNode (record x { links = links })
relinked_fits x links h plain a b = record {
  fits = relinked (inode_with 0 (Some x)) links h.fits h.used plain a b;
  used = h.used;
  birth = h.birth;
  small = h.small;
  past = h.past;
  large = h.large;
  when = h.when;
  target = h.target;
}

-- ---- new nodes

no_blocks : (j : ℕ) → first_blocks 0 (λ j. 0) j ≡ 0
no_blocks j = go (nat_lt j 0)
  where
    go : (b : Bool) → cond {A = ℕ} b 0 0 ≡ 0
    go true = refl
    go false = refl

few_blocks : (j : ℕ) → first_blocks 0 (λ j. 0) j < 2 ^ 32
few_blocks j = subst (λ k. k < 2 ^ 32) (sym (no_blocks j)) (omega arith)

pub new_file : (birth : ℕ) → birth < 2 ^ 64 → IsFitNode (inode_of birth (λ j. 0) 0 (File [] 1 0))
new_file birth old = record { fits = rw untargeted refl; used = omega arith; birth = old; small = few_blocks; past = λ j l. no_blocks j; large = omega arith; when = omega arith; target = refl }

pub new_directory : (birth : ℕ) → birth < 2 ^ 64 → IsFitNode (inode_of birth (λ j. 0) 0 (Dir [] 0))
new_directory birth old = directory_fits 0 birth 0 (first_blocks 0 (λ j. 0)) old few_blocks (omega arith) (omega arith) (λ j l. no_blocks j)

drop_past : (xs ys : List ℕ) → drop (length xs) (xs ++ ys) ≡ ys
drop_past [] ys = refl
drop_past (x ∷ xs) ys = drop_past xs ys

pub new_link : (birth : ℕ) (target : List ℕ) → birth < 2 ^ 64 → IsTarget target → IsFitNode (inode_of birth (λ j. 0) 0 (Link target 1))
new_link birth target old h =
    let least : nat_le 1 (length target) ≡ true = let l = h.some in grind (arith, nat_tests) in
    let most : nat_le (length target) 384 ≡ true = let l = h.few in grind (arith, nat_tests) in
    let rest = zeros (384 - length target) in
    let bytes : list_all is_target_byte (take (length target) (target ++ rest)) ≡ true = ap (list_all is_target_byte) (take_at target rest (length target) refl) ∙ h.bytes in
    let past : are_zero (drop (length target) (target ++ rest)) ≡ true = ap are_zero (drop_past target rest) ∙ zeros_are_zero (384 - length target) in
    record { fits = rw (least, most, bytes, past) refl; used = omega arith; birth = old; small = few_blocks; past = λ j l. no_blocks j; large = omega arith; when = omega arith; target = refl }
