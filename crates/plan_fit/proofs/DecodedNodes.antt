-- An inode in use that is read from a sector may stand there again.
use Rattle.std.proofs.Common.{◌≡◌, ℕ, zero, suc, ◌-◌, ◌≤◌, ⊎_elim, Bool, true, false, ◌||◌, ◌==◌, nat_le, nat_eq, cond, Option, Some, None, List, [], ◌∷◌, ◌++◌, length, take, drop, slice_index, refl, sym, ap, ◌∙◌, subst, arith, eqb-true, leb-true, length-drop}
use Rattle.std.proofs.lemmas.Bool.{and_parts, or_cases, both_ways}
use Rattle.std.proofs.lemmas.List.{take-append-drop, length-take-le}
use Rattle.disk_definitions.specs.declared.inode.Inode.{Inode}
use Rattle.sector_bytes.specs.Bytes.{zeros, are_zero}
use Rattle.disk_definitions.specs.Inodes.{inode_in, inode_fits, is_free_inode, is_file_inode, is_directory_inode, is_link_inode}
use Rattle.disk_definitions.proofs.InodeLaws.{same_fields, inode_read}
use Rattle.disk_definitions.proofs.Readings.{and_l, and_r}
use Rattle.disk_definitions.proofs.Lists.{all_numbers}
use Rattle.disk_definitions.specs.Store.{StoredNode, stored_node, stored}
use Rattle.disk_definitions.specs.Written.{padded, inode_with}
use Rattle.disk_definitions.specs.FitEdits.{IsFitNode}
use Rattle.plan_fit.proofs.Decoded.{IsDecoded, decoded}

-- ---- small blocks and targets

small_past : (xs : List ℕ) (j : ℕ) → length xs ≤ j → slice_index xs j ≡ 0
small_past [] j l = refl
small_past (x ∷ xs) zero l = absurd (omega arith)
small_past (x ∷ xs) (suc j) l = small_past xs j (omega arith)

zeros_are : (xs : List ℕ) → are_zero xs ≡ true → zeros (length xs) ≡ xs
unfolding zeros
zeros_are [] z = refl
zeros_are (x ∷ xs) z = let both = and_parts (nat_eq x 0) (are_zero xs) z in ap (λ (l : List ℕ). 0 ∷ l) (zeros_are xs both.1) ∙ ap (λ (y : ℕ). y ∷ xs) (sym (eqb-true x 0 both.0))

pad_again : (n m : ℕ) (xs : List ℕ) → length xs ≡ n → m ≤ n → are_zero (drop m xs) ≡ true → padded n (take m xs) ≡ xs
pad_again n m xs l le z =
    let front : length (take m xs) ≡ m = length-take-le m xs (omega arith) in
    let rest : n - length (take m xs) ≡ length (drop m xs) = ap (λ k. n - k) front ∙ sym (length-drop m xs ∙ ap (λ k. k - m) l) in
    ap (λ k. take m xs ++ zeros k) rest ∙ ap (λ ys. take m xs ++ ys) (zeros_are (drop m xs) z) ∙ take-append-drop m xs

-- what an inode says of a target
record HasTarget (x : Inode) : Type 0 where
  some : 1 ≤ x.kind
  again : padded 384 (cond (x.kind == 3) (take x.size x.target) []) ≡ x.target
  size : length (cond (x.kind == 3) (take x.size x.target) []) ≡ cond (x.kind == 3) x.size 0

none_there : (x : Inode) → length x.target ≡ 384 → 1 ≤ x.kind → x.kind == 3 ≡ false → are_zero x.target ≡ true → HasTarget x
none_there x l some e z = record {
  some = some;
  again = ap (λ b. padded 384 (cond b (take x.size x.target) [])) e ∙ pad_again 384 0 x.target l (omega arith) z;
  size = rw e refl;
}

file_target : (x : Inode) → length x.target ≡ 384 → is_file_inode x ≡ true → HasTarget x
file_target x l h =
    let kind : x.kind == 1 ≡ true = search (and_l, and_r) depth 12 in
    let target : are_zero x.target ≡ true = search (and_l, and_r) depth 12 in
    let k : x.kind ≡ 1 = eqb-true x.kind 1 kind in
    none_there x l (omega arith) (ap (λ n. n == 3) k) target

directory_target : (x : Inode) → length x.target ≡ 384 → is_directory_inode x ≡ true → HasTarget x
directory_target x l h =
    let kind : x.kind == 2 ≡ true = search (and_l, and_r) depth 12 in
    let target : are_zero x.target ≡ true = search (and_l, and_r) depth 12 in
    let k : x.kind ≡ 2 = eqb-true x.kind 2 kind in
    none_there x l (omega arith) (ap (λ n. n == 3) k) target

link_target : (x : Inode) → length x.target ≡ 384 → is_link_inode x ≡ true → HasTarget x
link_target x l h =
    let kind : x.kind == 3 ≡ true = search (and_l, and_r) depth 12 in
    let few : nat_le x.size 384 ≡ true = search (and_l, and_r) depth 12 in
    let rest : are_zero (drop x.size x.target) ≡ true = search (and_l, and_r) depth 12 in
    let k : x.kind ≡ 3 = eqb-true x.kind 3 kind in
    let s : x.size ≤ 384 = leb-true x.size 384 few in
    record {
      some = omega arith;
      again = ap (λ b. padded 384 (cond b (take x.size x.target) [])) kind ∙ pad_again 384 x.size x.target l s rest;
      size = rw kind (length-take-le x.size x.target (omega arith));
    }

has_target : (x : Inode) → length x.target ≡ 384 → inode_fits x ≡ true → is_free_inode x ≡ false → HasTarget x
has_target x l h free = ⊎_elim
    (λ r. ⊎_elim
    (λ r. ⊎_elim (λ e. absurd (both_ways (is_free_inode x) free e)) (λ e. file_target x l e) (or_cases (is_free_inode x) (is_file_inode x) r))
    (λ e. directory_target x l e) (or_cases (is_free_inode x || is_file_inode x) (is_directory_inode x) r))
    (λ e. link_target x l e) (or_cases (is_free_inode x || is_file_inode x || is_directory_inode x) (is_link_inode x) h)

-- ---- the whole inode

fit_again : (x : Inode) → IsDecoded x → inode_fits x ≡ true → is_free_inode x ≡ false → IsFitNode (stored x)
fit_again x d h free =
    let t = has_target x d.target_len h free in
    let same : inode_with x.version (Some (stored x)) ≡ x = same_fields (inode_with x.version (Some (stored x))) x refl refl refl refl refl refl (all_numbers x.small 16 d.small_len) refl refl t.again in
    record {
      fits = ap inode_fits same ∙ h;
      used = t.some;
      birth = d.birth;
      small = d.small;
      past = λ j l. small_past x.small j (omega (arith, d.small_len));
      large = d.large;
      when = d.when;
      target = t.size;
    }

pub stored_fit : (block : List ℕ) (y : StoredNode) → length block ≡ 512 → stored_node (inode_in block) ≡ Some y → IsFitNode y
stored_fit block y whole h = go (inode_in block) refl h
  where
    used : (x : Inode) → inode_in block ≡ Some x → (b : Bool) → is_free_inode x ≡ b → cond b None (Some (stored x)) ≡ Some y → IsFitNode y
    used x e true f h = absurd (cc)
    used x e false f h = let s : stored x ≡ y = cc in subst IsFitNode s (fit_again x (decoded block x e whole) (inode_read block x e).1 f)

    go : (o : Option Inode) → inode_in block ≡ o → stored_node o ≡ Some y → IsFitNode y
    go None e h = absurd (cc)
    go (Some x) e h = used x e (is_free_inode x) refl h
