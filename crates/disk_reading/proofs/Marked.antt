-- What an inode in use says of its blocks.
use Rattle.std.proofs.Common.{◌≡◌, ℕ, ◌-◌, ◌<◌, Bool, true, false, Option, Some, None, sym, ◌∙◌, ap, nat_lt, slice_index, ◌≤◌, le-ltb, lt-ltb, ⊎_elim, arith}
use Rattle.std.proofs.lemmas.Bool.{cond-true, cond-false, cases_lt, both_ways, false_from_ne_true}
use Rattle.standing_laws.specs.Below.{all_below}
use Rattle.standing_laws.proofs.Bounded.{all_at}
use Rattle.disk_definitions.specs.declared.inode.Inode.{Inode}
use Rattle.disk_definitions.specs.Store.{Store, StoredNode, stored}
use Rattle.standing_laws.specs.Soundness.{block_in, is_used_for, use_agrees, large_in}

pub block_then : (o : Option StoredNode) (x : Inode) (j : ℕ) → o ≡ Some (stored x) → j < x.blocks → Some (slice_index x.small j) ≡ block_in o j
block_then o x j e l = sym (ap (λ o. block_in o j) e ∙ cond-true (nat_lt j x.blocks) (Some (slice_index x.small j)) None (lt-ltb j x.blocks l))

pub block_else : (o : Option StoredNode) (x : Inode) (j : ℕ) → o ≡ Some (stored x) → x.blocks ≤ j → None ≡ block_in o j
block_else o x j e n = sym (ap (λ o. block_in o j) e ∙ cond-false (nat_lt j x.blocks) (Some (slice_index x.small j)) None (le-ltb j x.blocks n))

pub use_then : (s : Store) (o : Option StoredNode) (x : Inode) (j : ℕ) → o ≡ Some (stored x) → j < x.blocks → is_used_for x.kind (s.use_of (slice_index x.small j)) ≡ use_agrees s o j
use_then s o x j e l = sym (ap (λ o. use_agrees s o j) e ∙ cond-true (nat_lt j x.blocks) (is_used_for x.kind (s.use_of (slice_index x.small j))) true (lt-ltb j x.blocks l))

pub use_else : (s : Store) (o : Option StoredNode) (x : Inode) (j : ℕ) → o ≡ Some (stored x) → x.blocks ≤ j → true ≡ use_agrees s o j
use_else s o x j e n = sym (ap (λ o. use_agrees s o j) e ∙ cond-false (nat_lt j x.blocks) (is_used_for x.kind (s.use_of (slice_index x.small j))) true (le-ltb j x.blocks n))

pub large_then : (o : Option StoredNode) (x : Inode) → o ≡ Some (stored x) → 0 < x.large → Some (x.large - 1) ≡ large_in o
large_then o x e l = sym (ap large_in e ∙ cond-true (nat_lt 0 x.large) (Some (x.large - 1)) None (lt-ltb 0 x.large l))

pub large_else : (o : Option StoredNode) (x : Inode) → o ≡ Some (stored x) → x.large ≤ 0 → None ≡ large_in o
large_else o x e n = sym (ap large_in e ∙ cond-false (nat_lt 0 x.large) (Some (x.large - 1)) None (le-ltb 0 x.large n))

-- a large block below the segments
pub large_few : (segments : ℕ) (o : Option StoredNode) (x : Inode) → o ≡ Some (stored x) → segments ≤ 64 → ((g : ℕ) → large_in o ≡ Some g → g < segments) → x.large ≤ 64
large_few segments o x e few h = ⊎_elim
    (λ l. (let w : x.large - 1 < segments = h (x.large - 1) (sym (large_then o x e l)) in omega arith))
    (λ l. omega arith) (cases_lt 0 x.large)

-- one number that fails
pub not_all : (n size : ℕ) (test : ℕ → Bool) → n < size → false ≡ test n → false ≡ all_below size test
not_all n size test l e = sym (false_from_ne_true (all_below size test) (λ t. both_ways (test n) (sym e) (all_at size test t n l)))
