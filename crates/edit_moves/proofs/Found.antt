-- Of a thing of which no edit says anything, the edits move nothing.
use Rattle.std.proofs.Common.{◌≡◌, ◌==◌, ℕ, Bool, true, false, if◌then◌else◌, Option, Some, None, List, [], ◌∷◌, refl, ap, ◌∙◌}
use Rattle.std.specs.List.{list_any}
use Rattle.std.specs.Option.{option_or}
use Rattle.std.proofs.lemmas.Bool.{or_parts}
use Rattle.disk_definitions.specs.Edits.{Edit}
use Rattle.disk_definitions.specs.Edits.Edit.{SetInode, SetBit, SetUse, SetPlace, SetLarge, SetBytes, SetLargeBytes}
use Rattle.disk_definitions.specs.Moves.{first_said, bit_said, use_said, large_said, taker_said, large_taker_said, inode_move, small_move, large_move}
use Rattle.edit_moves.specs.declared.thing.Thing.{Thing}
use Rattle.edit_moves.specs.declared.thing.Thing.TheVariants as thing
use Rattle.edit_moves.specs.Moves.{is_same, lock_by, thing_said}

-- the edit takes or frees this thing
abbrev pub is_said : Thing → Option Thing → Bool
is_said moved None = false
is_said moved (Some other) = is_same moved other

abbrev pub says : Thing → Edit → Bool
says moved edit = is_said moved (thing_said edit)

by_test : {X : Type 0} (b : Bool) (x : X) → b ≡ false → (if b then Some x else None) ≡ None
by_test true x e = absurd (cc)
by_test false x e = refl

bit_quiet : (i : ℕ) (edit : Edit) → says (thing.Inode i) edit ≡ false → bit_said i edit ≡ None
bit_quiet i (SetInode j x d) e = refl
bit_quiet i (SetBit j b) e = by_test (i == j) b e
bit_quiet i (SetUse k u) e = refl
bit_quiet i (SetPlace k p x) e = refl
bit_quiet i (SetLarge g b) e = refl
bit_quiet i (SetBytes k p x) e = refl
bit_quiet i (SetLargeBytes g p x) e = refl

use_quiet : (k : ℕ) (edit : Edit) → says (thing.Small k) edit ≡ false → use_said k edit ≡ None
use_quiet k (SetInode j x d) e = refl
use_quiet k (SetBit j b) e = refl
use_quiet k (SetUse j u) e = by_test (k == j) u e
use_quiet k (SetPlace j p x) e = refl
use_quiet k (SetLarge g b) e = refl
use_quiet k (SetBytes j p x) e = refl
use_quiet k (SetLargeBytes g p x) e = refl

large_quiet : (g : ℕ) (edit : Edit) → says (thing.Large g) edit ≡ false → large_said g edit ≡ None
large_quiet g (SetInode j x d) e = refl
large_quiet g (SetBit j b) e = refl
large_quiet g (SetUse j u) e = refl
large_quiet g (SetPlace j p x) e = refl
large_quiet g (SetLarge j b) e = by_test (g == j) b e
large_quiet g (SetBytes j p x) e = refl
large_quiet g (SetLargeBytes j p x) e = refl

first_quiet : {X : Type 0} (said : Edit → Option X) (test : Edit → Bool) → ((edit : Edit) → test edit ≡ false → said edit ≡ None) → (edits : List Edit) → list_any test edits ≡ false → first_said said edits ≡ None
first_quiet said test quiet [] e = refl
first_quiet said test quiet (edit ∷ edits) e =
    ap (λ o. option_or o (first_said said edits)) (quiet edit (or_parts (test edit) (list_any test edits) e).0)
    ∙ first_quiet said test quiet edits (or_parts (test edit) (list_any test edits) e).1

pub unmoved : (edits : List Edit) (moved : Thing) → list_any (says moved) edits ≡ false → lock_by edits moved ≡ None
unmoved edits (thing.Inode i) e = ap (inode_move i) (first_quiet (bit_said i) (says (thing.Inode i)) (bit_quiet i) edits e)
unmoved edits (thing.Small k) e = ap (small_move k (first_said (taker_said k) edits)) (first_quiet (use_said k) (says (thing.Small k)) (use_quiet k) edits e)
unmoved edits (thing.Large g) e = ap (large_move g (first_said (large_taker_said g) edits)) (first_quiet (large_said g) (says (thing.Large g)) (large_quiet g) edits e)
