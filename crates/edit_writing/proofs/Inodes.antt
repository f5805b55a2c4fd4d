-- An inode whose fields are those of another, with its own version and target.
use Rattle.std.proofs.Common.{◌≡◌, ℕ, List, Some, length, map, slice_index, sym, ap, ◌∙◌}
use Rattle.tree_definitions.specs.Numbers.{below}
use Rattle.disk_definitions.specs.declared.inode.Inode.{Inode}
use Rattle.disk_definitions.proofs.Lists.{all_numbers}
use Rattle.disk_definitions.specs.Store.{stored}
use Rattle.disk_definitions.specs.Written.{inode_with, padded}

pub same_inode : (version : ℕ) (x : Inode) (target : List ℕ) → length x.small ≡ 16 → target ≡ padded 384 ((stored x).target)
    → ◌≡◌ {A = Inode} (record { version = version; kind = x.kind; links = x.links; blocks = x.blocks; size = x.size; birth = x.birth; small = x.small; large = x.large; when = x.when; target = target }) (inode_with version (Some (stored x)))
same_inode version x target e h =
    ap (λ (s : List ℕ). record { version = version; kind = x.kind; links = x.links; blocks = x.blocks; size = x.size; birth = x.birth; small = s; large = x.large; when = x.when; target = target }) (sym (all_numbers x.small 16 e))
    ∙ ap (λ (t : List ℕ). record { version = version; kind = x.kind; links = x.links; blocks = x.blocks; size = x.size; birth = x.birth; small = map (slice_index x.small) (below 16); large = x.large; when = x.when; target = t }) h
