-- What a walk through links looked at, and what is left of it.
use Rattle.std.specs.Prelude.{◌≡◌, ℕ, Option, List, [], ◌++◌}
use Rattle.dir_lookup.specs.Looked.{Adds}
use Rattle.namei.specs.declared.onward.Next.{Next}
use Rattle.namei.specs.declared.onward.Next.TheVariants as next
use Rattle.namei.specs.declared.targets.Way.{Way}
use Rattle.namei.specs.declared.targets.Way.TheVariants as way

-- between two states some sectors of these were looked at, and the others are left
abbrev pub LooksOn : Option (List ℕ) → Option (List ℕ) → List ℕ → List ℕ → Type 0
LooksOn old new sectors others = (seen : List ℕ) × Adds old new seen × (sectors ≡ seen ++ others)

-- what is looked at behind a name: by what is looked at where a link is followed, and where a directory is gone into
abbrev pub next_looks : Next → (ℕ → List ℕ) → (ℕ → List ℕ) → List ℕ
next_looks (next.Need sector) follow into = []
next_looks (next.Lost r) follow into = []
next_looks (next.Ends kind) follow into = []
next_looks (next.Into inode) follow into = into inode
next_looks (next.Follows link) follow into = follow link
next_looks (next.Stays r) follow into = []

-- and behind a link: by what is looked at from the root on, and from the directory that holds it
abbrev pub way_looks : Way → (List (List ℕ) → List ℕ) → (List (List ℕ) → List ℕ) → List ℕ
way_looks (way.Need sector) root here = []
way_looks way.Nowhere root here = []
way_looks (way.FromRoot names) root here = root names
way_looks (way.FromHere names) root here = here names
