-- The path without links to which a walk through links leads: each name of it but the last is a directory's.
use Rattle.std.specs.Prelude.{◌≡◌, ℕ, Bool, Option, Some, None, List}
use Rattle.frang_base.specs.declared.reply.Reply.{Reply}
use Rattle.frang_base.specs.declared.reply.Reply.TheVariants as reply
use Rattle.tree_definitions.specs.Place.{Place, Root, Taken, Free, place}
use Rattle.tree_definitions.specs.Resolve.{WalkEnd, At, Refused, resolve}
use Rattle.tree_definitions.specs.Tree.{FileTree}

-- the place of a path that leads to this node, or to a name that its directory hasn't
abbrev pub IsPlaceOf : Option ℕ → Place → Type 0
IsPlaceOf (Some birth) Root = birth ≡ 0
IsPlaceOf (Some birth) (Taken dir entries blocks name known) = birth ≡ known
IsPlaceOf None (Free dir entries blocks name) = Unit {0}
IsPlaceOf found place = ⊥

-- how a walk through links may be refused
abbrev pub IsRefusal : Reply → Type 0
IsRefusal reply.NoEnt = Unit {0}
IsRefusal reply.NotDir = Unit {0}
IsRefusal reply.Loop = Unit {0}
IsRefusal _ = ⊥

-- a walk leads to a path whose walk, without links, ends at what was found, or it is refused in one of three ways
abbrev pub EndsAtAPlace : FileTree → WalkEnd → Type 0
EndsAtAPlace tree (At path found) = IsPlaceOf found (place tree path)
EndsAtAPlace tree (Refused reply) = IsRefusal reply

-- so does each, in every tree
abbrev pub ResolvedPathsArePlaces : Type 0
ResolvedPathsArePlaces = (tree : FileTree) (last : Bool) (path : List (List ℕ)) → EndsAtAPlace tree (resolve tree last path).end
