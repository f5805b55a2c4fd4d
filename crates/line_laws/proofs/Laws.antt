-- The laws of what lines move, by those of plans: a refusal moves and writes nothing.
use Rattle.std.proofs.Common.{◌≡◌, ⊎_elim, Some, []}
use Rattle.std.proofs.lemmas.List.Elements.{Contains-append_right}
use Rattle.frang_base.specs.declared.lock.LockId.{LockId}
use Rattle.tree_definitions.specs.Tree.{node_at}
use Rattle.disk_definitions.specs.Ask.{Sector, InodeAt, DirectoryAt, SegmentAt, BytesAt, LargeAt}
use Rattle.disk_definitions.specs.Plans.{shared_nodes}
use Rattle.plan_laws.proofs.Covering.{not_in_none}
use Rattle.disk_definitions.specs.Moves.{moved_by}
use Rattle.plan_laws.specs.Plans.{MovesTidily, LeadsCovers, OwnsMoves, KeepsDirectories, OwnsBytes}
use Rattle.plan_laws.proofs.Laws.{plans_move, covers_follow, moves_are_owned, directories_stay, bytes_are_owned}
use Rattle.plan_laws.proofs.Moving.{covers_move}
use Rattle.plan_laws.proofs.Sound.{none_sound}
use Rattle.line_laws.specs.Moves.{LinesMove, CoversFollowLines, LineMovesAreOwned, LineDirectoriesStay, LineBytesAreOwned}
use Rattle.line_laws.proofs.Lifting.{lifted}

-- no edits move nothing
none_moves : {P : Type 0} (x : Sector) (l : LockId) → moved_by [] x ≡ Some l → P
none_moves (InodeAt i) l e = absurd (cc)
none_moves (SegmentAt k) l e = absurd (cc)
none_moves (DirectoryAt k part) l e = absurd (cc)
none_moves (BytesAt k part) l e = absurd (cc)
none_moves (LargeAt k part) l e = absurd (cc)

pub lines_move : LinesMove
lines_move = lifted MovesTidily (λ s n trail f tidy. tidy) (λ s tree n r trail of. (none_sound s).tidy) plans_move

pub covers_follow_lines : CoversFollowLines
covers_follow_lines =
    lifted LeadsCovers (λ s n trail f leads. leads)
    (λ s tree n r trail of to m after. covers_move s s (node_at tree) (node_at to) n m [] of.pictures after.pictures (none_sound s).tidy) covers_follow

pub line_moves_are_owned : LineMovesAreOwned
line_moves_are_owned =
    lifted OwnsMoves
    (λ s n trail f owned x l e. let r = owned x l e in (Contains-append_right (shared_nodes trail) f.locks _ r.0, Contains-append_right (shared_nodes trail) f.locks _ r.1))
    (λ s tree n r trail of x l e. none_moves x l e) moves_are_owned

pub line_directories_stay : LineDirectoriesStay
line_directories_stay = lifted KeepsDirectories (λ s n trail f stay. stay) (λ s tree n r trail of k d. d) directories_stay

pub line_bytes_are_owned : LineBytesAreOwned
line_bytes_are_owned =
    lifted OwnsBytes
    (λ s n trail f owned a fills. let r = owned a fills in (r.0, r.1, Contains-append_right (shared_nodes trail) f.locks _ r.2))
    (λ s tree n r trail of a fills. ⊎_elim (λ w. absurd (not_in_none (a, w.0) w.1)) (λ c. absurd (not_in_none a c)) fills) bytes_are_owned
