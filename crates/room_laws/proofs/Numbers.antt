-- An answer tells no other number of directories' blocks than the one that the operation was performed with.
use Rattle.std.proofs.Common.{ℕ, ◌≡◌, ◌==◌, Bool, true, false, not, Option, Some, None, List, [], ◌∷◌, length, map, replicate, take, drop, nat_lt, cond, refl, sym, ap, subst}
use Rattle.std.proofs.lemmas.Bool.{eq-eqb, eqb-true}
use Rattle.frang_base.specs.declared.op.Op.{Op}
use Rattle.frang_base.specs.declared.op.Op.TheVariants as op
use Rattle.frang_base.specs.declared.reply.Reply.{Reply}
use Rattle.frang_base.specs.declared.reply.Reply.TheVariants as reply
use Rattle.tree_definitions.specs.declared.cells.Cell.{Cell}
use Rattle.tree_definitions.specs.declared.cells.Cell.TheVariants.{Byte}
use Rattle.tree_definitions.specs.declared.node.Node.{Node}
use Rattle.tree_definitions.specs.declared.node.Node.TheVariants.{Dir, File, Link}
use Rattle.tree_definitions.specs.Entries.{Entries}
use Rattle.tree_definitions.specs.Tree.{FileTree, node_at}
use Rattle.tree_definitions.specs.Place.{Place, Root, Taken, Free, Nowhere, place}
use Rattle.tree_definitions.specs.Apply.{Answer, Plain, Shows, Applied, says, is_dir, made, linked_to, linked, unlinked, dir_removed, moved_onto, moved_to, renamed_to, renamed_from, renamed, at_node, if_file, at_file, written, truncated, shown, described, listed, target_of, time_of, overwritten, apply}
use Rattle.tree_definitions.specs.Perform.{Step, Goes, Stops, perform, perform_step, resolved}
use Rattle.tree_laws.proofs.Looking.{is_walk_reply, refused_well, well_refused}
use Rattle.disk_definitions.specs.Meets.{Answers}
use Rattle.room_laws.specs.Room.{AnswersTellTheirNumber}
use Rattle.room_laws.proofs.Walking.{none_stops, stops_wanted}

module _ (m : ℕ) where
  -- a reply that tells another number
  abbrev tells_other : Reply → Bool
  tells_other (reply.NoBlock told) = not (told == m)
  tells_other _ = false

  abbrev says_other : Answer → Bool
  says_other (Plain r) = tells_other r
  says_other (Shows cells) = false

  record Right (a : Applied) : Type 0 where
    answer : says_other a.answer ≡ false

  either : (b : Bool) (x y : Applied) → Right x → Right y → Right (cond b x y)
  either true x y f g = f
  either false x y f g = g

  said : (t : FileTree) (r : Reply) → tells_other r ≡ false → Right (says t r)
  said t r none = record { answer = none }

  walk_right : (r : Reply) → is_walk_reply r ≡ true → tells_other r ≡ false
  walk_right reply.NoEnt is = refl
  walk_right reply.NotDir is = refl
  walk_right _ is = absurd (cc)

  own_number : tells_other (reply.NoBlock m) ≡ false
  own_number = ap not (eq-eqb m m refl)

  said_number : (t : FileTree) → Right (says t (reply.NoBlock m))
  said_number t = record { answer = own_number }

  module _ (t : FileTree) where
    made_right : (b : ℕ) (x : Node) (p : Place) → refused_well p ≡ true → Right (made t b x p)
    made_right b x Root well = said t reply.Exist refl
    made_right b x (Nowhere r) well = said t r (walk_right r well)
    made_right b x (Taken d es n name c) well = said t reply.Exist refl
    made_right b x (Free d es n name) well = search (either, said)

    linked_to_right : (b : ℕ) (p : Place) → refused_well p ≡ true → Right (linked_to t b p)
    linked_to_right b Root well = said t reply.Exist refl
    linked_to_right b (Nowhere r) well = said t r (walk_right r well)
    linked_to_right b (Taken d es n name c) well = said t reply.Exist refl
    linked_to_right b (Free d es n name) well = search (either, said)

    linked_right : (p to : Place) → refused_well p ≡ true → refused_well to ≡ true → Right (linked t p to)
    linked_right Root to well also = said t reply.IsDir refl
    linked_right (Nowhere r) to well also = said t r (walk_right r well)
    linked_right (Free d es n name) to well also = said t reply.NoEnt refl
    linked_right (Taken d es n name b) to well also = either (is_dir (node_at t b)) (says t reply.IsDir) (linked_to t b to) (said t reply.IsDir refl) (linked_to_right b to also)

    unlinked_right : (p : Place) → refused_well p ≡ true → Right (unlinked t p)
    unlinked_right Root well = said t reply.IsDir refl
    unlinked_right (Nowhere r) well = said t r (walk_right r well)
    unlinked_right (Free d es n name) well = said t reply.NoEnt refl
    unlinked_right (Taken d es n name b) well = search (either, said)

    removed_right : (p : Place) → refused_well p ≡ true → Right (dir_removed t p)
    removed_right Root well = said t reply.Inval refl
    removed_right (Nowhere r) well = said t r (walk_right r well)
    removed_right (Free d es n name) well = said t reply.NoEnt refl
    removed_right (Taken d es n name b) well = search (either, said)

    onto_right : (from : ℕ) (name : List ℕ) (b to : ℕ) (new : List ℕ) (old : ℕ) → Right (moved_onto t from name b to new old)
    onto_right from name b to new old = search (either, said)

    to_right : (from : ℕ) (name : List ℕ) (b to : ℕ) (es : Entries) (n : ℕ) (new : List ℕ) → Right (moved_to t from name b to es n new)
    to_right from name b to es n new = search (either, said)

    renamed_to_right : (from : ℕ) (name : List ℕ) (b : ℕ) (path : List (List ℕ)) (p : Place) → refused_well p ≡ true → Right (renamed_to t from name b path p)
    renamed_to_right from name b path Root well = said t reply.Inval refl
    renamed_to_right from name b path (Nowhere r) well = said t r (walk_right r well)
    renamed_to_right from name b path (Taken to es n new old) well = search (either, said, onto_right)
    renamed_to_right from name b path (Free to es n new) well = search (either, said, to_right)

    renamed_from_right : (p : Place) (to : List (List ℕ)) → refused_well p ≡ true → Right (renamed_from t p to)
    renamed_from_right Root to well = said t reply.Inval refl
    renamed_from_right (Nowhere r) to well = said t r (walk_right r well)
    renamed_from_right (Free d es n name) to well = said t reply.NoEnt refl
    renamed_from_right (Taken d es n name b) to well = renamed_to_right d name b to (place t to) (well_refused t 0 to)

    renamed_right : (path to : List (List ℕ)) → Right (renamed t path to)
    renamed_right [] to = said t reply.Inval refl
    renamed_right (n ∷ ns) [] = said t reply.Inval refl
    renamed_right (n ∷ ns) (k ∷ ks) = renamed_from_right (place t (n ∷ ns)) (k ∷ ks) (well_refused t 0 (n ∷ ns))

    node_right : (next : ℕ → Option Node → Applied) → ((b : ℕ) (o : Option Node) → Right (next b o)) → (p : Place) → refused_well p ≡ true → Right (at_node t p next)
    node_right next each Root well = each 0 (node_at t 0)
    node_right next each (Taken d es n name b) well = each b (node_at t b)
    node_right next each (Free d es n name) well = said t reply.NoEnt refl
    node_right next each (Nowhere r) well = said t r (walk_right r well)

    file_right : (next : ℕ → List Cell → ℕ → ℕ → Applied) → ((b : ℕ) (cells : List Cell) (links when : ℕ) → Right (next b cells links when)) → (b : ℕ) (o : Option Node) →
        Right (if_file t next b o)
    file_right next each b (Some (File cells links when)) = each b cells links when
    file_right next each b (Some (Dir es n)) = said t reply.IsDir refl
    file_right next each b (Some (Link target links)) = said t reply.Inval refl
    file_right next each b None = said t reply.NoEnt refl

    at_file_right : (next : ℕ → List Cell → ℕ → ℕ → Applied) → ((b : ℕ) (cells : List Cell) (links when : ℕ) → Right (next b cells links when)) → (path : List (List ℕ)) →
        Right (at_file t (place t path) next)
    at_file_right next each path = node_right (λ b o. if_file t next b o) (λ b o. file_right next each b o) (place t path) (well_refused t 0 path)

    written_right : (b : ℕ) (cells : List Cell) (links when off len : ℕ) (put : List Cell → List Cell) → Right (written t m b cells links when off len put)
    written_right b cells links when off len put = search (either, said, said_number)

    truncated_right : (b : ℕ) (cells : List Cell) (links when len : ℕ) → Right (truncated t b cells links when len)
    truncated_right b cells links when len = search (either, said)

    shown_right : (cells : List Cell) (off len : ℕ) → Right (shown t cells off len)
    shown_right cells off len =
        either (nat_lt (length cells) off) (says t reply.BadOffset) (record { answer = Shows (take len (drop off cells)); tree = t }) (said t reply.BadOffset refl) (record { answer = refl })

    described_right : (o : Option Node) → Right (described t o)
    described_right (Some (File cells links when)) = said t (reply.File (length cells) links) refl
    described_right (Some (Dir es n)) = said t (reply.Dir (length es)) refl
    described_right (Some (Link target links)) = said t (reply.Symlink (length target)) refl
    described_right None = said t reply.NoEnt refl

    listed_right : (o : Option Node) → Right (listed t o)
    listed_right (Some (Dir es n)) = said t (reply.Names (map (λ e. e.0) es)) refl
    listed_right (Some (File cells links when)) = said t reply.NotDir refl
    listed_right (Some (Link target links)) = said t reply.NotDir refl
    listed_right None = said t reply.NoEnt refl

    target_right : (o : Option Node) → Right (target_of t o)
    target_right (Some (Link target links)) = said t (reply.Target target) refl
    target_right (Some (Dir es n)) = said t reply.Inval refl
    target_right (Some (File cells links when)) = said t reply.Inval refl
    target_right None = said t reply.NoEnt refl

    apply_right : (o : Op) (n when : ℕ) → Right (apply t o n when m)
    apply_right (op.Create path) n when = made_right n (File [] 1 0) (place t path) (well_refused t 0 path)
    apply_right (op.Mkdir path) n when = made_right n (Dir [] 0) (place t path) (well_refused t 0 path)
    apply_right (op.Symlink path target) n when = made_right n (Link target 1) (place t path) (well_refused t 0 path)
    apply_right (op.Link path to) n when = linked_right (place t path) (place t to) (well_refused t 0 path) (well_refused t 0 to)
    apply_right (op.Unlink path) n when = unlinked_right (place t path) (well_refused t 0 path)
    apply_right (op.Rmdir path) n when = removed_right (place t path) (well_refused t 0 path)
    apply_right (op.Rename path to) n when = renamed_right path to
    apply_right (op.Write path off bytes) n when =
        at_file_right _ (λ b cells links old. written_right b cells links when off (length bytes) (λ all. overwritten all off (map Byte bytes))) path
    apply_right (op.Fill path off len byte) n when =
        at_file_right _ (λ b cells links old. written_right b cells links when off len (λ all. overwritten all off (replicate len (Byte byte)))) path
    apply_right (op.Truncate path len) n when = at_file_right _ (λ b cells links old. truncated_right b cells links when len) path
    apply_right (op.Read path off len) n when = at_file_right _ (λ b cells links at. shown_right cells off len) path
    apply_right (op.Stat path) n when = node_right _ (λ b o. described_right o) (place t path) (well_refused t 0 path)
    apply_right (op.List path) n when = node_right _ (λ b o. listed_right o) (place t path) (well_refused t 0 path)
    apply_right (op.Readlink path) n when = node_right _ (λ b o. target_right o) (place t path) (well_refused t 0 path)
    apply_right (op.Time path) n when = at_file_right _ (λ b cells links at. said t (time_of at) refl) path
    apply_right _ n when = said t reply.Ok refl

    step_right : (s : Step) (n when : ℕ) → stops_wanted tells_other refl refl refl s ≡ false → says_other (perform_step t s n when m).answer ≡ false
    step_right (Goes o) n when none = (apply_right o n when).answer
    step_right (Stops r) n when none = none

-- the reply is the answer where the answer isn't bytes
number_of_answer : (m told : ℕ) (a : Answer) → says_other m a ≡ false → Answers a (reply.NoBlock told) → told ≡ m
number_of_answer m told (Plain r) none is =
    let other : not (told == m) ≡ false = subst (λ q. tells_other m q ≡ false) (sym is) none in eqb-true told m (back (told == m) other)
  where
    back : (b : Bool) → not b ≡ false → b ≡ true
    back true e = refl
    back false e = absurd (cc)
number_of_answer m told (Shows cells) none is = absurd is

pub answers_tell : AnswersTellTheirNumber
answers_tell tree o birth when m told is =
    number_of_answer m told (perform tree o birth when m).answer (step_right m tree (resolved tree o).step birth when (none_stops (tells_other m) refl refl refl tree o)) is
