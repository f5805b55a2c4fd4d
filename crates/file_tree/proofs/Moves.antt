-- What the steps of link, unlink and rename come to.
use Rattle.std.specs.Option.{option_map}
use Rattle.std.proofs.Common.{◌≡◌, ℕ, ◌+◌, ◌<◌, true, false, cond, nat_eq, Option, Some, None, List, [], ◌∷◌, length, ⊎_elim, IsSome, IfSome, sym, refl, ◌∙◌, ap, subst, arith}
use Rattle.std.proofs.lemmas.Bool.{cases_eq}
use Rattle.std.proofs.lemmas.Bool.Decides.{nat_tests}
use Rattle.tree_definitions.specs.declared.node.Node.{Node}
use Rattle.tree_definitions.specs.declared.node.Node.TheVariants.{Dir, File, Link}
use Rattle.tree_definitions.specs.Entries.{Entries, entry_at, with_entry, without_entry}
use Rattle.tree_definitions.specs.Tree.{FileTree, node_at, with_node, grown, entries_full, lacks_block}
use Rattle.frang_base.specs.declared.reply.Reply.TheVariants as reply
use Rattle.tree_definitions.specs.Apply.{Applied, says, is_dir, has_entries, links_of, one_link_more, name_gone, name_set, moved, moved_to, room_made}
use Rattle.tree_edits.specs.Edits.{edited, edited_by, with_links, with_blocks, without_name, with_name, Names}
use Rattle.file_tree.specs.Named.{HasEntry}
use Rattle.file_tree.proofs.Finds.{found_here, found_elsewhere, set_twice, other_stays}
use Rattle.file_tree.proofs.Rooms.{elsewhere_edited, here_edited}

-- one link more
pub more_links : (tree : FileTree) (birth n : ℕ) → is_dir (node_at tree birth) ≡ false → n ≡ links_of (node_at tree birth) + 1 → edited tree birth (with_links n) ≡ one_link_more tree birth (node_at tree birth)
more_links tree birth n none is = go (node_at tree birth) none is
  where
    go : (o : Option Node) → is_dir o ≡ false → n ≡ links_of o + 1 → edited_by tree birth (with_links n) o ≡ one_link_more tree birth o
    go (Some (File cells links when)) h e = ap (λ k. with_node tree birth (File cells k when)) e
    go (Some (Link target links)) h e = ap (λ k. with_node tree birth (Link target k)) e
    go (Some (Dir entries blocks)) h e = cc
    go None h e = refl

-- a directory that has a name, taken apart
pub has_entry : (name : List ℕ) (birth : ℕ) (o : Option Node) → HasEntry name birth o → (entries : Entries) × (blocks : ℕ) × (o ≡ Some (Dir entries blocks)) × (entry_at entries name ≡ Some birth)
has_entry name birth (Some (Dir entries blocks)) h = (entries, blocks, refl, h)
has_entry name birth (Some (File cells links when)) h = absurd h
has_entry name birth (Some (Link target links)) h = absurd h
has_entry name birth None h = absurd h

-- it isn't empty
not_empty : (entries : Entries) (name : List ℕ) (birth : ℕ) → entry_at entries name ≡ Some birth → 0 < length entries
not_empty [] name birth h = cc
not_empty (e ∷ es) name birth h = omega arith

pub full_dir : (name : List ℕ) (birth : ℕ) (o : Option Node) → HasEntry name birth o → has_entries o ≡ true
full_dir name birth (Some (Dir entries blocks)) h = let some = not_empty entries name birth h in grind (arith, nat_tests, some)
full_dir name birth (Some (File cells links when)) h = absurd h
full_dir name birth (Some (Link target links)) h = absurd h
full_dir name birth None h = absurd h

-- so it is no node without entries
pub apart_from_empty : (tree : FileTree) (name : List ℕ) (birth dir old : ℕ) → HasEntry name birth (node_at tree dir) → has_entries (node_at tree old) ≡ false → old ≡ dir → ⊥
apart_from_empty tree name birth dir old has empty same =
    let full : has_entries (node_at tree old) ≡ true = ap (λ b. has_entries (node_at tree b)) same ∙ full_dir name birth (node_at tree dir) has in
    cc

-- a name is gone from its directory
pub gone_is : (tree : FileTree) (dir : ℕ) (name : List ℕ) (birth : ℕ) (o : Option Node) → HasEntry name birth o → edited_by tree dir (without_name name) o ≡ name_gone tree dir name o
gone_is tree dir name birth (Some (Dir entries blocks)) h = refl
gone_is tree dir name birth (Some (File cells links when)) h = absurd h
gone_is tree dir name birth (Some (Link target links)) h = absurd h
gone_is tree dir name birth None h = absurd h

-- a name is set in a directory that has it
pub set_is : (tree : FileTree) (dir : ℕ) (name : List ℕ) (birth old : ℕ) (o : Option Node) → HasEntry name old o → edited_by tree dir (with_name name birth) o ≡ name_set tree dir name birth o
set_is tree dir name birth old (Some (Dir entries blocks)) h = refl
set_is tree dir name birth old (Some (File cells links when)) h = absurd h
set_is tree dir name birth old (Some (Link target links)) h = absurd h
set_is tree dir name birth old None h = absurd h

-- another name that leads to another node is still there
pub still_named : (tree : FileTree) (dir to : ℕ) (name new : List ℕ) (birth old : ℕ) → (old ≡ birth → ⊥) → HasEntry name birth (node_at tree dir) → HasEntry new old (node_at tree to) → HasEntry new old (node_at (edited tree dir (without_name name)) to)
still_named tree dir to name new birth old differ what onto = ⊎_elim same other (cases_eq to dir)
  where
    same : to ≡ dir → HasEntry new old (node_at (edited tree dir (without_name name)) to)
    same e =
        let h = has_entry name birth (node_at tree dir) what in
        let there : HasEntry new old (Some (Dir h.0 h.1)) = subst (HasEntry new old) (ap (node_at tree) e ∙ h.2) onto in
        let now : node_at (edited tree dir (without_name name)) to ≡ Some (Dir (without_entry h.0 name) h.1)
        = ap (λ t. node_at t to) (ap (edited_by tree dir (without_name name)) h.2) ∙ ap (node_at (with_node tree dir (Dir (without_entry h.0 name) h.1))) e ∙ found_here tree dir (Dir (without_entry h.0 name) h.1) in
        subst (HasEntry new old) (sym now) (other_stays h.0 name new birth old differ h.3 there)

    other : (to ≡ dir → ⊥) → HasEntry new old (node_at (edited tree dir (without_name name)) to)
    other apart = subst (HasEntry new old) (sym (elsewhere_edited tree dir to (without_name name) apart)) onto

pub names_it : (name : List ℕ) (birth : ℕ) (o : Option Node) → HasEntry name birth o → IfSome o (Names name)
names_it name birth (Some (Dir entries blocks)) h = subst IsSome (sym h) refl
names_it name birth (Some (File cells links when)) h = absurd h
names_it name birth (Some (Link target links)) h = absurd h
names_it name birth None h = absurd h

-- in one directory
pub moved_within_is : (tree : FileTree) (dir : ℕ) (name new : List ℕ) (birth : ℕ) (entries : Entries) (blocks : ℕ) → node_at tree dir ≡ Some (Dir entries blocks)
    → with_node tree dir (Dir (with_entry (without_entry entries name) new birth) blocks) ≡ moved tree dir name dir new birth
moved_within_is tree dir name new birth entries blocks found =
    let first = Dir (without_entry entries name) blocks in
    let gone : name_gone tree dir name (node_at tree dir) ≡ with_node tree dir first = ap (name_gone tree dir name) found in
    sym (set_twice tree dir first (Dir (with_entry (without_entry entries name) new birth) blocks))
    ∙ ap (name_set (with_node tree dir first) dir new birth) (sym (found_here tree dir first))
    ∙ ap (λ t. name_set t dir new birth (node_at t dir)) (sym gone)

-- from one directory into another
pub moved_across_is : (tree : FileTree) (from to : ℕ) (name new : List ℕ) (birth : ℕ) (entries more : Entries) (blocks others : ℕ) → (from ≡ to → ⊥) → node_at tree from ≡ Some (Dir entries blocks) → node_at tree to ≡ Some (Dir more others)
    → with_node (with_node (with_node tree to (Dir more (grown more others))) from (Dir (without_entry entries name) blocks)) to (Dir (with_entry more new birth) (grown more others)) ≡ moved (room_made tree to more others) from name to new birth
moved_across_is tree from to name new birth entries more blocks others differ found there =
    let room = with_node tree to (Dir more (grown more others)) in
    let first = Dir (without_entry entries name) blocks in
    let before : node_at room from ≡ Some (Dir entries blocks) = found_elsewhere tree to from (Dir more (grown more others)) differ ∙ found in
    let gone : name_gone room from name (node_at room from) ≡ with_node room from first = ap (name_gone room from name) before in
    let stays : node_at (with_node room from first) to ≡ Some (Dir more (grown more others)) = found_elsewhere room from to first (λ e. differ (sym e)) ∙ found_here tree to (Dir more (grown more others)) in
    ap (name_set (with_node room from first) to new birth) (sym stays) ∙ ap (λ t. name_set t to new birth (node_at t to)) (sym gone)

-- the directory that gets the name, once it has room and the name is gone from the other one
pub room_and_gone : (tree : FileTree) (from to : ℕ) (name : List ℕ) (entries : Entries) (blocks n : ℕ) → (from ≡ to → ⊥) → node_at tree to ≡ Some (Dir entries blocks)
    → node_at (edited (edited tree to (with_blocks n)) from (without_name name)) to ≡ Some (Dir entries n)
room_and_gone tree from to name entries blocks n differ found =
    elsewhere_edited (edited tree to (with_blocks n)) from to (without_name name) (λ e. differ (sym e)) ∙ here_edited tree to (with_blocks n) ∙ ap (option_map (with_blocks n)) found

-- from one directory into another, by the steps of the code
pub across_is : (tree : FileTree) (from to : ℕ) (name new : List ℕ) (birth : ℕ) (entries more : Entries) (blocks others : ℕ) → (from ≡ to → ⊥) → node_at tree from ≡ Some (Dir entries blocks) → node_at tree to ≡ Some (Dir more others)
    → with_node (edited (edited tree to (with_blocks (grown more others))) from (without_name name)) to (Dir (with_entry more new birth) (grown more others)) ≡ moved (room_made tree to more others) from name to new birth
across_is tree from to name new birth entries more blocks others differ found there =
    let last = Dir (with_entry more new birth) (grown more others) in
    let room = with_node tree to (Dir more (grown more others)) in
    let first : edited tree to (with_blocks (grown more others)) ≡ room = ap (edited_by tree to (with_blocks (grown more others))) there in
    let before : node_at room from ≡ Some (Dir entries blocks) = found_elsewhere tree to from (Dir more (grown more others)) differ ∙ found in
    let second : edited room from (without_name name) ≡ with_node room from (Dir (without_entry entries name) blocks) = ap (edited_by room from (without_name name)) before in
    ap (λ t. with_node (edited t from (without_name name)) to last) first ∙ ap (λ t. with_node t to last) second ∙ moved_across_is tree from to name new birth entries more blocks others differ found there

-- a node that stays where its name goes
pub apart_from_dir : (tree : FileTree) (name : List ℕ) (own birth dir : ℕ) → HasEntry name own (node_at tree dir) → is_dir (node_at tree birth) ≡ false → birth ≡ dir → ⊥
apart_from_dir tree name own birth dir has none same =
    let h = has_entry name own (node_at tree dir) has in
    let there : is_dir (node_at tree birth) ≡ true = ap (λ b. is_dir (node_at tree b)) same ∙ ap is_dir h.2 in
    cc

-- a name is gone, and another is set
pub moved_is : (tree : FileTree) (dir to : ℕ) (name new : List ℕ) (birth old : ℕ) → (old ≡ birth → ⊥) → HasEntry name birth (node_at tree dir) → HasEntry new old (node_at tree to)
    → edited (edited tree dir (without_name name)) to (with_name new birth) ≡ moved tree dir name to new birth
moved_is tree dir to name new birth old differ what onto =
    set_is (edited tree dir (without_name name)) to new birth old _ (still_named tree dir to name new birth old differ what onto)
    ∙ ap (λ t. name_set t to new birth (node_at t to)) (gone_is tree dir name birth (node_at tree dir) what)

-- a move to a name that isn't there, in another directory
pub moved_to_is : (tree after : FileTree) (from : ℕ) (name : List ℕ) (birth to : ℕ) (entries : Entries) (blocks : ℕ) (new : List ℕ) → nat_eq from to ≡ false → entries_full entries ≡ false → lacks_block tree entries blocks ≡ false
    → after ≡ moved (room_made tree to entries blocks) from name to new birth → moved_to tree from name birth to entries blocks new ≡ says after reply.Ok
moved_to_is tree after from name birth to entries blocks new apart full lacks is =
    ap (λ b. cond {A = Applied} b (says (moved tree from name to new birth) reply.Ok) (cond (entries_full entries) (says tree reply.DirFull) (cond (lacks_block tree entries blocks) (says tree reply.NoDirBlock) (says (moved (room_made tree to entries blocks) from name to new birth) reply.Ok)))) apart
    ∙ ap (λ b. cond {A = Applied} b (says tree reply.DirFull) (cond (lacks_block tree entries blocks) (says tree reply.NoDirBlock) (says (moved (room_made tree to entries blocks) from name to new birth) reply.Ok))) full
    ∙ ap (λ b. cond {A = Applied} b (says tree reply.NoDirBlock) (says (moved (room_made tree to entries blocks) from name to new birth) reply.Ok)) lacks
    ∙ ap (λ t. says t reply.Ok) (sym is)
