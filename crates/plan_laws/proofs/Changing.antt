-- Which nodes of a tree an operation on names may change.
use Rattle.std.proofs.Common.{ℕ, ◌≡◌, ◌≢◌, ◌-◌, ◌==◌, ◌⊎◌, inl, inr, ⊎_elim, Bool, true, false, not, ◌&&◌, nat_le, nat_lt, if◌then◌else◌, Option, Some, None, List, [], ◌∷◌, ◌++◌, refl, sym, ◌∙◌, subst}
use Rattle.std.proofs.lemmas.Bool.{cases_eq}
use Rattle.std.proofs.lemmas.List.Elements.{Contains-append_left, Contains-append_right}
use Rattle.std.specs.List.{Contains}
use Rattle.frang_base.specs.declared.reply.Reply.TheVariants as reply
use Rattle.tree_definitions.specs.declared.node.Node.{Node}
use Rattle.tree_definitions.specs.declared.node.Node.TheVariants.{Dir, File, Link}
use Rattle.tree_definitions.specs.Entries.{Entries, with_entry, without_entry}
use Rattle.tree_definitions.specs.Tree.{FileTree, node_at, with_node, without_node, inodes_full, entries_full, grown, lacks_block}
use Rattle.tree_definitions.specs.Place.{Taken, Free}
use Rattle.tree_definitions.specs.Apply.{Applied, says, named, made, is_dir, links_of, one_link_more, linked_to, one_link_fewer, has_entries, unlinked, dir_removed, name_gone, name_set, moved, room_made, moved_onto, moved_to}
use Rattle.tree_laws.proofs.Nodes.{with_other, without_other}
use Rattle.plan_laws.proofs.Covering.{has_head, has_more, has_cases}

-- all other nodes stay
abbrev pub OnlyAt : FileTree → FileTree → List ℕ → Type 0
OnlyAt t u ds = (c : ℕ) → Contains ds c ⊎ (node_at u c ≡ node_at t c)

pub only_same : (t : FileTree) (ds : List ℕ) → OnlyAt t t ds
only_same t ds c = inr refl

pub only_with : (t : FileTree) (b : ℕ) (x : Node) → OnlyAt t (with_node t b x) (b ∷ [])
only_with t b x c = ⊎_elim (λ e. inl (subst (Contains (b ∷ [])) (sym e) (has_head b []))) (λ f. inr (with_other t b x c f)) (cases_eq c b)

only_without : (t : FileTree) (b : ℕ) → OnlyAt t (without_node t b) (b ∷ [])
only_without t b c = ⊎_elim (λ e. inl (subst (Contains (b ∷ [])) (sym e) (has_head b []))) (λ f. inr (without_other t b c f)) (cases_eq c b)

then_only : (t u w : FileTree) (ds es : List ℕ) → OnlyAt t u ds → OnlyAt u w es → OnlyAt t w (ds ++ es)
then_only t u w ds es f g c = ⊎_elim (λ d. inl (Contains-append_left ds es c d)) (λ p. ⊎_elim (λ e. inl (Contains-append_right ds es c e)) (λ q. inr (q ∙ p)) (g c)) (f c)

-- an answer, or another
pub only_if : (b : Bool) (t : FileTree) (x y : Applied) (ds : List ℕ) → OnlyAt t x.tree ds → OnlyAt t y.tree ds → OnlyAt t (if b then x else y).tree ds
only_if true t x y ds f g = f
only_if false t x y ds f g = g

-- what changed is one of these
pub is_among : (t u : FileTree) (ds : List ℕ) (c : ℕ) → OnlyAt t u ds → node_at u c ≢ node_at t c → Contains ds c
is_among t u ds c f d = ⊎_elim (λ i. i) (λ e. absurd (d e)) (f c)

-- ---- create, mkdir, symlink

pub made_only : (t : FileTree) (birth : ℕ) (node : Node) (d blocks : ℕ) (entries : Entries) (name : List ℕ) → OnlyAt t (made t birth node (Free d entries blocks name)).tree (birth ∷ d ∷ [])
made_only t birth node d blocks entries name =
    let u = with_node t birth node in
    let done = says (named u d entries blocks name birth) reply.Ok in
    let all = birth ∷ d ∷ [] in
    let room = if lacks_block t entries blocks then says t reply.NoDirBlock else done in
    let free = if inodes_full t then says t reply.NoInode else room in
    only_if (entries_full entries) t (says t reply.DirFull) free all (only_same t all)
    (only_if (inodes_full t) t (says t reply.NoInode) room all (only_same t all)
    (only_if (lacks_block t entries blocks) t (says t reply.NoDirBlock) done all (only_same t all)
    (then_only t u (named u d entries blocks name birth) (birth ∷ []) (d ∷ []) (only_with t birth node) (only_with u d (Dir (with_entry entries name birth) (grown entries blocks))))))

-- ---- link

more_only : (t : FileTree) (b : ℕ) (o : Option Node) → OnlyAt t (one_link_more t b o) (b ∷ [])
more_only t b (Some (File cells links when)) = only_with t b (File cells _ when)
more_only t b (Some (Link target links)) = only_with t b (Link target _)
more_only t b (Some (Dir entries blocks)) = only_same t (b ∷ [])
more_only t b None = only_same t (b ∷ [])

pub linked_only : (t : FileTree) (b d blocks : ℕ) (entries : Entries) (name : List ℕ) → OnlyAt t (linked_to t b (Free d entries blocks name)).tree (b ∷ d ∷ [])
linked_only t b d blocks entries name =
    let u = one_link_more t b (node_at t b) in
    let done = says (named u d entries blocks name b) reply.Ok in
    let all = b ∷ d ∷ [] in
    let room = if lacks_block t entries blocks then says t reply.NoDirBlock else done in
    let free = if entries_full entries then says t reply.DirFull else room in
    only_if (nat_le 1000 (links_of (node_at t b))) t (says t reply.MLink) free all (only_same t all)
    (only_if (entries_full entries) t (says t reply.DirFull) room all (only_same t all)
    (only_if (lacks_block t entries blocks) t (says t reply.NoDirBlock) done all (only_same t all)
    (then_only t u (named u d entries blocks name b) (b ∷ []) (d ∷ []) (more_only t b (node_at t b)) (only_with u d (Dir (with_entry entries name b) (grown entries blocks))))))

-- ---- unlink, rmdir

fewer_only : (t : FileTree) (b : ℕ) (o : Option Node) → OnlyAt t (one_link_fewer t b o) (b ∷ [])
fewer_only t b (Some (File cells links when)) = go (nat_lt 1 links)
  where
    go : (c : Bool) → OnlyAt t (if c then with_node t b (File cells (links - 1) when) else without_node t b) (b ∷ [])
    go true = only_with t b (File cells (links - 1) when)
    go false = only_without t b
fewer_only t b (Some (Link target links)) = go (nat_lt 1 links)
  where
    go : (c : Bool) → OnlyAt t (if c then with_node t b (Link target (links - 1)) else without_node t b) (b ∷ [])
    go true = only_with t b (Link target (links - 1))
    go false = only_without t b
fewer_only t b (Some (Dir entries blocks)) = only_without t b
fewer_only t b None = only_same t (b ∷ [])

pub unlinked_only : (t : FileTree) (d blocks : ℕ) (entries : Entries) (name : List ℕ) (b : ℕ) → OnlyAt t (unlinked t (Taken d entries blocks name b)).tree (d ∷ b ∷ [])
unlinked_only t d blocks entries name b =
    let u = with_node t d (Dir (without_entry entries name) blocks) in
    only_if (is_dir (node_at t b)) t (says t reply.IsDir) (says (one_link_fewer u b (node_at t b)) reply.Ok) (d ∷ b ∷ []) (only_same t (d ∷ b ∷ []))
    (then_only t u (one_link_fewer u b (node_at t b)) (d ∷ []) (b ∷ []) (only_with t d (Dir (without_entry entries name) blocks)) (fewer_only u b (node_at t b)))

pub removed_only : (t : FileTree) (d blocks : ℕ) (entries : Entries) (name : List ℕ) (b : ℕ) → OnlyAt t (dir_removed t (Taken d entries blocks name b)).tree (d ∷ b ∷ [])
removed_only t d blocks entries name b =
    let u = with_node t d (Dir (without_entry entries name) blocks) in
    let done = says (without_node u b) reply.Ok in
    let all = d ∷ b ∷ [] in
    only_if (not (is_dir (node_at t b))) t (says t reply.NotDir) (if has_entries (node_at t b) then says t reply.NotEmpty else done) all (only_same t all)
    (only_if (has_entries (node_at t b)) t (says t reply.NotEmpty) done all (only_same t all)
    (then_only t u (without_node u b) (d ∷ []) (b ∷ []) (only_with t d (Dir (without_entry entries name) blocks)) (only_without u b)))

-- ---- rename

gone_only : (t : FileTree) (d : ℕ) (name : List ℕ) (o : Option Node) → OnlyAt t (name_gone t d name o) (d ∷ [])
gone_only t d name (Some (Dir entries blocks)) = only_with t d (Dir (without_entry entries name) blocks)
gone_only t d name (Some (File cells links when)) = only_same t (d ∷ [])
gone_only t d name (Some (Link target links)) = only_same t (d ∷ [])
gone_only t d name None = only_same t (d ∷ [])

set_only : (t : FileTree) (d : ℕ) (name : List ℕ) (b : ℕ) (o : Option Node) → OnlyAt t (name_set t d name b o) (d ∷ [])
set_only t d name b (Some (Dir entries blocks)) = only_with t d (Dir (with_entry entries name b) blocks)
set_only t d name b (Some (File cells links when)) = only_same t (d ∷ [])
set_only t d name b (Some (Link target links)) = only_same t (d ∷ [])
set_only t d name b None = only_same t (d ∷ [])

moved_only : (t : FileTree) (from : ℕ) (name : List ℕ) (to : ℕ) (new : List ℕ) (b : ℕ) → OnlyAt t (moved t from name to new b) (from ∷ to ∷ [])
moved_only t from name to new b =
    let gone = name_gone t from name (node_at t from) in
    then_only t gone (name_set gone to new b (node_at gone to)) (from ∷ []) (to ∷ []) (gone_only t from name (node_at t from)) (set_only gone to new b (node_at gone to))

pub onto_only : (t : FileTree) (from : ℕ) (name : List ℕ) (b to : ℕ) (new : List ℕ) (old : ℕ) → OnlyAt t (moved_onto t from name b to new old).tree (if old == b then [] else from ∷ to ∷ old ∷ [])
onto_only t from name b to new old = go (old == b)
  where
    go : (c : Bool) → OnlyAt t (if c then says t reply.Ok else (if is_dir (node_at t b) && not (is_dir (node_at t old)) then says t reply.NotDir else (if is_dir (node_at t old) && not (is_dir (node_at t b)) then says t reply.IsDir
        else (if has_entries (node_at t old) then says t reply.NotEmpty else says (one_link_fewer (moved t from name to new b) old (node_at t old)) reply.Ok)))).tree (if c then [] else from ∷ to ∷ old ∷ [])
    go true = only_same t []
    go false =
        let u = moved t from name to new b in
        let done = says (one_link_fewer u old (node_at t old)) reply.Ok in
        let all = from ∷ to ∷ old ∷ [] in
        let empty = if has_entries (node_at t old) then says t reply.NotEmpty else done in
        let file = if is_dir (node_at t old) && not (is_dir (node_at t b)) then says t reply.IsDir else empty in
        only_if (is_dir (node_at t b) && not (is_dir (node_at t old))) t (says t reply.NotDir) file all (only_same t all)
        (only_if (is_dir (node_at t old) && not (is_dir (node_at t b))) t (says t reply.IsDir) empty all (only_same t all)
        (only_if (has_entries (node_at t old)) t (says t reply.NotEmpty) done all (only_same t all)
        (then_only t u (one_link_fewer u old (node_at t old)) (from ∷ to ∷ []) (old ∷ []) (moved_only t from name to new b) (fewer_only u old (node_at t old)))))

twice : (from to c : ℕ) → Contains (to ∷ from ∷ to ∷ []) c → Contains (from ∷ to ∷ []) c
twice from to c d = ⊎_elim (λ e. has_more from c (to ∷ []) (subst (Contains (to ∷ [])) e (has_head to []))) (λ r. r) (has_cases to c (from ∷ to ∷ []) d)

pub moved_to_only : (t : FileTree) (from : ℕ) (name : List ℕ) (b to blocks : ℕ) (entries : Entries) (new : List ℕ) → OnlyAt t (moved_to t from name b to entries blocks new).tree (from ∷ to ∷ [])
moved_to_only t from name b to blocks entries new =
    let all = from ∷ to ∷ [] in
    let u = room_made t to entries blocks in
    let done = says (moved u from name to new b) reply.Ok in
    let room = if lacks_block t entries blocks then says t reply.NoDirBlock else done in
    let other = if entries_full entries then says t reply.DirFull else room in
    let far : OnlyAt t (moved u from name to new b) (to ∷ from ∷ to ∷ []) = then_only t u (moved u from name to new b) (to ∷ []) (from ∷ to ∷ []) (only_with t to (Dir entries (grown entries blocks))) (moved_only u from name to new b) in
    only_if (from == to) t (says (moved t from name to new b) reply.Ok) other all (moved_only t from name to new b)
    (only_if (entries_full entries) t (says t reply.DirFull) room all (only_same t all)
    (only_if (lacks_block t entries blocks) t (says t reply.NoDirBlock) done all (only_same t all) (λ c. ⊎_elim (λ d. inl (twice from to c d)) (λ e. inr e) (far c))))
