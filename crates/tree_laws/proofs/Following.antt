-- Walks through links in two trees that agree on what the first walk went through: they go the same way.
use Rattle.std.proofs.Common.{ℕ, zero, suc, ◌≡◌, Bool, true, false, not, ◌||◌, Option, Some, None, Result, Ok, Err, List, [], ◌∷◌, ◌++◌, cond, refl, sym, ◌∙◌, ap, subst, is_some}
use Rattle.frang_base.specs.PathText.{path_of}
use Rattle.frang_base.specs.declared.fault.PathFault.{PathFault}
use Rattle.frang_base.specs.declared.limits.TheConstants.{LINKS_FOLLOWED_MAX}
use Rattle.frang_base.specs.declared.op.Op.{Op}
use Rattle.frang_base.specs.declared.op.Op.TheVariants as op
use Rattle.frang_base.specs.declared.reply.Reply.TheVariants as reply
use Rattle.tree_definitions.specs.declared.cells.Cell.{Cell}
use Rattle.tree_definitions.specs.declared.node.Node.{Node}
use Rattle.tree_definitions.specs.declared.node.Node.TheVariants.{Dir, File, Link}
use Rattle.tree_definitions.specs.Entries.{Entries, entry_at}
use Rattle.tree_definitions.specs.Tree.{FileTree, node_at}
use Rattle.tree_definitions.specs.Apply.{is_dir}
use Rattle.tree_definitions.specs.Resolve.{WalkEnd, At, Refused, Resolution, ends_at, refused, passes, is_absolute, target_text, at_target, at_entry, at_name, below_node, resolve_names, resolve_from, resolve}
use Rattle.tree_definitions.specs.Perform.{by_path, is_found, after_trail, by_second, by_first, by_paths, resolved}
use Rattle.tree_definitions.specs.WellFormed.{EntriesNameNodes, IsRooted}
use Rattle.tree_laws.specs.Touching.{OfDirectory, OfFile, OfLink}
use Rattle.tree_laws.specs.Following.{WalksFindWhatIsThere, WalksGoByTheirTrail}
use Rattle.tree_laws.proofs.Likeness.{Likeness, Like, Near, equal, like_equal}
use Rattle.tree_laws.proofs.Places.{is_in, head_is_in, tail_is_in, dir_is_some}
use Rattle.tree_laws.proofs.Asking.{Grounds}
use Rattle.tree_laws.proofs.Applying.{in_left, in_right}

-- what is done where a link is followed: the link, its target, the directory that holds it, the path of that, the names that are left
abbrev Follow : Type 0
Follow = ℕ → List ℕ → ℕ → List (List ℕ) → List (List ℕ) → Resolution

-- a link is followed with so many links left after it
abbrev follow_in : ℕ → FileTree → Bool → Follow
follow_in left t last link target holder over rest = passes link (at_target (resolve_from left t last) (is_absolute target) (path_of (target_text target)) holder over rest)

-- what a walk found is there
abbrev Found : FileTree → WalkEnd → Type 0
Found t (At path (Some b)) = is_some (node_at t b) ≡ true
Found t (At path None) = Unit {0}
Found t (Refused r) = Unit {0}

module _ (t : FileTree) (alive : EntriesNameNodes t) (root : IsRooted t) where
  module _ (last : Bool) (f : Follow) (each : (link : ℕ) (target : List ℕ) (dir : ℕ) (above names : List (List ℕ)) → is_some (node_at t dir) ≡ true → Found t (f link target dir above names).end) where
    entry_found : (dir : ℕ) (above here names : List (List ℕ)) (b : ℕ) (into : Resolution) → is_some (node_at t dir) ≡ true → is_some (node_at t b) ≡ true → Found t into.end → (o : Option Node)
        → Found t (at_entry last (λ target. f b target dir above names) into here b names o).end
    entry_found dir above here [] b into s i h (Some (Link target links)) = go last
      where
        go : (c : Bool) → Found t (cond c (f b target dir above []) (ends_at here (Some b))).end
        go true = each b target dir above [] s
        go false = i
    entry_found dir above here [] b into s i h (Some (Dir es n)) = i
    entry_found dir above here [] b into s i h (Some (File cells n w)) = i
    entry_found dir above here [] b into s i h None = i
    entry_found dir above here (x ∷ xs) b into s i h (Some (Link target links)) = each b target dir above (x ∷ xs) s
    entry_found dir above here (x ∷ xs) b into s i h (Some (Dir es n)) = h
    entry_found dir above here (x ∷ xs) b into s i h (Some (File cells n w)) = tt
    entry_found dir above here (x ∷ xs) b into s i h None = tt

    name_found : (dir : ℕ) (es : Entries) (n : ℕ) (name : List ℕ) (above here names : List (List ℕ)) (into : ℕ → Resolution) → node_at t dir ≡ Some (Dir es n) → ((b : ℕ) → is_some (node_at t b) ≡ true → Found t (into b).end)
        → (o : Option ℕ) → entry_at es name ≡ o → Found t (at_name t last (λ link target. f link target dir above names) into here names o).end
    name_found dir es n name above here names into is on (Some b) at =
        let s = alive dir es n name b is at in
        entry_found dir above here names b (into b) (ap is_some is) s (on b s) (node_at t b)
    name_found dir es n name above here [] into is on None at = tt
    name_found dir es n name above here (x ∷ xs) into is on None at = tt

    node_found : (dir : ℕ) (name : List ℕ) (above here names : List (List ℕ)) (into : ℕ → Resolution) → ((b : ℕ) → is_some (node_at t b) ≡ true → Found t (into b).end)
        → (o : Option Node) → node_at t dir ≡ o → Found t (below_node t last (λ link target. f link target dir above names) into here dir name names o).end
    node_found dir name above here names into on (Some (Dir es n)) is = name_found dir es n name above here names into is on (entry_at es name) refl
    node_found dir name above here names into on (Some (File cells n w)) is = tt
    node_found dir name above here names into on (Some (Link target n)) is = tt
    node_found dir name above here names into on None is = tt

    names_found : (names : List (List ℕ)) (dir : ℕ) (above : List (List ℕ)) → is_some (node_at t dir) ≡ true → Found t (resolve_names t last f dir above names).end
    names_found [] dir above s = s
    names_found (name ∷ names) dir above s =
        node_found dir name above (above ++ name ∷ []) names (λ b. resolve_names t last f b (above ++ name ∷ []) names) (λ b i. names_found names b (above ++ name ∷ []) i) (node_at t dir) refl

  target_found : (next : ℕ → List (List ℕ) → List (List ℕ) → Resolution) → ((names : List (List ℕ)) (dir : ℕ) (above : List (List ℕ)) → is_some (node_at t dir) ≡ true → Found t (next dir above names).end)
      → (absolute : Bool) (way : Result (List (List ℕ)) PathFault) (dir : ℕ) (above names : List (List ℕ)) → is_some (node_at t dir) ≡ true → Found t (at_target next absolute way dir above names).end
  target_found next on absolute (Err fault) dir above names s = tt
  target_found next on true (Ok inner) dir above names s = on (inner ++ names) 0 [] (dir_is_some (node_at t 0) root)
  target_found next on false (Ok inner) dir above names s = on (inner ++ names) dir above s

  from_found : (left : ℕ) (last : Bool) (names : List (List ℕ)) (dir : ℕ) (above : List (List ℕ)) → is_some (node_at t dir) ≡ true → Found t (resolve_from left t last dir above names).end
  from_found zero last names dir above s = names_found last (λ link target holder over rest. refused reply.Loop) (λ link target d over rest i. tt) names dir above s
  from_found (suc left) last names dir above s =
      names_found last (λ link target holder over rest. passes link (at_target (resolve_from left t last) (is_absolute target) (path_of (target_text target)) holder over rest))
      (λ link target d over rest i. target_found (resolve_from left t last) (from_found left last) (is_absolute target) (path_of (target_text target)) d over rest i) names dir above s

  -- a walk finds what is there
  pub found_there : (last : Bool) (path : List (List ℕ)) → Found t (resolve t last path).end
  unfolding resolve
  found_there last path = from_found LINKS_FOLLOWED_MAX last path 0 [] (dir_is_some (node_at t 0) root)

module _ (L : Likeness) (one two : FileTree) (g : Grounds one two) where
  -- both trees have a node of this birth
  abbrev Alive : ℕ → Type 0
  Alive b = (is_some (node_at one b) ≡ true) × (is_some (node_at two b) ≡ true)

  abbrev Agree : List ℕ → Type 0
  Agree bs = (b : ℕ) → is_in b bs ≡ true → Near L one two b

  agree_tail : (b : ℕ) (bs : List ℕ) → Agree (b ∷ bs) → Agree bs
  agree_tail b bs h c i = h c (tail_is_in c b bs i)

  -- nodes of one birth are of one kind
  dir_two : (b : ℕ) (es : Entries) (n : ℕ) → node_at one b ≡ Some (Dir es n) → (q : Option Node) → node_at two b ≡ q → is_some q ≡ true → (fs : Entries) × (m : ℕ) × (q ≡ Some (Dir fs m))
  dir_two b es n i (Some (Dir fs m)) j s = (fs, m, refl)
  dir_two b es n i (Some (File cells links when)) j s = absurd (let k : OfDirectory ≡ OfFile = g.kinds b (Dir es n) (File cells links when) i j in cc)
  dir_two b es n i (Some (Link target links)) j s = absurd (let k : OfDirectory ≡ OfLink = g.kinds b (Dir es n) (Link target links) i j in cc)
  dir_two b es n i None j s = absurd (cc)

  file_two : (b : ℕ) (cells : List Cell) (n w : ℕ) → node_at one b ≡ Some (File cells n w) → (q : Option Node) → node_at two b ≡ q → is_some q ≡ true → (others : List Cell) × (m : ℕ) × (v : ℕ) × (q ≡ Some (File others m v))
  file_two b cells n w i (Some (File others m v)) j s = (others, m, v, refl)
  file_two b cells n w i (Some (Dir fs m)) j s = absurd (let k : OfFile ≡ OfDirectory = g.kinds b (File cells n w) (Dir fs m) i j in cc)
  file_two b cells n w i (Some (Link target links)) j s = absurd (let k : OfFile ≡ OfLink = g.kinds b (File cells n w) (Link target links) i j in cc)
  file_two b cells n w i None j s = absurd (cc)

  link_two : (b : ℕ) (target : List ℕ) (n : ℕ) → node_at one b ≡ Some (Link target n) → (q : Option Node) → node_at two b ≡ q → is_some q ≡ true → (other : List ℕ) × (m : ℕ) × (q ≡ Some (Link other m))
  link_two b target n i (Some (Link other m)) j s = (other, m, refl)
  link_two b target n i (Some (Dir fs m)) j s = absurd (let k : OfLink ≡ OfDirectory = g.kinds b (Link target n) (Dir fs m) i j in cc)
  link_two b target n i (Some (File cells links when)) j s = absurd (let k : OfLink ≡ OfFile = g.kinds b (Link target n) (File cells links when) i j in cc)
  link_two b target n i None j s = absurd (cc)

  -- a link is followed the same way, where the first way is agreed on
  abbrev FollowsSame : Follow → Follow → Type 0
  FollowsSame f h = (link : ℕ) (target other : List ℕ) (n m dir : ℕ) (above names : List (List ℕ)) → node_at one link ≡ Some (Link target n) → node_at two link ≡ Some (Link other m) → Alive dir
      → Agree (f link target dir above names).trail → h link other dir above names ≡ f link target dir above names

  module _ (last : Bool) (f h : Follow) (same : FollowsSame f h) where
    -- at a node
    entry_same : (dir : ℕ) (above here names : List (List ℕ)) (b : ℕ) (into_one into_two : Resolution) → Alive dir → (o : Option Node) → node_at one b ≡ o → is_some o ≡ true → is_some (node_at two b) ≡ true
        → (Agree into_one.trail → into_two ≡ into_one) → Agree (at_entry last (λ target. f b target dir above names) into_one here b names o).trail
        → at_entry last (λ target. h b target dir above names) into_two here b names (node_at two b) ≡ at_entry last (λ target. f b target dir above names) into_one here b names o
    entry_same dir above here [] b into_one into_two alive (Some (Dir es n)) i s t on agree =
        let d = dir_two b es n i (node_at two b) refl t in
        ap (at_entry last (λ target. h b target dir above []) into_two here b []) d.2
    entry_same dir above here [] b into_one into_two alive (Some (File cells n w)) i s t on agree =
        let d = file_two b cells n w i (node_at two b) refl t in
        ap (at_entry last (λ target. h b target dir above []) into_two here b []) d.3
    entry_same dir above here [] b into_one into_two alive (Some (Link target n)) i s t on agree =
        let d = link_two b target n i (node_at two b) refl t in
        ap (at_entry last (λ target. h b target dir above []) into_two here b []) d.2 ∙ go last agree
      where
        other : List ℕ
        other = (link_two b target n i (node_at two b) refl t).0

        go : (c : Bool) → Agree (cond c (f b target dir above []) (ends_at here (Some b))).trail → cond c (h b other dir above []) (ends_at here (Some b)) ≡ cond c (f b target dir above []) (ends_at here (Some b))
        go true a = let d = link_two b target n i (node_at two b) refl t in same b target d.0 n d.1 dir above [] i d.2 alive a
        go false a = refl
    entry_same dir above here (x ∷ xs) b into_one into_two alive (Some (Dir es n)) i s t on agree =
        let d = dir_two b es n i (node_at two b) refl t in
        ap (at_entry last (λ target. h b target dir above (x ∷ xs)) into_two here b (x ∷ xs)) d.2 ∙ on agree
    entry_same dir above here (x ∷ xs) b into_one into_two alive (Some (File cells n w)) i s t on agree =
        let d = file_two b cells n w i (node_at two b) refl t in
        ap (at_entry last (λ target. h b target dir above (x ∷ xs)) into_two here b (x ∷ xs)) d.3
    entry_same dir above here (x ∷ xs) b into_one into_two alive (Some (Link target n)) i s t on agree =
        let d = link_two b target n i (node_at two b) refl t in
        ap (at_entry last (λ target. h b target dir above (x ∷ xs)) into_two here b (x ∷ xs)) d.2 ∙ same b target d.0 n d.1 dir above (x ∷ xs) i d.2 alive agree
    entry_same dir above here names b into_one into_two alive None i s t on agree = absurd (cc)

    -- at a name of a directory that both trees have
    name_same : (dir : ℕ) (es : Entries) (n : ℕ) (name : List ℕ) (above here names : List (List ℕ)) (into_one into_two : ℕ → Resolution) → node_at one dir ≡ Some (Dir es n) → node_at two dir ≡ Some (Dir es n)
        → ((b : ℕ) → Alive b → Agree (into_one b).trail → into_two b ≡ into_one b) → (o : Option ℕ) → entry_at es name ≡ o
        → Agree (at_name one last (λ link target. f link target dir above names) into_one here names o).trail
        → at_name two last (λ link target. h link target dir above names) into_two here names o ≡ at_name one last (λ link target. f link target dir above names) into_one here names o
    name_same dir es n name above here names into_one into_two i j on (Some b) at agree =
        let alive_one = g.alive_one dir es n name b i at in
        let alive_two = g.alive_two dir es n name b j at in
        entry_same dir above here names b (into_one b) (into_two b) (ap is_some i, ap is_some j) (node_at one b) refl alive_one alive_two (λ a. on b (alive_one, alive_two) a) agree
    name_same dir es n name above here [] into_one into_two i j on None at agree = refl
    name_same dir es n name above here (x ∷ xs) into_one into_two i j on None at agree = refl

    -- below a node
    node_same : (dir : ℕ) (name : List ℕ) (above here names : List (List ℕ)) (into_one into_two : ℕ → Resolution) → is_some (node_at two dir) ≡ true
        → ((b : ℕ) → Alive b → Agree (into_one b).trail → into_two b ≡ into_one b) → (o : Option Node) → node_at one dir ≡ o → is_some o ≡ true
        → Agree (below_node one last (λ link target. f link target dir above names) into_one here dir name names o).trail
        → below_node two last (λ link target. h link target dir above names) into_two here dir name names (node_at two dir) ≡ below_node one last (λ link target. f link target dir above names) into_one here dir name names o
    node_same dir name above here names into_one into_two t on (Some (Dir es n)) i s agree =
        let way = at_name one last (λ link target. f link target dir above names) into_one here names (entry_at es name) in
        let is : node_at two dir ≡ Some (Dir es n) = subst (λ z. Like L z (node_at two dir)) i (agree dir (head_is_in dir way.trail)) in
        ap (below_node two last (λ link target. h link target dir above names) into_two here dir name names) is
        ∙ ap (passes dir) (name_same dir es n name above here names into_one into_two i is on (entry_at es name) refl (agree_tail dir way.trail agree))
    node_same dir name above here names into_one into_two t on (Some (File cells n w)) i s agree =
        let d = file_two dir cells n w i (node_at two dir) refl t in
        ap (below_node two last (λ link target. h link target dir above names) into_two here dir name names) d.3
    node_same dir name above here names into_one into_two t on (Some (Link target n)) i s agree =
        let d = link_two dir target n i (node_at two dir) refl t in
        ap (below_node two last (λ link target. h link target dir above names) into_two here dir name names) d.2
    node_same dir name above here names into_one into_two t on None i s agree = absurd (cc)

    -- along names
    names_same : (names : List (List ℕ)) (dir : ℕ) (above : List (List ℕ)) → Alive dir → Agree (resolve_names one last f dir above names).trail → resolve_names two last h dir above names ≡ resolve_names one last f dir above names
    names_same [] dir above alive agree = refl
    names_same (name ∷ names) dir above alive agree =
        node_same dir name above (above ++ name ∷ []) names (λ b. resolve_names one last f b (above ++ name ∷ []) names) (λ b. resolve_names two last h b (above ++ name ∷ []) names) alive.1
        (λ b a ag. names_same names b (above ++ name ∷ []) a ag) (node_at one dir) refl alive.0 agree

  root_alive : Alive 0
  root_alive = (dir_is_some (node_at one 0) g.root_one, dir_is_some (node_at two 0) g.root_two)

  -- equal links have one target
  one_target : (target other : List ℕ) (n m : ℕ) (o q : Option Node) → o ≡ Some (Link target n) → q ≡ Some (Link other m) → Like L o q → other ≡ target
  one_target target other n m o q i j l = let e : Some (Link other m) ≡ Some (Link target n) = sym j ∙ subst (λ z. Like L z q) i l in cc

  -- on from a target
  target_same : (next_one next_two : ℕ → List (List ℕ) → List (List ℕ) → Resolution) → ((names : List (List ℕ)) (dir : ℕ) (above : List (List ℕ)) → Alive dir → Agree (next_one dir above names).trail → next_two dir above names ≡ next_one dir above names)
      → (absolute : Bool) (way : Result (List (List ℕ)) PathFault) (dir : ℕ) (above names : List (List ℕ)) → Alive dir → Agree (at_target next_one absolute way dir above names).trail → at_target next_two absolute way dir above names ≡ at_target next_one absolute way dir above names
  target_same next_one next_two on absolute (Err fault) dir above names alive agree = refl
  target_same next_one next_two on true (Ok inner) dir above names alive agree = on (inner ++ names) 0 [] root_alive agree
  target_same next_one next_two on false (Ok inner) dir above names alive agree = on (inner ++ names) dir above alive agree

  -- a link is followed the same way, where each walk with one link fewer goes the same way
  link_same : (left : ℕ) (last : Bool) → ((names : List (List ℕ)) (dir : ℕ) (above : List (List ℕ)) → Alive dir → Agree (resolve_from left one last dir above names).trail → resolve_from left two last dir above names ≡ resolve_from left one last dir above names)
      → FollowsSame (follow_in left one last) (follow_in left two last)
  link_same left last on link target other n m d over rest i j al ag =
      let way = at_target (resolve_from left one last) (is_absolute target) (path_of (target_text target)) d over rest in
      let e : other ≡ target = one_target target other n m (node_at one link) (node_at two link) i j (ag link (head_is_in link way.trail)) in
      ap (λ z. follow_in left two last link z d over rest) e
      ∙ ap (passes link) (target_same (resolve_from left one last) (resolve_from left two last) on (is_absolute target) (path_of (target_text target)) d over rest al (agree_tail link way.trail ag))

  from_same : (left : ℕ) (last : Bool) (names : List (List ℕ)) (dir : ℕ) (above : List (List ℕ)) → Alive dir → Agree (resolve_from left one last dir above names).trail → resolve_from left two last dir above names ≡ resolve_from left one last dir above names
  from_same zero last names dir above alive agree =
      names_same last (λ link target holder over rest. refused reply.Loop) (λ link target holder over rest. refused reply.Loop) (λ link target other n m d over rest i j al ag. refl) names dir above alive agree
  from_same (suc left) last names dir above alive agree = names_same last (follow_in left one last) (follow_in left two last) (link_same left last (from_same left last)) names dir above alive agree

  -- a path leads the same way in both trees
  pub path_same : (last : Bool) (path : List (List ℕ)) → Agree (resolve one last path).trail → resolve two last path ≡ resolve one last path
  unfolding resolve
  path_same last path agree = from_same LINKS_FOLLOWED_MAX last path 0 [] root_alive agree

  -- an operation over one path
  one_path : (last : Bool) (path : List (List ℕ)) (make : List (List ℕ) → Op) → Agree (by_path (resolve one last path) make).trail → by_path (resolve two last path) make ≡ by_path (resolve one last path) make
  one_path last path make agree = ap (λ w. by_path w make) (path_same last path agree)

  -- nodes of one birth that are in both trees are directories in both or in none
  kind_same : (b : ℕ) (o : Option Node) → node_at one b ≡ o → is_some o ≡ true → is_some (node_at two b) ≡ true → is_dir (node_at two b) ≡ is_dir o
  kind_same b (Some (Dir es n)) i s t = ap is_dir (dir_two b es n i (node_at two b) refl t).2
  kind_same b (Some (File cells n w)) i s t = ap is_dir (file_two b cells n w i (node_at two b) refl t).3
  kind_same b (Some (Link target n)) i s t = ap is_dir (link_two b target n i (node_at two b) refl t).2
  kind_same b None i s t = absurd (cc)

  module _ (dirs : Bool) (path to : List (List ℕ)) (make : List (List ℕ) → List (List ℕ) → Op) where
    second_same : (c : Bool) (trail : List ℕ) (p : List (List ℕ)) → Agree (by_second c trail (resolve one false to) to (make p)).trail
        → by_second c trail (resolve two false to) to (make p) ≡ by_second c trail (resolve one false to) to (make p)
    second_same true trail p agree = ap (λ w. after_trail trail (by_path w (make p))) (path_same false to (λ b i. agree b (in_right b trail (resolve one false to).trail i)))
    second_same false trail p agree = refl

    first_same : (end : WalkEnd) (trail : List ℕ) → Found one end → Found two end → Agree (by_first one dirs end trail (resolve one false to) to make).trail
        → by_first two dirs end trail (resolve two false to) to make ≡ by_first one dirs end trail (resolve one false to) to make
    first_same (Refused r) trail s t agree = refl
    first_same (At p None) trail s t agree = refl
    first_same (At p (Some b)) trail s t agree =
        let k : is_found two dirs (Some b) ≡ is_found one dirs (Some b) = ap (λ z. dirs || not z) (kind_same b (node_at one b) refl s t) in
        ap (λ c. by_second c trail (resolve two false to) to (make p)) k ∙ second_same (is_found one dirs (Some b)) trail p agree

    in_second : (c : Bool) (trail : List ℕ) (p : List (List ℕ)) (b : ℕ) → is_in b trail ≡ true → is_in b (by_second c trail (resolve one false to) to (make p)).trail ≡ true
    in_second true trail p b i = in_left b trail (resolve one false to).trail i
    in_second false trail p b i = i

    in_first : (end : WalkEnd) (trail : List ℕ) (b : ℕ) → is_in b trail ≡ true → is_in b (by_first one dirs end trail (resolve one false to) to make).trail ≡ true
    in_first (At p found) trail b i = in_second (is_found one dirs found) trail p b i
    in_first (Refused r) trail b i = i

    -- an operation over two paths
    two_paths : Agree (by_paths one dirs (resolve one false path) (resolve one false to) to make).trail
        → by_paths two dirs (resolve two false path) (resolve two false to) to make ≡ by_paths one dirs (resolve one false path) (resolve one false to) to make
    two_paths agree =
        let walk = resolve one false path in
        let e : resolve two false path ≡ walk = path_same false path (λ b i. agree b (in_first walk.end walk.trail b i)) in
        ap (λ w. by_paths two dirs w (resolve two false to) to make) e
        ∙ first_same walk.end walk.trail (found_there one g.alive_one g.root_one false path) (subst (λ w. Found two w.end) e (found_there two g.alive_two g.root_two false path)) agree

  -- an operation comes to the same in both trees
  pub resolved_same : (o : Op) → Agree (resolved one o).trail → resolved two o ≡ resolved one o
  resolved_same (op.Create path) agree = one_path false path (λ p. op.Create p) agree
  resolved_same (op.Mkdir path) agree = one_path false path (λ p. op.Mkdir p) agree
  resolved_same (op.Symlink path target) agree = one_path false path (λ p. op.Symlink p target) agree
  resolved_same (op.Link path to) agree = two_paths false path to (λ p q. op.Link p q) agree
  resolved_same (op.Unlink path) agree = one_path false path (λ p. op.Unlink p) agree
  resolved_same (op.Rmdir path) agree = one_path false path (λ p. op.Rmdir p) agree
  resolved_same (op.Rename [] to) agree = refl
  resolved_same (op.Rename (n ∷ ns) []) agree = refl
  resolved_same (op.Rename (n ∷ ns) (m ∷ ms)) agree = two_paths true (n ∷ ns) (m ∷ ms) (λ p q. op.Rename p q) agree
  resolved_same (op.Write path off bytes) agree = one_path true path (λ p. op.Write p off bytes) agree
  resolved_same (op.Fill path off len byte) agree = one_path true path (λ p. op.Fill p off len byte) agree
  resolved_same (op.Truncate path len) agree = one_path true path (λ p. op.Truncate p len) agree
  resolved_same (op.Read path off len) agree = one_path true path (λ p. op.Read p off len) agree
  resolved_same (op.Stat path) agree = one_path false path (λ p. op.Stat p) agree
  resolved_same (op.List path) agree = one_path true path (λ p. op.List p) agree
  resolved_same (op.Readlink path) agree = one_path false path (λ p. op.Readlink p) agree
  resolved_same (op.Time path) agree = one_path true path (λ p. op.Time p) agree
  resolved_same op.Sync agree = refl
  resolved_same op.Mount agree = refl
  resolved_same op.Unmount agree = refl
  resolved_same op.Crash agree = refl
  resolved_same (op.CrashAt k) agree = refl
  resolved_same (op.CutAt k) agree = refl
  resolved_same op.Stall agree = refl

pub finds_what_is_there : WalksFindWhatIsThere
finds_what_is_there tree last path way birth w e = subst (Found tree) e (found_there tree w.entries w.rooted last path)

pub goes_by_its_trail : WalksGoByTheirTrail
goes_by_its_trail one two o walk_one walk_two kinds agree =
    resolved_same equal one two
    (record { births_one = walk_one.births; births_two = walk_two.births; alive_one = walk_one.entries; alive_two = walk_two.entries; root_one = walk_one.rooted; root_two = walk_two.rooted; kinds = kinds }) o
    (λ b i. like_equal equal (node_at one b) (node_at two b) (agree b i))
