-- Each return of a walk is what one step of the definition says.
use Rattle.std.proofs.Common.{rules, sym, ap, ◌∙◌, ◌≡◌, ◌++◌, ◌∷◌, [], Some, None, IfOk, ◌-◌, true, false, length, take, drop, subst, arith}
use Rattle.std.specs.Option.{option_copied}
use Rattle.frang_base.specs.PathText.{path_of}
use Rattle.frang_base.proofs.Lists.{first_and_rest}
use Rattle.tree_definitions.specs.declared.node.Node.TheVariants.{Dir}
use Rattle.tree_definitions.specs.Tree.{node_at}
use Rattle.tree_definitions.specs.Resolve.{is_absolute, target_text, resolve_from}
use Rattle.file_tree.specs.Walks.{path_or_none, passes_all, went}
use Rattle.file_tree.specs.Places.{reply_of}
use Rattle.file_tree.proofs.WalkReturns.{at_end, ends, stays, into, no_path, from_root, from_here}
use Rattle.file_tree.proofs.resolve.+walk_on.Goals as goal

pub returns : goal.returns
returns t c =
    let names = c.args.names.now in
    let rest = take (length names - 1) (drop 1 names) in
    let split : names ≡ c.name-item.result ∷ rest = first_and_rest names c.name-item.result c.in-len1-up.len_at_least c.name-item.is in
    let is : node_at c.args.tree.now c.args.dir ≡ Some (Dir c.in-Some-Dir.entries c.in-Some-Dir.field-0-1) = sym c.node.ensures.is ∙ ap option_copied c.in-Some-Dir.is ∙ ap Some c.in-Some-Dir.field-0-is in
    let pushed : c.push.new.self.items ≡ c.args.trail.now.items ++ c.args.dir ∷ [] = c.in_ok-push.ensures.items in
    stays c.args.left c.args.tree.now c.args.last c.args.dir c.args.above.now names c.name-item.result rest c.in-Some-Dir.entries c.in-Some-Dir.field-0-1 split is c.args.trail.now.items c.push.new.self.items pushed
    (reply_of c.in-Stays.refusal) c.in-Stays.ensures

pub returns-in-Ends : goal.returns-in-Ends
returns-in-Ends t c =
    let names = c.args.names.now in
    let rest = take (length names - 1) (drop 1 names) in
    let split : names ≡ c.name-item.result ∷ rest = first_and_rest names c.name-item.result c.in-len1-up.len_at_least c.name-item.is in
    let is : node_at c.args.tree.now c.args.dir ≡ Some (Dir c.in-Some-Dir.entries c.in-Some-Dir.field-0-1) = sym c.node.ensures.is ∙ ap option_copied c.in-Some-Dir.is ∙ ap Some c.in-Some-Dir.field-0-is in
    let pushed : c.push.new.self.items ≡ c.args.trail.now.items ++ c.args.dir ∷ [] = c.in_ok-push.ensures.items in
    ends c.args.left c.args.tree.now c.args.last c.args.dir c.args.above.now names c.name-item.result rest c.in-Some-Dir.entries c.in-Some-Dir.field-0-1 split is c.args.trail.now.items c.push.new.self.items pushed
    c.in-Ends.found c.in_ok-path-in-Ends.path c.in_ok-path-in-Ends.ensures c.in-Ends.ensures

pub returns-in-Into : goal.returns-in-Into
returns-in-Into t c =
    let names = c.args.names.now in
    let rest = take (length names - 1) (drop 1 names) in
    let split : names ≡ c.name-item.result ∷ rest = first_and_rest names c.name-item.result c.in-len1-up.len_at_least c.name-item.is in
    let is : node_at c.args.tree.now c.args.dir ≡ Some (Dir c.in-Some-Dir.entries c.in-Some-Dir.field-0-1) = sym c.node.ensures.is ∙ ap option_copied c.in-Some-Dir.is ∙ ap Some c.in-Some-Dir.field-0-is in
    let pushed : c.push.new.self.items ≡ c.args.trail.now.items ++ c.args.dir ∷ [] = c.in_ok-push.ensures.items in
    subst (λ w. IfOk c.walk_on.result (λ end. went end c.walk_on.new.trail.items ≡ w))
    (into c.args.left c.args.tree.now c.args.last c.args.dir c.args.above.now names c.name-item.result rest c.in-Some-Dir.entries c.in-Some-Dir.field-0-1 split is c.args.trail.now.items c.push.new.self.items pushed
    c.in-Into.birth c.in_ok-here-in-Into.here c.in_ok-here-in-Into.ensures c.in-Into.ensures)
    c.walk_on.ensures

pub returns-in-None-2 : goal.returns-in-None-2
returns-in-None-2 t c =
    let names = c.args.names.now in
    let rest = take (length names - 1) (drop 1 names) in
    let split : names ≡ c.name-item.result ∷ rest = first_and_rest names c.name-item.result c.in-len1-up.len_at_least c.name-item.is in
    let is : node_at c.args.tree.now c.args.dir ≡ Some (Dir c.in-Some-Dir.entries c.in-Some-Dir.field-0-1) = sym c.node.ensures.is ∙ ap option_copied c.in-Some-Dir.is ∙ ap Some c.in-Some-Dir.field-0-is in
    let pushed : c.push.new.self.items ≡ c.args.trail.now.items ++ c.args.dir ∷ [] = c.in_ok-push.ensures.items in
    let through : c.push-in-Follows.new.self.items ≡ c.push.new.self.items ++ c.in-Follows.link ∷ [] = c.in_ok-push-in-Follows.ensures.items in
    let none : path_or_none (path_of (target_text c.in-Follows.target.now)) ≡ None = search rules in
    no_path c.args.left c.args.tree.now c.args.last c.args.dir c.args.above.now names c.name-item.result rest c.in-Some-Dir.entries c.in-Some-Dir.field-0-1 split is c.args.trail.now.items c.push.new.self.items pushed
    c.in-Follows.link c.in-Follows.target.now c.in-Follows.ensures c.push-in-Follows.new.self.items through (omega arith) none

pub returns-then-is_absolute : goal.returns-then-is_absolute
returns-then-is_absolute t c =
    let names = c.args.names.now in
    let rest = take (length names - 1) (drop 1 names) in
    let split : names ≡ c.name-item.result ∷ rest = first_and_rest names c.name-item.result c.in-len1-up.len_at_least c.name-item.is in
    let is : node_at c.args.tree.now c.args.dir ≡ Some (Dir c.in-Some-Dir.entries c.in-Some-Dir.field-0-1) = sym c.node.ensures.is ∙ ap option_copied c.in-Some-Dir.is ∙ ap Some c.in-Some-Dir.field-0-is in
    let pushed : c.push.new.self.items ≡ c.args.trail.now.items ++ c.args.dir ∷ [] = c.in_ok-push.ensures.items in
    let through : c.push-in-Follows.new.self.items ≡ c.push.new.self.items ++ c.in-Follows.link ∷ [] = c.in_ok-push-in-Follows.ensures.items in
    let leads : path_or_none (path_of (target_text c.in-Follows.target.now)) ≡ Some c.in-Some.inner = search rules in
    let absolute : is_absolute c.in-Follows.target.now ≡ true = search rules in
    let way = c.as_slice-then-is_absolute.result.now in
    let same : way ≡ c.in-Some.inner ++ rest = search rules in
    let top : c.new-root.result ≡ [] = search rules in
    let walked : IfOk c.walk_on-then-is_absolute.result (λ end. went end c.walk_on-then-is_absolute.new.trail.items ≡ passes_all c.push-in-Follows.new.self.items (resolve_from (c.args.left - 1) c.args.tree.now c.args.last 0 c.new-root.result way)) = search rules in
    subst (λ w. IfOk c.walk_on-then-is_absolute.result (λ end. went end c.walk_on-then-is_absolute.new.trail.items ≡ w))
    (from_root c.args.left c.args.tree.now c.args.last c.args.dir c.args.above.now names c.name-item.result rest c.in-Some-Dir.entries c.in-Some-Dir.field-0-1 split is c.args.trail.now.items c.push.new.self.items pushed
    c.in-Follows.link c.in-Follows.target.now c.in-Follows.ensures c.push-in-Follows.new.self.items through (omega arith) c.in-Some.inner way c.new-root.result leads same top absolute)
    walked

pub returns-in-Follows : goal.returns-in-Follows
returns-in-Follows t c =
    let names = c.args.names.now in
    let rest = take (length names - 1) (drop 1 names) in
    let split : names ≡ c.name-item.result ∷ rest = first_and_rest names c.name-item.result c.in-len1-up.len_at_least c.name-item.is in
    let is : node_at c.args.tree.now c.args.dir ≡ Some (Dir c.in-Some-Dir.entries c.in-Some-Dir.field-0-1) = sym c.node.ensures.is ∙ ap option_copied c.in-Some-Dir.is ∙ ap Some c.in-Some-Dir.field-0-is in
    let pushed : c.push.new.self.items ≡ c.args.trail.now.items ++ c.args.dir ∷ [] = c.in_ok-push.ensures.items in
    let through : c.push-in-Follows.new.self.items ≡ c.push.new.self.items ++ c.in-Follows.link ∷ [] = c.in_ok-push-in-Follows.ensures.items in
    let leads : path_or_none (path_of (target_text c.in-Follows.target.now)) ≡ Some c.in-Some.inner = search rules in
    let relative : is_absolute c.in-Follows.target.now ≡ false = search rules in
    let way = c.as_slice-else-is_absolute.result.now in
    let same : way ≡ c.in-Some.inner ++ rest = search rules in
    let walked : IfOk c.walk_on-else-is_absolute.result (λ end. went end c.walk_on-else-is_absolute.new.trail.items ≡ passes_all c.push-in-Follows.new.self.items (resolve_from (c.args.left - 1) c.args.tree.now c.args.last c.args.dir c.args.above.now way)) = search rules in
    subst (λ w. IfOk c.walk_on-else-is_absolute.result (λ end. went end c.walk_on-else-is_absolute.new.trail.items ≡ w))
    (from_here c.args.left c.args.tree.now c.args.last c.args.dir c.args.above.now names c.name-item.result rest c.in-Some-Dir.entries c.in-Some-Dir.field-0-1 split is c.args.trail.now.items c.push.new.self.items pushed
    c.in-Follows.link c.in-Follows.target.now c.in-Follows.ensures c.push-in-Follows.new.self.items through (omega arith) c.in-Some.inner way leads same relative)
    walked

pub returns-in-empty : goal.returns-in-empty
returns-in-empty t c = at_end c.args.left c.args.tree.now c.args.last c.args.dir c.args.above.now c.args.names.now c.args.trail.now.items c.ends_at.result (omega arith) c.ends_at.ensures
