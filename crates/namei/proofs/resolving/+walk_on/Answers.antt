-- Each return of a walk is what one step of the definition says, behind the trail.
use Rattle.std.proofs.Common.{◌≡◌, ◌<◌, ◌-◌, ◌∷◌, ◌++◌, ℕ, List, [], IfOk, append-nil, length, take, drop, sym, ap, ap₂, subst, ◌∙◌, arith}
use Rattle.frang_base.proofs.Lists.{first_and_rest}
use Rattle.disk_definitions.specs.Resolving.{Leads, Refused, Resolution, resolve_from}
use Rattle.dir_lookup.specs.Reading.{Read, Gives}
use Rattle.dir_lookup.proofs.Through.{no_names}
use Rattle.dir_lookup.specs.Spots.{reply_of}
use Rattle.dir_lookup.specs.declared.spot.Refusal.TheVariants as refusal
use Rattle.namei.specs.declared.onward.Next.TheVariants as next
use Rattle.namei.specs.Walks.{after, read_as}
use Rattle.namei.proofs.NameSteps.{after_after, over}
use Rattle.namei.proofs.LinkSteps.{at_end, goes, by_way, loops, follows}
use Rattle.dir_lookup.specs.Looked.{Adds}
use Rattle.dir_lookup.proofs.Looking.{adds_as, adds_none}
use Rattle.namei.proofs.NameLooks.{seen}
use Rattle.namei.proofs.LinkLooks.{ends_looks, end_looks, goes_looks, left_as, link_looks, no_link_looks, on_looks, on_ok_then, then_looks, by_way as looks_by_way}
use Rattle.namei.proofs.resolving.+walk_on.Goals as goal

pub returns-in-empty-clause-leads : goal.returns-in-empty-clause-leads
returns-in-empty-clause-leads t c held =
    c.leads.ensures
    ∙ at_end c.args.ground.now.sectors.now.entries held c.args.left c.args.ground.now.last c.args.dir c.args.above c.args.names.now c.args.trail.items (no_names c.args.names.now c.in-empty.len_below)

pub returns-in-Need-clause-leads : goal.returns-in-Need-clause-leads
returns-in-Need-clause-leads t c held =
    let cached = c.args.ground.now.sectors.now.entries in
    let last = c.args.ground.now.last in
    let dir : ℕ = c.args.dir in
    let names = c.args.names.now in
    let name = c.name-item.result in
    let way = c.args.trail.items in
    let rest = take (length names - 1) (drop 1 names) in
    let split : names ≡ name ∷ rest = first_and_rest names name c.in-len1-up.len_at_least c.name-item.is in
    ap (after way) (goes cached held c.args.left last dir c.args.above names name rest split (next.Need c.in-Need.sector) (c.in-Need.ensures.leads held))

pub returns-in-Lost-clause-leads : goal.returns-in-Lost-clause-leads
returns-in-Lost-clause-leads t c held =
    let cached = c.args.ground.now.sectors.now.entries in
    let last = c.args.ground.now.last in
    let dir : ℕ = c.args.dir in
    let names = c.args.names.now in
    let name = c.name-item.result in
    let way = c.args.trail.items in
    let rest = take (length names - 1) (drop 1 names) in
    let split : names ≡ name ∷ rest = first_and_rest names name c.in-len1-up.len_at_least c.name-item.is in
    c.lost.ensures ∙ ap (λ (t : List ℕ). Gives (record { end = Refused (reply_of c.in-Lost.refusal); trail = t })) (sym (append-nil way)) ∙ ap (after way) (goes cached held c.args.left last dir c.args.above names name rest split (next.Lost c.in-Lost.refusal) (c.in-Lost.ensures.leads held))

pub returns-in_ok-with_node-in-Stays-clause-leads : goal.returns-in_ok-with_node-in-Stays-clause-leads
returns-in_ok-with_node-in-Stays-clause-leads t c held =
    let cached = c.args.ground.now.sectors.now.entries in
    let last = c.args.ground.now.last in
    let dir : ℕ = c.args.dir in
    let names = c.args.names.now in
    let name = c.name-item.result in
    let way = c.args.trail.items in
    let rest = take (length names - 1) (drop 1 names) in
    let split : names ≡ name ∷ rest = first_and_rest names name c.in-len1-up.len_at_least c.name-item.is in
    c.lost-in-Stays.ensures ∙ ap (λ (t : List ℕ). Gives (record { end = Refused (reply_of c.in-Stays.refusal); trail = t })) c.in_ok-with_node-in-Stays.ensures ∙ ap (after way) (goes cached held c.args.left last dir c.args.above names name rest split (next.Stays c.in-Stays.refusal) (c.in-Stays.ensures.leads held))

pub returns-in_ok-with_name-in-Ends-clause-leads : goal.returns-in_ok-with_name-in-Ends-clause-leads
returns-in_ok-with_name-in-Ends-clause-leads t c held =
    let cached = c.args.ground.now.sectors.now.entries in
    let last = c.args.ground.now.last in
    let dir : ℕ = c.args.dir in
    let names = c.args.names.now in
    let name = c.name-item.result in
    let way = c.args.trail.items in
    let rest = take (length names - 1) (drop 1 names) in
    let split : names ≡ name ∷ rest = first_and_rest names name c.in-len1-up.len_at_least c.name-item.is in
    c.leads-in-Ends.ensures
    ∙ ap₂ (λ (p : List (List ℕ)) (t : List ℕ). Gives (record { end = Leads p c.in-Ends.kind; trail = t })) c.in_ok-with_name-in-Ends.ensures c.in_ok-trail-in-Ends.ensures
    ∙ ap (after way) (goes cached held c.args.left last dir c.args.above names name rest split (next.Ends c.in-Ends.kind) (c.in-Ends.ensures.leads held))

pub returns-in_ok-above-in-Into-clause-leads : goal.returns-in_ok-above-in-Into-clause-leads
returns-in_ok-above-in-Into-clause-leads t c held =
    let cached = c.args.ground.now.sectors.now.entries in
    let last = c.args.ground.now.last in
    let dir : ℕ = c.args.dir in
    let names = c.args.names.now in
    let name = c.name-item.result in
    let way = c.args.trail.items in
    let rest = take (length names - 1) (drop 1 names) in
    let split : names ≡ name ∷ rest = first_and_rest names name c.in-len1-up.len_at_least c.name-item.is in
    let on : List (List ℕ) → Read Resolution = λ h. over cached held (resolve_from c.args.left last c.in-Into.inode h rest) in
    subst (λ w. IfOk c.walk_on.result (λ r. read_as r ≡ w))
    (ap₂ (λ (t : List ℕ) (h : List (List ℕ)). after t (on h)) c.in_ok-trail-in-Into.ensures c.in_ok-above-in-Into.ensures
    ∙ sym (after_after way (dir ∷ []) (on (c.args.above ++ name ∷ [])))
    ∙ ap (after way) (goes cached held c.args.left last dir c.args.above names name rest split (next.Into c.in-Into.inode) (c.in-Into.ensures.leads held)))
    (c.walk_on.ensures.leads held)

pub returns-then-left-eq0-clause-leads : goal.returns-then-left-eq0-clause-leads
returns-then-left-eq0-clause-leads t c held =
    let cached = c.args.ground.now.sectors.now.entries in
    let last = c.args.ground.now.last in
    let dir : ℕ = c.args.dir in
    let names = c.args.names.now in
    let name = c.name-item.result in
    let way = c.args.trail.items in
    let rest = take (length names - 1) (drop 1 names) in
    let split : names ≡ name ∷ rest = first_and_rest names name c.in-len1-up.len_at_least c.name-item.is in
    c.looped.ensures ∙ loops cached held c.args.left last dir c.args.above names name rest split c.in-Follows.link (c.in-Follows.ensures.leads held) way c.in_ok-holder-in-Follows.holder.items c.if-left-eq0.true c.in_ok-holder-in-Follows.ensures

pub returns-in-Need-2-clause-leads : goal.returns-in-Need-2-clause-leads
returns-in-Need-2-clause-leads t c held =
    let cached = c.args.ground.now.sectors.now.entries in
    let last = c.args.ground.now.last in
    let dir : ℕ = c.args.dir in
    let names = c.args.names.now in
    let name = c.name-item.result in
    let way = c.args.trail.items in
    let rest = take (length names - 1) (drop 1 names) in
    let split : names ≡ name ∷ rest = first_and_rest names name c.in-len1-up.len_at_least c.name-item.is in
    let w = c.in_ok-sector-in-Follows.field-0 in
    let next_walk = resolve_from (c.args.left - 1) last in
    let trail = c.in_ok-trail-in-Follows.trail.items in
    let followed = follows cached held c.args.left last dir c.args.above names name rest split c.in-Follows.link (c.in-Follows.ensures.leads held) way c.in_ok-holder-in-Follows.holder.items trail w (omega arith) c.in_ok-holder-in-Follows.ensures c.in_ok-trail-in-Follows.ensures (c.in_ok-sector-in-Follows.ensures.leads held next_walk dir c.args.above) in
    ap (λ w. after trail (by_way cached held next_walk dir c.args.above rest w)) (sym c.in-Need-2.is) ∙ followed

pub returns-in-Nowhere-clause-leads : goal.returns-in-Nowhere-clause-leads
returns-in-Nowhere-clause-leads t c held =
    let cached = c.args.ground.now.sectors.now.entries in
    let last = c.args.ground.now.last in
    let dir : ℕ = c.args.dir in
    let names = c.args.names.now in
    let name = c.name-item.result in
    let way = c.args.trail.items in
    let rest = take (length names - 1) (drop 1 names) in
    let split : names ≡ name ∷ rest = first_and_rest names name c.in-len1-up.len_at_least c.name-item.is in
    let w = c.in_ok-sector-in-Follows.field-0 in
    let next_walk = resolve_from (c.args.left - 1) last in
    let trail = c.in_ok-trail-in-Follows.trail.items in
    let followed = follows cached held c.args.left last dir c.args.above names name rest split c.in-Follows.link (c.in-Follows.ensures.leads held) way c.in_ok-holder-in-Follows.holder.items trail w (omega arith) c.in_ok-holder-in-Follows.ensures c.in_ok-trail-in-Follows.ensures (c.in_ok-sector-in-Follows.ensures.leads held next_walk dir c.args.above) in
    c.lost-in-Nowhere.ensures ∙ ap (λ (t : List ℕ). Gives (record { end = Refused (reply_of refusal.NoEnt); trail = t })) (sym (append-nil trail))
    ∙ ap (λ w. after trail (by_way cached held next_walk dir c.args.above rest w)) (sym c.in-Nowhere.is) ∙ followed

pub returns-in-FromRoot-clause-leads : goal.returns-in-FromRoot-clause-leads
returns-in-FromRoot-clause-leads t c held =
    let cached = c.args.ground.now.sectors.now.entries in
    let last = c.args.ground.now.last in
    let dir : ℕ = c.args.dir in
    let names = c.args.names.now in
    let name = c.name-item.result in
    let way = c.args.trail.items in
    let rest = take (length names - 1) (drop 1 names) in
    let split : names ≡ name ∷ rest = first_and_rest names name c.in-len1-up.len_at_least c.name-item.is in
    let w = c.in_ok-sector-in-Follows.field-0 in
    let next_walk = resolve_from (c.args.left - 1) last in
    let trail = c.in_ok-trail-in-Follows.trail.items in
    let followed = follows cached held c.args.left last dir c.args.above names name rest split c.in-Follows.link (c.in-Follows.ensures.leads held) way c.in_ok-holder-in-Follows.holder.items trail w (omega arith) c.in_ok-holder-in-Follows.ensures c.in_ok-trail-in-Follows.ensures (c.in_ok-sector-in-Follows.ensures.leads held next_walk dir c.args.above) in
    let e : over cached held (next_walk 0 c.new-root.result c.as_slice.result.now) ≡ over cached held (next_walk 0 [] c.in-FromRoot.way) = ap₂ (λ r l. over cached held (next_walk 0 r l)) c.new-root.ensures c.as_slice.ensures in
    subst (λ w. IfOk c.walk_on-in-FromRoot.result (λ r. read_as r ≡ w)) (ap (after trail) e ∙ ap (λ w. after trail (by_way cached held next_walk dir c.args.above rest w)) (sym c.in-FromRoot.is) ∙ followed) (c.walk_on-in-FromRoot.ensures.leads held)

pub returns-in-FromHere-clause-leads : goal.returns-in-FromHere-clause-leads
returns-in-FromHere-clause-leads t c held =
    let cached = c.args.ground.now.sectors.now.entries in
    let last = c.args.ground.now.last in
    let dir : ℕ = c.args.dir in
    let names = c.args.names.now in
    let name = c.name-item.result in
    let way = c.args.trail.items in
    let rest = take (length names - 1) (drop 1 names) in
    let split : names ≡ name ∷ rest = first_and_rest names name c.in-len1-up.len_at_least c.name-item.is in
    let w = c.in_ok-sector-in-Follows.field-0 in
    let next_walk = resolve_from (c.args.left - 1) last in
    let trail = c.in_ok-trail-in-Follows.trail.items in
    let followed = follows cached held c.args.left last dir c.args.above names name rest split c.in-Follows.link (c.in-Follows.ensures.leads held) way c.in_ok-holder-in-Follows.holder.items trail w (omega arith) c.in_ok-holder-in-Follows.ensures c.in_ok-trail-in-Follows.ensures (c.in_ok-sector-in-Follows.ensures.leads held next_walk dir c.args.above) in
    let e : over cached held (next_walk dir c.args.above c.as_slice-in-FromHere.result.now) ≡ over cached held (next_walk dir c.args.above c.in-FromHere.way) = ap (λ l. over cached held (next_walk dir c.args.above l)) c.as_slice-in-FromHere.ensures in
    subst (λ w. IfOk c.walk_on-in-FromHere.result (λ r. read_as r ≡ w)) (ap (after trail) e ∙ ap (λ w. after trail (by_way cached held next_walk dir c.args.above rest w)) (sym c.in-FromHere.is) ∙ followed) (c.walk_on-in-FromHere.ensures.leads held)

pub returns-in-empty-clause-looks : goal.returns-in-empty-clause-looks
returns-in-empty-clause-looks t c held =
    adds_as _ _ _ _ (end_looks c.args.ground.now.sectors.now.entries held c.args.left c.args.ground.now.last c.args.dir c.args.above c.args.names.now (no_names c.args.names.now c.in-empty.len_below)) (adds_none _)

pub returns-in-Need-clause-looks : goal.returns-in-Need-clause-looks
returns-in-Need-clause-looks t c held =
    let cached = c.args.ground.now.sectors.now.entries in
    let last = c.args.ground.now.last in
    let dir : ℕ = c.args.dir in
    let names = c.args.names.now in
    let name = c.name-item.result in
    let rest = take (length names - 1) (drop 1 names) in
    let split : names ≡ name ∷ rest = first_and_rest names name c.in-len1-up.len_at_least c.name-item.is in
    ends_looks _ _ _ (goes_looks cached held _ _ c.args.left last dir c.args.above names name rest split (next.Need c.in-Need.sector) (c.in-Need.ensures.looks held))

pub returns-in-Lost-clause-looks : goal.returns-in-Lost-clause-looks
returns-in-Lost-clause-looks t c held =
    let cached = c.args.ground.now.sectors.now.entries in
    let last = c.args.ground.now.last in
    let dir : ℕ = c.args.dir in
    let names = c.args.names.now in
    let name = c.name-item.result in
    let rest = take (length names - 1) (drop 1 names) in
    let split : names ≡ name ∷ rest = first_and_rest names name c.in-len1-up.len_at_least c.name-item.is in
    ends_looks _ _ _ (goes_looks cached held _ _ c.args.left last dir c.args.above names name rest split (next.Lost c.in-Lost.refusal) (c.in-Lost.ensures.looks held))

pub returns-in_ok-with_node-in-Stays-clause-looks : goal.returns-in_ok-with_node-in-Stays-clause-looks
returns-in_ok-with_node-in-Stays-clause-looks t c held =
    let cached = c.args.ground.now.sectors.now.entries in
    let last = c.args.ground.now.last in
    let dir : ℕ = c.args.dir in
    let names = c.args.names.now in
    let name = c.name-item.result in
    let rest = take (length names - 1) (drop 1 names) in
    let split : names ≡ name ∷ rest = first_and_rest names name c.in-len1-up.len_at_least c.name-item.is in
    ends_looks _ _ _ (goes_looks cached held _ _ c.args.left last dir c.args.above names name rest split (next.Stays c.in-Stays.refusal) (c.in-Stays.ensures.looks held))

pub returns-in_ok-with_name-in-Ends-clause-looks : goal.returns-in_ok-with_name-in-Ends-clause-looks
returns-in_ok-with_name-in-Ends-clause-looks t c held =
    let cached = c.args.ground.now.sectors.now.entries in
    let last = c.args.ground.now.last in
    let dir : ℕ = c.args.dir in
    let names = c.args.names.now in
    let name = c.name-item.result in
    let rest = take (length names - 1) (drop 1 names) in
    let split : names ≡ name ∷ rest = first_and_rest names name c.in-len1-up.len_at_least c.name-item.is in
    ends_looks _ _ _ (goes_looks cached held _ _ c.args.left last dir c.args.above names name rest split (next.Ends c.in-Ends.kind) (c.in-Ends.ensures.looks held))

pub returns-in_ok-above-in-Into-clause-looks : goal.returns-in_ok-above-in-Into-clause-looks
returns-in_ok-above-in-Into-clause-looks t c held =
    let cached = c.args.ground.now.sectors.now.entries in
    let last = c.args.ground.now.last in
    let dir : ℕ = c.args.dir in
    let names = c.args.names.now in
    let name = c.name-item.result in
    let rest = take (length names - 1) (drop 1 names) in
    let split : names ≡ name ∷ rest = first_and_rest names name c.in-len1-up.len_at_least c.name-item.is in
    on_ok_then c.walk_on.result (c.walk_on.ensures.looks held)
    (λ f. on_looks _ _ _ _ _ (goes_looks cached held _ _ c.args.left last dir c.args.above names name rest split (next.Into c.in-Into.inode) (c.in-Into.ensures.looks held))
    (adds_as _ _ _ _ (ap (λ h. seen cached held (resolve_from c.args.left last c.in-Into.inode h rest)) c.in_ok-above-in-Into.ensures) f))

pub returns-then-left-eq0-clause-looks : goal.returns-then-left-eq0-clause-looks
returns-then-left-eq0-clause-looks t c held =
    let cached = c.args.ground.now.sectors.now.entries in
    let last = c.args.ground.now.last in
    let dir : ℕ = c.args.dir in
    let names = c.args.names.now in
    let name = c.name-item.result in
    let rest = take (length names - 1) (drop 1 names) in
    let split : names ≡ name ∷ rest = first_and_rest names name c.in-len1-up.len_at_least c.name-item.is in
    ends_looks _ _ _ (left_as _ _ _ _ _ (no_link_looks cached held c.args.left last dir c.args.above rest c.in-Follows.link c.if-left-eq0.true) (goes_looks cached held _ _ c.args.left last dir c.args.above names name rest split (next.Follows c.in-Follows.link) (c.in-Follows.ensures.looks held)))

pub returns-in-Need-2-clause-looks : goal.returns-in-Need-2-clause-looks
returns-in-Need-2-clause-looks t c held =
    let cached = c.args.ground.now.sectors.now.entries in
    let last = c.args.ground.now.last in
    let dir : ℕ = c.args.dir in
    let names = c.args.names.now in
    let name = c.name-item.result in
    let rest = take (length names - 1) (drop 1 names) in
    let split : names ≡ name ∷ rest = first_and_rest names name c.in-len1-up.len_at_least c.name-item.is in
    let next_walk = resolve_from (c.args.left - 1) last in
    let w = c.in_ok-sector-in-Follows.field-0 in
    let some : 0 < c.args.left = omega arith in
    let followed = then_looks _ _ _ _ _ _ (left_as _ _ _ _ _ (link_looks cached held c.args.left last dir c.args.above rest c.in-Follows.link some) (goes_looks cached held _ _ c.args.left last dir c.args.above names name rest split (next.Follows c.in-Follows.link) (c.in-Follows.ensures.looks held))) (c.in_ok-sector-in-Follows.ensures.looks held next_walk dir c.args.above) in
    ends_looks _ _ _ (left_as _ _ _ _ _ (ap (looks_by_way cached held next_walk dir c.args.above rest) c.in-Need-2.is) followed)

pub returns-in-Nowhere-clause-looks : goal.returns-in-Nowhere-clause-looks
returns-in-Nowhere-clause-looks t c held =
    let cached = c.args.ground.now.sectors.now.entries in
    let last = c.args.ground.now.last in
    let dir : ℕ = c.args.dir in
    let names = c.args.names.now in
    let name = c.name-item.result in
    let rest = take (length names - 1) (drop 1 names) in
    let split : names ≡ name ∷ rest = first_and_rest names name c.in-len1-up.len_at_least c.name-item.is in
    let next_walk = resolve_from (c.args.left - 1) last in
    let w = c.in_ok-sector-in-Follows.field-0 in
    let some : 0 < c.args.left = omega arith in
    let followed = then_looks _ _ _ _ _ _ (left_as _ _ _ _ _ (link_looks cached held c.args.left last dir c.args.above rest c.in-Follows.link some) (goes_looks cached held _ _ c.args.left last dir c.args.above names name rest split (next.Follows c.in-Follows.link) (c.in-Follows.ensures.looks held))) (c.in_ok-sector-in-Follows.ensures.looks held next_walk dir c.args.above) in
    ends_looks _ _ _ (left_as _ _ _ _ _ (ap (looks_by_way cached held next_walk dir c.args.above rest) c.in-Nowhere.is) followed)

pub returns-in-FromRoot-clause-looks : goal.returns-in-FromRoot-clause-looks
returns-in-FromRoot-clause-looks t c held =
    let cached = c.args.ground.now.sectors.now.entries in
    let last = c.args.ground.now.last in
    let dir : ℕ = c.args.dir in
    let names = c.args.names.now in
    let name = c.name-item.result in
    let rest = take (length names - 1) (drop 1 names) in
    let split : names ≡ name ∷ rest = first_and_rest names name c.in-len1-up.len_at_least c.name-item.is in
    let next_walk = resolve_from (c.args.left - 1) last in
    let w = c.in_ok-sector-in-Follows.field-0 in
    let some : 0 < c.args.left = omega arith in
    let followed = then_looks _ _ _ _ _ _ (left_as _ _ _ _ _ (link_looks cached held c.args.left last dir c.args.above rest c.in-Follows.link some) (goes_looks cached held _ _ c.args.left last dir c.args.above names name rest split (next.Follows c.in-Follows.link) (c.in-Follows.ensures.looks held))) (c.in_ok-sector-in-Follows.ensures.looks held next_walk dir c.args.above) in
    on_ok_then c.walk_on-in-FromRoot.result (c.walk_on-in-FromRoot.ensures.looks held)
    (λ f. on_looks _ _ _ _ _ (left_as _ _ _ _ _ (ap (looks_by_way cached held next_walk dir c.args.above rest) c.in-FromRoot.is) followed)
    (adds_as _ _ _ _ (ap₂ (λ r l. seen cached held (next_walk 0 r l)) c.new-root.ensures c.as_slice.ensures) f))

pub returns-in-FromHere-clause-looks : goal.returns-in-FromHere-clause-looks
returns-in-FromHere-clause-looks t c held =
    let cached = c.args.ground.now.sectors.now.entries in
    let last = c.args.ground.now.last in
    let dir : ℕ = c.args.dir in
    let names = c.args.names.now in
    let name = c.name-item.result in
    let rest = take (length names - 1) (drop 1 names) in
    let split : names ≡ name ∷ rest = first_and_rest names name c.in-len1-up.len_at_least c.name-item.is in
    let next_walk = resolve_from (c.args.left - 1) last in
    let w = c.in_ok-sector-in-Follows.field-0 in
    let some : 0 < c.args.left = omega arith in
    let followed = then_looks _ _ _ _ _ _ (left_as _ _ _ _ _ (link_looks cached held c.args.left last dir c.args.above rest c.in-Follows.link some) (goes_looks cached held _ _ c.args.left last dir c.args.above names name rest split (next.Follows c.in-Follows.link) (c.in-Follows.ensures.looks held))) (c.in_ok-sector-in-Follows.ensures.looks held next_walk dir c.args.above) in
    on_ok_then c.walk_on-in-FromHere.result (c.walk_on-in-FromHere.ensures.looks held)
    (λ f. on_looks _ _ _ _ _ (left_as _ _ _ _ _ (ap (looks_by_way cached held next_walk dir c.args.above rest) c.in-FromHere.is) followed)
    (adds_as _ _ _ _ (ap (λ l. seen cached held (next_walk dir c.args.above l)) c.as_slice-in-FromHere.ensures) f))
