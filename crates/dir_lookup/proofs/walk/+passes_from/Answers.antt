-- Name after name.
use Rattle.std.proofs.Common.{◌≡◌, ◌≤◌, ◌-◌, false, Ok, Err, ℕ, List, [], ◌∷◌, ◌++◌, length, drop, take, refl, sym, ap, subst, rules, arith, ◌∙◌}
use Rattle.dir_lookup.specs.declared.spot.Spot.TheVariants as spot
use Rattle.dir_lookup.specs.Spots.{led_of, looked_in, spot_of, walked_in}
use Rattle.dir_lookup.proofs.Steps.{more_names, one_name, said_err, said_ok}
use Rattle.dir_lookup.specs.Passing.{PassesFrom}
use Rattle.dir_lookup.proofs.Through.{first_lacks, no_names, passes_lack, passes_lost, passes_more, passes_none, passes_one}
use Rattle.disk_definitions.specs.Walks.{walk_from}
use Rattle.dir_lookup.specs.Looked.{Adds}
use Rattle.dir_lookup.specs.Looks.{looks_of}
use Rattle.dir_lookup.specs.Spots.{reply_of}
use Rattle.dir_lookup.proofs.Looking.{adds_as, adds_none, adds_then}
use Rattle.dir_lookup.proofs.WalkLooks.{first_goes, first_lost, first_missing}
use Rattle.dir_lookup.proofs.walk.+passes_from.Goals as goal

pub returns-in-empty-clause-passes : goal.returns-in-empty-clause-passes
returns-in-empty-clause-passes t c held dirs =
    let cached = c.args.sectors.now.entries in
    subst (λ names. PassesFrom cached held c.args.from names c.args.inode dirs (Ok (spot.AtRoot, false))) (sym (no_names c.args.names.now c.in-empty.len_below)) (passes_none cached held c.args.from c.args.inode dirs)

pub returns-in_err-spot-in-len1-clause-passes : goal.returns-in_err-spot-in-len1-clause-passes
returns-in_err-spot-in-len1-clause-passes t c held dirs =
    let cached = c.args.sectors.now.entries in
    let name = c.name-item.result in
    let need = c.in_err-spot-in-len1.field-0.0 in
    let e : c.from_residual.result ≡ Err need = search rules in
    let n : c.args.names.now ≡ name ∷ [] = one_name c.args.names.now name c.in-len1.len_at_least c.in-len1.len_below c.name-item.is in
    subst (PassesFrom cached held c.args.from c.args.names.now c.args.inode dirs) (sym e)
    (subst (λ names. PassesFrom cached held c.args.from names c.args.inode dirs (Err need)) (sym n)
    (sym (said_err (λ s. walked_in dirs c.args.from (spot_of s)) c.step.result need _ c.in_err-spot-in-len1.was (c.step.ensures.reads dirs held))))

pub returns-in_ok-spot-in-len1-clause-passes : goal.returns-in_ok-spot-in-len1-clause-passes
returns-in_ok-spot-in-len1-clause-passes t c held dirs =
    let cached = c.args.sectors.now.entries in
    let name = c.name-item.result in
    let s = c.in_ok-spot-in-len1.spot in
    let n : c.args.names.now ≡ name ∷ [] = one_name c.args.names.now name c.in-len1.len_at_least c.in-len1.len_below c.name-item.is in
    subst (λ names. PassesFrom cached held c.args.from names c.args.inode dirs (Ok (s, c.is_looked_in-here.result))) (sym n)
    (passes_one cached held c.args.from c.args.inode dirs name s c.is_looked_in-here.result
    (said_ok (λ s. walked_in dirs c.args.from (spot_of s)) c.step.result s _ c.in_ok-spot-in-len1.was (c.step.ensures.reads dirs held)) c.is_looked_in-here.ensures)

pub returns-in_err-spot-in-len1-up-clause-passes : goal.returns-in_err-spot-in-len1-up-clause-passes
returns-in_err-spot-in-len1-up-clause-passes t c held dirs =
    let names = c.args.names.now in
    let cached = c.args.sectors.now.entries in
    let two : 2 ≤ length names = omega arith in
    let n = more_names names c.name-item-2.result (take (length names - 1) (drop 1 names)) two c.name-item-2.is refl in
    let need = c.in_err-spot-in-len1-up.field-0.0 in
    let e : c.from_residual-in_err-spot-in-len1-up.result ≡ Err need = search rules in
    subst (PassesFrom cached held c.args.from names c.args.inode dirs) (sym e)
    (subst (λ names. PassesFrom cached held c.args.from names c.args.inode dirs (Err need)) (sym n.all)
    (first_lacks cached held c.args.from c.args.inode dirs c.name-item-2.result n.next n.more need.0.0
    (said_err (λ s. walked_in dirs c.args.from (spot_of s)) c.step-in-len1-up.result need _ c.in_err-spot-in-len1-up.was (c.step-in-len1-up.ensures.reads dirs held))))

pub returns-in_err-last-in-Ok-clause-passes : goal.returns-in_err-last-in-Ok-clause-passes
returns-in_err-last-in-Ok-clause-passes t c held dirs =
    let names = c.args.names.now in
    let cached = c.args.sectors.now.entries in
    let two : 2 ≤ length names = omega arith in
    let rest : List (List ℕ) = take (length names - 1) (drop 1 names) in
    let n = more_names names c.name-item-2.result rest two c.name-item-2.is refl in
    let s = c.in_ok-spot-in-len1-up.spot in
    let j : ℕ = c.in-Ok.next in
    let need = c.in_err-last-in-Ok.field-0.0 in
    let e : c.from_residual-in_err-last-in-Ok.result ≡ Err need = search rules in
    let looked : List ℕ = dirs ++ looked_in c.args.from (spot_of s) in
    let ih : PassesFrom cached held j rest c.args.inode looked (Err need) = subst (PassesFrom cached held j rest c.args.inode looked) c.in_err-last-in-Ok.was (c.passes_from.ensures.passes held looked) in
    subst (PassesFrom cached held c.args.from names c.args.inode dirs) (sym e)
    (subst (λ names. PassesFrom cached held c.args.from names c.args.inode dirs (Err need)) (sym n.all)
    (passes_lack cached held c.args.from c.args.inode dirs c.name-item-2.result n.next n.more s j need.0.0
    (said_ok (λ s. walked_in dirs c.args.from (spot_of s)) c.step-in-len1-up.result s _ c.in_ok-spot-in-len1-up.was (c.step-in-len1-up.ensures.reads dirs held))
    (sym c.onward.ensures ∙ ap led_of c.in-Ok.is)
    (subst (λ names. PassesFrom cached held j names c.args.inode looked (Err need)) n.others ih)))

pub returns-in_ok-last-in-Ok-clause-passes : goal.returns-in_ok-last-in-Ok-clause-passes
returns-in_ok-last-in-Ok-clause-passes t c held dirs =
    let names = c.args.names.now in
    let cached = c.args.sectors.now.entries in
    let two : 2 ≤ length names = omega arith in
    let rest : List (List ℕ) = take (length names - 1) (drop 1 names) in
    let n = more_names names c.name-item-2.result rest two c.name-item-2.is refl in
    let s = c.in_ok-spot-in-len1-up.spot in
    let j : ℕ = c.in-Ok.next in
    let last = c.in_ok-last-in-Ok.last in
    let there = c.in_ok-last-in-Ok.there in
    let looked : List ℕ = dirs ++ looked_in c.args.from (spot_of s) in
    let ih : PassesFrom cached held j rest c.args.inode looked (Ok (last, there)) = subst (PassesFrom cached held j rest c.args.inode looked) c.in_ok-last-in-Ok.was (c.passes_from.ensures.passes held looked) in
    subst (λ names. PassesFrom cached held c.args.from names c.args.inode dirs (Ok (last, c.either.result))) (sym n.all)
    (passes_more cached held c.args.from c.args.inode dirs c.name-item-2.result n.next n.more s last c.is_looked_in-here-in-len1-up.result there c.either.result j
    (said_ok (λ s. walked_in dirs c.args.from (spot_of s)) c.step-in-len1-up.result s _ c.in_ok-spot-in-len1-up.was (c.step-in-len1-up.ensures.reads dirs held))
    c.is_looked_in-here-in-len1-up.ensures (sym c.onward.ensures ∙ ap led_of c.in-Ok.is) c.either.ensures
    (subst (λ names. PassesFrom cached held j names c.args.inode looked (Ok (last, there))) n.others ih))

pub returns-in-Err-clause-passes : goal.returns-in-Err-clause-passes
returns-in-Err-clause-passes t c held dirs =
    let names = c.args.names.now in
    let cached = c.args.sectors.now.entries in
    let two : 2 ≤ length names = omega arith in
    let n = more_names names c.name-item-2.result (take (length names - 1) (drop 1 names)) two c.name-item-2.is refl in
    let s = c.in_ok-spot-in-len1-up.spot in
    subst (λ names. PassesFrom cached held c.args.from names c.args.inode dirs (Ok (spot.Lost c.in-Err.refusal, c.is_looked_in-here-in-len1-up.result))) (sym n.all)
    (passes_lost cached held c.args.from c.args.inode dirs c.name-item-2.result n.next n.more s c.is_looked_in-here-in-len1-up.result c.in-Err.refusal
    (said_ok (λ s. walked_in dirs c.args.from (spot_of s)) c.step-in-len1-up.result s _ c.in_ok-spot-in-len1-up.was (c.step-in-len1-up.ensures.reads dirs held))
    c.is_looked_in-here-in-len1-up.ensures (sym c.onward.ensures ∙ ap led_of c.in-Err.is))

pub returns-in-empty-clause-looks : goal.returns-in-empty-clause-looks
returns-in-empty-clause-looks t c held dirs =
    adds_as _ _ _ _ (ap (λ names. looks_of (walk_from dirs c.args.from names) c.args.sectors.now.entries held) (sym (no_names c.args.names.now c.in-empty.len_below))) (adds_none _)

pub returns-in_err-spot-in-len1-clause-looks : goal.returns-in_err-spot-in-len1-clause-looks
returns-in_err-spot-in-len1-clause-looks t c held dirs =
    let cached = c.args.sectors.now.entries in
    let name = c.name-item.result in
    let n : c.args.names.now ≡ name ∷ [] = one_name c.args.names.now name c.in-len1.len_at_least c.in-len1.len_below c.name-item.is in
    adds_as _ _ _ _ (ap (λ names. looks_of (walk_from dirs c.args.from names) cached held) (sym n)) (c.step.ensures.looks dirs held)

pub returns-in_ok-spot-in-len1-clause-looks : goal.returns-in_ok-spot-in-len1-clause-looks
returns-in_ok-spot-in-len1-clause-looks t c held dirs =
    let cached = c.args.sectors.now.entries in
    let name = c.name-item.result in
    let n : c.args.names.now ≡ name ∷ [] = one_name c.args.names.now name c.in-len1.len_at_least c.in-len1.len_below c.name-item.is in
    adds_as _ _ _ _ (ap (λ names. looks_of (walk_from dirs c.args.from names) cached held) (sym n)) (c.step.ensures.looks dirs held)

pub returns-in_err-spot-in-len1-up-clause-looks : goal.returns-in_err-spot-in-len1-up-clause-looks
returns-in_err-spot-in-len1-up-clause-looks t c held dirs =
    let names = c.args.names.now in
    let cached = c.args.sectors.now.entries in
    let two : 2 ≤ length names = omega arith in
    let rest : List (List ℕ) = take (length names - 1) (drop 1 names) in
    let n = more_names names c.name-item-2.result rest two c.name-item-2.is refl in
    let need = c.in_err-spot-in-len1-up.field-0.0 in
    adds_as _ _ _ _
    (first_missing dirs c.args.from c.name-item-2.result cached held n.next n.more need.0.0
    (said_err (λ s. walked_in dirs c.args.from (spot_of s)) c.step-in-len1-up.result need _ c.in_err-spot-in-len1-up.was (c.step-in-len1-up.ensures.reads dirs held))
    ∙ ap (λ names. looks_of (walk_from dirs c.args.from names) cached held) (sym n.all))
    (c.step-in-len1-up.ensures.looks dirs held)

pub returns-in_err-last-in-Ok-clause-looks : goal.returns-in_err-last-in-Ok-clause-looks
returns-in_err-last-in-Ok-clause-looks t c held dirs =
    let names = c.args.names.now in
    let cached = c.args.sectors.now.entries in
    let two : 2 ≤ length names = omega arith in
    let rest : List (List ℕ) = take (length names - 1) (drop 1 names) in
    let n = more_names names c.name-item-2.result rest two c.name-item-2.is refl in
    let s = c.in_ok-spot-in-len1-up.spot in
    let looked : List ℕ = dirs ++ looked_in c.args.from (spot_of s) in
    adds_as _ _ _ _
    (first_goes dirs c.args.from c.name-item-2.result cached held n.next n.more (spot_of s) c.in-Ok.next
    (said_ok (λ s. walked_in dirs c.args.from (spot_of s)) c.step-in-len1-up.result s _ c.in_ok-spot-in-len1-up.was (c.step-in-len1-up.ensures.reads dirs held))
    (sym c.onward.ensures ∙ ap led_of c.in-Ok.is)
    ∙ ap (λ names. looks_of (walk_from dirs c.args.from names) cached held) (sym n.all))
    (adds_then _ _ _ _ _ (c.step-in-len1-up.ensures.looks dirs held)
    (adds_as _ _ _ _ (ap (λ names. looks_of (walk_from looked c.in-Ok.next names) cached held) n.others) (c.passes_from.ensures.looks held looked)))

pub returns-in_ok-last-in-Ok-clause-looks : goal.returns-in_ok-last-in-Ok-clause-looks
returns-in_ok-last-in-Ok-clause-looks t c held dirs =
    let names = c.args.names.now in
    let cached = c.args.sectors.now.entries in
    let two : 2 ≤ length names = omega arith in
    let rest : List (List ℕ) = take (length names - 1) (drop 1 names) in
    let n = more_names names c.name-item-2.result rest two c.name-item-2.is refl in
    let s = c.in_ok-spot-in-len1-up.spot in
    let looked : List ℕ = dirs ++ looked_in c.args.from (spot_of s) in
    adds_as _ _ _ _
    (first_goes dirs c.args.from c.name-item-2.result cached held n.next n.more (spot_of s) c.in-Ok.next
    (said_ok (λ s. walked_in dirs c.args.from (spot_of s)) c.step-in-len1-up.result s _ c.in_ok-spot-in-len1-up.was (c.step-in-len1-up.ensures.reads dirs held))
    (sym c.onward.ensures ∙ ap led_of c.in-Ok.is)
    ∙ ap (λ names. looks_of (walk_from dirs c.args.from names) cached held) (sym n.all))
    (adds_then _ _ _ _ _ (c.step-in-len1-up.ensures.looks dirs held)
    (adds_as _ _ _ _ (ap (λ names. looks_of (walk_from looked c.in-Ok.next names) cached held) n.others) (c.passes_from.ensures.looks held looked)))

pub returns-in-Err-clause-looks : goal.returns-in-Err-clause-looks
returns-in-Err-clause-looks t c held dirs =
    let names = c.args.names.now in
    let cached = c.args.sectors.now.entries in
    let two : 2 ≤ length names = omega arith in
    let rest : List (List ℕ) = take (length names - 1) (drop 1 names) in
    let n = more_names names c.name-item-2.result rest two c.name-item-2.is refl in
    let s = c.in_ok-spot-in-len1-up.spot in
    adds_as _ _ _ _
    (first_lost dirs c.args.from c.name-item-2.result cached held n.next n.more (spot_of s) (reply_of c.in-Err.refusal)
    (said_ok (λ s. walked_in dirs c.args.from (spot_of s)) c.step-in-len1-up.result s _ c.in_ok-spot-in-len1-up.was (c.step-in-len1-up.ensures.reads dirs held))
    (sym c.onward.ensures ∙ ap led_of c.in-Err.is)
    ∙ ap (λ names. looks_of (walk_from dirs c.args.from names) cached held) (sym n.all))
    (c.step-in-len1-up.ensures.looks dirs held)
