-- By the range, and by what is picked.
use Rattle.std.proofs.Common.{◌≡◌, ◌==◌, ◌&&◌, ◌<◌, ◌≤◌, true, false, nat_lt, Some, None, subst, sym, ◌∙◌, rules, arith, [], refl, ℕ}
use Rattle.disk_definitions.specs.Held.{large_in}
use Rattle.disk_definitions.specs.Picks.{is_free}
use Rattle.disk_definitions.proofs.LeastLaws.{least_some}
use Rattle.disk_definitions.specs.Store.{stored}
use Rattle.disk_definitions.specs.Plans.{shared_nodes}
use Rattle.disk_definitions.specs.FilePlans.{end_of, writing, writing_large}
use Rattle.plan_steps.specs.Ends.{Comes, Stops}
use Rattle.op_data.specs.Writings.{writing_of}
use Rattle.op_data.proofs.Choices.{bad_offset, has_large, large_wanted, too_big}
use Rattle.dir_lookup.proofs.Looking.{adds_as, adds_none}
use Rattle.op_data.proofs.FileLooks.{bad_offset_looks, has_large_looks, large_wanted_looks, too_big_looks}
use Rattle.plan_steps.proofs.Looking.{none_more, then_looks}
use Rattle.dir_lookup.specs.Hands.{seen}
use Rattle.op_data.proofs.write.write.Goals as goal

pub returns-then-file-from-clause-comes : goal.returns-then-file-from-clause-comes
returns-then-file-from-clause-comes c touched =
    let w = writing_of c.args.writing.now in
    let x = stored c.args.file.now.inode in
    let o : x.size < w.off = omega arith in
    (shared_nodes touched, sym (bad_offset c.args.hand.now w c.args.file.now.number touched x o))

pub returns-then-end-gt-FILE_BYTES_MAX-clause-comes : goal.returns-then-end-gt-FILE_BYTES_MAX-clause-comes
returns-then-end-gt-FILE_BYTES_MAX-clause-comes c touched =
    let w = writing_of c.args.writing.now in
    let x = stored c.args.file.now.inode in
    let o : w.off ≤ x.size = omega arith in
    let l : 1114112 < end_of w = omega (arith, c.end-end.ensures.is) in
    (shared_nodes touched, sym (too_big c.args.hand.now w c.args.file.now.number touched x o l))

pub returns-then-not-needs_large-clause-comes : goal.returns-then-not-needs_large-clause-comes
returns-then-not-needs_large-clause-comes c touched =
    let w = writing_of c.args.writing.now in
    let x = stored c.args.file.now.inode in
    let o : w.off ≤ x.size = omega arith in
    let l : end_of w ≤ 1114112 = omega (arith, c.end-end.ensures.is) in
    let n : (nat_lt 65536 (end_of w) && x.large == 0) ≡ false = search rules in
    subst (λ p. Comes p c.write_small.result) (has_large c.args.hand.now w c.args.file.now.number touched x o l n) (c.write_small.ensures.comes touched)

pub write_small-requires-in-Some-clause-large : goal.write_small-requires-in-Some-clause-large
write_small-requires-in-Some-clause-large c = (least_some (λ k. is_free (large_in c.args.hand.now.held.now k)) 64 c.in-Some.large (sym c.pick_large.ensures ∙ c.in-Some.is)).1

pub returns-in-Some-clause-comes : goal.returns-in-Some-clause-comes
returns-in-Some-clause-comes c touched =
    let w = writing_of c.args.writing.now in
    let x = stored c.args.file.now.inode in
    let o : w.off ≤ x.size = omega arith in
    let l : end_of w ≤ 1114112 = omega (arith, c.end-end.ensures.is) in
    let n : (nat_lt 65536 (end_of w) && x.large == 0) ≡ true = search rules in
    subst (λ p. Comes p c.write_small-in-Some.result) (large_wanted c.args.hand.now w c.args.file.now.number touched x o l n (Some c.in-Some.large) (sym c.pick_large.ensures ∙ c.in-Some.is))
    (c.write_small-in-Some.ensures.comes touched)

pub returns-in-None-clause-comes : goal.returns-in-None-clause-comes
returns-in-None-clause-comes c touched =
    let w = writing_of c.args.writing.now in
    let x = stored c.args.file.now.inode in
    let o : w.off ≤ x.size = omega arith in
    let l : end_of w ≤ 1114112 = omega (arith, c.end-end.ensures.is) in
    let n : (nat_lt 65536 (end_of w) && x.large == 0) ≡ true = search rules in
    subst (λ p. Stops p c.nothing_left.result) (large_wanted c.args.hand.now w c.args.file.now.number touched x o l n None (sym c.pick_large.ensures ∙ c.in-None.is))
    (c.nothing_left.ensures touched)

pub returns-then-file-from-clause-looks : goal.returns-then-file-from-clause-looks
returns-then-file-from-clause-looks c touched =
    let hand = c.args.hand.now in
    let cached = hand.sectors.now.entries in
    let held = hand.held.now in
    let w = writing_of c.args.writing.now in
    let x = stored c.args.file.now.inode in
    let j : ℕ = c.args.file.now.number in
    let o : x.size < w.off = omega arith in
    adds_as _ _ [] _ (sym (bad_offset_looks hand w j touched x o)) (adds_none _)

pub returns-then-end-gt-FILE_BYTES_MAX-clause-looks : goal.returns-then-end-gt-FILE_BYTES_MAX-clause-looks
returns-then-end-gt-FILE_BYTES_MAX-clause-looks c touched =
    let hand = c.args.hand.now in
    let cached = hand.sectors.now.entries in
    let held = hand.held.now in
    let w = writing_of c.args.writing.now in
    let x = stored c.args.file.now.inode in
    let j : ℕ = c.args.file.now.number in
    let o : w.off ≤ x.size = omega arith in
    let l : 1114112 < end_of w = omega (arith, c.end-end.ensures.is) in
    adds_as _ _ [] _ (sym (too_big_looks hand w j touched x o l)) (adds_none _)

pub returns-then-not-needs_large-clause-looks : goal.returns-then-not-needs_large-clause-looks
returns-then-not-needs_large-clause-looks c touched =
    let hand = c.args.hand.now in
    let cached = hand.sectors.now.entries in
    let held = hand.held.now in
    let w = writing_of c.args.writing.now in
    let x = stored c.args.file.now.inode in
    let j : ℕ = c.args.file.now.number in
    let o : w.off ≤ x.size = omega arith in
    let l : end_of w ≤ 1114112 = omega (arith, c.end-end.ensures.is) in
    let n : (nat_lt 65536 (end_of w) && x.large == 0) ≡ false = search rules in
    adds_as _ _ _ _ (sym (has_large_looks hand w j touched x o l n)) (c.write_small.ensures.looks touched)

pub returns-in-Some-clause-looks : goal.returns-in-Some-clause-looks
returns-in-Some-clause-looks c touched =
    let hand = c.args.hand.now in
    let cached = hand.sectors.now.entries in
    let held = hand.held.now in
    let w = writing_of c.args.writing.now in
    let x = stored c.args.file.now.inode in
    let j : ℕ = c.args.file.now.number in
    let o : w.off ≤ x.size = omega arith in
    let l : end_of w ≤ 1114112 = omega (arith, c.end-end.ensures.is) in
    let n : (nat_lt 65536 (end_of w) && x.large == 0) ≡ true = search rules in
    then_looks cached held (writing (seen hand) w j touched x) (writing_large (seen hand) w j touched x (Some c.in-Some.large)) _ _ _
    (large_wanted_looks hand w j touched x o l n (Some c.in-Some.large) _ _ (sym c.pick_large.ensures ∙ c.in-Some.is) c.look_at_held.ensures) (c.write_small-in-Some.ensures.looks touched)

pub returns-in-None-clause-looks : goal.returns-in-None-clause-looks
returns-in-None-clause-looks c touched =
    let hand = c.args.hand.now in
    let cached = hand.sectors.now.entries in
    let held = hand.held.now in
    let w = writing_of c.args.writing.now in
    let x = stored c.args.file.now.inode in
    let j : ℕ = c.args.file.now.number in
    let o : w.off ≤ x.size = omega arith in
    let l : end_of w ≤ 1114112 = omega (arith, c.end-end.ensures.is) in
    let n : (nat_lt 65536 (end_of w) && x.large == 0) ≡ true = search rules in
    then_looks cached held (writing (seen hand) w j touched x) (writing_large (seen hand) w j touched x None) _ _ _
    (large_wanted_looks hand w j touched x o l n None _ _ (sym c.pick_large.ensures ∙ c.in-None.is) c.look_at_held.ensures) (none_more cached held (writing_large (seen hand) w j touched x None) _ refl)
