-- By how many blocks the directory has.
use Rattle.std.proofs.Common.{◌≡◌, [], true, false, cond, map, nat_lt, lt-ltb, arith, sym, ap}
use Rattle.std.specs.Map.{keys_of}
use Rattle.std.proofs.lemmas.Bool.{le-ltb}
use Rattle.dir_lookup.proofs.Looking.{adds_as, adds_none}
use Rattle.plan_steps.specs.Looking.{segment_number}
use Rattle.plan_steps.proofs.room.more_room.Goals as goal

pub returns-in_err-block-clause-looks : goal.returns-in_err-block-clause-looks
returns-in_err-block-clause-looks c =
    let t : nat_lt c.args.directory.now.blocks 16 ≡ true = lt-ltb c.args.directory.now.blocks 16 (omega arith) in
    adds_as _ _ _ _ (ap (λ b. cond b (map segment_number (keys_of c.args.held.now)) []) (sym t)) c.look_at_held.ensures

pub returns-in_ok-block-clause-looks : goal.returns-in_ok-block-clause-looks
returns-in_ok-block-clause-looks c =
    let t : nat_lt c.args.directory.now.blocks 16 ≡ true = lt-ltb c.args.directory.now.blocks 16 (omega arith) in
    adds_as _ _ _ _ (ap (λ b. cond b (map segment_number (keys_of c.args.held.now)) []) (sym t)) c.look_at_held.ensures

pub returns-else-from-lt-INODE_BLOCKS_MAX-clause-looks : goal.returns-else-from-lt-INODE_BLOCKS_MAX-clause-looks
returns-else-from-lt-INODE_BLOCKS_MAX-clause-looks c =
    let t : nat_lt c.args.directory.now.blocks 16 ≡ false = le-ltb c.args.directory.now.blocks 16 (omega arith) in
    adds_as _ _ [] _ (ap (λ b. cond b (map segment_number (keys_of c.args.held.now)) []) (sym t)) (adds_none _)
