-- A sound disk stands for the tree of its nodes, and one that isn't sound for none.
use Rattle.std.proofs.Common.{◌≡◌, ℕ, ◌*◌, Bool, true, false, Some, List, sym, subst}
use Rattle.frang_base.specs.declared.limits.TheConstants.{RUN_VERSIONS_MAX}
use Rattle.tree_definitions.specs.declared.node.Node.{Node}
use Rattle.disk_definitions.specs.Params.{param_in}
use Rattle.disk_definitions.proofs.ParamLaws.{few_segments}
use Rattle.sector_bytes.specs.Sectors.{Sectors, sectors_of}
use Rattle.disk_reading.specs.Reading.{IsReading}
use Rattle.disk_reading.specs.Tests.{IsSoundReading}
use Rattle.disk_reading.proofs.Treed.{is_within, has_targets, reading_some, reading_none, some_segments}
use Rattle.disk_reading.proofs.read.read_tree.Goals as goal

-- what was told of the run is told of the parameters' run
told : {n run : ℕ} {b : Bool} (t : Bool) (segments : ℕ) (sectors : Sectors) (nodes : List (ℕ × Node)) → n ≡ run → b ≡ t
    → IsSoundReading (RUN_VERSIONS_MAX * n) segments sectors nodes b → IsSoundReading (RUN_VERSIONS_MAX * run) segments sectors nodes t
told {n} {run} {b} t segments sectors nodes e f h =
    subst (IsSoundReading (RUN_VERSIONS_MAX * run) segments sectors nodes) f (subst (λ (m : ℕ). IsSoundReading (RUN_VERSIONS_MAX * m) segments sectors nodes b) e h)

pub read_sound-requires-clause-few : goal.read_sound-requires-clause-few
read_sound-requires-clause-few c = few_segments (sectors_of c.args.disk.now 0) c.args.param.now c.requires

pub read_sound-requires-clause-some : goal.read_sound-requires-clause-some
read_sound-requires-clause-some c = some_segments (sectors_of c.args.disk.now 0) c.args.param.now c.requires

pub of-requires-clause-within : goal.of-requires-clause-within
of-requires-clause-within c =
    let sectors = sectors_of c.args.disk.now in
    let p = c.args.param.now in
    let nodes = c.read_sound.new.nodes.entries in
    let e : param_in (sectors 0) ≡ Some p = c.requires in
    let r = told true p.segments sectors nodes c.from-most.ensures c.if-branch.true c.in_ok-read_sound.ensures in
    is_within (RUN_VERSIONS_MAX * p.run) p.segments sectors (few_segments (sectors 0) p e) r.0 nodes r.1

pub of-requires-clause-targets : goal.of-requires-clause-targets
of-requires-clause-targets c =
    let sectors = sectors_of c.args.disk.now in
    let p = c.args.param.now in
    let nodes = c.read_sound.new.nodes.entries in
    let e : param_in (sectors 0) ≡ Some p = c.requires in
    let r = told true p.segments sectors nodes c.from-most.ensures c.if-branch.true c.in_ok-read_sound.ensures in
    has_targets (RUN_VERSIONS_MAX * p.run) p.segments sectors (few_segments (sectors 0) p e) r.0 nodes r.1

pub returns-then-branch : goal.returns-then-branch
returns-then-branch c =
    let sectors = sectors_of c.args.disk.now in
    let p = c.args.param.now in
    let nodes = c.read_sound.new.nodes.entries in
    let e : param_in (sectors 0) ≡ Some p = c.requires in
    let r = told true p.segments sectors nodes c.from-most.ensures c.if-branch.true c.in_ok-read_sound.ensures in
    subst (λ t. IsReading sectors (Some t)) (sym c.of.ensures) (reading_some sectors p e nodes r)

pub returns-else-branch : goal.returns-else-branch
returns-else-branch c =
    let sectors = sectors_of c.args.disk.now in
    let p = c.args.param.now in
    let nodes = c.read_sound.new.nodes.entries in
    let e : param_in (sectors 0) ≡ Some p = c.requires in
    let r = told false p.segments sectors nodes c.from-most.ensures c.if-branch.false c.in_ok-read_sound.ensures in
    reading_none sectors p e nodes r
