-- Each test that fails shows that the disk isn't sound, and all of them together that it is.
use Rattle.std.proofs.Common.{◌≡◌, ◌*◌, sym, ◌∙◌, ap, subst, MatchBool}
use Rattle.std.proofs.lemmas.Bool.{both_ways}
use Rattle.sector_bytes.specs.Sectors.{sectors_of}
use Rattle.disk_definitions.specs.Standing.{IsReached}
use Rattle.standing_laws.specs.Below.{all_below}
use Rattle.standing_laws.specs.ReadTree.{nodes_to}
use Rattle.standing_laws.specs.Soundness.{node_agrees}
use Rattle.standing_laws.proofs.RoomLaws.{large_below}
use Rattle.standing_laws.proofs.SoundStanding.{disk_range}
use Rattle.disk_reading.specs.Names.{is_linked}
use Rattle.disk_reading.specs.Reach.{AreNamedBelow, NamesAscendIn, nodes_at}
use Rattle.disk_reading.specs.Seen.{store_in}
use Rattle.disk_reading.specs.Tests.{marks_agree, owners_agree, IsSoundReading}
use Rattle.disk_reading.proofs.Assembled.{marks_at, named_below, names_sorted, sound_marks, sound_owners, sound_links, sound_told, if_ok_map}
use Rattle.disk_reading.proofs.read.read_sound.Goals as goal

pub returns-then-not-marks_agree : goal.returns-then-not-marks_agree
unfolding store_in
returns-then-not-marks_agree c =
    let sectors = sectors_of c.args.disk.now in
    let s = store_in c.args.segments c.args.disk.now in
    λ h. both_ways (marks_agree c.args.most c.args.segments s sectors) (sym c.marks_agree.ensures ∙ c.if-not-marks_agree.true) (sound_marks c.args.most c.args.segments sectors h)

pub returns-then-not-branch : goal.returns-then-not-branch
unfolding store_in
returns-then-not-branch c =
    let sectors = sectors_of c.args.disk.now in
    let s = store_in c.args.segments c.args.disk.now in
    λ h. both_ways (owners_agree c.args.segments s) (sym c.in_ok-owners_agree.ensures ∙ c.if-not-branch.true) (sound_owners c.args.most c.args.segments sectors h)

pub add_nodes-requires-clause-large : goal.add_nodes-requires-clause-large
unfolding store_in
add_nodes-requires-clause-large c =
    let sectors = sectors_of c.args.disk.now in
    let s = store_in c.args.segments c.args.disk.now in
    let m = marks_at c.args.most c.args.segments s sectors (sym c.marks_agree.ensures ∙ c.if-not-marks_agree.false) in
    large_below c.args.segments s (disk_range c.args.segments sectors) m.marked

pub returns-then-not-branch-2 : goal.returns-then-not-branch-2
unfolding store_in
returns-then-not-branch-2 c =
    let s = store_in c.args.segments c.args.disk.now in
    λ h. both_ways (all_below (64 * c.args.segments) (λ i. node_agrees s (s.inode i))) (sym c.in_ok-add_nodes.ensures.agree ∙ c.if-not-branch-2.true) h.consistent.nodes

pub returns-then-not-branch-3 : goal.returns-then-not-branch-3
unfolding store_in
returns-then-not-branch-3 c =
    let sectors = sectors_of c.args.disk.now in
    let s = store_in c.args.segments c.args.disk.now in
    let n = 64 * c.args.segments in
    let e : c.add_nodes.new.nodes.entries ≡ nodes_to s n = c.in_ok-add_nodes.ensures.added c.if-not-branch-2.false in
    λ h. both_ways (all_below n (is_linked (nodes_to s n))) (ap (λ ns. all_below n (is_linked ns)) (sym e) ∙ sym c.in_ok-links_agree.ensures ∙ c.if-not-branch-3.true) (sound_links c.args.most c.args.segments sectors h)

pub all_reached-requires-clause-sorted : goal.all_reached-requires-clause-sorted
unfolding store_in
all_reached-requires-clause-sorted c =
    let sectors = sectors_of c.args.disk.now in
    let s = store_in c.args.segments c.args.disk.now in
    let e : c.add_nodes.new.nodes.entries ≡ nodes_to s (64 * c.args.segments) = c.in_ok-add_nodes.ensures.added c.if-not-branch-2.false in
    subst (λ ns. NamesAscendIn (nodes_at ns)) (sym e) (names_sorted c.args.segments s (disk_range c.args.segments sectors))

pub all_reached-requires-clause-below : goal.all_reached-requires-clause-below
unfolding store_in
all_reached-requires-clause-below c =
    let sectors = sectors_of c.args.disk.now in
    let s = store_in c.args.segments c.args.disk.now in
    let n = 64 * c.args.segments in
    let e : c.add_nodes.new.nodes.entries ≡ nodes_to s n = c.in_ok-add_nodes.ensures.added c.if-not-branch-2.false in
    subst (λ ns. AreNamedBelow (nodes_at ns) n) (sym e) (named_below c.args.segments s (disk_range c.args.segments sectors) (sym c.in_ok-add_nodes.ensures.agree ∙ c.if-not-branch-2.false))

pub returns : goal.returns
unfolding store_in
returns c =
    let sectors = sectors_of c.args.disk.now in
    let s = store_in c.args.segments c.args.disk.now in
    let n = 64 * c.args.segments in
    let nodes = c.add_nodes.new.nodes.entries in
    let e : nodes ≡ nodes_to s n = c.in_ok-add_nodes.ensures.added c.if-not-branch-2.false in
    if_ok_map c.all_reached.result (λ b. MatchBool b (IsReached (nodes_at nodes)) (IsReached (nodes_at nodes) → ⊥)) (IsSoundReading c.args.most c.args.segments sectors nodes)
    (sound_told c.args.most c.args.segments sectors nodes e (sym c.marks_agree.ensures ∙ c.if-not-marks_agree.false) (sym c.in_ok-owners_agree.ensures ∙ c.if-not-branch.false)
    (sym c.in_ok-add_nodes.ensures.agree ∙ c.if-not-branch-2.false) (sym c.in_ok-links_agree.ensures ∙ c.if-not-branch-3.false)) c.all_reached.ensures
