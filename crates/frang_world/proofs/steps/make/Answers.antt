-- What is ready fits what is called for it, and what is made then is a step of the core.
use Rattle.std.proofs.Common.{sym, subst}
use Rattle.std.proofs.lemmas.Bool.{not-true}
use Rattle.core_definitions.specs.Cores.{stage}
use Rattle.core_definitions.specs.Events as core
use Rattle.hall_runs.specs.Asking.{heard_of}
use Rattle.world_ready.specs.declared.kinds.Ready.TheVariants as kinds
use Rattle.world_state.specs.States.{core_at}
use Rattle.frang_world.specs.Steps.{IsNoArrivalReady}
use Rattle.frang_world.proofs.Fitting.{fits_as, step_of}
use Rattle.frang_world.proofs.Stepping.{aside}
use Rattle.frang_world.proofs.TreeSteps.{is_read, shows, there_is}
use Rattle.frang_world.proofs.steps.make.Goals as goal

pub begin-requires-clause-server : goal.begin-requires-clause-server
begin-requires-clause-server c = (fits_as c.args.world.now c.args.tree.now c.args.ready (kinds.Begin c.in-Begin.a c.in-Begin.under) c.in-Begin.is c.requires.fits).may.server

pub begin-requires-clause-begins : goal.begin-requires-clause-begins
begin-requires-clause-begins c = (fits_as c.args.world.now c.args.tree.now c.args.ready (kinds.Begin c.in-Begin.a c.in-Begin.under) c.in-Begin.is c.requires.fits).may.begins

pub returns-in-Begin : goal.returns-in-Begin
returns-in-Begin c =
    step_of c.args.world.now c.begin.new.self c.args.tree.now c.args.tree.now c.args.ready (kinds.Begin c.in-Begin.a c.in-Begin.under) (heard_of c.args.heard.now) c.in-Begin.is
    (aside c.args.world.now c.begin.new.self c.args.tree.now (core.Begin c.in-Begin.a.0) (heard_of c.args.heard.now) tt c.requires.disk c.requires.said c.begin.ensures)

pub ask-requires : goal.ask-requires
ask-requires c = (fits_as c.args.world.now c.args.tree.now c.args.ready (kinds.Ask c.in-Ask.a c.in-Ask.lock c.in-Ask.mode) c.in-Ask.is c.requires.fits).may

pub returns-in-Ask : goal.returns-in-Ask
returns-in-Ask c =
    step_of c.args.world.now c.ask.new.world c.args.tree.now c.args.tree.now c.args.ready (kinds.Ask c.in-Ask.a c.in-Ask.lock c.in-Ask.mode) (heard_of c.args.heard.now) c.in-Ask.is
    (aside c.args.world.now c.ask.new.world c.args.tree.now (core.Ask c.in-Ask.a.0 c.in-Ask.lock c.in-Ask.mode) (heard_of c.args.heard.now) tt c.requires.disk c.requires.said c.ask.ensures)

pub fetch_sector-requires : goal.fetch_sector-requires
fetch_sector-requires c = (fits_as c.args.world.now c.args.tree.now c.args.ready (kinds.FetchSector c.in-FetchSector.a c.in-FetchSector.sector c.in-FetchSector.cover) c.in-FetchSector.is c.requires.fits).may

pub returns-in-FetchSector : goal.returns-in-FetchSector
returns-in-FetchSector c =
    step_of c.args.world.now c.fetch_sector.new.world c.args.tree.now c.args.tree.now c.args.ready (kinds.FetchSector c.in-FetchSector.a c.in-FetchSector.sector c.in-FetchSector.cover) (heard_of c.args.heard.now) c.in-FetchSector.is
    (aside c.args.world.now c.fetch_sector.new.world c.args.tree.now (core.Fetch c.in-FetchSector.a.0 c.in-FetchSector.sector.0) (heard_of c.args.heard.now) tt c.requires.disk c.requires.said c.fetch_sector.ensures)

pub fetch_slot-requires : goal.fetch_slot-requires
fetch_slot-requires c = (fits_as c.args.world.now c.args.tree.now c.args.ready (kinds.FetchSlot c.in-FetchSlot.a c.in-FetchSlot.sector) c.in-FetchSlot.is c.requires.fits).may

pub returns-in-FetchSlot : goal.returns-in-FetchSlot
returns-in-FetchSlot c =
    step_of c.args.world.now c.fetch_slot.new.world c.args.tree.now c.args.tree.now c.args.ready (kinds.FetchSlot c.in-FetchSlot.a c.in-FetchSlot.sector) (heard_of c.args.heard.now) c.in-FetchSlot.is
    (aside c.args.world.now c.fetch_slot.new.world c.args.tree.now (core.Fetch c.in-FetchSlot.a.0 c.in-FetchSlot.sector.0) (heard_of c.args.heard.now) tt c.requires.disk c.requires.said c.fetch_slot.ensures)

pub again-requires-clause-server : goal.again-requires-clause-server
again-requires-clause-server c = (fits_as c.args.world.now c.args.tree.now c.args.ready (kinds.Again c.in-Again.a c.in-Again.again) c.in-Again.is c.requires.fits).may.server

pub again-requires-clause-first : goal.again-requires-clause-first
again-requires-clause-first c = (fits_as c.args.world.now c.args.tree.now c.args.ready (kinds.Again c.in-Again.a c.in-Again.again) c.in-Again.is c.requires.fits).may.first

pub returns-in-Again : goal.returns-in-Again
returns-in-Again c =
    step_of c.args.world.now c.again.new.self c.args.tree.now c.args.tree.now c.args.ready (kinds.Again c.in-Again.a c.in-Again.again) (heard_of c.args.heard.now) c.in-Again.is
    (aside c.args.world.now c.again.new.self c.args.tree.now (core.Again c.in-Again.a.0) (heard_of c.args.heard.now) tt c.requires.disk c.requires.said (c.again.ensures (stage (core_at c.args.world.now) c.in-Again.a.0) (fits_as c.args.world.now c.args.tree.now c.args.ready (kinds.Again c.in-Again.a c.in-Again.again) c.in-Again.is c.requires.fits).may.is))

pub clear-requires-clause-server : goal.clear-requires-clause-server
clear-requires-clause-server c = (fits_as c.args.world.now c.args.tree.now c.args.ready (kinds.Clear c.in-Clear.a c.in-Clear.block) c.in-Clear.is c.requires.fits).may.server

pub clear-requires-clause-room : goal.clear-requires-clause-room
clear-requires-clause-room c = (fits_as c.args.world.now c.args.tree.now c.args.ready (kinds.Clear c.in-Clear.a c.in-Clear.block) c.in-Clear.is c.requires.fits).may.room

pub returns-in-Clear : goal.returns-in-Clear
returns-in-Clear c =
    step_of c.args.world.now c.clear.new.self c.args.tree.now c.args.tree.now c.args.ready (kinds.Clear c.in-Clear.a c.in-Clear.block) (heard_of c.args.heard.now) c.in-Clear.is
    (aside c.args.world.now c.clear.new.self c.args.tree.now (core.Clear c.in-Clear.a.0 c.in-Clear.block) (heard_of c.args.heard.now) tt c.requires.disk c.requires.said c.clear.ensures)

pub commit-requires : goal.commit-requires
commit-requires c = (fits_as c.args.world.now c.args.tree.now c.args.ready (kinds.Commit c.in-Commit.a) c.in-Commit.is c.requires.fits).may

pub returns-in-Commit : goal.returns-in-Commit
returns-in-Commit c =
    step_of c.args.world.now c.commit.new.world c.args.tree.now c.args.tree.now c.args.ready (kinds.Commit c.in-Commit.a) (heard_of c.args.heard.now) c.in-Commit.is
    (aside c.args.world.now c.commit.new.world c.args.tree.now (core.Commit c.in-Commit.a.0) (heard_of c.args.heard.now) tt c.requires.disk c.requires.said c.commit.ensures)

pub answer-requires-clause-server : goal.answer-requires-clause-server
answer-requires-clause-server c = (fits_as c.args.world.now c.args.tree.now c.args.ready (kinds.Answer c.in-Answer.a c.in-Answer.answer c.in-Answer.ring) c.in-Answer.is c.requires.fits).may.server

pub answer-requires-clause-due : goal.answer-requires-clause-due
answer-requires-clause-due c = sym (fits_as c.args.world.now c.args.tree.now c.args.ready (kinds.Answer c.in-Answer.a c.in-Answer.answer c.in-Answer.ring) c.in-Answer.is c.requires.fits).may.due

pub answer-requires-clause-ring : goal.answer-requires-clause-ring
answer-requires-clause-ring c = (fits_as c.args.world.now c.args.tree.now c.args.ready (kinds.Answer c.in-Answer.a c.in-Answer.answer c.in-Answer.ring) c.in-Answer.is c.requires.fits).may.ring

pub answer-requires-clause-next : goal.answer-requires-clause-next
answer-requires-clause-next c = (fits_as c.args.world.now c.args.tree.now c.args.ready (kinds.Answer c.in-Answer.a c.in-Answer.answer c.in-Answer.ring) c.in-Answer.is c.requires.fits).may.next

pub returns-in-Answer : goal.returns-in-Answer
returns-in-Answer c =
    step_of c.args.world.now c.answer.new.self c.args.tree.now c.args.tree.now c.args.ready (kinds.Answer c.in-Answer.a c.in-Answer.answer c.in-Answer.ring) (heard_of c.args.heard.now) c.in-Answer.is
    (aside c.args.world.now c.answer.new.self c.args.tree.now (core.Answer c.in-Answer.a.0) (heard_of c.args.heard.now) tt c.requires.disk c.requires.said c.answer.ensures)

pub give-requires : goal.give-requires
give-requires c = (fits_as c.args.world.now c.args.tree.now c.args.ready (kinds.Give c.in-Give.a c.in-Give.lock) c.in-Give.is c.requires.fits).may

pub returns-in-Give : goal.returns-in-Give
returns-in-Give c =
    step_of c.args.world.now c.give.new.self c.args.tree.now c.args.tree.now c.args.ready (kinds.Give c.in-Give.a c.in-Give.lock) (heard_of c.args.heard.now) c.in-Give.is
    (aside c.args.world.now c.give.new.self c.args.tree.now (core.Give c.in-Give.a.0 c.in-Give.lock) (heard_of c.args.heard.now) tt c.requires.disk c.requires.said c.give.ensures)

pub issue-requires-clause-worker : goal.issue-requires-clause-worker
issue-requires-clause-worker c = (fits_as c.args.world.now c.args.tree.now c.args.ready (kinds.Issue c.in-Issue.by c.in-Issue.sector c.in-Issue.write) c.in-Issue.is c.requires.fits).may.issuable.who

pub issue-requires-clause-write : goal.issue-requires-clause-write
issue-requires-clause-write c = (fits_as c.args.world.now c.args.tree.now c.args.ready (kinds.Issue c.in-Issue.by c.in-Issue.sector c.in-Issue.write) c.in-Issue.is c.requires.fits).may.write

pub issue-requires-clause-free : goal.issue-requires-clause-free
issue-requires-clause-free c = not-true _ (fits_as c.args.world.now c.args.tree.now c.args.ready (kinds.Issue c.in-Issue.by c.in-Issue.sector c.in-Issue.write) c.in-Issue.is c.requires.fits).may.issuable.alone

pub issue-requires-clause-window : goal.issue-requires-clause-window
issue-requires-clause-window c = (fits_as c.args.world.now c.args.tree.now c.args.ready (kinds.Issue c.in-Issue.by c.in-Issue.sector c.in-Issue.write) c.in-Issue.is c.requires.fits).may.issuable.window

pub issue-requires-clause-going : goal.issue-requires-clause-going
issue-requires-clause-going c = not-true c.args.world.now.over (fits_as c.args.world.now c.args.tree.now c.args.ready (kinds.Issue c.in-Issue.by c.in-Issue.sector c.in-Issue.write) c.in-Issue.is c.requires.fits).can.going

pub issue-requires-clause-room : goal.issue-requires-clause-room
issue-requires-clause-room c = (fits_as c.args.world.now c.args.tree.now c.args.ready (kinds.Issue c.in-Issue.by c.in-Issue.sector c.in-Issue.write) c.in-Issue.is c.requires.fits).may.room

pub returns-in-Issue : goal.returns-in-Issue
returns-in-Issue c =
    step_of c.args.world.now c.issue.new.self c.args.tree.now c.args.tree.now c.args.ready (kinds.Issue c.in-Issue.by c.in-Issue.sector c.in-Issue.write) (heard_of c.args.heard.now) c.in-Issue.is
    (aside c.args.world.now c.issue.new.self c.args.tree.now (core.Issue c.in-Issue.by.0 c.in-Issue.sector.0) (heard_of c.args.heard.now) tt c.requires.disk c.requires.said c.issue.ensures)

pub doom-requires-clause-server : goal.doom-requires-clause-server
doom-requires-clause-server c = (fits_as c.args.world.now c.args.tree.now c.args.ready (kinds.Doom c.in-Doom.a c.in-Doom.fate) c.in-Doom.is c.requires.fits).may.server

pub doom-requires-clause-mounted : goal.doom-requires-clause-mounted
doom-requires-clause-mounted c = (fits_as c.args.world.now c.args.tree.now c.args.ready (kinds.Doom c.in-Doom.a c.in-Doom.fate) c.in-Doom.is c.requires.fits).may.mounted

pub doom-requires-clause-fate : goal.doom-requires-clause-fate
doom-requires-clause-fate c = (fits_as c.args.world.now c.args.tree.now c.args.ready (kinds.Doom c.in-Doom.a c.in-Doom.fate) c.in-Doom.is c.requires.fits).may.fate

pub returns-in-Doom : goal.returns-in-Doom
returns-in-Doom c =
    step_of c.args.world.now c.doom.new.self c.args.tree.now c.args.tree.now c.args.ready (kinds.Doom c.in-Doom.a c.in-Doom.fate) (heard_of c.args.heard.now) c.in-Doom.is
    (aside c.args.world.now c.doom.new.self c.args.tree.now (core.Doom c.in-Doom.a.0) (heard_of c.args.heard.now) tt c.requires.disk c.requires.said c.doom.ensures)

pub resume-requires : goal.resume-requires
resume-requires c = (fits_as c.args.world.now c.args.tree.now c.args.ready (kinds.Resume c.in-Resume.a) c.in-Resume.is c.requires.fits).may

pub returns-in-Resume : goal.returns-in-Resume
returns-in-Resume c =
    step_of c.args.world.now c.resume.new.self c.args.tree.now c.args.tree.now c.args.ready (kinds.Resume c.in-Resume.a) (heard_of c.args.heard.now) c.in-Resume.is
    (aside c.args.world.now c.resume.new.self c.args.tree.now (core.Resume c.in-Resume.a.0) (heard_of c.args.heard.now) tt c.requires.disk c.requires.said c.resume.ensures)

pub lose-requires-clause-flies : goal.lose-requires-clause-flies
lose-requires-clause-flies c = (fits_as c.args.world.now c.args.tree.now c.args.ready (kinds.Lose c.in-Lose.ticket) c.in-Lose.is c.requires.fits).may.flies

pub lose-requires-clause-room : goal.lose-requires-clause-room
lose-requires-clause-room c = (fits_as c.args.world.now c.args.tree.now c.args.ready (kinds.Lose c.in-Lose.ticket) c.in-Lose.is c.requires.fits).may.room

pub returns-in-Lose : goal.returns-in-Lose
returns-in-Lose c =
    step_of c.args.world.now c.lose.new.self c.args.tree.now c.args.tree.now c.args.ready (kinds.Lose c.in-Lose.ticket) (heard_of c.args.heard.now) c.in-Lose.is
    (aside c.args.world.now c.lose.new.self c.args.tree.now (core.Lose c.in-Lose.ticket.0) (heard_of c.args.heard.now) tt c.requires.disk c.requires.said c.lose.ensures)

pub die-requires : goal.die-requires
die-requires c = (fits_as c.args.world.now c.args.tree.now c.args.ready (kinds.Die c.in-Die.a) c.in-Die.is c.requires.fits).may

pub returns-in-Die : goal.returns-in-Die
returns-in-Die c =
    step_of c.args.world.now c.die.new.self c.args.tree.now c.args.tree.now c.args.ready (kinds.Die c.in-Die.a) (heard_of c.args.heard.now) c.in-Die.is
    (aside c.args.world.now c.die.new.self c.args.tree.now (core.Die c.in-Die.a.0) (heard_of c.args.heard.now) tt c.requires.disk c.requires.said c.die.ensures)

pub renew-requires : goal.renew-requires
renew-requires c = (fits_as c.args.world.now c.args.tree.now c.args.ready (kinds.Renew c.in-Renew.a) c.in-Renew.is c.requires.fits).may

pub returns-in-Renew : goal.returns-in-Renew
returns-in-Renew c =
    step_of c.args.world.now c.renew.new.self c.args.tree.now c.args.tree.now c.args.ready (kinds.Renew c.in-Renew.a) (heard_of c.args.heard.now) c.in-Renew.is
    (aside c.args.world.now c.renew.new.self c.args.tree.now (core.Renew c.in-Renew.a.0) (heard_of c.args.heard.now) tt c.requires.disk c.requires.said c.renew.ensures)

pub tick-requires : goal.tick-requires
tick-requires c = (fits_as c.args.world.now c.args.tree.now c.args.ready kinds.Tick c.in-Tick.is c.requires.fits).may

pub returns-in-Tick : goal.returns-in-Tick
returns-in-Tick c =
    step_of c.args.world.now c.tick.new.self c.args.tree.now c.args.tree.now c.args.ready kinds.Tick (heard_of c.args.heard.now) c.in-Tick.is
    (aside c.args.world.now c.tick.new.self c.args.tree.now core.Tick (heard_of c.args.heard.now) tt c.requires.disk c.requires.said c.tick.ensures)

pub recover-requires-clause-may : goal.recover-requires-clause-may
recover-requires-clause-may c = (fits_as c.args.world.now c.args.tree.now c.args.ready (kinds.Recover c.in-Recover.dead c.in-Recover.by c.in-Recover.demon) c.in-Recover.is c.requires.fits).may.may

pub recover-requires-clause-demon : goal.recover-requires-clause-demon
recover-requires-clause-demon c = (fits_as c.args.world.now c.args.tree.now c.args.ready (kinds.Recover c.in-Recover.dead c.in-Recover.by c.in-Recover.demon) c.in-Recover.is c.requires.fits).may.recovery

pub recover-requires-clause-disk : goal.recover-requires-clause-disk
recover-requires-clause-disk c = (fits_as c.args.world.now c.args.tree.now c.args.ready (kinds.Recover c.in-Recover.dead c.in-Recover.by c.in-Recover.demon) c.in-Recover.is c.requires.fits).may.disk

pub recover-requires-clause-issued : goal.recover-requires-clause-issued
recover-requires-clause-issued c = (fits_as c.args.world.now c.args.tree.now c.args.ready (kinds.Recover c.in-Recover.dead c.in-Recover.by c.in-Recover.demon) c.in-Recover.is c.requires.fits).may.issued

pub returns-in-Recover : goal.returns-in-Recover
returns-in-Recover c =
    step_of c.args.world.now c.recover.new.self c.args.tree.now c.args.tree.now c.args.ready (kinds.Recover c.in-Recover.dead c.in-Recover.by c.in-Recover.demon) (heard_of c.args.heard.now) c.in-Recover.is
    (aside c.args.world.now c.recover.new.self c.args.tree.now (core.Recover c.in-Recover.dead.0 c.in-Recover.by.0) (heard_of c.args.heard.now) tt c.requires.disk c.requires.said c.recover.ensures)

pub load-requires : goal.load-requires
load-requires c = (fits_as c.args.world.now c.args.tree.now c.args.ready (kinds.Load c.in-Load.by c.in-Load.slot) c.in-Load.is c.requires.fits).may

pub returns-in-Load : goal.returns-in-Load
returns-in-Load c =
    step_of c.args.world.now c.load.new.world c.args.tree.now c.args.tree.now c.args.ready (kinds.Load c.in-Load.by c.in-Load.slot) (heard_of c.args.heard.now) c.in-Load.is
    (aside c.args.world.now c.load.new.world c.args.tree.now (core.Load c.in-Load.by.0 c.in-Load.slot) (heard_of c.args.heard.now) tt c.requires.disk c.requires.said c.load.ensures)

pub look-requires : goal.look-requires
look-requires c = (fits_as c.args.world.now c.args.tree.now c.args.ready (kinds.Look c.in-Look.by c.in-Look.sector) c.in-Look.is c.requires.fits).may

pub returns-in-Look : goal.returns-in-Look
returns-in-Look c =
    step_of c.args.world.now c.look.new.world c.args.tree.now c.args.tree.now c.args.ready (kinds.Look c.in-Look.by c.in-Look.sector) (heard_of c.args.heard.now) c.in-Look.is
    (aside c.args.world.now c.look.new.world c.args.tree.now (core.Look c.in-Look.by.0 c.in-Look.sector.0) (heard_of c.args.heard.now) tt c.requires.disk c.requires.said c.look.ensures)

pub finish-requires : goal.finish-requires
finish-requires c = (fits_as c.args.world.now c.args.tree.now c.args.ready (kinds.Finish c.in-Finish.by) c.in-Finish.is c.requires.fits).may

pub returns-in-Finish : goal.returns-in-Finish
returns-in-Finish c =
    step_of c.args.world.now c.finish.new.self c.args.tree.now c.args.tree.now c.args.ready (kinds.Finish c.in-Finish.by) (heard_of c.args.heard.now) c.in-Finish.is
    (aside c.args.world.now c.finish.new.self c.args.tree.now (core.Finish c.in-Finish.by.0) (heard_of c.args.heard.now) tt c.requires.disk c.requires.said c.finish.ensures)

pub host_line-requires-clause-may : goal.host_line-requires-clause-may
host_line-requires-clause-may c = (fits_as c.args.world.now c.args.tree.now c.args.ready (kinds.HostLine c.in-HostLine.number) c.in-HostLine.is c.requires.fits).may

pub host_line-requires-clause-going : goal.host_line-requires-clause-going
host_line-requires-clause-going c = not-true c.args.world.now.over (fits_as c.args.world.now c.args.tree.now c.args.ready (kinds.HostLine c.in-HostLine.number) c.in-HostLine.is c.requires.fits).can.going

pub returns-in-HostLine : goal.returns-in-HostLine
returns-in-HostLine c =
    step_of c.args.world.now c.host_line.new.self c.args.tree.now c.args.tree.now c.args.ready (kinds.HostLine c.in-HostLine.number) (heard_of c.args.heard.now) c.in-HostLine.is
    (aside c.args.world.now c.host_line.new.self c.args.tree.now (core.HostLine c.in-HostLine.number) (heard_of c.args.heard.now) tt c.requires.disk c.requires.said c.host_line.ensures)

pub close-requires : goal.close-requires
close-requires c = (fits_as c.args.world.now c.args.tree.now c.args.ready (kinds.Close c.in-Close.a) c.in-Close.is c.requires.fits).may

pub returns-in-Close : goal.returns-in-Close
returns-in-Close c =
    step_of c.args.world.now c.close.new.self c.args.tree.now c.args.tree.now c.args.ready (kinds.Close c.in-Close.a) (heard_of c.args.heard.now) c.in-Close.is
    (aside c.args.world.now c.close.new.self c.args.tree.now (core.Close c.in-Close.a.0) (heard_of c.args.heard.now) tt c.requires.disk c.requires.said c.close.ensures)

pub returns-in-End : goal.returns-in-End
returns-in-End c =
    step_of c.args.world.now c.host_failed.new.self c.args.tree.now c.args.tree.now c.args.ready kinds.End (heard_of c.args.heard.now) c.in-End.is
    (aside c.args.world.now c.host_failed.new.self c.args.tree.now core.End (heard_of c.args.heard.now) tt c.requires.disk c.requires.said c.host_failed.ensures)

pub unreachable-requires : goal.unreachable-requires
unreachable-requires c = subst IsNoArrivalReady c.in-Arrive.is c.requires.other

pub read-requires-clause-fits : goal.read-requires-clause-fits
read-requires-clause-fits c = fits_as c.args.world.now c.args.tree.now c.args.ready (kinds.Read c.in-Read.sector) c.in-Read.is c.requires.fits

pub returns-in-Read : goal.returns-in-Read
returns-in-Read c = step_of c.args.world.now c.read.new.world c.args.tree.now c.read.new.tree c.args.ready (kinds.Read c.in-Read.sector) (heard_of c.args.heard.now) c.in-Read.is c.read.ensures

pub said-requires-clause-made : goal.said-requires-clause-made
said-requires-clause-made c = (fits_as c.args.world.now c.args.tree.now c.args.ready (kinds.Show c.in-Show.field-0) c.in-Show.is c.requires.fits).may

pub said-requires-clause-there : goal.said-requires-clause-there
said-requires-clause-there c =
    there_is c.args.world.now c.args.tree.now c.requires.disk c.in-Show.field-0 (fits_as c.args.world.now c.args.tree.now c.args.ready (kinds.Show c.in-Show.field-0) c.in-Show.is c.requires.fits).can.can

pub returns-in-Show : goal.returns-in-Show
returns-in-Show c =
    let can = (fits_as c.args.world.now c.args.tree.now c.args.ready (kinds.Show c.in-Show.field-0) c.in-Show.is c.requires.fits).can.can in
    step_of c.args.world.now c.args.world.now c.args.tree.now c.said.new.self c.args.ready (kinds.Show c.in-Show.field-0) (heard_of c.args.heard.now) c.in-Show.is
    (shows c.args.world.now c.args.tree.now c.said.new.self c.in-Show.field-0 (heard_of c.args.heard.now) c.requires.disk (is_read c.args.world.now c.args.tree.now c.requires.disk c.in-Show.field-0 can)
    (there_is c.args.world.now c.args.tree.now c.requires.disk c.in-Show.field-0 can) c.said.ensures.segments c.said.ensures.read c.said.ensures.shown)
