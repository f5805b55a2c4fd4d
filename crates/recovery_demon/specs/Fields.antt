-- A replay by its fields.
use Rattle.recovery_demon.specs.declared.replay.Replay.TheInside.{Inside}
use Rattle.recovery_demon.specs.Replays.{Replaying}

abbrev pub replaying_of : Inside → Replaying
replaying_of r = record {
  dead = r.dead.0;
  segments = r.segments;
  records = r.records.items;
  greatest = r.greatest.0;
  end = r.end;
  sealed = r.is_sealed;
  stage = r.course.stage;
  looks = r.looks.entries;
  looked = r.looked.entries;
  waiting = r.course.waiting.entries;
  flying = r.flying.entries;
  later = r.course.later.entries;
  first = r.course.first.entries;
  written = r.written.items;
}
