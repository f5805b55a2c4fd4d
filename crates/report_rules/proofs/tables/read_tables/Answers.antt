-- Table by table.
use Rattle.report_rules.proofs.tables.read_tables.Goals as goal

pub returns : goal.returns
returns c = record {
  long = c.in_ok-reached.ensures.long;
  reach = c.in_ok-reached.ensures.reach;
  names = c.in_ok-names.ensures;
  small = c.in_ok-small.ensures.small;
  large = c.in_ok-small.ensures.large;
  directories = c.in_ok-directories.ensures.directories;
  repeats = c.in_ok-directories.ensures.repeats;
}
