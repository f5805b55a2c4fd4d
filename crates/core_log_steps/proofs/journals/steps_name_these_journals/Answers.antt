-- By the case of a step.
use Rattle.core_log_steps.proofs.Naming.{arrivals_name, commits_name, issues_name, lives_name, log_arrivals_name, log_issues_name, others_name, reclaims_name}
use Rattle.core_log_steps.proofs.journals.steps_name_these_journals.Goals as goal

pub returns : goal.returns
returns c = record {
  lives = lives_name;
  log_issues = log_issues_name;
  issues = issues_name;
  log_arrivals = log_arrivals_name;
  arrivals = arrivals_name;
  commits = commits_name;
  reclaims = reclaims_name;
  others = others_name;
}
