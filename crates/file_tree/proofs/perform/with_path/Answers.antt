-- Each operation over the other path is what the definition says of it.
use Rattle.std.proofs.Common.{ap, sym}
use Rattle.file_tree.specs.Walks.{with_path}
use Rattle.file_tree.proofs.perform.with_path.Goals as goal

pub returns-in-Create : goal.returns-in-Create
returns-in-Create c = ap (λ o. with_path o c.args.path) (sym c.in-Create.is)

pub returns-in-Mkdir : goal.returns-in-Mkdir
returns-in-Mkdir c = ap (λ o. with_path o c.args.path) (sym c.in-Mkdir.is)

pub returns-in-Unlink : goal.returns-in-Unlink
returns-in-Unlink c = ap (λ o. with_path o c.args.path) (sym c.in-Unlink.is)

pub returns-in-Rmdir : goal.returns-in-Rmdir
returns-in-Rmdir c = ap (λ o. with_path o c.args.path) (sym c.in-Rmdir.is)

pub returns-in-Fill : goal.returns-in-Fill
returns-in-Fill c = ap (λ o. with_path o c.args.path) (sym c.in-Fill.is)

pub returns-in-Truncate : goal.returns-in-Truncate
returns-in-Truncate c = ap (λ o. with_path o c.args.path) (sym c.in-Truncate.is)

pub returns-in-Read : goal.returns-in-Read
returns-in-Read c = ap (λ o. with_path o c.args.path) (sym c.in-Read.is)

pub returns-in-Stat : goal.returns-in-Stat
returns-in-Stat c = ap (λ o. with_path o c.args.path) (sym c.in-Stat.is)

pub returns-in-List : goal.returns-in-List
returns-in-List c = ap (λ o. with_path o c.args.path) (sym c.in-List.is)

pub returns-in-Readlink : goal.returns-in-Readlink
returns-in-Readlink c = ap (λ o. with_path o c.args.path) (sym c.in-Readlink.is)

pub returns-in-Time : goal.returns-in-Time
returns-in-Time c = ap (λ o. with_path o c.args.path) (sym c.in-Time.is)
