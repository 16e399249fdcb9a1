use Rattle.std.proofs.Common.{ap}
use Rattle.descriptors.specs.Table.{files_of}
use Rattle.calls_attributes.proofs.OpenFiles.{dup_done, dup_refused}
use Rattle.calls_attributes.proofs.open_files.dup.Goals as goal

pub returns-in-Ok-clause-does : goal.returns-in-Ok-clause-does
returns-in-Ok-clause-does c = λ g d e same.
    dup_done g d e same c.args.session c.args.fd c.requires.session (files_of c.args.opens.now) (files_of c.dup.new.self) c.in-Ok.other c.in-Ok.ensures.dup

pub returns-in-Err-clause-does : goal.returns-in-Err-clause-does
returns-in-Err-clause-does c = λ g d e same.
    dup_refused g d e same c.args.session c.args.fd c.requires.session (files_of c.args.opens.now) (files_of c.dup.new.self) c.in-Err.refusal c.in-Err.ensures.dup
    (ap files_of c.in-Err.ensures.refused)
