use Rattle.std.proofs.Common.{sym, ap, subst, ◌∙◌, Option}
use Rattle.std.specs.Prelude.{IsTrue, option_map, ℕ}
use Rattle.volume.specs.Reading.{is_inode}
use Rattle.descriptors.specs.Table.{files_of}
use Rattle.descriptors.specs.Made.{shown}
use Rattle.tree.specs.declared.OpenFlags.{OpenFlags}
use Rattle.block_store.proofs.Turns.{reads_as}
use Rattle.calls_attributes.proofs.Exits.{ends_exit}
use Rattle.calls_attributes.proofs.Looks.{number_held}
use Rattle.calls_attributes.proofs.found.find.Goals as goal

pub returns-in_err-inode-in-Some-clause-reads : goal.returns-in_err-inode-in-Some-clause-reads
returns-in_err-inode-in-Some-clause-reads g c =
    reads_as _ _ _ _ _
    (λ d x. ends_exit _ _ _ _ _ _ c.from_residual.ensures.1
    (λ t. subst (λ (n : ℕ). IsTrue (is_inode c.args.geometry.now n)) (sym c.from.ensures)
    (number_held c.args.geometry.now d (files_of c.args.opens.now) c.args.session c.args.fd _
    (sym c.get.ensures ∙ ap (λ (y : Option (ℕ × ℕ × OpenFlags)). option_map shown y) c.in-Some.is) t)) x)
    c.in_err-inode-in-Some.ensures.reads
