use Rattle.std.proofs.Common.{◌≡◌, ◌∙◌, true, false, sym, subst, refl}
use Rattle.lemmas.proofs.Bools.{false_not_true}
use Rattle.volume.specs.Nodes.{is_marked}
use Rattle.image.specs.Contents.{contents}
use Rattle.migrate.specs.Written.{IsMovedNode}
use Rattle.migrate.proofs.UsedNodes.{none_used}
use Rattle.migrate.proofs.Taken.{takes_none}
use Rattle.migrate.proofs.write.moved_inode.Goals as goal

pub returns-then-not-is_marked-clause-takes : goal.returns-then-not-is_marked-clause-takes
returns-then-not-is_marked-clause-takes c =
    let i = c.args.old.now.image in
    takes_none _ _ _ (none_used i.geometry (contents i) c.args.old.now.sized c.args.n (sym c.is_marked.ensures ∙ c.if-not-is_marked.true))

pub returns-then-not-is_marked-clause-inode : goal.returns-then-not-is_marked-clause-inode
returns-then-not-is_marked-clause-inode c =
    let i = c.args.old.now.image in
    let out : is_marked i.geometry (contents i) c.args.n ≡ false = sym c.is_marked.ensures ∙ c.if-not-is_marked.true in
    record {
      node = λ is. absurd (false_not_true (sym out ∙ is));
      blank = λ _. refl;
    }

pub returns-clause-inode : goal.returns-clause-inode
returns-clause-inode c =
    let i = c.args.old.now.image in
    let is : is_marked i.geometry (contents i) c.args.n ≡ true = sym c.is_marked.ensures ∙ c.if-not-is_marked.false in
    record {
      node = λ _. subst (IsMovedNode i.geometry (contents i) _ _ _) (sym c.encode.ensures.reads) c.in_ok-inode.ensures.node;
      blank = λ out. absurd (false_not_true (sym out ∙ is));
    }
