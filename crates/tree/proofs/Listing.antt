-- A readdir lists the names of the directory, in the order of their bytes.
use Rattle.std.proofs.Common.{◌≡◌, ℕ, refl, sym, ap, subst, ◌∙◌}
use Rattle.std.specs.Prelude.{Ok, Err, nat_le}
use Rattle.layout.specs.declared.Geometry.{Geometry}
use Rattle.errno.specs.declared.Errno.TheVariants.{EINVAL, EBADF}
use Rattle.tree.specs.declared.Who.{Who}
use Rattle.tree.specs.Tree.{OpenFile, Tree, most_sessions}
use Rattle.tree.specs.IsTree.{IsBody, IsDirectory, IsTree}
use Rattle.tree.specs.Refusals.{◌>>=◌, or_refuse, refuse_if}
use Rattle.tree.specs.Changes.{open_file_of}
use Rattle.tree.specs.Answers.{Answer, names_are}
use Rattle.tree.specs.FileCalls.{readdir}
use Rattle.tree.specs.Sessions.{IsListing, ReaddirLists}
use Rattle.tree.proofs.Steps.{not_refused, ok_is, IsOpened}
use Rattle.tree.proofs.Outcomes.{Effects, IsClosed, plain_refuse}
use Rattle.tree.proofs.FileOutcomes.{readdir_each}

-- a descriptor that is open leads to its open file
pub opens_to : (t : Tree) (session fd : ℕ) (found : ℕ × OpenFile) → IsOpened t session fd found → open_file_of t session fd ≡ Ok found
opens_to t session fd found opened =
    ap (λ o. or_refuse o EBADF >>= λ k. or_refuse (t.open_files k) EBADF >>= λ x. Ok (k, x)) opened.descriptor
    ∙ ap (λ o. or_refuse o EBADF >>= λ x. Ok (found.0, x)) opened.file

module _ (g : Geometry) (t : Tree) (who : Who) (fd : ℕ) (tree : IsTree g t) where
  abbrev Lists : Effects → Type 0
  Lists F = (made : Answer × Tree) → F g.zones ≡ Ok made → IsListing t who.session fd made.0

  closed : IsClosed Lists
  closed A (Ok x) f plain h = h x refl
  closed A (Err e) f plain h = λ made is. absurd (not_refused e made is)

  lists : Lists (λ z. refuse_if (nat_le most_sessions who.session) EINVAL >>= λ _. readdir t who.session fd)
  lists =
      closed _ (refuse_if (nat_le most_sessions who.session) EINVAL) (λ _ z. readdir t who.session fd) (plain_refuse _ _ refl) (λ _ _.
      readdir_each t who.session Lists closed fd (λ found node d opened there body made is.
      let directory : IsDirectory d = subst (IsBody g) body (tree.nodes.each found.1.inode node there).body in
      record {
        number = found.0;
        file = found.1;
        node = node;
        directory = d;
        opened = opens_to t who.session fd found opened;
        there = there;
        body = body;
        names = ap (λ x. x.0) (sym (ok_is (names_are d.names, t) made (Ok (names_are d.names, t)) refl is));
        sorted = directory.sorted;
      }))

-- readdir
pub readdir_lists : ReaddirLists
readdir_lists g t who now fd made tree is = lists g t who fd tree made is
