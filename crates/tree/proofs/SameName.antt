-- A rename of one name of a node onto another of the same node changes nothing.
use Rattle.std.proofs.Common.{◌≡◌, ℕ, refl, sym, subst, ◌∙◌}
use Rattle.std.specs.Prelude.{Some, Ok, Err, nat_le}
use Rattle.lemmas.proofs.Options.{some_same}
use Rattle.layout.specs.declared.Geometry.{Geometry}
use Rattle.errno.specs.declared.Errno.TheVariants.{EINVAL}
use Rattle.tree.specs.declared.PathFrom.{PathFrom}
use Rattle.tree.specs.declared.User.{User}
use Rattle.tree.specs.declared.Who.{Who}
use Rattle.tree.specs.Names.{inode_of}
use Rattle.tree.specs.Tree.{Tree, most_sessions}
use Rattle.tree.specs.Refusals.{◌>>=◌, refuse_if}
use Rattle.tree.specs.NameCalls.{rename}
use Rattle.tree.specs.Walk.{Place, read_path, parent_walk, Way}
use Rattle.tree.specs.Effects.{user_of}
use Rattle.lemmas.proofs.Maps.{not_nothing}
use Rattle.tree.specs.Room.{with_zones}
use Rattle.tree.specs.Sessions.{IsNameOf, RenameOfSameStays}
use Rattle.tree.proofs.Steps.{tree_after, ok_is}
use Rattle.tree.proofs.Outcomes.{Effects, IsClosed, plain_refuse}
use Rattle.tree.proofs.RenameOutcomes.{rename_each}

-- what a name leads to, it leads to by each way of reading it
same_found : (t : Tree) (user : User) (path : PathFrom) (n : ℕ) → IsNameOf t user path n → (parts : Way) (place : Place) → read_path path ≡ Ok parts
    → parent_walk t user parts ≡ Ok place → inode_of place.names place.name ≡ Some n
same_found t user path n name parts place read walked =
    let same_parts : name.parts ≡ parts = ok_is name.parts parts (read_path path) name.read read in
    let same_place : name.place ≡ place = ok_is name.place place (parent_walk t user parts) (subst (λ ps. parent_walk t user ps ≡ Ok name.place) same_parts name.walked) walked in
    subst (λ p. inode_of p.names p.name ≡ Some n) same_place name.found

module _ (g : Geometry) (t : Tree) (who : Who) (now n : ℕ) (old new : PathFrom) (old_name : IsNameOf t (user_of who) old n) (new_name : IsNameOf t (user_of who) new n) where
  abbrev Stays : Effects → Type 0
  Stays F = tree_after t (F g.zones) ≡ t

  closed : IsClosed Stays
  closed A (Ok x) f plain h = h x refl
  closed A (Err e) f plain h = refl

  pub same_stays : Stays (λ z. refuse_if (nat_le most_sessions who.session) EINVAL >>= λ _. rename (with_zones z g) t (user_of who) now old new)
  same_stays =
      closed _ (refuse_if (nat_le most_sessions who.session) EINVAL) (λ _ z. rename (with_zones z g) t (user_of who) now old new) (plain_refuse _ _ refl) (λ _ _.
      rename_each g t (user_of who) now old new Stays closed refl
      (λ from to m node made. absurd (not_nothing n (sym made.free ∙ same_found t (user_of who) new n new_name made.move.new_parts to made.move.read made.move.to)))
      (λ from to m node q other made.
      let a = some_same m n (sym made.move.found ∙ same_found t (user_of who) old n old_name made.move.old_parts from made.move.read_old made.move.from) in
      let b = some_same n q (sym (same_found t (user_of who) new n new_name made.move.new_parts to made.move.read made.move.to) ∙ made.taken) in
      absurd (made.differs (a ∙ b))))

-- rename
pub rename_of_same_stays : RenameOfSameStays
rename_of_same_stays g t who now n old new old_name new_name = same_stays g t who now n old new old_name new_name
