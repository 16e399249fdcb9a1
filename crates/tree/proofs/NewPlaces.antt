-- A place at which nothing is, for a name that a directory can have.
use Rattle.std.proofs.Common.{◌≡◌, ◌<◌, true, false, refl, sym, ap, ◌∙◌}
use Rattle.std.specs.Prelude.{Option, None, Some, is_some, Ok, not}
use Rattle.std.specs.List.{All}
use Rattle.std.proofs.lemmas.Bool.{or_parts, not-false}
use Rattle.lemmas.proofs.Bools.{false_not_true}
use Rattle.tree.specs.declared.PathFrom.{PathFrom}
use Rattle.tree.specs.declared.User.{User}
use Rattle.tree.specs.Names.{is_name, inode_of, has_name}
use Rattle.tree.specs.Tree.{Tree}
use Rattle.tree.specs.Refusals.{◌>>=◌}
use Rattle.tree.specs.Walk.{read_path, enter, walk_parts, parent_walk, parent_way, last_part, has_last_name, is_taken, Place, Way}
use Rattle.tree.proofs.Steps.{both_steps, ok_is}
use Rattle.tree.proofs.Places.{IsPlace, is_place}
use Rattle.tree.proofs.PathNames.{last_is_name}

-- what is not there is None
pub none_there : {A : Type 0} (o : Option A) → is_some o ≡ false → o ≡ None
none_there None h = refl
none_there (Some x) h = absurd (false_not_true (sym h))

-- the name of a place is the last part
place_name : (t : Tree) (user : User) (parts : Way) (place : Place) → parent_walk t user parts ≡ Ok place → place.name ≡ last_part parts.parts
place_name t user parts place h =
    let first = both_steps (walk_parts t user (parent_way parts)) (λ here. enter user (t.nodes here) >>= λ dir. Ok (record { directory = here; names = dir.1; name = last_part parts.parts })) place h in
    let second = both_steps (enter user (t.nodes first.0)) (λ dir. Ok (record { directory = first.0; names = dir.1; name = last_part parts.parts })) place first.2 in
    ap (λ p. p.name) (sym (ok_is _ place (Ok (record { directory = first.0; names = second.0.1; name = last_part parts.parts })) refl second.2))

-- the last part of a path is a name
pub last_named : (t : Tree) (user : User) (path : PathFrom) (parts : Way) (place : Place) → All (λ b. b < 256) path.bytes.now → read_path path ≡ Ok parts
    → parent_walk t user parts ≡ Ok place → has_last_name parts ≡ true → is_name place.name ≡ true
last_named t user path parts place bytes read walked last = ap is_name (place_name t user parts place walked) ∙ last_is_name path parts bytes read last

pub record IsNewPlace (t : Tree) (place : Place) : Type 0 where
  pub at : IsPlace t place
  pub free : inode_of place.names place.name ≡ None
  pub is_named : is_name place.name ≡ true

-- a place that is not taken is new
pub new_place : (t : Tree) (user : User) (path : PathFrom) (parts : Way) (place : Place) → All (λ b. b < 256) path.bytes.now → read_path path ≡ Ok parts
    → parent_walk t user parts ≡ Ok place → is_taken place parts ≡ false → IsNewPlace t place
new_place t user path parts place bytes read walked untaken =
    let none = or_parts (not (has_last_name parts)) (has_name place.names place.name) untaken in
    record {
      at = is_place t user parts place walked;
      free = none_there (inode_of place.names place.name) none.1;
      is_named = last_named t user path parts place bytes read walked (not-false _ none.0);
    }
