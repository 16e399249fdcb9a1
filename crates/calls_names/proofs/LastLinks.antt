-- What open looks up: a symbolic link that stands last is followed, unless it is taken as it is.
use Rattle.std.proofs.Common.{◌≡◌, ℕ, Bool, true, false, refl, sym, ap, ◌∙◌, Ok, Err, None, Some}
use Rattle.std.specs.Prelude.{IsTrue, Option, Result, ◌&&◌, if◌then◌else◌, is_some, not}
use Rattle.errno.specs.declared.Errno.{Errno}
use Rattle.layout.specs.declared.Geometry.{Geometry}
use Rattle.tree.specs.declared.User.{User}
use Rattle.tree.specs.Tree.{Node, Tree, is_link_at}
use Rattle.tree.specs.Refusals.{◌>>=◌}
use Rattle.tree.specs.Walk.{Found, finds_link, is_missing, is_there, look_up, open_look_up, walk_parts, Way}
use Rattle.tree.specs.Walk as tree
use Rattle.volume.specs.declared.Inode.{Inode}
use Rattle.volume.specs.Holds.{HoldsVolume}
use Rattle.volume.specs.Nodes.{is_link_mode}
use Rattle.volume.specs.Pieces.{pieces}
use Rattle.volume.specs.Reading.{Disk}
use Rattle.path.specs.Walking.{Walks}
use Rattle.calls_attributes.proofs.Made.{node_there}
use Rattle.calls_names.specs.Opening.{IsFoundToOpen}

module _ (t : Tree) (user : User) (as_is : Bool) (way : Way) where
  abbrev whole : Result Found Errno
  whole = walk_parts t user way >>= λ n. Ok (is_there n)

  abbrev after_look : Found → Result Found Errno
  after_look found = if not as_is && finds_link t found then whole else Ok found

  -- the look-up is refused
  pub look_refused : (e : Errno) → look_up t user way ≡ Err e → open_look_up t user as_is way ≡ Err e
  look_refused e is = ap (λ r. r >>= after_look) is

  -- a name is missing
  pub look_missing : (place : tree.Place) → look_up t user way ≡ Ok (is_missing place)
      → open_look_up t user as_is way ≡ Ok (is_missing place)
  look_missing place is = ap (λ r. r >>= after_look) is ∙ ap (λ b. if b then whole else Ok (is_missing place)) (no_link (not as_is))
    where
      no_link : (b : Bool) → (b && false) ≡ false
      no_link true = refl
      no_link false = refl

  -- what is there stays, or is followed
  look_stays : (n : ℕ) → look_up t user way ≡ Ok (is_there n) → (not as_is && is_link_at t.nodes n) ≡ false
      → open_look_up t user as_is way ≡ Ok (is_there n)
  look_stays n is stays = ap (λ r. r >>= after_look) is ∙ ap (λ b. if b then whole else Ok (is_there n)) stays

  look_follows : (n : ℕ) → look_up t user way ≡ Ok (is_there n) → (not as_is && is_link_at t.nodes n) ≡ true
      → open_look_up t user as_is way ≡ whole
  look_follows n is follows = ap (λ r. r >>= after_look) is ∙ ap (λ b. if b then whole else Ok (is_there n)) follows

-- whether a link stands there is in its inode
link_is : (g : Geometry) (d : Disk) (t : Tree) (n : ℕ) → HoldsVolume g d t → IsTrue (is_some (t.nodes n)) → (i : Inode)
    → i ≡ (pieces g d).inodes n
    → is_link_at t.nodes n ≡ is_link_mode i.mode
link_is g d t n holds there i loaded =
    ap (λ (o : Option Node). elim o [ None ↦ false | Some node ↦ node.symbolic ]) (node_there g d t n holds there).1
    ∙ ap (λ (j : Inode). is_link_mode j.mode) (sym loaded)

module _ (g : Geometry) (d : Disk) (t : Tree) (user : User) (as_is : Bool) (way : Way) (holds : HoldsVolume g d t) (n : ℕ)
    (looked : look_up t user way ≡ Ok (is_there n)) (there : IsTrue (is_some (t.nodes n))) where
  -- what is found is taken as it is
  pub found_as_is : as_is ≡ true → IsFoundToOpen t user as_is way n
  found_as_is is = record {
    found = look_stays t user as_is way n looked (ap (λ b. not b && is_link_at t.nodes n) is);
    there = there;
  }

  module _ (follows : as_is ≡ false) (i : Inode) (loaded : i ≡ (pieces g d).inodes n) where
    its_kind : (link : Bool) → is_link_mode i.mode ≡ link → (not as_is && is_link_at t.nodes n) ≡ link
    its_kind link is = ap (λ b. not b && is_link_at t.nodes n) follows ∙ link_is g d t n holds there i loaded ∙ is

    -- it is no link
    pub found_no_link : is_link_mode i.mode ≡ false → IsFoundToOpen t user as_is way n
    found_no_link is = record {
      found = look_stays t user as_is way n looked (its_kind false is);
      there = there;
    }

    -- it is one, and the whole path is walked
    module _ (is : is_link_mode i.mode ≡ true) where
      pub walk_found : (m : ℕ) → Walks t user way (Ok m) → IsFoundToOpen t user as_is way m
      walk_found m w = record {
        found = look_follows t user as_is way n looked (its_kind true is) ∙ ap (λ r. r >>= λ k. Ok (is_there k)) (sym w.answer);
        there = w.there;
      }

      pub walk_refused : (e : Errno) → Walks t user way (Err e) → open_look_up t user as_is way ≡ Err e
      walk_refused e w = look_follows t user as_is way n looked (its_kind true is) ∙ ap (λ r. r >>= λ k. Ok (is_there k)) (sym w.answer)
