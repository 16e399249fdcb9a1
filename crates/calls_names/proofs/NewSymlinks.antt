-- What symlink answers, and the tree that it leaves.
use Rattle.std.proofs.Common.{◌≡◌, ◌<◌, ◌+◌, ◌^◌, ℕ, List, Bool, true, false, refl, sym, ap, subst, ◌∙◌, arith, Ok, Err}
use mathlib.Core.Logic.{inl, inr}
use Rattle.std.specs.Borrow.{Bor}
use Rattle.std.specs.Prelude.{Result, length, ◌==◌, nat_lt}
use Rattle.std.specs.List.{list_any}
use Rattle.std.proofs.lemmas.Bool.{cond-false, cond-true, le-ltb, lt-ltb}
use Rattle.errno.specs.declared.Errno.{Errno}
use Rattle.errno.specs.declared.Errno.TheVariants.{EINVAL, ENAMETOOLONG, ENOENT, ENOSPC}
use Rattle.layout.specs.declared.Geometry.{Geometry}
use Rattle.layout.specs.Places.{IsGeometry}
use Rattle.tree.specs.declared.PathFrom.{PathFrom}
use Rattle.tree.specs.declared.User.{User}
use Rattle.tree.specs.declared.Who.{Who}
use Rattle.tree.specs.IsCall.{IsBytes}
use Rattle.tree.specs.IsTree.{IsTree}
use Rattle.tree.specs.Tree.{Node, Tree, most_target}
use Rattle.tree.specs.Refusals.{◌>>=◌, refuse_if}
use Rattle.tree.specs.Walk as tree
use Rattle.tree.specs.Changes.{free_inode}
use Rattle.tree.specs.Answers.{Effect, done, if_it_fits}
use Rattle.tree.specs.NameCalls.{symlink}
use Rattle.tree.specs.Space.{data_zones, zones_used}
use Rattle.tree.proofs.SymlinkCall.{symlink_keeps}
use Rattle.tree.proofs.Outcomes.{free_inode_is}
use Rattle.volume.specs.Holds.{HoldsVolume}
use Rattle.volume.specs.Reading.{Disk}
use Rattle.descriptors.specs.Files.{Files, HasFiles}
use Rattle.path.specs.declared.place.NamePlace.{NamePlace}
use Rattle.path.specs.Places.{place_of}
use Rattle.calls_attributes.specs.Does.{Does}
use Rattle.calls_attributes.proofs.Made.{granted_made}
use Rattle.inode_operations.proofs.Between.{holds_at_end}
use Rattle.calls_names.specs.Asking.{may_be_target}
use Rattle.calls_names.specs.Making.{MakesLinkAt, MayMakeAt, with_new_link}
use Rattle.calls_names.specs.Vacant.{IsFreeFor, IsFull, IsNewPlace, at_new_place, zones_with_name}
use Rattle.calls_names.proofs.Numbers.{directory_in}
use Rattle.calls_names.proofs.Putting.{is_free}
use Rattle.calls_names.proofs.Trees.{link_files, link_zones}

-- the three questions of a target, and a call behind them
abbrev asked : Bool → Bool → Bool → Result (Unit {0}) Errno
asked a b c = refuse_if a ENOENT >>= λ _. refuse_if b ENAMETOOLONG >>= λ _. refuse_if c EINVAL >>= λ _. Ok tt

asked_first : (a b c : Bool) (call : Effect)
    → (refuse_if a ENOENT >>= λ _. refuse_if b ENAMETOOLONG >>= λ _. refuse_if c EINVAL >>= λ _. call) ≡ (asked a b c >>= λ _. call)
asked_first true b c call = refl
asked_first false true c call = refl
asked_first false false true call = refl
asked_first false false false call = refl

module _ (g : Geometry) (ok : IsGeometry g) (user : User) (now : ℕ) (target : Bor (List ℕ)) (path : PathFrom) where
  abbrev effect : Tree → Effect
  effect t = symlink g t user now target.now path

  abbrev after : Tree → tree.Place → ℕ → Tree
  after t place n = with_new_link t user now target.now place n

  abbrev with_number : Tree → tree.Place → ℕ → Effect
  with_number t place n = if_it_fits g done (after t place n)

  abbrev rest : Tree → tree.Place → Node → Effect
  rest t place parent = free_inode g t >>= with_number t place

  by_target : (t : Tree) → effect t ≡ (may_be_target target.now >>= λ _. at_new_place t user path (rest t))
  by_target t =
      asked_first (length target.now == 0) (nat_lt most_target (length target.now)) (list_any (λ c. c == 0) target.now)
      (at_new_place t user path (rest t))

  -- the bytes are no target
  pub bad_target : (t : Tree) (e : Errno) → may_be_target target.now ≡ Err e → effect t ≡ Err e
  bad_target t e is = by_target t ∙ ap (λ r. r >>= λ _. at_new_place t user path (rest t)) is

  module _ (fit : may_be_target target.now ≡ Ok tt) where
    good_target : (t : Tree) → effect t ≡ at_new_place t user path (rest t)
    good_target t = by_target t ∙ ap (λ r. r >>= λ _. at_new_place t user path (rest t)) fit

    -- the place isn't new
    pub no_place : (t : Tree) (e : Errno) → ((rest : tree.Place → Node → Effect) → at_new_place t user path rest ≡ Err e)
        → effect t ≡ Err e
    no_place t e h = good_target t ∙ h (rest t)

    module _ (d : Disk) (t : Tree) (p : NamePlace) (holds : HoldsVolume g d t) (new : IsNewPlace g d t user path p) where
      abbrev place : tree.Place
      place = place_of g d p

      to_number : effect t ≡ (free_inode g t >>= with_number t place)
      to_number = good_target t ∙ new.goes_on (rest t)

      -- the zones of the tree with it
      its_zones : (n : ℕ) → free_inode g t ≡ Ok n
          → zones_used g (after t place n) ≡ zones_with_name g t p.directory new.parent p.name.now now n + 1
      its_zones n least =
          let free = is_free g t n least in
          let high = free.to in
          link_zones g ok t user now 0 place n new.parent new.vacant.there new.vacant.directory free.nothing new.vacant.free target.now
          (directory_in g ok d t p new.parent holds new.vacant) (omega (arith, high))

      -- there is no room
      pub no_room : (e : Errno) → IsFull g t p.directory new.parent p.name.now 1 e → effect t ≡ Err e
      no_room e full = to_number ∙ (elim (free_inode_is g t) [
        | inl h ↦ ap (λ r. r >>= with_number t place) h.0
        | inr h ↦
            let zones = its_zones h.0 h.1 in
            let more = full.none h.0 h.1 now in
            ap (λ r. r >>= with_number t place) h.1
            ∙ cond-true (nat_lt (data_zones g) (zones_used g (after t place h.0))) (Err ENOSPC) (Ok (done, after t place h.0))
            (lt-ltb _ _ (omega (arith, zones, more)))
      ]) ∙ ap (λ x. Err x) (sym full.errno)

      -- it is made
      module _ (n : ℕ) (free : IsFreeFor g t p.directory new.parent p.name.now 1 n) where
        pub is_made : effect t ≡ Ok (done, after t place n)
        is_made =
            let zones = its_zones n free.least in
            let fits = free.room now in
            to_number ∙ ap (λ r. r >>= with_number t place) free.least
            ∙ cond-false (nat_lt (data_zones g) (zones_used g (after t place n))) (Err ENOSPC) (Ok (done, after t place n))
            (le-ltb _ _ (omega (arith, zones, fits)))

        abbrev who : Who
        who = record { session = 0; uid = user.uid; gid = user.gid }

        -- and is a tree
        still_tree : now < 2 ^ 32 → user.uid < 2 ^ 16 → user.gid < 2 ^ 16 → IsBytes target.now → IsBytes path.bytes.now
            → IsTree g (after t place n)
        still_tree small uid gid its_bytes bytes =
            subst (IsTree g) (ap (λ (r : Effect). elim r [ Ok made ↦ made.1 | Err e ↦ t ]) is_made)
            (symlink_keeps g t who now target path ok (record { session = omega arith; uid = uid; gid = gid }) small its_bytes bytes
            holds.nodes.tree)

        pub may_make : MayMakeAt g d p n 1
        may_make = record { tree = t; holds = holds; parent = new.parent; vacant = new.vacant; free = free }

        pub made_held : (e : Disk) → MakesLinkAt g user now target.now p n d e → now < 2 ^ 32 → user.uid < 2 ^ 16 → user.gid < 2 ^ 16
            → IsBytes target.now → IsBytes path.bytes.now → HoldsVolume g e (after t place n)
        unfolding may_make
        made_held e makes small uid gid its_bytes bytes =
            holds_at_end g d e (after t place n).nodes t (after t place n) ok holds (makes may_make) refl
            (still_tree small uid gid its_bytes bytes)

        pub made_files : (f : Files) → HasFiles f t → HasFiles f (after t place n)
        made_files f h =
            let it = is_free g t n free.least in
            link_files g ok t user now 0 place n new.parent new.vacant.there new.vacant.directory it.nothing new.vacant.free target.now f h

    -- the whole call
    pub link_done : (d e : Disk) (p : NamePlace) (n : ℕ) (f : Files) → now < 2 ^ 32 → user.uid < 2 ^ 16 → user.gid < 2 ^ 16
        → IsBytes target.now → IsBytes path.bytes.now
        → ((t : Tree) → HoldsVolume g d t → (new : IsNewPlace g d t user path p) × IsFreeFor g t p.directory new.parent p.name.now 1 n)
        → MakesLinkAt g user now target.now p n d e → Does g effect done (HasFiles f) (HasFiles f) d e
    link_done d e p n f small uid gid its_bytes bytes found makes = record {
      each = λ t holds files.
          let x = found t holds in
          granted_made g t (after t (place_of g d p) n) (effect t) done (HasFiles f) e
          (is_made d t p holds x.0 n x.1) (made_held d t p holds x.0 n x.1 e makes small uid gid its_bytes bytes)
          (made_files d t p holds x.0 n x.1 f files);
    }
