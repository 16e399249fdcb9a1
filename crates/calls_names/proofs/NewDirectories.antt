-- What mkdir answers, and the tree that it leaves.
use Rattle.std.proofs.Common.{◌≡◌, ◌<◌, ◌≤◌, ◌+◌, ◌^◌, ℕ, refl, sym, ap, subst, ◌∙◌, arith, Ok, Err}
use mathlib.Core.Logic.{inl, inr}
use Rattle.std.specs.Prelude.{nat_le, nat_lt}
use Rattle.std.proofs.lemmas.Bool.{cond-false, cond-true, le-leb, le-ltb, lt-leb, lt-ltb}
use Rattle.errno.specs.declared.Errno.{Errno}
use Rattle.errno.specs.declared.Errno.TheVariants.{EINVAL, EMLINK, ENOSPC}
use Rattle.layout.specs.declared.Geometry.{Geometry}
use Rattle.layout.specs.Places.{IsGeometry}
use Rattle.tree.specs.declared.PathFrom.{PathFrom}
use Rattle.tree.specs.declared.User.{User}
use Rattle.tree.specs.declared.Who.{Who}
use Rattle.tree.specs.IsCall.{IsBytes}
use Rattle.tree.specs.IsTree.{IsTree}
use Rattle.tree.specs.Tree.{Node, Tree, most_links, most_permissions}
use Rattle.tree.specs.Refusals.{◌>>=◌, refuse_if}
use Rattle.tree.specs.Walk as tree
use Rattle.tree.specs.Changes.{free_inode}
use Rattle.tree.specs.Answers.{Effect, done, if_it_fits}
use Rattle.tree.specs.NameCalls.{mkdir}
use Rattle.tree.specs.Space.{data_zones, zones_used}
use Rattle.tree.proofs.CallsKeep.{mkdir_keeps}
use Rattle.tree.proofs.Outcomes.{free_inode_is}
use Rattle.volume.specs.Holds.{HoldsVolume}
use Rattle.volume.specs.Reading.{Disk}
use Rattle.descriptors.specs.Files.{Files, HasFiles}
use Rattle.path.specs.declared.place.NamePlace.{NamePlace}
use Rattle.path.specs.Places.{place_of}
use Rattle.calls_attributes.specs.Does.{Does}
use Rattle.calls_attributes.proofs.Made.{granted_made}
use Rattle.inode_operations.proofs.Between.{holds_at_end}
use Rattle.calls_names.specs.Making.{MakesDirectoryAt, MayMakeDirectoryAt, with_new_directory}
use Rattle.calls_names.specs.Vacant.{IsFreeFor, IsFull, IsNewPlace, at_new_place, zones_with_name}
use Rattle.calls_names.proofs.Numbers.{directory_in}
use Rattle.calls_names.proofs.Putting.{is_free, parent_links}
use Rattle.calls_names.proofs.Trees.{directory_files, directory_zones}

module _ (g : Geometry) (ok : IsGeometry g) (user : User) (now mode : ℕ) (path : PathFrom) where
  abbrev effect : Tree → Effect
  effect t = mkdir g t user now path mode

  abbrev after : Tree → tree.Place → ℕ → Tree
  after t place n = with_new_directory t user now mode place n

  abbrev with_number : Tree → tree.Place → ℕ → Effect
  with_number t place n = if_it_fits g done (after t place n)

  abbrev rest : Tree → tree.Place → Node → Effect
  rest t place parent = refuse_if (nat_le most_links parent.links) EMLINK >>= λ _. free_inode g t >>= with_number t place

  -- bits that are no permissions
  pub bad_mode : (t : Tree) → 511 < mode → effect t ≡ Err EINVAL
  bad_mode t big = ap (λ b. refuse_if b EINVAL >>= λ _. at_new_place t user path (rest t)) (lt-ltb most_permissions mode big)

  module _ (few : mode ≤ 511) where
    good_mode : (t : Tree) → effect t ≡ at_new_place t user path (rest t)
    good_mode t = ap (λ b. refuse_if b EINVAL >>= λ _. at_new_place t user path (rest t)) (le-ltb most_permissions mode few)

    -- the place isn't new
    pub no_place : (t : Tree) (e : Errno) → ((rest : tree.Place → Node → Effect) → at_new_place t user path rest ≡ Err e) → effect t ≡ Err e
    no_place t e h = good_mode t ∙ h (rest t)

    module _ (d : Disk) (t : Tree) (p : NamePlace) (holds : HoldsVolume g d t) (new : IsNewPlace g d t user path p) where
      abbrev place : tree.Place
      place = place_of g d p

      its_links : p.inode.links ≡ new.parent.links
      its_links = parent_links g ok d t p new.parent holds new.vacant

      -- the parent has as many links as may be
      pub many_links : most_links ≤ p.inode.links → effect t ≡ Err EMLINK
      many_links many =
          let same = its_links in
          good_mode t ∙ new.goes_on (rest t)
          ∙ ap (λ b. refuse_if b EMLINK >>= λ _. free_inode g t >>= with_number t place) (le-leb most_links new.parent.links (omega (arith, many, same)))

      module _ (low : p.inode.links < most_links) where
        to_number : effect t ≡ (free_inode g t >>= with_number t place)
        to_number =
            let same = its_links in
            good_mode t ∙ new.goes_on (rest t)
            ∙ ap (λ b. refuse_if b EMLINK >>= λ _. free_inode g t >>= with_number t place) (lt-leb most_links new.parent.links (omega (arith, low, same)))

        -- the zones of the tree with it
        its_zones : (n : ℕ) → free_inode g t ≡ Ok n
            → zones_used g (after t place n) ≡ zones_with_name g t p.directory new.parent p.name.now now n + 1
        its_zones n least =
            let free = is_free g t n least in
            let high = free.to in
            directory_zones g ok t user now mode place n new.parent new.vacant.there new.vacant.directory free.nothing new.vacant.free
            (directory_in g ok d t p new.parent holds new.vacant) (omega (arith, high))

        -- there is no room
        pub no_room : (e : Errno) → IsFull g t p.directory new.parent p.name.now 1 e → effect t ≡ Err e
        no_room e full = to_number ∙ (elim (free_inode_is g t) [
          | inl h ↦ ap (λ r. r >>= with_number t place) h.0
          | inr h ↦
              let zones = its_zones h.0 h.1 in
              let more = full.none h.0 h.1 now in
              ap (λ r. r >>= with_number t place) h.1
              ∙ cond-true (nat_lt (data_zones g) (zones_used g (after t place h.0))) (Err ENOSPC) (Ok (done, after t place h.0)) (lt-ltb _ _ (omega (arith, zones, more)))
        ]) ∙ ap (λ x. Err x) (sym full.errno)

        -- it is made
        module _ (n : ℕ) (free : IsFreeFor g t p.directory new.parent p.name.now 1 n) where
          pub is_made : effect t ≡ Ok (done, after t place n)
          is_made =
              let zones = its_zones n free.least in
              let fits = free.room now in
              to_number ∙ ap (λ r. r >>= with_number t place) free.least
              ∙ cond-false (nat_lt (data_zones g) (zones_used g (after t place n))) (Err ENOSPC) (Ok (done, after t place n)) (le-ltb _ _ (omega (arith, zones, fits)))

          abbrev who : Who
          who = record { session = 0; uid = user.uid; gid = user.gid }

          -- and is a tree
          still_tree : now < 2 ^ 32 → user.uid < 2 ^ 16 → user.gid < 2 ^ 16 → IsBytes path.bytes.now → IsTree g (after t place n)
          still_tree small uid gid bytes =
              subst (IsTree g) (ap (λ (r : Effect). elim r [ Ok made ↦ made.1 | Err e ↦ t ]) is_made)
              (mkdir_keeps g t who now path mode ok (record { session = omega arith; uid = uid; gid = gid }) small bytes holds.nodes.tree)

          pub may_make : MayMakeDirectoryAt g d p n
          may_make = record { make = record { tree = t; holds = holds; parent = new.parent; vacant = new.vacant; free = free }; links = low }

          pub made_held : (e : Disk) → MakesDirectoryAt g user now mode p n d e → now < 2 ^ 32 → user.uid < 2 ^ 16 → user.gid < 2 ^ 16 → IsBytes path.bytes.now
              → HoldsVolume g e (after t place n)
          unfolding may_make
          made_held e makes small uid gid bytes = holds_at_end g d e (after t place n).nodes t (after t place n) ok holds (makes may_make) refl (still_tree small uid gid bytes)

          pub made_files : (f : Files) → HasFiles f t → HasFiles f (after t place n)
          made_files f h =
              let it = is_free g t n free.least in
              directory_files g ok t user now mode place n new.parent new.vacant.there new.vacant.directory it.nothing new.vacant.free f h

    -- the whole call
    pub directory_done : (d e : Disk) (p : NamePlace) (n : ℕ) (f : Files) → now < 2 ^ 32 → user.uid < 2 ^ 16 → user.gid < 2 ^ 16 → IsBytes path.bytes.now → p.inode.links < most_links
        → ((t : Tree) → HoldsVolume g d t → (new : IsNewPlace g d t user path p) × IsFreeFor g t p.directory new.parent p.name.now 1 n)
        → MakesDirectoryAt g user now mode p n d e → Does g effect done (HasFiles f) (HasFiles f) d e
    directory_done d e p n f small uid gid bytes low found makes = record {
      each = λ t holds files.
          let x = found t holds in
          granted_made g t (after t (place_of g d p) n) (effect t) done (HasFiles f) e
          (is_made d t p holds x.0 low n x.1) (made_held d t p holds x.0 low n x.1 e makes small uid gid bytes) (made_files d t p holds x.0 low n x.1 f files);
    }
