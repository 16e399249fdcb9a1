-- Open keeps a tree a tree.
use Rattle.std.proofs.Common.{◌≡◌, ◌<◌, ◌+◌, ◌^◌, ℕ, Bool, true, false, refl, sym, ap, subst, ◌∙◌, arith}
use mathlib.Core.Logic.{inl, inr}
use Rattle.std.specs.Prelude.{Option, None, Some, is_some, Ok, Result, not, IsTrue, if◌then◌else◌, ◌&&◌}
use Rattle.std.specs.List.{All}
use Rattle.std.proofs.lemmas.Bool.{cases_Bool, cond_both, cond-true, cond-false, and_cases, not_from_false}
use Rattle.lemmas.proofs.Bools.{false_not_true}
use Rattle.layout.specs.declared.Geometry.{Geometry}
use Rattle.layout.specs.Places.{IsGeometry}
use Rattle.tree.specs.declared.PathFrom.{PathFrom}
use Rattle.tree.specs.declared.User.{User}
use Rattle.tree.specs.declared.Call.TheVariants.{Open}
use Rattle.tree.specs.Names.{inode_of}
use Rattle.tree.specs.Flags.{writes, truncates}
use Rattle.tree.specs.Tree.{Body, File, is_file, is_directory, Node, Tree, is_dir, is_dir_at, is_link_at, with_node, most_sessions}
use Rattle.errno.specs.declared.Errno.{Errno}
use Rattle.tree.specs.IsTree.{HasTarget, IsTree}
use Rattle.tree.specs.Refusals.{◌>>=◌}
use Rattle.tree.specs.Walk.{Place, Found, is_there, is_missing, found_at, finds_link, open_look_up, look_up, walk_parts, parent_walk, Way}
use Rattle.tree.specs.Walk.{has_last_name}
use Rattle.tree.specs.Changes.{new_node, empty_file, with_body, file_after_resize}
use Rattle.tree.specs.Answers.{descriptor, if_it_fits}
use Rattle.tree.specs.NameCalls.{with_entry}
use Rattle.tree.specs.FileCalls.{Slot, with_open, after_truncate_flag}
use Rattle.tree.specs.Effects.{user_of}
use Rattle.lemmas.proofs.Maps.{put-same}
use Rattle.tree.specs.Keeps.{OpenKeeps}
use Rattle.tree.proofs.Steps.{both_steps, ok_is}
use Rattle.tree.proofs.Places.{is_place}
use Rattle.tree.proofs.FileBodies.{resized_fits}
use Rattle.tree.proofs.ByteCalls.{file_fits, file_changed}
use Rattle.tree.proofs.Shapes.{kind_of, links_of}
use Rattle.tree.proofs.NewPlaces.{last_named}
use Rattle.tree.proofs.NewlyOpen.{IsFreeSlot, opened_is_tree}
use Rattle.tree.proofs.OpenOutcomes.{IsAsked, IsThere, IsMissing, open_each}
use Rattle.tree.proofs.TreeOver.{IsOver}
use Rattle.tree.proofs.Linked.{linked}
use Rattle.tree.proofs.Keeping.{Keeps, keeps_closed, in_session, taken_if_it_fits}

-- What a name that is missing tells.
pub record IsMissingAt (t : Tree) (user : User) (parts : Way) (place : Place) : Type 0 where
  pub last : has_last_name parts ≡ true
  pub walked : parent_walk t user parts ≡ Ok place
  pub free : inode_of place.names place.name ≡ None

-- what was found is a missing name
abbrev is_missing_place : Found → Bool
is_missing_place (is_there n) = false
is_missing_place (is_missing place) = true

-- the place of a missing name
abbrev place_or : Place → Found → Place
place_or x (is_there n) = x
place_or x (is_missing place) = place

-- a name that is missing is not found
found_missing : (place other : Place) (o : Option ℕ) → inode_of place.names place.name ≡ o → found_at place ≡ is_missing other → (inode_of place.names place.name ≡ None) × (place ≡ other)
found_missing place other None e h = (e, ap (place_or place) (sym (ap (λ o. elim o [ None ↦ is_missing place | Some n ↦ is_there n ]) e) ∙ h))
found_missing place other (Some n) e h = absurd (false_not_true (ap is_missing_place (sym (ap (λ o. elim o [ None ↦ is_missing place | Some n ↦ is_there n ]) e) ∙ h)))

-- a look-up that finds no name
pub missing_at : (t : Tree) (user : User) (parts : Way) (place : Place) → look_up t user parts ≡ Ok (is_missing place) → IsMissingAt t user parts place
missing_at t user parts place h = elim (cases_Bool (has_last_name parts)) [
  | inl last ↦
      let looked = sym (cond-true (has_last_name parts) (parent_walk t user parts >>= λ x. Ok (found_at x)) (walk_parts t user parts >>= λ n. Ok (is_there n)) last) ∙ h in
      let walked = both_steps (parent_walk t user parts) (λ x. Ok (found_at x)) (is_missing place) looked in
      let found = found_missing walked.0 place (inode_of walked.0.names walked.0.name) refl (ok_is (found_at walked.0) (is_missing place) (Ok (found_at walked.0)) refl walked.2) in
      record {
        last = last;
        walked = walked.1 ∙ ap Ok found.1;
        free = subst (λ p. inode_of p.names p.name ≡ None) found.1 found.0;
      }
  | inr none ↦
      let looked = sym (cond-false (has_last_name parts) (parent_walk t user parts >>= λ x. Ok (found_at x)) (walk_parts t user parts >>= λ n. Ok (is_there n)) none) ∙ h in
      let walked = both_steps (walk_parts t user parts) (λ n. Ok (is_there n)) (is_missing place) looked in
      absurd (false_not_true (ap is_missing_place (ok_is (is_there walked.0) (is_missing place) (Ok (is_there walked.0)) refl walked.2)))
]

-- what open finds where its look-up found this
abbrev after_look : (t : Tree) (user : User) (as_is : Bool) (parts : Way) (x : Found) → Result Found Errno
after_look t user as_is parts x = if not as_is && finds_link t x then (walk_parts t user parts >>= λ n. Ok (is_there n)) else Ok x

-- a look-up for open finds no name where the look-up finds none
open_missing_at : (t : Tree) (user : User) (as_is : Bool) (parts : Way) (place : Place)
    → open_look_up t user as_is parts ≡ Ok (is_missing place) → look_up t user parts ≡ Ok (is_missing place)
open_missing_at t user as_is parts place h =
    let first = both_steps (look_up t user parts) (after_look t user as_is parts) (is_missing place) h in
    elim (cases_Bool (not as_is && finds_link t first.0)) [
      | inl followed ↦
          let walked = both_steps (walk_parts t user parts) (λ n. Ok (is_there n)) (is_missing place)
          (sym (cond-true _ (walk_parts t user parts >>= λ n. Ok (is_there n)) (Ok first.0) followed) ∙ first.2) in
          absurd (false_not_true
          (ap is_missing_place (ok_is (is_there walked.0) (is_missing place) (Ok (is_there walked.0)) refl walked.2)))
      | inr stays ↦ first.1 ∙ sym (cond-false _ (walk_parts t user parts >>= λ n. Ok (is_there n)) (Ok first.0) stays) ∙ first.2
    ]

-- the root of a tree is no link
root_no_link : (g : Geometry) (t : Tree) → IsTree g t → is_link_at t.nodes 1 ≡ false
root_no_link g t tree = by_node (t.nodes 1) refl
  where
    by_body : (symbolic : Bool) (body : Body) → (IsTrue symbolic → HasTarget body)
        → (elim body [ is_file f ↦ false | is_directory d ↦ true ]) ≡ true → symbolic ≡ false
    by_body false body target is = refl
    by_body true (is_file f) target is = absurd (false_not_true is)
    by_body true (is_directory d) target is = absurd (target refl)

    by_node : (o : Option Node) → t.nodes 1 ≡ o → is_link_at t.nodes 1 ≡ false
    by_node None e = ap (λ o. elim o [ None ↦ false | Some node ↦ node.symbolic ]) e
    by_node (Some node) e =
        ap (λ o. elim o [ None ↦ false | Some x ↦ x.symbolic ]) e
        ∙ by_body node.symbolic node.body (tree.nodes.each 1 node e).target (sym (ap (λ o. is_dir_at (λ _. o) 1) e) ∙ tree.nodes.root)

-- what holds of the tree, and of the tree in which the file is cut, holds after the truncate flag
pub cut_is : (g : Geometry) (t : Tree) (now flags n : ℕ) (Q : Tree → Type 0) → Q t → (body : Body) (node : Node)
    → ((f : File) → body ≡ is_file f → Q (with_node t n (Some (with_body now (is_file (file_after_resize g f 0)) (record node { body = body })))))
    → Q (after_truncate_flag g t now flags n (record node { body = body }))
cut_is g t now flags n Q stays (is_file f) node cut = cond_both (truncates flags) _ t Q (λ _. cut f refl) (λ _. stays)
cut_is g t now flags n Q stays (is_directory d) node cut = stays

module _ (g : Geometry) (t : Tree) (user : User) (now session : ℕ) (path : PathFrom) (flags mode : ℕ) (session_in : session < most_sessions)
    (is : IsGeometry g) (uid : user.uid < 2 ^ 16) (gid : user.gid < 2 ^ 16) (small : now < 2 ^ 32) (bytes : All (λ b. b < 256) path.bytes.now) (tree : IsTree g t) where
  slot_free : (slot : Slot) (parts : Way) (found : Found) → IsAsked g t user now session path flags mode (Keeps g t) (keeps_closed g t tree) slot parts found
      → (u : Tree) → IsOver t u → IsFreeSlot u slot
  slot_free slot parts found asked u over = record {
    session = let same = asked.session_is in omega (arith, same, session_in);
    fd = asked.fd.0;
    number = asked.number.0;
    no_descriptor = ap (λ f. f slot.session slot.fd) over.descriptors ∙ ap (λ s. t.descriptors s slot.fd) asked.session_is ∙ asked.fd.1;
    no_file = ap (λ f. f slot.number) over.files ∙ asked.number.1;
  }

  opened_there : (slot : Slot) (n : ℕ) (node : Node) → IsThere g t user now session path flags mode (Keeps g t) (keeps_closed g t tree) slot n node
      → IsTree g (with_open (after_truncate_flag g t now flags n node) slot n flags)
  opened_there slot n node is_it =
      let good = not_from_false _ is_it.asked.good in
      cut_is g t now flags n (λ u. IsTree g (with_open u slot n flags))
      (opened_is_tree g t tree slot (slot_free slot is_it.parts (is_there n) is_it.asked t (record { files = refl; descriptors = refl })) n flags
      (ap is_some is_it.at_inode) good
      (λ w. ap kind_of is_it.at_inode ∙ elim (and_cases (is_dir node) (writes flags) is_it.not_a_directory) [ inl f ↦ f | inr never ↦ absurd (false_not_true (sym never ∙ w)) ]))
      node.body node (λ f body.
      let new = with_body now (is_file (file_after_resize g f 0)) node in
      let u = with_node t n (Some new) in
      opened_is_tree g u
      (file_changed g t n now node f (file_after_resize g f 0) small is_it.at_inode body is_it.no_link
      (resized_fits g f 0 (omega arith) (file_fits g node f (tree.nodes.each n node is_it.at_inode) body)) tree)
      slot (slot_free slot is_it.parts (is_there n) is_it.asked u (record { files = refl; descriptors = refl })) n flags
      (ap is_some (put-same t.nodes n (Some new))) good (λ w. ap kind_of (put-same t.nodes n (Some new))))

  opened_new : (slot : Slot) (place : Place) (n : ℕ) → IsMissing g t user now session path flags mode (Keeps g t) (keeps_closed g t tree) slot place n
      → Keeps g t (λ z. if_it_fits g (descriptor slot.fd) (with_open (with_entry (with_node t n (Some (new_node now user mode 1 empty_file))) now place n) slot n flags))
  opened_new slot place n is_it =
      let missing = missing_at t user is_it.parts place (open_missing_at t user _ is_it.parts place is_it.asked.looked) in
      let free = is_it.inode in
      let made = linked g is t tree now small place (is_place t user is_it.parts place missing.walked) missing.free
      (last_named t user path is_it.parts place bytes is_it.asked.read missing.walked missing.last)
      n free.from free.to (ap kind_of free.nothing) (new_node now user mode 1 empty_file) refl
      (record {
        permissions = is_it.asked.fits;
        links = omega arith;
        uid = uid;
        gid = gid;
        atime = small;
        mtime = small;
        ctime = small;
        body = record { size = omega arith; held = λ q h. absurd (false_not_true h); zeros = λ p h. refl; bytes = λ p. omega arith };
        target = λ h. absurd (false_not_true h);
      })
      (ap (λ o. links_of o + 1) (sym free.nothing)) (omega arith) in
      taken_if_it_fits g t (descriptor slot.fd) (with_open (with_entry (with_node t n (Some (new_node now user mode 1 empty_file))) now place n) slot n flags) tree (λ fits.
      let it = made fits in
      opened_is_tree g (with_entry (with_node t n (Some (new_node now user mode 1 empty_file))) now place n) it.is_tree slot
      (slot_free slot is_it.parts (is_missing place) is_it.asked _ it.over) n flags it.some (not_from_false _ is_it.asked.good) (λ w. it.file))

-- open
pub open_keeps : OpenKeeps
open_keeps g t who now path flags mode is caller small bytes tree = in_session g t who now (Open path flags mode) tree (λ session_in.
    open_each g t (user_of who) now who.session path flags.0 mode (Keeps g t) (keeps_closed g t tree) (λ _. tree)
    (opened_there g t (user_of who) now who.session path flags.0 mode session_in is caller.uid caller.gid small bytes tree)
    (opened_new g t (user_of who) now who.session path flags.0 mode session_in is caller.uid caller.gid small bytes tree))
