-- When a client call is refused for want of an inode.
use Rattle.std.proofs.Common.{◌≡◌, ℕ, List, true, refl, sym, ap, ◌∙◌}
use mathlib.Core.Logic.{inl, inr}
use Rattle.std.specs.Prelude.{Some, is_some, nat_le}
use Rattle.std.proofs.lemmas.Bool.{cases_Bool}
use Rattle.lemmas.proofs.Bools.{false_not_true}
use Rattle.layout.specs.declared.Geometry.{Geometry}
use Rattle.errno.specs.declared.Errno.TheVariants.{EINVAL}
use Rattle.tree.specs.declared.Who.{Who}
use Rattle.tree.specs.declared.Call.{Call}
use Rattle.tree.specs.declared.Call.TheVariants.{Open, Close, Dup, Read, Write, Seek, Stat, Fstat, Link, Unlink, Mkdir, Rmdir, Rename}
use Rattle.tree.specs.declared.Call.TheVariants.{Chmod, Chown, Utime, Truncate, Readdir, Sync, Statfs, Symlink, Readlink, Lstat}
use Rattle.tree.specs.Tree.{Tree, with_node, most_sessions}
use Rattle.tree.specs.Refusals.{refuse_if}
use Rattle.tree.specs.Walk.{Place}
use Rattle.tree.specs.Changes.{new_node, new_link, empty_file, empty_directory, more_links}
use Rattle.tree.specs.Names.{with_name}
use Rattle.tree.specs.Answers.{done, descriptor}
use Rattle.tree.specs.FileCalls.{Slot, with_open, after_truncate_flag}
use Rattle.tree.specs.NameCalls.{with_entry}
use Rattle.tree.specs.Effects.{user_of, effect_in_session, effect_of}
use Rattle.lemmas.proofs.Maps.{put-same}
use Rattle.tree.specs.Room.{with_one_inode_more, NoInodeFree, may_make, FullIsRefused, EnospcMeans}
use Rattle.tree.proofs.Outcomes.{plain_refuse}
use Rattle.tree.proofs.OpenOutcomes.{with_new_file, open_up_to_inode}
use Rattle.tree.proofs.NameOutcomes.{with_new_directory, mkdir_up_to_inode}
use Rattle.tree.proofs.Symlinks.{with_new_link, symlink_up_to_inode}
use Rattle.tree.proofs.OpenCall.{cut_is}
use Rattle.tree.proofs.Views.{view_kept, some_named}
use Rattle.tree.proofs.Spaced.{IsNoMore, no_more_itself, no_more_at}
use Rattle.tree.proofs.SpacedCalls.{effect_spaced}
use Rattle.tree.proofs.OneMore.{volumes, WantsInode, wants_closed, wants_none, wants_inode}

module _ (g : Geometry) (t : Tree) (full : NoInodeFree g t) (who : Who) (now : ℕ) where
  -- the new file is there
  file_there : (flags mode : ℕ) (slot : Slot) (place : Place) (n : ℕ) → is_some ((with_new_file t (user_of who) now flags mode slot place n).nodes n) ≡ true
  file_there flags mode slot place n =
      let node = Some (new_node now (user_of who) mode 1 empty_file) in
      some_named (with_node t n node) place.directory now (λ names. with_name names place.name n) n ∙ ap is_some (put-same t.nodes n node)

  -- the new directory is there
  directory_there : (mode : ℕ) (place : Place) (n : ℕ) → is_some ((with_new_directory t (user_of who) now mode place n).nodes n) ≡ true
  directory_there mode place n =
      let node = Some (new_node now (user_of who) mode 2 (empty_directory place.directory)) in
      view_kept is_some (with_entry (with_node t n node) now place n) place.directory (more_links 1) (λ _. refl) n
      ∙ (some_named (with_node t n node) place.directory now (λ names. with_name names place.name n) n ∙ ap is_some (put-same t.nodes n node))

  -- the new link is there
  link_there : (target : List ℕ) (place : Place) (n : ℕ) → is_some ((with_new_link t (user_of who) now target place n).nodes n) ≡ true
  link_there target place n =
      let node = Some (new_link now (user_of who) target) in
      some_named (with_node t n node) place.directory now (λ names. with_name names place.name n) n ∙ ap is_some (put-same t.nodes n node)

  -- a call that may make a node wants an inode
  call_wants : (call : Call) → may_make call ≡ true → WantsInode g t (λ z. effect_in_session (volumes g z) t who now call)
  call_wants (Open path flags mode) _ =
      open_up_to_inode g t (user_of who) now who.session path flags.0 mode (WantsInode g t) (wants_closed g t) (volumes g)
      (λ slot n node is.
      wants_none g t (descriptor slot.fd) (λ z. with_open (after_truncate_flag (volumes g z) t now flags.0 n node) slot n flags.0) (λ z.
      cut_is (volumes g z) t now flags.0 n (λ u. IsNoMore u t) (no_more_itself t) node.body node (λ f body. no_more_at t n node _ is.at_inode)))
      (λ slot place parts asked.
      wants_inode g t full (descriptor slot.fd) (with_new_file t (user_of who) now flags.0 mode slot place) (file_there flags.0 mode slot place))
  call_wants (Mkdir path mode) _ =
      mkdir_up_to_inode g t (user_of who) now (WantsInode g t) (wants_closed g t) (volumes g) path mode (λ place parent asked.
      wants_inode g t full done (with_new_directory t (user_of who) now mode place) (directory_there mode place))
  call_wants (Symlink target path) _ =
      symlink_up_to_inode g t (user_of who) now (WantsInode g t) (wants_closed g t) (volumes g) target.now path (λ place asked.
      wants_inode g t full done (with_new_link t (user_of who) now target.now place) (link_there target.now place))
  call_wants (Readlink path) never = absurd (false_not_true never)
  call_wants (Lstat path) never = absurd (false_not_true never)
  call_wants (Close fd) never = absurd (false_not_true never)
  call_wants (Dup fd) never = absurd (false_not_true never)
  call_wants (Read fd count) never = absurd (false_not_true never)
  call_wants (Write fd bytes) never = absurd (false_not_true never)
  call_wants (Seek fd whence offset) never = absurd (false_not_true never)
  call_wants (Stat path) never = absurd (false_not_true never)
  call_wants (Fstat fd) never = absurd (false_not_true never)
  call_wants (Link old new) never = absurd (false_not_true never)
  call_wants (Unlink path) never = absurd (false_not_true never)
  call_wants (Rmdir path) never = absurd (false_not_true never)
  call_wants (Rename old new) never = absurd (false_not_true never)
  call_wants (Chmod path mode) never = absurd (false_not_true never)
  call_wants (Chown path uid gid) never = absurd (false_not_true never)
  call_wants (Utime path atime mtime) never = absurd (false_not_true never)
  call_wants (Truncate path size) never = absurd (false_not_true never)
  call_wants (Readdir fd) never = absurd (false_not_true never)
  call_wants Sync never = absurd (false_not_true never)
  call_wants Statfs never = absurd (false_not_true never)

  effect_wants : (call : Call) → may_make call ≡ true → WantsInode g t (λ z. effect_of (volumes g z) t who now call)
  effect_wants call kind =
      wants_closed g t _ (refuse_if (nat_le most_sessions who.session) EINVAL) (λ _ z. effect_in_session (volumes g z) t who now call) (plain_refuse _ _ refl) (λ _ _.
      call_wants call kind)

-- a call that would make a node is refused
pub full_is_refused : FullIsRefused
full_is_refused g t who now call geometry full more = elim (cases_Bool (may_make call)) [
  | inl kind ↦ (effect_wants g t full who now call kind).refused (record {
    zones = more.zones;
    made = more.made;
    is_made = more.is_made;
    node = more.node;
    is_there = more.is_there;
    is_new = more.is_new;
  })
  | inr other ↦
      let spaced = effect_spaced (with_one_inode_more more.zones g) geometry.sized t who now call in
      let fewer : IsNoMore more.made.1 t = spaced.none_made (λ kind. absurd (false_not_true (sym other ∙ kind))) more.zones more.made more.is_made in
      absurd (false_not_true (sym (ap is_some more.is_new) ∙ fewer more.node more.is_there))
]

-- what ENOSPC means
pub enospc_means : EnospcMeans
enospc_means g t who now call geometry is = elim ((effect_spaced g geometry.sized t who now call).why is).1 [
  | inl big ↦ inl (record { zones = big.zones; made = big.made; is_made = big.is_made; too_big = big.too_big })
  | inr full ↦ inr (record {
    kind = full.0;
    full = full.1;
    makes = λ none.
        let made = (effect_wants g t full.1 who now call full.0).makes none is in
        record { zones = made.zones; made = made.made; is_made = made.is_made; node = made.node; is_there = made.is_there; is_new = made.is_new };
  })
]
