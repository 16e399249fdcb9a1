-- open, made on a volume.
use Rattle.std.proofs.Common.{◌≡◌, ◌<◌, ◌^◌, ℕ, refl, sym, ap, subst, ◌∙◌, arith, Some, Ok, Err}
use Rattle.std.specs.Prelude.{Option, Result}
use Rattle.errno.specs.declared.Errno.{Errno}
use Rattle.layout.specs.declared.Geometry.{Geometry}
use Rattle.layout.specs.Places.{IsGeometry}
use Rattle.tree.specs.declared.OpenFlags.{OpenFlags}
use Rattle.tree.specs.declared.PathFrom.{PathFrom}
use Rattle.tree.specs.declared.User.{User}
use Rattle.tree.specs.declared.Who.{Who}
use Rattle.tree.specs.declared.Call.TheVariants.{Open}
use Rattle.tree.specs.IsCall.{IsBytes}
use Rattle.tree.specs.IsTree.{IsTree}
use Rattle.lemmas.specs.Sums.{put}
use Rattle.tree.specs.Tree.{OpenFile, Tree}
use Rattle.tree.specs.Answers.{Answer, Effect, descriptor, refused}
use Rattle.tree.specs.FileCalls.{Slot, open_path, with_open}
use Rattle.tree.proofs.OpenCall.{open_keeps}
use Rattle.volume.specs.Reading.{Disk}
use Rattle.volume.specs.Holds.{HoldsVolume}
use Rattle.descriptors.specs.Files.{Files, HasFiles, files_in, tree_with}
use Rattle.block_store.specs.declared.Halt.{Halt}
use Rattle.block_store.specs.declared.Halt.TheVariants as halt
use Rattle.block_store.specs.Halts.{Ends}
use Rattle.path.specs.Stops.{Answers, halted}
use Rattle.calls_attributes.specs.Does.{Does, IsHeld}
use Rattle.calls_attributes.proofs.Made.{granted_made, refused_made}
use Rattle.calls_attributes.proofs.OpenFiles.{tree_kept}
use Rattle.inode_operations.proofs.Between.{holds_at_end}
use Rattle.calls_names.specs.Asking.{may_begin}
use Rattle.calls_names.specs.Opening.{IsPut, IsReady, Readies, open_named}
use Rattle.calls_names.proofs.Slots.{HasSlot, IsBegun, goes_on, has_slot, not_begun, put_there, slot_of}

-- a call that was halted ends so
pub open_halted : {X Y : Type 0} (g : Geometry) (Before : Tree → Type 0) (d : Disk) (h : Halt) (P : X → Type 0) (Q : Tree → Result Y Errno → Type 0)
    → ((t : Tree) → HoldsVolume g d t → Answers (Err (halted h)) (Q t)) → Ends (Err h) P (IsHeld g Before d)
open_halted g Before d (halt.Cut c) P Q p = tt
open_halted g Before d halt.Unsound P Q p = λ held. p held.tree held.holds

module _ (g : Geometry) (ok : IsGeometry g) (user : User) (now session : ℕ) (path : PathFrom) (flags : OpenFlags) (mode : ℕ) (f : Files) where
  abbrev effect : Tree → Effect
  effect t = open_path g t user now session path flags.0 mode

  -- it doesn't begin
  pub begin_refused : (d e : Disk) (h : Files) (errno : Errno) → e ≡ d → h ≡ f → may_begin f session flags.0 mode ≡ Err errno
      → Does g effect (refused errno) (HasFiles f) (HasFiles h) d e
  begin_refused d e h errno same stays is = record {
    each = λ t holds files.
        refused_made g t (effect t) errno (HasFiles h) d e (not_begun g t user now session path flags.0 mode f files errno is) same holds
        (subst (λ (x : Files). HasFiles x t) (sym stays) files);
  }

  module _ (begun : IsBegun f session flags.0 mode) where
    its_slot : HasSlot f session
    its_slot = has_slot f session begun.room

    abbrev slot : Slot
    slot = slot_of f session its_slot

    abbrev call : Tree → Slot → Effect
    call t = open_named g t user now path flags.0 mode

    to_call : (t : Tree) → HasFiles f t → effect t ≡ call t slot
    to_call t files = goes_on g t user now session path flags.0 mode f files begun its_slot

    -- it is refused
    pub ready_refused : (d e : Disk) (h : Files) (errno : Errno) → h ≡ f → ((t : Tree) → HoldsVolume g d t → Readies g t (call t) flags.0 d e (Err errno))
        → Does g effect (refused errno) (HasFiles f) (HasFiles h) d e
    ready_refused d e h errno stays p = record {
      each = λ t holds files.
          let x = p t holds in
          refused_made g t (effect t) errno (HasFiles h) d e (to_call t files ∙ x.refused slot) x.same holds (subst (λ (y : Files). HasFiles y t) (sym stays) files);
    }

    module _ (d e : Disk) (n : ℕ) (p : (t : Tree) → HoldsVolume g d t → Readies g t (call t) flags.0 d e (Ok n)) where
      -- no inode's number is that large
      pub not_large : 65535 < n → IsHeld g (HasFiles f) d → ⊥
      not_large big held =
          let low = (p held.tree held.holds).within in
          let most = ok.inodes in
          absurd (omega (arith, low, most, big))

      module _ (h : Files) (answer : Answer) (is_put : IsPut f session n flags.0 answer h) where
        same_put : ◌≡◌ {A = Result (ℕ × Files) Errno} (Ok (is_put.fd, h)) (Ok (its_slot.fd, files_in (with_open (tree_with f) slot n flags.0)))
        same_put = sym is_put.put ∙ put_there f session n flags.0 its_slot

        its_fd : is_put.fd ≡ its_slot.fd
        its_fd = ap (λ (r : Result (ℕ × Files) Errno). elim r [ Ok x ↦ x.0 | Err z ↦ is_put.fd ]) same_put

        its_files : h ≡ files_in (with_open (tree_with f) slot n flags.0)
        its_files = ap (λ (r : Result (ℕ × Files) Errno). elim r [ Ok x ↦ x.1 | Err z ↦ h ]) same_put

        module _ (t : Tree) (holds : HoldsVolume g d t) (files : HasFiles f t) where
          x : IsReady g t (call t) flags.0 d e n
          x = p t holds

          abbrev after : Tree
          after = with_open x.tree slot n flags.0

          opened : effect t ≡ Ok (descriptor its_slot.fd, after)
          opened = to_call t files ∙ x.opens slot

          answers : effect t ≡ Ok (answer, after)
          answers = opened ∙ ap (λ (a : Answer). Ok (a, after)) (ap descriptor (sym its_fd) ∙ sym is_put.answers)

          abbrev who : Who
          who = record { session = session; uid = user.uid; gid = user.gid }

          still_tree : session < 64 → now < 2 ^ 32 → user.uid < 2 ^ 16 → user.gid < 2 ^ 16 → IsBytes path.bytes.now → IsTree g after
          still_tree early small uid gid bytes =
              tree_kept g t who now (Open path flags mode) early after (descriptor its_slot.fd) opened
              (open_keeps g t who now path flags mode ok (record { session = omega (arith, early); uid = uid; gid = gid }) small bytes holds.nodes.tree)

          its_opened : x.tree.open_files ≡ f.opened
          its_opened = x.files.opened ∙ files.opened

          its_descriptors : x.tree.descriptors ≡ f.descriptors
          its_descriptors = x.files.descriptors ∙ files.descriptors

          has_files : HasFiles h after
          has_files = subst (λ (y : Files). HasFiles y after) (sym its_files) (record {
            opened = ap (λ (y : ℕ → Option OpenFile). put y its_slot.number (Some (record { inode = n; position = 0; flags = flags.0 }))) its_opened;
            descriptors = ap (λ (y : ℕ → ℕ → Option ℕ). put y session (put (y session) its_slot.fd (Some its_slot.number))) its_descriptors;
          })

        -- it is opened
        pub open_done : session < 64 → now < 2 ^ 32 → user.uid < 2 ^ 16 → user.gid < 2 ^ 16 → IsBytes path.bytes.now → Does g effect answer (HasFiles f) (HasFiles h) d e
        open_done early small uid gid bytes = record {
          each = λ t holds files.
              granted_made g t (after t holds files) (effect t) answer (HasFiles h) e (answers t holds files)
              (holds_at_end g d e (x t holds files).tree.nodes t (after t holds files) ok holds (x t holds files).stands refl (still_tree t holds files early small uid gid bytes))
              (has_files t holds files);
        }
