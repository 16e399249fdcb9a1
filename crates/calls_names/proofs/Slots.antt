-- What open asks before it looks at the path, and the slot of a new open file.
use Rattle.std.proofs.Common.{◌≡◌, ◌≤◌, ℕ, Bool, true, false, refl, ap, ◌∙◌, Ok, Err}
use Rattle.std.specs.Prelude.{Result, ◌||◌, nat_lt}
use Rattle.std.proofs.lemmas.Bool.{ltb-false, or_parts}
use Rattle.errno.specs.declared.Errno.{Errno}
use Rattle.errno.specs.declared.Errno.TheVariants.{EINVAL, EMFILE, ENFILE}
use Rattle.layout.specs.declared.Geometry.{Geometry}
use Rattle.tree.specs.declared.PathFrom.{PathFrom}
use Rattle.tree.specs.declared.User.{User}
use Rattle.tree.specs.Flags.{bad_flags}
use Rattle.tree.specs.Tree.{Tree, most_descriptors, most_open_files, most_permissions}
use Rattle.tree.specs.Refusals.{◌>>=◌, free_place, refuse_if}
use Rattle.tree.specs.Answers.{Effect}
use Rattle.tree.specs.FileCalls.{Slot, open_path, with_open}
use Rattle.descriptors.specs.Files.{Files, HasFiles, files_in, put_file, room_for_file, tree_with}
use Rattle.calls_attributes.proofs.OpenFiles.{files_are}
use Rattle.calls_names.specs.Asking.{may_begin}
use Rattle.calls_names.specs.Opening.{open_named}

-- The lowest free descriptor of a session, and the lowest free number.
pub record HasSlot (f : Files) (session : ℕ) : Type 0 where
  pub fd : ℕ
  pub number : ℕ
  pub free_fd : free_place (f.descriptors session) most_descriptors EMFILE ≡ Ok fd
  pub free_number : free_place f.opened most_open_files ENFILE ≡ Ok number

-- the slot that they are
abbrev pub slot_of : (f : Files) (session : ℕ) → HasSlot f session → Slot
slot_of f session x = record { session = session; fd = x.fd; number = x.number }

-- whether there is room, by what the two searches gave
abbrev room_by : Result ℕ Errno → Result ℕ Errno → Result (Unit {0}) Errno
room_by r s = r >>= λ fd. s >>= λ k. Ok tt

slot_by : (r s : Result ℕ Errno) → room_by r s ≡ Ok tt → (fd : ℕ) × (k : ℕ) × (r ≡ Ok fd) × (s ≡ Ok k)
slot_by (Err e) s h = cc
slot_by (Ok fd) (Err e) h = cc
slot_by (Ok fd) (Ok k) h = (fd, k, refl, refl)

pub has_slot : (f : Files) (session : ℕ) → room_for_file f session ≡ Ok tt → HasSlot f session
has_slot f session h =
    let x = slot_by (free_place (f.descriptors session) most_descriptors EMFILE) (free_place f.opened most_open_files ENFILE) h in
    record { fd = x.0; number = x.1; free_fd = x.2; free_number = x.3 }

-- what put does is to open the node there
pub put_there : (f : Files) (session n flags : ℕ) (x : HasSlot f session)
    → put_file f session n flags ≡ Ok (x.fd, files_in (with_open (tree_with f) (slot_of f session x) n flags))
put_there f session n flags x =
    ap (λ r. r >>= λ fd. free_place f.opened most_open_files ENFILE >>= λ k. Ok (fd, files_in (with_open (tree_with f) (record { session = session; fd = fd; number = k }) n flags))) x.free_fd
    ∙ ap (λ r. r >>= λ k. Ok (x.fd, files_in (with_open (tree_with f) (record { session = session; fd = x.fd; number = k }) n flags))) x.free_number

-- whether open begins, by the flags and the two searches
abbrev begin_by : Bool → Result ℕ Errno → Result ℕ Errno → Result (Unit {0}) Errno
begin_by bad r s = refuse_if bad EINVAL >>= λ _. room_by r s

begun_by : (bad : Bool) (r s : Result ℕ Errno) → begin_by bad r s ≡ Ok tt → (bad ≡ false) × (room_by r s ≡ Ok tt)
begun_by true r s h = cc
begun_by false r s h = (refl, h)

-- The flags and the mode are good, and there is room.
pub record IsBegun (f : Files) (session flags mode : ℕ) : Type 0 where
  pub good : (bad_flags flags || nat_lt most_permissions mode) ≡ false
  pub few : mode ≤ 511
  pub room : room_for_file f session ≡ Ok tt

pub is_begun : (f : Files) (session flags mode : ℕ) → may_begin f session flags mode ≡ Ok tt → IsBegun f session flags mode
is_begun f session flags mode h =
    let x = begun_by (bad_flags flags || nat_lt most_permissions mode) (free_place (f.descriptors session) most_descriptors EMFILE) (free_place f.opened most_open_files ENFILE) h in
    record { good = x.0; few = ltb-false most_permissions mode (or_parts (bad_flags flags) (nat_lt most_permissions mode) x.0).1; room = x.1 }

module _ (g : Geometry) (t : Tree) (user : User) (now session : ℕ) (path : PathFrom) (flags mode : ℕ) where
  abbrev named : ℕ → ℕ → Effect
  named fd k = open_named g t user now path flags mode (record { session = session; fd = fd; number = k })

  -- open, by the flags and the two searches
  abbrev call_by : Bool → Result ℕ Errno → Result ℕ Errno → Effect
  call_by bad r s = refuse_if bad EINVAL >>= λ _. r >>= λ fd. s >>= λ k. named fd k

  refused_by : (bad : Bool) (r s : Result ℕ Errno) (e : Errno) → begin_by bad r s ≡ Err e → call_by bad r s ≡ Err e
  refused_by true r s e h = ap (λ (x : Result (Unit {0}) Errno). elim x [ Ok y ↦ Err EINVAL | Err z ↦ Err z ]) h
  refused_by false (Err x) s e h = ap (λ (y : Result (Unit {0}) Errno). elim y [ Ok z ↦ Err x | Err z ↦ Err z ]) h
  refused_by false (Ok fd) (Err x) e h = ap (λ (y : Result (Unit {0}) Errno). elim y [ Ok z ↦ Err x | Err z ↦ Err z ]) h
  refused_by false (Ok fd) (Ok k) e h = cc

  module _ (f : Files) (files : HasFiles f t) where
    abbrev its_call : Effect
    its_call = call_by (bad_flags flags || nat_lt most_permissions mode) (free_place (f.descriptors session) most_descriptors EMFILE) (free_place f.opened most_open_files ENFILE)

    by_files : open_path g t user now session path flags mode ≡ its_call
    by_files = ap (λ (x : Files). call_by (bad_flags flags || nat_lt most_permissions mode) (free_place (x.descriptors session) most_descriptors EMFILE) (free_place x.opened most_open_files ENFILE))
        (files_are f t files)

    -- open doesn't begin
    pub not_begun : (e : Errno) → may_begin f session flags mode ≡ Err e → open_path g t user now session path flags mode ≡ Err e
    not_begun e h = by_files ∙ refused_by (bad_flags flags || nat_lt most_permissions mode) (free_place (f.descriptors session) most_descriptors EMFILE) (free_place f.opened most_open_files ENFILE) e h

    -- or it goes on to the path
    pub goes_on : IsBegun f session flags mode → (x : HasSlot f session) → open_path g t user now session path flags mode ≡ open_named g t user now path flags mode (slot_of f session x)
    goes_on begun x =
        by_files
        ∙ ap (λ b. call_by b (free_place (f.descriptors session) most_descriptors EMFILE) (free_place f.opened most_open_files ENFILE)) begun.good
        ∙ ap (λ r. call_by false r (free_place f.opened most_open_files ENFILE)) x.free_fd
        ∙ ap (λ s. call_by false (Ok x.fd) s) x.free_number
