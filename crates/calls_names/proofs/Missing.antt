-- From a path to the node that is opened: one that is there, or a file that is made.
use Rattle.std.proofs.Common.{◌≡◌, ℕ, false, refl, ap, ◌∙◌, Ok, Err}
use Rattle.std.specs.Prelude.{Result, is_some, not, ◌||◌, nat_lt}
use Rattle.std.proofs.lemmas.Bool.{cond-false, cond-true, le-ltb, lt-ltb}
use Rattle.errno.specs.declared.Errno.{Errno}
use Rattle.errno.specs.declared.Errno.TheVariants.{ENOSPC}
use Rattle.layout.specs.declared.Geometry.{Geometry}
use Rattle.layout.specs.Places.{IsGeometry}
use Rattle.tree.specs.declared.PathFrom.{PathFrom}
use Rattle.tree.specs.declared.User.{User}
use Rattle.tree.specs.IsCall.{IsBytes}
use Rattle.tree.specs.Flags.{creates}
use Rattle.tree.specs.Names.{has_name}
use Rattle.tree.specs.Tree.{Node, Tree}
use Rattle.tree.specs.Refusals.{◌>>=◌}
use Rattle.tree.specs.Walk.{Found, is_missing, is_taken, is_there, look_up, open_look_up, read_path, Way}
use Rattle.tree.specs.Walk as tree
use Rattle.tree.specs.Answers.{Effect, descriptor, if_it_fits}
use Rattle.tree.specs.FileCalls.{Slot, open_found, with_open}
use Rattle.tree.specs.Space.{data_zones, zones_used}
use Rattle.tree.proofs.OpenCall.{missing_at}
use Rattle.volume.specs.Reading.{Disk}
use Rattle.volume.specs.Holds.{HoldsVolume}
use Rattle.descriptors.specs.Files.{files_in}
use Rattle.path.specs.declared.place.NamePlace.{NamePlace}
use Rattle.path.specs.Places.{IsPlace, place_of}
use Rattle.calls_names.specs.Asking.{only_makes}
use Rattle.calls_names.specs.Making.{IsFileMade, IsFileRefused, MakesFileOr, with_new_file}
use Rattle.calls_names.specs.Vacant.{IsVacant}
use Rattle.calls_names.proofs.Putting.{is_free}
use Rattle.calls_names.proofs.Trees.{file_files}
use Rattle.calls_names.proofs.Vacancies.{is_vacant, parent_node}
use Rattle.calls_names.specs.Opening.{IsReady, IsRefused, Readies, open_named}

module _ (g : Geometry) (t : Tree) (user : User) (now : ℕ) (path : PathFrom) (flags mode : ℕ) (d e : Disk) where
  abbrev call : Slot → Effect
  call slot = open_named g t user now path flags mode slot

  abbrev looked_up : Way → Result Found Errno
  looked_up way = open_look_up t user (only_makes flags) way

  -- the path can't be read
  pub not_read : (errno : Errno) → e ≡ d → read_path path ≡ Err errno → Readies g t call flags d e (Err errno)
  not_read errno same is = record {
    same = same;
    refused = λ slot. ap (λ r. r >>= λ way. looked_up way >>= λ found. open_found g t user now slot flags mode found) is;
  }

  module _ (way : Way) (read : read_path path ≡ Ok way) where
    to_parts : (slot : Slot) → call slot ≡ (looked_up way >>= λ found. open_found g t user now slot flags mode found)
    to_parts slot = ap (λ r. r >>= λ way. looked_up way >>= λ found. open_found g t user now slot flags mode found) read

    -- the look-up is refused
    pub not_looked_up : (errno : Errno) → e ≡ d → looked_up way ≡ Err errno → Readies g t call flags d e (Err errno)
    not_looked_up errno same is = record {
      same = same;
      refused = λ slot. to_parts slot ∙ ap (λ r. r >>= λ found. open_found g t user now slot flags mode found) is;
    }

    module _ (found : Found) (looked : looked_up way ≡ Ok found) where
      pub to_found : (slot : Slot) → call slot ≡ open_found g t user now slot flags mode found
      to_found slot = to_parts slot ∙ ap (λ r. r >>= λ found. open_found g t user now slot flags mode found) looked

      pub ready_as : (n : ℕ) → IsReady g t (λ slot. open_found g t user now slot flags mode found) flags d e n → Readies g t call flags d e (Ok n)
      ready_as n x = record { tree = x.tree; opens = λ slot. to_found slot ∙ x.opens slot; files = x.files; within = x.within; stands = x.stands }

      pub refused_as : (errno : Errno) → IsRefused (λ slot. open_found g t user now slot flags mode found) d e errno → Readies g t call flags d e (Err errno)
      refused_as errno x = record { same = x.same; refused = λ slot. to_found slot ∙ x.refused slot }

-- a missing name is of a vacant place
pub missing_vacant : (g : Geometry) (d : Disk) (t : Tree) (user : User) (path : PathFrom) (way : Way) (p : NamePlace) (holds : HoldsVolume g d t) (at : IsPlace g d t user way p)
    → IsBytes path.bytes.now → read_path path ≡ Ok way → look_up t user way ≡ Ok (is_missing (place_of g d p)) → IsVacant g d t p (parent_node g d t user way p holds at)
missing_vacant g d t user path way p holds at bytes read looked =
    let m = missing_at t user way (place_of g d p) looked in
    let free : is_taken (place_of g d p) way ≡ false =
    ap (λ b. not b || has_name (place_of g d p).names p.name.now) m.last ∙ ap is_some m.free in
    is_vacant g d t user way p holds at path bytes read free

module _ (g : Geometry) (ok : IsGeometry g) (t : Tree) (user : User) (now flags mode : ℕ) (d e : Disk) (p : NamePlace) (parent : Node) (vacant : IsVacant g d t p parent) where
  abbrev place : tree.Place
  place = place_of g d p

  abbrev made : ℕ → Tree
  made n = with_new_file t user now mode place n

  abbrev at_place : Slot → Effect
  at_place slot = open_found g t user now slot flags mode (is_missing place)

  -- what open does with the number of the new file
  abbrev rest : Slot → ℕ → Effect
  rest slot n = if_it_fits g (descriptor slot.fd) (with_open (made n) slot n flags)

  file_ready : (n : ℕ) → IsFileMade g t user (creates flags) now mode p d e n → IsReady g t at_place flags d e n
  file_ready n x =
      let it = is_free g t n x.least in
      record {
        tree = made n;
        opens = λ slot.
            x.goes_on (rest slot)
            ∙ cond-false (nat_lt (data_zones g) (zones_used g (made n))) (Err ENOSPC) (Ok (descriptor slot.fd, with_open (made n) slot n flags)) (le-ltb _ _ x.fits);
        files = file_files g ok t user now mode place n parent vacant.there vacant.directory it.nothing vacant.free (files_in t) (record { opened = refl; descriptors = refl });
        within = it.to;
        stands = x.stands;
      }

  file_refused : (errno : Errno) → IsFileRefused g t user (creates flags) now mode p d e errno → IsRefused at_place d e errno
  file_refused errno x = record {
    same = x.same;
    refused = λ slot.
        x.refused (rest slot)
        (λ n over. cond-true (nat_lt (data_zones g) (zones_used g (made n))) (Err ENOSPC) (Ok (descriptor slot.fd, with_open (made n) slot n flags)) (lt-ltb _ _ over));
  }

  -- what make_file answers is what open does up to the descriptor
  pub file_readies : (path : PathFrom) (way : Way) (r : Result ℕ Errno) → read_path path ≡ Ok way
      → open_look_up t user (only_makes flags) way ≡ Ok (is_missing place)
      → MakesFileOr g t user (creates flags) now mode p d e r → Readies g t (open_named g t user now path flags mode) flags d e r
  file_readies path way (Ok n) read looked x = ready_as g t user now path flags mode d e way read (is_missing place) looked n (file_ready n x)
  file_readies path way (Err errno) read looked x = refused_as g t user now path flags mode d e way read (is_missing place) looked errno (file_refused errno x)
