-- A read gives the bytes that a write put there.
use Rattle.std.proofs.Common.{◌≡◌, ◌≤◌, ◌<◌, ◌+◌, ◌-◌, ℕ, suc, List, [], ◌∷◌, true, false, refl, sym, ap, subst, ◌∙◌, arith, length, pos}
use Rattle.std.specs.Prelude.{Some, Result, Ok, Err, nat_le, nat_lt, not, ◌&&◌, slice_index}
use mathlib.Core.Logic.{inl, inr}
use Rattle.std.proofs.lemmas.Bool.{cases_Bool, cond-true, cond-false, and_from, le-leb, lt-ltb, ltb-false, not_from_true}
use Rattle.lemmas.proofs.Numbers.{less_fails}
use Rattle.layout.specs.declared.Geometry.{Geometry}
use Rattle.errno.specs.declared.Errno.{Errno}
use Rattle.errno.specs.declared.Errno.TheVariants.{ENOENT, EISDIR, EBADF, EINVAL, ENOSPC}
use Rattle.tree.specs.declared.Who.{Who}
use Rattle.tree.specs.declared.Whence.TheVariants.{Set}
use Rattle.tree.specs.declared.Call.TheVariants.{Read, Seek}
use Rattle.tree.specs.Flags.{reads}
use Rattle.tree.specs.Tree.{File, is_file, Node, OpenFile, Tree, most_sessions, most_bytes, most_size}
use Rattle.tree.specs.IsTree.{IsTree}
use Rattle.tree.specs.Space.{zones_used, data_zones}
use Rattle.tree.specs.Refusals.{◌>>=◌, or_refuse, refuse_if}
use Rattle.tree.specs.Walk.{node_at}
use Rattle.tree.specs.Changes.{open_file_of, at_position, with_body, file_after_write}
use Rattle.tree.specs.Answers.{Answer, refused, some_bytes, wrote, position, Effect, if_it_fits}
use Rattle.tree.specs.NodeCalls.{file_or}
use Rattle.tree.specs.FileCalls.{write, seek, read, bytes_from, bytes_read, seek_base, seek_place}
use Rattle.tree.specs.Effects.{effect_of, reply_to, tree_after_call}
use Rattle.lemmas.proofs.Maps.{put-same}
use Rattle.tree.specs.Room.{with_zones}
use Rattle.tree.specs.Sessions.{ReadGivesWritten}
use Rattle.tree.proofs.Steps.{not_refused, ok_is, passed, both_steps, IsOpened}
use Rattle.tree.proofs.Outcomes.{Effects, IsClosed}
use Rattle.tree.proofs.FileOutcomes.{write_each, start, after_write}
use Rattle.tree.proofs.Listing.{opens_to}

-- The open file after a write, its node and its bytes.
record IsWritten (u : Tree) (session fd : ℕ) (bytes : List ℕ) : Type 0 where
  number : ℕ
  file : OpenFile
  node : Node
  f : File
  first : ℕ
  opened : IsOpened u session fd (number, file)
  there : u.nodes file.inode ≡ Some node
  body : node.body ≡ is_file f
  place : file.position ≡ first + length bytes
  fits : first + length bytes ≤ most_size
  few : length bytes ≤ most_bytes
  whole : nat_lt (f.size - first) (length bytes) ≡ false
  each : (j : ℕ) → j < length bytes → f.byte (first + j) ≡ slice_index bytes j

-- what is written is there
module _ (g : Geometry) (f : File) (at : ℕ) (bytes : List ℕ) where
  abbrev new : File
  new = file_after_write g f at bytes

  byte_is : (j : ℕ) → j < length bytes → new.byte (at + j) ≡ slice_index bytes j
  byte_is j l =
      let inside = and_from (nat_le at (at + j)) (nat_lt (at + j) (at + length bytes)) (le-leb at (at + j) (omega arith)) (lt-ltb (at + j) (at + length bytes) (omega (arith, l))) in
      let same : at + j - at ≡ j = omega arith in
      cond-true (nat_le at (at + j) && nat_lt (at + j) (at + length bytes)) (slice_index bytes (at + j - at)) (f.byte (at + j)) inside ∙ ap (slice_index bytes) same

  whole_is : nat_lt (new.size - at) (length bytes) ≡ false
  whole_is = less_fails (new.size - at) (length bytes) (let l = end_in in omega (arith, l))
    where
      end_in : at + length bytes ≤ new.size
      end_in = elim (cases_Bool (nat_lt f.size (at + length bytes))) [
        | inl t ↦ let is : new.size ≡ at + length bytes = cond-true (nat_lt f.size (at + length bytes)) (at + length bytes) f.size t in omega (arith, is)
        | inr n ↦ let is : new.size ≡ f.size = cond-false (nat_lt f.size (at + length bytes)) (at + length bytes) f.size n in let l = ltb-false f.size (at + length bytes) n in omega (arith, is, l)
      ]

module _ (g : Geometry) (t : Tree) (tree : IsTree g t) (who : Who) (now fd : ℕ) (bytes : List ℕ) where
  abbrev Puts : Effects → Type 0
  Puts F = (made : Answer × Tree) → F g.zones ≡ Ok made → IsWritten made.1 who.session fd bytes

  closed : IsClosed Puts
  closed A (Ok x) f plain h = h x refl
  closed A (Err e) f plain h = λ made is. absurd (not_refused e made is)

  puts : Puts (λ z. write (with_zones z g) t now who.session fd bytes)
  puts = write_each t who.session Puts closed g now fd bytes
      (λ found node f is none made made_is.
      let at_most = (tree.open_files.each found.0 found.1 is.opened.file).position in
      subst (λ u. IsWritten u who.session fd bytes) (ap (λ x. x.1) (ok_is (wrote 0, t) made (Ok (wrote 0, t)) refl made_is)) (record {
        number = found.0;
        file = found.1;
        node = node;
        f = f;
        first = found.1.position;
        opened = is.opened;
        there = is.there;
        body = is.file;
        place = omega (arith, none);
        fits = omega (arith, none, at_most);
        few = omega (arith, none);
        whole = less_fails (f.size - found.1.position) (length bytes) (omega (arith, none));
        each = λ j l. absurd (omega (arith, none, l));
      }))
      (λ found node f is _ few fits made made_is.
      let after = after_write t who.session Puts closed g now found node f bytes in
      let new = with_body now (is_file (file_after_write g f (start t who.session Puts closed found.1 f) bytes)) node in
      subst (λ u. IsWritten u who.session fd bytes) (ap (λ x. x.1) (fitted (wrote (length bytes)) after made made_is)) (record {
        number = found.0;
        file = record found.1 { position = start t who.session Puts closed found.1 f + length bytes };
        node = new;
        f = file_after_write g f (start t who.session Puts closed found.1 f) bytes;
        first = start t who.session Puts closed found.1 f;
        opened = record { descriptor = is.opened.descriptor; file = put-same t.open_files found.0 _ };
        there = put-same t.nodes found.1.inode (Some new);
        body = refl;
        place = refl;
        fits = fits;
        few = few;
        whole = whole_is g f (start t who.session Puts closed found.1 f) bytes;
        each = byte_is g f (start t who.session Puts closed found.1 f) bytes;
      }))
    where
      fitted : (answer : Answer) (after : Tree) (made : Answer × Tree) → if_it_fits g answer after ≡ Ok made → (answer, after) ≡ made
      fitted answer after made is = elim (cases_Bool (nat_lt (data_zones g) (zones_used g after))) [
        | inl over ↦ absurd (not_refused ENOSPC made (sym (cond-true _ (Err ENOSPC) (Ok (answer, after)) over) ∙ is))
        | inr under ↦ ok_is (answer, after) made (Ok (answer, after)) refl (sym (cond-false _ (Err ENOSPC) (Ok (answer, after)) under) ∙ is)
      ]

-- bytes that are the list's, one by one, are the list
pub bytes_are : (bytes : List ℕ) (byte : ℕ → ℕ) (at : ℕ) → ((j : ℕ) → j < length bytes → byte (at + j) ≡ slice_index bytes j)
    → bytes_from byte at (length bytes) ≡ bytes
bytes_are [] byte at each = refl
bytes_are (x ∷ xs) byte at each =
    let first : byte at ≡ x = (let e : at ≡ at + 0 = omega arith in ap byte e) ∙ each 0 (omega arith) in
    let rest = bytes_are xs byte (suc at) (λ j l. (let e : suc at + j ≡ at + suc j = omega arith in ap byte e) ∙ each (suc j) (omega (arith, l))) in
    λ i. first i ∷ rest i

-- a step that succeeds goes on
onward : {A : Type 0} (r : Result A Errno) (f : A → Effect) (x : A) → r ≡ Ok x → (r >>= f) ≡ f x
onward r f x e = ap (λ y. y >>= f) e

-- a node that is a file is taken for it
file_is_it : (node : Node) (e : Errno) (f : File) → node.body ≡ is_file f → file_or node e ≡ Ok f
file_is_it node e f h = ap (λ b. file_or (record node { body = b }) e) h

module _ (g : Geometry) (u : Tree) (who : Who) (allowed : nat_le most_sessions who.session ≡ false) (fd at : ℕ) (bytes : List ℕ)
    (w : IsWritten u who.session fd bytes) (here : at ≡ w.first) (readable : reads w.file.flags ≡ true) where
  abbrev o : OpenFile
  o = w.file

  abbrev back : Tree
  back = at_position u w.number o (0 + at)

  -- the seek
  abbrev seek_to : ℕ → Effect
  seek_to x = refuse_if (nat_lt most_size x) EINVAL >>= λ _. Ok (position x, at_position u w.number o x)

  abbrev seek_in : File → Effect
  seek_in f = or_refuse (seek_place (seek_base f o.position Set) (pos at)) EINVAL >>= seek_to

  abbrev seek_node : Node → Effect
  seek_node node = file_or node EISDIR >>= seek_in

  sought : seek u who.session fd Set (pos at) ≡ Ok (position (0 + at), back)
  sought =
      onward (open_file_of u who.session fd) (λ found. node_at u found.1.inode >>= λ node. file_or node EISDIR >>= λ f.
      or_refuse (seek_place (seek_base f found.1.position Set) (pos at)) EINVAL >>= λ x. refuse_if (nat_lt most_size x) EINVAL >>= λ _. Ok (position x, at_position u found.0 found.1 x))
      (w.number, o) (opens_to u who.session fd (w.number, o) w.opened)
      ∙ onward (node_at u o.inode) seek_node w.node (ap (λ x. or_refuse x ENOENT) w.there)
      ∙ onward (file_or w.node EISDIR) seek_in w.f (file_is_it w.node EISDIR w.f w.body)
      ∙ ap (λ b. refuse_if b EINVAL >>= λ _. Ok (position (0 + at), back)) (less_fails most_size (0 + at) (let fits = w.fits in omega (arith, fits, here)))

  -- the read
  abbrev o2 : OpenFile
  o2 = record o { position = 0 + at }

  abbrev n : ℕ
  n = length bytes

  abbrev take : File → Effect
  take f = Ok (some_bytes (bytes_read f (0 + at) n), at_position back w.number o2 (0 + at + length (bytes_read f (0 + at) n)))

  abbrev read_in : File → Effect
  read_in f = refuse_if (nat_lt most_bytes n) EINVAL >>= λ _. take f

  abbrev read_node : Node → Effect
  read_node node = file_or node EISDIR >>= read_in

  read_is : read back who.session fd n ≡ take w.f
  read_is =
      onward (open_file_of back who.session fd) (λ found. refuse_if (not (reads found.1.flags)) EBADF >>= λ _. node_at back found.1.inode >>= λ node. file_or node EISDIR >>= λ f.
      refuse_if (nat_lt most_bytes n) EINVAL >>= λ _. Ok (some_bytes (bytes_read f found.1.position n), at_position back found.0 found.1 (found.1.position + length (bytes_read f found.1.position n))))
      (w.number, o2) (opens_to back who.session fd (w.number, o2) (record { descriptor = w.opened.descriptor; file = put-same u.open_files w.number (Some o2) }))
      ∙ ap (λ b. refuse_if b EBADF >>= λ _. node_at back o.inode >>= read_node) (not_from_true _ readable)
      ∙ onward (node_at back o.inode) read_node w.node (ap (λ x. or_refuse x ENOENT) w.there)
      ∙ onward (file_or w.node EISDIR) read_in w.f (file_is_it w.node EISDIR w.f w.body)
      ∙ ap (λ b. refuse_if b EINVAL >>= λ _. take w.f) (less_fails most_bytes n w.few)

  bytes_same : bytes_read w.f (0 + at) n ≡ bytes
  bytes_same =
      let is : 0 + at ≡ w.first = omega (arith, here) in
      ap (λ x. bytes_read w.f x n) is
      ∙ ap (bytes_from w.f.byte w.first) (cond-false (nat_lt (w.f.size - w.first) n) (w.f.size - w.first) n w.whole)
      ∙ bytes_are bytes w.f.byte w.first w.each

  read_back : (later last : ℕ) → reply_to g (tree_after_call g u who later (Seek fd Set (pos at))) who last (Read fd n) ≡ some_bytes bytes
  read_back later last =
      let seeks : effect_of g u who later (Seek fd Set (pos at)) ≡ Ok (position (0 + at), back) =
      ap (λ b. refuse_if b EINVAL >>= λ _. seek u who.session fd Set (pos at)) allowed ∙ sought in
      let reads_it : effect_of g back who last (Read fd n) ≡ take w.f = ap (λ b. refuse_if b EINVAL >>= λ _. read back who.session fd n) allowed ∙ read_is in
      ap (λ e. reply_to g (elim e [ Ok made ↦ made.1 | Err _ ↦ u ]) who last (Read fd n)) seeks
      ∙ ap (λ e. elim e [ Ok made ↦ made.0 | Err x ↦ refused x ]) reads_it
      ∙ ap some_bytes bytes_same

-- write, seek, read
pub read_gives_written : ReadGivesWritten
read_gives_written g t after who now later last fd at number file bytes tree wrote_it opened readable place =
    let steps = both_steps (refuse_if (nat_le most_sessions who.session) EINVAL) (λ _. write g t now who.session fd bytes.now) (wrote (length bytes.now), after) wrote_it in
    let w = puts g t tree who now fd bytes.now (wrote (length bytes.now), after) steps.2 in
    let same : ◌≡◌ {A = ℕ × OpenFile} (w.number, w.file) (number, file) = ok_is (w.number, w.file) (number, file) (open_file_of after who.session fd) (opens_to after who.session fd (w.number, w.file) w.opened) opened in
    let position_is : w.file.position ≡ file.position = ap (λ x. x.1.position) same in
    let was = w.place in
    let here : at ≡ w.first = omega (arith, position_is, was, place) in
    read_back g after who (passed _ _ steps.0 steps.1) fd at bytes.now w here (ap (λ x. reads x.1.flags) same ∙ readable) later last
