-- Tables of fids, as they are seen.
use Rattle.std.proofs.Common.{◌≡◌, ◌∙◌, ap, sym, refl, subst, ℕ, Bool, true, false, cond, List, [], ◌∷◌, map, length, Option, Some, None, Ok, Err}
use Rattle.std.proofs.Common.{◌≤◌, ◌<◌, ◌==◌, ◌||◌, nat_lt, arith}
use Rattle.std.proofs.lemmas.Bool.Decides.{nat_tests}
use Rattle.std.proofs.lemmas.List.{length-map}
use Rattle.std.specs.BTreeMap.{is_at, insert_entry}
use Rattle.std.specs.List.{list_any}
use Rattle.std.specs.Map.{lookup, remove_entry, set_value, values_of}
use Rattle.std.specs.Map.Calls.{RetainsPairs}
use Rattle.std.specs.Option.{option_map, ok_or, is_some}
use Rattle.std.specs.Ordering.{nat_cmp, match_ordering}
use Rattle.std.specs.declared.cmp.Ordering.{Ordering}
use Rattle.std.specs.declared.cmp.Ordering.TheVariants.{Less, Equal, Greater}
use Rattle.errno.specs.declared.Errno.TheVariants.{EBADF, EINVAL, ENFILE}
use Rattle.ninep_fids.specs.Fids.{EachBecomes}
use Rattle.ninep_fids.specs.Knowledge.{File, entry_of, file_of, found, has_fid, new_fid, table_of}
use Rattle.ninep_fids.specs.declared.fids.Fids.{Fids}
use Rattle.talks.specs.declared.refused.Refused.TheVariants.{By}
use Rattle.ninep_fids.specs.declared.fid.Fid.{Fid}

pub lookup_seen : (test : ℕ → Bool) (es : List (ℕ × Fid)) → lookup test (map entry_of es) ≡ option_map file_of (lookup test es)
lookup_seen test [] = refl
lookup_seen test (e ∷ es) = one_more (test e.0) (lookup_seen test es) where
  one_more : (b : Bool) → lookup test (map entry_of es) ≡ option_map file_of (lookup test es)
      → cond b (Some (file_of e.1)) (lookup test (map entry_of es)) ≡ option_map file_of (cond b (Some e.1) (lookup test es))
  one_more true same = refl
  one_more false same = same

pub remove_seen : (test : ℕ → Bool) (es : List (ℕ × Fid)) → map entry_of (remove_entry test es) ≡ remove_entry test (map entry_of es)
remove_seen test [] = refl
remove_seen test (e ∷ es) = one_more (test e.0) (remove_seen test es) where
  one_more : (b : Bool) → map entry_of (remove_entry test es) ≡ remove_entry test (map entry_of es)
      → map entry_of (cond b es (e ∷ remove_entry test es)) ≡ cond b (map entry_of es) (entry_of e ∷ remove_entry test (map entry_of es))
  one_more true same = refl
  one_more false same = ap (λ (r : List (ℕ × File)). entry_of e ∷ r) same

-- what a fid stands for, by what its table has
pub found_seen : (fids : Fids) (fid : ℕ) (o : Option Fid) → o ≡ lookup (is_at (nat_cmp fid)) fids.fids.entries
    → ok_or (option_map file_of o) (By EBADF) ≡ found (table_of fids) fid
found_seen fids fid o e =
    ap (λ (p : Option File). ok_or p (By EBADF)) (ap (option_map file_of) e ∙ sym (lookup_seen (is_at (nat_cmp fid)) fids.fids.entries))

pub insert_seen : (cmp : ℕ → ℕ → Ordering) (es : List (ℕ × Fid)) (fid : ℕ) (what : Fid)
    → map entry_of (insert_entry cmp es fid what) ≡ insert_entry cmp (map entry_of es) fid (file_of what)
insert_seen cmp [] fid what = refl
insert_seen cmp (e ∷ es) fid what = one_more (cmp fid e.0) (insert_seen cmp es fid what) where
  one_more : (o : Ordering) → map entry_of (insert_entry cmp es fid what) ≡ insert_entry cmp (map entry_of es) fid (file_of what)
      → map entry_of (match_ordering o ((fid, what) ∷ e ∷ es) ((e.0, what) ∷ es) (e ∷ insert_entry cmp es fid what))
      ≡ match_ordering o ((fid, file_of what) ∷ entry_of e ∷ map entry_of es) ((e.0, file_of what) ∷ map entry_of es)
      (entry_of e ∷ insert_entry cmp (map entry_of es) fid (file_of what))
  one_more Less same = refl
  one_more Equal same = refl
  one_more Greater same = ap (λ (r : List (ℕ × File)). entry_of e ∷ r) same

pub set_seen : (test : ℕ → Bool) (es : List (ℕ × Fid)) (what : Fid)
    → map entry_of (set_value test es what) ≡ set_value test (map entry_of es) (file_of what)
set_seen test [] what = refl
set_seen test (e ∷ es) what = one_more (test e.0) (set_seen test es what) where
  one_more : (b : Bool) → map entry_of (set_value test es what) ≡ set_value test (map entry_of es) (file_of what)
      → map entry_of (cond b ((e.0, what) ∷ es) (e ∷ set_value test es what))
      ≡ cond b ((e.0, file_of what) ∷ map entry_of es) (entry_of e ∷ set_value test (map entry_of es) (file_of what))
  one_more true same = refl
  one_more false same = ap (λ (r : List (ℕ × File)). entry_of e ∷ r) same

-- what isn't there isn't set
pub set_none : (test : ℕ → Bool) (es : List (ℕ × File)) (what : File) → lookup test es ≡ None → set_value test es what ≡ es
set_none test [] what none = refl
set_none test (e ∷ es) what none = one_more (test e.0) none (set_none test es what) where
  one_more : (b : Bool) → cond b (Some e.1) (lookup test es) ≡ None → (lookup test es ≡ None → set_value test es what ≡ es)
      → cond b ((e.0, what) ∷ es) (e ∷ set_value test es what) ≡ e ∷ es
  one_more true gone rest = absurd (is_there gone) where
    is_there : Some e.1 ≡ None → ⊥
    is_there h = cc
  one_more false gone rest = ap (λ (r : List (ℕ × File)). e ∷ r) (rest gone)

-- whether a table has a fid
pub has_seen : (fids : Fids) (fid : ℕ) → is_some (lookup (is_at (nat_cmp fid)) (table_of fids)) ≡ is_some (lookup (is_at (nat_cmp fid)) fids.fids.entries)
has_seen fids fid = ap is_some (lookup_seen (is_at (nat_cmp fid)) fids.fids.entries) ∙ same (lookup (is_at (nat_cmp fid)) fids.fids.entries) where
  same : (o : Option Fid) → is_some (option_map file_of o) ≡ is_some o
  same None = refl
  same (Some f) = refl

-- whether one of a table is a user's, by its values
pub has_values : (uid : ℕ) (es : List (ℕ × Fid))
    → list_any (λ (f : Fid). f.user.uid == uid) (values_of es) ≡ has_fid (map entry_of es) uid
has_values uid [] = refl
has_values uid (e ∷ es) = ap (λ (b : Bool). (e.1.user.uid == uid) || b) (has_values uid es)

-- each of a table becomes what a call of each leaves, where it takes none away
pub each_becomes : {F : Type 0} (T : F → ℕ → Fid → Bool → Fid → F → Type 0) (R : File → File → Type 0) (f : F)
    → ((k : ℕ) (v : Fid) (b : Bool) (w : Fid) (g : F) → T f k v b w g → (b ≡ true) × R (file_of v) (file_of w) × (g ≡ f))
    → (es kept : List (ℕ × Fid)) → RetainsPairs T f es kept → EachBecomes R (map entry_of es) (map entry_of kept)
each_becomes T R f call [] kept is = subst (λ (x : List (ℕ × Fid)). EachBecomes R [] (map entry_of x)) (sym is) tt
each_becomes T R f call (e ∷ es) kept (b, w, g, rest, called, more, is) =
    let done : (b ≡ true) × R (file_of e.1) (file_of w) × (g ≡ f) = call e.0 e.1 b w g called in
    let same : RetainsPairs T f es rest = subst (λ (x : _). RetainsPairs T x es rest) done.2 more in
    let kept_is : kept ≡ (e.0, w) ∷ rest = is ∙ ap (λ (x : Bool). cond x ((e.0, w) ∷ rest) rest) done.0 in
    subst (λ (x : List (ℕ × Fid)). EachBecomes R (map entry_of (e ∷ es)) (map entry_of x)) (sym kept_is)
    (refl, done.1, each_becomes T R f call es rest same)

-- what becomes of a number for a new fid
pub is_used : (fids : Fids) (fid : ℕ) → is_some (lookup (is_at (nat_cmp fid)) fids.fids.entries) ≡ true
    → Err (By EINVAL) ≡ new_fid (table_of fids) fid
is_used fids fid h =
    let used : is_some (lookup (is_at (nat_cmp fid)) (table_of fids)) ≡ true = has_seen fids fid ∙ h in
    rw used refl

pub is_full : (fids : Fids) (fid len : ℕ) → is_some (lookup (is_at (nat_cmp fid)) fids.fids.entries) ≡ false
    → len ≡ length fids.fids.entries → 4096 ≤ len → Err (By ENFILE) ≡ new_fid (table_of fids) fid
is_full fids fid len h e full =
    let unused : is_some (lookup (is_at (nat_cmp fid)) (table_of fids)) ≡ false = has_seen fids fid ∙ h in
    let same : length (table_of fids) ≡ len = length-map fids.fids.entries entry_of ∙ sym e in
    let none : nat_lt len 4096 ≡ false = grind (arith, nat_tests) in
    rw (unused, same, none) refl

pub has_room : (fids : Fids) (fid len : ℕ) → is_some (lookup (is_at (nat_cmp fid)) fids.fids.entries) ≡ false
    → len ≡ length fids.fids.entries → len < 4096 → Ok tt ≡ new_fid (table_of fids) fid
has_room fids fid len h e less =
    let unused : is_some (lookup (is_at (nat_cmp fid)) (table_of fids)) ≡ false = has_seen fids fid ∙ h in
    let same : length (table_of fids) ≡ len = length-map fids.fids.entries entry_of ∙ sym e in
    let room : nat_lt len 4096 ≡ true = grind (arith, nat_tests) in
    rw (unused, same, room) refl
