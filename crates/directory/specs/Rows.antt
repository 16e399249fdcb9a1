-- A row of entries by its bytes alone, and what a change of one entry does to its names.
use Rattle.std.specs.Prelude.{◌≡◌, ◌≢◌, ℕ, ◌+◌, ◌-◌, ◌*◌, ◌<◌, ◌≤◌, ◌⊎◌, length, slice_index, Bool, false, not, ◌&&◌, ◌==◌, None, Some, IsTrue}
use Rattle.std.specs.FinMap.Entries.{is_sorted}
use Rattle.lemmas.specs.Sums.{some_below}
use Rattle.tree.specs.Names.{Name, Names, name_cmp, is_name, dot, dot_dot, inode_of, with_name, without_name}
use Rattle.volume.specs.Nodes.{entry_inode, entry_name, names_in}

-- all 60 bytes of entry e are this name's, filled with zeros
abbrev pub has_field : (ℕ → ℕ) → ℕ → Name → Bool
has_field f e name = not (some_below (λ a. not (f (64 * e + 4 + a) == slice_index name a)) 60)

-- all 60 bytes are a name that a directory can have, filled with zeros
abbrev pub has_good_field : (ℕ → ℕ) → ℕ → Bool
has_good_field f e = not (some_below (λ a. (f (64 * e + 4 + a) == 0) && not (f (64 * e + 4 + (a + 1)) == 0)) 59) && is_name (entry_name f e)

-- the names of a row of k entries, of which the first two are none
abbrev pub names_of_row : (ℕ → ℕ) → ℕ → Names
names_of_row f k = names_in f (k - 2)

-- A row of k entries by the rules, those of directory n.
pub record IsRow (f : ℕ → ℕ) (n k : ℕ) : Type 0 where
  pub two : 2 ≤ k
  pub dot_entry : IsTrue (has_field f 0 dot) × (entry_inode f 0 ≡ n)
  pub dot_dot_entry : IsTrue (has_field f 1 dot_dot)
  pub used : (e : ℕ) → e < k → entry_inode f e ≢ 0
  pub names : (e : ℕ) → 2 ≤ e → e < k → IsTrue (has_good_field f e)
  pub distinct : (e d : ℕ) → e < d → d < k → entry_name f e ≢ entry_name f d

-- The 64 bytes of entry e are this inode number and this name, filled with zeros.
pub record IsEntry (f : ℕ → ℕ) (e x : ℕ) (name : Name) : Type 0 where
  pub target : entry_inode f e ≡ x
  pub bytes : (a : ℕ) → a < 60 → f (64 * e + 4 + a) ≡ slice_index name a

-- the 64 bytes of entry d of h are those of entry e of f
abbrev pub SameEntry : (ℕ → ℕ) → (ℕ → ℕ) → ℕ → ℕ → Type 0
SameEntry f h e d = (o : ℕ) → o < 64 → h (64 * d + o) ≡ f (64 * e + o)

-- Entry e becomes this one, and no byte beside it changes.
pub record SetsEntry (f h : ℕ → ℕ) (e x : ℕ) (name : Name) : Type 0 where
  pub here : IsEntry h e x name
  pub others : (q : ℕ) → (q < 64 * e) ⊎ (64 * e + 64 ≤ q) → h q ≡ f q

-- Entry e of k becomes the last one, and no byte beside it and the last entry changes.
pub record DropsEntry (f h : ℕ → ℕ) (k e : ℕ) : Type 0 where
  pub here : e < k - 1 → SameEntry f h (k - 1) e
  pub others : (q : ℕ) → (q < 64 * e) ⊎ (64 * e + 64 ≤ q) → q < 64 * (k - 1) → h q ≡ f q

-- no entry of the k after the first two has the name
abbrev pub NoneHas : (ℕ → ℕ) → ℕ → Name → Type 0
NoneHas f k name = (e : ℕ) → 2 ≤ e → e < k → has_field f e name ≡ false

-- The field is the name's, filled with zeros, exactly where the entry's name is it.
abbrev pub FieldIsName : Type 0
FieldIsName = (f : ℕ → ℕ) (n k e : ℕ) (name : Name) → IsRow f n k → IsTrue (is_name name) → 2 ≤ e → e < k
    → IsTrue (has_field f e name) → entry_name f e ≡ name

abbrev pub NameIsField : Type 0
NameIsField = (f : ℕ → ℕ) (n k e : ℕ) → IsRow f n k → 2 ≤ e → e < k → IsTrue (has_field f e (entry_name f e))

-- an entry that has the name is what the look-up answers
abbrev pub FoundEntry : Type 0
FoundEntry = (f : ℕ → ℕ) (n k e : ℕ) (name : Name) → IsRow f n k → IsTrue (is_name name) → 2 ≤ e → e < k
    → IsTrue (has_field f e name) → inode_of (names_of_row f k) name ≡ Some (entry_inode f e)

-- where none has it the look-up finds none
abbrev pub NoEntry : Type 0
NoEntry = (f : ℕ → ℕ) (n k : ℕ) (name : Name) → IsRow f n k → IsTrue (is_name name) → NoneHas f k name
    → inode_of (names_of_row f k) name ≡ None

-- and where it finds none, none has it
abbrev pub NoneHasIt : Type 0
NoneHasIt = (f : ℕ → ℕ) (n k : ℕ) (name : Name) → IsRow f n k → IsTrue (is_name name) → inode_of (names_of_row f k) name ≡ None
    → NoneHas f k name

-- what the look-up finds is an entry
pub record HasEntry (f : ℕ → ℕ) (k x : ℕ) (name : Name) : Type 0 where
  pub entry : ℕ
  pub past : 2 ≤ entry
  pub low : entry < k
  pub field : IsTrue (has_field f entry name)
  pub target : entry_inode f entry ≡ x

abbrev pub EntryOfName : Type 0
EntryOfName = (f : ℕ → ℕ) (n k x : ℕ) (name : Name) → IsRow f n k → inode_of (names_of_row f k) name ≡ Some x → HasEntry f k x name

-- An entry more is a name more.
abbrev pub InsertedNames : Type 0
InsertedNames = (f h : ℕ → ℕ) (n k x : ℕ) (name : Name) → IsRow f n k → IsTrue (is_name name) → SetsEntry f h k x name
    → names_of_row h (k + 1) ≡ with_name (names_of_row f k) name x

abbrev pub InsertKeeps : Type 0
InsertKeeps = (f h : ℕ → ℕ) (n k x : ℕ) (name : Name) → IsRow f n k → IsTrue (is_name name) → x ≢ 0
    → inode_of (names_of_row f k) name ≡ None → SetsEntry f h k x name → IsRow h n (k + 1)

-- An entry less is a name less.
abbrev pub RemovedNames : Type 0
RemovedNames = (f h : ℕ → ℕ) (n k e : ℕ) → IsRow f n k → 2 ≤ e → e < k → DropsEntry f h k e
    → names_of_row h (k - 1) ≡ without_name (names_of_row f k) (entry_name f e)

abbrev pub RemoveKeeps : Type 0
RemoveKeeps = (f h : ℕ → ℕ) (n k e : ℕ) → IsRow f n k → 2 ≤ e → e < k → DropsEntry f h k e → IsRow h n (k - 1)

-- An entry that changes is its name gone and another there.
abbrev pub ReplacedNames : Type 0
ReplacedNames = (f h : ℕ → ℕ) (n k e x : ℕ) (name : Name) → IsRow f n k → 2 ≤ e → e < k → IsTrue (is_name name)
    → (inode_of (names_of_row f k) name ≡ None) ⊎ (name ≡ entry_name f e) → SetsEntry f h e x name
    → names_of_row h k ≡ with_name (without_name (names_of_row f k) (entry_name f e)) name x

abbrev pub ReplaceKeeps : Type 0
ReplaceKeeps = (f h : ℕ → ℕ) (n k e x : ℕ) (name : Name) → IsRow f n k → 2 ≤ e → e < k → IsTrue (is_name name) → x ≢ 0
    → (inode_of (names_of_row f k) name ≡ None) ⊎ (name ≡ entry_name f e) → SetsEntry f h e x name → IsRow h n k

-- where the name stays, the map has another inode at it
abbrev pub RetargetedNames : Type 0
RetargetedNames = (f h : ℕ → ℕ) (n k e x : ℕ) → IsRow f n k → 2 ≤ e → e < k → SetsEntry f h e x (entry_name f e)
    → names_of_row h k ≡ with_name (names_of_row f k) (entry_name f e) x

-- another parent
abbrev pub ReparentedNames : Type 0
ReparentedNames = (f h : ℕ → ℕ) (n k x : ℕ) → IsRow f n k → SetsEntry f h 1 x dot_dot → names_of_row h k ≡ names_of_row f k

abbrev pub ReparentKeeps : Type 0
ReparentKeeps = (f h : ℕ → ℕ) (n k x : ℕ) → IsRow f n k → x ≢ 0 → SetsEntry f h 1 x dot_dot → IsRow h n k

-- A row has as many names as entries but two, and one entry more is put on the others.
abbrev pub CountedNames : Type 0
CountedNames = (f : ℕ → ℕ) (n k : ℕ) → IsRow f n k → length (names_of_row f k) + 2 ≡ k

abbrev pub NextName : Type 0
NextName = (f : ℕ → ℕ) (e : ℕ) → 2 ≤ e → names_of_row f (e + 1) ≡ with_name (names_of_row f e) (entry_name f e) (entry_inode f e)

-- a new directory: its first two entries, and no name
abbrev pub NewRow : Type 0
NewRow = (f : ℕ → ℕ) (n p : ℕ) → n ≢ 0 → p ≢ 0 → IsEntry f 0 n dot → IsEntry f 1 p dot_dot → IsRow f n 2

-- the scan: no entry before the first has the name, and none up to here where this one hasn't
abbrev pub NoneAtFirst : Type 0
NoneAtFirst = (f : ℕ → ℕ) (name : Name) → NoneHas f 2 name

abbrev pub NoneSoFar : Type 0
NoneSoFar = (f : ℕ → ℕ) (e : ℕ) (name : Name) → NoneHas f e name → has_field f e name ≡ false → NoneHas f (e + 1) name

-- the comparison of a field, byte by byte
abbrev pub AllBytes : Type 0
AllBytes = (f : ℕ → ℕ) (e : ℕ) (name : Name) → ((a : ℕ) → a < 60 → f (64 * e + 4 + a) ≡ slice_index name a) → IsTrue (has_field f e name)

abbrev pub OtherByte : Type 0
OtherByte = (f : ℕ → ℕ) (e a : ℕ) (name : Name) → a < 60 → f (64 * e + 4 + a) ≢ slice_index name a → has_field f e name ≡ false

-- the names of a row are in order, whatever the row's
abbrev pub SortedNames : Type 0
SortedNames = (f : ℕ → ℕ) (k : ℕ) → IsTrue (is_sorted name_cmp (names_of_row f k))

-- a name that is put before another is taken away, as a rename onto a name that is there
abbrev pub NamesCommute : Type 0
NamesCommute = (es : Names) (old new : Name) (x : ℕ) → IsTrue (is_sorted name_cmp es) → new ≢ old
    → without_name (with_name es new x) old ≡ with_name (without_name es old) new x

-- A rename onto a name that is there, in one directory: entry d gets the inode number of entry e, which goes.
abbrev pub RenamedOnto : Type 0
RenamedOnto = (f h j : ℕ → ℕ) (n k e d x : ℕ) → IsRow f n k → 2 ≤ e → e < k → 2 ≤ d → d < k → d ≢ e → x ≢ 0
    → SetsEntry f h d x (entry_name f d) → DropsEntry h j k e
    → IsRow j n (k - 1) × (names_of_row j (k - 1) ≡ with_name (without_name (names_of_row f k) (entry_name f e)) (entry_name f d) x)
