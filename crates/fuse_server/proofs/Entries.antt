-- Entries name nodes by what is known.
use Rattle.std.proofs.Common.{◌≡◌, ◌≤◌, ◌+◌, ◌∙◌, ℕ, List, [], ◌∷◌, ◌++◌, length, Option, Some, None, refl, sym, ap, subst, inl, inr, arith}
use Rattle.std.proofs.Common.{append_assoc}
use Rattle.std.proofs.lemmas.List.{append-nil, length-append}
use Rattle.std.specs.List.{AllByRecursion}
use Rattle.std.specs.Option.{unwrap_or}
use Rattle.std.proofs.lemmas.Bool.Decides.{eqb_tells}
use Rattle.std.specs.Borrow.{Bor}
use Rattle.fields.specs.Fields.{Four, Eight, Number, fields_bytes}
use Rattle.fields.proofs.WritingLaws.{fields_length}
use Rattle.fuse.specs.Replies.{attribute_fields, name_fields, entry_fields, dirent_bytes, padding}
use Rattle.fuse.specs.declared.entries.ReaddirEntry.{ReaddirEntry}
use Rattle.fuse.specs.declared.reply.Entry.{Entry}
use Rattle.fuse_nodes.specs.Tables.{put}
use Rattle.fuse_nodes.specs.Known.{Known}
use Rattle.fuse_nodes.specs.Changes.{told, told_as, number_in, opened}
use Rattle.fuse_nodes.specs.declared.node.Descriptor.{Descriptor}
use Rattle.fuse_nodes.specs.declared.node.NodeKind.{NodeKind}
use Rattle.fuse_server.specs.Entries.{IsKnown, MaybeKnown, KeepsNumbers, found_bytes, listed_bytes, IsListed}

-- a table has at a key what was put there
put_there : (table : ℕ → Option ℕ) (key : ℕ) (x : Option ℕ) → put table key x key ≡ x
put_there table key x = elim (eqb_tells key key) [ inl same ↦ rw same.0 refl | inr apart ↦ absurd (apart.1 refl) ]

-- the kernel is told the number of an inode's node
told_number : (k : Known) (inode : ℕ) (kind : NodeKind) (own : Option ℕ) → k.numbers inode ≡ own
    → (told_as k inode kind own).numbers inode ≡ Some (unwrap_or own k.next)
told_number k inode kind (Some id) e = e
told_number k inode kind None e = put_there k.numbers inode (Some k.next)

-- an entry that tells it
pub known_entry : (k l : Known) (inode : ℕ) (kind : NodeKind) (id : ℕ) (e : Entry) → l ≡ told k inode kind
    → id ≡ number_in k inode → e.node ≡ id → e.attributes.inode ≡ inode → IsKnown l e
known_entry k l inode kind id e same number node at =
    let P : Known → Type 0 = λ m. m.numbers inode ≡ Some (number_in k inode) in
    let there : l.numbers inode ≡ Some (number_in k inode) = subst P (sym same) (told_number k inode kind (k.numbers inode) refl) in
    let A : ℕ → Type 0 = λ i. l.numbers i ≡ Some (number_in k inode) in
    subst A (sym at) there ∙ ap Some (sym number ∙ sym node)

-- and the node gets a handle
pub opened_entry : (k l m : Known) (inode : ℕ) (kind : NodeKind) (id : ℕ) (d : Option Descriptor) (e : Entry)
    → l ≡ told k inode kind → m ≡ opened l id d → id ≡ number_in k inode → e.node ≡ id → e.attributes.inode ≡ inode → IsKnown m e
opened_entry k l m inode kind id d e same then number node at =
    let P : Known → Type 0 = λ x. IsKnown x e in
    let Q : Known → Type 0 = λ x. IsKnown (opened x id d) e in
    subst P (sym then) (known_entry k l inode kind id e same number node at)

-- the numbers that inodes have stay theirs, where nothing is told
pub keeps : (k l : Known) → l ≡ k → KeepsNumbers k l
keeps k l same = let P : Known → Type 0 = λ m. KeepsNumbers k m in subst P (sym same) (record { numbers = λ inode id h. h })

told_as_keeps : (k : Known) (inode : ℕ) (kind : NodeKind) (own : Option ℕ) → k.numbers inode ≡ own
    → (other id : ℕ) → k.numbers other ≡ Some id → (told_as k inode kind own).numbers other ≡ Some id
told_as_keeps k inode kind (Some own) e other id h = h
told_as_keeps k inode kind None e other id h = elim (eqb_tells inode other) [
  | inl same ↦ absurd (let P : ℕ → Type 0 = λ i. k.numbers i ≡ None in never (sym (subst P same.1 e) ∙ h))
  | inr apart ↦ rw apart.0 h
] where
  never : None ≡ Some id → ⊥
  never x = cc

-- and where a node is told
pub told_keeps : (k l : Known) (inode : ℕ) (kind : NodeKind) → l ≡ told k inode kind → KeepsNumbers k l
told_keeps k l inode kind is =
    let P : Known → Type 0 = λ m. KeepsNumbers k m in
    subst P (sym is) (record { numbers = told_as_keeps k inode kind (k.numbers inode) refl })

stays_known : (k l : Known) → KeepsNumbers k l → (e : Entry) → MaybeKnown k e → MaybeKnown l e
stays_known k l kept e (inl none) = inl none
stays_known k l kept e (inr there) = inr (kept.numbers e.attributes.inode e.node there)

one_more : (es : List (Entry × ReaddirEntry)) (e : Entry × ReaddirEntry) → listed_bytes es ++ found_bytes e ≡ listed_bytes (es ++ e ∷ [])
unfolding listed_bytes
one_more [] e = sym (append-nil (found_bytes e))
one_more (x ∷ es) e =
    append_assoc (found_bytes x) (listed_bytes es) (found_bytes e) ∙ ap (λ (y : List ℕ). found_bytes x ++ y) (one_more es e)

all_known : (k l : Known) → KeepsNumbers k l → (es : List (Entry × ReaddirEntry)) (e : Entry × ReaddirEntry)
    → AllByRecursion (λ (x : Entry × ReaddirEntry). MaybeKnown k x.0) es → MaybeKnown l e.0
    → AllByRecursion (λ (x : Entry × ReaddirEntry). MaybeKnown l x.0) (es ++ e ∷ [])
all_known k l kept [] e all own = (own, tt)
all_known k l kept (x ∷ es) e all own = (stays_known k l kept x.0 all.0, all_known k l kept es e all.1 own)

-- no entries
pub none_listed : (k : Known) (bytes : List ℕ) → bytes ≡ [] → IsListed k bytes
unfolding listed_bytes
none_listed k bytes is = record { entries = []; exact = is; known = tt }

-- an entry more
pub more_listed : (k l : Known) (old new : List ℕ) (e : Entry) (d : ReaddirEntry) → KeepsNumbers k l → MaybeKnown l e
    → new ≡ old ++ (fields_bytes (entry_fields e) ++ dirent_bytes d) → IsListed k old → IsListed l new
more_listed k l old new e d kept own is listed = record {
  entries = listed.entries ++ (e, d) ∷ [];
  exact = is ∙ ap (λ (x : List ℕ). x ++ found_bytes (e, d)) listed.exact ∙ one_more listed.entries (e, d);
  known = all_known k l kept listed.entries (e, d) listed.known own;
}

-- how many bytes an entry has
dirent_length : (e : ReaddirEntry) → length (dirent_bytes e) ≡ 24 + length (e.name.now ++ padding (length e.name.now))
dirent_length e =
    let head = Number Eight e.inode ∷ Number Eight e.next ∷ Number Four (length e.name.now) ∷ Number Four e.kind ∷ [] in
    let so_many : length (fields_bytes head) ≡ 24 = fields_length head in
    omega (arith, length-append (fields_bytes head) (e.name.now ++ padding (length e.name.now)), so_many)

same_length : (c d : ReaddirEntry) → c.name ≡ d.name → length (dirent_bytes c) ≡ length (dirent_bytes d)
same_length c d same =
    let P : Bor (List ℕ) → Type 0 = λ name. length (dirent_bytes c) ≡ 24 + length (name.now ++ padding (length name.now)) in
    subst P same (dirent_length c) ∙ sym (dirent_length d)

-- with what its name leads to: its name alone decides
pub found_length : (e : Entry) (c d : ReaddirEntry) (len : ℕ) → c.name ≡ d.name → len ≡ length (dirent_bytes d)
    → length (fields_bytes (entry_fields e) ++ dirent_bytes c) ≡ 128 + len
unfolding name_fields attribute_fields
found_length e c d len same is =
    let told : length (fields_bytes (entry_fields e)) ≡ 128 = fields_length (entry_fields e) in
    omega (arith, told, length-append (fields_bytes (entry_fields e)) (dirent_bytes c), same_length c d same, is)

-- where it had room, and was written
pub pushed_within : (e : Entry) (c d : ReaddirEntry) (len most : ℕ) (old mid new : List ℕ) → c.name ≡ d.name → len ≡ length (dirent_bytes d)
    → mid ≡ old → new ≡ mid ++ (fields_bytes (entry_fields e) ++ dirent_bytes c) → length old + 128 + len ≤ most → length new ≤ most
pushed_within e c d len most old mid new same is stays written room = omega (
  arith,
  ap length written,
  ap length stays,
  length-append mid (fields_bytes (entry_fields e) ++ dirent_bytes c),
  found_length e c d len same is,
  room,
)
