-- A moved directory is the old one, and keeps the rules of the format.
use Rattle.std.proofs.Common.{◌≡◌, ◌≢◌, ◌<◌, ◌≤◌, ◌+◌, ◌-◌, ◌*◌, ℕ, List, length, take, drop, slice_index, Bool, true, false, refl, sym}
use Rattle.std.proofs.Common.{ap, ◌∙◌, arith}
use mathlib.Core.Logic.{inl, inr}
use Rattle.std.specs.Prelude.{not, ◌==◌, ◌&&◌}
use Rattle.std.proofs.lemmas.Bool.{cases_lt}
use Rattle.layout.specs.declared.Geometry.{Geometry}
use Rattle.tree.specs.Names.{Name, is_name, dot, dot_dot}
use Rattle.tree.specs.Space.{pages_of}
use Rattle.volume.specs.declared.Inode.{Inode}
use Rattle.volume.specs.Pieces.{Pieces}
use Rattle.volume.specs.Nodes as nodes_3
use Rattle.volume.specs.Nodes.{file_byte, page_zone}
use Rattle.volume.specs.Entries as entries_3
use Rattle.volume.specs.Holds as holds_3
use Rattle.lemmas.specs.Sums.{one_if}
use Rattle.volume.proofs.Sums.{same_some, count_most}
use Rattle.fsck.proofs.Counts.{no_sum}
use Rattle.migrate.proofs.Laid.{sum_front}
use Rattle.migrate.proofs.Names.{text_same}
use Rattle.image.specs.declared.Image.{Image}
use Rattle.image.specs.Contents.{contents}
use Rattle.image.specs.Entry as entry
use Rattle.fsck.specs.Form.{version_2}
use Rattle.fsck.specs.declared.version.Version.TheVariants.{V2}
use Rattle.fsck.specs.Nodes as nodes_2
use Rattle.fsck.specs.Entries as entries_2
use Rattle.fsck.specs.Nodes.{entry_count_of, is_dropped}
use Rattle.fsck.proofs.EntryBytes.{field_same, name_field_same, short_dot, short_dot_dot}
use Rattle.migrate.specs.Holds.{IsSoundDirectory}
use Rattle.migrate.specs.Written.{AreEntries, kept_of}
use Rattle.migrate.proofs.WrittenEntries.{nth, read, number_kept, name_kept, names_kept, kept_one, kept_two}

module _ (i : Image) (h : Geometry) (w : Pieces) (n : ℕ) (bytes : List ℕ)
    (entries : AreEntries (file_byte i.geometry (contents i) ((contents i).inodes n)) (entry_count_of version_2
    ((contents i).inodes n)) bytes)
    (moved : (q : ℕ) → q < length bytes → file_byte h w (w.inodes n) q ≡ slice_index bytes q) (size : (w.inodes n).size ≡ length bytes)
    (two : 2 ≤ entry_count_of version_2 ((contents i).inodes n)) where
  abbrev v : Pieces
  v = contents i

  abbrev x : Inode
  x = v.inodes n

  abbrev y : Inode
  y = w.inodes n

  abbrev f : ℕ → ℕ
  f = file_byte i.geometry v x

  abbrev hb : ℕ → ℕ
  hb = file_byte h w y

  abbrev count : ℕ
  count = entry_count_of version_2 x

  -- how many entries the new directory has
  pub many : nodes_3.entry_count_of y ≡ kept_of f count
  many = let whole = entries.size in omega arith

  -- the directory is the same
  pub directory_moved : nodes_2.directory_of version_2 i.geometry v x ≡ nodes_3.directory_of h w y
  directory_moved =
      let all : count - 2 + 2 ≡ count = omega arith in
      let parent = number_kept f hb count bytes entries moved 1 (omega arith) refl
      ∙ ap (nodes_3.entry_inode hb) (kept_one f hb count bytes entries moved) in
      let names = names_kept f hb count bytes entries moved (count - 2) (omega arith)
      ∙ ap (λ c. nodes_3.names_in hb (kept_of f c - 2)) all ∙ ap (λ k. nodes_3.names_in hb (k - 2)) (sym many) in
      λ j. record { parent = parent j; names = names j }

  -- what is known of an entry of the old directory that is kept
  pub record Old (k : ℕ) : Type 0 where
    pub old : ℕ
    pub low : old < count
    pub used : is_dropped version_2 f old ≡ false
    pub at : kept_of f old ≡ k

  -- each entry of the new one is of one
  pub old_of : (k : ℕ) → k < nodes_3.entry_count_of y → Old k
  old_of k l =
      let same = many in
      let r = nth (λ e. not (is_dropped version_2 f e)) count k (omega arith) in
      record { old = r.0; low = r.1; used = not_true_is _ r.2; at = r.3 }
    where
      not_true_is : (b : Bool) → not b ≡ true → b ≡ false
      not_true_is true e = sym e
      not_true_is false e = refl

  module _ (e : ℕ) (l : e < count) (used : is_dropped version_2 f e ≡ false) where
    abbrev k : ℕ
    k = kept_of f e

    abbrev wide : ℕ → ℕ
    wide = slice_index (take 64 (drop (64 * kept_of f e) bytes))

    -- a byte of its name
    byte : (a : ℕ) → a < 60 → hb (64 * k + 4 + a) ≡ wide (4 + a)
    byte a few =
        let at : 64 * k + (4 + a) ≡ 64 * k + 4 + a = omega arith in
        ap hb (sym at) ∙ sym (read f hb count bytes entries moved e l used (4 + a) (omega arith))

    -- whether its field is a name's
    field_new : (name : Name) → ((a : ℕ) → 14 ≤ a → slice_index name a ≡ 0)
        → entries_3.is_field h w n k name ≡ entries_2.is_field version_2 i.geometry v n e name
    field_new name short =
        ap not (same_some _ _ 60 (λ a few. ap (λ b. not (b == slice_index name a)) (byte a few)))
        ∙ field_same V2 i n e x refl (take 64 (drop (64 * kept_of f e) bytes)) (entries.each e l used) name short

    -- whether it is one that a directory can have
    name_field_new : entries_3.is_name_field h w n k ≡ entries_2.is_name_field version_2 i.geometry v n e
    unfolding entry.name_in
    name_field_new =
        let padded : entries_3.is_padded h w n k ≡ entry.is_padded wide
        = ap not (same_some _ _ 59 (λ a few. λ j. (byte a (omega arith) j == 0) && not (byte (a + 1) (omega arith) j == 0))) in
        let name : entries_3.name_at h w n k ≡ entry.name_in wide
        = text_same hb wide 60 (64 * k + 4) 4 (λ a few. byte a few) in
        (λ j. padded j && is_name (name j)) ∙ name_field_same V2 i n e x refl (take 64 (drop (64 * kept_of f e) bytes))
        (entries.each e l used)

  -- before the first entry stands none
  kept_none : kept_of f 0 ≡ 0
  kept_none = no_sum (λ e. one_if (not (is_dropped version_2 f e)))

  -- the new directory keeps the rules
  pub directory_rules : IsSoundDirectory version_2 i.geometry v n → ((p : ℕ) → p < pages_of h y.size → page_zone h w y p ≢ 0)
      → holds_3.IsSoundDirectory h w n
  directory_rules d whole =
      let size_is = entries.size in
      let first = kept_none in
      let second = kept_one f hb count bytes entries moved in
      record {
        sized = omega arith;
        two =
            let all : kept_of f (count - 2 + 2) ≡ kept_of f count = ap (kept_of f) (let e : count - 2 + 2 ≡ count = omega arith in e) in
            let more = kept_two f hb count bytes entries moved (count - 2) in
            let same = many in
            omega arith;
        whole = whole;
        dot_entry = (
          ap (λ k. entries_3.is_field h w n k dot) (sym first) ∙ field_new 0 (omega arith) refl dot (short_dot V2) ∙ d.dot_entry.0,
          ap (nodes_3.entry_inode hb) (sym first) ∙ sym (number_kept f hb count bytes entries moved 0 (omega arith) refl) ∙ d.dot_entry.1,
        );
        dot_dot_entry = ap (λ k. entries_3.is_field h w n k dot_dot) (sym second)
            ∙ field_new 1 (omega arith) refl dot_dot (short_dot_dot V2) ∙ d.dot_dot_entry;
        used = λ k l z.
            let o = old_of k l in
            d.used o.old o.low o.used
            (number_kept f hb count bytes entries moved o.old o.low o.used ∙ ap (nodes_3.entry_inode hb) o.at ∙ z);
        names = λ k past l.
            let o = old_of k l in
            let at = o.at in
            let few = count_most (λ e. not (is_dropped version_2 f e)) o.old in
            ap (entries_3.is_name_field h w n) (sym o.at) ∙ name_field_new o.old o.low o.used ∙ d.names o.old (omega arith) o.low o.used;
        distinct = λ k m less l same.
            let o = old_of k (omega arith) in
            let p = old_of m l in
            let at = o.at in
            let there = p.at in
            elim (cases_lt o.old p.old) [
              | inl before ↦ d.distinct o.old p.old before p.low o.used p.used
                  (name_kept f hb count bytes entries moved o.old o.low o.used ∙ ap (nodes_3.entry_name hb) o.at ∙ same
                  ∙ sym (name_kept f hb count bytes entries moved p.old p.low p.used ∙ ap (nodes_3.entry_name hb) p.at))
              | inr after ↦
                  let most = sum_front (λ e. one_if (not (is_dropped version_2 f e))) p.old o.old after in
                  absurd (omega arith)
            ];
      }
