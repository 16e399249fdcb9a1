-- Pages that are let go, from one on.
use Rattle.std.proofs.Common.{◌≡◌, ◌<◌, ◌≤◌, ◌/◌, ◌%◌, ℕ, Bool, true, false, refl, sym, ap, subst, ◌∙◌, arith}
use mathlib.Core.Logic.{inl, inr}
use Rattle.std.specs.Prelude.{◌==◌, ◌&&◌, not, nat_lt, IsTrue, if◌then◌else◌, Option, None, Some}
use Rattle.std.proofs.lemmas.Bool.{cases_eq, cases_lt, cond-true, cond-false, lt-ltb, le-ltb, eq-eqb, ne_eqb, eqb-true, not-false}
use Rattle.layout.specs.declared.Geometry.{Geometry}
use Rattle.layout.specs.Places.{IsGeometry}
use Rattle.lemmas.specs.Sums.{put}
use Rattle.tree.specs.Tree.{File}
use Rattle.tree.specs.Space.{numbers_in_zone}
use Rattle.tree.specs.ZonesNeeded.{page_limit}
use Rattle.lemmas.proofs.Maps.{put-same, put-other}
use Rattle.volume.specs.declared.Inode.{Inode}
use Rattle.volume.specs.Reading.{Disk, is_inode}
use Rattle.volume.specs.Pieces.{Pieces, pieces}
use Rattle.volume.specs.Nodes.{file_of, file_byte, page_byte, page_zone, is_marked}
use Rattle.volume.proofs.Bridge.{no_index}
use Rattle.volume.proofs.Volumes.{numbers_sized}
use Rattle.zone.specs.ZoneSteps.{SameInodes, IsSoundBut, without_page}
use Rattle.zone.specs.Composite.{Detached}
use Rattle.zone.proofs.Agree.{marked_on}
use Rattle.zone.proofs.Composite.{same_inodes}
use Rattle.zone.proofs.Keeps.{weaker}
use Rattle.zone.proofs.Files.{nodes_change_at}
use Rattle.block_store.specs.Volume.{SameHead}
use Rattle.zone.specs.Pages.{MayRelease, Releases}
use Rattle.zone.specs.CutFiles.{IsLastAt, IsFull, IsLastFrom, cut_at, MayDetach, LetGo, DetachesFrom}
use Rattle.zone.proofs.ZoneInodes.{inode_is}
use Rattle.zone.proofs.Last.{places_fit}

-- the file of which the pages from one on are let go, by its parts
pub cut_by_parts : (w : ℕ) (x f : File) (p : ℕ) → x.size ≡ f.size → ((q : ℕ) → q < p → x.held q ≡ f.held q) → ((q : ℕ) → p ≤ q → x.held q ≡ false)
    → ((o : ℕ) → o / w < p → x.byte o ≡ f.byte o) → ((o : ℕ) → p ≤ o / w → x.byte o ≡ 0) → x ≡ cut_at w f p
cut_by_parts w x f p size near far here gone = λ t. record { size = size t; byte = λ o. byte o t; held = λ q. held q t }
  where
    both : (b : Bool) → b && false ≡ false
    both true = refl
    both false = refl

    one : (b : Bool) → b && true ≡ b
    one true = refl
    one false = refl

    held : (q : ℕ) → x.held q ≡ (f.held q && nat_lt q p)
    held q = elim (cases_lt q p) [
      | inl l ↦ near q l ∙ sym (ap (λ b. f.held q && b) (lt-ltb q p l) ∙ one (f.held q))
      | inr l ↦ far q l ∙ sym (ap (λ b. f.held q && b) (le-ltb q p l) ∙ both (f.held q))
    ]

    byte : (o : ℕ) → x.byte o ≡ (if nat_lt (o / w) p then f.byte o else 0)
    byte o = elim (cases_lt (o / w) p) [
      | inl l ↦ here o l ∙ sym (cond-true (nat_lt (o / w) p) (f.byte o) 0 (lt-ltb (o / w) p l))
      | inr l ↦ gone o l ∙ sym (cond-false (nat_lt (o / w) p) (f.byte o) 0 (le-ltb (o / w) p l))
    ]

-- what such a file keeps
module _ (w : ℕ) (x f : File) (p : ℕ) (is : x ≡ cut_at w f p) where
  pub cut_held : (q : ℕ) → q < p → x.held q ≡ f.held q
  cut_held q l = ap (λ (y : File). y.held q) is ∙ ap (λ b. f.held q && b) (lt-ltb q p l) ∙ one (f.held q)
    where
      one : (b : Bool) → b && true ≡ b
      one true = refl
      one false = refl

  pub cut_byte : (o : ℕ) → o / w < p → x.byte o ≡ f.byte o
  cut_byte o l = ap (λ (y : File). y.byte o) is ∙ cond-true (nat_lt (o / w) p) (f.byte o) 0 (lt-ltb (o / w) p l)

  pub cut_gone : (q : ℕ) → p ≤ q → x.held q ≡ false
  cut_gone q l = ap (λ (y : File). y.held q) is ∙ ap (λ b. f.held q && b) (le-ltb q p l) ∙ both (f.held q)
    where
      both : (b : Bool) → b && false ≡ false
      both true = refl
      both false = refl

-- nothing either way
abbrev zero_or : Bool → ℕ
zero_or b = if b then 0 else 0

module _ (g : Geometry) (v : Pieces) (i : Inode) where
  -- a page is held where it has a zone
  pub not_held : (q : ℕ) → page_zone g v i q ≡ 0 → (file_of g v i).held q ≡ false
  not_held q none = ap not (eq-eqb (page_zone g v i q) 0 none)

  pub no_zone : (q : ℕ) → (file_of g v i).held q ≡ false → page_zone g v i q ≡ 0
  no_zone q h = eqb-true (page_zone g v i q) 0 (not-false (page_zone g v i q == 0) h)

  -- a hole has zeros
  pub hole_byte : (o : ℕ) → page_zone g v i (o / g.block_size) ≡ 0 → file_byte g v i o ≡ 0
  hole_byte o none =
      ap (λ z. if nat_lt o i.size then page_byte v z (o % g.block_size) else 0) none ∙ by (nat_lt o i.size)
    where
      by : (b : Bool) → zero_or b ≡ 0
      by true = refl
      by false = refl

-- past all pages nothing is to be let go
pub uncut : (g : Geometry) (v : Pieces) (n p : ℕ) → IsGeometry g → page_limit (numbers_in_zone g) ≤ p → file_of g v (v.inodes n) ≡ cut_at g.block_size (file_of g v (v.inodes n)) p
uncut g v n p ok far =
    let f = file_of g v (v.inodes n) in
    let none : (q : ℕ) → p ≤ q → page_zone g v (v.inodes n) q ≡ 0 = λ q l. no_index g v (numbers_sized g ok) n 0 q (omega arith) (omega arith) in
    cut_by_parts g.block_size f f p refl (λ q l. refl) (λ q l. not_held g v (v.inodes n) q (none q l)) (λ o l. refl) (λ o l. hole_byte g v (v.inodes n) o (none (o / g.block_size) l))

-- so far the pages from one on are let go
pub record Going (g : Geometry) (n p : ℕ) (d e : Disk) : Type 0 where
  pub head : SameHead d e
  pub let_go : MayDetach g (pieces g d) n → LetGo g (pieces g d) (pieces g e) n p

-- none are yet
pub going_none : (g : Geometry) (n p : ℕ) (d e : Disk) → IsGeometry g → 4294967295 ≤ p → e ≡ d → Going g n p d e
going_none g n p d e ok far same = subst (λ (x : Disk). Going g n p d x) (sym same) (record {
  head = λ b l. refl;
  let_go = λ may. record {
    rules = may.rules;
    inodes = record { marks = refl; attributes = λ m. refl };
    files = λ m is differ. refl;
    file = uncut g (pieces g d) n p ok (let most = places_fit g 0 ok (omega arith) in omega arith);
  };
})

module _ (g : Geometry) (ok : IsGeometry g) (n p k : ℕ) (d e f : Disk) (so : Going g n p d e) where
  abbrev v : Pieces
  v = pieces g d

  abbrev u : Pieces
  u = pieces g e

  abbrev w : Pieces
  w = pieces g f

  module _ (may : MayDetach g v n) where
    now : LetGo g v u n p
    now = so.let_go may

    marked_now : IsTrue (is_marked g u n)
    marked_now = marked_on g v u now.inodes n may.marked

    -- each block has a number, so the last page is found
    pub still_full : IsTrue (is_inode g n) × IsFull g u (u.inodes n)
    still_full = (inode_is g v n may.marked, λ a j some. now.rules.full n a j marked_now (λ o. absurd (omega (arith, o.1))) some)

    -- no page past the end is held
    pub past_none : (q : ℕ) → p ≤ q → page_zone g u (u.inodes n) q ≡ 0
    past_none q l = no_zone g u (u.inodes n) q (cut_gone g.block_size _ _ p now.file q l)

    -- the last page may be let go
    pub may_release : IsLastAt g u (u.inodes n) 0 k → MayRelease g u n 0 k
    may_release last = record {
      geometry = ok;
      marked = marked_now;
      level = omega arith;
      place = elim (cases_lt k (page_limit (numbers_in_zone g))) [
        | inl l ↦ l
        | inr l ↦ absurd (last.held (no_index g u (numbers_sized g ok) n 0 k (omega arith) l))
      ];
      rules = weaker g u n 0 k 0 now.rules;
      some = last.held;
      bare = λ l. absurd (omega arith);
    }

    -- and is
    one_less : k < p → IsLastAt g u (u.inodes n) 0 k → Detached g u w n 0 k → LetGo g v w n k
    one_less l last gone = record {
      rules = weaker g w n 0 0 k gone.rules;
      inodes = same_inodes g v u w now.inodes gone.inodes;
      files = λ m is differ. gone.files m (marked_on g v u now.inodes m is) differ ∙ now.files m is differ;
      file = cut_by_parts g.block_size (file_of g w (w.inodes n)) (file_of g v (v.inodes n)) k
          (ap (λ (y : File). y.size) gone.file ∙ ap (λ (y : File). y.size) now.file)
          (λ q b. ap (λ (y : File). y.held q) gone.file ∙ put-other (file_of g u (u.inodes n)).held k false q (λ o. absurd (omega arith)) ∙ cut_held g.block_size _ _ p now.file q (omega arith))
          (λ q b. ap (λ (y : File). y.held q) gone.file ∙ elim (cases_eq q k) [
            | inl o ↦ ap (put (file_of g u (u.inodes n)).held k false) o ∙ put-same (file_of g u (u.inodes n)).held k false
            | inr o ↦ put-other (file_of g u (u.inodes n)).held k false q o ∙ not_held g u (u.inodes n) q (last.last q (omega arith))
          ])
          (λ o b. ap (λ (y : File). y.byte o) gone.file ∙ cond-false (o / g.block_size == k) 0 _ (ne_eqb _ k (λ e. absurd (omega arith))) ∙ cut_byte g.block_size _ _ p now.file o (omega arith))
          (λ o b. ap (λ (y : File). y.byte o) gone.file ∙ elim (cases_eq (o / g.block_size) k) [
            | inl e ↦ cond-true (o / g.block_size == k) 0 _ (eq-eqb _ k e)
            | inr e ↦ cond-false (o / g.block_size == k) 0 _ (ne_eqb _ k e) ∙ hole_byte g u (u.inodes n) o (last.last (o / g.block_size) (omega arith))
          ]);
    }

    done : k ≤ p → ((q : ℕ) → k ≤ q → page_zone g u (u.inodes n) q ≡ 0) → LetGo g v u n k
    done l none = record {
      rules = now.rules;
      inodes = now.inodes;
      files = now.files;
      file = cut_by_parts g.block_size (file_of g u (u.inodes n)) (file_of g v (v.inodes n)) k (ap (λ (y : File). y.size) now.file)
          (λ q b. cut_held g.block_size _ _ p now.file q (omega arith))
          (λ q b. not_held g u (u.inodes n) q (none q b))
          (λ o b. cut_byte g.block_size _ _ p now.file o (omega arith))
          (λ o b. hole_byte g u (u.inodes n) o (none (o / g.block_size) b));
    }

  -- one page more is let go
  pub going_on : k < p → (MayDetach g v n → IsLastAt g u (u.inodes n) 0 k) → Releases g n 0 k e f → Going g n k d f
  going_on l last r = record { head = λ b low. r.head b low ∙ so.head b low; let_go = λ may. one_less may l (last may) (r.detached (may_release may (last may))) }

  -- all are
  pub gone_all : k ≤ p → (MayDetach g v n → (q : ℕ) → k ≤ q → page_zone g u (u.inodes n) q ≡ 0) → DetachesFrom g n k d e
  gone_all l none = record {
    head = so.head;
    let_go = λ may. done may l (none may);
    nodes = λ may.
        let a = done may l (none may) in
        nodes_change_at g v u n a.inodes may.marked a.files ∙ ap (λ (y : File). put (Rattle.volume.specs.Nodes.nodes_of g v) n (Some (Rattle.zone.specs.ZoneSteps.node_from (v.inodes n) y))) a.file;
  }

-- what was found
pub found_from : (g : Geometry) (e : Disk) (n p k : ℕ) (x : Option ℕ) → x ≡ Some k → IsLastFrom g (pieces g e) ((pieces g e).inodes n) p x → IsLastAt g (pieces g e) ((pieces g e).inodes n) 0 k
found_from g e n p k x is h = (subst (λ (y : Option ℕ). IsLastFrom g (pieces g e) ((pieces g e).inodes n) p y) is h).1

pub none_from : (g : Geometry) (e : Disk) (n p : ℕ) (x : Option ℕ) → x ≡ None → IsLastFrom g (pieces g e) ((pieces g e).inodes n) p x → (q : ℕ) → p ≤ q → page_zone g (pieces g e) ((pieces g e).inodes n) q ≡ 0
none_from g e n p x is h = subst (λ (y : Option ℕ). IsLastFrom g (pieces g e) ((pieces g e).inodes n) p y) is h

-- no page past the end is found
pub end_past : (g : Geometry) (ok : IsGeometry g) (n p k : ℕ) (d e : Disk) → Going g n p d e → IsLastAt g (pieces g e) ((pieces g e).inodes n) 0 k → p ≤ k → MayDetach g (pieces g d) n → ⊥
end_past g ok n p k d e so last far may = last.held (past_none g ok n p k d e e so may k far)

-- what isn't some is none
pub none_left : (x : Option ℕ) → ((k : ℕ) → x ≡ Some k → ⊥) → x ≡ None
none_left None h = refl
none_left (Some k) h = absurd (h k refl)
