-- What becomes of nodes, as the tables have it.
use Rattle.std.proofs.Common.{◌≡◌, ◌≢◌, ◌∙◌, ap, sym, subst, ℕ, Bool, true, false, List, [], ◌∷◌, Option, Some, None, inl, inr, ◌⊎◌, cond}
use Rattle.std.proofs.lemmas.Bool.Decides.{eqb_tells}
use Rattle.std.specs.BTreeMap.{BTreeMap, get, is_at}
use Rattle.std.specs.Map.{lookup}
use Rattle.std.specs.Option.{option_map}
use Rattle.std.specs.Ordering.{nat_cmp}
use Rattle.std.specs.Prelude.{⊤, ◌==◌, IfSome, IsSomeAnd}
use Rattle.fuse_nodes.specs.Tables.{put}
use Rattle.fuse_nodes.specs.Known.{Facts, Known, facts_of, is_stale}
use Rattle.fuse_nodes.specs.Changes.{is_used, dropped, let_go, lost, settled, goes, with_change, spare_of}
use Rattle.fuse_nodes.specs.declared.node.Descriptor.{Descriptor}
use Rattle.fuse_nodes.specs.declared.node.Node.{Node}
use Rattle.fuse_nodes.proofs.TableLaws.{at_eq}

same_known : (k l : Known) → k.nodes ≡ l.nodes → k.numbers ≡ l.numbers → k.next ≡ l.next → k ≡ l
same_known k l nodes numbers next = λ i. record { nodes = nodes i; numbers = numbers i; next = next i }

-- a node that isn't used went
pub dropped_is : (k m : Known) (id : ℕ) (facts : Facts) → k.nodes id ≡ Some facts → (id ≡ 1 → ⊥) → is_used facts ≡ false
    → m.nodes ≡ put k.nodes id None → m.numbers ≡ let_go k.numbers facts.inode id → m.next ≡ k.next → m ≡ dropped k id
dropped_is k m id facts there other unused nodes numbers next = elim (eqb_tells id 1) [
  | inl same ↦ absurd (other same.1)
  | inr apart ↦ rw (there, apart.0, unused)
      (same_known m (record k { nodes = put k.nodes id None; numbers = let_go k.numbers facts.inode id }) nodes numbers next)
]

-- a node that may be another file's is its inode's no more
pub settled_is : (k m : Known) (id : ℕ) (facts : Facts) → k.nodes id ≡ Some facts → is_stale facts ≡ true → m.nodes ≡ k.nodes
    → m.numbers ≡ let_go k.numbers facts.inode id → m.next ≡ k.next → m ≡ settled k id
settled_is k m id facts there stale nodes numbers next =
    rw (there, stale) (same_known m (record k { numbers = let_go k.numbers facts.inode id }) nodes numbers next)

-- the last name of an inode was taken
pub lost_is : (k l m : Known) (inode id : ℕ) → k.numbers inode ≡ Some id → l ≡ with_change goes k id → m ≡ settled l id → m ≡ lost k inode
lost_is k l m inode id there gone is = rw there (is ∙ ap (λ (x : Known). settled x id) gone)

-- no node of a list can be spared
abbrev pub NoneSpare : ℕ → List (ℕ × Node) → Type 0
NoneSpare but [] = ⊤
NoneSpare but (e ∷ es) = (spare_of but e.0 (facts_of e.1) ≡ None) × NoneSpare but es

-- the one that is told of can be
pub spared_is : (m : BTreeMap ℕ Node) (but id : ℕ) (node : Node) (descriptor : Descriptor) → get nat_cmp m id ≡ Some node
    → Some descriptor ≡ spare_of but id (facts_of node)
    → IsSomeAnd (option_map facts_of (get nat_cmp m id)) (λ (facts : Facts). spare_of but id facts ≡ Some descriptor)
spared_is m but id node descriptor there is =
    subst (λ (o : Option Node). IsSomeAnd (option_map facts_of o) (λ (facts : Facts). spare_of but id facts ≡ Some descriptor))
    (sym there) (sym is)

abbrev NotSpare : ℕ → ℕ → Option Node → Type 0
NotSpare but id o = IfSome (option_map facts_of o) (λ (facts : Facts). spare_of but id facts ≡ None)

-- what is found can't be spared, where none of a list can
pub none_found : (but id : ℕ) (es : List (ℕ × Node)) → NoneSpare but es
    → NotSpare but id (lookup (is_at (nat_cmp id)) es)
none_found but id [] none = tt
none_found but id (e ∷ es) none = either (none_found but id es none.1) (eqb_tells id e.0) where
  either : NotSpare but id (lookup (is_at (nat_cmp id)) es) → (((id == e.0) ≡ true) × (id ≡ e.0)) ⊎ (((id == e.0) ≡ false) × (id ≢ e.0))
      → NotSpare but id (cond (is_at (nat_cmp id) e.0) (Some e.1) (lookup (is_at (nat_cmp id)) es))
  either rest (inl same) = subst (λ (b : Bool). NotSpare but id (cond b (Some e.1) (lookup (is_at (nat_cmp id)) es)))
      (sym (at_eq id e.0 ∙ same.0))
      (subst (λ (i : ℕ). spare_of but i (facts_of e.1) ≡ None) (sym same.1) none.0)
  either rest (inr apart) = subst (λ (b : Bool). NotSpare but id (cond b (Some e.1) (lookup (is_at (nat_cmp id)) es)))
      (sym (at_eq id e.0 ∙ apart.0)) rest
