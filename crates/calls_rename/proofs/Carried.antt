-- The moves of a rename, by what stands at the new name.
use Rattle.std.proofs.Common.{◌≡◌, ◌≢◌, ◌≤◌, ◌<◌, ℕ, Bool, true, false, Option, Some, None, length, refl, sym, ap, subst, ◌∙◌, arith}
use Rattle.std.specs.Prelude.{IsTrue, ◌&&◌, ◌==◌, ◌||◌, is_some, nat_le, nat_lt, not}
use Rattle.std.specs.List.{list_any}
use Rattle.std.proofs.lemmas.Bool.{and_parts, le-leb, leb-true}
use Rattle.lemmas.proofs.Bools.{false_not_true}
use Rattle.layout.specs.declared.Geometry.{Geometry}
use Rattle.layout.specs.Places.{IsGeometry}
use Rattle.tree.specs.Names.{Name, is_dots, is_name, most_name}
use Rattle.tree.specs.Tree.{Tree}
use Rattle.tree.specs.Space.{data_zones, zones_used}
use Rattle.volume.specs.Reading.{Disk}
use Rattle.descriptors.specs.Files.{Files}
use Rattle.inode_operations.specs.Stands.{Stands}
use Rattle.inode_operations.specs.declared.moves.Move.{Move}
use Rattle.inode_operations.specs.Leads.{CanLead, Leads}
use Rattle.inode_operations.specs.Replaced.{MayDropReplaced, without_it}
use Rattle.inode_operations.specs.Whole.{MayMoveOver, MayMoveTo, MayMoveWithin, moved, moved_within}
use Rattle.inode_operations.proofs.Leading.{can_then, leads_then}
use Rattle.calls_rename.specs.MoveAsked.{IsAsked}
use Rattle.calls_rename.specs.declared.asked.Asked.{Asked}
use Rattle.calls_rename.specs.Elsewhere.{CanMove, IsElsewhere, TellsRoom}
use Rattle.calls_rename.proofs.Fitting.{fits_dropped, fits_within}
use Rattle.calls_rename.specs.Carrying.{IsReady, IsSomeReady, MayMoveAside, MayMoveOnto, SaysFits, carried, moved_onto}

-- A name's length.
within_name : (name : Name) → IsTrue (is_name name) → (nat_le 1 (length name) && nat_le (length name) most_name) ≡ true
within_name name is =
    let bad = list_any (λ c. (c == 47) || (c == 0) || nat_lt 255 c) name in
    let within = nat_le 1 (length name) && nat_le (length name) most_name in
    (and_parts within (not bad) (and_parts (within && not bad) (not (is_dots name)) is).0).0

pub name_some : (name : Name) → IsTrue (is_name name) → 0 < length name
name_some name is = let one = leb-true 1 (length name) (and_parts (nat_le 1 (length name)) (nat_le (length name) most_name) (within_name name is)).0 in omega (arith, one)

pub name_short : (name : Name) → IsTrue (is_name name) → length name ≤ 60
name_short name is = leb-true (length name) most_name (and_parts (nat_le 1 (length name)) (nat_le (length name) most_name) (within_name name is)).1

-- a move to the directory where it is already
within_is : (m : Move) (t : Tree) → m.from ≡ m.to → moved_within m t ≡ moved m t
within_is m t e i = moved (record m { to = e i }) t

-- Whether the tree after it fits.
module _ (g : Geometry) (ok : IsGeometry g) (d : Disk) (x : Asked) where
  asked_at : (t : Tree) (o : Option ℕ) → x.there ≡ o → (ready : IsReady g d t x) → IsAsked g t x.what o ready.from_node ready.to_node ready.node
  asked_at t o is ready = subst (λ (p : Option ℕ). IsAsked g t x.what p ready.from_node ready.to_node ready.node) is ready.asked

  says_at : (b : Bool) (o : Option ℕ) → x.there ≡ o → ((t : Tree) → IsReady g d t x → b ≡ nat_le (zones_used g (carried x.what o t)) (data_zones g)) → SaysFits g d x b
  says_at b o is says t ready = says t ready ∙ ap (λ (p : Option ℕ). nat_le (zones_used g (carried x.what p t)) (data_zones g)) (sym is)

  by_name : (o : Option ℕ) → x.there ≡ o → is_some o ≡ true → SaysFits g d x true
  by_name None is some = absurd (false_not_true some)
  by_name (Some q) is some = says_at true (Some q) is (λ t ready. sym (le-leb _ _
      (fits_dropped g d t x.what q x.what.is_directory ready.from_node ready.to_node ready.node ok ready.holds (asked_at t (Some q) is ready))))

  -- a name that is there is led elsewhere
  pub fits_onto : is_some x.there ≡ true → SaysFits g d x true
  fits_onto some = by_name x.there refl some

  nothing : (o : Option ℕ) → is_some o ≡ false → o ≡ None
  nothing None h = refl
  nothing (Some q) h = absurd (false_not_true (sym h))

  module _ (free : is_some x.there ≡ false) where
    none : x.there ≡ None
    none = nothing x.there free

    -- an entry stays where it is
    pub fits_in_place : x.what.from ≡ x.what.to → SaysFits g d x true
    fits_in_place e = says_at true None none (λ t ready.
        sym (le-leb _ _ (fits_within g d t x.what ready.from_node ready.to_node ready.node ok ready.holds (asked_at t None none ready) e))
        ∙ ap (λ (u : Tree). nat_le (zones_used g u) (data_zones g)) (within_is x.what t e))

    module _ (apart : x.what.from ≢ x.what.to) where
      elsewhere : (t : Tree) → IsReady g d t x → IsElsewhere g d t x
      elsewhere t ready = record {
        holds = ready.holds;
        from_node = ready.from_node;
        to_node = ready.to_node;
        node = ready.node;
        asked = asked_at t None none ready;
        from = ready.from;
        to = ready.to;
        apart = apart;
      }

      -- room is asked for
      pub fits_elsewhere : (b : Bool) → TellsRoom g d x b → SaysFits g d x b
      fits_elsewhere b tells = says_at b None none (λ t ready. tells t (elsewhere t ready))

      pub can_move : IsSomeReady g d x → CanMove g d x
      can_move h = record { tree = h.tree; is = elsewhere h.tree h.is }

-- The same steps under another condition.
leads_under : (g : Geometry) (P Q : Tree → Type 0) (F G : Tree → Tree) (d e : Disk) → ((t : Tree) → Q t → P t) → ((t : Tree) → F t ≡ G t) → Leads g P F d e → Leads g Q G d e
leads_under g P Q F G d e so same a = record { each = λ c t s q. subst (λ (u : Tree). Stands g c e u.nodes) (same t) (a.each c t s (so t q)) }

can_under : (g : Geometry) (P Q : Tree → Type 0) (d : Disk) → ((t : Tree) → Q t → P t) → CanLead g Q d → CanLead g P d
can_under g P Q d so k = record { from = k.from; tree = k.tree; stands = k.stands; may = so k.tree k.may }

module _ (g : Geometry) (m : Move) where
  -- to a free name
  pub aside_within : (d e : Disk) → m.from ≡ m.to → Leads g (MayMoveWithin m) (moved_within m) d e → Leads g (MayMoveAside g m) (moved m) d e
  aside_within d e same a = leads_under g (MayMoveWithin m) (MayMoveAside g m) (moved_within m) (moved m) d e (λ t may. may.within same) (λ t. within_is m t same) a

  pub can_within : (d : Disk) → m.from ≡ m.to → CanLead g (MayMoveAside g m) d → CanLead g (MayMoveWithin m) d
  can_within d same k = can_under g (MayMoveWithin m) (MayMoveAside g m) d (λ t may. may.within same) k

  pub aside_to : (d e : Disk) → m.from ≢ m.to → Leads g (MayMoveTo g m) (moved m) d e → Leads g (MayMoveAside g m) (moved m) d e
  aside_to d e apart a = leads_under g (MayMoveTo g m) (MayMoveAside g m) (moved m) (moved m) d e (λ t may. may.other apart) (λ t. refl) a

  pub can_to : (d : Disk) → m.from ≢ m.to → CanLead g (MayMoveAside g m) d → CanLead g (MayMoveTo g m) d
  can_to d apart k = can_under g (MayMoveTo g m) (MayMoveAside g m) d (λ t may. may.other apart) k

  module _ (f : Files) (q : ℕ) where
    -- over a name
    pub can_over : (d : Disk) → CanLead g (MayMoveOnto f m q) d → CanLead g (MayMoveOver m) d
    can_over d k = can_under g (MayMoveOver m) (MayMoveOnto f m q) d (λ t may. may.over) k

    over : (d e : Disk) → Leads g (MayMoveOver m) (moved m) d e → Leads g (MayMoveOnto f m q) (moved m) d e
    over d e a = leads_under g (MayMoveOver m) (MayMoveOnto f m q) (moved m) (moved m) d e (λ t may. may.over) (λ t. refl) a

    abbrev May : Tree → Type 0
    May = MayDropReplaced f m.now q m.to m.is_directory

    pub can_drop : (d e : Disk) → Leads g (MayMoveOver m) (moved m) d e → CanLead g (MayMoveOnto f m q) d → CanLead g May e
    can_drop d e a k = can_then g (MayMoveOnto f m q) May (moved m) d e (λ t may. may.dropped) (over d e a) k

    pub onto_and_dropped : (d e h : Disk) → Leads g (MayMoveOver m) (moved m) d e → Leads g May (without_it m.now q m.to m.is_directory) e h
        → Leads g (MayMoveOnto f m q) (moved_onto m q) d h
    onto_and_dropped d e h a b = leads_then g (MayMoveOnto f m q) May (moved m) (without_it m.now q m.to m.is_directory) d e h (λ t may. may.dropped) (over d e a) b
