-- What an effect does to the room on a volume.
use Rattle.std.proofs.Common.{◌≡◌, ◌≤◌, ◌<◌, ◌+◌, ◌-◌, ℕ, Bool, true, false, refl, sym, ap, ◌∙◌, arith}
use mathlib.Core.Logic.{inl, inr, ◌⊎◌}
use Rattle.std.specs.Prelude.{Option, None, Some, is_some, IsTrue, Ok, Err, nat_lt, not, ◌&&◌}
use Rattle.std.proofs.lemmas.Bool.{cases_eq, cases_Bool, cond_both, cond-true, cond-false, ltb-true, ltb-false, lt-ltb, not-true}
use Rattle.lemmas.proofs.Bools.{false_not_true}
use Rattle.layout.specs.declared.Geometry.{Geometry}
use Rattle.errno.specs.declared.Errno.{Errno}
use Rattle.errno.specs.declared.Errno.TheVariants.{ENOSPC}
use Rattle.tree.specs.Tree.{Node, Tree, is_open, with_node, on_node}
use Rattle.tree.specs.Space.{zones_used, data_zones}
use Rattle.tree.specs.Changes.{has_no_link, without_nameless}
use Rattle.tree.specs.Answers.{Answer, Effect, if_it_fits}
use Rattle.lemmas.proofs.Maps.{put-same, put-other}
use Rattle.tree.specs.Room.{with_zones, NoInodeFree}
use Rattle.tree.proofs.Steps.{not_refused, ok_is}
use Rattle.tree.proofs.Outcomes.{Effects, IsClosed, is_enospc}
use Rattle.tree.proofs.Views.{view_kept}

-- some number of zones lets it leave a tree that uses more than there are
pub record IsTooBigIn (g : Geometry) (F : Effects) : Type 0 where
  pub zones : ℕ
  pub made : Answer × Tree
  pub is_made : F zones ≡ Ok made
  pub too_big : data_zones g < zones_used g made.1

-- no node is there that wasn't
abbrev pub IsNoMore : Tree → Tree → Type 0
IsNoMore u t = (m : ℕ) → IsTrue (is_some (u.nodes m)) → IsTrue (is_some (t.nodes m))

-- An effect that may or may not take room, or an inode.
pub record IsSpaced (g : Geometry) (t : Tree) (takes makes : Bool) (F : Effects) : Type 0 where
  pub fits : (made : Answer × Tree) → F g.zones ≡ Ok made → zones_used g t ≤ data_zones g → zones_used g made.1 ≤ data_zones g
  pub refused : (z : ℕ) (made : Answer × Tree) → F z ≡ Ok made → data_zones g < zones_used g made.1 → zones_used g t ≤ data_zones g → F g.zones ≡ Err ENOSPC
  pub why : F g.zones ≡ Err ENOSPC → (takes ≡ true) × (IsTooBigIn g F ⊎ ((makes ≡ true) × NoInodeFree g t))
  pub none_made : (makes ≡ true → NoInodeFree g t) → (z : ℕ) (made : Answer × Tree) → F z ≡ Ok made → IsNoMore made.1 t

-- an effect that refuses
abbrev refusal : Errno → Effect
refusal e = Err e

-- a step that isn't refused for want of room doesn't answer ENOSPC
pub plain_never : (e : Errno) → not (is_enospc e) ≡ true → refusal e ≡ refusal ENOSPC → ⊥
plain_never e plain h = false_not_true (sym (not-true _ plain) ∙ ap lacks_room h)
  where
    lacks_room : Effect → Bool
    lacks_room (Ok made) = false
    lacks_room (Err x) = is_enospc x

-- a step that asks for no room
pub spaced_closed : (g : Geometry) (t : Tree) (takes makes : Bool) → IsClosed (IsSpaced g t takes makes)
spaced_closed g t takes makes A (Ok x) f plain h = h x refl
spaced_closed g t takes makes A (Err e) f plain h = record {
  fits = λ made is. absurd (not_refused e made is);
  refused = λ z made is. absurd (not_refused e made is);
  why = λ is. absurd (plain_never e plain is);
  none_made = λ full z made is. absurd (not_refused e made is);
}

-- a success is no refusal
pub ok_never : {A : Type 0} (x : A) (e : Errno) → Ok x ≡ Err e → ⊥
ok_never x e h = not_refused e x (sym h)

-- an effect that takes nothing
pub spaced_ok : (g : Geometry) (t : Tree) (takes makes : Bool) (answer : ℕ → Answer) (after : Tree) → zones_used g after ≤ zones_used g t → IsNoMore after t
    → IsSpaced g t takes makes (λ z. Ok (answer z, after))
spaced_ok g t takes makes answer after less fewer = record {
  fits = λ made is bound. let same = ap (λ x. zones_used g x.1) (ok_is (answer g.zones, after) made (Ok (answer g.zones, after)) refl is) in omega (arith, less, bound, same);
  refused = λ z made is more bound. let same = ap (λ x. zones_used g x.1) (ok_is (answer z, after) made (Ok (answer z, after)) refl is) in absurd (omega (arith, less, bound, same, more));
  why = λ is. absurd (ok_never (answer g.zones, after) ENOSPC is);
  none_made = λ full z made is m h. fewer m (ap (λ x. is_some (x.1.nodes m)) (ok_is (answer z, after) made (Ok (answer z, after)) refl is) ∙ h);
}

-- one that is refused where its tree doesn't fit
module _ (g : Geometry) (t : Tree) (makes : Bool) (answer : Answer) (after : Tree) (none : (makes ≡ true → NoInodeFree g t) → IsNoMore after t) where
  abbrev F : Effects
  F z = if_it_fits (with_zones z g) answer after

  abbrev is_over : ℕ → Bool
  is_over z = nat_lt (data_zones (with_zones z g)) (zones_used g after)

  made_is : (z : ℕ) (made : Answer × Tree) → F z ≡ Ok made → (is_over z ≡ false) × ((answer, after) ≡ made)
  made_is z made is = elim (cases_Bool (is_over z)) [
    | inl over ↦ absurd (not_refused ENOSPC made (sym (cond-true (is_over z) (Err ENOSPC) (Ok (answer, after)) over) ∙ is))
    | inr fits ↦ (fits, ok_is (answer, after) made (Ok (answer, after)) refl (sym (cond-false (is_over z) (Err ENOSPC) (Ok (answer, after)) fits) ∙ is))
  ]

  pub spaced_fit : IsSpaced g t true makes F
  spaced_fit = record {
    fits = λ made is bound.
        let found = made_is g.zones made is in
        let below = ltb-false (data_zones g) (zones_used g after) found.0 in
        let same = ap (λ x. zones_used g x.1) found.1 in
        omega (arith, below, same);
    refused = λ z made is more bound.
        let same = ap (λ x. zones_used g x.1) (made_is z made is).1 in
        cond-true (is_over g.zones) (Err ENOSPC) (Ok (answer, after)) (lt-ltb (data_zones g) (zones_used g after) (omega (arith, same, more)));
    why = λ is. (
      refl,
      elim (cases_Bool (is_over g.zones)) [
        | inr fits ↦ absurd (ok_never (answer, after) ENOSPC (sym (cond-false (is_over g.zones) (Err ENOSPC) (Ok (answer, after)) fits) ∙ is))
        | inl over ↦ inl (record {
          zones = g.first_zone + zones_used g after;
          made = (answer, after);
          is_made = cond-false (is_over (g.first_zone + zones_used g after)) (Err ENOSPC) (Ok (answer, after)) (never_over (g.first_zone + zones_used g after) (omega arith));
          too_big = ltb-true (data_zones g) (zones_used g after) over;
        })
      ],
    );
    none_made = λ full z made is m h. none full m (ap (λ x. is_some (x.1.nodes m)) (made_is z made is).1 ∙ h);
  }
    where
      never_over : (z : ℕ) → zones_used g after ≤ z - g.first_zone → is_over z ≡ false
      never_over z l = elim (cases_Bool (is_over z)) [
        | inl t ↦ let below = ltb-true (z - g.first_zone) (zones_used g after) t in absurd (omega (arith, below, l))
        | inr f ↦ f
      ]

-- one for which no inode is free
pub spaced_full : (g : Geometry) (t : Tree) → NoInodeFree g t → IsSpaced g t true true (λ z. Err ENOSPC)
spaced_full g t full = record {
  fits = λ made is. absurd (not_refused ENOSPC made is);
  refused = λ z made is more bound. refl;
  why = λ is. (refl, inr (refl, full));
  none_made = λ _ z made is. absurd (not_refused ENOSPC made is);
}

-- Trees without a new node.

-- the tree itself
pub no_more_itself : (t : Tree) → IsNoMore t t
no_more_itself t m h = h

-- a node that is there
pub no_more_at : (t : Tree) (n : ℕ) (node : Node) (o : Option Node) → t.nodes n ≡ Some node → IsNoMore (with_node t n o) t
no_more_at t n node o there m h = elim (cases_eq m n) [
  | inl e ↦ ap (λ k. is_some (t.nodes k)) e ∙ ap is_some there
  | inr d ↦ sym (ap is_some (put-other t.nodes n o m d)) ∙ h
]

-- a node that is changed
pub no_more_on : (t u : Tree) (n : ℕ) (f : Node → Node) → IsNoMore u t → IsNoMore (on_node u n f) t
no_more_on t u n f old m h = old m (sym (view_kept is_some u n f (λ _. refl) m) ∙ h)

-- a node that goes
pub no_more_gone : (t u : Tree) (n : ℕ) → IsNoMore u t → IsNoMore (with_node u n None) t
no_more_gone t u n old m h = elim (cases_eq m n) [
  | inl e ↦ absurd (false_not_true (sym (ap is_some (ap (with_node u n None).nodes e ∙ put-same u.nodes n None)) ∙ h))
  | inr d ↦ old m (sym (ap is_some (put-other u.nodes n None m d)) ∙ h)
]

-- a nameless node that goes
pub no_more_nameless : (t u : Tree) (n : ℕ) → IsNoMore u t → IsNoMore (without_nameless u n) t
no_more_nameless t u n old =
    cond_both (has_no_link (u.nodes n) && not (is_open u n)) (with_node u n None) u (λ x. IsNoMore x t) (λ _. no_more_gone t u n old) (λ _. old)
