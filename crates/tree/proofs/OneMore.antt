-- What a call does where no inode is free, beside what it would do with one more.
use Rattle.std.proofs.Common.{◌≡◌, ◌+◌, ℕ, zero, suc, false, refl, sym, ap, ◌∙◌, arith}
use mathlib.Core.Logic.{inl, inr}
use Rattle.std.specs.Prelude.{None, is_some, IsTrue, Ok, Err, nat_lt}
use Rattle.std.proofs.lemmas.Bool.{cases_Bool, cond-false, ltb-true}
use Rattle.lemmas.proofs.Bools.{false_not_true}
use Rattle.layout.specs.declared.Geometry.{Geometry}
use Rattle.errno.specs.declared.Errno.TheVariants.{ENOSPC}
use Rattle.tree.specs.Tree.{Tree}
use Rattle.tree.specs.Space.{zones_used, data_zones}
use Rattle.tree.specs.Refusals.{◌>>=◌}
use Rattle.tree.specs.Changes.{free_inode}
use Rattle.tree.specs.Answers.{Answer, if_it_fits}
use Rattle.tree.specs.Room.{with_one_inode_more, NoInodeFree}
use Rattle.tree.proofs.Steps.{not_refused, ok_is}
use Rattle.tree.proofs.Outcomes.{Effects, IsClosed, IsFree, free_inode_is}
use Rattle.tree.proofs.Spaced.{IsNoMore, plain_never, ok_never}

-- the volume first, and then that with one inode more, for each number of zones
abbrev pub volumes : Geometry → ℕ → Geometry
volumes g zero = g
volumes g (suc z) = with_one_inode_more z g

-- with one inode more, and some number of zones, a node is made
pub record MakesNode (t : Tree) (F : Effects) : Type 0 where
  pub zones : ℕ
  pub made : Answer × Tree
  pub is_made : F (suc zones) ≡ Ok made
  pub node : ℕ
  pub is_there : IsTrue (is_some (made.1.nodes node))
  pub is_new : t.nodes node ≡ None

-- what makes a node with one inode more is refused, and is refused for nothing else
pub record WantsInode (g : Geometry) (t : Tree) (F : Effects) : Type 0 where
  pub refused : MakesNode t F → F 0 ≡ Err ENOSPC
  pub makes : t.nodes (g.inodes + 1) ≡ None → F 0 ≡ Err ENOSPC → MakesNode t F

-- a node that wasn't there isn't made where no more are there
none_new : (t u : Tree) (n : ℕ) → IsNoMore u t → IsTrue (is_some (u.nodes n)) → t.nodes n ≡ None → ⊥
none_new t u n fewer there new = false_not_true (sym (ap is_some new) ∙ fewer n there)

-- a step that asks for no room
pub wants_closed : (g : Geometry) (t : Tree) → IsClosed (WantsInode g t)
wants_closed g t A (Ok x) f plain h = h x refl
wants_closed g t A (Err e) f plain h = record {
  refused = λ more. absurd (not_refused e more.made more.is_made);
  makes = λ none is. absurd (plain_never e plain is);
}

-- a success that makes no node
pub wants_none : (g : Geometry) (t : Tree) (answer : Answer) (after : ℕ → Tree) → ((z : ℕ) → IsNoMore (after z) t) → WantsInode g t (λ z. Ok (answer, after z))
wants_none g t answer after fewer = record {
  refused = λ more.
      let same = ok_is (answer, after (suc more.zones)) more.made (Ok (answer, after (suc more.zones))) refl more.is_made in
      absurd (none_new t (after (suc more.zones)) more.node (fewer (suc more.zones)) (ap (λ x. is_some (x.1.nodes more.node)) same ∙ more.is_there) more.is_new);
  makes = λ none is. absurd (ok_never (answer, after 0) ENOSPC is);
}

-- A node that is made, once there is an inode for it.
module _ (g : Geometry) (t : Tree) (full : NoInodeFree g t) (answer : Answer) (after : ℕ → Tree) (there : (n : ℕ) → IsTrue (is_some ((after n).nodes n))) where
  abbrev F : Effects
  F z = free_inode (volumes g z) t >>= λ n. if_it_fits (volumes g z) answer (after n)

  -- no inode is free on the volume
  refused_here : F 0 ≡ Err ENOSPC
  refused_here = elim (free_inode_is g t) [
    | inl none ↦ ap (λ r. r >>= λ n. if_it_fits g answer (after n)) none.0
    | inr free ↦ absurd (false_not_true (sym (ap is_some free.2.nothing) ∙ full free.0 free.2.from free.2.to))
  ]

  -- the volume with one inode more, and zones for a tree
  abbrev larger : ℕ → Geometry
  larger n = with_one_inode_more (g.first_zone + zones_used (with_one_inode_more 0 g) (after n)) g

  fits : (n : ℕ) → nat_lt (data_zones (larger n)) (zones_used (larger n) (after n)) ≡ false
  fits n = elim (cases_Bool (nat_lt (data_zones (larger n)) (zones_used (larger n) (after n)))) [
    | inl over ↦ let below = ltb-true (data_zones (larger n)) (zones_used (larger n) (after n)) over in absurd (omega (arith, below))
    | inr f ↦ f
  ]

  made_there : (n : ℕ) → free_inode (with_one_inode_more 0 g) t ≡ Ok n → IsFree (with_one_inode_more 0 g) t n → MakesNode t F
  made_there n is free = record {
    zones = g.first_zone + zones_used (with_one_inode_more 0 g) (after n);
    made = (answer, after n);
    is_made = ap (λ r. r >>= λ m. if_it_fits (larger n) answer (after m)) is
        ∙ cond-false (nat_lt (data_zones (larger n)) (zones_used (larger n) (after n))) (Err ENOSPC) (Ok (answer, after n)) (fits n);
    node = n;
    is_there = there n;
    is_new = free.nothing;
  }

  pub wants_inode : WantsInode g t F
  wants_inode = record {
    refused = λ more. refused_here;
    makes = λ none is. elim (free_inode_is (with_one_inode_more 0 g) t) [
      | inl no_more ↦ absurd (false_not_true (sym (ap is_some none) ∙ no_more.1 (g.inodes + 1) (omega arith) (omega arith)))
      | inr free ↦ made_there free.0 free.1 free.2
    ];
  }
