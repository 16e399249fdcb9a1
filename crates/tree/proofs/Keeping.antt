-- Effects that keep a tree a tree.
use Rattle.std.proofs.Common.{◌≤◌, ◌<◌, refl, ℕ}
use Rattle.std.specs.Prelude.{Ok, Err, nat_le, nat_lt}
use Rattle.std.proofs.lemmas.Bool.{leb-false, ltb-false, cond_both}
use Rattle.layout.specs.declared.Geometry.{Geometry}
use Rattle.errno.specs.declared.Errno.TheVariants.{EINVAL, ENOSPC}
use Rattle.tree.specs.declared.Who.{Who}
use Rattle.tree.specs.declared.Call.{Call}
use Rattle.tree.specs.Tree.{Tree, most_sessions}
use Rattle.tree.specs.IsTree.{IsTree}
use Rattle.tree.specs.Space.{zones_used, data_zones}
use Rattle.tree.specs.Refusals.{refuse_if}
use Rattle.tree.specs.Answers.{Answer, Effect, if_it_fits}
use Rattle.tree.specs.Effects.{effect_in_session, tree_after_call}
use Rattle.tree.specs.Room.{with_zones}
use Rattle.tree.proofs.Steps.{tree_after, passed}
use Rattle.tree.proofs.Outcomes.{Effects, IsClosed, plain_refuse}

-- the effect keeps a tree a tree, on the volume as it is
abbrev pub Keeps : Geometry → Tree → Effects → Type 0
Keeps g t F = IsTree g (tree_after t (F g.zones))

-- a step keeps a tree a tree where each of its values does
pub keeps_closed : (g : Geometry) (t : Tree) → IsTree g t → IsClosed (Keeps g t)
keeps_closed g t base A (Ok x) f plain h = h x refl
keeps_closed g t base A (Err e) f plain h = base

-- what is kept on each number of zones is kept on the volume as it is
pub as_it_is : (g : Geometry) (t : Tree) (F : Geometry → Effect) → Keeps g t (λ z. F (with_zones z g)) → IsTree g (tree_after t (F g))
as_it_is g t F h = h

-- a call in a session that may be
pub in_session : (g : Geometry) (t : Tree) (who : Who) (now : ℕ) (call : Call) → IsTree g t
    → (who.session < most_sessions → IsTree g (tree_after t (effect_in_session g t who now call))) → IsTree g (tree_after_call g t who now call)
in_session g t who now call base h =
    keeps_closed g t base _ (refuse_if (nat_le most_sessions who.session) EINVAL) (λ _ z. effect_in_session g t who now call) (plain_refuse _ _ refl) (λ x allowed.
    h (leb-false most_sessions who.session (passed _ _ x allowed)))

-- a tree that is refused where it doesn't fit; where it is taken, it fits
pub taken_if_it_fits : (g : Geometry) (t : Tree) (a : Answer) (after : Tree) → IsTree g t → (zones_used g after ≤ data_zones g → IsTree g after)
    → IsTree g (tree_after t (if_it_fits g a after))
taken_if_it_fits g t a after base h = cond_both (nat_lt (data_zones g) (zones_used g after)) (Err ENOSPC) (Ok (a, after)) (λ o. IsTree g (tree_after t o))
    (λ _. base) (λ fits. h (ltb-false (data_zones g) (zones_used g after) fits))
