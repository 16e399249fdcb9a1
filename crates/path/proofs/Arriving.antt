-- Walks that follow links by calls of themselves: what a call answers is said for any parts that follow.
use Rattle.std.proofs.Common.{◌≡◌, ◌++◌, ℕ, suc, Bool, true, false, Option, Some, None, refl, sym, ap, ◌∙◌, []}
use Rattle.std.specs.Prelude.{List, ◌∷◌, Result, Ok, Err, IfOk, IsTrue, is_some}
use Rattle.std.proofs.lemmas.List.{append-nil}
use Rattle.errno.specs.declared.Errno.{Errno}
use Rattle.errno.specs.declared.Errno.TheVariants.{ENAMETOOLONG, ELOOP}
use Rattle.tree.specs.declared.Start.{Start}
use Rattle.tree.specs.declared.User.{User}
use Rattle.tree.specs.Names.{Name}
use Rattle.tree.specs.Tree.{Tree, target_of}
use Rattle.tree.specs.Refusals.{◌>>=◌, refuse_if}
use Rattle.tree.specs.Walk.{walk_from, start_of, follow_links, most_followed, has_long_part, parts_of}
use Rattle.path.specs.declared.step.Stand.{Stand}
use Rattle.path.specs.Walking.{StepsTo, Begins, Walks, IsThere, from, Arrives}
use Rattle.path.proofs.Going.{on, split}

-- One part.

-- so far as a step goes
led : (t : Tree) (user : User) (at : Stand) (part : Name) (r : Result ℕ Errno) → StepsTo t user at.here part r
    → (rest : List Name) → from t user at (part ∷ rest) ≡ (r >>= on t user (follow_links t user at.links) at.here rest)
led t user at part r steps rest =
    split t user (follow_links t user at.links) at.here part rest
    ∙ ap (λ (x : Result ℕ Errno). x >>= on t user (follow_links t user at.links) at.here rest) (sym steps.answer)

-- what follows, by the target
abbrev aimed : Tree → User → ℕ → ℕ → ℕ → List Name → Option (List ℕ) → Result ℕ Errno
aimed t user links here there rest o = elim o [
  | None ↦ walk_from t user (follow_links t user links) there rest
  | Some x ↦ follow_links t user links here x rest
]

-- a step that is refused
pub refused_here : (t : Tree) (user : User) (at : Stand) (part : Name) (e : Errno) → StepsTo t user at.here part (Err e)
    → Arrives t user at (part ∷ []) (Err e)
refused_here t user at part e steps = record { leads = led t user at part (Err e) steps; there = tt }

-- a step to no link
pub goes_on : (t : Tree) (user : User) (at : Stand) (part : Name) (there : ℕ) → StepsTo t user at.here part (Ok there)
    → target_of (t.nodes there) ≡ None
    → Arrives t user at (part ∷ []) (Ok (record { here = there; links = at.links }))
goes_on t user at part there steps none = record {
  leads = λ rest. led t user at part (Ok there) steps rest ∙ ap (aimed t user at.links at.here there rest) none;
  there = steps.there;
}

-- a link too many
pub looped : (t : Tree) (user : User) (at : Stand) (part : Name) (there : ℕ) (target : List ℕ) → at.links ≡ 0
    → StepsTo t user at.here part (Ok there)
    → target_of (t.nodes there) ≡ Some target → Arrives t user at (part ∷ []) (Err ELOOP)
looped t user at part there target none steps link = record {
  leads = λ rest. led t user at part (Ok there) steps rest ∙ ap (aimed t user at.links at.here there rest) link
      ∙ ap (λ (k : ℕ). follow_links t user k at.here target rest) none;
  there = tt;
}

-- a step to a link, as far as its target's lengths
linked : (t : Tree) (user : User) (at : Stand) (links : ℕ) (part : Name) (there : ℕ) (target : List ℕ) → at.links ≡ suc links
    → StepsTo t user at.here part (Ok there)
    → target_of (t.nodes there) ≡ Some target → (rest : List Name) → from t user at (part ∷ rest)
    ≡ (refuse_if (has_long_part target) ENAMETOOLONG >>= λ _. from t user (record { here = start_of at.here target; links = links })
    (parts_of target ++ rest))
linked t user at links part there target some steps link rest =
    led t user at part (Ok there) steps rest ∙ ap (aimed t user at.links at.here there rest) link
    ∙ ap (λ (k : ℕ). follow_links t user k at.here target rest) some

-- a target with a part that is too long
pub too_long : (t : Tree) (user : User) (at : Stand) (links : ℕ) (part : Name) (there : ℕ) (target : List ℕ) → at.links ≡ suc links
    → StepsTo t user at.here part (Ok there)
    → target_of (t.nodes there) ≡ Some target → has_long_part target ≡ true → Arrives t user at (part ∷ []) (Err ENAMETOOLONG)
too_long t user at links part there target some steps link long = record {
  leads = λ rest. linked t user at links part there target some steps link rest
      ∙ ap (λ (b : Bool). refuse_if b ENAMETOOLONG >>= λ _. from t user (record { here = start_of at.here target; links = links })
      (parts_of target ++ rest)) long;
  there = tt;
}

-- the target's parts lead on
pub follows : (t : Tree) (user : User) (at : Stand) (links : ℕ) (part : Name) (there : ℕ) (target : List ℕ) (r : Result Stand Errno)
    → at.links ≡ suc links
    → StepsTo t user at.here part (Ok there) → target_of (t.nodes there) ≡ Some target → has_long_part target ≡ false
    → Arrives t user (record { here = start_of at.here target; links = links }) (parts_of target) r → Arrives t user at (part ∷ []) r
follows t user at links part there target r some steps link short arrives = record {
  leads = λ rest. linked t user at links part there target some steps link rest
      ∙ ap (λ (b : Bool). refuse_if b ENAMETOOLONG >>= λ _. from t user (record { here = start_of at.here target; links = links })
      (parts_of target ++ rest)) short
      ∙ arrives.leads rest;
  there = arrives.there;
}

-- Part after part.

-- The parts that are left lead on from here.
pub record IsOnWay (t : Tree) (user : User) (first : Stand) (parts : List Name) (at : Stand) (left : List Name) : Type 0 where
  pub leads : (rest : List Name) → from t user first (parts ++ rest) ≡ from t user at (left ++ rest)
  pub there : IsTrue (is_some (t.nodes at.here))

-- at first all are left
pub at_first : (t : Tree) (user : User) (first : Stand) (parts : List Name) → IsTrue (is_some (t.nodes first.here))
    → IsOnWay t user first parts first parts
at_first t user first parts there = record { leads = λ rest. refl; there = there }

-- after a part the others are left
pub one_less : (t : Tree) (user : User) (first at next : Stand) (parts left others : List Name) (part : Name) → left ≡ part ∷ others
    → IsOnWay t user first parts at left → Arrives t user at (part ∷ []) (Ok next) → IsOnWay t user first parts next others
one_less t user first at next parts left others part is way arrives = record {
  leads = λ rest. way.leads rest ∙ ap (λ (ps : List Name). from t user at (ps ++ rest)) is ∙ arrives.leads (others ++ rest);
  there = arrives.there;
}

-- a refusal ends the walk
pub refused_there : (t : Tree) (user : User) (first at : Stand) (parts left others : List Name) (part : Name) (e : Errno)
    → left ≡ part ∷ others
    → IsOnWay t user first parts at left → Arrives t user at (part ∷ []) (Err e) → Arrives t user first parts (Err e)
refused_there t user first at parts left others part e is way arrives = record {
  leads = λ rest. way.leads rest ∙ ap (λ (ps : List Name). from t user at (ps ++ rest)) is ∙ arrives.leads (others ++ rest);
  there = tt;
}

-- and so do no parts
pub arrived : (t : Tree) (user : User) (first at : Stand) (parts left : List Name) → left ≡ [] → IsOnWay t user first parts at left
    → Arrives t user first parts (Ok at)
arrived t user first at parts left is way = record {
  leads = λ rest. way.leads rest
      ∙ ap (λ (ps : List Name). from t user at (ps ++ rest)) is;
  there = way.there;
}

-- A call from where the walk begins, with eight links, is the tree's walk.
pub is_walk : (t : Tree) (user : User) (start : Start) (here : ℕ) (parts : List Name) (r : Result Stand Errno)
    → Begins t user start (Ok here) → Arrives t user (record { here = here; links = most_followed }) parts r
    → Walks t user (record { start = start; parts = parts }) (r >>= λ s. Ok s.here)
is_walk t user start here parts r begins arrives = record {
  answer = sym (ap (λ (x : Result ℕ Errno). x >>= λ n. walk_from t user (follow_links t user most_followed) n parts) (sym begins.answer)
      ∙ ap (walk_from t user (follow_links t user most_followed) here) (sym (append-nil parts)) ∙ arrives.leads []);
  there = by r arrives.there;
}
  where
    by : (r : Result Stand Errno) → IfOk r (λ s. IsTrue (is_some (t.nodes s.here))) → IsThere t (r >>= λ s. Ok s.here)
    by (Ok s) h = h
    by (Err e) h = tt

-- and none begins where that is refused
pub not_begun : (t : Tree) (user : User) (start : Start) (parts : List Name) (e : Errno) → Begins t user start (Err e)
    → Walks t user (record { start = start; parts = parts }) (Err e)
not_begun t user start parts e begins = record {
  answer = ap (λ (x : Result ℕ Errno). x >>= λ n. walk_from t user (follow_links t user most_followed) n parts) begins.answer;
  there = tt;
}
