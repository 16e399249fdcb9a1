-- Walks: without links they are steps, and with links they end at none.
use Rattle.std.proofs.Common.{◌≡◌, ℕ, zero, suc, List, [], ◌∷◌, refl, sym, ap, subst, ◌∙◌}
use Rattle.std.specs.Prelude.{Bool, true, false, Option, None, Some, Result, Ok, Err, if◌then◌else◌, ◌++◌, not, is_some, IsTrue}
use Rattle.errno.specs.declared.Errno.{Errno}
use Rattle.errno.specs.declared.Errno.TheVariants.{ENOENT, EACCES, ENAMETOOLONG, ELOOP}
use Rattle.tree.specs.declared.Start.TheVariants.{Root, Inode}
use Rattle.tree.specs.declared.User.{User}
use Rattle.tree.specs.Names.{Name}
use Rattle.tree.specs.Tree.{Node, Tree, target_of, is_link_at, all_bytes}
use Rattle.tree.specs.Refusals.{◌>>=◌, or_refuse, refuse_if}
use Rattle.tree.specs.Walk.{Way, first_node, node_at, Follow, enter, next, walk_from, start_of, follow_links, walk_parts, most_followed, begins_with_slash, parts_of}
use Rattle.tree.specs.Walk.{has_long_part}
use Rattle.tree.specs.Laws.{steps_from, WalkWithoutLinks, WalkEndsAtNoLink, StartsGoOn}
use Rattle.std.proofs.lemmas.Bool.{eq-eqb}
use Rattle.lemmas.proofs.Bools.{false_not_true}

-- what is no link has no target
no_target : (o : Option Node) → (elim o [ None ↦ false | Some node ↦ node.symbolic ]) ≡ false → target_of o ≡ None
no_target None h = refl
no_target (Some node) h = ap (λ b. if b then Some (all_bytes node.body) else None) h

-- what has none is no link
no_link : (o : Option Node) → target_of o ≡ None → (elim o [ None ↦ false | Some node ↦ node.symbolic ]) ≡ false
no_link None h = refl
no_link (Some node) h = by_kind node.symbolic h
  where
    by_kind : (b : Bool) → (if b then Some (all_bytes node.body) else None) ≡ None → b ≡ false
    by_kind false e = refl
    by_kind true e = absurd (false_not_true (ap (λ o. elim o [ None ↦ true | Some x ↦ false ]) e))

-- a step of a walk goes on where both go on alike
goes_alike : {A : Type 0} (r : Result A Errno) (f g : A → Result ℕ Errno) → ((x : A) → f x ≡ g x) → (r >>= f) ≡ (r >>= g)
goes_alike (Ok x) f g h = h x
goes_alike (Err e) f g h = refl

module _ (t : Tree) (user : User) where
  -- one step, and then as a link says, or on
  abbrev on : Follow → ℕ → List Name → ℕ → Result ℕ Errno
  on follow here parts there = elim (target_of (t.nodes there)) [
    | None ↦ walk_from t user follow there parts
    | Some target ↦ follow here target parts
  ]

  module _ (none : (n : ℕ) → is_link_at t.nodes n ≡ false) where
    -- whatever a link would do
    pub without : (follow : Follow) (here : ℕ) (parts : List Name) → walk_from t user follow here parts ≡ steps_from t user here parts
    without follow here [] = refl
    without follow here (part ∷ parts) =
        goes_alike (enter user (t.nodes here)) (λ dir. next here dir.0 dir.1 part >>= on follow here parts)
        (λ dir. next here dir.0 dir.1 part >>= λ there. steps_from t user there parts) (λ dir.
        goes_alike (next here dir.0 dir.1 part) (on follow here parts) (λ there. steps_from t user there parts) (λ there.
        ap (λ o. elim o [ None ↦ walk_from t user follow there parts | Some target ↦ follow here target parts ])
        (no_target (t.nodes there) (none there))
        ∙ without follow there parts))

-- the first law
pub walk_without_links : WalkWithoutLinks
walk_without_links t user way none =
    goes_alike (first_node t user way.start) (λ here. walk_from t user (follow_links t user most_followed) here way.parts)
    (λ here. steps_from t user here way.parts) (λ here. without t user none (follow_links t user most_followed) here way.parts)

-- What is so of the ends of walks: of each refusal, and of a node that is reached where it was so of the node before or the step
-- shows it. `At` is said of nodes, `Ends` of results.
pub record IsKeptByWalks (t : Tree) (user : User) (At : ℕ → Type 0) (Ends : Result ℕ Errno → Type 0) : Type 0 where
  pub root : At 1
  pub steps : (here there : ℕ) (part : Name) → At here → (enter user (t.nodes here) >>= λ dir. next here dir.0 dir.1 part) ≡ Ok there
      → target_of (t.nodes there) ≡ None → At there
  pub refused : (here : ℕ) (part : Name) (e : Errno) → (enter user (t.nodes here) >>= λ dir. next here dir.0 dir.1 part) ≡ Err e
      → Ends (Err e)
  pub looping : Ends (Err ELOOP)
  pub long : Ends (Err ENAMETOOLONG)
  pub reached : (here : ℕ) → At here → Ends (Ok here)

module _ (t : Tree) (user : User) (At : ℕ → Type 0) (Ends : Result ℕ Errno → Type 0) (kept : IsKeptByWalks t user At Ends) where
  -- the step to a part
  abbrev step : ℕ → Name → Result ℕ Errno
  step here part = enter user (t.nodes here) >>= λ dir. next here dir.0 dir.1 part

  -- what follows of links is so
  abbrev Follows : Follow → Type 0
  Follows follow = (here : ℕ) (target : List ℕ) (parts : List Name) → At here → Ends (follow here target parts)

  -- a walk is two steps as one
  as_one : (here : ℕ) (part : Name) (f : ℕ → Result ℕ Errno) → (step here part >>= f)
      ≡ (enter user (t.nodes here) >>= λ dir. next here dir.0 dir.1 part >>= f)
  as_one here part f = elim (enter user (t.nodes here)) as (λ r. ((r >>= λ dir. next here dir.0 dir.1 part) >>= f)
      ≡ (r >>= λ dir. next here dir.0 dir.1 part >>= f)) [
        | Ok dir ↦ refl
        | Err e ↦ refl
      ]

  -- of a walk, where it is so of what follows of links
  from_here : (follow : Follow) → Follows follow → (here : ℕ) (parts : List Name) → At here → Ends (walk_from t user follow here parts)
  from_here follow ok here [] at = kept.reached here at
  from_here follow ok here (part ∷ parts) at = subst Ends (as_one here part (on t user follow here parts))
      (stepped (λ there. from_here follow ok there parts) (step here part) refl)
    where
      -- with a target the link goes on, without one the walk does
      aimed : (there : ℕ) → step here part ≡ Ok there → (At there → Ends (walk_from t user follow there parts)) → (o : Option (List ℕ))
          → target_of (t.nodes there) ≡ o
          → Ends (elim o [ None ↦ walk_from t user follow there parts | Some target ↦ follow here target parts ])
      aimed there e rest None none = rest (kept.steps here there part at e none)
      aimed there e rest (Some target) some = ok here target parts at

      stepped : ((there : ℕ) → At there → Ends (walk_from t user follow there parts)) → (r : Result ℕ Errno) → step here part ≡ r
          → Ends (r >>= on t user follow here parts)
      stepped rest (Err e) is = kept.refused here part e is
      stepped rest (Ok there) is = aimed there is (rest there) (target_of (t.nodes there)) refl

  -- of what follows of k links
  following : (k : ℕ) → Follows (follow_links t user k)
  following zero here target parts at = kept.looping
  following (suc k) here target parts at =
      elim (has_long_part target) as (λ b. Ends (refuse_if b ENAMETOOLONG
      >>= λ _. walk_from t user (follow_links t user k) (start_of here target) (parts_of target ++ parts))) [
        | true ↦ kept.long
        | false ↦ from_here (follow_links t user k) (following k) (start_of here target) (parts_of target ++ parts)
            (elim (begins_with_slash target) as (λ b. At (if b then 1 else here)) [ true ↦ kept.root | false ↦ at ])
      ]

  -- so of each walk that begins where it is so
  pub walks_keep : (way : Way) → ((n : ℕ) → first_node t user way.start ≡ Ok n → At n)
      → ((e : Errno) → first_node t user way.start ≡ Err e → Ends (Err e)) → Ends (walk_parts t user way)
  walks_keep way at unbegun = begun (first_node t user way.start) refl
    where
      begun : (r : Result ℕ Errno) → first_node t user way.start ≡ r
          → Ends (r >>= λ here. walk_from t user (follow_links t user most_followed) here way.parts)
      begun (Ok here) is = from_here (follow_links t user most_followed) (following most_followed) here way.parts (at here is)
      begun (Err e) is = unbegun e is

-- the second law
pub walk_ends_at_no_link : WalkEndsAtNoLink
walk_ends_at_no_link t user way n root first is =
    walks_keep t user (λ m. is_link_at t.nodes m ≡ false) (λ r. r ≡ Ok n → is_link_at t.nodes n ≡ false) (record {
      root = root;
      steps = λ here there part at e none. no_link (t.nodes there) none;
      refused = λ here part e h is. absurd (false_not_true (ap (λ r. elim r [ Ok x ↦ true | Err e ↦ false ]) is));
      looping = λ is. absurd (false_not_true (ap (λ r. elim r [ Ok x ↦ true | Err e ↦ false ]) is));
      long = λ is. absurd (false_not_true (ap (λ r. elim r [ Ok x ↦ true | Err e ↦ false ]) is));
      reached = λ here at is. subst (λ m. is_link_at t.nodes m ≡ false) (ap (λ r. elim r [ Ok x ↦ x | Err e ↦ here ]) is) at;
    }) way first (λ e h is. absurd (false_not_true (ap (λ r. elim r [ Ok x ↦ true | Err e ↦ false ]) is))) is

-- a step after two is one after the second
in_turn : {A B C : Type 0} (r : Result A Errno) (f : A → Result B Errno) (h : B → Result C Errno) → ((r >>= f) >>= h) ≡ (r >>= λ x. f x >>= h)
in_turn (Ok x) f h = refl
in_turn (Err e) f h = refl

-- the steps of some parts and then of others
steps_on : (t : Tree) (user : User) (here : ℕ) (first rest : List Name)
    → steps_from t user here (first ++ rest) ≡ (steps_from t user here first >>= λ n. steps_from t user n rest)
steps_on t user here [] rest = refl
steps_on t user here (part ∷ parts) rest =
    goes_alike (enter user (t.nodes here)) (λ dir. next here dir.0 dir.1 part >>= λ there. steps_from t user there (parts ++ rest))
    (λ dir. (next here dir.0 dir.1 part >>= λ there. steps_from t user there parts) >>= λ n. steps_from t user n rest) (λ dir.
    goes_alike (next here dir.0 dir.1 part) (λ there. steps_from t user there (parts ++ rest))
    (λ there. steps_from t user there parts >>= λ n. steps_from t user n rest) (λ there. steps_on t user there parts rest)
    ∙ sym (in_turn (next here dir.0 dir.1 part) (λ there. steps_from t user there parts) (λ n. steps_from t user n rest)))
    ∙ sym (in_turn (enter user (t.nodes here)) (λ dir. next here dir.0 dir.1 part >>= λ there. steps_from t user there parts)
    (λ n. steps_from t user n rest))

-- user 0 starts at any node that is there
starts_there : (t : Tree) (user : User) (n : ℕ) → user.uid ≡ 0 → IsTrue (is_some (t.nodes n)) → first_node t user (Inode n) ≡ Ok n
starts_there t user n zeroth there =
    ap (λ b. refuse_if (not b) EACCES >>= λ _. node_at t n >>= λ _. Ok n) (eq-eqb user.uid 0 zeroth) ∙ by_node (t.nodes n) there
  where
    by_node : (o : Option Node) → IsTrue (is_some o) → (or_refuse o ENOENT >>= λ _. Ok n) ≡ Ok n
    by_node None h = absurd (false_not_true h)
    by_node (Some x) h = refl

-- the law of starts
pub starts_go_on : StartsGoOn
starts_go_on t user first rest n zeroth there none is =
    walk_without_links t user (record { start = Inode n; parts = rest }) none
    ∙ ap (λ r. r >>= λ here. steps_from t user here rest) (starts_there t user n zeroth there)
    ∙ sym (walk_without_links t user (record { start = Root; parts = first ++ rest }) none
    ∙ steps_on t user 1 first rest
    ∙ ap (λ r. r >>= λ m. steps_from t user m rest) (sym (walk_without_links t user (record { start = Root; parts = first }) none) ∙ is))
