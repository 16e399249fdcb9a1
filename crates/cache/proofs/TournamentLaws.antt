-- Tournaments: who wins at the root, and what is played anew after the key of a place was changed.
use Rattle.std.proofs.Common.{◌≡◌, ◌≢◌, ℕ, zero, suc, ◌+◌, ◌-◌, ◌*◌, ◌/◌, ◌^◌, ◌<◌, ◌≤◌, List, [], ◌∷◌, length, set, get_or, length-set}
use Rattle.std.proofs.Common.{cond, Bool, true, refl, sym, ap, subst, ◌∙◌, arith}
use mathlib.Core.Logic.{inl, inr, ◌⊎◌}
use Rattle.std.specs.Prelude.{nat_lt, not, ◌&&◌, ◌==◌}
use Rattle.std.specs.Bool.{OnTrue}
use Rattle.std.proofs.lemmas.List.Sums.{sum_by-cons, sum_by-set, get_or-le-sum_by}
use Rattle.std.proofs.lemmas.Bool.{cases_eq, cases_lt, cond-true, cond-false, lt-ltb, ltb-true, eqb-true}
use Rattle.lemmas.proofs.Bools.{and_left, and_right}
use Rattle.lemmas.proofs.Numbers.{less_fails}
use Rattle.cache.specs.Winners.{winner, is_late, late_count, IsBest, IsTree, WasTree, IsLowest, IsNoneLate, IsSomeLate}
use Rattle.cache.proofs.Order.{set_same, set_other}

-- ---- the way up

-- a number halved so often
abbrev half : ℕ → ℕ → ℕ
half zero c = c
half (suc j) c = half j (c / 2)

-- i is c, or a node above it
pub record IsAbove (i c : ℕ) : Type 0 where
  pub halvings : ℕ
  pub is : half halvings c ≡ i

half_last : (j c : ℕ) → half j (c / 2) ≡ half j c / 2
half_last zero c = refl
half_last (suc j) c = half_last j (c / 2)

half_le : (j c : ℕ) → half j c ≤ c
half_le zero c = omega arith
half_le (suc j) c = let h = half_le j (c / 2) in omega arith

above_self : (c : ℕ) → IsAbove c c
above_self c = record { halvings = 0; is = refl }

above_from : (i c : ℕ) → IsAbove i (c / 2) → IsAbove i c
above_from i c a = record { halvings = suc a.halvings; is = a.is }

above_up : (i c : ℕ) → IsAbove i c → IsAbove (i / 2) c
above_up i c a = record { halvings = suc a.halvings; is = half_last a.halvings c ∙ ap (λ (k : ℕ). k / 2) a.is }

above_both : (i c : ℕ) → IsAbove i c → IsAbove (i / 2) (c / 2)
above_both i c a = record { halvings = a.halvings; is = half_last a.halvings c ∙ ap (λ (k : ℕ). k / 2) a.is }

above_all : (j i c : ℕ) → IsAbove i c → IsAbove (half j i) c
above_all zero i c a = a
above_all (suc j) i c a = above_all j (i / 2) c (above_up i c a)

above_le : (i c : ℕ) → IsAbove i c → i ≤ c
above_le i c a = let h = half_le a.halvings c in let e = a.is in omega arith

above_next : (i c : ℕ) → IsAbove i c → (i ≡ c) ⊎ IsAbove i (c / 2)
above_next i c a = by a.halvings a.is
  where
    by : (j : ℕ) → half j c ≡ i → (i ≡ c) ⊎ IsAbove i (c / 2)
    by zero e = inl (sym e)
    by (suc j) e = inr (record { halvings = j; is = e })

-- of two children of one node one alone is on the way
one_child : (j k c : ℕ) → half j c / 2 ≡ half k c / 2 → 0 < half j c / 2 → half j c ≡ half k c
one_child zero zero c e some = refl
one_child zero (suc k) c e some = let h = half_le k (c / 2) in absurd (let q : ⊥ = omega arith in q)
one_child (suc j) zero c e some = let h = half_le j (c / 2) in absurd (let q : ⊥ = omega arith in q)
one_child (suc j) (suc k) c e some = one_child j k (c / 2) e some

above_one : (d e c : ℕ) → IsAbove d c → IsAbove e c → d / 2 ≡ e / 2 → 0 < d / 2 → d ≡ e
above_one d e c a b same some =
    sym a.is ∙ one_child a.halvings b.halvings c (ap (λ (k : ℕ). k / 2) a.is ∙ same ∙ ap (λ (k : ℕ). k / 2) (sym b.is))
    (subst (λ (k : ℕ). 0 < k / 2) (sym a.is) some) ∙ b.is

-- the halves of a node's children
left_half : (i : ℕ) → 2 * i / 2 ≡ i
left_half i = omega arith

right_half : (i : ℕ) → (2 * i + 1) / 2 ≡ i
right_half i = omega arith

-- ---- who wins

win_node : (nodes : List ℕ) (c : ℕ) → c < length nodes → winner nodes c ≡ get_or nodes c 0
win_node nodes c lt = cond-true (nat_lt c (length nodes)) (get_or nodes c 0) (c - length nodes) (lt-ltb c (length nodes) lt)

win_leaf : (nodes : List ℕ) (c : ℕ) → length nodes ≤ c → winner nodes c ≡ c - length nodes
win_leaf nodes c le = cond-false (nat_lt c (length nodes)) (get_or nodes c 0) (c - length nodes) (less_fails c (length nodes) le)

-- at one of a node's children the best place wins
either : (keys nodes : List ℕ) (i at : ℕ) → IsBest keys nodes i at → (at ≡ winner nodes (2 * i)) ⊎ (at ≡ winner nodes (2 * i + 1))
either keys nodes i at b = elim (cases_eq at (winner nodes (2 * i))) [
  | inl e ↦ inl e
  | inr ne ↦ inr (b.one ne)
]

-- the winners are places
pub win_in : (nodes : List ℕ) (c : ℕ) → ((i : ℕ) → i < length nodes → get_or nodes i 0 < length nodes) → c < 2 * length nodes
    → winner nodes c < length nodes
win_in nodes c h lt = elim (cases_lt c (length nodes)) [
  | inl less ↦ subst (λ (k : ℕ). k < length nodes) (sym (win_node nodes c less)) (h c less)
  | inr le ↦ subst (λ (k : ℕ). k < length nodes) (sym (win_leaf nodes c le)) (omega arith)
]

-- the key at the root is as low as each
root_below : (keys nodes : List ℕ) (m c : ℕ) → IsTree keys nodes → c ≤ m → 0 < c → c < 2 * length nodes
    → get_or keys (winner nodes 1) 0 ≤ get_or keys (winner nodes c) 0
root_below keys nodes zero c t le some lt = absurd (let q : ⊥ = omega arith in q)
root_below keys nodes (suc m) c t le some lt = elim (cases_eq c 1) [
  | inl e ↦ subst (λ (k : ℕ). get_or keys (winner nodes 1) 0 ≤ get_or keys (winner nodes k) 0) (sym e) (omega arith)
  | inr ne ↦
      let p : 0 < c / 2 = omega arith in
      let in_range : c / 2 < length nodes = omega arith in
      let up = root_below keys nodes m (c / 2) t (omega arith) p (omega arith) in
      let here = ap (λ (k : ℕ). get_or keys k 0) (win_node nodes (c / 2) in_range) in
      let b = t.each (c / 2) p in_range in
      elim (cases_eq c (2 * (c / 2))) [
        | inl even ↦
            subst (λ (k : ℕ). get_or keys (winner nodes 1) 0 ≤ get_or keys (winner nodes k) 0) (sym even)
            (let l = b.left in omega (arith, up, here, l))
        | inr odd ↦
            let is : c ≡ 2 * (c / 2) + 1 = omega arith in
            subst (λ (k : ℕ). get_or keys (winner nodes 1) 0 ≤ get_or keys (winner nodes k) 0) (sym is)
            (let l = b.right in omega (arith, up, here, l))
      ]
]

pub root_least : (keys nodes : List ℕ) (at : ℕ) → IsTree keys nodes → 0 < length keys → at ≡ winner nodes 1 → IsLowest keys at
root_least keys nodes at t some is = record {
  in_range = let c = t.count in let h = win_in nodes 1 t.within (omega arith) in omega (arith, h, is, c);
  least = λ i lt.
      let c = t.count in
      let h = root_below keys nodes (length nodes + i) (length nodes + i) t (omega arith) (omega arith) (omega arith) in
      let leaf : winner nodes (length nodes + i) ≡ i = win_leaf nodes (length nodes + i) (omega arith) ∙ omega arith in
      subst (λ (k : ℕ). get_or keys k 0 ≤ get_or keys i 0) (sym is)
      (subst (λ (k : ℕ). get_or keys (winner nodes 1) 0 ≤ get_or keys k 0) leaf h);
}

-- a place wins on the way up from its leaf alone
won_leaf : (nodes : List ℕ) (at c : ℕ) → length nodes ≤ c → winner nodes c ≡ at → IsAbove c (length nodes + at)
won_leaf nodes at c le is =
    let e : c ≡ length nodes + at = (let z = win_leaf nodes c le in omega arith) in
    subst (λ (k : ℕ). IsAbove k (length nodes + at)) (sym e) (above_self (length nodes + at))

won_child : (nodes : List ℕ) (at c k : ℕ) → c < length nodes → k / 2 ≡ c → get_or nodes c 0 ≡ winner nodes k → winner nodes c ≡ at
    → (winner nodes k ≡ at → IsAbove k (length nodes + at)) → IsAbove c (length nodes + at)
won_child nodes at c k lt up e is h =
    subst (λ (i : ℕ). IsAbove i (length nodes + at)) up
    (above_up k (length nodes + at) (h (sym e ∙ sym (win_node nodes c lt) ∙ is)))

won_above : (keys nodes : List ℕ) (at m c : ℕ) → IsTree keys nodes → length nodes ≤ c + m → 0 < c → winner nodes c ≡ at
    → IsAbove c (length nodes + at)
won_above keys nodes at zero c t le some is = won_leaf nodes at c (omega arith) is
won_above keys nodes at (suc m) c t le some is = elim (cases_lt c (length nodes)) [
  | inr leaf ↦ won_leaf nodes at c leaf is
  | inl lt ↦ elim (either keys nodes c (get_or nodes c 0) (t.each c some lt)) [
    | inl e ↦
        won_child nodes at c (2 * c) lt (left_half c) e is (λ w. won_above keys nodes at m (2 * c) t (omega arith) (omega arith) w)
    | inr e ↦
        won_child nodes at c (2 * c + 1) lt (right_half c) e is
        (λ w. won_above keys nodes at m (2 * c + 1) t (omega arith) (omega arith) w)
  ]
]

-- ---- a key is changed

-- the best place stays the best where the key of none that wins there was changed
same_best : (before keys nodes : List ℕ) (at i w : ℕ) → ((k : ℕ) → (k ≡ at → ⊥) → get_or before k 0 ≡ get_or keys k 0)
    → w ≢ at → winner nodes (2 * i) ≢ at → winner nodes (2 * i + 1) ≢ at → IsBest before nodes i w → IsBest keys nodes i w
same_best before keys nodes at i w others wa la ra b =
    let x = others w wa in
    let y = others (winner nodes (2 * i)) la in
    let z = others (winner nodes (2 * i + 1)) ra in
    record {
      one = b.one;
      left = let l = b.left in omega (arith, x, y, l);
      right = let r = b.right in omega (arith, x, z, r);
    }

-- another node is played anew
win_other : (nodes : List ℕ) (node w c : ℕ) → c ≢ node → winner (set nodes node w) c ≡ winner nodes c
win_other nodes node w c ne =
    ap (λ (n : ℕ). cond (nat_lt c n) (get_or (set nodes node w) c 0) (c - n)) (length-set nodes node w)
    ∙ ap (λ (x : ℕ). cond (nat_lt c (length nodes)) x (c - length nodes)) (set_other nodes node c w ne)

set_best : (keys nodes : List ℕ) (node w i at : ℕ) → 2 * i ≢ node → 2 * i + 1 ≢ node → IsBest keys nodes i at
    → IsBest keys (set nodes node w) i at
set_best keys nodes node w i at ln rn b =
    let l = win_other nodes node w (2 * i) ln in
    let r = win_other nodes node w (2 * i + 1) rn in
    record {
      one = λ ne. b.one (λ e. ne (e ∙ sym l)) ∙ sym r;
      left = subst (λ (k : ℕ). get_or keys at 0 ≤ get_or keys k 0) (sym l) b.left;
      right = subst (λ (k : ℕ). get_or keys at 0 ≤ get_or keys k 0) (sym r) b.right;
    }

-- all nodes are played but those from this one up, on the way from the leaf of the place whose key was changed
pub record Playing (n at node : ℕ) (before keys nodes : List ℕ) : Type 0 where
  pub count : length nodes ≡ n
  pub paired : length keys ≡ n
  pub within : (i : ℕ) → i < n → get_or nodes i 0 < n
  pub node_in : node < n
  pub others : (i : ℕ) → (i ≡ at → ⊥) → get_or before i 0 ≡ get_or keys i 0
  pub way : IsAbove node (n + at)
  pub won : (c : ℕ) → 0 < c → winner nodes c ≡ at → IsAbove c (n + at)
  pub each : (i : ℕ) → 0 < i → i < n → IsBest keys nodes i (get_or nodes i 0) ⊎ IsAbove i node
  pub above : (i : ℕ) → 0 < i → IsAbove i (node / 2) → IsBest before nodes i (get_or nodes i 0)

-- the first one is above the leaf
pub playing_begun : (at node : ℕ) (before keys nodes : List ℕ) → length before ≡ length keys
    → ((i : ℕ) → (i ≡ at → ⊥) → get_or before i 0 ≡ get_or keys i 0) → IsTree before nodes → at < length keys
    → node ≡ (length nodes + at) / 2 → Playing (length nodes) at node before keys nodes
playing_begun at node before keys nodes paired others t lt first =
    subst (λ (k : ℕ). Playing (length nodes) at k before keys nodes) (sym first) begun
  where
    leaf : ℕ
    leaf = length nodes + at

    won : (c : ℕ) → 0 < c → winner nodes c ≡ at → IsAbove c leaf
    won c some is = won_above before nodes at (length nodes) c t (omega arith) some is

    -- the nodes at which it wins, or at a child of which
    here : (i : ℕ) → 0 < i → i < length nodes → get_or nodes i 0 ≡ at → IsAbove i (leaf / 2)
    here i some in_range is = elim (above_next i leaf (won i some (win_node nodes i in_range ∙ is))) [
      | inl e ↦ absurd (let q : ⊥ = omega arith in q)
      | inr a ↦ a
    ]

    child : (i k : ℕ) → 0 < k → k / 2 ≡ i → winner nodes k ≡ at → IsAbove i (leaf / 2)
    child i k some up is = subst (λ (j : ℕ). IsAbove j (leaf / 2)) up (above_both k leaf (won k some is))

    each : (i : ℕ) → 0 < i → i < length nodes → IsBest keys nodes i (get_or nodes i 0) ⊎ IsAbove i (leaf / 2)
    each i some in_range = elim (cases_eq (get_or nodes i 0) at) [
      | inl e ↦ inr (here i some in_range e)
      | inr ne ↦ elim (cases_eq (winner nodes (2 * i)) at) [
        | inl e ↦ inr (child i (2 * i) (omega arith) (left_half i) e)
        | inr nl ↦ elim (cases_eq (winner nodes (2 * i + 1)) at) [
          | inl e ↦ inr (child i (2 * i + 1) (omega arith) (right_half i) e)
          | inr nr ↦ inl (same_best before keys nodes at i (get_or nodes i 0) others ne nl nr (t.each i some in_range))
        ]
      ]
    ]

    begun : Playing (length nodes) at (leaf / 2) before keys nodes
    begun = record {
      count = refl;
      paired = let c = t.count in omega arith;
      within = t.within;
      node_in = let c = t.count in omega arith;
      others = others;
      way = above_up leaf leaf (above_self leaf);
      won = won;
      each = each;
      above = λ i some a. t.each i some (let le = above_le i (leaf / 2 / 2) a in let c = t.count in omega arith);
    }

-- the place that is best is within range
best_in : (keys nodes : List ℕ) (n node w : ℕ) → length nodes ≡ n → ((i : ℕ) → i < n → get_or nodes i 0 < n) → node < n
    → IsBest keys nodes node w → w < n
best_in keys nodes n node w count within lt b =
    let h : (i : ℕ) → i < length nodes → get_or nodes i 0 < length nodes = λ i ini. let k = within i (omega arith) in omega (arith, k, count) in
    elim (either keys nodes node w b) [
      | inl e ↦ let z = win_in nodes (2 * node) h (omega arith) in omega (arith, z, e, count)
      | inr e ↦ let z = win_in nodes (2 * node + 1) h (omega arith) in omega (arith, z, e, count)
    ]

-- one node is played, and the one above it is next
pub playing_up : (n at node w : ℕ) (before keys nodes : List ℕ) → Playing n at node before keys nodes → 0 < node → IsBest keys nodes node w
    → Playing n at (node / 2) before keys (set nodes node w)
playing_up n at node w before keys nodes p some b = record {
  count = length-set nodes node w ∙ p.count;
  paired = p.paired;
  within = within;
  node_in = let lt = p.node_in in omega arith;
  others = p.others;
  way = above_up node (n + at) p.way;
  won = won;
  each = each;
  above = above;
}
  where
    nodes' : List ℕ
    nodes' = set nodes node w

    here : get_or nodes' node 0 ≡ w
    here = set_same nodes node w (let c = p.count in let lt = p.node_in in omega arith)

    within : (i : ℕ) → i < n → get_or nodes' i 0 < n
    within i lt = elim (cases_eq i node) [
      | inl e ↦
          let z = ap (λ (k : ℕ). get_or nodes' k 0) e ∙ here in
          let y = best_in keys nodes n node w p.count p.within p.node_in b in
          omega (arith, z, y)
      | inr ne ↦ let z = set_other nodes node i w ne in let y = p.within i lt in omega (arith, z, y)
    ]

    won : (c : ℕ) → 0 < c → winner nodes' c ≡ at → IsAbove c (n + at)
    won c more is = elim (cases_eq c node) [
      | inl e ↦ subst (λ (k : ℕ). IsAbove k (n + at)) (sym e) p.way
      | inr ne ↦ p.won c more (sym (win_other nodes node w c ne) ∙ is)
    ]

    -- a node whose children aren't this one
    stays : (ks : List ℕ) (i : ℕ) → i ≢ node → 2 * i ≢ node → 2 * i + 1 ≢ node → IsBest ks nodes i (get_or nodes i 0)
        → IsBest ks nodes' i (get_or nodes' i 0)
    stays ks i ne ln rn h =
        subst (λ (k : ℕ). IsBest ks nodes' i k) (sym (set_other nodes node i w ne)) (set_best ks nodes node w i (get_or nodes i 0) ln rn h)

    parent : (i k : ℕ) → k ≡ node → k / 2 ≡ i → IsAbove i (node / 2)
    parent i k e up = subst (λ (j : ℕ). IsAbove i (j / 2)) e (subst (λ (j : ℕ). IsAbove j (k / 2)) up (above_self (k / 2)))

    each : (i : ℕ) → 0 < i → i < n → IsBest keys nodes' i (get_or nodes' i 0) ⊎ IsAbove i (node / 2)
    each i more lt = elim (cases_eq i node) [
      | inl e ↦
          inl (subst (λ (k : ℕ). IsBest keys nodes' k (get_or nodes' k 0)) (sym e) (subst (λ (k : ℕ). IsBest keys nodes' node k) (sym here)
          (set_best keys nodes node w node w (λ z. absurd (let q : ⊥ = omega arith in q)) (λ z. absurd (let q : ⊥ = omega arith in q)) b)))
      | inr ne ↦ elim (cases_eq (2 * i) node) [
        | inl e ↦ inr (parent i (2 * i) e (left_half i))
        | inr ln ↦ elim (cases_eq (2 * i + 1) node) [
          | inl e ↦ inr (parent i (2 * i + 1) e (right_half i))
          | inr rn ↦ elim (p.each i more lt) [
            | inl h ↦ inl (stays keys i ne ln rn h)
            | inr a ↦ elim (above_next i node a) [
              | inl e ↦ absurd (ne e)
              | inr h ↦ inr h
            ]
          ]
        ]
      ]
    ]

    above : (i : ℕ) → 0 < i → IsAbove i (node / 2 / 2) → IsBest before nodes' i (get_or nodes' i 0)
    above i more a =
        let le = above_le i (node / 2 / 2) a in
        stays before i (λ e. absurd (let q : ⊥ = omega arith in q)) (λ e. absurd (let q : ⊥ = omega arith in q))
        (λ e. absurd (let q : ⊥ = omega arith in q)) (p.above i more (above_from i (node / 2) a))

-- none is left
pub playing_done : (n at node : ℕ) (before keys nodes : List ℕ) → Playing n at node before keys nodes → node ≡ 0 → IsTree keys nodes
playing_done n at node before keys nodes p none = record {
  count = p.count ∙ sym p.paired;
  within = λ i lt. let c = p.count in let h = p.within i (omega arith) in omega (arith, h, c);
  each = λ i some lt. elim (p.each i some (let c = p.count in omega arith)) [
    | inl b ↦ b
    | inr a ↦ absurd (let le = above_le i node a in let q : ⊥ = omega arith in q)
  ];
}

-- another place goes on winning at this node: those above it stay
pub playing_stopped : (n at node w : ℕ) (before keys nodes : List ℕ) → Playing n at node before keys nodes → 0 < node
    → IsBest keys nodes node w → w ≡ get_or nodes node 0 → w ≢ at → IsTree keys nodes
playing_stopped n at node w before keys nodes p some b same other = record {
  count = p.count ∙ sym p.paired;
  within = λ i lt. let c = p.count in let h = p.within i (omega arith) in omega (arith, h, c);
  each = λ i more lt. elim (p.each i more (let c = p.count in omega arith)) [
    | inl h ↦ h
    | inr a ↦ elim (above_next i node a) [
      | inl e ↦ subst (λ (k : ℕ). IsBest keys nodes k (get_or nodes k 0)) (sym e) (subst (λ (k : ℕ). IsBest keys nodes node k) same b)
      | inr h ↦ rest i more lt h
    ]
  ];
}
  where
    -- the place wins at no child of a node above one at which it doesn't
    no_child : (d k : ℕ) → IsAbove d node → winner nodes d ≢ at → k / 2 ≡ d / 2 → 0 < k / 2 → winner nodes k ≢ at
    no_child d k a ne up more is =
        let there = subst (λ (i : ℕ). IsAbove i (n + at)) a.is (above_all a.halvings node (n + at) p.way) in
        let one = above_one k d (n + at) (p.won k (omega arith) is) there up more in
        ne (ap (winner nodes) (sym one) ∙ is)

    -- nor does it win at the node above
    no_next : (d i : ℕ) → IsAbove d node → winner nodes d ≢ at → d / 2 ≡ i → 0 < i → IsAbove i (node / 2) → get_or nodes i 0 ≢ at
    no_next d i a ne up more b is = elim (either before nodes i (get_or nodes i 0) (p.above i more b)) [
      | inl e ↦ no_child d (2 * i) a ne (left_half i ∙ sym up) (omega arith) (sym e ∙ is)
      | inr e ↦ no_child d (2 * i + 1) a ne (right_half i ∙ sym up) (omega arith) (sym e ∙ is)
    ]

    -- it wins at none of them
    no_win : (j : ℕ) → 0 < half j node → winner nodes (half j node) ≢ at
    no_win zero more is =
        let lt : node < length nodes = (let c = p.count in let z = p.node_in in omega arith) in
        other (same ∙ sym (win_node nodes node lt) ∙ is)
    no_win (suc j) more is =
        let up = half_last j node in
        let le = half_le j (node / 2) in
        let lt : half j (node / 2) < length nodes = (let c = p.count in let z = p.node_in in omega arith) in
        no_next (half j node) (half j (node / 2)) (record { halvings = j; is = refl }) (no_win j (omega arith)) (sym up) more
        (record { halvings = j; is = refl }) (sym (win_node nodes (half j (node / 2)) lt) ∙ is)

    rest : (i : ℕ) → 0 < i → i < length nodes → IsAbove i (node / 2) → IsBest keys nodes i (get_or nodes i 0)
    rest i more lt a =
        let up : half a.halvings node / 2 ≡ i = sym (half_last a.halvings node) ∙ a.is in
        let d : IsAbove (half a.halvings node) node = record { halvings = a.halvings; is = refl } in
        let ne = no_win a.halvings (omega arith) in
        same_best before keys nodes at i (get_or nodes i 0) p.others (no_next (half a.halvings node) i d ne up more a)
        (no_child (half a.halvings node) (2 * i) d ne (left_half i ∙ sym up) (omega arith))
        (no_child (half a.halvings node) (2 * i + 1) d ne (right_half i ∙ sym up) (omega arith)) (p.above i more a)

-- ---- the place that wins at the root gets a lower key

-- it wins everywhere on the way up from its leaf
won_way : (keys nodes : List ℕ) (at m c : ℕ) → IsTree keys nodes → winner nodes 1 ≡ at → at < length nodes → c ≤ m → 0 < c
    → IsAbove c (length nodes + at) → winner nodes c ≡ at
won_way keys nodes at zero c t root lt le some a = absurd (let q : ⊥ = omega arith in q)
won_way keys nodes at (suc m) c t root lt le some a = elim (cases_eq c 1) [
  | inl e ↦ ap (winner nodes) e ∙ root
  | inr ne ↦
      let p : 0 < c / 2 = omega arith in
      let low = above_le c (length nodes + at) a in
      let in_range : c / 2 < length nodes = omega (arith, low, lt) in
      let up = won_way keys nodes at m (c / 2) t root lt (omega arith) p (above_up c (length nodes + at) a) in
      let here : get_or nodes (c / 2) 0 ≡ at = sym (win_node nodes (c / 2) in_range) ∙ up in
      elim (either keys nodes (c / 2) (get_or nodes (c / 2) 0) (t.each (c / 2) p in_range)) [
        | inl e ↦ same_child (2 * (c / 2)) (left_half (c / 2)) (omega arith) p (sym e ∙ here)
        | inr e ↦ same_child (2 * (c / 2) + 1) (right_half (c / 2)) (omega arith) p (sym e ∙ here)
      ]
]
  where
    same_child : (k : ℕ) → k / 2 ≡ c / 2 → 0 < k → 0 < c / 2 → winner nodes k ≡ at → winner nodes c ≡ at
    same_child k up more half_more is =
        let b = won_above keys nodes at (length nodes) k t (omega arith) more is in
        ap (winner nodes) (above_one c k (length nodes + at) a b (sym up) half_more) ∙ is

-- where it doesn't win at a node, it wins at no child of it
no_child_won : (keys nodes : List ℕ) (at i k : ℕ) → IsTree keys nodes → winner nodes 1 ≡ at → at < length nodes → 0 < i → i < length nodes
    → 0 < k → k / 2 ≡ i → get_or nodes i 0 ≢ at → winner nodes k ≢ at
no_child_won keys nodes at i k t root lt some in_range more up ne is =
    let a = won_above keys nodes at (length nodes) k t (omega arith) more is in
    let b = subst (λ (j : ℕ). IsAbove j (length nodes + at)) up (above_up k (length nodes + at) a) in
    ne (sym (win_node nodes i in_range) ∙ won_way keys nodes at i i t root lt (omega arith) some b)

-- its lower key is no higher than those that it is compared with
lower_best : (before keys nodes : List ℕ) (at i : ℕ) → ((k : ℕ) → (k ≡ at → ⊥) → get_or before k 0 ≡ get_or keys k 0)
    → get_or keys at 0 ≤ get_or before at 0 → get_or nodes i 0 ≡ at → IsBest before nodes i (get_or nodes i 0)
    → IsBest keys nodes i (get_or nodes i 0)
lower_best before keys nodes at i others less here b = record {
  one = b.one;
  left = low (winner nodes (2 * i)) b.left;
  right = low (winner nodes (2 * i + 1)) b.right;
}
  where
    low : (w : ℕ) → get_or before (get_or nodes i 0) 0 ≤ get_or before w 0 → get_or keys (get_or nodes i 0) 0 ≤ get_or keys w 0
    low w le =
        let x = ap (λ (k : ℕ). get_or before k 0) here in
        let y = ap (λ (k : ℕ). get_or keys k 0) here in
        elim (cases_eq w at) [
          | inl e ↦ let z = ap (λ (k : ℕ). get_or keys k 0) e in omega (arith, y, z)
          | inr ne ↦ let z = others w ne in omega (arith, x, y, z, le, less)
        ]

-- no node changes
pub first_lowered : (before keys nodes : List ℕ) (at : ℕ) → length before ≡ length keys
    → ((k : ℕ) → (k ≡ at → ⊥) → get_or before k 0 ≡ get_or keys k 0) → get_or keys at 0 ≤ get_or before at 0 → winner nodes 1 ≡ at
    → at < length nodes → IsTree before nodes → IsTree keys nodes
first_lowered before keys nodes at paired others less root lt t = record {
  count = t.count ∙ paired;
  within = t.within;
  each = λ i some in_range. elim (cases_eq (get_or nodes i 0) at) [
    | inl e ↦ lower_best before keys nodes at i others less e (t.each i some in_range)
    | inr ne ↦
        same_best before keys nodes at i (get_or nodes i 0) others ne
        (no_child_won before nodes at i (2 * i) t root lt some in_range (omega arith) (left_half i) ne)
        (no_child_won before nodes at i (2 * i + 1) t root lt some in_range (omega arith) (right_half i) ne)
        (t.each i some in_range)
  ];
}

-- so where a test says that this is the case
pub tested_lowered : (keys nodes : List ℕ) (at key : ℕ) (b : Bool)
    → b ≡ (nat_lt key (get_or keys at 0) && (winner nodes 1 == at)) → b ≡ true → at < length keys → IsTree keys nodes
    → IsTree (set keys at key) nodes
tested_lowered keys nodes at key b is so lt t =
    first_lowered keys (set keys at key) nodes at (sym (length-set keys at key)) (λ k ne. sym (set_other keys at k key ne))
    (omega (arith, lower, set_same keys at key lt)) (eqb-true (winner nodes 1) at (and_right (nat_lt key (get_or keys at 0)) _ both))
    (let c = t.count in omega (arith, lt, c)) t
  where
    both : (nat_lt key (get_or keys at 0) && (winner nodes 1 == at)) ≡ true
    both = sym is ∙ so

    lower : key < get_or keys at 0
    lower = ltb-true key (get_or keys at 0) (and_left (nat_lt key (get_or keys at 0)) _ both)

-- ---- the beginning

-- all keys are 0, and the places at the left win from this node on
pub record IsMade (nodes : List ℕ) (count node : ℕ) : Type 0 where
  pub count_is : length nodes ≡ count
  pub within : (i : ℕ) → i < count → get_or nodes i 0 < count
  pub each : (i : ℕ) → node ≤ i → 0 < i → i < count → get_or nodes i 0 ≡ winner nodes (2 * i)

-- ---- as a loop has it

-- some such places, by their keys before the change
pub record IsPlaying (at node : ℕ) (keys nodes : List ℕ) : Type 0 where
  pub n : ℕ
  pub before : List ℕ
  pub playing : Playing n at node before keys nodes

pub play_begun : (at node : ℕ) (keys nodes : List ℕ) → WasTree at keys nodes → at < length keys → node ≡ (length nodes + at) / 2
    → IsPlaying at node keys nodes
play_begun at node keys nodes w lt first = record {
  n = length nodes;
  before = w.before;
  playing = playing_begun at node w.before keys nodes w.count w.others w.tree lt first;
}

pub play_up : (at node w next : ℕ) (keys nodes : List ℕ) → IsPlaying at node keys nodes → 0 < node → IsBest keys nodes node w
    → next ≡ node / 2 → IsPlaying at next keys (set nodes node w)
play_up at node w next keys nodes p some b up = subst (λ (k : ℕ). IsPlaying at k keys (set nodes node w)) (sym up) (record {
  n = p.n;
  before = p.before;
  playing = playing_up p.n at node w p.before keys nodes p.playing some b;
})

pub play_done : (at node : ℕ) (keys nodes : List ℕ) → IsPlaying at node keys nodes → node ≡ 0 → IsTree keys nodes
play_done at node keys nodes p none = playing_done p.n at node p.before keys nodes p.playing none

pub play_stopped : (at node w : ℕ) (keys nodes : List ℕ) → IsPlaying at node keys nodes → 0 < node → IsBest keys nodes node w
    → w ≡ get_or nodes node 0 → w ≢ at → IsTree keys nodes
play_stopped at node w keys nodes p some b same other =
    playing_stopped p.n at node w p.before keys nodes p.playing some b same other

-- the winners at its children are within range
pub children_in : (at node : ℕ) (keys nodes : List ℕ) → IsPlaying at node keys nodes
    → (node < length nodes) × (winner nodes (2 * node) < length keys) × (winner nodes (2 * node + 1) < length keys)
children_in at node keys nodes p =
    let q = p.playing in
    let c = q.count in
    let d = q.paired in
    let lt = q.node_in in
    let h : (k : ℕ) → k < length nodes → get_or nodes k 0 < length nodes = λ k kn. let y = q.within k (omega arith) in omega (arith, y, c) in
    let l = win_in nodes (2 * node) h (omega arith) in
    let r = win_in nodes (2 * node + 1) h (omega arith) in
    (omega arith, omega (arith, l, c, d), omega (arith, r, c, d))

-- ---- late keys

-- 1 for a late key, else 0
abbrev pub one_late : ℕ → ℕ
one_late key = cond (is_late key) 1 0

one_if_early : (key : ℕ) → key < 2 ^ 63 → one_late key ≡ 0
one_if_early key lt = cond-false (is_late key) 1 0 (ap not (lt-ltb key (2 ^ 63) lt))

one_if_late : (key : ℕ) → 2 ^ 63 ≤ key → one_late key ≡ 1
one_if_late key le = cond-true (is_late key) 1 0 (ap not (less_fails key (2 ^ 63) le))

-- how many are, after a key was changed
pub late_set : (keys : List ℕ) (at key d n a b : ℕ) → at < length keys → n ≡ late_count keys → a ≡ one_late (get_or keys at d)
    → b ≡ one_late key → n - a + b ≡ late_count (set keys at key)
late_set keys at key d n a b lt is old new =
    let sum = sum_by-set one_late keys at key d lt in
    let le = get_or-le-sum_by one_late keys at d lt in
    omega (arith, is, old, new, sum, le)

-- where none is counted, none is late
pub none_late : (keys : List ℕ) → late_count keys ≡ 0 → IsNoneLate keys
none_late keys none = record {
  early = λ i lt. elim (cases_lt (get_or keys i 0) (2 ^ 63)) [
    | inl less ↦ less
    | inr le ↦
        let one = one_if_late (get_or keys i 0) le in
        let counted = get_or-le-sum_by one_late keys i 0 lt in
        absurd (let q : ⊥ = omega (arith, one, counted, none) in q)
  ];
}

-- else one is
pub some_late : (keys : List ℕ) → 0 < late_count keys → IsSomeLate keys
some_late [] some = absurd (let q : ⊥ = omega (arith, some) in q)
some_late (k ∷ ks) some = elim (cases_lt k (2 ^ 63)) [
  | inr le ↦ record { at = 0; in_range = omega arith; late = le }
  | inl lt ↦
      let one = one_if_early k lt in
      let sum = sum_by-cons one_late k ks in
      let rest = some_late ks (omega (arith, one, some, sum)) in
      record { at = suc rest.at; in_range = let h = rest.in_range in omega (arith, h); late = rest.late }
]

pub on_some_late : (n : ℕ) (keys : List ℕ) → n ≡ late_count keys → OnTrue (nat_lt 0 n) (IsSomeLate keys)
on_some_late n keys is = elim (cases_lt 0 n) [
  | inl some ↦
      let h : 0 < late_count keys = omega (arith, some, is) in
      subst (λ (b : Bool). OnTrue b (IsSomeLate keys)) (sym (lt-ltb 0 n some)) (some_late keys h)
  | inr le ↦ subst (λ (b : Bool). OnTrue b (IsSomeLate keys)) (sym (less_fails 0 n le)) tt
]
