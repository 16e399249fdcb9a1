-- Open files and descriptors that change over the same nodes.
use Rattle.std.proofs.Common.{◌≡◌, ◌≢◌, ◌<◌, ◌≤◌, ℕ, Bool, true, refl, sym, ap, subst, ◌∙◌, arith}
use mathlib.Core.Logic.{inl, inr, ◌⊎◌}
use Rattle.std.specs.Prelude.{Option, None, Some, is_some, IsTrue}
use Rattle.std.proofs.lemmas.Bool.{cases_eq, eqb-true, eq-eqb}
use Rattle.lemmas.proofs.Bools.{false_not_true}
use Rattle.lemmas.proofs.Options.{some_same}
use Rattle.layout.specs.declared.Geometry.{Geometry}
use Rattle.lemmas.specs.Sums.{put, some_below}
use Rattle.tree.specs.Tree.{OpenFile, Tree, opens, is_open, leads_to, with_descriptor, most_sessions, most_descriptors, most_open_files, most_size}
use Rattle.tree.specs.IsTree.{IsOpenFile, IsTree}
use Rattle.tree.specs.Changes.{at_position}
use Rattle.lemmas.proofs.Maps.{put-same, put-other, not_nothing}
use Rattle.tree.proofs.Search.{found_below, one_below}

-- what f says of what is put and of what was there, it says of both maps
pub alike_put : {X Y : Type 0} (f : X → Y) (map : ℕ → X) (n : ℕ) (x : X) → f x ≡ f (map n) → (m : ℕ) → f (put map n x m) ≡ f (map m)
alike_put f map n x h m = elim (cases_eq m n) [
  | inl e ↦ ap (λ k. f (put map n x k)) e ∙ ap f (put-same map n x) ∙ h ∙ ap (λ k. f (map k)) (sym e)
  | inr d ↦ ap f (put-other map n x m d)
]

-- what holds of what is put, and of what is elsewhere, holds of the map
pub of_put : {X : Type 0} (map : ℕ → Option X) (n : ℕ) (x : X) (P : ℕ → X → Type 0) → P n x → ((m : ℕ) (y : X) → m ≢ n → map m ≡ Some y → P m y)
    → (m : ℕ) (y : X) → put map n (Some x) m ≡ Some y → P m y
of_put map n x P here there m y h = elim (cases_eq m n) [
  | inl e ↦ subst (P m) (some_same _ _ (sym (ap (put map n (Some x)) e ∙ put-same map n (Some x)) ∙ h)) (subst (λ k. P k x) (sym e) here)
  | inr d ↦ there m y d (sym (put-other map n (Some x) m d) ∙ h)
]

-- an open file at another position
pub position_kept : (g : Geometry) (t : Tree) (k : ℕ) (o : OpenFile) (position : ℕ) → t.open_files k ≡ Some o → position ≤ most_size
    → IsTree g t → IsTree g (at_position t k o position)
position_kept g t k o position there fits tree = record {
  nodes = tree.nodes;
  open_files = record {
    numbers = λ j h. tree.open_files.numbers j (sym (some_alike j) ∙ h);
    each = of_put t.open_files k (record o { position = position }) (λ j x. IsOpenFile (at_position t k o position) x)
        (let old = tree.open_files.each k o there in
        record { node = old.node; position = fits; flags = old.flags; not_a_directory = old.not_a_directory })
        (λ j x d h. let old = tree.open_files.each j x h in
        record { node = old.node; position = old.position; flags = old.flags; not_a_directory = old.not_a_directory });
    descriptors = λ s fd j h. let old = tree.open_files.descriptors s fd j h in (old.0, old.1, some_alike j ∙ old.2);
    in_use = λ j h. tree.open_files.in_use j (sym (some_alike j) ∙ h);
  };
  nameless = λ n node h l. open_alike n ∙ tree.nameless n node h l;
}
  where
    some_alike : (j : ℕ) → is_some (put t.open_files k (Some (record o { position = position })) j) ≡ is_some (t.open_files j)
    some_alike j = alike_put is_some t.open_files k (Some (record o { position = position })) (sym (ap is_some there)) j

    open_alike : (n : ℕ) → is_open (at_position t k o position) n ≡ is_open t n
    open_alike n = λ i. some_below (λ j. alike_put (opens n) t.open_files k (Some (record o { position = position })) (sym (ap (opens n) there)) j i) most_open_files

-- Descriptors: the two searches, one within the other.
pub record Holder (descriptors : ℕ → ℕ → Option ℕ) (k : ℕ) : Type 0 where
  pub session : ℕ
  pub fd : ℕ
  pub session_in : session < most_sessions
  pub fd_in : fd < most_descriptors
  pub leads : descriptors session fd ≡ Some k

-- some descriptor is of the open file
abbrev holders : (ℕ → ℕ → Option ℕ) → ℕ → Bool
holders descriptors k = some_below (λ s. some_below (λ fd. leads_to k (descriptors s fd)) most_descriptors) most_sessions

-- a descriptor that leads to k
leads_is : (k : ℕ) (o : Option ℕ) → leads_to k o ≡ true → o ≡ Some k
leads_is k None h = absurd (false_not_true h)
leads_is k (Some j) h = ap Some (eqb-true j k h)

-- and back
is_leading : (k : ℕ) (o : Option ℕ) → o ≡ Some k → leads_to k o ≡ true
is_leading k o h = ap (leads_to k) h ∙ eq-eqb k k refl

-- an open file that has a descriptor
pub holder : (descriptors : ℕ → ℕ → Option ℕ) (k : ℕ) → holders descriptors k ≡ true → Holder descriptors k
holder descriptors k h =
    let one = one_below (λ s. some_below (λ fd. leads_to k (descriptors s fd)) most_descriptors) most_sessions h in
    let two = one_below (λ fd. leads_to k (descriptors one.0 fd)) most_descriptors one.2 in
    record { session = one.0; fd = two.0; session_in = one.1; fd_in = two.1; leads = leads_is k _ two.2 }

-- and back
pub held : (descriptors : ℕ → ℕ → Option ℕ) (k : ℕ) → Holder descriptors k → holders descriptors k ≡ true
held descriptors k h =
    found_below (λ s. some_below (λ fd. leads_to k (descriptors s fd)) most_descriptors) most_sessions h.session h.session_in
    (found_below (λ fd. leads_to k (descriptors h.session fd)) most_descriptors h.fd h.fd_in (is_leading k _ h.leads))

module _ (t : Tree) (session fd : ℕ) (x : Option ℕ) where
  abbrev now : ℕ → ℕ → Option ℕ
  now = (with_descriptor t session fd x).descriptors

  pub at_place : now session fd ≡ x
  at_place = ap (λ f. f fd) (put-same t.descriptors session (put (t.descriptors session) fd x)) ∙ put-same (t.descriptors session) fd x

  pub other_session : (s f : ℕ) → s ≢ session → now s f ≡ t.descriptors s f
  other_session s f d = ap (λ h. h f) (put-other t.descriptors session (put (t.descriptors session) fd x) s d)

  pub other_fd : (s f : ℕ) → f ≢ fd → now s f ≡ t.descriptors s f
  other_fd s f d = elim (cases_eq s session) [
    | inl e ↦ ap (λ q. now q f) e ∙ ap (λ h. h f) (put-same t.descriptors session (put (t.descriptors session) fd x)) ∙ put-other (t.descriptors session) fd x f d ∙ ap (λ q. t.descriptors q f) (sym e)
    | inr n ↦ other_session s f n
  ]

  -- each descriptor is the changed one or an old one
  pub descriptor_cases : (s f : ℕ) → ((s ≡ session) × (f ≡ fd)) ⊎ (now s f ≡ t.descriptors s f)
  descriptor_cases s f = elim (cases_eq s session) [
    | inl a ↦ elim (cases_eq f fd) [ inl b ↦ inl (a, b) | inr d ↦ inr (other_fd s f d) ]
    | inr d ↦ inr (other_session s f d)
  ]

  pub is_at_place : (s f : ℕ) → s ≡ session → f ≡ fd → now s f ≡ x
  is_at_place s f a b = (λ i. now (a i) (b i)) ∙ at_place

  -- an open file that the old descriptor was not of keeps its holders
  pub still_held : (k : ℕ) → t.descriptors session fd ≢ Some k → Holder t.descriptors k → Holder now k
  still_held k d h = record {
    session = h.session;
    fd = h.fd;
    session_in = h.session_in;
    fd_in = h.fd_in;
    leads = elim (descriptor_cases h.session h.fd) [
      | inl at ↦ absurd (d (sym (λ i. t.descriptors (at.0 i) (at.1 i)) ∙ h.leads))
      | inr same ↦ same ∙ h.leads
    ];
  }

-- one more descriptor of an open file, at a free place
pub descriptor_added : (g : Geometry) (t : Tree) (session fd k : ℕ) → session < most_sessions → fd < most_descriptors
    → t.descriptors session fd ≡ None → IsTrue (is_some (t.open_files k)) → IsTree g t → IsTree g (with_descriptor t session fd (Some k))
descriptor_added g t session fd k s_in fd_in free there tree = record {
  nodes = tree.nodes;
  open_files = record {
    numbers = tree.open_files.numbers;
    each = λ j o h. let old = tree.open_files.each j o h in record { node = old.node; position = old.position; flags = old.flags; not_a_directory = old.not_a_directory };
    descriptors = λ s f j h. elim (descriptor_cases t session fd (Some k) s f) [
      | inl at ↦
          let is : k ≡ j = some_same _ _ (sym (is_at_place t session fd (Some k) s f at.0 at.1) ∙ h) in
          (omega (arith, s_in, at.0), omega (arith, fd_in, at.1), ap (λ q. is_some (t.open_files q)) (sym is) ∙ there)
      | inr same ↦ tree.open_files.descriptors s f j (sym same ∙ h)
    ];
    in_use = λ j h. held (with_descriptor t session fd (Some k)).descriptors j (still_held t session fd (Some k) j (λ e. not_nothing j (sym free ∙ e)) (holder t.descriptors j (tree.open_files.in_use j h)));
  };
  nameless = tree.nameless;
}
