-- What all that is known keeps.
use Rattle.std.proofs.Common.{◌≡◌, ◌≢◌, ◌<◌, ◌≤◌, ◌-◌, ◌+◌, ◌^◌, ◌⊎◌, min, nat_lt, ◌∙◌, ap, sym, refl, subst, inl, inr, ℕ, Bool, true, false, not, if◌then◌else◌, ◌||◌, ◌&&◌, Option, Some, None, IsSome, IsSomeAnd, arith}
use Rattle.std.proofs.lemmas.Bool.Decides.{eqb_tells, nat_tests}
use Rattle.std.specs.Option.{option_map, option_or, unwrap_or}
use Rattle.std.specs.Prelude.{◌==◌}
use Rattle.fuse_nodes.specs.Tables.{put, changed}
use Rattle.fuse_nodes.specs.Known.{Facts, Known, at_first, root, is_stale}
use Rattle.fuse_nodes.specs.Changes.{told_as, told_again, told_first, let_go, let_go_as, is_used, dropped_as, settled, settled_as, with_change, forgets, opens_one, closes_one, goes, lost_as}
use Rattle.fuse_nodes.specs.Laws.{IsSound, Step, Steps, IsSameFile, StaysSound, NumbersStay, IsToldByItsNumber}
use Rattle.fuse_nodes.specs.Laws.Step.{Told, Forgotten, Opened, Closed, Given, Got, Lost}
use Rattle.fuse_nodes.specs.Laws.Steps.{Starts, Then}
use Rattle.fuse_nodes.specs.declared.node.Descriptor.{Descriptor}
use Rattle.fuse_nodes.specs.declared.node.NodeKind.{NodeKind}
use Rattle.fuse_nodes.proofs.TableLaws.{put_there}

-- what is at a key behind a change at one
put_at : {X : Type 0} (table : ℕ → Option X) (key : ℕ) (x : Option X) (other : ℕ)
    → ((key ≡ other) × (put table key x other ≡ x)) ⊎ ((key ≢ other) × (put table key x other ≡ table other))
put_at table key x other = elim (eqb_tells key other) [
  | inl same ↦ inl (same.1, rw same.0 refl)
  | inr apart ↦ inr (apart.1, rw apart.0 refl)
]

-- a change that keeps the file
abbrev Keeps : (Facts → Facts) → Type 0
Keeps f = (facts : Facts) → ((f facts).inode ≡ facts.inode) × ((f facts).kind ≡ facts.kind)

keeps_opens : (descriptor : Option Descriptor) → Keeps (opens_one descriptor)
keeps_opens descriptor facts = either (is_stale facts) where
  more : Facts
  more = record facts { opens = min (facts.opens + 1) (2 ^ 32 - 1); descriptor = option_or descriptor facts.descriptor }

  either : (b : Bool) → ((if b then facts else more).inode ≡ facts.inode) × ((if b then facts else more).kind ≡ facts.kind)
  either true = (refl, refl)
  either false = (refl, refl)

-- ---- the same file

same_itself : (o : Option Facts) → IsSameFile o o
same_itself None = tt
same_itself (Some facts) = (refl, refl)

same_changed : (f : Facts → Facts) → Keeps f → (o : Option Facts) → IsSameFile o (option_map f o)
same_changed f keeps None = tt
same_changed f keeps (Some facts) = keeps facts

same_on : (o p q : Option Facts) → IsSameFile o p → IsSameFile p q → IsSameFile o q
same_on o p None first rest = tt
same_on o None (Some c) first rest = absurd rest
same_on None (Some b) (Some c) first rest = absurd first
same_on (Some a) (Some b) (Some c) first rest = (rest.0 ∙ first.0, rest.1 ∙ first.1)

after_change : (f : Facts → Facts) → Keeps f → (nodes : ℕ → Option Facts) (key id : ℕ) → IsSameFile (nodes id) (changed f nodes key id)
after_change f keeps nodes key id = elim (put_at nodes key (option_map f (nodes key)) id) [
  | inl same ↦ subst (λ (o : Option Facts). IsSameFile (nodes id) o) (sym same.1)
      (subst (λ (i : ℕ). IsSameFile (nodes i) (option_map f (nodes key))) same.0 (same_changed f keeps (nodes key)))
  | inr apart ↦ subst (λ (o : Option Facts). IsSameFile (nodes id) o) (sym apart.1) (same_itself (nodes id))
]

after_drop : (nodes : ℕ → Option Facts) (key id : ℕ) → IsSameFile (nodes id) (put nodes key None id)
after_drop nodes key id = elim (put_at nodes key None id) [
  | inl same ↦ subst (λ (o : Option Facts). IsSameFile (nodes id) o) (sym same.1) tt
  | inr apart ↦ subst (λ (o : Option Facts). IsSameFile (nodes id) o) (sym apart.1) (same_itself (nodes id))
]

same_dropped : (k : Known) (key : ℕ) (o : Option Facts) (id : ℕ) → IsSameFile (k.nodes id) ((dropped_as k key o).nodes id)
same_dropped k key None id = same_itself (k.nodes id)
same_dropped k key (Some facts) id = either ((key == 1) || is_used facts) where
  either : (b : Bool) → IsSameFile (k.nodes id) ((if b then k
      else record k { nodes = put k.nodes key None; numbers = let_go_as k.numbers facts.inode key (k.numbers facts.inode) }).nodes id)
  either true = same_itself (k.nodes id)
  either false = after_drop k.nodes key id

same_settled : (k : Known) (key : ℕ) (o : Option Facts) (id : ℕ) → IsSameFile (k.nodes id) ((settled_as k key o).nodes id)
same_settled k key None id = same_itself (k.nodes id)
same_settled k key (Some facts) id = either (is_stale facts) where
  either : (b : Bool)
      → IsSameFile (k.nodes id) ((if b then record k { numbers = let_go k.numbers facts.inode key } else k).nodes id)
  either true = same_itself (k.nodes id)
  either false = same_itself (k.nodes id)

same_told : (k : Known) (inode : ℕ) (kind : NodeKind) (o : Option ℕ) (id : ℕ) → id < k.next
    → IsSameFile (k.nodes id) ((told_as k inode kind o).nodes id)
same_told k inode kind (Some key) id less = after_change told_again (λ facts. (refl, refl)) k.nodes key id
same_told k inode kind None id less = elim (put_at k.nodes k.next (Some (told_first inode kind)) id) [
  | inl same ↦ absurd (omega (arith, less, same.0))
  | inr apart ↦ subst (λ (o : Option Facts). IsSameFile (k.nodes id) o) (sym apart.1) (same_itself (k.nodes id))
]

keeps_closes : Keeps closes_one
keeps_closes facts = either (nat_lt 0 (facts.opens - 1)) where
  either : (b : Bool)
      → ((if b then record facts { opens = facts.opens - 1 } else record facts { opens = 0; descriptor = None }).inode ≡ facts.inode)
      × ((if b then record facts { opens = facts.opens - 1 } else record facts { opens = 0; descriptor = None }).kind ≡ facts.kind)
  either true = (refl, refl)
  either false = (refl, refl)

-- a step leaves each number that was used to its file
same_step : (k l : Known) → Step k l → (id : ℕ) → id < k.next → IsSameFile (k.nodes id) (l.nodes id)
same_step k l (Told inode kind) id less = same_told k inode kind (k.numbers inode) id less
same_step k l (Forgotten key count) id less =
    let less_one : Known = with_change (forgets count) k key in
    same_on (k.nodes id) (less_one.nodes id) _ (after_change (forgets count) (λ facts. (refl, refl)) k.nodes key id)
    (same_dropped less_one key (less_one.nodes key) id)
same_step k l (Opened key descriptor) id less = after_change (opens_one descriptor) (keeps_opens descriptor) k.nodes key id
same_step k l (Closed key) id less =
    let less_one : Known = with_change closes_one k key in
    let left : Known = settled less_one key in
    same_on (k.nodes id) (less_one.nodes id) _ (after_change closes_one keeps_closes k.nodes key id)
    (same_on (less_one.nodes id) (left.nodes id) _ (same_settled less_one key (less_one.nodes key) id)
    (same_dropped left key (left.nodes key) id))
same_step k l (Given key) id less = after_change (λ facts. record facts { descriptor = None }) (λ facts. (refl, refl)) k.nodes key id
same_step k l (Got key descriptor) id less =
    after_change (λ facts. record facts { descriptor = Some descriptor }) (λ facts. (refl, refl)) k.nodes key id
same_step k l (Lost inode) id less = either (k.numbers inode) where
  either : (o : Option ℕ) → IsSameFile (k.nodes id) ((lost_as k o).nodes id)
  either None = same_itself (k.nodes id)
  either (Some key) =
      let gone : Known = with_change goes k key in
      same_on (k.nodes id) (gone.nodes id) _ (after_change goes (λ facts. (refl, refl)) k.nodes key id)
      (same_settled gone key (gone.nodes key) id)

-- the next number grows
next_dropped : (k : Known) (key : ℕ) (o : Option Facts) → (dropped_as k key o).next ≡ k.next
next_dropped k key None = refl
next_dropped k key (Some facts) = either ((key == 1) || is_used facts) where
  either : (b : Bool) → (if b then k
      else record k { nodes = put k.nodes key None; numbers = let_go_as k.numbers facts.inode key (k.numbers facts.inode) }).next ≡ k.next
  either true = refl
  either false = refl

next_settled : (k : Known) (key : ℕ) (o : Option Facts) → (settled_as k key o).next ≡ k.next
next_settled k key None = refl
next_settled k key (Some facts) = either (is_stale facts) where
  either : (b : Bool) → (if b then record k { numbers = let_go k.numbers facts.inode key } else k).next ≡ k.next
  either true = refl
  either false = refl

next_step : (k l : Known) → Step k l → k.next ≤ l.next
next_step k l (Told inode kind) = either (k.numbers inode) where
  either : (o : Option ℕ) → k.next ≤ (told_as k inode kind o).next
  either None = omega arith
  either (Some key) = omega arith
next_step k l (Forgotten key count) =
    let less_one : Known = with_change (forgets count) k key in
    omega (arith, next_dropped less_one key (less_one.nodes key))
next_step k l (Opened key descriptor) = omega arith
next_step k l (Closed key) =
    let less_one : Known = with_change closes_one k key in
    let left : Known = settled less_one key in
    omega (arith, next_dropped left key (left.nodes key), next_settled less_one key (less_one.nodes key))
next_step k l (Given key) = omega arith
next_step k l (Got key descriptor) = omega arith
next_step k l (Lost inode) = either (k.numbers inode) where
  either : (o : Option ℕ) → k.next ≤ (lost_as k o).next
  either None = omega arith
  either (Some key) =
      let gone : Known = with_change goes k key in
      omega (arith, next_settled gone key (gone.nodes key))

next_steps : (k l : Known) → Steps k l → k.next ≤ l.next
next_steps k l Starts = omega arith
next_steps k l (Then m n steps step) = omega (arith, next_steps k m steps, next_step m n step)

pub numbers_stay : NumbersStay
numbers_stay k l sound steps id less = each k l steps id less where
  each : (k l : Known) → Steps k l → (id : ℕ) → id < k.next → IsSameFile (k.nodes id) (l.nodes id)
  each k l Starts id less = same_itself (k.nodes id)
  each k l (Then m n steps step) id less =
      let later : id < m.next = omega (arith, less, next_steps k m steps) in
      same_on (k.nodes id) (m.nodes id) (n.nodes id) (each k m steps id less) (same_step m n step id later)

-- ---- soundness

-- a node of an inode is there
abbrev HasInode : ℕ → Option Facts → Type 0
HasInode inode o = IsSomeAnd o (λ facts. facts.inode ≡ inode)

has_same : (inode : ℕ) (o p : Option Facts) → IsSameFile o p → IsSome p → HasInode inode o → HasInode inode p
has_same inode o None same some has = absurd (not some) where
  not : false ≡ true → ⊥
  not e = cc
has_same inode None (Some facts) same some has = absurd has
has_same inode (Some before) (Some later) same some has = same.0 ∙ has

some_before : (o p : Option Facts) → IsSameFile o p → IsSome p → IsSome o
some_before o None same some = absurd (not some) where
  not : false ≡ true → ⊥
  not e = cc
some_before None (Some facts) same some = absurd same
some_before (Some before) (Some later) same some = refl

has_some : (inode : ℕ) (o : Option Facts) → HasInode inode o → IsSome o
has_some inode None has = absurd has
has_some inode (Some facts) has = refl

some_changed : (f : Facts → Facts) (nodes : ℕ → Option Facts) (key id : ℕ) → IsSome (nodes id) → IsSome (changed f nodes key id)
some_changed f nodes key id some = elim (put_at nodes key (option_map f (nodes key)) id) [
  | inl same ↦ subst IsSome (sym same.1) (mapped (nodes key) (subst (λ (i : ℕ). IsSome (nodes i)) (sym same.0) some))
  | inr apart ↦ subst IsSome (sym apart.1) some
] where
  mapped : (o : Option Facts) → IsSome o → IsSome (option_map f o)
  mapped None some = some
  mapped (Some facts) some = refl

has_changed : (f : Facts → Facts) → Keeps f → (nodes : ℕ → Option Facts) (key id inode : ℕ) → HasInode inode (nodes id)
    → HasInode inode (changed f nodes key id)
has_changed f keeps nodes key id inode has = has_same inode (nodes id) (changed f nodes key id) (after_change f keeps nodes key id)
    (some_changed f nodes key id (has_some inode (nodes id) has)) has

-- a node of an inode is there, which can't be another file's
abbrev Lives : ℕ → Option Facts → Type 0
Lives inode o = IsSomeAnd o (λ facts. (facts.inode ≡ inode) × (is_stale facts ≡ false))

lives_has : (inode : ℕ) (o : Option Facts) → Lives inode o → HasInode inode o
lives_has inode None lives = absurd lives
lives_has inode (Some facts) lives = lives.0

-- a change that leaves whether a node's inode may be another file's
abbrev Stays : (Facts → Facts) → Option Facts → Type 0
Stays f o = (facts : Facts) → o ≡ Some facts → is_stale (f facts) ≡ is_stale facts

lives_changed : (f : Facts → Facts) → Keeps f → (inode : ℕ) (o : Option Facts) → Stays f o → Lives inode o → Lives inode (option_map f o)
lives_changed f keeps inode None stays lives = absurd lives
lives_changed f keeps inode (Some facts) stays lives = ((keeps facts).0 ∙ lives.0, stays facts refl ∙ lives.1)

-- where a change led to a node, it led from one
came_from : (f : Facts → Facts) (o : Option Facts) (later : Facts) → option_map f o ≡ Some later
    → (before : Facts) × (o ≡ Some before) × (f before ≡ later)
came_from f None later is = absurd (clash is) where
  clash : None ≡ Some later → ⊥
  clash e = cc
came_from f (Some before) later is = (before, refl, cc)

sound_change : (f : Facts → Facts) → Keeps f → (k : Known) (key : ℕ) → Stays f (k.nodes key) → IsSound k → IsSound (with_change f k key)
sound_change f keeps k key stays sound = record {
  root = has_changed f keeps k.nodes key 1 1 sound.root;
  below = λ id some. sound.below id (some_before (k.nodes id) (changed f k.nodes key id) (after_change f keeps k.nodes key id) some);
  numbered = λ inode id is. elim (put_at k.nodes key (option_map f (k.nodes key)) id) [
    | inl same ↦ subst (Lives inode) (sym same.1)
        (lives_changed f keeps inode (k.nodes key) stays
        (subst (λ (i : ℕ). Lives inode (k.nodes i)) (sym same.0) (sound.numbered inode id is)))
    | inr apart ↦ subst (Lives inode) (sym apart.1) (sound.numbered inode id is)
  ];
  leads = λ id facts is lives. elim (put_at k.nodes key (option_map f (k.nodes key)) id) [
    | inl same ↦ own id facts same.0 (sym same.1 ∙ is) lives
    | inr apart ↦ sound.leads id facts (sym apart.1 ∙ is) lives
  ];
} where
  own : (id : ℕ) (facts : Facts) → key ≡ id → option_map f (k.nodes key) ≡ Some facts → is_stale facts ≡ false
      → k.numbers facts.inode ≡ Some id
  own id facts at is lives =
      let was = came_from f (k.nodes key) facts is in
      let live : is_stale was.0 ≡ false = sym (stays was.0 was.1) ∙ ap is_stale was.2 ∙ lives in
      let inodes : facts.inode ≡ was.0.inode = sym (ap (λ (x : Facts). x.inode) was.2) ∙ (keeps was.0).0 in
      ap k.numbers inodes ∙ sound.leads key was.0 was.1 live ∙ ap Some at

-- where something is at a number, it isn't the next one
not_next : (k : Known) → IsSound k → (id : ℕ) → IsSome (k.nodes id) → k.next ≢ id
not_next k sound id some e = absurd (omega (arith, sound.below id some, e))

put_other : {X : Type 0} (table : ℕ → Option X) (key : ℕ) (x : Option X) (other : ℕ) → key ≢ other → put table key x other ≡ table other
put_other table key x other differ = elim (put_at table key x other) [
  | inl same ↦ absurd (differ same.0)
  | inr apart ↦ apart.1
]

sound_new : (k : Known) (inode : ℕ) (kind : NodeKind) → k.numbers inode ≡ None → IsSound k → IsSound (told_as k inode kind None)
sound_new k inode kind none sound = record {
  root = subst (HasInode 1) (sym (other 1 (has_some 1 (k.nodes 1) sound.root))) sound.root;
  below = λ id some. elim (put_at k.nodes k.next (Some first) id) [
    | inl same ↦ omega (arith, same.0)
    | inr apart ↦ omega (arith, sound.below id (subst IsSome apart.1 some))
  ];
  numbered = λ number id is. elim (put_at k.numbers inode (Some k.next) number) [
    | inl same ↦ own number id same.0 (sym same.1 ∙ is)
    | inr apart ↦ stays number id (sound.numbered number id (sym apart.1 ∙ is))
  ];
  leads = λ id facts is lives. elim (put_at k.nodes k.next (Some first) id) [
    | inl same ↦ to_new id facts same.0 (sym same.1 ∙ is)
    | inr apart ↦ to_old id facts (sound.leads id facts (sym apart.1 ∙ is) lives)
  ];
} where
  first : Facts
  first = told_first inode kind

  other : (id : ℕ) → IsSome (k.nodes id) → put k.nodes k.next (Some first) id ≡ k.nodes id
  other id some = put_other k.nodes k.next (Some first) id (not_next k sound id some)

  stays : (number id : ℕ) → Lives number (k.nodes id) → Lives number (put k.nodes k.next (Some first) id)
  stays number id lives =
      subst (Lives number) (sym (other id (has_some number (k.nodes id) (lives_has number (k.nodes id) lives)))) lives

  own : (number id : ℕ) → inode ≡ number → Some k.next ≡ Some id → Lives number (put k.nodes k.next (Some first) id)
  own number id same is =
      let at : k.next ≡ id = cc in
      elim (put_at k.nodes k.next (Some first) id) [
        | inl there ↦ subst (Lives number) (sym there.1) (same, refl)
        | inr apart ↦ absurd (apart.0 at)
      ]

  to_new : (id : ℕ) (facts : Facts) → k.next ≡ id → Some first ≡ Some facts → put k.numbers inode (Some k.next) facts.inode ≡ Some id
  to_new id facts at is =
      let same : first ≡ facts = cc in
      let inodes : inode ≡ facts.inode = ap (λ (x : Facts). x.inode) same in
      elim (put_at k.numbers inode (Some k.next) facts.inode) [
        | inl there ↦ there.1 ∙ ap Some at
        | inr apart ↦ absurd (apart.0 inodes)
      ]

  to_old : (id : ℕ) (facts : Facts) → k.numbers facts.inode ≡ Some id → put k.numbers inode (Some k.next) facts.inode ≡ Some id
  to_old id facts is = put_other k.numbers inode (Some k.next) facts.inode apart ∙ is where
    apart : inode ≢ facts.inode
    apart same =
        let both : Some id ≡ None = sym is ∙ ap k.numbers (sym same) ∙ none in
        absurd (clash both) where
          clash : Some id ≡ None → ⊥
          clash e = cc

sound_told : (k : Known) (inode : ℕ) (kind : NodeKind) (o : Option ℕ) → k.numbers inode ≡ o
    → IsSound k → IsSound (told_as k inode kind o)
sound_told k inode kind None is sound = sound_new k inode kind is sound
sound_told k inode kind (Some key) is sound = sound_change told_again (λ facts. (refl, refl)) k key stays sound where
  live : (o : Option Facts) (facts : Facts) → o ≡ Some facts → Lives inode o → is_stale facts ≡ false
  live None facts e lives = absurd lives
  live (Some it) facts e lives =
      let same : it ≡ facts = cc in
      subst (λ (x : Facts). is_stale x ≡ false) same lives.1

  stays : Stays told_again (k.nodes key)
  stays facts e = sym (live (k.nodes key) facts e (sound.numbered inode key is))

-- an inode that has a number still, where one was let go, has another one
number_left : (numbers : ℕ → Option ℕ) (inode key other id : ℕ) (o : Option ℕ)
    → numbers inode ≡ o → let_go_as numbers inode key o other ≡ Some id
    → (numbers other ≡ Some id) × (inode ≡ other → key ≢ id)
number_left numbers inode key other id None none is = (is, λ same e. clash same) where
  clash : inode ≡ other → ⊥
  clash same =
      let there : numbers other ≡ None = ap numbers (sym same) ∙ none in
      let both : Some id ≡ None = sym is ∙ there in
      cc
number_left numbers inode key other id (Some own) there is = elim (eqb_tells own key) [
  | inl same ↦ went same.1 (subst (λ (b : Bool). (if b then put numbers inode None else numbers) other ≡ Some id) same.0 is)
  | inr apart ↦ stayed apart.1 (subst (λ (b : Bool). (if b then put numbers inode None else numbers) other ≡ Some id) apart.0 is)
] where
  went : own ≡ key → put numbers inode None other ≡ Some id → (numbers other ≡ Some id) × (inode ≡ other → key ≢ id)
  went same left = elim (put_at numbers inode None other) [
    | inl gone ↦ absurd (clash (sym gone.1 ∙ left))
    | inr apart ↦ (sym apart.1 ∙ left, λ e. absurd (apart.0 e))
  ] where
    clash : None ≡ Some id → ⊥
    clash e = cc

  stayed : own ≢ key → numbers other ≡ Some id → (numbers other ≡ Some id) × (inode ≡ other → key ≢ id)
  stayed differ left = (left, λ same e. differ (equal same ∙ sym e)) where
    equal : inode ≡ other → own ≡ id
    equal same =
        let both : Some own ≡ Some id = sym there ∙ ap numbers same ∙ left in
        cc

-- one that another node has stays its
number_kept : (numbers : ℕ → Option ℕ) (inode key other id : ℕ) (o : Option ℕ) → numbers inode ≡ o → numbers other ≡ Some id → key ≢ id
    → let_go_as numbers inode key o other ≡ Some id
number_kept numbers inode key other id None none is differ = is
number_kept numbers inode key other id (Some own) there is differ = elim (eqb_tells own key) [
  | inl same ↦ subst (λ (b : Bool). (if b then put numbers inode None else numbers) other ≡ Some id) (sym same.0)
      (put_other numbers inode None other (apart same.1) ∙ is)
  | inr apart ↦ subst (λ (b : Bool). (if b then put numbers inode None else numbers) other ≡ Some id) (sym apart.0) is
] where
  apart : own ≡ key → inode ≢ other
  apart same at =
      let both : Some own ≡ Some id = sym there ∙ ap numbers at ∙ is in
      let equal : own ≡ id = cc in
      differ (sym same ∙ equal)

-- A node goes, or its inode may be another file's: its inode's number is let go.
sound_apart : (k : Known) (key : ℕ) (facts : Facts) (x : Option Facts) (inode : ℕ) → k.nodes key ≡ Some facts → facts.inode ≡ inode
    → (key ≡ 1 → HasInode 1 x) → ((later : Facts) → x ≡ Some later → is_stale later ≡ true) → IsSound k
    → IsSound (record k { nodes = put k.nodes key x; numbers = let_go k.numbers inode key })
sound_apart k key facts x inode there at rooted dead sound = record {
  root = elim (put_at k.nodes key x 1) [
    | inl same ↦ subst (HasInode 1) (sym same.1) (rooted same.0)
    | inr apart ↦ subst (HasInode 1) (sym apart.1) sound.root
  ];
  below = λ id some. elim (put_at k.nodes key x id) [
    | inl same ↦ subst (λ (i : ℕ). i < k.next) same.0 (sound.below key (subst IsSome (sym there) refl))
    | inr apart ↦ sound.below id (subst IsSome apart.1 some)
  ];
  numbered = λ number id is.
      let was : (k.numbers number ≡ Some id) × (inode ≡ number → key ≢ id) =
      number_left k.numbers inode key number id (k.numbers inode) refl is in
      let differ : key ≢ id = apart_from number id was.0 was.1 in
      subst (Lives number) (sym (put_other k.nodes key x id differ)) (sound.numbered number id was.0);
  leads = λ id later is lives. elim (put_at k.nodes key x id) [
    | inl same ↦ absurd (clash later (dead later (sym same.1 ∙ is)) lives)
    | inr apart ↦ number_kept k.numbers inode key later.inode id (k.numbers inode) refl
        (sound.leads id later (sym apart.1 ∙ is) lives) apart.0
  ];
} where
  clash : (later : Facts) → is_stale later ≡ true → is_stale later ≡ false → ⊥
  clash later stale lives =
      let e : true ≡ false = sym stale ∙ lives in
      cc

  apart_from : (number id : ℕ) → k.numbers number ≡ Some id → (inode ≡ number → key ≢ id) → key ≢ id
  apart_from number id is differ e =
      let lives : Lives number (Some facts) = subst (Lives number) (ap k.nodes (sym e) ∙ there) (sound.numbered number id is) in
      differ (sym at ∙ lives.0) e

sound_dropped : (k : Known) (key : ℕ) (o : Option Facts) → k.nodes key ≡ o → IsSound k → IsSound (dropped_as k key o)
sound_dropped k key None there sound = sound
sound_dropped k key (Some facts) there sound = elim (eqb_tells key 1) [
  | inl root ↦ subst (λ (b : Bool). IsSound (if b || is_used facts then k else gone)) (sym root.0) sound
  | inr apart ↦ subst (λ (b : Bool). IsSound (if b || is_used facts then k else gone)) (sym apart.0) (either apart.1 (is_used facts))
] where
  gone : Known
  gone = record k { nodes = put k.nodes key None; numbers = let_go k.numbers facts.inode key }

  clash : (later : Facts) → None ≡ Some later → is_stale later ≡ true
  clash later e = absurd (never e) where
    never : None ≡ Some later → ⊥
    never e = cc

  either : key ≢ 1 → (b : Bool) → IsSound (if b then k else gone)
  either differ true = sound
  either differ false = sound_apart k key facts None facts.inode there refl (λ e. absurd (differ e)) clash sound

-- what is changed of a node may leave its inode to another file
sound_settled : (f : Facts → Facts) → Keeps f → ((facts : Facts) → is_stale facts ≡ true → is_stale (f facts) ≡ true)
    → (k : Known) (key : ℕ) → IsSound k → IsSound (settled (with_change f k key) key)
sound_settled f keeps lapses k key sound =
    subst (λ (o : Option Facts). IsSound (settled_as later key o)) (sym (put_there k.nodes key (option_map f (k.nodes key))))
    (each (k.nodes key) refl) where
      later : Known
      later = with_change f k key

      none : k.nodes key ≡ None → Stays f (k.nodes key)
      none is facts e = absurd (never (sym is ∙ e)) where
        never : None ≡ Some facts → ⊥
        never e = cc

      stays : (facts : Facts) → k.nodes key ≡ Some facts → is_stale (f facts) ≡ false → Stays f (k.nodes key)
      stays facts is live it e =
          let same : facts ≡ it = cc (sym is ∙ e) in
          subst (λ (x : Facts). is_stale (f x) ≡ is_stale x) same (live ∙ sym (was (is_stale facts) refl)) where
            was : (b : Bool) → is_stale facts ≡ b → is_stale facts ≡ false
            was false e = e
            was true e = absurd (clash (sym (lapses facts e) ∙ live)) where
              clash : true ≡ false → ⊥
              clash e = cc

      dead : (facts : Facts) → k.nodes key ≡ Some facts → is_stale (f facts) ≡ true → (it : Facts) → option_map f (k.nodes key) ≡ Some it
          → is_stale it ≡ true
      dead facts is stale it e =
          let both : Some (f facts) ≡ Some it = sym (ap (option_map f) is) ∙ e in
          let same : f facts ≡ it = cc in
          subst (λ (x : Facts). is_stale x ≡ true) same stale

      root : key ≡ 1 → HasInode 1 (option_map f (k.nodes key))
      root e = has_same 1 (k.nodes key) (option_map f (k.nodes key)) (same_changed f keeps (k.nodes key)) (some (k.nodes key) has) has where
        has : HasInode 1 (k.nodes key)
        has = subst (λ (i : ℕ). HasInode 1 (k.nodes i)) (sym e) sound.root

        some : (o : Option Facts) → HasInode 1 o → IsSome (option_map f o)
        some None has = absurd has
        some (Some facts) has = refl

      each : (o : Option Facts) → k.nodes key ≡ o → IsSound (settled_as later key (option_map f o))
      each None is = sound_change f keeps k key (none is) sound
      each (Some facts) is = either (is_stale (f facts)) refl where
        either : (b : Bool) → is_stale (f facts) ≡ b
            → IsSound (if b then record later { numbers = let_go k.numbers (f facts).inode key } else later)
        either true stale = sound_apart k key facts (option_map f (k.nodes key)) (f facts).inode is (sym (keeps facts).0) root
            (dead facts is stale) sound
        either false live = sound_change f keeps k key (stays facts is live) sound

stays_opened : (descriptor : Option Descriptor) (o : Option Facts) → Stays (opens_one descriptor) o
stays_opened descriptor o facts e = either (is_stale facts) refl where
  more : Facts
  more = record facts { opens = min (facts.opens + 1) (2 ^ 32 - 1); descriptor = option_or descriptor facts.descriptor }

  handles : nat_lt 0 (min (facts.opens + 1) (2 ^ 32 - 1)) ≡ true
  handles = grind (arith, nat_tests)

  live : (gone : Bool) → gone && not true ≡ false
  live true = refl
  live false = refl

  either : (b : Bool) → is_stale facts ≡ b → is_stale (if b then facts else more) ≡ is_stale facts
  either true is = refl
  either false is = ap (λ (b : Bool). facts.gone && not b) handles ∙ live facts.gone ∙ sym is

-- what is stale has no handles, and is gone
no_handles : (gone handles : Bool) → (gone && not handles) ≡ true → (gone ≡ true) × (handles ≡ false)
no_handles true false e = (refl, refl)
no_handles true true e = absurd (clash e) where
  clash : false ≡ true → ⊥
  clash e = cc
no_handles false handles e = absurd (clash e) where
  clash : false ≡ true → ⊥
  clash e = cc

lapses_closed : (facts : Facts) → is_stale facts ≡ true → is_stale (closes_one facts) ≡ true
lapses_closed facts stale =
    let was = no_handles facts.gone (nat_lt 0 facts.opens) stale in
    let last : nat_lt 0 (facts.opens - 1) ≡ false = grind (arith, nat_tests, was.1) in
    subst (λ (b : Bool). is_stale (if b then record facts { opens = facts.opens - 1 } else record facts { opens = 0; descriptor = None })
    ≡ true) (sym last) (ap (λ (gone : Bool). gone && not (nat_lt 0 0)) was.0)

lapses_gone : (facts : Facts) → is_stale facts ≡ true → is_stale (goes facts) ≡ true
lapses_gone facts stale =
    let was = no_handles facts.gone (nat_lt 0 facts.opens) stale in
    ap (λ (b : Bool). true && not b) was.1

sound_step : (k l : Known) → Step k l → IsSound k → IsSound l
sound_step k l (Told inode kind) sound = sound_told k inode kind (k.numbers inode) refl sound
sound_step k l (Forgotten key count) sound =
    let less_one : Known = with_change (forgets count) k key in
    sound_dropped less_one key (less_one.nodes key) refl
    (sound_change (forgets count) (λ facts. (refl, refl)) k key (λ facts e. refl) sound)
sound_step k l (Opened key descriptor) sound =
    sound_change (opens_one descriptor) (keeps_opens descriptor) k key (stays_opened descriptor (k.nodes key)) sound
sound_step k l (Closed key) sound =
    let left : Known = settled (with_change closes_one k key) key in
    sound_dropped left key (left.nodes key) refl (sound_settled closes_one keeps_closes lapses_closed k key sound)
sound_step k l (Given key) sound =
    sound_change (λ facts. record facts { descriptor = None }) (λ facts. (refl, refl)) k key (λ facts e. refl) sound
sound_step k l (Got key descriptor) sound =
    sound_change (λ facts. record facts { descriptor = Some descriptor }) (λ facts. (refl, refl)) k key (λ facts e. refl) sound
sound_step k l (Lost inode) sound = either (k.numbers inode) where
  either : (o : Option ℕ) → IsSound (lost_as k o)
  either None = sound
  either (Some key) = sound_settled goes (λ facts. (refl, refl)) lapses_gone k key sound

sound_first : IsSound at_first
sound_first = record {
  root = refl;
  below = λ id some. elim (put_at {X = Facts} (λ (other : ℕ). None) 1 (Some root) id) [
    | inl same ↦ omega (arith, same.0)
    | inr apart ↦ absurd (clash (subst IsSome apart.1 some))
  ];
  numbered = λ inode id is. elim (put_at {X = ℕ} (λ (other : ℕ). None) 1 (Some 1) inode) [
    | inl same ↦ at inode id same.0 (sym same.1 ∙ is)
    | inr apart ↦ absurd (differ id (sym apart.1 ∙ is))
  ];
  leads = λ id facts is lives. elim (put_at {X = Facts} (λ (other : ℕ). None) 1 (Some root) id) [
    | inl same ↦ to_root id facts same.0 (sym same.1 ∙ is)
    | inr apart ↦ absurd (nothing facts (sym apart.1 ∙ is))
  ];
} where
  nothing : (facts : Facts) → None ≡ Some facts → ⊥
  nothing facts e = cc

  to_root : (id : ℕ) (facts : Facts) → 1 ≡ id → Some root ≡ Some facts → at_first.numbers facts.inode ≡ Some id
  to_root id facts at is =
      let same : root ≡ facts = cc in
      ap (λ (x : Facts). at_first.numbers x.inode) (sym same) ∙ ap Some at

  clash : false ≡ true → ⊥
  clash e = cc

  differ : (id : ℕ) → None ≡ Some id → ⊥
  differ id e = cc

  at : (inode id : ℕ) → 1 ≡ inode → Some 1 ≡ Some id → Lives inode (at_first.nodes id)
  at inode id same is =
      let one : 1 ≡ id = cc in
      subst (λ (i : ℕ). Lives inode (at_first.nodes i)) one (same, refl)

pub stays_sound : StaysSound
stays_sound k steps = each at_first k steps sound_first where
  each : (k l : Known) → Steps k l → IsSound k → IsSound l
  each k l Starts sound = sound
  each k l (Then m n steps step) sound = sound_step m n step (each k m steps sound)

-- ---- the number by which a node is told

abbrev IsTold : ℕ → Option Facts → Type 0
IsTold inode o = IsSomeAnd o (λ facts. (facts.inode ≡ inode) × (facts.gone ≡ false))

pub told_by_its_number : IsToldByItsNumber
told_by_its_number k sound inode kind = either (k.numbers inode) refl where
  again : (o : Option Facts) → Lives inode o → IsTold inode (option_map told_again o)
  again None lives = absurd lives
  again (Some facts) lives = (lives.0, refl)

  either : (o : Option ℕ) → k.numbers inode ≡ o → IsTold inode ((told_as k inode kind o).nodes (unwrap_or o k.next))
  either None is = elim (put_at k.nodes k.next (Some (told_first inode kind)) k.next) [
    | inl same ↦ subst (IsTold inode) (sym same.1) (refl, refl)
    | inr apart ↦ absurd (apart.0 refl)
  ]
  either (Some key) is = elim (put_at k.nodes key (option_map told_again (k.nodes key)) key) [
    | inl same ↦ subst (IsTold inode) (sym same.1) (again (k.nodes key) (sound.numbered inode key is))
    | inr apart ↦ absurd (apart.0 refl)
  ]
