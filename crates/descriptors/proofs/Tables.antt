-- Tables changed at one descriptor or one number, as open files and descriptors.
use Rattle.std.proofs.Common.{◌≡◌, ◌≢◌, ◌<◌, ℕ, List, [], length, set, get_or, replicate, Option, None, sym, ap, ◌∙◌, arith, inl, inr}
use Rattle.std.proofs.lemmas.Bool.{cases_eq, cases_lt}
use Rattle.std.proofs.lemmas.List.{get_or-set_same, get_or-set_other, get_or_past, get_or-replicate, length-replicate}
use Rattle.lemmas.specs.Sums.{put}
use Rattle.tree.specs.Tree.{OpenFile}
use Rattle.lemmas.proofs.Maps.{put-same, put-other}
use Rattle.descriptors.specs.Files.{Files}
use Rattle.descriptors.specs.Table.{Table, session_at, opened_at, number_at}

-- the table with another number at a descriptor
abbrev pub with_number : Table → ℕ → ℕ → Option ℕ → Table
with_number t s fd x = record t { sessions = set t.sessions s (set (session_at t s) fd x) }

-- the table with another open file at a number
abbrev pub with_file : Table → ℕ → Option OpenFile → Table
with_file t k o = record t { opened = set t.opened k o }

-- the same open files and descriptors
pub same_files : (f g : Files) → ((k : ℕ) → f.opened k ≡ g.opened k) → ((s fd : ℕ) → f.descriptors s fd ≡ g.descriptors s fd) → f ≡ g
same_files f g p q = λ i. record { opened = λ k. p k i; descriptors = λ s fd. q s fd i }

-- the number at the changed descriptor
pub number-here : (t : Table) (s fd : ℕ) (x : Option ℕ) → s < length t.sessions → fd < length (session_at t s) → number_at (with_number t s fd x) s fd ≡ x
number-here t s fd x l m = ap (λ (row : List (Option ℕ)). get_or row fd None) (get_or-set_same t.sessions s (set (session_at t s) fd x) [] l) ∙ get_or-set_same (session_at t s) fd x None m

-- at another descriptor of the session
pub number-beside : (t : Table) (s fd gd : ℕ) (x : Option ℕ) → s < length t.sessions → gd ≢ fd → number_at (with_number t s fd x) s gd ≡ number_at t s gd
number-beside t s fd gd x l d = ap (λ (row : List (Option ℕ)). get_or row gd None) (get_or-set_same t.sessions s (set (session_at t s) fd x) [] l) ∙ get_or-set_other (session_at t s) fd gd x None d

-- and in another session
pub number-apart : (t : Table) (s r fd gd : ℕ) (x : Option ℕ) → r ≢ s → number_at (with_number t s fd x) r gd ≡ number_at t r gd
number-apart t s r fd gd x d = ap (λ (row : List (Option ℕ)). get_or row gd None) (get_or-set_other t.sessions s r (set (session_at t s) fd x) [] d)

-- so it is changed at the one place
pub number_after : (t : Table) (s fd : ℕ) (x : Option ℕ) → s < length t.sessions → fd < length (session_at t s) → (r gd : ℕ)
    → number_at (with_number t s fd x) r gd ≡ put (number_at t) s (put (number_at t s) fd x) r gd
number_after t s fd x l m r gd = elim (cases_eq r s) [
  | inl e ↦
      ap (λ (n : ℕ). number_at (with_number t s fd x) n gd) e
      ∙ elim (cases_eq gd fd) [
        | inl f ↦ ap (number_at (with_number t s fd x) s) f ∙ number-here t s fd x l m ∙ sym (ap (put (number_at t s) fd x) f ∙ put-same (number_at t s) fd x)
        | inr d ↦ number-beside t s fd gd x l d ∙ sym (put-other (number_at t s) fd x gd d)
      ]
      ∙ sym (ap (λ (n : ℕ). put (number_at t) s (put (number_at t s) fd x) n gd) e ∙ ap (λ (g : ℕ → Option ℕ). g gd) (put-same (number_at t) s (put (number_at t s) fd x)))
  | inr d ↦ number-apart t s r fd gd x d ∙ sym (ap (λ (g : ℕ → Option ℕ). g gd) (put-other (number_at t) s (put (number_at t s) fd x) r d))
]

-- the open file at the changed number
pub opened-here : (t : Table) (k : ℕ) (o : Option OpenFile) → k < length t.opened → opened_at (with_file t k o) k ≡ o
opened-here t k o l = get_or-set_same t.opened k o None l

-- and at another
pub opened-apart : (t : Table) (k j : ℕ) (o : Option OpenFile) → j ≢ k → opened_at (with_file t k o) j ≡ opened_at t j
opened-apart t k j o d = get_or-set_other t.opened k j o None d

-- so it is changed at the one number
pub opened_after : (t : Table) (k : ℕ) (o : Option OpenFile) → k < length t.opened → (j : ℕ) → opened_at (with_file t k o) j ≡ put (opened_at t) k o j
opened_after t k o l j = elim (cases_eq j k) [
  | inl e ↦ ap (opened_at (with_file t k o)) e ∙ opened-here t k o l ∙ sym (ap (put (opened_at t) k o) e ∙ put-same (opened_at t) k o)
  | inr d ↦ opened-apart t k j o d ∙ sym (put-other (opened_at t) k o j d)
]

-- nothing
abbrev pub nothing : {X : Type 0} → Option X
nothing = None

-- a list of nothing has nothing at each place
pub none_at : {X : Type 0} (n k : ℕ) → get_or (replicate n (nothing {X = X})) k nothing ≡ nothing
none_at {X} n k = elim (cases_lt k n) [
  | inl l ↦ get_or-replicate n k nothing nothing l
  | inr l ↦ let len : length (replicate n (nothing {X = X})) ≡ n = length-replicate n nothing in get_or_past (replicate n nothing) k nothing (omega (arith, len, l))
]
