-- What is left of the pending requests, and what an answer does to what was read.
use Rattle.std.proofs.Common.{◌≡◌, ◌⊎◌, ℕ, suc, zero, ◌+◌, ◌<◌, ◌≤◌, List, [], ◌∷◌, ◌++◌, get_or, length, Bool, sym, ap, subst, inl, inr, arith, Some}
use Rattle.std.specs.Prelude.{◌||◌, remove}
use Rattle.std.proofs.lemmas.Bool.Decides.{leb_tells}
use Rattle.message.specs.Good.{is_write}
use Rattle.message.specs.declared.BlockRequest.{BlockRequest}
use Rattle.message.specs.declared.BlockReply.{BlockReply}
use Rattle.records.specs.Marks.{Mark, Answered}
use Rattle.records.specs.Open.{asked_by, moved_by}
use Rattle.records.specs.Disk.{bytes_read, is_read, fetches}
use Rattle.reissue.specs.declared.pending.Pending.{Pending}
use Rattle.reissue.specs.Entries.{AllAsk, IsLeft}
use Rattle.reissue.specs.Agrees.{ApartFromAll}
use Rattle.reissue.specs.Closing.{ReadsOn}
use Rattle.reissue.proofs.Joined.{not_within, bytes_read_other}

-- whether a place that the answer didn't cover was read stays
is_read_other : (marks : List Mark) (a : BlockReply) (r : BlockRequest) (n place : ℕ) → asked_by a marks ≡ Some r → moved_by a marks ≡ Some n
    → (place < r.position) ⊎ (r.position + n ≤ place) → is_read (Answered a ∷ marks) place ≡ is_read marks place
is_read_other marks a r n place w m o = rw (m, w) kept where
  kept : (fetches (Some r) (Some n) place || is_read marks place) ≡ is_read marks place
  kept = ap (λ (b : Bool). b || is_read marks place) (not_within (is_write r.kind) r.position n place o)

-- what is left without one was left with it
left_out : (ps : List Pending) (at place : ℕ) → IsLeft (remove ps at) place → IsLeft ps place
left_out [] zero place h = h
left_out [] (suc at) place h = h
left_out (p ∷ ps) zero place h = inr h
left_out (p ∷ ps) (suc at) place h = elim h [ inl l ↦ inl l | inr l ↦ inr (left_out ps at place l) ]

-- what is left with one more is left of it or of the others
pub left_back : (ps : List Pending) (r : Pending) (place : ℕ) → IsLeft (ps ++ r ∷ []) place
    → IsLeft ps place ⊎ ((r.request.position ≤ place) × (place < r.start + r.size))
left_back [] r place h = elim h [ inl l ↦ inr l | inr l ↦ absurd l ]
left_back (p ∷ ps) r place h = elim h [
  | inl l ↦ inl (inl l)
  | inr l ↦ elim (left_back ps r place l) [ inl k ↦ inl (inr k) | inr k ↦ inr k ]
]

-- what is left of the one at a place
left_at : (ps : List Pending) (at place : ℕ) (e : Pending) → at < length ps → e ≡ get_or ps at e
    → e.request.position ≤ place → place < e.start + e.size → IsLeft ps place
left_at [] at place e lt is from to = absurd (omega arith)
left_at (p ∷ ps) zero place e lt is from to =
    inl (subst (λ (q : Pending). (q.request.position ≤ place) × (place < q.start + q.size)) is (from, to))
left_at (p ∷ ps) (suc at) place e lt is from to = inr (left_at ps at place e (omega arith) is from to)

-- what is left of others is outside
left_apart : (e : Pending) (ps : List Pending) (place : ℕ) → ApartFromAll e ps → IsLeft ps place
    → (place < e.start) ⊎ (e.start + e.size ≤ place)
left_apart e [] place a h = absurd h
left_apart e (p ∷ ps) place a h = elim h [
  | inl l ↦ elim a.0.apart [ inl k ↦ inr (omega (arith, k, l.0, p.from)) | inr k ↦ inl (omega (arith, k, l.1)) ]
  | inr l ↦ left_apart e ps place a.1 l
]

-- each asks for something, without one
ask_out : (ps : List Pending) (at : ℕ) → AllAsk ps → AllAsk (remove ps at)
ask_out [] zero h = tt
ask_out [] (suc at) h = tt
ask_out (p ∷ ps) zero h = h.1
ask_out (p ∷ ps) (suc at) h = (h.0, ask_out ps at h.1)

-- and with one more
pub ask_push : (ps : List Pending) (r : Pending) → AllAsk ps → 0 < r.request.count → AllAsk (ps ++ r ∷ [])
ask_push [] r h lt = (lt, tt)
ask_push (p ∷ ps) r h lt = (h.0, ask_push ps r h.1 lt)

-- nothing is read
pub reads_none : (ps us : List Pending) (marks more : List Mark) → us ≡ ps → ((place : ℕ) → bytes_read more place ≡ bytes_read marks place)
    → ((place : ℕ) → is_read more place ≡ is_read marks place) → ReadsOn ps us marks more
reads_none ps us marks more same b r = record {
  others = λ place none. (b place, r place);
  left = λ place l. (subst (λ (x : List Pending). IsLeft x place) same l, r place);
  ask = λ h. subst (λ (x : List Pending). AllAsk x) (sym same) h;
}

-- of the answered one nothing is left
pub reads_out : (ps us : List Pending) (marks : List Mark) (a : BlockReply) (e : Pending) (at n : ℕ)
    → asked_by a marks ≡ Some e.request → moved_by a marks ≡ Some n → n ≤ e.request.count → at < length ps → e ≡ get_or ps at e
    → us ≡ remove ps at → ApartFromAll e us → ReadsOn ps us marks (Answered a ∷ marks)
reads_out ps us marks a e at n w m le lt is items apart = record {
  others = λ place none.
      let out : (place < e.request.position) ⊎ (e.request.position + n ≤ place) = outside place none in
      (bytes_read_other marks a e.request n place w m out, is_read_other marks a e.request n place w m out);
  left = λ place l.
      let out : (place < e.request.position) ⊎ (e.request.position + n ≤ place) = elim (left_apart e us place apart l) [
        | inl k ↦ inl (omega (arith, k, e.from))
        | inr k ↦ inr (omega (arith, k, e.end, le))
      ] in
      (left_out ps at place (subst (λ (x : List Pending). IsLeft x place) items l), is_read_other marks a e.request n place w m out);
  ask = λ h. subst (λ (x : List Pending). AllAsk x) (sym items) (ask_out ps at h);
}
  where
    outside : (place : ℕ) → (IsLeft ps place → ⊥) → (place < e.request.position) ⊎ (e.request.position + n ≤ place)
    outside place none = elim (leb_tells (place + 1) e.request.position) [
      | inl k ↦ inl (omega (arith, k.1))
      | inr k ↦ elim (leb_tells (e.request.position + n) place) [
        | inl j ↦ inr j.1
        | inr j ↦ absurd (none (left_at ps at place e lt is (omega (arith, k.1)) (omega (arith, j.1, le, e.end))))
      ]
    ]

-- its rest goes on
pub reads_rest : (ps vs us : List Pending) (marks : List Mark) (a : BlockReply) (e r : Pending) (at n : ℕ)
    → asked_by a marks ≡ Some e.request → moved_by a marks ≡ Some n → n ≤ e.request.count → at < length ps → e ≡ get_or ps at e
    → vs ≡ remove ps at → us ≡ vs ++ r ∷ [] → ApartFromAll e vs
    → r.start ≡ e.start → r.size ≡ e.size → r.request.position ≡ e.request.position + n → 0 < r.request.count
    → ReadsOn ps us marks (Answered a ∷ marks)
reads_rest ps vs us marks a e r at n w m le lt is gone items apart start size position some =
    let o : ReadsOn ps vs marks (Answered a ∷ marks) = reads_out ps vs marks a e at n w m le lt is gone apart in
    record {
      others = o.others;
      left = λ place l. elim (left_back vs r place (subst (λ (x : List Pending). IsLeft x place) items l)) [
        | inl k ↦ o.left place k
        | inr k ↦ (
          left_at ps at place e lt is (omega (arith, k.0, position)) (omega (arith, k.1, start, size)),
          is_read_other marks a e.request n place w m (inr (omega (arith, k.0, position))),
        )
      ];
      ask = λ h. subst (λ (x : List Pending). AllAsk x) (sym items) (ask_push vs r (o.ask h) some);
    }
