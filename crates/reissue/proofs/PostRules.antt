-- Posts in order are acts that the rules allow.
use Rattle.std.proofs.Common.{◌≡◌, ℕ, suc, ◌+◌, ◌-◌, List, [], ◌∷◌, ◌++◌, length, drop, map, Bool, true, false, refl, sym, ◌∙◌, ap, subst, inl, inr, arith, Some, None, append_assoc}
use Rattle.std.proofs.lemmas.Bool.{cond-true, eq-eqb}
use Rattle.std.proofs.lemmas.Bool.Decides.{leb_tells, nat_tests}
use Rattle.std.specs.Prelude.{nat_lt, ◌==◌}
use Rattle.message.specs.declared.endpoint.Endpoint.{Endpoint}
use Rattle.message.specs.declared.BlockRequest.{BlockRequest}
use Rattle.records.specs.Marks.{Mark, Issued}
use Rattle.records.specs.Open.{without_id}
use Rattle.records.specs.Told.{Told, Posted, Complained, Received}
use Rattle.records.specs.Area.{Area, FitsArea}
use Rattle.records.specs.Acts.{Act, AtLink, Outbox, KeepsRules, outbox_after, target, told_of}
use Rattle.records.proofs.ActLaws.{acts_compose}
use Rattle.reissue.specs.declared.pending.Pending.{Pending}
use Rattle.reissue.specs.Entries.{AreRising, AllIn, request_of}
use Rattle.reissue.specs.Posts.{ArePostedTo, accepted_of}
use Rattle.reissue.specs.Rules.{at_link}
use Rattle.reissue.proofs.Inside.{IsIn, fits_area}
use Rattle.reissue.proofs.Tickets.{rising_lower}
use Rattle.reissue.proofs.Order.{without_lower}

-- both one after the other
at_link_append : (xs ys : List Told) → at_link (xs ++ ys) ≡ at_link xs ++ at_link ys
at_link_append [] ys = refl
at_link_append (x ∷ xs) ys = ap (λ (l : List Act). AtLink x ∷ l) (at_link_append xs ys)

-- what was told by these acts
pub told_at_link : (told : List Told) → told_of (at_link told) ≡ told
told_at_link [] = refl
told_at_link (t ∷ told) = ap (λ (l : List Told). t ∷ l) (told_at_link told)

-- what is owed with no complaint
abbrev pub box : List BlockRequest → List BlockRequest → Bool → Outbox
box ns us stopped = record { never_issued = ns; unposted = us; stopped = stopped; complaint = None }

-- the same is owed
pub box_same : (ns ms us vs : List BlockRequest) (b c : Bool) → ns ≡ ms → us ≡ vs → b ≡ c → box ns us b ≡ box ms vs c
box_same ns ms us vs b c n u s =
    ap (λ (x : List BlockRequest). box x us b) n ∙ ap (λ (x : List BlockRequest). box ms x b) u ∙ ap (λ (x : Bool). box ms vs x) s

-- the first with its own id
without_head : (r : BlockRequest) (rs : List BlockRequest) → without_id r.id (r ∷ rs) ≡ rs
without_head r rs = cond-true (r.id == r.id) rs (r ∷ without_id r.id rs) (eq-eqb r.id r.id refl)

-- one more was accepted
accepted_more : (told : List Told) (to : Endpoint) (r : BlockRequest) → accepted_of (told ++ Posted to r true ∷ []) ≡ accepted_of told + 1
accepted_more [] to r = refl
accepted_more (Posted t s true ∷ told) to r = ap (λ (n : ℕ). n + 1) (accepted_more told to r)
accepted_more (Posted t s false ∷ told) to r = accepted_more told to r
accepted_more (Complained e ∷ told) to r = accepted_more told to r
accepted_more (Received m ∷ told) to r = accepted_more told to r

-- a first post that was accepted, and then these
pub record Then (area : Area) (posts : List Told) (marks : List Mark) (to : Endpoint) (r : BlockRequest) (ns ms us : List BlockRequest) : Type 0 where
  pub keeps : KeepsRules area (at_link (posts ++ Posted to r true ∷ [])) marks (box ns (r ∷ us) false)
  pub owes : outbox_after (at_link (posts ++ Posted to r true ∷ [])) marks (box ns (r ∷ us) false)
      ≡ outbox_after (at_link posts) (Issued r to ∷ marks) (box ms us false)

-- an accepted post, and then the others
post_then : (area : Area) (posts : List Told) (marks : List Mark) (to : Endpoint) (r : BlockRequest) (ns ms us : List BlockRequest)
    → target marks ≡ Some to → FitsArea area r → without_id r.id ns ≡ ms
    → KeepsRules area (at_link posts) (Issued r to ∷ marks) (box ms us false)
    → Then area posts marks to r ns ms us
post_then area posts marks to r ns ms us started fits left keeps =
    let one : List Act = AtLink (Posted to r true) ∷ [] in
    let o = box ns (r ∷ us) false in
    let after : box (without_id r.id ns) (without_id r.id (r ∷ us)) false ≡ box ms us false =
    box_same (without_id r.id ns) ms (without_id r.id (r ∷ us)) us false false left (without_head r us) refl in
    let c = acts_compose area (at_link posts) (AtLink (Posted to r true) ∷ []) marks o in
    let first : KeepsRules area (AtLink (Posted to r true) ∷ []) marks o =
    (tt, record { complained = refl; endpoint = started; not_stopped = refl; first = refl; fits = fits }) in
    let second : KeepsRules area (at_link posts) (Issued r to ∷ marks) (box (without_id r.id ns) (without_id r.id (r ∷ us)) false) =
    subst (λ (x : Outbox). KeepsRules area (at_link posts) (Issued r to ∷ marks) x) (sym after) keeps in
    record {
      keeps = rw (at_link_append posts (Posted to r true ∷ [])) (c.keep first second);
      owes = rw (at_link_append posts (Posted to r true ∷ [])) (c.owed ∙ ap (λ (x : Outbox). outbox_after (at_link posts) (Issued r to ∷ marks) x) after);
    }

-- the issued ones of those that aren't posted, and then those never issued, were posted
pub record IsPosted (area : Area) (fs ws : List Pending) (marks : List Mark) (before after : List Told) : Type 0 where
  pub posts : List Told
  pub history : after ≡ posts ++ before
  pub keeps : KeepsRules area (at_link posts) marks (box (map request_of ws) (map request_of (fs ++ ws)) false)
  pub owes : outbox_after (at_link posts) marks (box (map request_of ws) (map request_of (fs ++ ws)) false)
      ≡ box (map request_of (drop (accepted_of posts - length fs) ws)) (map request_of (drop (accepted_of posts) (fs ++ ws)))
      (nat_lt (accepted_of posts) (length (fs ++ ws)))

-- one before the others
joined : (posts : List Told) (t : Told) (before after : List Told) → after ≡ posts ++ (t ∷ before) → after ≡ (posts ++ t ∷ []) ++ before
joined posts t before after h = h ∙ sym (append_assoc posts (t ∷ []) before)

-- less by one on both sides
less_suc : (k n : ℕ) → nat_lt k n ≡ nat_lt (suc k) (suc n)
less_suc k n = elim (leb_tells n k) [ inl h ↦ grind (arith, nat_tests) | inr h ↦ grind (arith, nat_tests) ]

-- none is less than one
zero_less : (n : ℕ) → true ≡ nat_lt 0 (suc n)
zero_less n = grind (arith, nat_tests)

-- the end of a rising list rises
rising_suffix : (low ids : ℕ) (fs ws : List Pending) → AreRising low ids (fs ++ ws) → AreRising low ids ws
rising_suffix low ids [] ws h = h
rising_suffix low ids (f ∷ fs) ws h = rising_lower low f.request.id ids ws (omega (arith, h.0)) (rising_suffix f.request.id ids fs ws h.2)

-- the first is refused
refused_first : (area : Area) (to : Endpoint) (fs ws : List Pending) (p : Pending) (ps : List Pending) (marks : List Mark) (before after : List Told)
    → fs ++ ws ≡ p ∷ ps → target marks ≡ Some to → IsIn area p
    → after ≡ Posted to p.request false ∷ before → IsPosted area fs ws marks before after
refused_first area to fs ws p ps marks before after is started m e = record {
  posts = Posted to p.request false ∷ [];
  history = e;
  keeps = (tt, record { complained = refl; endpoint = started; not_stopped = refl; first = rw is refl; fits = fits_area area p m });
  owes =
      let none : 0 - length fs ≡ 0 = omega arith in
      box_same (map request_of ws) (map request_of (drop (0 - length fs) ws)) (map request_of (fs ++ ws)) (map request_of (fs ++ ws)) true
      (nat_lt 0 (length (fs ++ ws))) (rw none refl) refl (rw is (zero_less (length ps)));
}

-- posts in order, up to the first that is refused, keep the rules
pub posted_keep : (area : Area) (low ids : ℕ) (to : Endpoint) (fs ws : List Pending) (marks : List Mark) (before after : List Told)
    → AreRising low ids (fs ++ ws) → AllIn area (fs ++ ws) → target marks ≡ Some to
    → ArePostedTo to (map request_of (fs ++ ws)) before after → IsPosted area fs ws marks before after
posted_keep area low ids to [] [] marks before after h m s e = record { posts = []; history = e; keeps = tt; owes = refl }
posted_keep area low ids to [] (w ∷ ws) marks before after h m s (inl e) = refused_first area to [] (w ∷ ws) w ws marks before after refl s m.0 e
posted_keep area low ids to [] (w ∷ ws) marks before after h m s (inr e) =
    let x = posted_keep area w.request.id ids to [] ws (Issued w.request to ∷ marks) (Posted to w.request true ∷ before) after h.2 m.1 s e in
    let t = post_then area x.posts marks to w.request (map request_of (w ∷ ws)) (map request_of ws) (map request_of ws) s (fits_area area w m.0)
    (without_head w.request (map request_of ws)) x.keeps in
    let k : accepted_of (x.posts ++ Posted to w.request true ∷ []) ≡ suc (accepted_of x.posts) = omega (arith, accepted_more x.posts to w.request) in
    let same : accepted_of x.posts - 0 ≡ accepted_of x.posts = omega arith in
    let next : suc (accepted_of x.posts) - 0 ≡ suc (accepted_of x.posts) = omega arith in
    record {
      posts = x.posts ++ Posted to w.request true ∷ [];
      history = joined x.posts (Posted to w.request true) before after x.history;
      keeps = t.keeps;
      owes = t.owes ∙ x.owes ∙ rw (k, same, next)
          (box_same (map request_of (drop (accepted_of x.posts) ws)) (map request_of (drop (accepted_of x.posts) ws))
          (map request_of (drop (accepted_of x.posts) ws)) (map request_of (drop (accepted_of x.posts) ws))
          (nat_lt (accepted_of x.posts) (length ws)) (nat_lt (suc (accepted_of x.posts)) (suc (length ws))) refl refl (less_suc (accepted_of x.posts) (length ws)));
    }
posted_keep area low ids to (f ∷ fs) ws marks before after h m s (inl e) = refused_first area to (f ∷ fs) ws f (fs ++ ws) marks before after refl s m.0 e
posted_keep area low ids to (f ∷ fs) ws marks before after h m s (inr e) =
    let x = posted_keep area f.request.id ids to fs ws (Issued f.request to ∷ marks) (Posted to f.request true ∷ before) after h.2 m.1 s e in
    let t = post_then area x.posts marks to f.request (map request_of ws) (map request_of ws) (map request_of (fs ++ ws)) s (fits_area area f m.0)
    (without_lower f.request.id f.request.id ids ws (rising_suffix f.request.id ids fs ws h.2) (omega arith)) x.keeps in
    let k : accepted_of (x.posts ++ Posted to f.request true ∷ []) ≡ suc (accepted_of x.posts) = omega (arith, accepted_more x.posts to f.request) in
    let one : suc (accepted_of x.posts) - suc (length fs) ≡ accepted_of x.posts - length fs = omega arith in
    record {
      posts = x.posts ++ Posted to f.request true ∷ [];
      history = joined x.posts (Posted to f.request true) before after x.history;
      keeps = t.keeps;
      owes = t.owes ∙ x.owes ∙ rw (k, one)
          (box_same (map request_of (drop (accepted_of x.posts - length fs) ws)) (map request_of (drop (accepted_of x.posts - length fs) ws))
          (map request_of (drop (accepted_of x.posts) (fs ++ ws))) (map request_of (drop (accepted_of x.posts) (fs ++ ws)))
          (nat_lt (accepted_of x.posts) (length (fs ++ ws))) (nat_lt (suc (accepted_of x.posts)) (suc (length (fs ++ ws)))) refl refl
          (less_suc (accepted_of x.posts) (length (fs ++ ws))));
    }
