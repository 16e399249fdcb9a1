-- What one step at the link or the table does to agreement with the record.
use Rattle.std.proofs.Common.{◌≡◌, ℕ, suc, zero, ◌+◌, ◌<◌, ◌≤◌, List, [], ◌∷◌, ◌++◌, length, drop, map, get_or, true, false, refl, sym, ◌∙◌, ap, subst, inl, inr, arith, append_assoc, max, Some}
use Rattle.std.proofs.lemmas.List.{drop_more, map-append, length-append, get_or_append_left, length-map, get_or_at}
use Rattle.std.proofs.lemmas.Bool.Decides.{leb_tells}
use Rattle.message.specs.declared.endpoint.Endpoint.{Endpoint}
use Rattle.message.specs.declared.BlockRequest.{BlockRequest}
use Rattle.reissue.specs.declared.pending.Pending.{Pending}
use Rattle.reissue.specs.declared.table.Table.{Table}
use Rattle.reissue.proofs.Writes.{all_wrote_issued, one_among, spares_issued, spares_then}
use Rattle.reissue.proofs.Tickets.{among_at}
use Rattle.reissue.proofs.Answering.{started_at}
use Rattle.reissue.proofs.Joined.{joined_like}
use Rattle.records.proofs.OpenRequests.{open_below, open_again, open_new}
use Rattle.records.specs.Disk.{Contents}
use Rattle.records.specs.Marks.{Issued, Mark}
use Rattle.records.specs.Open.{IsIn, IsNew, Misses, MissesAll, greatest, open_requests, MayFollow}
use Rattle.records.specs.Told.{Posted, Told, grown}
use Rattle.reissue.specs.Agrees.{AreNumbered, Agrees, AllApart, AllReadDisk, AllWrote, Apart, ApartFromAll, Holds, unposted}
use Rattle.reissue.specs.Calls.{Leads, Truth}
use Rattle.records.specs.Opening.{Opening, Fits, FitsMinor}
use Rattle.reissue.specs.Entries.{AllOfMinor, IsAmong, pending_of, request_of}
use Rattle.reissue.specs.Moves.{Spares, state_after}
use Rattle.reissue.specs.Posts.{ArePostedTo}

-- the request of an entry is one of theirs
in_map : (ps : List Pending) (i : ℕ) (d : Pending) → i < length ps → IsIn (get_or ps i d).request (map request_of ps)
in_map [] i d lt = absurd (omega arith)
in_map (p ∷ ps) zero d lt = inl refl
in_map (p ∷ ps) (suc i) d lt = inr (in_map ps i d (omega arith))

-- an issue leaves the reads true, since it makes no place surer
reads_issued : (image : Contents) (marks : List Mark) (r : BlockRequest) (to : Endpoint) (ps : List Pending)
    → AllReadDisk image marks ps → AllReadDisk image (Issued r to ∷ marks) ps
reads_issued image marks r to [] h = tt
reads_issued image marks r to (p ∷ ps) h = (
  λ is_read. record { each = λ k lt sure. (h.0 is_read).each k lt (grind arith) },
  reads_issued image marks r to ps h.1,
)

-- the same numbers
pub numbered_at : (n m : ℕ) (rs : List BlockRequest) → n ≡ m → AreNumbered n rs → AreNumbered m rs
numbered_at n m rs e h = let P : ℕ → Type 0 = λ k. AreNumbered k rs in subst P e h

-- a request that stands in front of another's place misses it
misses : (p q : Pending) → Apart p q → Misses p.request q.request
misses p q a = record { apart = elim a.apart [ inl h ↦ inl (omega arith) | inr h ↦ inr (omega arith) ] }

-- a request misses those before it
misses_front : (os : List Pending) (q : Pending) (ws : List Pending) → AllApart (os ++ q ∷ ws)
    → MissesAll q.request (map request_of os)
misses_front [] q ws a = tt
misses_front (p ∷ os) q ws a = (misses p q (apart_at os a.0), misses_front os q ws a.1) where
  apart_at : (os : List Pending) → ApartFromAll p (os ++ q ∷ ws) → Apart p q
  apart_at [] h = h.0
  apart_at (o ∷ os) h = apart_at os h.1

-- a post leaves what was written
writes_posted : (t : Table) (marks : List Mark) (r : BlockRequest) (to : Endpoint) (d : Pending) (opened waiting : List Pending)
    → Holds t marks opened waiting → t.posted < length opened + length waiting
    → r ≡ (get_or t.pending t.posted d).request
    → (image : Contents) → AllWrote image (Issued r to ∷ marks) (opened ++ waiting)
writes_posted t marks r to d opened waiting a lt is image =
    let q = get_or t.pending t.posted d in
    let lt' : t.posted < length t.pending =
    omega (arith, lt, ap (λ (l : List Pending). length l) a.items, length-append opened waiting) in
    let P : BlockRequest → Type 0 = λ x. AllWrote image (Issued x to ∷ marks) (opened ++ waiting) in
    subst P (sym is)
    (all_wrote_issued image marks q to (opened ++ waiting)
    (one_among q (opened ++ waiting) a.apart
    (subst (λ (l : List Pending). IsAmong q l) a.items (among_at t.pending t.posted d lt')))
    (a.writes image))

-- the next request was posted, which had been issued before
posts_again : (t u : Table) (marks : List Mark) (r : BlockRequest) (to : Endpoint) (d : Pending) (opened waiting : List Pending)
    → Holds t marks opened waiting → t.current ≡ Some to → t.posted < t.issued
    → r ≡ (get_or t.pending t.posted d).request
    → u.pending ≡ t.pending → u.ids ≡ t.ids → u.current ≡ t.current → u.given_up ≡ t.given_up → u.issued ≡ t.issued
    → u.posted ≡ t.posted + 1
    → Holds u (Issued r to ∷ marks) opened waiting
posts_again t u marks r to d opened waiting a cur lt is items ids current given_up issued posted =
    let at : t.posted < length opened = omega (arith, a.issued) in
    let here : get_or t.pending t.posted d ≡ get_or opened t.posted d =
    rw a.items (get_or_append_left opened waiting d t.posted at) in
    let inside : IsIn r (open_requests marks) =
    rw (is, here, ← a.requests) (in_map opened t.posted d at) in
    let le : r.id ≤ greatest marks = open_below marks r inside in
    let top : max (greatest marks) r.id ≡ greatest marks = omega arith in
    record {
      items = items ∙ a.items;
      issued = issued ∙ a.issued;
      requests = a.requests ∙ sym (open_again marks r to le);
      numbered = numbered_at (greatest marks + 1) (max (greatest marks) r.id + 1) (map request_of waiting) (omega arith) a.numbered;
      ids = rw top (ids ∙ a.ids);
      well_formed = (a.well_formed, (started_at marks t.current to a.current cur, inr (record { same = inside })));
      current = current ∙ a.current;
      given_up = given_up ∙ a.given_up;
      apart = a.apart;
      joined = joined_like marks (Issued r to ∷ marks) (opened ++ waiting) (λ _ _ h. h) a.joined;
      reads = λ image h. reads_issued image marks r to (opened ++ waiting) (a.reads image h);
      writes = writes_posted t marks r to d opened waiting a (omega arith) is;
    }

-- the next request was posted, which had not been issued before
posts_new : (t u : Table) (marks : List Mark) (r : BlockRequest) (to : Endpoint) (d : Pending)
    (opened : List Pending) (q : Pending) (ws : List Pending) → Holds t marks opened (q ∷ ws)
    → t.current ≡ Some to → t.posted ≡ length opened
    → r ≡ (get_or t.pending t.posted d).request
    → u.pending ≡ t.pending → u.ids ≡ t.ids → u.current ≡ t.current → u.given_up ≡ t.given_up → u.issued ≡ t.posted + 1
    → u.posted ≡ t.posted + 1
    → Holds u (Issued r to ∷ marks) (opened ++ q ∷ []) ws
posts_new t u marks r to d opened q ws a cur eq is items ids current given_up issued posted =
    let here : get_or t.pending t.posted d ≡ q =
    rw a.items (get_or_at opened q ws d t.posted (sym eq)) in
    let same : r ≡ q.request = is ∙ ap request_of here in
    let number : r.id ≡ greatest marks + 1 = ap (λ (x : BlockRequest). x.id) same ∙ a.numbered.0 in
    let top : max (greatest marks) r.id ≡ greatest marks + 1 = omega arith in
    let len : length (opened ++ q ∷ []) ≡ length opened + 1 = grind (arith, length-append {A = Pending}) in
    let lists : opened ++ q ∷ ws ≡ (opened ++ q ∷ []) ++ ws = sym (append_assoc opened (q ∷ []) ws) in
    let fresh : IsNew marks r =
    record {
      next = number;
      whole = rw same (record { position = q.whole_position; count = q.whole_count });
      room = rw (← a.requests, length-map opened request_of) (omega (arith, t.few, ap (λ (l : List Pending). length l) a.items, length-append opened (q ∷ ws)));
      apart = rw (← a.requests, same) (misses_front opened q ws a.apart);
    } in
    record {
      items = items ∙ a.items ∙ lists;
      issued = omega arith;
      requests = map-append request_of opened (q ∷ []) ∙ rw (a.requests, ← same) (sym (open_new marks r to (omega arith)));
      numbered = numbered_at (greatest marks + 1 + 1) (max (greatest marks) r.id + 1) (map request_of ws) (omega arith) a.numbered.1;
      ids = rw top (ids ∙ a.ids ∙ omega arith);
      well_formed = (a.well_formed, (started_at marks t.current to a.current cur, inl fresh));
      current = current ∙ a.current;
      given_up = given_up ∙ a.given_up;
      apart = rw (← lists) a.apart;
      joined = rw (← lists) (joined_like marks (Issued r to ∷ marks) (opened ++ q ∷ ws) (λ _ _ h. h) a.joined);
      reads = λ image h. rw (← lists) (reads_issued image marks r to (opened ++ q ∷ ws) (a.reads image h));
      writes = λ image. rw (← lists) (writes_posted t marks r to d opened (q ∷ ws) a (omega (arith, eq)) is image);
    }

-- the next request was posted
pub posts_one : (t u : Table) (marks : List Mark) (r : BlockRequest) (to : Endpoint) (d : Pending) (opened waiting : List Pending)
    → Holds t marks opened waiting → t.current ≡ Some to → t.posted < length t.pending
    → r ≡ (get_or t.pending t.posted d).request
    → u.pending ≡ t.pending → u.ids ≡ t.ids → u.current ≡ t.current → u.given_up ≡ t.given_up → u.issued ≡ max t.issued (t.posted + 1)
    → u.posted ≡ t.posted + 1
    → Agrees u (Issued r to ∷ marks)
posts_one t u marks r to d opened [] a cur lt is items ids current given_up issued posted =
    let len : length t.pending ≡ length opened = rw a.items (grind (arith, length-append {A = Pending})) in
    record {
      opened = opened;
      waiting = [];
      holds =
          posts_again t u marks r to d opened [] a cur (omega (arith, a.issued)) is items ids current given_up (omega (arith, a.issued)) posted;
    }
posts_one t u marks r to d opened (q ∷ ws) a cur lt is items ids current given_up issued posted =
    elim (leb_tells t.issued t.posted) [
      | inl h ↦ record {
        opened = opened ++ q ∷ [];
        waiting = ws;
        holds =
            posts_new t u marks r to d opened q ws a cur (omega (arith, a.issued, t.order, h.1)) is items ids current given_up (omega (arith, a.issued, t.order, h.1)) posted;
      }
      | inr h ↦ record {
        opened = opened;
        waiting = q ∷ ws;
        holds =
            posts_again t u marks r to d opened (q ∷ ws) a cur h.1 is items ids current given_up (omega (arith, h.1)) posted;
      }
    ]

-- the minor of one of them
minor_at : (minor : ℕ) (ps : List Pending) (i : ℕ) (d : Pending) → i < length ps → AllOfMinor minor ps → (get_or ps i d).request.minor ≡ minor
minor_at minor [] i d lt h = absurd (omega arith)
minor_at minor (p ∷ ps) zero d lt h = h.0
minor_at minor (p ∷ ps) (suc i) d lt h = minor_at minor ps i d (omega arith) h.1

-- a pending request fits its minor
pub fits_minor : (minor : ℕ) (p : Pending) → p.request.minor ≡ minor → FitsMinor minor p.request
fits_minor minor p e = record { minor_is = e; count = omega (arith, p.from, p.end, p.small); bytes = p.full }

-- leading goes on over a post that was accepted
pub leads_post : (s t u : Table) (before between after : List Told) (was mid is : Truth) (r : BlockRequest) (to : Endpoint) (d : Pending)
    → Leads s t before between was mid
    → after ≡ Posted to r true ∷ between
    → ((opening : Opening) (marks : List Mark) → mid opening marks → MayFollow (Issued r to) marks → Fits opening r → is opening (Issued r to ∷ marks))
    → t.current ≡ Some to → t.posted < length t.pending
    → r ≡ (get_or t.pending t.posted d).request
    → u.pending ≡ t.pending → u.ids ≡ t.ids → u.current ≡ t.current → u.given_up ≡ t.given_up → u.issued ≡ max t.issued (t.posted + 1)
    → u.posted ≡ t.posted + 1
    → Leads s u before after was is
leads_post s t u before between after was mid is r to d l told keeps cur lt same items ids current given_up issued posted =
    let one : (marks : List Mark) → Agrees t marks → Agrees u (Issued r to ∷ marks) = λ marks a.
    posts_one t u marks r to d a.opened a.waiting a.holds cur lt same items ids current given_up issued posted in
    record {
      posts = Posted to r true ∷ l.posts;
      history = told ∙ ap (λ (es : List Told). Posted to r true ∷ es) l.history;
      only_posts = l.only_posts;
      same = items ∙ l.same;
      given_up = given_up ∙ l.given_up;
      posted = omega (arith, posted, l.posted);
      issued = omega (arith, issued, posted, l.issued);
      spares = λ image marks h.
          let q = get_or t.pending t.posted d in
          let P : BlockRequest → Type 0 = λ x. Spares (pending_of s.pending) (state_after image marks) (state_after image (Issued x to ∷ grown l.posts marks)) in
          let Q : List Pending → Type 0 = λ ls. Spares (pending_of ls) (state_after image (grown l.posts marks)) (state_after image (Issued q.request to ∷ grown l.posts marks)) in
          subst P (sym same)
          (spares_then (pending_of s.pending) (state_after image marks) (state_after image (grown l.posts marks)) (state_after image (Issued q.request to ∷ grown l.posts marks))
          (l.spares image marks h)
          (subst Q l.same (spares_issued image (grown l.posts marks) q to t.pending t.numbers.distinct (among_at t.pending t.posted d lt))));
      agrees = λ marks h. one (grown l.posts marks) (l.agrees marks h);
      truth = λ opening marks h minors k.
          let minors' : AllOfMinor opening.minor t.pending = subst (λ (ps : List Pending). AllOfMinor opening.minor ps) (sym l.same) minors in
          keeps opening (grown l.posts marks) (l.truth opening marks h minors k)
          ((one (grown l.posts marks) (l.agrees marks h)).holds.well_formed.1)
          (subst (λ (x : BlockRequest). Fits opening x) (sym same) (fits_minor opening.minor (get_or t.pending t.posted d) (minor_at opening.minor t.pending t.posted d lt minors')));
    }

-- and over one that was refused
pub leads_refused : (s t : Table) (before between after : List Told) (was mid is : Truth) (r : BlockRequest) (to : Endpoint)
    → Leads s t before between was mid → after ≡ Posted to r false ∷ between
    → ((opening : Opening) (marks : List Mark) → mid opening marks → is opening marks) → Leads s t before after was is
leads_refused s t before between after was mid is r to l told keeps =
    record {
      posts = Posted to r false ∷ l.posts;
      history = told ∙ ap (λ (es : List Told). Posted to r false ∷ es) l.history;
      only_posts = l.only_posts;
      same = l.same;
      given_up = l.given_up;
      posted = l.posted;
      issued = l.issued;
      agrees = l.agrees;
      spares = l.spares;
      truth = λ opening marks h minors k. keeps opening (grown l.posts marks) (l.truth opening marks h minors k);
    }

-- nothing was posted
pub leads_none : (t : Table) (history : List Told) (was : Truth) → Leads t t history history was was
leads_none t history was = record {
  posts = [];
  history = refl;
  only_posts = tt;
  same = refl;
  given_up = refl;
  posted = omega arith;
  issued = omega (arith, t.order);
  agrees = λ marks h. h;
  spares = λ image marks h. record { disk = λ p q. refl; sure = λ p q s. s };
  truth = λ opening marks h minors k. k;
}

-- the next to post, and the others
to_post_more : (t : Table) (p : Pending) → t.posted < length t.pending → p ≡ get_or t.pending t.posted p
    → unposted t ≡ p.request ∷ map request_of (drop (t.posted + 1) t.pending)
to_post_more t p lt is =
    ap (λ (l : List Pending). map request_of l) (drop_more t.pending t.posted p lt)
    ∙ ap (λ (x : Pending). x.request ∷ map request_of (drop (t.posted + 1) t.pending)) (sym is)

-- an accepted post, and then the others in order
pub order_post : (t u : Table) (p : Pending) (r : BlockRequest) (to : Endpoint) (before between after : List Told)
    → t.posted < length t.pending → p ≡ get_or t.pending t.posted p → r ≡ p.request
    → u.pending ≡ t.pending → u.posted ≡ t.posted + 1
    → between ≡ Posted to r true ∷ before
    → ArePostedTo to (unposted u) between after → ArePostedTo to (unposted t) before after
order_post t u p r to before between after lt is same items posted told h =
    let rest : map request_of (drop (t.posted + 1) t.pending) ≡ unposted u = rw (items, posted) refl in
    rw (to_post_more t p lt is, rest, ← same) (inr (rw (← told) h))

-- a refused post ends them
pub order_refused : (t : Table) (p : Pending) (r : BlockRequest) (to : Endpoint) (before after : List Told)
    → t.posted < length t.pending → p ≡ get_or t.pending t.posted p → r ≡ p.request
    → after ≡ Posted to r false ∷ before
    → ArePostedTo to (unposted t) before after
order_refused t p r to before after lt is same told = rw (to_post_more t p lt is, ← same) (inl told)

-- nothing stands past the end
drop_past : (n : ℕ) (ps : List Pending) → length ps ≤ n → drop n ps ≡ []
drop_past zero [] le = refl
drop_past zero (p ∷ ps) le = absurd (omega arith)
drop_past (suc n) [] le = refl
drop_past (suc n) (p ∷ ps) le = drop_past n ps (omega arith)

-- nothing is left to post
pub order_end : (t : Table) (to : Endpoint) (before : List Told) → length t.pending ≤ t.posted
    → ArePostedTo to (unposted t) before before
order_end t to before le = rw (drop_past t.posted t.pending le) refl
