-- Each event keeps the invariant, and so does a run.
use Rattle.std.specs.Prelude.{slice_index, ◌/◌}
use Rattle.std.specs.Simd.{first_chunks}
use Rattle.bdev.specs.DriverState.{chunk, Work}
use Rattle.true_replies.proofs.Places.{chunk_at}
use Rattle.std.proofs.Common.{get_or, drop-drop, zero, suc, take, drop, get_or-take, get_or-drop, ◌≡◌, ℕ, ◌+◌, ◌*◌, ◌<◌, List, [], ◌∷◌, length, Bool, true, false, refl, sym, ◌∙◌, ap, subst, arith, Option, Some, None}
use Rattle.records.specs.Marks.{Mark, Started, Answered, Issued, Flush, GaveUp, Took, Fault, ChangesNothing}
use Rattle.records.specs.Disk.{Contents}
use Rattle.media.specs.Contents.{MediaState, sector}
use Rattle.message.specs.declared.BlockRequest.{BlockRequest}
use Rattle.message.specs.declared.BlockReply.{BlockReply}
use Rattle.records.specs.Opening.{Opening, contents_at}
use Rattle.true_replies.specs.State.{State, state_of, Invariant, AnyWorkHolds}
use Rattle.true_replies.specs.Events.{RunIsTrue, IsOnMedia, opening_media, Next, Stepped, SteppedOlder, Handed, Torn, Dead, Replaced, IssuedNow, Repeated, Delivered, Noted, noted, Run, Start, Then, IsOpening}
use Rattle.true_replies.proofs.Stepping.{step_keeps}
use Rattle.true_replies.proofs.Others.{older_keeps, handed_keeps, torn_keeps, dead_keeps, replaced_keeps, issued_keeps, repeated_keeps}
use Rattle.true_replies.proofs.Delivering.{delivered_keeps}

-- a mark that changes nothing
noted_keeps : (v : Opening) (image : Contents) (given : MediaState) (x : State) (m : Mark) → Invariant v image given x → ChangesNothing m
    → Invariant v image given (noted x m)
noted_keeps v image given x Flush inv nothing = record {
  well_formed = (inv.well_formed, tt);
  started = inv.started;
  range = inv.range;
  media = record { each = inv.media.each };
  outside = inv.outside;
  true_replies = inv.true_replies;
  driver = inv.driver;
  last = inv.last;
  fits = inv.fits;
  posts = λ q i. record { opened = (inv.posts q i).opened };
  line = inv.line;
  work = λ l. work_same x.current.work (inv.work l);
  older = inv.older;
  sent = λ b i from. let old = inv.sent b i from in record { ended = old.ended; answer = old.answer };
} where
  work_same : (o : Option Work) → AnyWorkHolds v x.media x.marks x.current.last o → AnyWorkHolds v x.media (Flush ∷ x.marks) x.current.last o
  work_same None h = tt
  work_same (Some w) h = record { opened = h.opened; id = h.id; moved = h.moved }
noted_keeps v image given x GaveUp inv nothing = record {
  well_formed = (inv.well_formed, tt);
  started = inv.started;
  range = inv.range;
  media = record { each = inv.media.each };
  outside = inv.outside;
  true_replies = inv.true_replies;
  driver = inv.driver;
  last = inv.last;
  fits = inv.fits;
  posts = λ q i. record { opened = (inv.posts q i).opened };
  line = inv.line;
  work = λ l. work_same x.current.work (inv.work l);
  older = inv.older;
  sent = λ b i from. let old = inv.sent b i from in record { ended = old.ended; answer = old.answer };
} where
  work_same : (o : Option Work) → AnyWorkHolds v x.media x.marks x.current.last o → AnyWorkHolds v x.media (GaveUp ∷ x.marks) x.current.last o
  work_same None h = tt
  work_same (Some w) h = record { opened = h.opened; id = h.id; moved = h.moved }
noted_keeps v image given x (Took who now call answer) inv nothing = record {
  well_formed = (inv.well_formed, tt);
  started = inv.started;
  range = inv.range;
  media = record { each = inv.media.each };
  outside = inv.outside;
  true_replies = inv.true_replies;
  driver = inv.driver;
  last = inv.last;
  fits = inv.fits;
  posts = λ q i. record { opened = (inv.posts q i).opened };
  line = inv.line;
  work = λ l. work_same x.current.work (inv.work l);
  older = inv.older;
  sent = λ b i from. let old = inv.sent b i from in record { ended = old.ended; answer = old.answer };
} where
  work_same : (o : Option Work) → AnyWorkHolds v x.media x.marks x.current.last o → AnyWorkHolds v x.media (Took who now call answer ∷ x.marks) x.current.last o
  work_same None h = tt
  work_same (Some w) h = record { opened = h.opened; id = h.id; moved = h.moved }
noted_keeps v image given x (Fault e cause) inv nothing = record {
  well_formed = (inv.well_formed, tt);
  started = inv.started;
  range = inv.range;
  media = record { each = inv.media.each };
  outside = inv.outside;
  true_replies = inv.true_replies;
  driver = inv.driver;
  last = inv.last;
  fits = inv.fits;
  posts = λ q i. record { opened = (inv.posts q i).opened };
  line = inv.line;
  work = λ l. work_same x.current.work (inv.work l);
  older = inv.older;
  sent = λ b i from. let old = inv.sent b i from in record { ended = old.ended; answer = old.answer };
} where
  work_same : (o : Option Work) → AnyWorkHolds v x.media x.marks x.current.last o → AnyWorkHolds v x.media (Fault e cause ∷ x.marks) x.current.last o
  work_same None h = tt
  work_same (Some w) h = record { opened = h.opened; id = h.id; moved = h.moved }
noted_keeps v image given x (Issued r e) inv nothing = absurd nothing
noted_keeps v image given x (Started e) inv nothing = absurd nothing
noted_keeps v image given x (Answered a) inv nothing = absurd nothing

pub next_keeps : (v : Opening) (image : Contents) (given : MediaState) (x y : State) → Invariant v image given x → Next v x y → Invariant v image given y
next_keeps v image given x y inv (Stepped step a media live k driver) = step_keeps v image given x step a media inv live k driver
next_keeps v image given x y inv (SteppedOlder g b a step media less k) = older_keeps v image given x g b a step media inv less k
next_keeps v image given x y inv (Handed result q rest a is k driver) = handed_keeps v image given x result q rest a inv is k driver
next_keeps v image given x y inv (Torn g s bytes live is) = torn_keeps v image given x g s bytes inv live is
next_keeps v image given x y inv Dead = dead_keeps v image given x inv
next_keeps v image given x y inv (Replaced g m less driver fresh) = replaced_keeps v image given x g m inv less driver fresh
next_keeps v image given x y inv (IssuedNow r to may fits) = issued_keeps v image given x r to inv may fits
next_keeps v image given x y inv (Repeated r posted) = repeated_keeps v image given x r inv posted
next_keeps v image given x y inv (Delivered a sent) = delivered_keeps v image given x a inv sent
next_keeps v image given x y inv (Noted m nothing) = noted_keeps v image given x m inv nothing

pub run_keeps : (v : Opening) (image : Contents) (given : MediaState) (x y : State) → Invariant v image given x → Run v x y → Invariant v image given y
run_keeps v image given x y inv Start = inv
run_keeps v image given x y inv (Then z y' run next) = next_keeps v image given z y (run_keeps v image given x z inv run) next

-- the bytes of a sector of the media as they were handed in
chunks_at : (k s : ℕ) (bytes : List ℕ) → s < k → get_or (first_chunks 512 k bytes) s [] ≡ chunk s bytes
chunks_at zero s bytes less = absurd (omega arith)
chunks_at (suc k) zero bytes less = refl
chunks_at (suc k) (suc s) bytes less =
    let next : 512 + 512 * s ≡ 512 * suc s = omega arith in
    chunks_at k s (drop 512 bytes) (omega arith) ∙ ap (λ (l : List ℕ). take 512 l) (drop-drop (512 * s) 512 bytes ∙ ap (λ (n : ℕ). drop n bytes) next)

-- the media as handed in hold the volume as handed in
opening_at : (v : Opening) (s o : ℕ) → IsOnMedia v → s < v.count → o < 512
    → slice_index (sector (opening_media v) (v.first + s)) o ≡ contents_at v (512 * s + o)
opening_at v s o on inside less =
    let there : v.first + s < length v.media / 512 = omega (arith, on.inside, on.whole) in
    let within : 512 * s + o < 512 * v.count = omega arith in
    let place_is : 512 * (v.first + s) + o ≡ 512 * v.first + (512 * s + o) = omega arith in
    ap (λ (l : List ℕ). slice_index l o) (chunks_at (length v.media / 512) (v.first + s) v.media there)
    ∙ chunk_at (v.first + s) o v.media less
    ∙ ap (λ (n : ℕ). slice_index v.media n) place_is
    ∙ sym (get_or-drop (512 * v.first) v.media (512 * s + o) 0)
    ∙ sym (get_or-take (512 * v.count) (drop (512 * v.first) v.media) (512 * s + o) 0 within)

-- before the first start nothing was asked for, and the media are as they were handed in
pub opening_holds : (v : Opening) (x : State) → IsOnMedia v → IsOpening v x → Invariant v (contents_at v) (opening_media v) x
opening_holds v x on o =
    let P : MediaState → Bool → List BlockRequest → List BlockReply → List Mark → Type 0 =
    λ media live line sent marks. Invariant v (contents_at v) (opening_media v) (state_of media x.current live line sent marks) in
    let result : P (opening_media v) false [] [] [] = record {
      well_formed = tt;
      started = refl;
      range = λ l. absurd (never l);
      media = record { each = λ s k inside less sure. opening_at v s k on inside less };
      outside = record { each = λ n out. refl };
      true_replies = tt;
      driver = o.driver;
      last = omega (arith, o.unused);
      fits = λ q i. absurd i;
      posts = λ q i. absurd i;
      line = λ q i. absurd i;
      work = λ l. absurd (never l);
      older = λ r i. absurd i;
      sent = λ r i from. absurd i;
    } in
    let same : state_of (opening_media v) x.current false [] [] [] ≡ x =
    ap (λ (m : MediaState). state_of m x.current false [] [] []) (sym o.media)
    ∙ ap (λ (b : Bool). state_of x.media x.current b [] [] []) (sym o.live)
    ∙ ap (λ (l : List BlockRequest). state_of x.media x.current x.live l [] []) (sym o.line)
    ∙ ap (λ (l : List BlockReply). state_of x.media x.current x.live x.line l []) (sym o.sent)
    ∙ ap (λ (l : List Mark). state_of x.media x.current x.live x.line x.sent l) (sym o.marks) in
    subst (λ (y : State). Invariant v (contents_at v) (opening_media v) y) same result where
      never : false ≡ true → ⊥
      never e = cc

-- what holds of every run from there
pub is_true : (v : Opening) (y : State) → Invariant v (contents_at v) (opening_media v) y → RunIsTrue v y
is_true v y inv = record { well_formed = inv.well_formed; true_replies = inv.true_replies; media = inv.media; outside = inv.outside }

pub run_is_true : (v : Opening) (x y : State) → IsOnMedia v → IsOpening v x → Run v x y → RunIsTrue v y
run_is_true v x y on o run = is_true v y (run_keeps v (contents_at v) (opening_media v) x y (opening_holds v x on o) run)

-- an event keeps what holds since an opening
pub opened_keeps : (v : Opening) (x y : State) → Invariant v (contents_at v) (opening_media v) x → Next v x y → Invariant v (contents_at v) (opening_media v) y
opened_keeps v x y inv next = next_keeps v (contents_at v) (opening_media v) x y inv next
