-- What a runner of drivers uses of the invariant: one step, one hand-over, one start, at its parts.
use Rattle.std.proofs.Common.{◌≡◌, ℕ, ◌+◌, List, [], ◌∷◌, ◌++◌, true, refl, sym, ◌∙◌, ap, subst, inl, inr, Option, Some, None}
use Rattle.message.specs.declared.BlockReply.{BlockReply}
use Rattle.message.specs.declared.Kind.{Kind}
use Rattle.message.specs.declared.Kind.TheVariants.{Read, Write}
use Rattle.message.specs.declared.Incoming.TheVariants as incoming
use Rattle.records.specs.Disk.{Contents}
use Rattle.records.specs.Opening.{Opening}
use Rattle.records.specs.Told.{received}
use Rattle.media.specs.Contents.{MediaState}
use Rattle.bdev.specs.declared.Answer.{Answer}
use Rattle.bdev.specs.declared.Step.{Step}
use Rattle.bdev.specs.declared.Step.TheVariants.{Done}
use Rattle.bdev.specs.DriverState.{DriverState, Work}
use Rattle.bdev.specs.Promises.{IsDriver, StepKeeps, StepsAt, MovesAtMostOne, MovesBytes}
use Rattle.true_replies.specs.Posted.{IsSent}
use Rattle.true_replies.specs.State.{State, Invariant}
use Rattle.true_replies.specs.Events.{reply_of, stepped, delivered}
use Rattle.media.proofs.WrittenLaws.{generation-written}
use Rattle.true_replies.proofs.Stepping.{step_keeps}
use Rattle.true_replies.proofs.Delivering.{delivered_keeps}

-- replies that are never delivered may be forgotten
pub forgotten : (v : Opening) (image : Contents) (given : MediaState) (x : State) → Invariant v image given x → Invariant v image given (record x { sent = [] })
forgotten v image given x inv = record {
  well_formed = inv.well_formed;
  started = inv.started;
  range = inv.range;
  media = inv.media;
  outside = inv.outside;
  true_replies = inv.true_replies;
  driver = inv.driver;
  last = inv.last;
  fits = inv.fits;
  posts = inv.posts;
  line = inv.line;
  work = inv.work;
  older = λ a i. absurd i;
  sent = λ a i from. absurd i;
}

-- a step answers a request: its reply is delivered at once
pub answered_keeps : (v : Opening) (image : Contents) (given : MediaState) (x : State) (answer : Answer) (a : DriverState) (media : MediaState)
    → Invariant v image given x → x.live ≡ true → x.sent ≡ []
    → StepKeeps x.current x.media x.media.generation (Done answer) a media → IsDriver a
    → Invariant v image given (record x { media = media; current = a; sent = []; marks = received (incoming.Reply (reply_of x.media.generation answer)) x.marks })
answered_keeps v image given x answer a media inv live none k driver =
    let y : State = stepped x (Done answer) a media in
    let sent : IsSent (reply_of x.media.generation answer) y.sent =
    subst (λ (l : List BlockReply). IsSent (reply_of x.media.generation answer) (l ++ reply_of x.media.generation answer ∷ [])) (sym none) (inl refl) in
    let after : Invariant v image given (delivered y (reply_of x.media.generation answer)) =
    delivered_keeps v image given y (reply_of x.media.generation answer) (step_keeps v image given x (Done answer) a media inv live k driver) sent in
    forgotten v image given (delivered y (reply_of x.media.generation answer)) after

moved_generation : (kind : Kind) (w w' : Work) (m m' : MediaState) (g s j : ℕ) → MovesBytes kind w m g s j w' m' → m'.generation ≡ m.generation
moved_generation Read w w' m m' g s j b = ap (λ (d : MediaState). d.generation) b.0
moved_generation Write w w' m m' g s j b = ap (λ (d : MediaState). d.generation) b ∙ generation-written m g s _

-- a step leaves the generation of the media
pub step_generation : (b a : DriverState) (m m' : MediaState) (g : ℕ) (step : Step) → StepKeeps b m g step a m' → m'.generation ≡ m.generation
step_generation b a m m' g step k = at b.work k.steps where
  by_move : (w w' : Work) → MovesAtMostOne b w m g w' m' → m'.generation ≡ m.generation
  by_move w w' (inl h) = ap (λ (d : MediaState). d.generation) h.same_media
  by_move w w' (inr h) = moved_generation w.request.kind w w' m m' g (h.run.first + h.number) h.number h.bytes

  at : (o : Option Work) → StepsAt b o m g step a m' → m'.generation ≡ m.generation
  at None s = ap (λ (d : MediaState). d.generation) s.0
  at (Some w) s = by_move w s.0 s.1
