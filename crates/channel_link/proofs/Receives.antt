-- What was received goes on with the record.
use Rattle.std.proofs.Common.{◌≡◌, ℕ, ◌==◌, ◌∙◌, ap, List, [], ◌∷◌, Bool, true, false, refl, sym, subst, Result, Ok, Err, OnOk}
use Rattle.std.proofs.Common.{if◌then◌else◌}
use Rattle.message.specs.declared.Incoming.{Incoming}
use Rattle.message.specs.declared.Incoming.TheVariants as incoming
use Rattle.std.specs.Global.{Box}
use Rattle.message.specs.declared.BlockRequest.{BlockRequest}
use Rattle.message.specs.declared.endpoint.Endpoint.{Endpoint}
use Rattle.records.specs.Marks.{Mark, Answered, Issued}
use Rattle.records.specs.Open.{counts, MayFollow}
use Rattle.records.specs.Opening.{Opening, Fits}
use Rattle.records.specs.Told.{Told, received, heard, took_end}
use Rattle.channel_link.specs.News.{incoming_of}
use Rattle.channel_link.specs.declared.messages.Exchange.{Exchange}
use Rattle.channel_link.specs.declared.messages.News.{News}
use Rattle.channel_link.specs.declared.messages.News.TheVariants as news
use Rattle.channel_link.specs.Received.{AreReceived, None, Dropped, Left, Other, mark_of}

by_count : (marks : List Mark) (got : List News) (x : Box Exchange) (b : Bool) → AreReceived marks got
    → AreReceived (if b then Answered x.value.reply ∷ marks else marks) (news.Answer x ∷ got)
by_count marks got x true is = Left marks got (news.Answer x) is
by_count marks got x false is = Dropped marks got (news.Answer x) is

pub receives : (marks : List Mark) (got : List News) (x : News) → AreReceived marks got
    → AreReceived (received (incoming_of x) marks) (x ∷ got)
receives marks got (news.Answer x) is = by_count marks got x (counts marks x.value.reply) is
receives marks got (news.Started endpoint line) is = Left marks got (news.Started endpoint line) is
receives marks got news.GaveUp is = Left marks got news.GaveUp is

pub receives_as : (marks : List Mark) (got more : List News) (x : News) (message : Incoming) → message ≡ incoming_of x → more ≡ x ∷ got
    → AreReceived marks got → AreReceived (received message marks) more
receives_as marks got more x message is longer kept =
    subst (λ (l : List News). AreReceived (received message marks) l) (sym longer)
    (subst (λ (m : Incoming). AreReceived (received m marks) (x ∷ got)) (sym is) (receives marks got x kept))

pub receives_none : (got : List News) → got ≡ [] → AreReceived [] got
receives_none got none = subst (λ (l : List News). AreReceived [] l) (sym none) None

-- an issue is no message
pub posts : {A E : Type 0} (r : Result A E) (v : Opening) (marks : List Mark) (got more : List News) (request : BlockRequest)
    (to : Endpoint) → more ≡ got → AreReceived marks got
    → OnOk r (MayFollow (Issued request to) marks → Fits v request → AreReceived (Issued request to ∷ marks) more)
posts (Ok a) v marks got more request to same kept = λ may fits.
    subst (λ (l : List News). AreReceived (Issued request to ∷ marks) l) (sym same) (Other marks got (Issued request to) refl kept)
posts (Err e) v marks got more request to same kept = tt

-- no message of the server's line is an End
goes_live : (x : News) (told : List Told) → took_end (heard (incoming_of x) told) ≡ took_end told
goes_live (news.Answer exchange) told = refl
goes_live (news.Started endpoint line) told = refl
goes_live news.GaveUp told = refl

pub goes_live_as : (x : News) (message : Incoming) → message ≡ incoming_of x
    → (told : List Told) → took_end (heard message told) ≡ took_end told
goes_live_as x message is told = subst (λ (m : Incoming). took_end (heard m told) ≡ took_end told) (sym is) (goes_live x told)

-- so a link that has some of its budget left hasn't ended
pub still_live : (message : Incoming) (told later : List Told) (budget left : ℕ) → later ≡ heard message told
    → took_end (heard message told) ≡ took_end told → (took_end told ≡ true → budget ≡ 0) → (budget ≡ 0 → ⊥)
    → took_end later ≡ true → left ≡ 0
still_live message told later budget left is live ended some over = absurd (some (ended (sym live ∙ sym (ap took_end is) ∙ over)))
