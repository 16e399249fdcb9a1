-- The rule of the server's line.
use Rattle.std.specs.Prelude.{◌≡◌, ℕ, Bool, true, false, List, [], ◌∷◌}
use mathlib.Core.Option.{some}
use lib.ListN.{get_elem?}
use Rattle.message.specs.declared.endpoint.Endpoint.{Endpoint}
use Rattle.message.specs.declared.Incoming.{Incoming}
use Rattle.message.specs.declared.Incoming.TheVariants as incoming
use Rattle.channel_link.specs.declared.messages.News.{News}
use Rattle.channel_link.specs.declared.messages.News.TheVariants as news
use Rattle.channel_link.specs.declared.messages.NewsView.{NewsView}

-- the message that news are to a server
abbrev pub incoming_of : News → Incoming
incoming_of (news.Answer exchange) = incoming.Reply exchange.value.reply
incoming_of (news.Started endpoint line) = incoming.Started endpoint
incoming_of news.GaveUp = incoming.GaveUp

-- the pass of the server's link, by what it received, the newest first
abbrev pub reader : List News → NewsView
reader got = record { drives = false; endpoint = record { slot = 0; generation = 0 }; sent = []; gets = true; got = got }

-- the pass of an end, by what it sent, the newest first
abbrev pub driver : Endpoint → List News → NewsView
driver endpoint sent = record { drives = true; endpoint = endpoint; sent = sent; gets = false; got = [] }

abbrev pub sent_by : NewsView → News → NewsView
sent_by v x = record { drives = v.drives; endpoint = v.endpoint; sent = x ∷ v.sent; gets = v.gets; got = v.got }

abbrev pub got_by : NewsView → News → NewsView
got_by v x = record { drives = v.drives; endpoint = v.endpoint; sent = v.sent; gets = v.gets; got = x ∷ v.got }

-- what was given of what was received, the newest first: all, or all but the newest, which is held back
abbrev pub given : Bool → List News → List News
given false got = got
given true [] = []
given true (x ∷ got) = got

-- an answer bears this endpoint
abbrev pub Bears : Endpoint → News → Type 0
Bears endpoint (news.Answer exchange) = exchange.value.reply.from ≡ endpoint
Bears endpoint (news.Started of line) = Unit {0}
Bears endpoint news.GaveUp = Unit {0}

-- it stands in the list
abbrev pub Among : List News → News → Type 0
Among xs x = (k : ℕ) × (get_elem? xs k ≡ some x)

-- some end's pass sent it, and an answer bears that end's endpoint
abbrev pub SentBySome : List NewsView → News → Type 0
SentBySome views x =
    (p : ℕ) × (v : NewsView) × (get_elem? views p ≡ some v) × (v.drives ≡ true) × Bears v.endpoint x × Among v.sent x

-- each of the news that were received, or that the line holds, was sent by the pass of an end, and an answer bears that end's endpoint.
-- One pass receives, and knows all that was received
abbrev pub Borne : List News → List NewsView → Type 0
Borne items views =
    (at : ℕ) × (got : List News)
    × ((x : News) → Among got x → SentBySome views x)
    × ((x : News) → Among items x → SentBySome views x)
    × ((p : ℕ) (v : NewsView) → get_elem? views p ≡ some v → v.gets ≡ true → (p ≡ at) × (v.got ≡ got))
