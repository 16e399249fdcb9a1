-- Which marks of a record are messages that were received.
use Rattle.std.specs.Prelude.{◌≡◌, List, [], ◌∷◌, Bool, true, false}
use Rattle.records.specs.Marks.{Mark, Started, Answered, Flush, GaveUp, Issued, Took, Fault}
use Rattle.channel_link.specs.declared.messages.News.{News}
use Rattle.channel_link.specs.declared.messages.News.TheVariants as news

-- the mark that news leave where they count
abbrev pub mark_of : News → Mark
mark_of (news.Answer exchange) = Answered exchange.value.reply
mark_of (news.Started endpoint line) = Started endpoint
mark_of news.GaveUp = GaveUp

-- whether a mark is that of a message of the server's line
abbrev pub is_of_line : Mark → Bool
is_of_line (Started e) = true
is_of_line (Answered a) = true
is_of_line GaveUp = true
is_of_line _ = false

-- Each start, each answer and each giving up of the record is one of these news, unchanged and in their order, both newest first; news that
-- were dropped left no mark.
pub data AreReceived : List Mark → List News → Type 0 where
  None : AreReceived [] []
  Dropped : (marks : List Mark) (got : List News) (x : News) → AreReceived marks got → AreReceived marks (x ∷ got)
  Left : (marks : List Mark) (got : List News) (x : News) → AreReceived marks got → AreReceived (mark_of x ∷ marks) (x ∷ got)
  Other : (marks : List Mark) (got : List News) (m : Mark) → is_of_line m ≡ false → AreReceived marks got → AreReceived (m ∷ marks) got
