-- What stands for a request or a reply: its head, and its bytes without the zeros at their end.
use Rattle.std.specs.Prelude.{ℕ, List, ◌++◌, take, replicate}
use Rattle.message.specs.declared.BlockRequest.{BlockRequest}
use Rattle.message.specs.declared.BlockReply.{BlockReply}
use Rattle.message.specs.declared.Incoming.{Incoming}
use Rattle.message.specs.declared.Incoming.TheVariants as incoming
use Rattle.compact_message.specs.declared.RequestHead.{RequestHead}
use Rattle.compact_message.specs.declared.ReplyHead.{ReplyHead}
use Rattle.compact_message.specs.declared.RequestRef.{RequestRef}
use Rattle.compact_message.specs.declared.ReplyRef.{ReplyRef}
use Rattle.compact_message.specs.declared.IncomingRef.{IncomingRef}
use Rattle.compact_message.specs.declared.IncomingRef.TheVariants as ref

-- 4096 bytes: these, and zeros behind them
unfoldable pub padded : List ℕ → List ℕ
padded bytes = take 4096 (bytes ++ replicate 4096 0)

-- a request without its bytes
abbrev pub head_of_request : BlockRequest → RequestHead
head_of_request r = record { id = r.id; kind = r.kind; minor = r.minor; position = r.position; count = r.count }

-- a reply without its bytes
abbrev pub head_of_reply : BlockReply → ReplyHead
head_of_reply r = record { from = r.from; id = r.id; outcome = r.outcome }

-- the request with this head and these bytes
abbrev pub request_with : RequestHead → List ℕ → BlockRequest
request_with h bytes = record { id = h.id; kind = h.kind; minor = h.minor; position = h.position; count = h.count; bytes = padded bytes }

-- the reply with this head and these bytes
abbrev pub reply_with : ReplyHead → List ℕ → BlockReply
reply_with h bytes = record { from = h.from; id = h.id; outcome = h.outcome; bytes = padded bytes }

-- the request that is meant
abbrev pub request_of : RequestRef → BlockRequest
request_of r = request_with r.head r.bytes.now

-- the reply that is meant
abbrev pub reply_of : ReplyRef → BlockReply
reply_of r = reply_with r.head r.bytes.now

-- the message that is meant
abbrev pub incoming_of : IncomingRef → Incoming
incoming_of (ref.Reply r) = incoming.Reply (reply_of r)
incoming_of (ref.Started e) = incoming.Started e
incoming_of ref.GaveUp = incoming.GaveUp
incoming_of ref.Flush = incoming.Flush
incoming_of ref.End = incoming.End
