-- What goes to a driver of a request.
use Rattle.std.specs.Prelude.{◌≡◌}
use Rattle.message.specs.declared.BlockRequest.{BlockRequest}
use Rattle.message.specs.declared.Kind.TheVariants.{Write}

-- this is the request, but that the bytes of a read may be any
pub record IsAsked (request sent : BlockRequest) : Type 0 where
  pub id : sent.id ≡ request.id
  pub kind : sent.kind ≡ request.kind
  pub minor : sent.minor ≡ request.minor
  pub position : sent.position ≡ request.position
  pub count : sent.count ≡ request.count
  pub bytes : request.kind ≡ Write → sent.bytes ≡ request.bytes
