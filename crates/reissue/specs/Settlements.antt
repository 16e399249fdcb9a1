-- What a message came to, with the bytes of a read that was settled.
use Rattle.std.specs.Prelude.{ℕ, List}
use Rattle.reissue.specs.declared.ask.Settled.{Settled}
use Rattle.reissue.specs.declared.ask.Settled.TheVariants as settled

pub data Settlement : Type 0 where
  Nothing : Settlement
  Read : ℕ → List ℕ → Settlement
  Written : ℕ → Settlement
  Flush : Settlement
  GaveUp : Settlement
  End : Settlement

-- what the code answers, and the bytes that it leaves where the caller had room
abbrev pub settlement : Settled → List ℕ → Settlement
settlement settled.Nothing bytes = Nothing
settlement (settled.Read t) bytes = Read t bytes
settlement (settled.Written t) bytes = Written t
settlement settled.Flush bytes = Flush
settlement settled.GaveUp bytes = GaveUp
settlement settled.End bytes = End
