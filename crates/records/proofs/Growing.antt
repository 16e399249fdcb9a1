-- How a record grows: its beginnings, its count, and the messages that it takes.
use Rattle.std.specs.Prelude.{◌≡◌, ◌+◌, List, [], ◌∷◌, ◌++◌, Bool, true, false, Option, Some, None, is_some, if◌then◌else◌, refl}
use Rattle.std.proofs.Common.{ap, arith}
use Rattle.std.proofs.lemmas.Bool.Decides.{nat_tests}
use Rattle.message.specs.declared.endpoint.Endpoint.{Endpoint}
use Rattle.message.specs.declared.BlockReply.{BlockReply}
use Rattle.message.specs.declared.Incoming.{Incoming}
use Rattle.message.specs.declared.Incoming.TheVariants as incoming
use Rattle.records.specs.Marks.{Mark, Started, Answered, Flush, GaveUp, Took, Issued, Fault, counted, is_counted, last_started, is_endpoint}
use Rattle.records.specs.Open.{IsWellFormed, counts, asked_by}
use Rattle.records.specs.Told.{received}

-- a beginning of a well-formed record is well formed
pub well_formed_beginning : (later marks : List Mark) → IsWellFormed (later ++ marks) → IsWellFormed marks
well_formed_beginning [] marks h = h
well_formed_beginning (m ∷ later) marks h = well_formed_beginning later marks h.0

-- the count of a record is that of its marks
pub counted_one : (m : Mark) (marks : List Mark) → counted (m ∷ marks) ≡ counted marks + (if is_counted m then 1 else 0)
counted_one (Started e) marks = refl
counted_one (Answered a) marks = refl
counted_one Flush marks = refl
counted_one GaveUp marks = refl
counted_one (Took who now call reply) marks = refl
counted_one (Issued r e) marks = omega arith
counted_one (Fault e cause) marks = omega arith

-- the endpoint of an answer that counts is the last started
same_endpoint : (e : Endpoint) (o : Option Endpoint) → is_endpoint e o ≡ true → o ≡ Some e
same_endpoint e None h = cc
same_endpoint e (Some d) h =
    let slot : d.slot ≡ e.slot = grind (arith, nat_tests) in
    let generation : d.generation ≡ e.generation = grind (arith, nat_tests) in
    ap (λ (x : Endpoint). Some x) (λ i. record { slot = slot i; generation = generation i })

-- so what a server does with a message keeps its record well formed
kept : (a : BlockReply) (marks : List Mark) (b : Bool) → counts marks a ≡ b → IsWellFormed marks → IsWellFormed (if b then Answered a ∷ marks else marks)
kept a marks false h well = well
kept a marks true h well =
    let from : is_endpoint a.from (last_started marks) ≡ true = grind (arith, nat_tests) in
    let asked : is_some (asked_by a marks) ≡ true = grind (arith, nat_tests) in
    (well, (same_endpoint a.from (last_started marks) from, asked))

-- each message keeps a record well formed
pub well_formed_received : (message : Incoming) (marks : List Mark) → IsWellFormed marks → IsWellFormed (received message marks)
well_formed_received (incoming.Reply a) marks well = kept a marks (counts marks a) refl well
well_formed_received (incoming.Started e) marks well = (well, tt)
well_formed_received incoming.GaveUp marks well = (well, tt)
well_formed_received incoming.Flush marks well = (well, tt)
well_formed_received incoming.End marks well = well
