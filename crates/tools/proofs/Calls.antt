-- One call of a session, and a session just made.
use Rattle.std.proofs.Common.{◌≡◌, ℕ, List, true, refl, ap, ◌∙◌}
use Rattle.layout.specs.declared.Geometry.{Geometry}
use Rattle.tree.specs.declared.Who.{Who}
use Rattle.tree.specs.declared.Call.{Call}
use Rattle.tree.specs.declared.Outcome.{Outcome}
use Rattle.tree.specs.declared.Outcome.TheVariants.{Reply, Cut}
use Rattle.tree.specs.Tree.{Tree}
use Rattle.records.specs.Marks.{Mark}
use Rattle.records.specs.Opening.{Opening, contents_at}
use Rattle.records.specs.Legal.{IsAtFirst}
use Rattle.records.specs.Session.{Seen, SessionState, SessionCallKeeps, EndsWith, IsMadeFor, calls_of}
use Rattle.file_server.specs.Over.{outcome_of}
use Rattle.reissue.specs.declared.link.Link.{Ghosts as LinkWords}
use Rattle.reissue.specs.Calls.{Truth}
use Rattle.shared_server.specs.Held.{HasEnded, HoldsIfTrue, IsCutAtEnd, IsGood, IsGuaranteed, IsSound}
use Rattle.tools.specs.Made.{call_made, cuts}
use Rattle.tools.specs.Turns.{IsUnplayed}
use Rattle.tools.specs.Vouched.{Vouched}

-- its own calls grew by this one, unless it was cut
pub ends_mine : (outcome : Outcome) (who : Who) (now : ℕ) (call : Call) (old new : Seen)
    → EndsWith (outcome_of outcome) who now call old new
    → new.mine ≡ call_made who now call outcome old.mine
ends_mine (Reply r) who now call old new h = h.2
ends_mine Cut who now call old new h = h

-- what it has seen is vouched for
pub call_vouched : {L : Type 0} (truth : L → Truth) (g : Geometry) (v : Opening) (old : SessionState) (who : Who) (now : ℕ) (call : Call)
    (outcome : Outcome) (new : SessionState)
    → SessionCallKeeps g (contents_at v) old who now call (outcome_of outcome) new
    → HoldsIfTrue g v new.knows.seen → IsSound new.knows.seen → IsGuaranteed truth v new.knows.seen → Vouched truth g v new.knows.seen
call_vouched truth g v old who now call outcome new h volume sound guaranteed =
    ((volume, λ tree first. (sound, h.legal tree first)), guaranteed)

-- a call that was cut came once the link had ended
pub cut_ended : {L : Type 0} (link : LinkWords L) (marks : L → List Mark) (v : Opening) (outcome : Outcome) (seen : List Mark)
    → IsCutAtEnd link marks v outcome seen → cuts outcome ≡ true
    → HasEnded link v seen
cut_ended link marks v Cut seen h is = record { line = h.line; guaranteed = h.guaranteed; ended = h.exactly.0 refl }
cut_ended link marks v (Reply r) seen h is = absurd (cc)

-- a session that was made has made no call
pub made_unplayed : {L : Type 0} (truth : L → Truth) (g : Geometry) (v : Opening) (uid gid : ℕ) (s : SessionState) (marks : List Mark)
    → IsMadeFor uid gid s marks → s.knows.seen ≡ marks
    → ((tree : Tree) → IsAtFirst g (contents_at v) tree → IsGood g v tree s.knows.seen)
    → HoldsIfTrue g v s.knows.seen → IsGuaranteed truth v s.knows.seen → IsUnplayed (Vouched truth g v) s
made_unplayed truth g v uid gid s marks made whole good volume guaranteed = record {
  low = made.number;
  none = made.new.none;
  none_seen = ap (λ (ms : List Mark). calls_of s.knows.number s.knows.place ms) whole ∙ made.new.saw_all;
  vouched = ((volume, good), guaranteed);
}
