-- What a client call's mark leaves of agreement with the record.
use Rattle.std.proofs.Common.{ℕ, List, ◌∷◌, ◌++◌, refl}
use Rattle.tree.specs.declared.Who.{Who}
use Rattle.tree.specs.declared.Call.{Call}
use Rattle.tree.specs.Answers.{Answer}
use Rattle.records.specs.Marks.{Mark, Took}
use Rattle.reissue.specs.declared.table.Table.{Table}
use Rattle.reissue.specs.Agrees.{Agrees}
use Rattle.reissue.proofs.Writes.{wrote_like}
use Rattle.reissue.proofs.Joined.{joined_like}
use Rattle.reissue.proofs.Messages.{reads_like}

-- the table agrees as before
pub agrees_took : (t : Table) (marks : List Mark) (who : Who) (now : ℕ) (call : Call) (answer : Answer) → Agrees t marks
    → Agrees t (Took who now call answer ∷ marks)
agrees_took t marks who now call answer h =
    let s = h.holds in
    let more = Took who now call answer ∷ marks in
    record {
      opened = h.opened;
      waiting = h.waiting;
      holds = record {
        items = s.items;
        issued = s.issued;
        requests = s.requests;
        numbered = s.numbered;
        ids = s.ids;
        well_formed = (s.well_formed, tt);
        current = s.current;
        given_up = s.given_up;
        apart = s.apart;
        joined = joined_like marks more (h.opened ++ h.waiting) (λ _ _ h. h) s.joined;
        reads = λ image tr. reads_like image marks more (h.opened ++ h.waiting) (λ _. refl) (λ _. refl) (s.reads image tr);
        writes = λ image. wrote_like image marks more (h.opened ++ h.waiting) (λ _. refl) (λ _. refl) (s.writes image);
      };
    }
