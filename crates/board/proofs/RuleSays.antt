-- The rule, sentence by sentence.
use Rattle.std.proofs.Common.{◌≡◌, ℕ, ◌<◌, ◌≤◌, List, slice_index, ap, sym, ◌∙◌, subst}
use Rattle.records.specs.Marks.{Mark, gave_up, IsBeginning}
use Rattle.records.specs.Session.{calls_of, tally_of, IsSession}
use Rattle.board.specs.View.{View, session_of, is_used}
use Rattle.board.specs.Rule.{words_of, IsKnown, Kept}
use Rattle.board.specs.Laws.{Knows, IsRecords, RecordSays, RuleSaysSo}
use Rattle.board.proofs.Records.{went_on_longer}
use Rattle.board.proofs.Moves.{apart}
use Rattle.board.proofs.Editions.{number_given, are_one}

word : (i : ℕ) (words : List ℕ) (views : List View) (k : Kept words views) → slice_index words i ≡ slice_index (words_of k.board) i
word i words views k = ap (λ (ws : List ℕ). slice_index ws i) k.words_are

recorded : (words : List ℕ) (views : List View) (k : Kept words views) (v : View) (seat : ℕ) (w : View) → IsRecords views v → Knows views seat w → RecordSays words v w
recorded words views k v seat w r there =
    let own = (k.fits r.seat v r.knows).keeper r.keeps in
    let f = k.fits seat w there in
    let device : slice_index words 2 ≡ k.board.device = word 2 words views k in record {
      tally = word 0 words views k ∙ ap (λ (ms : List Mark). tally_of ms) (sym own.all);
      beginning = subst (λ (ms : List Mark). IsBeginning w.seen ms) (sym own.all) f.seen;
      session = λ n e. subst (λ (ms : List Mark). IsSession (session_of n w) ms) (sym own.all) (f.number n e).session;
      own = λ n e. (f.number n e).all ∙ ap (λ (ms : List Mark). calls_of n w.place ms) (sym own.all);
      used = λ n e. ap (λ (ns : List ℕ). is_used n ns) own.used ∙ (f.number n e).used;
      only = λ h. ap gave_up own.all ∙ k.device.only (sym device ∙ h);
      stays = λ h. device ∙ k.device.stays (sym own.given_up ∙ h);
    }

pub rule_says : RuleSaysSo
rule_says words views k = record {
  recorded = recorded words views k;
  alone = λ seat other v w here there is is'. ((k.fits seat v here).keeper is).seat ∙ sym ((k.fits other w there).keeper is').seat;
  held = λ v n r h.
      let own = (k.fits r.seat v r.knows).keeper r.keeps in
      let o = k.held n (ap (λ (ns : List ℕ). is_used n ns) (sym own.used) ∙ h) in
      (k.board.owner n, o.0, o.1, o.2);
  one = λ seat other n v w here there e e'. apart words views seat other n v w k here there e e';
  generation = λ seat v here. subst (λ (n : ℕ). v.generation ≤ n) (sym (word 1 words views k)) (k.fits seat v here).generation;
  pulse = λ seat v here. subst (λ (n : ℕ). v.pulse ≤ n) (sym (word 3 words views k)) (k.fits seat v here).pulse;
  after = λ seat v here h. word 2 words views k ∙ k.device.stays (k.device.after (went_on_longer v.seen k.board.marks (k.fits seat v here).seen h));
  given = λ seat n s v here e. subst (λ (m : ℕ). n < m) (sym (word 4 words views k))
      (number_given k.board.editions n s (subst (IsKnown k.board.editions) e (k.fits seat v here).edition));
  same = λ seat other n s t v w here there e e'.
      are_one k.board.editions v.edition w.edition (k.fits seat v here).edition (k.fits other w there).edition n s t e e';
}
