-- What a connection answered, as a relation of its message and its answer.
use Rattle.std.proofs.Common.{◌≡◌, ℕ, List, [], subst}
use Rattle.std.specs.Prelude.{Result, Ok, Err, OnOk}
use Rattle.tree.specs.declared.Call.{Call}
use Rattle.tree.specs.declared.Outcome.{Outcome}
use Rattle.ninep_server.specs.Connections.{Answers, Says}
use Rattle.ninep_server.specs.Exchanges.{IsExchanged}
use Rattle.ninep_fids.specs.Knowledge.{Known}
use Rattle.ninep_fids.specs.Written.{tag_in}
use Rattle.talks.specs.Talks.{MayHear}
use Rattle.talks.specs.declared.ask.Leaving.{Leaving}
use Rattle.talks.specs.declared.sessions.EnterRefusal.{EnterRefusal}

exchanged : {S : Type 0} (called : S → ℕ → ℕ → Call → Outcome → S → Type 0)
    (entered : S → ℕ → ℕ → Result ℕ EnterRefusal → S → Type 0) (left : S → Leaving → S → Type 0) (now capacity len : ℕ)
    (message from answer : List ℕ) (s t : S) (k l : Known) → from ≡ [] → len ≡ 0
    → Answers (MayHear called entered left now) (tag_in message) l.message_size s t from answer
    → Says (MayHear called entered left now) now message s k t l len capacity from answer
    → IsExchanged S called entered left message answer s k t l
exchanged called entered left now capacity len message from answer s t k l none zero answered said =
    let may = MayHear called entered left now in
    let P : List ℕ → ℕ → Type 0 = λ f n.
    Answers may (tag_in message) l.message_size s t f answer × Says may now message s k t l n capacity f answer in
    let both : P [] 0 = subst (λ (n : ℕ). P [] n) zero (subst (λ (f : List ℕ). P f len) none (answered, said)) in
    (now, capacity, both.0, both.1)

pub exchanged_ok : {S A E : Type 0} (called : S → ℕ → ℕ → Call → Outcome → S → Type 0)
    (entered : S → ℕ → ℕ → Result ℕ EnterRefusal → S → Type 0) (left : S → Leaving → S → Type 0) (now capacity len : ℕ)
    (message from answer : List ℕ) (s t : S) (k l : Known) (r : Result A E) → from ≡ [] → len ≡ 0
    → OnOk r (Answers (MayHear called entered left now) (tag_in message) l.message_size s t from answer)
    → OnOk r (Says (MayHear called entered left now) now message s k t l len capacity from answer)
    → OnOk r (IsExchanged S called entered left message answer s k t l)
exchanged_ok called entered left now capacity len message from answer s t k l (Ok a) none zero answered said =
    exchanged called entered left now capacity len message from answer s t k l none zero answered said
exchanged_ok called entered left now capacity len message from answer s t k l (Err e) none zero answered said = tt
