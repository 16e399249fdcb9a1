-- Fields that are read one behind the other are read as the bytes say them.
use Rattle.std.proofs.Common.{◌≡◌, ℕ, List, [], ◌∷◌, Result, Ok, Err, refl, subst}
use Rattle.std.specs.Borrow.{Bor}
use Rattle.fields.specs.declared.fault.MalformedMessage.{MalformedMessage}
use Rattle.fields.specs.Fields.{Kind, Field}
use Rattle.fields.specs.Parts.{Gives, ◌>>=◌, fields_at}
use Rattle.fields.specs.Readers.{TakesAll}

-- behind a fault nothing is read
pub none_taken : (kinds : List Kind) (fields : List Field) (fault : MalformedMessage) (new : Result (Bor (List ℕ)) MalformedMessage)
    → TakesAll (Err fault) kinds fields new → new ≡ Err fault
none_taken [] [] fault new e = e
none_taken (kind ∷ kinds) (field ∷ fields) fault new (mid, e, all) =
    none_taken kinds fields fault new (subst (λ m. TakesAll m kinds fields new) e all)
none_taken [] (field ∷ fields) fault new e = absurd e
none_taken (kind ∷ kinds) [] fault new e = absurd e

goes_on : (kinds : List Kind) (fields : List Field) (field : Field) (rest : Bor (List ℕ)) (new : Result (Bor (List ℕ)) MalformedMessage)
    → Gives {Y = List Field × List ℕ} (λ rest. (fields, rest.now)) new (fields_at kinds rest.now)
    → Gives {Y = List Field × List ℕ} (λ rest. (field ∷ fields, rest.now)) new
    (fields_at kinds rest.now >>= λ fields. Ok (field ∷ fields.0, fields.1))
goes_on kinds fields field rest (Ok after) e = rw e refl
goes_on kinds fields field rest (Err fault) e = rw e refl

pub all_taken : (kinds : List Kind) (fields : List Field) (bytes : Bor (List ℕ)) (new : Result (Bor (List ℕ)) MalformedMessage)
    → TakesAll (Ok bytes) kinds fields new → Gives {Y = List Field × List ℕ} (λ rest. (fields, rest.now)) new (fields_at kinds bytes.now)
unfolding fields_at
all_taken [] [] bytes new e = rw e refl
all_taken (kind ∷ kinds) (field ∷ fields) bytes new (Ok rest, taken, all) =
    rw taken (goes_on kinds fields field rest new (all_taken kinds fields rest new all))
all_taken (kind ∷ kinds) (field ∷ fields) bytes new (Err fault, taken, all) = rw (none_taken kinds fields fault new all, taken) refl
all_taken [] (field ∷ fields) bytes new e = absurd e
all_taken (kind ∷ kinds) [] bytes new e = absurd e
