-- Fields that are read one behind the other, and the bytes behind them, are read as the bytes say them.
use Rattle.std.proofs.Common.{◌≡◌, ◌≤◌, ℕ, List, [], take, drop, length, Some, Result, Ok, Err, refl, sym, ap, ltb, false, arith}
use Rattle.std.specs.Borrow.{Bor}
use Rattle.std.specs.Prelude.{IfOk}
use Rattle.std.proofs.lemmas.Bool.{le-ltb, ltb-false}
use Rattle.std.proofs.lemmas.List.{length-take}
use Rattle.fields.specs.declared.fault.MalformedMessage.{MalformedMessage}
use Rattle.fields.specs.declared.fault.MalformedMessage.TheVariants.{Short}
use Rattle.fields.specs.Fields.{Kind, Field}
use Rattle.fields.specs.Parts.{Gives, ◌>>=◌, bytes_at, fields_at}
use Rattle.fields.specs.Readers.{TakesAll, TakesBytes}
use Rattle.fields.proofs.FieldLaws.{guard_ok, ok_is}
use Rattle.fields.proofs.ReaderLaws.{all_taken}
use Rattle.fuse.specs.Requests.{Body, kinds_of, tail_length}
use Rattle.fuse.specs.Reading.{TakesTail, typed_at}

-- a body whose bytes behind the fields were read
made_of : (body : Body) (read : Result (List ℕ × List ℕ) MalformedMessage) (new : Result (Bor (List ℕ)) MalformedMessage)
    → Gives {Y = List ℕ × List ℕ} (λ rest. (body.tail, rest.now)) new read
    → Gives {Y = Body × List ℕ} (λ rest. (body, rest.now)) new
    (read >>= λ tail. Ok (record { opcode = body.opcode; fields = body.fields; tail = tail.0 }, tail.1))
made_of body read (Ok rest) e = rw e refl
made_of body read (Err fault) e = rw e refl

body_is : (body : Body) (read : Result (List Field × List ℕ) MalformedMessage) (mid new : Result (Bor (List ℕ)) MalformedMessage)
    → Gives {Y = List Field × List ℕ} (λ rest. (body.fields, rest.now)) mid read → TakesTail mid body new
    → Gives {Y = Body × List ℕ} (λ rest. (body, rest.now)) new
    (read >>= λ fields. bytes_at (tail_length body.opcode fields.0 (length fields.1), fields.1)
    >>= λ tail. Ok (record { opcode = body.opcode; fields = fields.0; tail = tail.0 }, tail.1))
body_is body read (Ok rest) new e tail =
    rw e (made_of body (bytes_at (tail_length body.opcode body.fields (length rest.now), rest.now)) new tail)
body_is body read (Err fault) new e tail = rw (e, tail) refl

pub typed_is : (body : Body) (kinds : List Kind) (bytes : Bor (List ℕ)) (mid new : Result (Bor (List ℕ)) MalformedMessage)
    → kinds_of body.opcode ≡ Some kinds → TakesAll (Ok bytes) kinds body.fields mid → TakesTail mid body new
    → Gives {Y = Body × List ℕ} (λ rest. (body, rest.now)) new (typed_at body.opcode bytes.now)
unfolding typed_at
typed_is body kinds bytes mid new e all tail =
    rw (e, typed_at) (body_is body (fields_at kinds bytes.now) mid new (all_taken kinds body.fields bytes mid all) tail)

-- where none stand behind the fields
no_tail : (body : Body) (left : Result (Bor (List ℕ)) MalformedMessage) → body.tail ≡ []
    → ((n : ℕ) → tail_length body.opcode body.fields n ≡ 0) → TakesTail left body left
no_tail body (Ok rest) empty none =
    let within : ltb (length rest.now) 0 ≡ false = le-ltb _ _ (omega arith) in
    rw (none (length rest.now), empty, within) refl
no_tail body (Err fault) empty none = refl

pub plain_is : (body : Body) (kinds : List Kind) (bytes : Bor (List ℕ)) (new : Result (Bor (List ℕ)) MalformedMessage)
    → kinds_of body.opcode ≡ Some kinds → body.tail ≡ [] → ((n : ℕ) → tail_length body.opcode body.fields n ≡ 0)
    → TakesAll (Ok bytes) kinds body.fields new → Gives {Y = Body × List ℕ} (λ rest. (body, rest.now)) new (typed_at body.opcode bytes.now)
plain_is body kinds bytes new e empty none all = typed_is body kinds bytes new new e all (no_tail body new empty none)

-- what was taken has its length
pub taken_length : (old new : Result (Bor (List ℕ)) MalformedMessage) (count : ℕ) (taken : List ℕ) → TakesBytes old count taken new
    → IfOk new (λ rest. length taken ≡ count)
taken_length (Ok bytes) (Ok rest) count taken e =
    let g = guard_ok (ltb (length bytes.now) count) Short (Ok (take count bytes.now, drop count bytes.now)) (taken, rest.now) e in
    let long : count ≤ length bytes.now = ltb-false _ _ g.0 in
    let is : take count bytes.now ≡ taken =
    ap (λ (x : List ℕ × List ℕ). x.0) (ok_is (take count bytes.now, drop count bytes.now) (taken, rest.now) g.1) in
    omega (arith, length-take count bytes.now, ap length is)
taken_length (Ok bytes) (Err fault) count taken e = tt
taken_length (Err first) (Ok rest) count taken e = absurd cc
taken_length (Err first) (Err fault) count taken e = tt

-- a body whose size is the length of what stands behind its fields
pub same_where : (body : ℕ → Body) (new : Result (Bor (List ℕ)) MalformedMessage) (n m : ℕ) → IfOk new (λ rest. m ≡ n)
    → IfOk new (λ rest. body n ≡ body m)
same_where body (Ok rest) n m e = ap body (sym e)
same_where body (Err fault) n m e = tt

pub always : {A : Type 0} (new : Result A MalformedMessage) (P : Type 0) → P → IfOk new (λ rest. P)
always (Ok rest) P h = h
always (Err fault) P h = tt

-- so many bytes were taken, as the fields say
pub size_taken : (body : Body) (old new : Result (Bor (List ℕ)) MalformedMessage) (n : ℕ)
    → ((left : ℕ) → tail_length body.opcode body.fields left ≡ n) → TakesBytes old n body.tail new → TakesTail old body new
size_taken body (Ok bytes) new n is taken = rw (is (length bytes.now)) taken
size_taken body (Err fault) new n is taken = taken

-- what stands behind INIT depends on none of its fields
pub init_taken : (old new : Result (Bor (List ℕ)) MalformedMessage) (fields : List Field) (tail : List ℕ)
    → TakesTail old (record { opcode = 26; fields = []; tail = tail }) new
    → TakesTail old (record { opcode = 26; fields = fields; tail = tail }) new
init_taken (Ok bytes) new fields tail taken = taken
init_taken (Err fault) new fields tail taken = taken
