-- What is read is spelled so, and what is spelled so is read.
use Rattle.std.proofs.Common.{◌≡◌, ℕ, zero, suc, ◌+◌, ◌*◌, ◌^◌, ◌<◌, Bool, true, false}
use Rattle.std.proofs.Common.{cond, eqb, List, [], ◌∷◌, ◌++◌, length, map, Option, None, Some}
use Rattle.std.proofs.Common.{Result, Ok, Err, refl, sym, ap, subst, ◌∙◌, arith}
use Rattle.std.specs.Prelude.{IfOk, MatchOption}
use Rattle.std.specs.Int.{w32}
use Rattle.std.specs.List.{AllByRecursion}
use Rattle.std.proofs.lemmas.Bool.{eqb-true, eq-eqb}
use Rattle.std.proofs.lemmas.List.{append-nil, nil_from_length, length-append}
use Rattle.fields.specs.declared.fault.MalformedMessage.{MalformedMessage}
use Rattle.fields.specs.declared.fault.MalformedMessage.TheVariants.{Size, Trailing}
use Rattle.fields.specs.Fields.{Four, number_bytes, Kind, Field, Number, Unused, Name, kind_of, seen, fields_bytes, Fits}
use Rattle.fields.specs.Parts.{◌>>=◌, Gives, number_at, bytes_at, fields_at}
use Rattle.fields.proofs.FieldLaws.{IsBytes, bind_ok, done, ok_is, Takes, takes_then, number_takes, number_again, number_length}
use Rattle.fields.proofs.FieldLaws.{bytes_take, bytes_again, fields_take, fields_again}
use Rattle.fuse.specs.declared.request.Message.{Message}
use Rattle.fuse.specs.Requests.{Body, Asked, kinds_of, number_in, number_at_place, tail_length, asker_kinds}
use Rattle.fuse.specs.Requests.{view, as_seen, body_bytes, rest_bytes, spelling, IsBody, IsRequest}
use Rattle.fuse.specs.Reading.{body_at, typed_at, asker_at, whole, rest_at, request_at}

-- a body as its reader sees it
abbrev seen_body : Body → Body
seen_body body = record { opcode = body.opcode; fields = map seen body.fields; tail = body.tail }

number_seen : (field : Field) → number_in (seen field) ≡ number_in field
number_seen (Number size n) = refl
number_seen (Unused size n) = refl
number_seen (Name bytes) = refl

-- a number has its value, whether fields are seen whole or as a reader sees them
number_at_seen : (place : ℕ) (fields : List Field) → number_at_place place (map seen fields) ≡ number_at_place place fields
number_at_seen place [] = refl
number_at_seen zero (field ∷ fields) = number_seen field
number_at_seen (suc place) (field ∷ fields) = number_at_seen place fields

tail_seen : (opcode : ℕ) (fields : List Field) (n : ℕ) → tail_length opcode (map seen fields) n ≡ tail_length opcode fields n
tail_seen opcode fields n = rw (number_at_seen 0 fields, number_at_seen 2 fields) refl

-- so many bytes stand there, of those that are left and of themselves
tail_again : (opcode : ℕ) (fields : List Field) (n : ℕ)
    → tail_length opcode fields (tail_length opcode fields n) ≡ tail_length opcode fields n
tail_again opcode fields n =
    choose (eqb opcode 16) (eqb opcode 42) (eqb opcode 26) (number_at_place 2 fields) (16 * number_at_place 0 fields) n
  where
    at_init : (b : Bool) → ◌≡◌ {A = ℕ} (cond (eqb (cond b 0 48) 0) 0 48) (cond b 0 48)
    at_init true = refl
    at_init false = refl

    choose : (a b c : Bool) (x y n : ℕ)
        → ◌≡◌ {A = ℕ} (cond a x (cond b y (cond c (cond (eqb (cond a x (cond b y (cond c (cond (eqb n 0) 0 48) 0))) 0) 0 48) 0)))
        (cond a x (cond b y (cond c (cond (eqb n 0) 0 48) 0)))
    choose true b c x y n = refl
    choose false true c x y n = refl
    choose false false true x y n = at_init (eqb n 0)
    choose false false false x y n = refl

-- what was read of a request's body
record IsTyped (opcode : ℕ) (bytes : List ℕ) (x : Body × List ℕ) : Type 0 where
  full : Body
  taken : Takes bytes (body_bytes full) x.1
  opcode_is : full.opcode ≡ opcode
  body : IsBody full
  fit : AllByRecursion Fits full.fields
  is_seen : seen_body full ≡ x.0

-- the fields and the tail are those of kinds that are known
known : (body : Body) (kinds : List Kind) → kinds_of body.opcode ≡ Some kinds → map kind_of body.fields ≡ kinds
    → length body.tail ≡ tail_length body.opcode body.fields (length body.tail) → IsBody body
known body kinds is are long =
    subst (λ (ks : Option (List Kind)). MatchOption ks (body.fields ≡ [])
    (λ kinds. (map kind_of body.fields ≡ kinds) × (length body.tail ≡ tail_length body.opcode body.fields (length body.tail)))) (sym is)
    (are, long)

body_takes : (opcode : ℕ) (kinds : List Kind) (bytes : List ℕ) (x : Body × List ℕ) → IsBytes bytes → kinds_of opcode ≡ Some kinds
    → body_at opcode kinds bytes ≡ Ok x → IsTyped opcode bytes x
body_takes opcode kinds bytes x fits is e =
    let a = bind_ok (fields_at kinds bytes)
    (λ fields. bytes_at (tail_length opcode fields.0 (length fields.1), fields.1)
    >>= λ tail. Ok (record { opcode = opcode; fields = fields.0; tail = tail.0 }, tail.1)) x e in
    let left = a.0.1 in
    let n = tail_length opcode a.0.0 (length left) in
    let b = bind_ok (bytes_at (n, left)) (λ tail. Ok (record { opcode = opcode; fields = a.0.0; tail = tail.0 }, tail.1)) x a.2 in
    let t = fields_take kinds bytes a.0 fits a.1 in
    let r = bytes_take n left b.0 t.taken.rest_fits b.1 in
    let full : Body = record { opcode = opcode; fields = t.full; tail = b.0.0 } in
    let so_many : length b.0.0 ≡ tail_length opcode t.full (length left) =
    r.1 ∙ ap (λ (fs : List Field). tail_length opcode fs (length left)) (sym t.as_seen) ∙ tail_seen opcode t.full (length left) in
    let own : length b.0.0 ≡ tail_length opcode t.full (length b.0.0) =
    so_many ∙ sym (tail_again opcode t.full (length left)) ∙ ap (tail_length opcode t.full) (sym so_many) in
    let made : Body × List ℕ = (record { opcode = opcode; fields = a.0.0; tail = b.0.0 }, b.0.1) in
    subst (λ (y : Body × List ℕ). IsTyped opcode bytes y) (ok_is made x b.2) (record {
      full = full;
      taken = takes_then bytes (fields_bytes t.full) left b.0.0 b.0.1 t.taken r.0;
      opcode_is = refl;
      body = known full kinds is t.kinds_are own;
      fit = t.fit;
      is_seen = ap (λ (fs : List Field). record { opcode = opcode; fields = fs; tail = b.0.0 }) t.as_seen;
    })

abbrev read_as : ℕ → List ℕ → Option (List Kind) → Result (Body × List ℕ) MalformedMessage
read_as opcode bytes kinds = elim kinds [
  | None ↦ Ok (record { opcode = opcode; fields = []; tail = bytes }, [])
  | Some kinds ↦ body_at opcode kinds bytes
]

-- of an opcode that isn't known all is taken
all_takes : (opcode : ℕ) (bytes : List ℕ) (x : Body × List ℕ) → kinds_of opcode ≡ None
    → done (record { opcode = opcode; fields = []; tail = bytes }, []) ≡ Ok x → IsTyped opcode bytes x
all_takes opcode bytes x is e =
    let full : Body = record { opcode = opcode; fields = []; tail = bytes } in
    subst (λ (y : Body × List ℕ). IsTyped opcode bytes y) (ok_is (full, []) x e) (record {
      full = full;
      taken = record { parts = sym (append-nil bytes); rest_fits = λ i. omega arith };
      opcode_is = refl;
      body =
          subst (λ (ks : Option (List Kind)). MatchOption ks (full.fields ≡ [])
          (λ kinds. (map kind_of full.fields ≡ kinds) × (length full.tail ≡ tail_length opcode full.fields (length full.tail)))) (sym is)
          refl;
      fit = tt;
      is_seen = refl;
    })

typed_takes : (opcode : ℕ) (bytes : List ℕ) (x : Body × List ℕ) → IsBytes bytes → typed_at opcode bytes ≡ Ok x → IsTyped opcode bytes x
unfolding typed_at
typed_takes opcode bytes x fits e = by (kinds_of opcode) refl e where
  by : (kinds : Option (List Kind)) → kinds_of opcode ≡ kinds → read_as opcode bytes kinds ≡ Ok x → IsTyped opcode bytes x
  by None is h = all_takes opcode bytes x is h
  by (Some kinds) is h = body_takes opcode kinds bytes x fits is h

body_again : (body : Body) → AllByRecursion Fits body.fields
    → length body.tail ≡ tail_length body.opcode body.fields (length body.tail)
    → body_at body.opcode (map kind_of body.fields) (body_bytes body) ≡ Ok (seen_body body, [])
body_again body fits long =
    let n = tail_length body.opcode (map seen body.fields) (length body.tail) in
    let so_many : length body.tail ≡ n = long ∙ sym (tail_seen body.opcode body.fields (length body.tail)) in
    let tail : bytes_at (n, body.tail) ≡ Ok (body.tail, []) =
    ap (λ (bytes : List ℕ). bytes_at (n, bytes)) (sym (append-nil body.tail)) ∙ bytes_again n body.tail [] so_many in
    rw (fields_again body.fields body.tail fits, tail) refl

typed_again : (body : Body) → IsBody body → AllByRecursion Fits body.fields
    → typed_at body.opcode (body_bytes body) ≡ Ok (seen_body body, [])
unfolding typed_at
typed_again body is fits = by (kinds_of body.opcode) refl is where
  by : (kinds : Option (List Kind)) → kinds_of body.opcode ≡ kinds
      → MatchOption kinds (body.fields ≡ [])
      (λ kinds. (map kind_of body.fields ≡ kinds) × (length body.tail ≡ tail_length body.opcode body.fields (length body.tail)))
      → read_as body.opcode (body_bytes body) (kinds_of body.opcode) ≡ Ok (seen_body body, [])
  by None known h = rw (known, h) refl
  by (Some kinds) known h =
      subst (λ (ks : Option (List Kind)). read_as body.opcode (body_bytes body) ks ≡ Ok (seen_body body, []))
      (ap (λ (ks : List Kind). Some ks) h.0 ∙ sym known) (body_again body fits h.1)

guard_ended : {A : Type 0} (b : Bool) (d : MalformedMessage) (x y : A) → cond b (Ok x) (Err d) ≡ Ok y → (b ≡ true) × (x ≡ y)
guard_ended true d x y e = (refl, ok_is x y e)
guard_ended false d x y e = absurd cc

-- what was read behind the length
record IsRest (bytes : List ℕ) (m : Asked) : Type 0 where
  full : Asked
  parts : bytes ≡ rest_bytes full
  asker : map kind_of full.asker ≡ asker_kinds
  asker_fits : AllByRecursion Fits full.asker
  body : IsBody full.body
  fields_fit : AllByRecursion Fits full.body.fields
  opcode : full.body.opcode < 2 ^ 32
  is_seen : as_seen full ≡ m

rest_takes : (bytes : List ℕ) (m : Asked) → IsBytes bytes → rest_at bytes ≡ Ok m → IsRest bytes m
unfolding rest_at asker_at
rest_takes bytes m fits e =
    let a = bind_ok (number_at w32 bytes)
    (λ opcode. fields_at asker_kinds opcode.1 >>= λ asker.
    (typed_at opcode.0 asker.1 >>= whole) >>= λ body. Ok (record { asker = asker.0; body = body })) m e in
    let b = bind_ok (fields_at asker_kinds a.0.1)
    (λ asker. (typed_at a.0.0 asker.1 >>= whole) >>= λ body. Ok (record { asker = asker.0; body = body })) m a.2 in
    let c = bind_ok (typed_at a.0.0 b.0.1 >>= whole) (λ body. Ok (record { asker = b.0.0; body = body })) m b.2 in
    let d = bind_ok (typed_at a.0.0 b.0.1) whole c.0 c.1 in
    let g = guard_ended (eqb (length d.0.1) 0) Trailing d.0.0 c.0 d.2 in
    let first = number_takes Four bytes a.0 fits a.1 in
    let second = fields_take asker_kinds a.0.1 b.0 first.0.rest_fits b.1 in
    let third = typed_takes a.0.0 b.0.1 d.0 second.taken.rest_fits d.1 in
    let nothing : d.0.1 ≡ [] = nil_from_length d.0.1 (eqb-true _ _ g.0) in
    let behind = fields_bytes second.full ++ body_bytes third.full in
    let last = takes_then a.0.1 (fields_bytes second.full) b.0.1 (body_bytes third.full) d.0.1 second.taken third.taken in
    let text = number_bytes Four a.0.0 ++ behind in
    let all : bytes ≡ text ++ d.0.1 = (takes_then bytes (number_bytes Four a.0.0) a.0.1 behind d.0.1 first.0 last).parts in
    let full : Asked = record { asker = second.full; body = third.full } in
    let made : Asked = record { asker = b.0.0; body = c.0 } in
    let same_body : seen_body third.full ≡ c.0 = third.is_seen ∙ g.1 in record {
      full = full;
      parts = all ∙ ap (λ (r : List ℕ). text ++ r) nothing ∙ append-nil text
          ∙ ap (λ (n : ℕ). number_bytes Four n ++ behind) (sym third.opcode_is);
      asker = second.kinds_are;
      asker_fits = second.fit;
      body = third.body;
      fields_fit = third.fit;
      opcode = subst (λ n. n < 2 ^ 32) (sym third.opcode_is) first.1;
      is_seen = rw (second.as_seen, same_body) (ok_is made m c.2);
    }

rest_again : (m : Asked) → IsRequest m → rest_at (rest_bytes m) ≡ Ok (as_seen m)
unfolding rest_at asker_at
rest_again m is =
    let asker : fields_at asker_kinds (fields_bytes m.asker ++ body_bytes m.body) ≡ Ok (map seen m.asker, body_bytes m.body) =
    ap (λ (kinds : List Kind). fields_at kinds (fields_bytes m.asker ++ body_bytes m.body)) (sym is.asker)
    ∙ fields_again m.asker (body_bytes m.body) is.asker_fits in
    rw (
      number_again Four m.body.opcode (fields_bytes m.asker ++ body_bytes m.body) is.opcode,
      asker,
      typed_again m.body is.body is.fields_fit,
    ) refl

-- what was read as a request
abbrev pub IsFound : List ℕ → Asked → Type 0
IsFound bytes m = (full : Asked) × IsRequest full × (bytes ≡ spelling full) × (m ≡ as_seen full)

request_takes : (bytes : List ℕ) (m : Asked) → IsBytes bytes → request_at bytes ≡ Ok m → IsFound bytes m
unfolding request_at
request_takes bytes m fits e =
    let a = bind_ok (number_at w32 bytes) (λ size. cond (eqb size.0 (length bytes)) (rest_at size.1) (Err Size)) m e in
    let first = number_takes Four bytes a.0 fits a.1 in
    let g = sized (eqb a.0.0 (length bytes)) (rest_at a.0.1) m a.2 in
    let size : a.0.0 ≡ length bytes = eqb-true _ _ g.0 in
    let rest = rest_takes a.0.1 m first.0.rest_fits g.1 in
    let text = rest_bytes rest.full in
    let parts : bytes ≡ number_bytes Four a.0.0 ++ text =
    first.0.parts ∙ ap (λ (r : List ℕ). number_bytes Four a.0.0 ++ r) rest.parts in
    let long : a.0.0 ≡ 4 + length text =
    size ∙ ap length parts ∙ length-append (number_bytes Four a.0.0) text ∙ ap (λ n. n + length text) (number_length Four a.0.0) in (
      rest.full,
      record {
        asker = rest.asker;
        asker_fits = rest.asker_fits;
        body = rest.body;
        fields_fit = rest.fields_fit;
        opcode = rest.opcode;
        size = omega (arith, first.1, long);
      },
      parts ∙ ap (λ n. number_bytes Four n ++ text) long,
      sym rest.is_seen,
    )
  where
    sized : (b : Bool) (x : Result Asked MalformedMessage) (y : Asked) → cond b x (Err Size) ≡ Ok y → (b ≡ true) × (x ≡ Ok y)
    sized true x y h = (refl, h)
    sized false x y h = absurd cc

pub request_again : (m : Asked) → IsRequest m → request_at (spelling m) ≡ Ok (as_seen m)
unfolding request_at
request_again m is =
    let size = 4 + length (rest_bytes m) in
    let long : length (spelling m) ≡ size =
    length-append (number_bytes Four size) (rest_bytes m) ∙ ap (λ n. n + length (rest_bytes m)) (number_length Four size) in
    rw (number_again Four size (rest_bytes m) is.size, long, eq-eqb size size refl) (rest_again m is)

pub is_found : (bytes : List ℕ) (r : Result Message MalformedMessage) → IsBytes bytes → Gives (λ m. view m) r (request_at bytes)
    → IfOk r (λ m. IsFound bytes (view m))
is_found bytes (Ok m) fits given = request_takes bytes (view m) fits given
is_found bytes (Err fault) fits given = tt
