-- What is read is spelled so, and what is spelled so is read.
use Rattle.std.proofs.Common.{◌≡◌, ℕ, ◌+◌, ◌^◌, ◌<◌, Bool, true, false, cond, eqb, List, [], ◌∷◌, ◌++◌, length, map, Option, None, Some}
use Rattle.std.proofs.Common.{Result, Ok, Err, refl, sym, ap, subst, ◌∙◌, append_assoc, arith}
use Rattle.std.specs.Prelude.{IfOk}
use Rattle.std.specs.Int.{w8, w16, w32}
use Rattle.std.specs.List.{AllByRecursion}
use Rattle.std.proofs.lemmas.Bool.{eqb-true, eq-eqb}
use Rattle.std.proofs.lemmas.List.{append-nil, nil_from_length, length-append}
use Rattle.std.proofs.lemmas.List.Concat.{flat_map-cons}
use Rattle.ninep.specs.declared.fault.MalformedMessage.{MalformedMessage}
use Rattle.ninep.specs.declared.fault.MalformedMessage.TheVariants.{Size, Unknown, Trailing}
use Rattle.ninep.specs.declared.request.Message.{Message}
use Rattle.ninep.specs.Fields.{One, Two, Four, width, number_bytes, Kind, IsNumber, IsText, IsData, AreNames, Field, Number, Text, Data}
use Rattle.ninep.specs.Fields.{Names, kind_of, field_bytes, fields_bytes, Fits}
use Rattle.ninep.specs.Requests.{Body, Tagged, kinds_of, view, rest_bytes, spelling, IsRequest}
use Rattle.ninep.specs.Parts.{◌>>=◌, Gives, number_at, text_at, names_at}
use Rattle.ninep.specs.Reading.{field_at, fields_at, typed_at, whole, rest_at, request_at}
use Rattle.ninep.proofs.FieldLaws.{IsBytes, bind_ok, ok_is, Takes, takes_then, number_takes, number_again, number_length, text_takes}
use Rattle.ninep.proofs.FieldLaws.{text_again, names_take, names_again}

field_takes : (kind : Kind) (bytes : List ℕ) (x : Field × List ℕ) → IsBytes bytes → field_at kind bytes ≡ Ok x
    → Takes bytes (field_bytes x.0) x.1 × (kind_of x.0 ≡ kind) × Fits x.0
field_takes (IsNumber size) bytes x fits e =
    let b = bind_ok (number_at (width size) bytes) (λ n. Ok (Number size n.0, n.1)) x e in
    let t = number_takes size bytes b.0 fits b.1 in
    subst (λ (y : Field × List ℕ). Takes bytes (field_bytes y.0) y.1 × (kind_of y.0 ≡ IsNumber size) × Fits y.0)
    (ok_is (Number size b.0.0, b.0.1) x b.2) (t.0, refl, t.1)
field_takes IsText bytes x fits e =
    let b = bind_ok (text_at w16 bytes) (λ n. Ok (Text n.0, n.1)) x e in
    let t = text_takes Two bytes b.0 fits b.1 in
    subst (λ (y : Field × List ℕ). Takes bytes (field_bytes y.0) y.1 × (kind_of y.0 ≡ IsText) × Fits y.0)
    (ok_is (Text b.0.0, b.0.1) x b.2) (t.0, refl, t.1)
field_takes IsData bytes x fits e =
    let b = bind_ok (text_at w32 bytes) (λ n. Ok (Data n.0, n.1)) x e in
    let t = text_takes Four bytes b.0 fits b.1 in
    subst (λ (y : Field × List ℕ). Takes bytes (field_bytes y.0) y.1 × (kind_of y.0 ≡ IsData) × Fits y.0)
    (ok_is (Data b.0.0, b.0.1) x b.2) (t.0, refl, t.1)
field_takes AreNames bytes x fits e =
    let b = bind_ok (names_at bytes) (λ n. Ok (Names n.0, n.1)) x e in
    let t = names_take bytes b.0 fits b.1 in
    subst (λ (y : Field × List ℕ). Takes bytes (field_bytes y.0) y.1 × (kind_of y.0 ≡ AreNames) × Fits y.0)
    (ok_is (Names b.0.0, b.0.1) x b.2) (t.0, refl, (t.1, t.2))

field_again : (field : Field) (rest : List ℕ) → Fits field → field_at (kind_of field) (field_bytes field ++ rest) ≡ Ok (field, rest)
field_again (Number size n) rest fits = rw (number_again size n rest fits) refl
field_again (Text text) rest fits = rw (text_again Two text rest fits) refl
field_again (Data text) rest fits = rw (text_again Four text rest fits) refl
field_again (Names names) rest fits = rw (names_again names rest fits.0 fits.1) refl

fields_take : (kinds : List Kind) (bytes : List ℕ) (x : List Field × List ℕ) → IsBytes bytes → fields_at kinds bytes ≡ Ok x
    → Takes bytes (fields_bytes x.0) x.1 × (map kind_of x.0 ≡ kinds) × AllByRecursion Fits x.0
unfolding fields_at
fields_take [] bytes x fits e =
    subst (λ (y : List Field × List ℕ). Takes bytes (fields_bytes y.0) y.1 × (map kind_of y.0 ≡ []) × AllByRecursion Fits y.0)
    (ok_is ([], bytes) x e) (record { parts = refl; rest_fits = fits }, refl, tt)
fields_take (kind ∷ kinds) bytes x fits e =
    let a = bind_ok (field_at kind bytes) (λ field. fields_at kinds field.1 >>= λ fields. Ok (field.0 ∷ fields.0, fields.1)) x e in
    let b = bind_ok (fields_at kinds a.0.1) (λ fields. Ok (a.0.0 ∷ fields.0, fields.1)) x a.2 in
    let first = field_takes kind bytes a.0 fits a.1 in
    let second = fields_take kinds a.0.1 b.0 first.0.rest_fits b.1 in
    let both = takes_then bytes (field_bytes a.0.0) a.0.1 (fields_bytes b.0.0) b.0.1 first.0 second.0 in
    let made : List Field × List ℕ = (a.0.0 ∷ b.0.0, b.0.1) in
    let same : map kind_of made.0 ≡ kind ∷ kinds = rw (first.1, second.1) refl in
    subst (λ (y : List Field × List ℕ). Takes bytes (fields_bytes y.0) y.1 × (map kind_of y.0 ≡ kind ∷ kinds) × AllByRecursion Fits y.0)
    (ok_is made x b.2) (rw flat_map-cons both, same, (first.2, second.2))

fields_again : (fields : List Field) (rest : List ℕ) → AllByRecursion Fits fields
    → fields_at (map kind_of fields) (fields_bytes fields ++ rest) ≡ Ok (fields, rest)
unfolding fields_at
fields_again [] rest fits = refl
fields_again (field ∷ fields) rest fits =
    let others = fields_bytes fields ++ rest in
    let regrouped : fields_bytes (field ∷ fields) ++ rest ≡ field_bytes field ++ others =
    ap (λ (x : List ℕ). x ++ rest) (flat_map-cons field_bytes field fields) ∙ append_assoc (field_bytes field) (fields_bytes fields) rest in
    ap (fields_at (map kind_of (field ∷ fields))) regrouped ∙ rw (field_again field others fits.0, fields_again fields rest fits.1) refl

guard_ended : {A : Type 0} (b : Bool) (d : MalformedMessage) (x y : A) → cond b (Ok x) (Err d) ≡ Ok y → (b ≡ true) × (x ≡ y)
guard_ended true d x y e = (refl, ok_is x y e)
guard_ended false d x y e = absurd cc

-- what was read of a request's fields: their bytes, and that they are those of its type
record AreFields (number : ℕ) (bytes : List ℕ) (x : Body × List ℕ) : Type 0 where
  taken : Takes bytes (fields_bytes x.0.fields) x.1
  number_is : x.0.number ≡ number
  kinds : kinds_of number ≡ Some (map kind_of x.0.fields)
  fits : AllByRecursion Fits x.0.fields

-- the fields of these kinds, if there are such
abbrev read_as : ℕ → List ℕ → Option (List Kind) → Result (Body × List ℕ) MalformedMessage
read_as number bytes kinds = elim kinds [
  | None ↦ Err Unknown
  | Some kinds ↦ (fields_at kinds bytes >>= λ fields. Ok (record { number = number; fields = fields.0 }, fields.1))
]

typed_takes : (number : ℕ) (bytes : List ℕ) (x : Body × List ℕ) → IsBytes bytes → typed_at number bytes ≡ Ok x → AreFields number bytes x
unfolding typed_at
typed_takes number bytes x fits e = by (kinds_of number) refl e where
  by : (kinds : Option (List Kind)) → kinds_of number ≡ kinds → read_as number bytes kinds ≡ Ok x → AreFields number bytes x
  by None is h = absurd cc
  by (Some kinds) is h =
      let b = bind_ok (fields_at kinds bytes) (λ fields. Ok (record { number = number; fields = fields.0 }, fields.1)) x h in
      let t = fields_take kinds bytes b.0 fits b.1 in
      let made : Body × List ℕ = (record { number = number; fields = b.0.0 }, b.0.1) in
      subst (λ (y : Body × List ℕ). AreFields number bytes y) (ok_is made x b.2)
      (record { taken = t.0; number_is = refl; kinds = is ∙ ap (λ (ks : List Kind). Some ks) (sym t.1); fits = t.2 })

typed_again : (body : Body) (rest : List ℕ) → kinds_of body.number ≡ Some (map kind_of body.fields) → AllByRecursion Fits body.fields
    → typed_at body.number (fields_bytes body.fields ++ rest) ≡ Ok (body, rest)
unfolding typed_at
typed_again body rest kinds fits =
    subst (λ (ks : Option (List Kind)). read_as body.number (fields_bytes body.fields ++ rest) ks ≡ Ok (body, rest)) (sym kinds)
    (rw (fields_again body.fields rest fits) refl)

rest_takes : (bytes : List ℕ) (m : Tagged) → IsBytes bytes → rest_at bytes ≡ Ok m
    → (bytes ≡ rest_bytes m) × (m.body.number < 2 ^ 8) × (m.tag < 2 ^ 16) × (kinds_of m.body.number ≡ Some (map kind_of m.body.fields))
    × AllByRecursion Fits m.body.fields
unfolding rest_at
rest_takes bytes m fits e =
    let a = bind_ok (number_at w8 bytes)
    (λ number. number_at w16 number.1 >>= λ tag.
    (typed_at number.0 tag.1 >>= whole) >>= λ body. Ok (record { tag = tag.0; body = body })) m e in
    let b = bind_ok (number_at w16 a.0.1)
    (λ tag. (typed_at a.0.0 tag.1 >>= whole) >>= λ body. Ok (record { tag = tag.0; body = body })) m a.2 in
    let c = bind_ok (typed_at a.0.0 b.0.1 >>= whole) (λ body. Ok (record { tag = b.0.0; body = body })) m b.2 in
    let d = bind_ok (typed_at a.0.0 b.0.1) whole c.0 c.1 in
    let g = guard_ended (eqb (length d.0.1) 0) Trailing d.0.0 c.0 d.2 in
    let first = number_takes One bytes a.0 fits a.1 in
    let second = number_takes Two a.0.1 b.0 first.0.rest_fits b.1 in
    let third = typed_takes a.0.0 b.0.1 d.0 second.0.rest_fits d.1 in
    let nothing : d.0.1 ≡ [] = nil_from_length d.0.1 (eqb-true _ _ g.0) in
    let last = takes_then a.0.1 (number_bytes Two b.0.0) b.0.1 (fields_bytes d.0.0.fields) d.0.1 second.0 third.taken in
    let behind = number_bytes Two b.0.0 ++ fields_bytes d.0.0.fields in
    let all = (takes_then bytes (number_bytes One a.0.0) a.0.1 behind d.0.1 first.0 last).parts in
    let text = number_bytes One a.0.0 ++ (number_bytes Two b.0.0 ++ fields_bytes d.0.0.fields) in
    let whole_text : bytes ≡ text = all ∙ ap (λ (r : List ℕ). text ++ r) nothing ∙ append-nil text in
    let made : Tagged = record { tag = b.0.0; body = d.0.0 } in
    let same : made ≡ m =
    ap (λ (body : Body). record { tag = b.0.0; body = body }) g.1 ∙ ok_is (record { tag = b.0.0; body = c.0 }) m c.2 in
    subst (λ (y : Tagged). (bytes ≡ rest_bytes y) × (y.body.number < 2 ^ 8) × (y.tag < 2 ^ 16)
    × (kinds_of y.body.number ≡ Some (map kind_of y.body.fields)) × AllByRecursion Fits y.body.fields) same (
      whole_text ∙ ap (λ (n : ℕ). number_bytes One n ++ (number_bytes Two b.0.0 ++ fields_bytes d.0.0.fields)) (sym third.number_is),
      subst (λ n. n < 2 ^ 8) (sym third.number_is) first.1,
      second.1,
      ap kinds_of third.number_is ∙ third.kinds,
      third.fits,
    )

rest_again : (m : Tagged) → IsRequest m → rest_at (rest_bytes m) ≡ Ok m
unfolding rest_at
rest_again m is =
    let body : typed_at m.body.number (fields_bytes m.body.fields) ≡ Ok (m.body, []) =
    ap (typed_at m.body.number) (sym (append-nil (fields_bytes m.body.fields))) ∙ typed_again m.body [] is.kinds is.fields in
    rw (
      number_again One m.body.number (number_bytes Two m.tag ++ fields_bytes m.body.fields) is.number,
      number_again Two m.tag (fields_bytes m.body.fields) is.tag,
      body,
    ) refl

pub request_takes : (bytes : List ℕ) (m : Tagged) → IsBytes bytes → request_at bytes ≡ Ok m → IsRequest m × (bytes ≡ spelling m)
unfolding request_at
request_takes bytes m fits e =
    let a = bind_ok (number_at w32 bytes) (λ size. cond (eqb size.0 (length bytes)) (rest_at size.1) (Err Size)) m e in
    let first = number_takes Four bytes a.0 fits a.1 in
    let g = sized (eqb a.0.0 (length bytes)) (rest_at a.0.1) m a.2 in
    let size : a.0.0 ≡ length bytes = eqb-true _ _ g.0 in
    let rest = rest_takes a.0.1 m first.0.rest_fits g.1 in
    let parts : bytes ≡ number_bytes Four a.0.0 ++ rest_bytes m =
    first.0.parts ∙ ap (λ (r : List ℕ). number_bytes Four a.0.0 ++ r) rest.0 in
    let long : a.0.0 ≡ 4 + length (rest_bytes m) =
    size ∙ ap length parts ∙ length-append (number_bytes Four a.0.0) (rest_bytes m)
    ∙ ap (λ n. n + length (rest_bytes m)) (number_length Four a.0.0) in (
      record { kinds = rest.3; fields = rest.4; number = rest.1; tag = rest.2; size = omega (arith, first.1, long) },
      parts ∙ ap (λ n. number_bytes Four n ++ rest_bytes m) long,
    )
  where
    sized : (b : Bool) (x : Result Tagged MalformedMessage) (y : Tagged) → cond b x (Err Size) ≡ Ok y → (b ≡ true) × (x ≡ Ok y)
    sized true x y h = (refl, h)
    sized false x y h = absurd cc

pub request_again : (m : Tagged) → IsRequest m → request_at (spelling m) ≡ Ok m
unfolding request_at
request_again m is =
    let size = 4 + length (rest_bytes m) in
    let long : length (spelling m) ≡ size =
    length-append (number_bytes Four size) (rest_bytes m) ∙ ap (λ n. n + length (rest_bytes m)) (number_length Four size) in
    rw (number_again Four size (rest_bytes m) is.size, long, eq-eqb size size refl) (rest_again m is)

pub is_found : (bytes : List ℕ) (r : Result Message MalformedMessage) → IsBytes bytes → Gives (λ m. view m) r (request_at bytes)
    → IfOk r (λ m. IsRequest (view m) × (bytes ≡ spelling (view m)))
is_found bytes (Ok m) fits given = request_takes bytes (view m) fits given
is_found bytes (Err fault) fits given = tt
