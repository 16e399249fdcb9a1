-- Turns and what was asked before them.
use Rattle.std.proofs.Common.{◌≡◌, ◌∙◌, ◌<◌, ◌+◌, ℕ, Bool, true, false, sym, List, [], ◌∷◌, Result, Ok, Err, OnOk, OnErr, is_ok, refl}
use Rattle.std.proofs.Common.{subst, inl, inr, ◌⊎◌, ◌≤◌, arith}
use Rattle.errno.specs.declared.Errno.TheVariants.{ENOMEM}
use Rattle.ninep.specs.Parts.{Gives}
use Rattle.ninep.specs.Reading.{request_at}
use Rattle.ninep.specs.Requests.{view}
use Rattle.ninep.specs.declared.fault.MalformedMessage.{MalformedMessage}
use Rattle.ninep.specs.declared.request.Message.{Message}
use Rattle.tree.specs.declared.Call.TheVariants as call
use Rattle.talks.specs.declared.heard.Heard.{Heard}
use Rattle.ninep_fids.specs.declared.answer.Said.{Said}
use Rattle.ninep_fids.specs.declared.answer.Said.TheVariants as said
use Rattle.ninep_fids.specs.declared.answer.NinepAnswer.{NinepAnswer}
use Rattle.talks.specs.declared.ask.Ask.{Ask}
use Rattle.talks.specs.declared.ask.Ask.TheVariants as ask
use Rattle.ninep_fids.specs.Written.{IsWritten, IsSaidIn, too_long, tag_in}
use Rattle.ninep_fids.specs.Knowledge.{Known}
use Rattle.ninep_fids.specs.Plans.{Follows}
use Rattle.talks.specs.declared.refused.Refused.TheVariants.{By}
use Rattle.ninep_fids.specs.declared.answer.NinepAnswer.TheVariants as answer
use Rattle.talks.specs.Talks.{Exchange, IsDone}
use Rattle.ninep_fids.specs.Asked.{HasAsked}
use Rattle.ninep_server.specs.declared.turn.Turn.{Turn}
use Rattle.ninep_server.specs.declared.turn.Turn.TheVariants as turn
use Rattle.ninep_server.specs.Connections.{Answers, Says}
use Rattle.ninep_server.specs.Answering.{IsAnswered, plan_for}
use Rattle.ninep_server.specs.Turns.{IsPlain, IsBehindSync, Reaches}

-- what doesn't say that a sync was done may be said behind anything
pub plain_behind : (t : Turn) (log : List Exchange) → IsPlain t → IsBehindSync t log
plain_behind (turn.Go work) log h = tt
plain_behind (turn.Sync session) log h = tt
plain_behind (turn.Said (said.Plain answer)) log h = λ e. absurd (plain_is_not e) where
  plain_is_not : said.Plain answer ≡ said.Synced → ⊥
  plain_is_not e = cc
plain_behind (turn.Said said.Synced) log h = absurd h

-- behind a sync: it is said that it was done where it was
pub behind_sync : (t : Turn) (h : Heard) (session : ℕ) (log : List Exchange) → IsDone h ⊎ IsPlain t
    → IsBehindSync t (record { ask = ask.Call session call.Sync; heard = h } ∷ log)
behind_sync t h session log (inr plain) = plain_behind t _ plain
behind_sync (turn.Go work) h session log (inl done) = tt
behind_sync (turn.Sync other) h session log (inl done) = tt
behind_sync (turn.Said s) h session log (inl done) = λ e. (session, refl, done)

-- one exchange more
pub goes_on : {S : Type 0} (may : S → Ask → Heard → S → Type 0) (start s t : S) (a : Ask) (h : Heard) (before here : Turn)
    → Reaches may start before s → may s a h t → IsPlain here → Reaches may start here t
goes_on may start s t a h before here reached heard plain =
    let log : List Exchange = record { ask = a; heard = h } ∷ reached.0 in
    (log, (s, reached.1, heard), plain_behind here log plain)

-- one sync more
pub syncs : {S : Type 0} (may : S → Ask → Heard → S → Type 0) (start s t : S) (session : ℕ) (h : Heard) (before here : Turn)
    → Reaches may start before s → may s (ask.Call session call.Sync) h t → IsDone h ⊎ IsPlain here → Reaches may start here t
syncs may start s t session h before here reached heard known =
    let log : List Exchange = record { ask = ask.Call session call.Sync; heard = h } ∷ reached.0 in
    (log, (s, reached.1, heard), behind_sync here h session reached.0 known)

-- nothing is asked yet
pub begins : {S : Type 0} (may : S → Ask → Heard → S → Type 0) (s : S) (here : Turn) → IsPlain here → Reaches may s here s
begins may s here plain = ([], refl, plain_behind here [] plain)

-- an answer that says nothing of a sync, behind whatever was asked
pub plainly : {S : Type 0} (may : S → Ask → Heard → S → Type 0) (start t : S) (here : Turn) (a : NinepAnswer) → Reaches may start here t
    → HasAsked may start (said.Plain a) t
plainly may start t here a reached = (reached.0, reached.1, λ e. absurd (isnt_synced e)) where
  isnt_synced : said.Plain a ≡ said.Synced → ⊥
  isnt_synced e = cc

-- nothing was asked
pub unasked : {S : Type 0} (may : S → Ask → Heard → S → Type 0) (s : S) (a : NinepAnswer) → HasAsked may s (said.Plain a) s
unasked may s a = plainly may s s (turn.Said (said.Plain a)) a (begins may s (turn.Said (said.Plain a)) tt)

-- what is written with this tag behind these bytes is so with the same ones by other names
at_mark : (tag mark limit : ℕ) (from old new : List ℕ) (what : Said) → tag ≡ mark → from ≡ old → IsWritten limit tag what from new
    → IsWritten limit mark what old new
at_mark tag mark limit from old new what same_tag same h =
    subst (λ (m : ℕ). IsWritten limit m what old new) same_tag (subst (λ (o : List ℕ). IsWritten limit tag what o new) same h)

-- what was said is written, or that it is too long
pub answered : {S A E : Type 0} (may : S → Ask → Heard → S → Type 0) (tag mark limit : ℕ) (s t : S) (from old new : List ℕ) (it : Said)
    (r : Result A E) → tag ≡ mark → from ≡ old → HasAsked may s it t
    → OnOk r (IsSaidIn limit tag it from new) → OnOk r (Answers may mark limit s t old new)
answered may tag mark limit s t from old new it (Err e) same_tag same asked written = tt
answered may tag mark limit s t from old new it (Ok a) same_tag same asked (inl written) =
    (it, asked, at_mark tag mark limit from old new it same_tag same written)
answered may tag mark limit s t from old new it (Ok a) same_tag same asked (inr written) =
    (too_long, (asked.0, asked.1, λ e. absurd (isnt_synced e)), at_mark tag mark limit from old new too_long same_tag same written.1) where
      isnt_synced : too_long ≡ said.Synced → ⊥
      isnt_synced e = cc

-- where there is room
pub with_room : {S : Type 0} (may : S → Ask → Heard → S → Type 0) (now : ℕ) (bytes : List ℕ) (has_room : Bool) (s t : S) (k l : Known)
    (it : Said) (read : Result Message MalformedMessage) → has_room ≡ true → Gives (λ (m : Message). view m) read (request_at bytes)
    → Follows may (plan_for k now read) s k it t l → IsAnswered may now bytes has_room s k it t l
with_room may now bytes true s t k l it read e exact followed = (read, exact, followed)
with_room may now bytes false s t k l it read e exact followed = absurd (no e) where
  no : false ≡ true → ⊥
  no f = cc

pub without_room : {S : Type 0} (may : S → Ask → Heard → S → Type 0) (now : ℕ) (bytes : List ℕ) (has_room : Bool) (s : S) (k : Known)
    → has_room ≡ false → IsAnswered may now bytes has_room s k (said.Plain (answer.Refused (By ENOMEM))) s k
without_room may now bytes true s k e = absurd (no e) where
  no : true ≡ false → ⊥
  no f = cc
without_room may now bytes false s k e = ((λ most. refl), refl, refl)

-- room is only wanting where it was missing
pub wants_room : {A E : Type 0} (r : Result A E) (b : Bool) (P : Type 0) → b ≡ is_ok r → OnErr r P → b ≡ false → P
wants_room (Ok a) b P e h f = absurd (no (sym e ∙ f)) where
  no : true ≡ false → ⊥
  no x = cc
wants_room (Err x) b P e h f = h

pub said_so : {S A E : Type 0} (may : S → Ask → Heard → S → Type 0) (now : ℕ) (bytes : List ℕ) (s t : S) (k l : Known)
    (len capacity tag : ℕ) (from old new : List ℕ) (it : Said) (has_room : Bool) (r : Result A E) → tag ≡ tag_in bytes → from ≡ old
    → IsAnswered may now bytes has_room s k it t l → (has_room ≡ false → capacity < len + 65560)
    → OnOk r (IsSaidIn l.message_size tag it from new) → OnOk r (Says may now bytes s k t l len capacity old new)
said_so may now bytes s t k l len capacity tag from old new it has_room (Err e) same_tag same answered room written = tt
said_so may now bytes s t k l len capacity tag from old new it has_room (Ok a) same_tag same answered room written = (
  it,
  has_room,
  answered,
  room,
  subst (λ (m : ℕ). IsSaidIn l.message_size m it old new) same_tag
      (subst (λ (o : List ℕ). IsSaidIn l.message_size tag it o new) same written),
)

-- what can't be written wasn't asked for
pub all_stays : {S A E : Type 0} (may : S → Ask → Heard → S → Type 0) (now : ℕ) (bytes : List ℕ) (s t : S) (k l : Known)
    (len capacity limit : ℕ) (it : Said) (has_room : Bool) (r : Result A E) (X Y : List ℕ) → IsAnswered may now bytes has_room s k it t l
    → (has_room ≡ true → len + 65560 ≤ capacity) → limit ≤ 65560 → OnErr r (capacity < len + limit) → OnErr r (X ≡ Y)
    → OnErr r ((t ≡ s) × (l ≡ k) × (X ≡ Y))
all_stays may now bytes s t k l len capacity limit it has_room (Ok a) X Y answered room most full kept = tt
all_stays may now bytes s t k l len capacity limit it true (Err e) X Y answered room most full kept =
    let enough : len + 65560 ≤ capacity = room refl in
    absurd (omega (arith, enough, most, full))
all_stays may now bytes s t k l len capacity limit it false (Err e) X Y answered room most full kept = (answered.1, answered.2, kept)

-- room is there where it was found
pub has_room : {A E : Type 0} (r : Result A E) (b : Bool) (P : Type 0) → b ≡ is_ok r → OnOk r P → b ≡ true → P
has_room (Ok a) b P e h f = h
has_room (Err x) b P e h f = absurd (no (sym e ∙ f)) where
  no : false ≡ true → ⊥
  no y = cc

-- what can't be written had no room
pub had_none : {A E : Type 0} (len capacity limit : ℕ) (has_room : Bool) (r : Result A E) (e : E) (P : Type 0)
    → (has_room ≡ true → len + 65560 ≤ capacity) → (has_room ≡ false → P) → limit ≤ 65560 → OnErr r (capacity < len + limit) → r ≡ Err e → P
had_none len capacity limit has_room (Ok a) e P room none most full is = absurd (no is) where
  no : Ok a ≡ Err e → ⊥
  no y = cc
had_none len capacity limit true (Err x) e P room none most full is =
    let enough : len + 65560 ≤ capacity = room refl in
    absurd (omega (arith, enough, most, full))
had_none len capacity limit false (Err x) e P room none most full is = none refl
