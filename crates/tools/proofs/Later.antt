-- A session later.
use Rattle.std.proofs.Common.{◌≡◌, List, [], ◌++◌, refl, sym, ap, ◌∙◌, append_assoc, append-nil}
use Rattle.records.specs.Marks.{Mark, IsBeginning}
use Rattle.records.specs.Session.{SessionState, SessionGoesOn, caller_of}
use Rattle.tools.specs.Made.{IsLater}

pub begins_self : (a : List Mark) → IsBeginning a a
begins_self a = record { later = []; is = refl }

pub begins_all : (a : List Mark) → IsBeginning [] a
begins_all a = record { later = a; is = sym (append-nil a) }

pub begins_through : (a b c : List Mark) → IsBeginning a b → IsBeginning b c → IsBeginning a c
begins_through a b c h k = record {
  later = k.later ++ h.later;
  is = k.is ∙ ap (λ l. k.later ++ l) h.is ∙ sym (append_assoc k.later h.later a);
}

pub same_caller : (old new : SessionState) → SessionGoesOn old new → caller_of new ≡ caller_of old
same_caller old new h = λ i. record { session = h.learns.number i; uid = h.user i; gid = h.group i }

-- a session that goes on is the same later
pub goes_later : (old new : SessionState) → SessionGoesOn old new → IsLater old new
goes_later old new h = record {
  caller = same_caller old new h;
  place = h.learns.place;
  beginning = h.learns.beginning;
  own = λ own. h.learns.own;
}

pub later_self : (s : SessionState) → IsLater s s
later_self s = record { caller = refl; place = refl; beginning = begins_self s.knows.seen; own = λ own. own }

pub later_through : (a b c : SessionState) → IsLater a b → IsLater b c → IsLater a c
later_through a b c h k = record {
  caller = k.caller ∙ h.caller;
  place = k.place ∙ h.place;
  beginning = begins_through a.knows.seen b.knows.seen c.knows.seen h.beginning k.beginning;
  own = λ own. k.own (h.own own);
}
