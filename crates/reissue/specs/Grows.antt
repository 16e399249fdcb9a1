-- A history that grows.
use Rattle.std.proofs.Common.{◌≡◌, List, [], ◌∷◌, ◌++◌, Bool, true, false, cond, refl, sym, ◌∙◌, ap, append_assoc}
use Rattle.message.specs.declared.Incoming.{Incoming}
use Rattle.message.specs.declared.Incoming.TheVariants as incoming
use Rattle.records.specs.Told.{Told, Received, heard, took_end}

-- more is told after this
pub record Grows (before after : List Told) : Type 0 where
  pub later : List Told
  pub history : after ≡ later ++ before

-- nothing more
pub grows_not : (told : List Told) → Grows told told
grows_not told = record { later = []; history = refl }

-- more, and then more
pub grows_then : (a b c : List Told) → Grows a b → Grows b c → Grows a c
grows_then a b c first next = record {
  later = next.later ++ first.later;
  history = next.history ∙ ap (λ (l : List Told). next.later ++ l) first.history ∙ sym (append_assoc next.later first.later a);
}

-- one thing more
pub grows_told : (t : Told) (before after : List Told) → after ≡ t ∷ before → Grows before after
grows_told t before after e = record { later = t ∷ []; history = e }

-- the same
pub grows_same : (before after : List Told) → after ≡ before → Grows before after
grows_same before after e = record { later = []; history = e }

-- a message, or an End that was heard before
pub grows_heard : (m : Incoming) (before after : List Told) → after ≡ heard m before → Grows before after
grows_heard (incoming.Reply a) before after e = grows_told _ before after e
grows_heard (incoming.Started d) before after e = grows_told _ before after e
grows_heard incoming.GaveUp before after e = grows_told _ before after e
grows_heard incoming.Flush before after e = grows_told _ before after e
grows_heard incoming.End before after e = by (took_end before) e
  where
    by : (b : Bool) → after ≡ cond b before (Received incoming.End ∷ before) → Grows before after
    by true e = grows_same before after e
    by false e = grows_told _ before after e
