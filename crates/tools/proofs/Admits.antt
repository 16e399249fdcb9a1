-- One more session, in the order of the scripts.
use Rattle.std.proofs.Common.{◌≡◌, ℕ, ◌+◌, ◌<◌, get_or, List, [], ◌∷◌, ◌++◌, length, map, take, sym, ap, subst, ◌∙◌}
use Rattle.std.specs.Prelude.{All}
use Rattle.std.proofs.lemmas.List.{map-append, map_more}
use Rattle.std.proofs.lemmas.List.Elements.{All-push}
use Rattle.records.specs.Session.{SessionState}
use Rattle.call_text.specs.declared.scripts.script.Script.{Script}
use Rattle.call_text.specs.Said.{said}
use Rattle.tools.specs.declared.scripts.turns.Turn.{Turn}
use Rattle.tools.specs.Turns.{asked}

pub each_more : {X : Type 0} (old new : List X) (x : X) (P : X → Type 0) → new ≡ old ++ x ∷ [] → All P old → P x → All P new
each_more old new x P is each more = subst (All P) (sym is) (All-push P old x each more)

pub asked_more : {C : Type 0} (old new : List (Turn C)) (turn : Turn C) (state : C → SessionState) (scripts : List Script) (i : ℕ)
    (item : Script) → i < length scripts
    → item ≡ get_or scripts i item → new ≡ old ++ turn ∷ [] → map (asked state) old ≡ map said (take i scripts)
    → asked state turn ≡ said item
    → map (asked state) new ≡ map said (take (i + 1) scripts)
asked_more old new turn state scripts i item inside item_is is so_far here =
    ap (map (asked state)) is ∙ map-append (asked state) old (turn ∷ []) ∙ ap (λ l. l ++ asked state turn ∷ []) so_far
    ∙ ap (λ s. map said (take i scripts) ++ s ∷ []) (here ∙ ap said item_is) ∙ sym (map_more said scripts i item inside)
