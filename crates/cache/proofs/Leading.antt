-- A call of a cache, as its server's.
use Rattle.std.specs.Prelude.{◌||◌}
use Rattle.std.proofs.Common.{◌≡◌, List, [], ◌∷◌, ◌++◌, Bool, refl, sym, ◌∙◌, ap, subst, Option, Some, None}
use Rattle.message.specs.declared.Incoming.{Incoming}
use Rattle.message.specs.declared.Incoming.TheVariants as incoming
use Rattle.records.specs.Area.{Area}
use Rattle.records.specs.Told.{Told, Posted, Complained, Received, took_end}
use Rattle.records.specs.Acts.{Act, Absorbed, told_of, Outbox, KeepsRules, outbox_after}
use Rattle.records.specs.ServerCall.{Serving}
use Rattle.cache.specs.Calls.{AbstractCache, Runs, with_handed}
use Rattle.cache.specs.Laws.{IsOver, LeadsBy}
use Rattle.cache.proofs.Handing.{told_both}

-- an End was taken in the one or in the other
end_both : (xs ys : List Told) → took_end (xs ++ ys) ≡ (took_end xs || took_end ys)
end_both [] ys = refl
end_both (Posted to r accepted ∷ xs) ys = end_both xs ys
end_both (Complained about ∷ xs) ys = end_both xs ys
end_both (Received (incoming.Reply a) ∷ xs) ys = end_both xs ys
end_both (Received (incoming.Started e) ∷ xs) ys = end_both xs ys
end_both (Received incoming.GaveUp ∷ xs) ys = end_both xs ys
end_both (Received incoming.Flush ∷ xs) ys = end_both xs ys
end_both (Received incoming.End ∷ xs) ys = refl

no_more : (xs : List Told) → xs ++ [] ≡ xs
no_more [] = refl
no_more (x ∷ xs) = ap (λ (l : List Told). x ∷ l) (no_more xs)

-- a message that is handed over was told to nobody
same_told : (m : Option Incoming) (acts : List Act) → told_of (with_handed m acts) ≡ told_of acts
same_told None acts = refl
same_told (Some message) acts = told_both acts (Absorbed message ∷ []) ∙ no_more (told_of acts)

pub leads_by : (m : Option Incoming) (old new : AbstractCache) (s t : Serving) → IsOver s old → IsOver t new → t.geometry ≡ s.geometry → t.frame_count ≡ s.frame_count
    → old.ended ≡ took_end old.told → (x : Runs m old new (λ w v. Unit {0})) → LeadsBy (with_handed m x.acts) s old t
leads_by m old new s t was is same count alive x = record {
  leads = record {
    geometry = same;
    minor = ap (λ (r : Area). r.minor) (is.area ∙ x.area ∙ sym was.area);
    frame_count = count;
    told = is.told ∙ x.done ∙ ap (λ (l : List Told). l ++ old.told) (sym (same_told m x.acts))
        ∙ ap (λ (l : List Told). told_of (with_handed m x.acts) ++ l) (sym was.told);
    ended = is.ended ∙ x.ends alive ∙ ap took_end x.done ∙ end_both (told_of x.acts) old.told
        ∙ ap (λ (l : List Told). took_end l || took_end old.told) (sym (same_told m x.acts))
        ∙ ap (λ (b : Bool). took_end (told_of (with_handed m x.acts)) || b) (sym alive ∙ sym was.ended);
  };
  rules = λ marks k.
      let r = x.rules marks k in
      record {
        keep = subst (λ (r : Area). KeepsRules r (with_handed m x.acts) marks s.outbox) (sym was.area)
            (subst (λ (o : Outbox). KeepsRules old.area (with_handed m x.acts) marks o) (sym was.outbox) r.keeps);
        outbox = is.outbox ∙ sym r.owes ∙ ap (λ (o : Outbox). outbox_after (with_handed m x.acts) marks o) (sym was.outbox);
      };
}
