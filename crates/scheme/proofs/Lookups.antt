-- A lookup is what is found first.
use Rattle.std.proofs.Common.{◌≡◌, Bool, true, false, cond, List, [], ◌∷◌, Option, Some, None, refl, ap, sym, ◌∙◌}
use Rattle.std.specs.List.{find}
use Rattle.std.specs.Option.{option_map}
use Rattle.model.specs.Tickets.{Tickets, none}
use Rattle.scheme.specs.Tables.{looked_up}

-- the tickets of what was found, and none where nothing was
abbrev pub tickets_found : {E : Type 0} → (E → Tickets) → Option E → Tickets
tickets_found value (Some e) = value e
tickets_found value None = none

looked_up-find : {E : Type 0} (here : E → Bool) (value : E → Tickets) (es : List E) → looked_up here value es ≡ tickets_found value (find here es)
looked_up-find here value [] = refl
looked_up-find here value (e ∷ es) = here_or_later (here e) (looked_up here value es) (find here es) (looked_up-find here value es)
  where
    here_or_later : (b : Bool) (t : Tickets) (o : Option _) → t ≡ tickets_found value o → cond b (value e) t ≡ tickets_found value (cond b (Some e) o)
    here_or_later true t o h = refl
    here_or_later false t o h = h

pub looked_up_by : {E X : Type 0} (here : E → Bool) (value : E → Tickets) (es : List E) (v : X → E) (r : Option X) (t : Tickets)
    → option_map v r ≡ find here es → (r ≡ None → t ≡ none) → ((x : X) → r ≡ Some x → t ≡ value (v x)) → t ≡ looked_up here value es
looked_up_by here value es v None t e n s = n refl ∙ ap (tickets_found value) e ∙ sym (looked_up-find here value es)
looked_up_by here value es v (Some x) t e n s = s x refl ∙ ap (tickets_found value) e ∙ sym (looked_up-find here value es)
