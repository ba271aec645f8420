-- Holdings in which nobody stands, and whose next number is 1, are new: nobody holds a ticket.
use Rattle.std.proofs.Common.{◌≡◌, ℕ, Bool, true, List, [], length, refl, ap, subst, ◌∙◌, is_some}
use Rattle.std.proofs.lemmas.Bool.{both_ways}
use Rattle.std.proofs.lemmas.List.{nil_from_length}
use mathlib.Core.Path.{fun_ext}
use Rattle.model.specs.declared.tickets.Entity.{Entity}
use Rattle.model.specs.Tickets.{none}
use Rattle.model.specs.State.{State, Table, new, kind_in}
use Rattle.model.specs.Laws.{Orderly}
use Rattle.model.proofs.Tables.{same_tickets, none_has}

module _ (st : State) (orderly : Orderly st) (nobody : length st.entities ≡ 0) (first : st.next ≡ 1) where
  abbrev unfilled : List Entity → Table → State
  unfilled es t = record { next = 1; entities = es; tickets = t }

  nobody_holds : st.tickets ≡ (λ h y. none)
  nobody_holds =
      fun_ext (λ h. fun_ext (λ y. same_tickets (st.tickets h y) none
      (λ x c held. absurd (both_ways (is_some (kind_in [] h)) refl
      (subst (λ (es : List Entity). is_some (kind_in es h) ≡ true) (nil_from_length st.entities nobody) (orderly.only_standing h y x c held).0)))
      (λ x c held. none_has x c held)))

  pub is_new : st ≡ new
  is_new =
      ap (λ (n : ℕ). record { next = n; entities = st.entities; tickets = st.tickets }) first
      ∙ ap (λ (es : List Entity). unfilled es st.tickets) (nil_from_length st.entities nobody)
      ∙ ap (unfilled []) nobody_holds
