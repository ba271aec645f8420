use Rattle.std.proofs.Common.{◌≡◌, ℕ, ◌<◌, length, sym, ap, ◌∙◌, arith}
use Rattle.std.specs.List.{slice_get}
use Rattle.std.proofs.lemmas.Bool.{cond-true, cond-false}
use Rattle.model.specs.Tickets.{empty, tickets_of}
use Rattle.model.specs.State.{takes}
use Rattle.holdings.proofs.Counting.{not_past, targets_more, few_targets}
use Rattle.holdings.proofs.filling.filled_targets.Goals as goal
use Rattle.holdings.proofs.filling.filled_targets.Goals.{in-Some+then-not-is_empty, in-Some+else-not-is_empty, in_default}

pub overflow_add-filled : goal.overflow_add-filled
overflow_add-filled g c =
    let m = c.standing-place-end.new.self in
    let n : c.standing-place-end.result ≡ length (g.H.Holdings.meaning m).entities =
    c.standing-place-end.ensures.value ∙ ap (λ x. length (g.H.Holdings.meaning x).entities) (sym c.standing-place-end.ensures.same) in
    omega (arith, c.loop-place.invariant.1, few_targets (g.H.Holdings.meaning m) (g.H.Holdings.orderly m) c.args.holder c.loop-place.place (omega arith))

pub loop-place-preserved : goal.loop-place-preserved
loop-place-preserved g c =
    let m = c.standing-place-end.new.self in
    let st = g.H.Holdings.meaning m in
    let i = c.loop-place.place in
    let n : c.standing-place-end.result ≡ length st.entities =
    c.standing-place-end.ensures.value ∙ ap (λ x. length (g.H.Holdings.meaning x).entities) (sym c.standing-place-end.ensures.same) in
    let here : i < length st.entities = omega arith in
    let same = c.entity.ensures.same ∙ c.loop-place.invariant.0 in
    let at = sym (c.entity.ensures.value ∙ ap (λ x. slice_get (g.H.Holdings.meaning x).entities i) c.loop-place.invariant.0) in
    elim c.match-entity.branch [
      | in-Some+then-not-is_empty w ↦
          let set : tickets_of w.tickets.result ≡ st.tickets c.args.holder w.in-Some.target.number =
          w.tickets.ensures.value ∙ ap (λ x. (g.H.Holdings.meaning x).tickets c.args.holder w.in-Some.target.number) same in
          let one : ◌≡◌ {A = ℕ} (takes (st.tickets c.args.holder w.in-Some.target.number)) 1 =
          cond-false (empty (st.tickets c.args.holder w.in-Some.target.number)) 0 1 (ap empty (sym set) ∙ sym w.is_empty.ensures ∙ w.if-not-is_empty.true) in
          let more = targets_more st.entities i w.in-Some.target here (at ∙ w.in-Some.is) st.tickets c.args.holder in
          (w.holdings-is ∙ w.tickets.ensures.same ∙ same, omega (arith, w.filled-is, c.loop-place.invariant.1))
      | in-Some+else-not-is_empty w ↦
          let set : tickets_of w.tickets.result ≡ st.tickets c.args.holder w.in-Some.target.number =
          w.tickets.ensures.value ∙ ap (λ x. (g.H.Holdings.meaning x).tickets c.args.holder w.in-Some.target.number) same in
          let none : ◌≡◌ {A = ℕ} (takes (st.tickets c.args.holder w.in-Some.target.number)) 0 =
          cond-true (empty (st.tickets c.args.holder w.in-Some.target.number)) 0 1 (ap empty (sym set) ∙ sym w.is_empty.ensures ∙ w.if-not-is_empty.false) in
          let more = targets_more st.entities i w.in-Some.target here (at ∙ w.in-Some.is) st.tickets c.args.holder in
          (w.holdings-is ∙ w.tickets.ensures.same ∙ same, omega (arith, w.filled-is, c.loop-place.invariant.1))
      | in_default w ↦ absurd (not_past st.entities i here (at ∙ w.in_default.is))
    ]
