use Rattle.std.proofs.Common.{◌≡◌, ◌+◌, ◌<◌, length, sym, ap, ◌∙◌, arith}
use Rattle.std.specs.List.{slice_get}
use Rattle.model.specs.State.{count_targets}
use Rattle.holdings.proofs.Counting.{not_past, pairs_more, few_pairs}
use Rattle.holdings.proofs.filling.filled_pairs.Goals as goal
use Rattle.holdings.proofs.filling.filled_pairs.Goals.{in-Some, in_default}

-- the pairs up to this holder's are counted, and are few
pub overflow_add-filled : goal.overflow_add-filled
overflow_add-filled g c =
    let m = c.standing-place-end.new.self in
    let st = g.H.Holdings.meaning m in
    let i = c.loop-place.place in
    let n : c.standing-place-end.result ≡ length st.entities =
    c.standing-place-end.ensures.value ∙ ap (λ x. length (g.H.Holdings.meaning x).entities) (sym c.standing-place-end.ensures.same) in
    let same = c.entity.ensures.same ∙ c.loop-place.invariant.0 in
    let at = sym (c.entity.ensures.value ∙ ap (λ x. slice_get (g.H.Holdings.meaning x).entities i) c.loop-place.invariant.0) in
    let row = c.filled_targets-filled.ensures.value ∙ ap (λ x. count_targets (g.H.Holdings.meaning x).tickets c.in-Some.holder.number (g.H.Holdings.meaning x).entities) same in
    omega (
      arith,
      row,
      c.loop-place.invariant.1,
      pairs_more st.entities i c.in-Some.holder (omega arith) (at ∙ c.in-Some.is) st.tickets,
      few_pairs st (g.H.Holdings.orderly m) (i + 1) (omega arith),
    )

pub loop-place-preserved : goal.loop-place-preserved
loop-place-preserved g c =
    let m = c.standing-place-end.new.self in
    let st = g.H.Holdings.meaning m in
    let i = c.loop-place.place in
    let n : c.standing-place-end.result ≡ length st.entities =
    c.standing-place-end.ensures.value ∙ ap (λ x. length (g.H.Holdings.meaning x).entities) (sym c.standing-place-end.ensures.same) in
    let here : i < length st.entities = omega arith in
    let same = c.entity.ensures.same ∙ c.loop-place.invariant.0 in
    let at = sym (c.entity.ensures.value ∙ ap (λ x. slice_get (g.H.Holdings.meaning x).entities i) c.loop-place.invariant.0) in
    elim c.match-entity.branch [
      | in-Some w ↦
          let row = w.filled_targets-filled.ensures.value ∙ ap (λ x. count_targets (g.H.Holdings.meaning x).tickets w.in-Some.holder.number (g.H.Holdings.meaning x).entities) same in
          let more = pairs_more st.entities i w.in-Some.holder here (at ∙ w.in-Some.is) st.tickets in
          (w.holdings-is ∙ w.filled_targets-filled.ensures.same ∙ same, omega (arith, row, w.filled-is, c.loop-place.invariant.1))
      | in_default w ↦ absurd (not_past st.entities i here (at ∙ w.in_default.is))
    ]
