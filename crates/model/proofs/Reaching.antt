-- What an outlook shows comes about on every ample twin: its drawing is a list of granted creations, and its closure a list of granted
-- copies and demands. Between entities of the register, nothing else does.
use Rattle.std.proofs.Common.{◌≡◌, ℕ, zero, suc, ◌+◌, ◌*◌, ◌<◌, ◌≤◌, true, List, [], ◌∷◌, ◌++◌, length, Some, None, Option, sym, refl, ap, ◌∙◌, subst, subst₂, arith}
use Rattle.std.specs.List.{slice_get}
use Rattle.std.proofs.lemmas.Nat.{mul-le}
use Rattle.std.proofs.lemmas.List.{length_push}
use Rattle.model.specs.Tickets.{has}
use Rattle.model.specs.Scheme.{Scheme, WellFormed}
use Rattle.model.specs.State.{State, Room, Table, holding, filled, last_number}
use Rattle.model.specs.Calls.{Call, create, step, born, born_by}
use Rattle.model.specs.Runs.{run}
use Rattle.model.specs.Laws.{Rising, Sound}
use Rattle.model.specs.Grants.{MayCreate}
use Rattle.model.specs.Spread.{Contains, Closure}
use Rattle.model.specs.Outlook.{Choice, Drawing, take, next_choice, draw, numbers_left, limit, Complete, Outlook}
use Rattle.model.specs.Forecast.{Covers, Reached, Exact}
use Rattle.model.proofs.Filling.{pairs_le}
use Rattle.model.proofs.Grants.{create_exact, child_is, step_granted}
use Rattle.model.proofs.Runs.{run_append, run_keeps}
use Rattle.model.proofs.Soundness.{sound_step}
use Rattle.model.proofs.Closures.{sound_closure}
use Rattle.model.proofs.Choices.{Possible}
use Rattle.model.proofs.Draws.{Drawn, drawn, next_is, born_is}
use Rattle.model.proofs.Covering.{covers}
use Rattle.model.proofs.Moves.{Moves, replayed}

module _ (S : Scheme) (w : WellFormed S) (R : Room) (room : R.rows * R.rows ≤ R.pairs) where
  -- a possible choice is granted where there is a row and a number, and leaves what the drawing has then
  pub create_ran : (st : State) (c : Choice) → Possible S.rules st.entities c → length st.entities < R.rows → st.next ≤ last_number
      → (k : Call) × (step S R st k ≡ born_by st (slice_get S.rules c.rule) c.parent c.second)
  create_ran st c q rows numbers =
      let kind : ℕ = q.by.child in
      let may : MayCreate S st c.parent c.second kind = record { number = c.rule; rule = q.by; is = q.is; parent = q.parent; other = q.other; makes = refl } in
      let new : State = born st q.by c.parent c.second in
      let size : length new.entities ≤ R.rows = omega (arith, length_push st.entities (record { number = st.next; kind = kind })) in
      let pairs : filled new ≤ R.pairs =
      omega (arith, pairs_le new.tickets new.entities new.entities, mul-le (length new.entities) (length new.entities) R.rows R.rows size size) in
      let g = (create_exact S R st c.parent c.second kind w).whenever (may, record { rows = rows; numbers = numbers; pairs = pairs }) in (
        create c.parent c.second kind,
        sym (step_granted S R st (create c.parent c.second kind) g.0 g.1)
            ∙ child_is S R st c.parent c.second kind w may ∙ sym (born_is S st c q.by q.is),
      )

  module _ (st : State) (rising : Rising 1 st.entities st.next) where
    -- a drawing of n turns is what a list of calls brings about
    pub record Played (n : ℕ) (d : Drawing) : Type 0 where
      pub calls : List Call
      pub ran : run S R st calls ≡ d.state
      pub size : length d.state.entities ≤ length st.entities + n
      pub numbers : d.state.next ≤ st.next + n

    played_take : (n : ℕ) (d : Drawing) → Drawn S st d → Played n d → length st.entities + n < R.rows → st.next + n ≤ last_number
        → (o : Option Choice) → next_choice S d ≡ o → Played (suc n) (take S d o)
    played_take n d w p l m None e = record { calls = p.calls; ran = p.ran; size = omega (arith, p.size); numbers = omega (arith, p.numbers) }
    played_take n d w p l m (Some c) e =
        let q = (next_is S d c w.rising e).0 in
        let k = create_ran d.state c q (omega (arith, p.size)) (omega (arith, p.numbers)) in
        let is = born_is S d.state c q.by q.is in
        record {
          calls = p.calls ++ k.0 ∷ [];
          ran = run_append S R p.calls (k.0 ∷ []) st ∙ ap (λ (z : State). step S R z k.0) p.ran ∙ k.1;
          size = subst (λ (z : State). length z.entities ≤ length st.entities + suc n) (sym is)
              (omega (arith, p.size, length_push d.state.entities (record { number = d.state.next; kind = q.by.child })));
          numbers = subst (λ (z : State). z.next ≤ st.next + suc n) (sym is) (omega (arith, p.numbers));
        }

    pub played : (n : ℕ) → length st.entities + n ≤ R.rows → n ≤ numbers_left st → Played n (draw S st n)
    played zero l m = record { calls = []; ran = refl; size = omega arith; numbers = omega arith }
    played (suc n) l m =
        played_take n (draw S st n) (drawn S st rising n) (played n (omega arith) (omega arith)) (omega arith) (omega arith) (next_choice S (draw S st n)) refl

module _ (S : Scheme) (w : WellFormed S) (st : State) (sound : Sound S st) (rows : ℕ) (d : Drawing) (t : Table) (out : Outlook S st rows d t) where
  abbrev n : ℕ
  n = limit st rows

  abbrev rising : Rising 1 st.entities st.next
  rising = sound.orderly.rising

  out_drawn : Drawn S st d
  out_drawn = subst (Drawn S st) (sym out.drawn) (drawn S st rising n)

  -- the drawing's calls, and then the closure's
  pub reached : Reached S st rows t
  reached R a = go (played S w R a.pairs st rising n (omega (arith, out.fits, a.rows)) (omega arith))
    where
      go : Played S w R a.pairs st rising n (draw S st n) → (ks : List Call) × Contains (run S R st ks).tickets t
      go v =
          let fits : length d.state.entities ≤ R.rows =
          subst (λ (z : Drawing). length z.state.entities ≤ R.rows) (sym out.drawn) (omega (arith, v.size, out.fits, a.rows)) in
          let here : run S R st v.calls ≡ d.state = v.ran ∙ ap (λ (z : Drawing). z.state) (sym out.drawn) in
          then here (replayed S R a.pairs d.state out_drawn.rising fits w.monotone t out.spread.grown)
        where
          then : run S R st v.calls ≡ d.state → (m : Moves S R d.state d.state.tickets) × Contains m.table t → (ks : List Call) × Contains (run S R st ks).tickets t
          then here r =
              let ran : run S R st (v.calls ++ r.0.calls) ≡ holding d.state r.0.table =
              run_append S R v.calls r.0.calls st ∙ (ap (λ (z : State). run S R z r.0.calls) here ∙ r.0.ran) in
              (v.calls ++ r.0.calls, subst (λ (z : State). Contains z.tickets t) (sym ran) r.1)

  pub out_covers : Covers S st d t
  out_covers = subst (λ (z : Drawing). Complete S z → Closure S z.state t → Covers S st z t) (sym out.drawn) (covers S w st sound n t) out.complete out.spread

  pub exact : Exact S st rows t
  exact R a h y x c sh sy = record {
    only = λ e. let k = reached R a in (k.0, k.1 h y x c e);
    whenever = λ k.
        subst₂ (λ (i j : ℕ). has (t i j) x c ≡ true) (out_covers.itself R k.0 h sh) (out_covers.itself R k.0 y sy) (out_covers.tickets R k.0 h y x c k.1);
  }

  -- what was drawn is sound, since calls bring it about, and so is its closure
  pub out_sound : Sound S (holding d.state t)
  out_sound = go (played S w room (omega arith) st rising n (omega (arith, out.fits)) (omega arith))
    where
      room : Room
      room = record { rows = rows; pairs = rows * rows }

      go : Played S w room (omega arith) st rising n (draw S st n) → Sound S (holding d.state t)
      go p =
          let drawn : Sound S (draw S st n).state = subst (Sound S) p.ran (run_keeps S room (Sound S) (sound_step S w room) p.calls st sound) in
          sound_closure S d.state (subst (λ (z : Drawing). Sound S z.state) (sym out.drawn) drawn) w.monotone t out.spread
