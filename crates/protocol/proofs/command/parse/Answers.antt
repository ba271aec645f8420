use Rattle.std.proofs.Common.{sym, ap, ◌∙◌}
use Rattle.protocol.proofs.Cutting.{cut, one_cut, named, ended, no_words, too_many, five_cuts, line_tells}
use Rattle.protocol.proofs.command.parse.Goals as goal

pub returns-in_err-name : goal.returns-in_err-name
returns-in_err-name c =
    let name = one_cut _ _ _ c.next.ensures.steps in
    let text = ap cut (c.split_ascii_whitespace-words.ensures.text ∙ c.without_comment.ensures) in
    rw c.from_residual.ensures (no_words c.next.result _ _ (sym text ∙ name.0) c.in_err-name.was)

pub returns-then-is_some : goal.returns-then-is_some
returns-then-is_some c =
    let name = one_cut _ _ _ c.next.ensures.steps in
    let first = one_cut _ _ _ c.next-first.ensures.steps in
    let second = one_cut _ _ _ c.next-second.ensures.steps in
    let third = one_cut _ _ _ c.next-third.ensures.steps in
    let fourth = one_cut _ _ _ c.next-2.ensures.steps in
    let text = ap cut (c.split_ascii_whitespace-words.ensures.text ∙ c.without_comment.ensures) in
    let line = sym text ∙ name.0 ∙ named _ _ _ c.in_ok-name.was in
    too_many c.in_ok-name.name.now c.next-first.result c.next-second.result c.next-third.result c.next-2.result _ _ _ _ _ _ line first.0 first.1 second.0 second.1 third.0 third.1 fourth.0 (sym c.is_some.ensures ∙ c.if-is_some.true)

pub returns : goal.returns
returns c =
    let name = one_cut _ _ _ c.next.ensures.steps in
    let first = one_cut _ _ _ c.next-first.ensures.steps in
    let second = one_cut _ _ _ c.next-second.ensures.steps in
    let third = one_cut _ _ _ c.next-third.ensures.steps in
    let no_more = one_cut _ _ _ c.next-2.ensures.steps in
    let text = ap cut (c.split_ascii_whitespace-words.ensures.text ∙ c.without_comment.ensures) in
    let line = sym text ∙ name.0 ∙ named _ _ _ c.in_ok-name.was in
    let end = no_more.0 ∙ ended _ _ (sym c.is_some.ensures ∙ c.if-is_some.false) in
    line_tells
    (five_cuts c.in_ok-name.name.now c.next-first.result c.next-second.result c.next-third.result _ _ _ _ _ line first.0 first.1 second.0 second.1 third.0 end)
    c.read.result c.read.ensures
