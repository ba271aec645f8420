use Rattle.std.proofs.Common.{◌∙◌, arith, lit<}
use Rattle.std.proofs.lemmas.Str.Pattern.{starts_char}
use Rattle.protocol.proofs.Digits.{number_parsed}
use Rattle.protocol.proofs.words.number.Goals as goal

pub returns : goal.returns
returns c =
    let plus = (starts_char 43 c.args.word.now _ c.starts_with.ensures.cases (lit< tt) (omega arith)).1 in
    c.ok.ensures.value ∙ number_parsed c.args.word.now c.from_str_radix.result c.from_str_radix.ensures.value (λ e. let z = plus e in let f = c.if-starts_with.false in cc)
