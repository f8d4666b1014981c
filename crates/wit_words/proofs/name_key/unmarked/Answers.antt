use Rattle.std.proofs.Common.{◌∙◌, sym, ap, arith, length, take}
use Rattle.wit_words.specs.NameKey.{folded, is_mark}
use Rattle.wit_words.proofs.NameKeys.{cut_behind_mark}
use Rattle.wit_words.proofs.name_key.unmarked.Goals as goal

pub range_from-requires : goal.range_from-requires
range_from-requires c some =
    let cut = c.in-Some.ensures.cases in
    let mark = cut.1 ∙ ap (take 8) c.as_bytes.ensures.value in
    cut_behind_mark c.args.name.now c.utf8.name (omega (arith, cut.0, ap length c.as_bytes.ensures.value)) (sym (ap (λ z. is_mark (folded z)) mark) ∙ sym c.is_mark.ensures ∙ c.if-is_mark.true)
