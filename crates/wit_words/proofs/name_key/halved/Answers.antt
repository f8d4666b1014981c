use Rattle.std.proofs.Common.{◌∙◌, sym, ap, refl, length, ◌/◌}
use Rattle.wit_words.specs.NameKey.{folded, is_twice}
use Rattle.wit_words.proofs.NameKeys.{halved_folds}
use Rattle.wit_words.proofs.name_key.halved.Goals as goal

pub returns-then-is_twice : goal.returns-then-is_twice
returns-then-is_twice c = ap folded c.range.ensures.value ∙ halved_folds c.args.name.now _ refl (sym (ap (λ z. is_twice (length c.args.name.now / 2) (folded z)) c.as_bytes.ensures.value) ∙ sym c.is_twice.ensures.value ∙ c.if-is_twice.true)
