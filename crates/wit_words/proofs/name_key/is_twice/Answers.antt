use Rattle.std.proofs.Common.{◌∙◌, ◌<◌, sym, ap, rules, ◌∷◌}
use Rattle.wit_words.specs.NameKey.{folded}
use Rattle.wit_words.proofs.NameKeys.{twice_behind_dot}
use Rattle.wit_words.proofs.name_key.is_twice.Goals as goal

pub returns-then-dot-eq46-clause-value : goal.returns-then-dot-eq46-clause-value
returns-then-dot-eq46-clause-value c =
    let back = c.in-Some.back.now in
    let some : 0 < c.args.half = search rules in
    let dot = sym c.split_at.ensures.back ∙ c.in-Some.ensures.cases.0 ∙ ap (λ b. b ∷ back) (search rules) in
    let same = c.eq_ignore_ascii_case.ensures.test in
    let front = ap folded c.split_at.ensures.front in
    twice_behind_dot c.args.name.now back c.args.half c.eq_ignore_ascii_case.result dot some (λ t. same.0 t ∙ front, λ e. same.1 (e ∙ sym front))
