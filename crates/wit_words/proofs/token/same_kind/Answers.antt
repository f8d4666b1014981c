use Rattle.std.proofs.Common.{sym, ◌∙◌}
use Rattle.wit_words.specs.Token.{same_kind}
use Rattle.wit_words.proofs.SameKinds.{same_is}
use Rattle.wit_words.proofs.token.same_kind.Goals as goal

pub returns-clause-same : goal.returns-clause-same
unfolding same_kind
returns-clause-same c = λ e. same_is c.args.a c.args.b (sym c.eq.ensures ∙ e)
