-- A command with one more argument.
use Rattle.std.proofs.Common.{◌≡◌, ◌∙◌, false, Result, IfOk}
use Rattle.std.proofs.lemmas.Result.{IfOk-weaker}
use Rattle.clap.specs.Words.{App, Rule, AddsArg, app_of, rule_of, with_rule}
use Rattle.clap.specs.declared.builder.arg.Arg.{Arg}
use Rattle.clap.specs.declared.builder.command.Command.{Command}

module _ {old : Command} {a : Arg} {app : App} {rule : Rule} where
  pub added : {new : Command} → AddsArg old a new → a.global ≡ false → rule_of a ≡ rule → app_of old ≡ app → app_of new ≡ with_rule app rule
  added adds local is old_is = adds.shape local ∙ (λ i. with_rule (old_is i) (is i))

-- the same of the last argument of a chain, which may have found no memory
module _ (old : Command) (a : Arg) {app : App} {rule : Rule} where
  pub added_last : {E : Type 0} (r : Result Command E) → IfOk r (AddsArg old a) → a.global ≡ false → rule_of a ≡ rule → app_of old ≡ app → IfOk r (λ c. app_of c ≡ with_rule app rule)
  added_last r adds local is old_is = IfOk-weaker r (AddsArg old a) (λ c. app_of c ≡ with_rule app rule) (λ c h. added h local is old_is) adds
