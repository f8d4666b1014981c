use Rattle.std.proofs.Common.{◌≡◌, ◌∙◌, ap, sym, map, rules}
use Rattle.clap.specs.Values.{kind_of}
use Rattle.clap.specs.Words.{app_of, is_simple, is_simple_and_free, fault_of, matches_of}
use Rattle.clap.specs.declared.error.kind.ErrorKind.TheVariants.{OutOfMemory}
use Rattle.command_line.specs.Line.{line_app}
use Rattle.command_line.proofs.LineWords.{no_kind}
use Rattle.command_line.proofs.Simple.{is_simple-line_app, is_simple_and_free-line_app}
use Rattle.command_line.proofs.line.matches.Goals as goal

pub returns-in-Ok-clause-ok : goal.returns-in-Ok-clause-ok
returns-in-Ok-clause-ok c =
    let app_is : app_of c.in_ok-command.command ≡ line_app = c.in_ok-command.ensures in
    (c.in-Ok.ensures.matches (ap is_simple app_is ∙ is_simple-line_app)).0 ∙ ap (λ a. matches_of a (map (λ w. w.now) c.args.words.now)) app_is

pub returns-in-Ok-clause-taken : goal.returns-in-Ok-clause-taken
returns-in-Ok-clause-taken c =
    let app_is : app_of c.in_ok-command.command ≡ line_app = c.in_ok-command.ensures in
    ap (λ a. fault_of a (map (λ w. w.now) c.args.words.now)) (sym app_is) ∙ c.in-Ok.ensures.kinds (ap is_simple_and_free app_is ∙ is_simple_and_free-line_app)

pub returns-in_ok-format-in-Err-clause-err : goal.returns-in_ok-format-in-Err-clause-err
returns-in_ok-format-in-Err-clause-err c =
    let app_is : app_of c.in_ok-command.command ≡ line_app = c.in_ok-command.ensures in
    let other : kind_of c.in-Err.error ≡ OutOfMemory → ⊥ = search rules in
    λ taken. no_kind _ c.in-Err.error (c.in-Err.ensures.kinds (ap is_simple_and_free app_is ∙ is_simple_and_free-line_app)) other
    (ap (λ a. fault_of a (map (λ w. w.now) c.args.words.now)) app_is ∙ taken)
