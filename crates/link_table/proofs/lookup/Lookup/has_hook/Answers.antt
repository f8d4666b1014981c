use Rattle.std.proofs.Common.{sym, ◌∙◌}
use Rattle.link_table.specs.Linking.{linking_value}
use Rattle.link_table.specs.Coming.{IsHookName}
use Rattle.link_table.proofs.Found.{found_somewhere, found_nowhere, cause_somewhere}
use Rattle.link_table.proofs.lookup.Lookup.has_hook.Goals as goal

pub returns-in-Ok-clause-yes : goal.returns-in-Ok-clause-yes
returns-in-Ok-clause-yes c = λ e.
    let l = linking_value c.args.self.now.linking in
    found_somewhere l IsHookName c.in-Ok.place (c.in-Ok.ensures.found l.names l.main.exports c.requires.lookup.names_are) (sym c.is_some.ensures ∙ e)

pub returns-in-Ok-clause-no : goal.returns-in-Ok-clause-no
returns-in-Ok-clause-no c = λ e.
    let l = linking_value c.args.self.now.linking in
    found_nowhere l IsHookName c.in-Ok.place (c.in-Ok.ensures.found l.names l.main.exports c.requires.lookup.names_are) (sym c.is_some.ensures ∙ e)

pub returns-in-Err-Ambiguous-clause-yes : goal.returns-in-Err-Ambiguous-clause-yes
returns-in-Err-Ambiguous-clause-yes c = λ e.
    let l = linking_value c.args.self.now.linking in
    cause_somewhere l IsHookName c.in-Err-Ambiguous.field-0 c.in-Err-Ambiguous.field-0-is (c.in-Err-Ambiguous.ensures.cause l.names l.main.exports c.requires.lookup.names_are)
