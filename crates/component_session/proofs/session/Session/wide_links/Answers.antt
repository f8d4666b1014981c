use Rattle.std.proofs.Common.{map}
use Rattle.link_lines.specs.Line.{link_value}
use Rattle.linked_components.specs.Passed.link_table-Linking.{linking_value}
use Rattle.wit_component.proofs.Results.{moved_up}
use Rattle.component_session.specs.Refusals.{IsCause}
use Rattle.component_session.specs.Faults.{of_table}
use Rattle.component_session.proofs.Headline.{wide_listed}
use Rattle.component_session.proofs.Refusals.{table_cause_is}
use Rattle.component_session.proofs.session.Session.wide_links.Goals as goal

pub returns-in_err-links-clause-cause : goal.returns-in_err-links-clause-cause
returns-in_err-links-clause-cause c =
    let fault = c.in_err-links.field-0.0 in
    moved_up c.from_residual-in_err-links.result (of_table fault) (IsCause c.args.self.now) c.from_residual-in_err-links.ensures.1
    (table_cause_is c.args.self.now (linking_value c.wide_linking-linking.result) c.wide_linking-linking.ensures c.requires.exports c.requires.wide c.in_ok-check_options.ensures.ok fault c.in_err-links.ensures.cause)

pub returns-clause-links : goal.returns-clause-links
returns-clause-links c =
    wide_listed c.args.self.now (linking_value c.wide_linking-linking.result) c.wide_linking-linking.ensures c.requires.exports c.requires.wide c.in_ok-check_options.ensures.ok (map link_value c.in_ok-links.links.items) c.in_ok-links.ensures.lines
