use Rattle.std.proofs.Common.{sym, ap, subst, ◌∙◌}
use Rattle.std.proofs.lemmas.Option.{same_Some}
use Rattle.linked_components.specs.Passed.link_table-Linking.{linking_value}
use Rattle.linked_components.specs.Build.{IsComponentOf, AreNamesOf}
use Rattle.wit_component.proofs.Results.{moved_up}
use Rattle.wit_types.specs.contracts.«package».PackageNamePartialEq.TheImpl.{eq-value as package_eq}
use Rattle.component_session.specs.Refusals.{IsBuildCause}
use Rattle.component_session.specs.Faults.{of_component}
use Rattle.component_session.proofs.Headline.{wide_built}
use Rattle.component_session.proofs.Refusals.{component_cause_is}
use Rattle.component_session.proofs.session.Session.wide_build.Goals as goal

pub build-requires : goal.build-requires
build-requires c =
    let l = linking_value c.wide_linking-linking.result in
    let links = c.wide_linking-linking.ensures in
    let graph = c.args.self.now.resolved.graph in
    let text_graph = c.law_text_graphs_are_named.ensures package_eq.it c.args.self.now.resolved c.law_same_names_are_equal.ensures c.law_packages_come_of_texts.ensures in
    let chosen = same_Some links.chosen c.args.world (sym links.chooses ∙ c.requires.chosen) in
    let names = subst (λ w. AreNamesOf graph.tables w l.names) chosen links.names in
    record {
      tables = graph.tables;
      whole = text_graph.whole.whole;
      named = text_graph.named.items;
      names_are = names;
      parts = c.law_worlds_have_parts_apart.ensures graph.tables c.args.world l text_graph.labelled names;
      exported = c.law_exported_functions_are_apart.ensures graph.tables c.args.world l text_graph.worlds names;
    }

pub returns-in_err-bytes-clause-cause : goal.returns-in_err-bytes-clause-cause
returns-in_err-bytes-clause-cause c =
    let fault = c.in_err-bytes.field-0.0 in
    moved_up c.from_residual-in_err-bytes.result (of_component fault) (IsBuildCause c.args.self.now) c.from_residual-in_err-bytes.ensures.1
    (component_cause_is c.args.self.now (linking_value c.wide_linking-linking.result) c.wide_linking-linking.ensures c.requires.exports c.requires.wide c.in_ok-check_options.ensures.ok fault c.in_err-bytes.ensures.cause)

pub returns-clause-right : goal.returns-clause-right
returns-clause-right c =
    let l = linking_value c.wide_linking-linking.result in
    let links = c.wide_linking-linking.ensures in
    let handed = same_Some c.requires.main.handed links.handed (sym c.requires.main.hands ∙ links.hands) in
    let bytes = c.requires.main.bytes_are ∙ ap (λ h. h.bytes) handed in
    wide_built c.args.self.now l links c.requires.exports c.requires.wide c.in_ok-check_options.ensures.ok c.in_ok-bytes.bytes.items (subst (λ b. IsComponentOf l b c.in_ok-bytes.bytes.items) bytes c.in_ok-bytes.ensures.right)
