use Rattle.std.proofs.Common.{refl, sym, ap, ◌∙◌}
use Rattle.std.proofs.lemmas.Option.{same_Some}
use Rattle.std.specs.Prelude.{slice_get}
use Rattle.wit_component.proofs.Results.{ok_map}
use Rattle.text_graphs.specs.Passed.wit_resolution-Names.{known_of}
use Rattle.component_session.specs.Input.{worlds_of}
use Rattle.component_session.proofs.Linked.{beyond_moved}
use Rattle.component_session.proofs.session.Session.imports_fit.Goals as goal

pub returns-clause-yes : goal.returns-clause-yes
returns-clause-yes c =
    ok_map c.imports_fit.result
    (λ b h yes w at any.
    let here = ap (λ ws. slice_get ws c.args.world) (sym (c.worlds.ensures ∙ ap worlds_of c.resolve-resolve.ensures)) ∙ c.get.ensures in
    h yes (beyond_moved _ _ _ _ _ _ _ _ (sym (c.tables.ensures.tables ∙ ap (λ r. known_of r.graph.tables) c.resolve-resolve.ensures)) (same_Some _ _ (sym at ∙ here)) (sym c.deref.ensures.value) (sym c.deref-2.ensures.value) any))
    c.imports_fit.ensures.yes

pub returns-clause-no : goal.returns-clause-no
returns-clause-no c =
    ok_map c.imports_fit.result
    (λ b h other.
    let here = ap (λ ws. slice_get ws c.args.world) (sym (c.worlds.ensures ∙ ap worlds_of c.resolve-resolve.ensures)) ∙ c.get.ensures in
    (c.get.result.now, here, beyond_moved _ _ _ _ _ _ _ _ (c.tables.ensures.tables ∙ ap (λ r. known_of r.graph.tables) c.resolve-resolve.ensures) refl c.deref.ensures.value c.deref-2.ensures.value (h other)))
    c.imports_fit.ensures.no
