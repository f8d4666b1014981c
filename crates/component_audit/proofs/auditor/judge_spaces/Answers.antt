use Rattle.std.proofs.Common.{◌≡◌, true, [], map, sym, ap, subst, ◌∙◌}
use Rattle.std.proofs.lemmas.Bool.{and_parts}
use Rattle.distinct_names.specs.Names.{all_new}
use Rattle.plain_worlds.specs.World.{function_item, functions_fit}
use Rattle.wit_component.specs.Right.{IsOnce, ImportsRight, ExportsRight}
use Rattle.component_audit.specs.SpacesView as seen
use Rattle.wit_component.specs.View as view
use Rattle.wit_component.proofs.WrittenNames.{functions_differ, names_of}
use Rattle.component_audit.proofs.Judged.{exports_found, given_seen, meets_all, met, failed}
use Rattle.component_audit.proofs.auditor.judge_spaces.Goals as goal

pub returns-in-Some-clause-verdict : goal.returns-in-Some-clause-verdict
returns-in-Some-clause-verdict c =
    let l = view.linking c.args.linking.now in
    let found = c.in-Some.ensures in
    (found.0, λ right. found.1 (subst IsOnce (sym (ap seen.all_given c.deref.ensures.value ∙ given_seen l.main c.args.spaces.now.instances.items)) right.once))

pub exports_finding-requires-clause-distinct : goal.exports_finding-requires-clause-distinct
exports_finding-requires-clause-distinct c =
    let l = view.linking c.args.linking.now in
    let same : map function_item c.in_ok-exports.exports.functions.now ≡ l.world.exports = ap (λ fs. map function_item fs) (c.in_ok-exports.ensures ∙ c.deref-2.ensures.value) in
    subst (λ fs. all_new [] (names_of fs) ≡ true) (sym same) (functions_differ l.world.exports (and_parts (functions_fit l.world.imports) (functions_fit l.world.exports) c.requires.fits).1)

pub returns-in-Some-3-clause-verdict : goal.returns-in-Some-3-clause-verdict
returns-in-Some-3-clause-verdict c =
    let l = view.linking c.args.linking.now in
    let s = seen.spaces l.main c.args.spaces.now in
    let same : map function_item c.in_ok-exports.exports.functions.now ≡ l.world.exports = ap (λ fs. map function_item fs) (c.in_ok-exports.ensures ∙ c.deref-2.ensures.value) in
    failed c.args.length (ExportsRight l s) c.in_ok-offset-2.field-0 c.in-Some-3.offset (exports_found l s c.args.length (map function_item c.in_ok-exports.exports.functions.now) same c.in_ok-offset-2.field-0 c.in_ok-offset-2.ensures) c.in-Some-3.is

pub links_finding-requires-clause-distinct : goal.links_finding-requires-clause-distinct
links_finding-requires-clause-distinct c =
    let l = view.linking c.args.linking.now in
    functions_differ l.world.exports (and_parts (functions_fit l.world.imports) (functions_fit l.world.exports) c.requires.fits).1

pub returns-clause-verdict : goal.returns-clause-verdict
returns-clause-verdict c =
    let l = view.linking c.args.linking.now in
    let s = seen.spaces l.main c.args.spaces.now in
    let same : map function_item c.in_ok-exports.exports.functions.now ≡ l.world.exports = ap (λ fs. map function_item fs) (c.in_ok-exports.ensures ∙ c.deref-2.ensures.value) in
    meets_all l s
    (record {
      modules = c.requires.handed;
      once = subst IsOnce (ap seen.all_given c.deref.ensures.value ∙ given_seen l.main c.args.spaces.now.instances.items) c.in_default.ensures;
    })
    (met c.args.length (ImportsRight l s) c.in_ok-offset.field-0 c.in_ok-offset.ensures c.in_default-2.is)
    (met c.args.length (ExportsRight l s) c.in_ok-offset-2.field-0 (exports_found l s c.args.length (map function_item c.in_ok-exports.exports.functions.now) same c.in_ok-offset-2.field-0 c.in_ok-offset-2.ensures) c.in_default-3.is)
    (c.in_default-links_finding.ensures c.args.length c.requires.within)
