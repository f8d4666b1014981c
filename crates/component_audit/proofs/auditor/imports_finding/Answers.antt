use Rattle.std.proofs.Common.{◌≡◌, [], Bor, map, sym, ap, subst, ◌∙◌, true}
use Rattle.std.proofs.lemmas.Bool.{and_parts}
use Rattle.distinct_names.specs.Names.{all_new}
use Rattle.plain_worlds.specs.declared.world.Function.{Function}
use Rattle.plain_worlds.specs.World.{function_item, functions_fit}
use Rattle.wit_component.specs.Table.{needed}
use Rattle.wit_component.specs.Right.{IsIn}
use Rattle.component_audit.specs.Tests.{Finds, IsOutside}
use Rattle.component_audit.specs.SpacesView as seen
use Rattle.wit_component.specs.View as view
use Rattle.wit_component.proofs.Results.{ok_map}
use Rattle.wit_component.proofs.WrittenNames.{functions_differ, names_of}
use Rattle.component_audit.proofs.Judged.{needed_among, imports_same}
use Rattle.component_audit.proofs.auditor.imports_finding.Goals as goal

pub outside_finding-requires-clause-distinct : goal.outside_finding-requires-clause-distinct
outside_finding-requires-clause-distinct c =
    let l = view.linking c.args.linking.now in
    let same : map function_item c.in_ok-listed.listed.functions.now ≡ l.world.imports = ap (λ fs. map function_item fs) (c.in_ok-listed.ensures ∙ c.deref.ensures.value) in
    subst (λ fs. all_new [] (names_of fs) ≡ true) (sym same) (functions_differ l.world.imports (and_parts (functions_fit l.world.imports) (functions_fit l.world.exports) c.requires.fits).0)

pub outside_finding-requires-clause-among : goal.outside_finding-requires-clause-among
outside_finding-requires-clause-among c = λ f m.
    let l = view.linking c.args.linking.now in
    let same : map function_item c.in_ok-listed.listed.functions.now ≡ l.world.imports = ap (λ fs. map function_item fs) (c.in_ok-listed.ensures ∙ c.deref.ensures.value) in
    let asked : map (λ (g : Bor Function). function_item g.now) c.deref-2.result.now ≡ needed l = ap (λ fs. map (λ (g : Bor Function). function_item g.now) fs) c.deref-2.ensures.value ∙ c.in_ok-needed.ensures in
    subst (λ fs. IsIn f fs) (sym same) (needed_among l f (subst (λ fs. IsIn f fs) asked m))

pub returns : goal.returns
returns c =
    let l = view.linking c.args.linking.now in
    let s = seen.spaces l.main c.args.spaces.now in
    let same : map function_item c.in_ok-listed.listed.functions.now ≡ l.world.imports = ap (λ fs. map function_item fs) (c.in_ok-listed.ensures ∙ c.deref.ensures.value) in
    let asked : map (λ (g : Bor Function). function_item g.now) c.deref-2.result.now ≡ needed l = ap (λ fs. map (λ (g : Bor Function). function_item g.now) fs) c.deref-2.ensures.value ∙ c.in_ok-needed.ensures in
    let there : map seen.import_entry c.deref-3.result.now ≡ s.imports = ap (λ es. map seen.import_entry es) c.deref-3.ensures.value in
    ok_map c.outside_finding.result (λ o h. imports_same l s c.args.length o
    (subst (λ es. Finds c.args.length (IsOutside l.world.imports (needed l) es) o) there
    (subst (λ some. Finds c.args.length (IsOutside l.world.imports some (map seen.import_entry c.deref-3.result.now)) o) asked
    (subst (λ fs. Finds c.args.length (IsOutside fs (map (λ (g : Bor Function). function_item g.now) c.deref-2.result.now) (map seen.import_entry c.deref-3.result.now)) o) same h)))) c.outside_finding.ensures
