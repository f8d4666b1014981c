use Rattle.std.proofs.Common.{◌≡◌, Bool, true, false, ◌&&◌, List, Option, map, sym, ap, ◌∙◌}
use Rattle.std.specs.Prelude.{option_map}
use Rattle.component_audit.specs.declared.spaces.ComponentFunction.{ComponentFunction}
use Rattle.std.proofs.lemmas.Bool.Decides.{Decides-at}
use Rattle.wasm_types.specs.Entries.{import_value}
use Rattle.wasm_format.specs.Module.{module_value}
use Rattle.plain_worlds.specs.World.{FunctionItem, function_item}
use Rattle.wit_component.specs.Linking.{core_import}
use Rattle.wit_component.specs.Meaning.{is_of_core_type}
use Rattle.component_audit.specs.Tests.{is_lowering_of}
use Rattle.component_audit.specs.SpacesView as seen
use Rattle.wit_component.specs.View as view
use Rattle.component_audit.proofs.JudgedLinks.{given_decides, item_read}
use Rattle.component_audit.proofs.auditor.is_own_lowering.Goals as goal

pub returns-then-is_lowering_of : goal.returns-then-is_lowering_of
returns-then-is_lowering_of c =
    let l = view.linking c.args.linking.now in
    let s = seen.spaces l.main c.args.spaces.now in
    let i = core_import (module_value c.args.linking.now.main) (import_value c.args.import.now) in
    let g = option_map seen.core_function c.args.function.now in
    let f = c.requires.0 in
    let lowers : c.is_lowering_of.result ≡ is_lowering_of s.functions g c.as_str.result.now =
    c.is_lowering_of.ensures ∙ ap (λ (fs : List (Option ComponentFunction)). is_lowering_of (map (option_map seen.component_function) fs) g c.as_str.result.now) c.deref.ensures.value in
    let name = c.as_str.ensures.value ∙ ap (λ (x : FunctionItem). x.name) (item_read function_item c.args.linking.now.world.now.imports.items c.args.place c.index-wanted.result.now f c.requires.1 c.index-wanted.ensures) in
    let own : is_lowering_of s.functions g f.name ≡ true = ap (is_lowering_of s.functions g) (sym name) ∙ (sym lowers ∙ c.if-is_lowering_of.true) in
    let is : c.is_of_type.result ≡ (is_lowering_of s.functions g f.name && is_of_core_type i.ty g) = c.is_of_type.ensures ∙ ap (λ (b : Bool). b && is_of_core_type i.ty g) (sym own) in
    Decides-at c.is_of_type.result (is_lowering_of s.functions g f.name && is_of_core_type i.ty g) is (given_decides l s i f c.requires.2 g)

pub returns-else-is_lowering_of : goal.returns-else-is_lowering_of
returns-else-is_lowering_of c =
    let l = view.linking c.args.linking.now in
    let s = seen.spaces l.main c.args.spaces.now in
    let i = core_import (module_value c.args.linking.now.main) (import_value c.args.import.now) in
    let g = option_map seen.core_function c.args.function.now in
    let f = c.requires.0 in
    let lowers : c.is_lowering_of.result ≡ is_lowering_of s.functions g c.as_str.result.now =
    c.is_lowering_of.ensures ∙ ap (λ (fs : List (Option ComponentFunction)). is_lowering_of (map (option_map seen.component_function) fs) g c.as_str.result.now) c.deref.ensures.value in
    let name = c.as_str.ensures.value ∙ ap (λ (x : FunctionItem). x.name) (item_read function_item c.args.linking.now.world.now.imports.items c.args.place c.index-wanted.result.now f c.requires.1 c.index-wanted.ensures) in
    let other : is_lowering_of s.functions g f.name ≡ false = ap (is_lowering_of s.functions g) (sym name) ∙ (sym lowers ∙ c.if-is_lowering_of.false) in
    let is : c.is_lowering_of.result ≡ (is_lowering_of s.functions g f.name && is_of_core_type i.ty g) = c.if-is_lowering_of.false ∙ ap (λ (b : Bool). b && is_of_core_type i.ty g) (sym other) in
    Decides-at c.is_lowering_of.result (is_lowering_of s.functions g f.name && is_of_core_type i.ty g) is (given_decides l s i f c.requires.2 g)
