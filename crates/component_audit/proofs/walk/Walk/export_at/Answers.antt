use Rattle.std.proofs.Common.{◌≡◌, Some, None, rules, ap, ◌∙◌, sym, List}
use Rattle.std.specs.Prelude.{option_map, slice_get}
use Rattle.std.proofs.lemmas.Option.{slice_get-get_or}
use Rattle.wasm_types.specs.declared.entries.Export.{Export}
use Rattle.wasm_types.specs.Types.{func_type_value}
use Rattle.wasm_format.specs.Module.{module_value}
use Rattle.component_audit.specs.SpacesView.{core_function}
use Rattle.component_audit.proofs.Named.{export_here}
use Rattle.component_audit.proofs.walk.Walk.export_at.Goals as goal

pub returns-in_err-ty : goal.returns-in_err-ty
returns-in_err-ty c =
    let seen : c.deref.result.now ≡ c.args.self.now.linking.now.main.exports.items = c.deref.ensures.value in
    let at : slice_get c.args.self.now.linking.now.main.exports.items c.args.place ≡ Some c.in_ok-export.export.now =
    sym (ap (λ (xs : List Export). slice_get xs c.args.place) seen)
    ∙ slice_get-get_or c.deref.result.now c.args.place c.in_ok-export.export.now c.in_ok-export.ensures.lookup.3.0 ∙ ap Some (sym c.in_ok-export.ensures.lookup.1) in
    let none : c.from_residual-in_err-ty.result ≡ None = search rules in
    ap (option_map core_function) none ∙ export_here (module_value c.args.self.now.linking.now.main) c.args.self.now.linking.now.bytes.now c.args.instance c.args.self.now.linking.now.main.exports.items c.args.place c.in_ok-export.export.now None at c.in_err-ty.ensures

pub returns : goal.returns
returns c =
    let seen : c.deref.result.now ≡ c.args.self.now.linking.now.main.exports.items = c.deref.ensures.value in
    let at : slice_get c.args.self.now.linking.now.main.exports.items c.args.place ≡ Some c.in_ok-export.export.now =
    sym (ap (λ (xs : List Export). slice_get xs c.args.place) seen)
    ∙ slice_get-get_or c.deref.result.now c.args.place c.in_ok-export.export.now c.in_ok-export.ensures.lookup.3.0 ∙ ap Some (sym c.in_ok-export.ensures.lookup.1) in
    export_here (module_value c.args.self.now.linking.now.main) c.args.self.now.linking.now.bytes.now c.args.instance c.args.self.now.linking.now.main.exports.items c.args.place c.in_ok-export.export.now (Some (func_type_value c.in_ok-ty.ty.now)) at c.in_ok-ty.ensures
