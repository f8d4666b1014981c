use Rattle.std.proofs.Common.{◌≡◌, Some, map, sym, ap, subst, ◌∙◌}
use Rattle.std.specs.Prelude.{string_bytes}
use Rattle.wasm_types.specs.declared.types.ExportKind.TheVariants as kinds
use Rattle.wasm_types.specs.Entries.{export_value}
use Rattle.linked_imports.specs.Passed.component_meaning-Core.{of_function}
use Rattle.linked_imports.specs.Passed.component_meaning-Spaces.{core_at, meaning}
use Rattle.linked_imports.specs.Passed.link_table-View.{name_at, options_value}
use Rattle.linked_imports.specs.Passed.right_components-Ends.{AreOptionsOf}
use Rattle.type_writing.specs.Passed.type_meaning-Items.{type_at, is_function}
use Rattle.component_encoding.specs.Growing.{Offers, export_item}
use Rattle.component_encoding.specs.Exports.{AreOffered}
use Rattle.component_encoding.specs.Placing.{StayPlacedWith}
use Rattle.component_encoding.proofs.Behind.{stay_placed, stay_placed_with}
use Rattle.component_encoding.proofs.Exported.{name_there, one_exported}
use Rattle.component_encoding.proofs.Growth.{grows, core_stays, main_stays, adds_both}
use Rattle.component_encoding.proofs.Staying.{shared_stay}
use Rattle.component_encoding.proofs.exports.add_export.Goals as goal

pub returns-clause-exported : goal.returns-clause-exported
returns-clause-exported c = λ l main e tree same link f offered m typed shared.
    let zero = c.args.builder.now in
    let one = c.take_export.new.builder in
    let two = c.take_options.new.builder in
    let three = c.add_lift.new.builder in
    let instance = c.args.instance in
    let core = c.in_ok-core_function.core_function in
    let es = c.args.exports.now in
    let at : name_at (map export_value es) c.args.link.now.«export» ≡ Some e.name = ap (λ xs. name_at xs c.args.link.now.«export») same ∙ link.name in
    let name = name_there es c.args.link.now.«export» _ e.name at in
    let offers = subst (λ n. Offers main kinds.Func n (of_function offered.ty)) (sym name) offered.offers in
    let first = subst (λ n. core_at kinds.Func (meaning main one) core ≡ Some (export_item instance n (of_function offered.ty))) name (c.in_ok-core_function.ensures.takes main (of_function offered.ty) m offers) in
    let items = c.in_ok-core_function.ensures.only main in
    let more = c.in_ok-options.ensures.only main in
    let all = adds_both (meaning main zero) (meaning main one) (meaning main two) items more in
    let options = c.in_ok-options.ensures.options l main same (main_stays main (meaning main zero) (meaning main one) instance items.instances m) (subst (AreOffered l main) (sym link.options) offered.options)
    (shared_stay l.main.exports (meaning main zero) (meaning main one) instance c.args.shared.now (grows main zero one c.in_ok-core_function.ensures.begins) shared) in
    let lifts = c.in_ok-add_lift.ensures.lifts main tree (ap (λ z. type_at is_function z.types c.args.ty) all.scope ∙ typed) in
    let g = grows main two three c.in_ok-add_lift.ensures.begins in (
      one_exported l main (meaning main zero) (meaning main two) (meaning main three) e c.as_str.result.now instance core c.args.ty c.in_ok-options.options.items tree offered
          (c.as_str.ensures.value ∙ ap (λ x. string_bytes x.name) (sym f)) all lifts g offered (core_stays kinds.Func (meaning main one) (meaning main two) core (export_item instance e.name (of_function offered.ty)) (grows main one two c.in_ok-options.ensures.begins) first)
          (subst (λ o. AreOptionsOf l (meaning main two) instance o c.in_ok-options.options.items) link.options options.0) typed,
      shared_stay l.main.exports (meaning main two) (meaning main three) instance c.take_options.new.shared g options.1,
      subst (StayPlacedWith zero three) c.as_str.ensures.value
          (stay_placed_with zero two three c.as_str.result.now (stay_placed zero one two (c.in_ok-core_function.ensures.placed main m) (c.in_ok-options.ensures.placed main (main_stays main (meaning main zero) (meaning main one) instance items.instances m)))
          (c.in_ok-add_lift.ensures.placed main l (options_value l.main.exports c.args.link.now.options) tree (export_item instance e.name (of_function offered.ty)) instance (ap (λ z. type_at is_function z.types c.args.ty) all.scope ∙ typed)
          (core_stays kinds.Func (meaning main one) (meaning main two) core (export_item instance e.name (of_function offered.ty)) (grows main one two c.in_ok-options.ensures.begins) first) options.0 c.in_ok-options.ensures.single)),
    )
