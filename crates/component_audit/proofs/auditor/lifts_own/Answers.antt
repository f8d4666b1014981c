use Rattle.std.proofs.Common.{ap, sym, ◌∙◌}
use Rattle.std.proofs.lemmas.Bool.Decides.{Decides-at}
use Rattle.wasm_types.specs.Entries.{export_value}
use Rattle.wasm_format.specs.Module.{module_value}
use Rattle.wit_component.specs.Linking.{core_export}
use Rattle.component_audit.specs.Tests.{is_lift_of}
use Rattle.component_audit.specs.SpacesView.{export_entry}
use Rattle.wit_component.specs.View as view
use Rattle.component_audit.proofs.JudgedLinks.{lift_decides, none_named}
use Rattle.component_audit.proofs.auditor.lifts_own.Goals as goal

pub returns-in-Some : goal.returns-in-Some
returns-in-Some c = λ s same.
    let e = core_export (module_value c.args.linking.now.main) (export_value c.in-Some.export.now) in
    let own = c.in-Some.ensures in
    let x = export_entry c.args.entry.now in
    Decides-at _ _ (c.is_lift_of.ensures ∙ ap (λ cores. is_lift_of cores x.item e.name e.ty) (sym same)) (lift_decides (view.linking c.args.linking.now) s c.requires.distinct x own.0 own.1 e own.2)

pub returns-in-None : goal.returns-in-None
returns-in-None c = λ s same. (λ h. absurd cc, λ own. absurd (none_named (view.linking c.args.linking.now) s c.requires.distinct (export_entry c.args.entry.now) c.in-None.ensures own))
