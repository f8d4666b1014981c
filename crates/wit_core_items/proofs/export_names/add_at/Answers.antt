use Rattle.std.proofs.Common.{◌≡◌, ℕ, sym, subst, ◌∙◌}
use Rattle.std.proofs.lemmas.Option.{same_Some}
use Rattle.std.specs.Cow.{cow_str_bytes}
use Rattle.wit_core_names.specs.Items.{CoreExport, export_of}
use Rattle.wit_core_names.specs.Texts.{known}
use Rattle.wit_core_items.specs.Growing.{Grows, Name, name_eq}
use Rattle.wit_core_items.specs.World.{IsExportedAs}
use Rattle.wit_core_items.proofs.export_names.add_at.Goals as goal

pub returns : goal.returns
returns c x at =
    let k = known c.args.tables.now in
    let here = export_of c.export_at-export.result in
    let same : here ≡ x = same_Some here x (sym c.export_at-export.ensures ∙ at) in
    subst (λ (y : CoreExport). Grows name_eq (λ (q : Name) (i : ℕ). (i ≡ c.args.place) × IsExportedAs k c.args.legacy y (cow_str_bytes q)) c.args.names.now c.add_export.new.names) same c.in_ok-add_export.ensures
