use Rattle.std.proofs.Common.{◌≡◌, ℕ, sym, ◌∙◌}
use Rattle.std.specs.Cow.{cow_str_bytes}
use Rattle.std.specs.declared.borrow.CowStr.TheVariants.{Owned}
use Rattle.wit_core_names.specs.Exports.{IsExportName}
use Rattle.wit_core_names.specs.Items.{export_of}
use Rattle.wit_core_names.specs.Texts.{known}
use Rattle.wit_core_items.specs.Growing.{Name, name_eq}
use Rattle.wit_core_items.proofs.Growing.{grows_none, grows_one}
use Rattle.wit_core_items.proofs.Naming.{export_has_name, export_has_none, export_same}
use Rattle.wit_core_items.proofs.export_names.add_spelling.Goals as goal

pub wasm_export_name-requires-clause-named : goal.wasm_export_name-requires-clause-named
wasm_export_name-requires-clause-named c = export_has_name (known c.args.tables.now) c.requires.packages (export_of c.args.«export».now) (sym c.is_export_named.ensures ∙ c.if-is_export_named.true)

pub returns-in_ok-add : goal.returns-in_ok-add
returns-in_ok-add c =
    let k = known c.args.tables.now in
    let x = export_of c.args.«export».now in
    let n = c.in_ok-name in
    grows_one name_eq (λ (q : Name) (i : ℕ). (i ≡ c.args.place) × IsExportName c.args.mangling k x (cow_str_bytes q)) c.args.names.now c.add.new.self (Owned n.name) c.args.place c.in_ok-add.ensures.ok
    (export_same k c.args.mangling x c.args.place n.name n.ensures)

pub returns-else-is_export_named : goal.returns-else-is_export_named
returns-else-is_export_named c =
    let k = known c.args.tables.now in
    let x = export_of c.args.«export».now in
    grows_none name_eq (λ (q : Name) (i : ℕ). (i ≡ c.args.place) × IsExportName c.args.mangling k x (cow_str_bytes q)) c.args.names.now
    (λ q i (at, its). export_has_none k c.args.mangling x (sym c.is_export_named.ensures ∙ c.if-is_export_named.false) (cow_str_bytes q) its)
