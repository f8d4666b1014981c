use Rattle.std.proofs.Common.{◌≡◌, ℕ, sym, ◌∙◌}
use Rattle.std.specs.Cow.{cow_str_bytes}
use Rattle.std.specs.declared.borrow.CowStr.TheVariants.{Owned}
use Rattle.wit_core_names.specs.Imports.{IsImportName}
use Rattle.wit_core_names.specs.Items.{import_of}
use Rattle.wit_core_names.specs.Texts.{known}
use Rattle.wit_core_items.specs.Growing.{Pair, pair_eq}
use Rattle.wit_core_items.proofs.Growing.{grows_none, grows_one}
use Rattle.wit_core_items.proofs.Naming.{import_has_name, import_has_none, import_same}
use Rattle.wit_core_items.proofs.import_names.add_spelling.Goals as goal

pub wasm_import_name-requires-clause-named : goal.wasm_import_name-requires-clause-named
wasm_import_name-requires-clause-named c = import_has_name (known c.args.tables.now) c.requires.packages (import_of c.args.«import».now) c.requires.side (sym c.is_import_named.ensures ∙ c.if-is_import_named.true)

pub returns-in_ok-add : goal.returns-in_ok-add
returns-in_ok-add c =
    let k = known c.args.tables.now in
    let x = import_of c.args.«import».now in
    let n = c.in_ok-module in
    grows_one pair_eq (λ (q : Pair) (i : ℕ). (i ≡ c.args.place) × IsImportName c.args.mangling k x (cow_str_bytes q.0) (cow_str_bytes q.1)) c.args.names.now c.add.new.self (Owned n.module, Owned n.name) c.args.place c.in_ok-add.ensures.ok
    (import_same k c.args.mangling x c.args.place n.module n.name n.ensures)

pub returns-else-is_import_named : goal.returns-else-is_import_named
returns-else-is_import_named c =
    let k = known c.args.tables.now in
    let x = import_of c.args.«import».now in
    grows_none pair_eq (λ (q : Pair) (i : ℕ). (i ≡ c.args.place) × IsImportName c.args.mangling k x (cow_str_bytes q.0) (cow_str_bytes q.1)) c.args.names.now
    (λ q i (at, its). import_has_none k c.args.mangling x (sym c.is_import_named.ensures ∙ c.if-is_import_named.false) (cow_str_bytes q.0) (cow_str_bytes q.1) its)
