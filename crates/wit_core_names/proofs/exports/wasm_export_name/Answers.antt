use Rattle.std.proofs.Common.{◌≡◌, List, ℕ, String, ap, ◌∙◌}
use Rattle.std.proofs.lemmas.Result.{IfOk-weaker}
use Rattle.std.specs.Prelude.{string_bytes}
use Rattle.std.specs.declared.alloc.Global.{Global}
use Rattle.wit_core_names.specs.Exports.{IsExportName, destructor_name}
use Rattle.wit_core_names.specs.Items.{export_of}
use Rattle.wit_core_names.specs.Texts.{known}
use Rattle.wit_core_names.proofs.exports.wasm_export_name.Goals as goal

pub type_name-requires : goal.type_name-requires
type_name-requires c = let (interface, name) = (rw c.in-ResourceDtor.is at c.requires.named) in name

pub returns-in_ok-key-in-ResourceDtor : goal.returns-in_ok-key-in-ResourceDtor
returns-in_ok-key-in-ResourceDtor c =
    let key = string_bytes c.in_ok-key-in-ResourceDtor.key in
    let name = c.type_name.result.now in
    IfOk-weaker c.destructor_name.result (λ (n : String Global). string_bytes n ≡ destructor_name c.args.mangling c.as_str.result.now name) (λ (n : String Global). IsExportName c.args.mangling (known c.args.tables.now) (export_of c.args.«export».now) (string_bytes n))
    (λ n e. rw c.in-ResourceDtor.is (key, name, c.in_ok-key-in-ResourceDtor.ensures, c.type_name.ensures, e ∙ ap (λ (k : List ℕ). destructor_name c.args.mangling k name) c.as_str.ensures.value))
    c.destructor_name.ensures
