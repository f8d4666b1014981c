use Rattle.wit_core_names.proofs.imports.wasm_import_name.Goals as goal

pub type_name-requires : goal.type_name-requires
type_name-requires c = let (interface, side, name) = (rw c.in-ResourceIntrinsic.is at c.requires.named) in name

pub returns-in_ok-intrinsic_name-in-ResourceIntrinsic : goal.returns-in_ok-intrinsic_name-in-ResourceIntrinsic
returns-in_ok-intrinsic_name-in-ResourceIntrinsic c =
    rw c.in-ResourceIntrinsic.is (c.in_ok-intrinsic_module-in-ResourceIntrinsic.ensures, (c.type_name.result.now, c.type_name.ensures, c.in_ok-intrinsic_name-in-ResourceIntrinsic.ensures))
