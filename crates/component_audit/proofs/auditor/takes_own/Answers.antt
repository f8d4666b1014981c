use Rattle.std.proofs.Common.{◌<◌, length, arith, refl, ap}
use Rattle.std.specs.Prelude.{option_map}
use Rattle.wasm_format.specs.Module.{module_value}
use Rattle.component_audit.specs.SpacesView.{spaces, core_function}
use Rattle.wit_component.specs.View as view
use Rattle.component_audit.proofs.JudgedLinks.{places_there, place_here, taken, not_taken, all_taken, as_many}
use Rattle.component_audit.proofs.auditor.takes_own.Goals as goal

pub returns-then-functions-len : goal.returns-then-functions-len
returns-then-functions-len c = (
  λ e. absurd cc,
  λ all. absurd (c.if-functions-len.true (omega (arith, as_many (view.linking c.args.linking.now) (spaces (view.linking c.args.linking.now).main c.args.spaces.now) (module_value c.args.linking.now.main) c.args.linking.now.main.imports.items c.args.linking.now.main.imports.items refl (option_map core_function) c.args.functions.now all, c.len.ensures, c.args.linking.now.main.imports.ok))),
)

pub index-requires : goal.index-requires
index-requires c =
    let same = places_there (view.linking c.args.linking.now) (spaces (view.linking c.args.linking.now).main c.args.spaces.now) (module_value c.args.linking.now.main) c.args.linking.now.main.imports.items c.deref-import-items.result.now c.deref-import-items.ensures.value c.args.table.now.imports.items c.requires.imports in
    omega (arith, same, c.loop-index-test.true, c.args.table.now.imports.ok)

pub is_own_lowering-requires : goal.is_own_lowering-requires
is_own_lowering-requires c =
    place_here (view.linking c.args.linking.now) (spaces (view.linking c.args.linking.now).main c.args.spaces.now) (module_value c.args.linking.now.main) c.args.linking.now.main.imports.items c.deref-import-items.result.now c.deref-import-items.ensures.value
    c.args.table.now.imports.items c.loop-index.index c.index.result.now c.requires.imports c.loop-index-test.true c.index.ensures _

pub returns-then-not-is_own_lowering : goal.returns-then-not-is_own_lowering
returns-then-not-is_own_lowering c =
    let lg : c.loop-index.index < length c.args.functions.now = omega (arith, c.loop-index-test.true, c.deref-import-items.ensures.len, c.if-functions-len.false, c.len.ensures) in (
      λ e. absurd cc,
      λ all. absurd (not_taken (view.linking c.args.linking.now) (spaces (view.linking c.args.linking.now).main c.args.spaces.now) (module_value c.args.linking.now.main) c.args.linking.now.main.imports.items c.deref-import-items.result.now c.deref-import-items.ensures.value
          (option_map core_function) c.args.functions.now c.loop-index.index c.loop-index-test.true lg _ c.index-functions-index.result c.index-functions-index.is c.is_own_lowering.result c.is_own_lowering.ensures c.loop-index.invariant c.if-not-is_own_lowering.true all),
    )

pub loop-index-preserved : goal.loop-index-preserved
loop-index-preserved c =
    let lg : c.loop-index.index < length c.args.functions.now = omega (arith, c.loop-index-test.true, c.deref-import-items.ensures.len, c.if-functions-len.false, c.len.ensures) in
    taken (view.linking c.args.linking.now) (spaces (view.linking c.args.linking.now).main c.args.spaces.now) (module_value c.args.linking.now.main) c.args.linking.now.main.imports.items c.deref-import-items.result.now c.deref-import-items.ensures.value
    (option_map core_function) c.args.functions.now c.loop-index.index c.loop-index-test.true lg _ c.index-functions-index.result c.index-functions-index.is c.is_own_lowering.result c.is_own_lowering.ensures c.loop-index.invariant c.if-not-is_own_lowering.false

pub returns : goal.returns
returns c =
    let ends = ap length c.deref-import-items.ensures.value in
    let all = all_taken (view.linking c.args.linking.now) (spaces (view.linking c.args.linking.now).main c.args.spaces.now) (module_value c.args.linking.now.main) c.args.linking.now.main.imports.items c.deref-import-items.result.now c.deref-import-items.ensures.value
    (option_map core_function) c.args.functions.now c.loop-index.index (omega (arith, ends, c.loop-index-test.false)) (omega (arith, ends, c.loop-index-test.false, c.deref-import-items.ensures.len, c.if-functions-len.false, c.len.ensures)) c.loop-index.invariant in
    (λ e. all, λ h. refl)
