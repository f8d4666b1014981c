use Rattle.std.proofs.Common.{ap, ◌∙◌, ◌++◌, subst}
use Rattle.std.specs.List.{AllByRecursion as Each}
use Rattle.std.proofs.lemmas.Result.{err_from_is_err_and}
use Rattle.type_sinks.specs.Passed.type_writing-Writing.{Setting, Begins, HasItsName, names_of_types}
use Rattle.type_sinks.proofs.Passed.type_writing-Refusals.{cause_weaker}
use Rattle.type_sinks.specs.declared.root.Root.{Root}
use Rattle.type_sinks.specs.Views.{root_scope, inside_setting, IsGiven}
use Rattle.component_imports.specs.Functions.{functions_of, function_names}
use Rattle.component_imports.proofs.Imported.{nothing_named, setting_is, items_unready}
use Rattle.component_imports.proofs.interface.written_instance.Goals as goal

pub write_items-requires-clause-good : goal.write_items-requires-clause-good
write_items-requires-clause-good c = c.new-instance.ensures.good c.args.types.now c.requires.good c.requires.apart

pub returns-in_err-write_items-clause-cause : goal.returns-in_err-write_items-clause-cause
returns-in_err-write_items-clause-cause c =
    let t = c.new-instance.result in
    let a = c.new-instance.ensures in
    let moved = err_from_is_err_and c.from_residual.result c.from_residual.ensures.1 in
    rw (moved.1, moved.2)
    (cause_weaker (λ h. items_unready t c.args.root c.args.types.now c.args.interface c.args.ids.now (functions_of c.args.functions.now) (setting_is t c.args.root c.args.interface a.root a.interface) (nothing_named t a.declarators) a.table h) (λ h. tt)
    c.in_err-write_items.field-0.0 c.in_err-write_items.ensures.cause)

pub returns : goal.returns
returns c =
    let root = c.args.root in
    let interface = c.args.interface in
    let types = c.args.types.now in
    let ids = c.args.ids.now in
    let fs = functions_of c.args.functions.now in
    let t0 = c.new-instance.result in
    let t = c.write_items.new.instance in
    let a = c.new-instance.ensures in
    let w = c.in_ok-write_items.ensures in
    let start = setting_is t0 root interface a.root a.interface in
    record {
      ok = record {
        setting = w.setting ∙ start;
        outside = subst (λ (r : Root). Begins (root_scope r).types (root_scope t.root).types) a.root w.outside;
        good = w.good;
        names = w.names ∙ ap (λ l. l ++ (names_of_types (inside_setting t0) types ids ++ function_names fs)) (nothing_named t0 a.declarators) ∙ ap (λ (s : Setting). names_of_types s types ids ++ function_names fs) start;
        named = subst (λ (s : Setting). Each (HasItsName s types (IsGiven t)) ids) start w.named;
        has = w.has;
      };
      placed = λ labels parameters p. w.placed labels parameters (a.placed p);
      cause = tt;
    }
