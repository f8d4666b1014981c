use Rattle.std.proofs.Common.{ap, ◌∙◌, ◌++◌, ◌∷◌, [], inl, inr, refl, sym}
use Rattle.std.proofs.lemmas.Result.{IfOk-weaker, IfErr-weaker, on_err_weaker, err_from_is_err_and}
use Rattle.component_definitions.specs.declared.externs.Description.TheVariants as descriptions
use Rattle.component_sections.specs.Passed.component_entries-Entries.{an_import}
use Rattle.distinct_names.specs.Names.{is_new}
use Rattle.type_writing.specs.Writing.{Setting}
use Rattle.type_writing.proofs.Standing.{begins_same, begins_on, in_either}
use Rattle.type_writing.proofs.Refusals.{cause_weaker}
use Rattle.type_sinks.specs.Kept.{index_of}
use Rattle.type_sinks.specs.Root.{imported_names, root_label}
use Rattle.type_sinks.specs.Views.{root_scope, interface_names, IsSameRoot}
use Rattle.type_sinks.proofs.RootImports.{import_function_keeps}
use Rattle.type_sinks.proofs.Rooted.{root_keeps, fresh_import, same_good, root_stays, ok_always, names_added, function_added, types_same, instances_same, functions_begin, import_is, import_counted}
use Rattle.type_sinks.proofs.PlacedRoot.{import_function_placed, same_placed}
use Rattle.type_sinks.proofs.root.Root.import_function.Goals as goal

pub returns : goal.returns
returns c =
    let old = c.args.self.now in
    let mid = c.write_function.new.sink in
    let new = c.add_function.new.self in
    let n = c.args.name.now in
    let ty = c.in_ok-ty.ty in
    let w = c.in_ok-ty.ensures in
    let e = an_import (record { name = n; description = descriptions.Function ty }) in
    let r = c.add_function.result in
    let a = c.add_function.ensures in
    record {
      interfaces = in_either r _ (λ i h. h.2.names) (λ s. s.names) a.ok a.err ∙ ap (λ (s : Setting). s.around.interfaces) w.setting;
      table = ap index_of (in_either r _ (λ i h. h.2.known) (λ s. s.known) a.ok a.err) ∙ w.table;
      homes = ap index_of (in_either r _ (λ i h. h.2.homes) (λ s. s.homes) a.ok a.err) ∙ ap (λ (s : Setting). s.homes) w.setting;
      types = begins_on (root_scope old).types (root_scope mid).types (root_scope new).types w.begins (begins_same (root_scope mid).types (root_scope new).types (in_either r _ (λ i h. types_same mid new n ty h.2) (λ s. (root_stays mid new s).1) a.ok a.err));
      functions = functions_begin old mid new (ap (λ (s : Setting). s.around.functions) w.setting) (in_either r _ (λ i h. function_added mid new e h.2) (λ s. begins_same (root_scope mid).functions (root_scope new).functions (ap (λ (t : Setting). t.around.functions) (root_stays mid new s).0)) a.ok a.err);
      instances = in_either r _ (λ i h. instances_same mid new e h.2 refl) (λ s. ap (λ (t : Setting). t.around.instances) (root_stays mid new s).0) a.ok a.err ∙ ap (λ (s : Setting). s.around.instances) w.setting;
      good = λ types g. in_either r _ (λ i h. root_keeps mid new e types h.2 (import_function_keeps (root_scope mid) n ty (fresh_import mid n h.1)) (w.good types g)) (λ s. same_good mid new types s (w.good types g)) a.ok a.err;
      placed = λ types g apart p.
          let before = w.placed types g apart p in
          in_either r _ (λ i h. import_function_placed mid new n ty (root_label (interface_names mid)) types c.args.params.now c.args.answer.now h.1 (w.stands types g) h.2 before) (λ s. same_placed mid new s before) a.ok a.err;
      names = ok_always r _ (λ i h. names_added mid new e h.2 ∙ ap (λ l. l ++ n ∷ []) w.names) a.ok;
      index = IfOk-weaker r _ _ (λ i h. import_counted old mid new n ty i (ap (λ (s : Setting). s.around.functions) w.setting) h.0 h.2) a.ok;
      is = IfOk-weaker r _ _ (λ i h types g. import_is mid new n ty i types c.args.params.now c.args.answer.now h.0 h.2 (w.stands types g)) a.ok;
      err = on_err_weaker r (λ (s : IsSameRoot mid new). (ap imported_names s.entries ∙ w.names, ap (λ (t : Setting). t.around.functions) (root_stays mid new s).0 ∙ ap (λ (t : Setting). t.around.functions) w.setting)) a.err;
      cause = IfErr-weaker r _ _ (cause_weaker (λ h. inr (ap (λ l. is_new l n) (sym w.names) ∙ h)) inr) a.cause;
    }

pub returns-in_err-ty-clause-cause : goal.returns-in_err-ty-clause-cause
returns-in_err-ty-clause-cause c =
    let moved = err_from_is_err_and c.from_residual.result c.from_residual.ensures.1 in
    rw (moved.1, moved.2)
    (cause_weaker inl inl c.in_err-ty.field-0.0 c.in_err-ty.ensures.cause)

pub returns-in_err-ty-clause-functions : goal.returns-in_err-ty-clause-functions
returns-in_err-ty-clause-functions c =
    let old = c.args.self.now in
    let new = c.write_function.new.sink in
    begins_same (root_scope old).functions (root_scope new).functions (ap (λ (s : Setting). s.around.functions) c.in_err-ty.ensures.setting)

pub returns-in_err-ty-clause-interfaces : goal.returns-in_err-ty-clause-interfaces
returns-in_err-ty-clause-interfaces c = ap (λ (s : Setting). s.around.interfaces) c.in_err-ty.ensures.setting

pub returns-in_err-ty-clause-homes : goal.returns-in_err-ty-clause-homes
returns-in_err-ty-clause-homes c = ap (λ (s : Setting). s.homes) c.in_err-ty.ensures.setting

pub returns-in_err-ty-clause-instances : goal.returns-in_err-ty-clause-instances
returns-in_err-ty-clause-instances c = ap (λ (s : Setting). s.around.instances) c.in_err-ty.ensures.setting

pub returns-in_err-ty-clause-err : goal.returns-in_err-ty-clause-err
returns-in_err-ty-clause-err c =
    let moved = err_from_is_err_and c.from_residual.result c.from_residual.ensures.1 in
    rw moved.1 (c.in_err-ty.ensures.names, ap (λ (s : Setting). s.around.functions) c.in_err-ty.ensures.setting)
