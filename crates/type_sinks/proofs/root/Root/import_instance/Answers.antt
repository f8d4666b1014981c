use Rattle.std.proofs.Common.{sym, ◌∙◌, ap, map, inr}
use Rattle.std.proofs.lemmas.Result.{err_from_is_err_and}
use Rattle.component_sections.specs.Passed.component_instances-Declarators.{declarator_value}
use Rattle.distinct_names.specs.Names.{is_new}
use Rattle.type_writing.proofs.Refusals.{cause_weaker}
use Rattle.type_sinks.specs.Views.{root_names}
use Rattle.type_sinks.proofs.Imported.{name_at, written_for}
use Rattle.type_sinks.proofs.root.Root.import_instance.Goals as goal

pub returns-clause-ok : goal.returns-clause-ok
returns-clause-ok c =
    let old = c.args.self.now in
    let last = c.import_named.new.self in
    let own = c.args.interface in
    let ds = map declarator_value c.args.declarators.items in
    let n = c.as_str.result.now in
    let found = rw c.in_ok-name.ensures.ok_part at c.get.ensures.lookup in
    let name = name_at old.names.now own c.index.result c.in_ok-name.name.now c.index.ensures found.3.0 found.1 ∙ sym c.as_str.ensures.value in
    let a = c.in_ok-instance.ensures.ok in
    let w = written_for old last own ds n name a.1.written in
    record {
      written = record { fresh = w.fresh; entries = w.entries; names = w.names; known = w.known };
      homes = rw (sym a.1.homes, sym a.0) c.in_ok-keep_all.ensures;
    }

pub returns-in_err-instance-clause-cause : goal.returns-in_err-instance-clause-cause
returns-in_err-instance-clause-cause c =
    let old = c.args.self.now in
    let own = c.args.interface in
    let n = c.as_str.result.now in
    let found = rw c.in_ok-name.ensures.ok_part at c.get.ensures.lookup in
    let name = name_at old.names.now own c.index.result c.in_ok-name.name.now c.index.ensures found.3.0 found.1 ∙ sym c.as_str.ensures.value in
    let moved = err_from_is_err_and c.from_residual-in_err-instance.result c.from_residual-in_err-instance.ensures.1 in
    rw (moved.1, moved.2)
    (cause_weaker (λ h. inr (ap (is_new (root_names old)) name ∙ h)) (λ h. h) c.in_err-instance.field-0.0 c.in_err-instance.ensures.cause)
