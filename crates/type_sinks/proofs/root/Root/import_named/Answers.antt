use Rattle.std.proofs.Common.{sym, subst, ◌∙◌, ◌≤◌, ◌^◌, ◌+◌, map, inr}
use Rattle.std.proofs.lemmas.Result.{IfOk-weaker, IfErr-weaker}
use Rattle.component_sections.specs.Passed.component_instances-Declarators.{declarator_value}
use Rattle.type_writing.proofs.Refusals.{cause_weaker}
use Rattle.type_sinks.proofs.Imported.{written_by, unnamed_there, unplaced_there}
use Rattle.type_sinks.proofs.root.Root.import_named.Goals as goal

pub returns : goal.returns
returns c =
    let old = c.args.self.now in
    let mid = c.add_type.new.self in
    let last = c.add_instance.new.self in
    let ds = map declarator_value c.args.declarators.items in
    let n = c.args.name.now in
    let a = c.in_ok-ty.ensures.ok in
    record {
      ok = IfOk-weaker c.add_instance.result _ _ (λ i b. written_by old mid last ds n c.in_ok-ty.ty i a.0 a.1 b.0 b.1 b.2) c.add_instance.ensures.ok;
      cause = IfErr-weaker c.add_instance.result _ _ (cause_weaker (λ h. sym (unnamed_there old mid ds n a.1) ∙ h) (λ h. inr (subst (λ k. 2 ^ 32 ≤ k + 1) (unplaced_there old mid ds a.1) h))) c.add_instance.ensures.cause;
    }
