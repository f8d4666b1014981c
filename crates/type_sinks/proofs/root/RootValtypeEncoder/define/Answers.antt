use Rattle.std.proofs.Common.{refl, [], ap, ◌∙◌}
use Rattle.std.proofs.lemmas.List.{append-nil}
use Rattle.std.proofs.lemmas.Result.{IfOk-weaker, on_err_weaker}
use Rattle.component_value_types.specs.Types.{defined_type_value}
use Rattle.component_sections.specs.Passed.component_instances-TypeDefinitions.{defined}
use Rattle.component_sections.specs.Passed.component_entries-Entries.{a_type}
use Rattle.type_writing.proofs.Standing.{begins_here, in_either}
use Rattle.type_sinks.specs.Kept.{index_of}
use Rattle.type_sinks.specs.Views.{root_names, root_scope}
use Rattle.type_sinks.proofs.RootImports.{define_keeps}
use Rattle.type_sinks.proofs.Rooted.{types_added, names_added, setting_added, root_keeps, root_stays}
use Rattle.type_sinks.proofs.PlacedRoot.{type_placed, same_placed}
use Rattle.type_sinks.proofs.root.RootValtypeEncoder.define.Goals as goal

pub returns : goal.returns
returns c =
    let old = c.args.self.now in
    let new = c.add_type.new.self in
    let r = c.add_type.result in
    let a = c.add_type.ensures in
    let e = a_type (defined (defined_type_value c.args.ty)) in
    let stays = root_stays old new in
    record {
      setting = in_either r _ (λ i h. setting_added old new e h.1 refl refl) (λ s. (stays s).0) a.ok a.err;
      outside = begins_here [];
      table = in_either r _ (λ i h. ap index_of h.1.known) (λ s. ap index_of s.known) a.ok a.err;
      names = in_either r _ (λ i h. names_added old new e h.1 ∙ append-nil (root_names old)) (λ s. (stays s).2) a.ok a.err;
      keeps = λ k h. tt;
      good = in_either r _ (λ i h types g. root_keeps old new e types h.1 (define_keeps (root_scope old) (defined_type_value c.args.ty)) g) (λ s. (stays s).4) a.ok a.err;
      placed = λ may p. in_either r _ (λ i h. type_placed old new (defined_type_value c.args.ty) h.1 may p) (λ s. same_placed old new s p) a.ok a.err;
      ok = IfOk-weaker r _ _ (λ i h. (h.0, types_added old new e h.1)) a.ok;
      err = on_err_weaker r (λ s. (stays s).1) a.err;
      cause = a.cause;
    }
