use Rattle.std.proofs.Common.{◌≡◌, ◌++◌, List, sym, subst, ap, ◌∙◌}
use Rattle.std.proofs.lemmas.Result.{err_from_is_err_and, IfErr-weaker}
use Rattle.wit_types.specs.declared.interface.TypeDef.{TypeDef}
use Rattle.wit_moves.specs.Breaks.{AnyOf, IsKept}
use Rattle.wit_moves.specs.View.{owners}
use Rattle.wit_shapes.specs.Passed.wit_resources-Natures.{natures as natures_of, natures_from}
use Rattle.wit_shapes.specs.Passed.wit_resources-declared-natures-Nature.{Nature}
use Rattle.wit_shapes.specs.Shapes.{TypeBreaks}
use Rattle.wit_graph_parts.specs.Parts as spec
use Rattle.wit_graph_parts.proofs.Shaped.{shape_ok, shape_err, natures_append}
use Rattle.wit_graph_parts.proofs.types.add_types.Goals as goal

pub returns-in_err-shape_checked-clause-cause : goal.returns-in_err-shape_checked-clause-cause
returns-in_err-shape_checked-clause-cause c =
    let defs : List TypeDef = c.in_ok-defs.defs.items in
    let known : c.extend.new.self ≡ natures_of (c.args.types.now ++ defs) =
    c.in_ok-extend.ensures.ok ∙ ap (natures_from c.args.natures.now) c.as_slice.ensures.value ∙ ap (λ (ns : List Nature). natures_from ns defs) c.requires.natures ∙ sym (natures_append c.args.types.now defs) in
    let p = err_from_is_err_and c.from_residual-in_err-shape_checked.result c.from_residual-in_err-shape_checked.ensures.1 in
    rw (p.1, p.2) (shape_err c.check_types.result _ (spec.TypesBreak (owners c.args.plan.now.owners) c.args.plan.now.types c.args.first c.args.own.items c.args.types.now) (sym c.shape_checked.ensures ∙ c.in_err-shape_checked.was)
    (IfErr-weaker c.check_types.result (AnyOf (TypeBreaks c.extend.new.self) c.as_slice-2.result.now) (spec.TypesBreak (owners c.args.plan.now.owners) c.args.plan.now.types c.args.first c.args.own.items c.args.types.now)
    (λ at b. record {
      defs = defs;
      are_moved = c.in_ok-defs.ensures;
      breaks = subst (λ (ns : List Nature). AnyOf (TypeBreaks ns) defs at) known (subst (λ (ds : List TypeDef). AnyOf (TypeBreaks c.extend.new.self) ds at) c.as_slice-2.ensures.value b);
    }) c.check_types.ensures.cause))

pub returns-clause-ok : goal.returns-clause-ok
returns-clause-ok c =
    let defs : List TypeDef = c.in_ok-defs.defs.items in
    let known : c.extend.new.self ≡ natures_of (c.args.types.now ++ defs) =
    c.in_ok-extend.ensures.ok ∙ ap (natures_from c.args.natures.now) c.as_slice.ensures.value ∙ ap (λ (ns : List Nature). natures_from ns defs) c.requires.natures ∙ sym (natures_append c.args.types.now defs) in
    let kept : IsKept (AnyOf (TypeBreaks c.extend.new.self) c.as_slice-2.result.now) = shape_ok c.check_types.result _ (IsKept (AnyOf (TypeBreaks c.extend.new.self) c.as_slice-2.result.now)) (sym c.shape_checked.ensures ∙ c.in_ok-shape_checked.was) c.check_types.ensures.ok in
    record {
      defs = defs;
      are_moved = c.in_ok-defs.ensures;
      types_are = c.in_ok-put_behind.ensures.ok;
      shapes =
          subst (λ (ns : List Nature). IsKept (AnyOf (TypeBreaks ns) defs)) (known ∙ ap natures_of (sym c.in_ok-put_behind.ensures.ok))
          (subst (λ (ds : List TypeDef). IsKept (AnyOf (TypeBreaks c.extend.new.self) ds)) c.as_slice-2.ensures.value kept);
    }

pub returns-clause-natures : goal.returns-clause-natures
returns-clause-natures c =
    let defs : List TypeDef = c.in_ok-defs.defs.items in
    c.in_ok-extend.ensures.ok ∙ ap (natures_from c.args.natures.now) c.as_slice.ensures.value ∙ ap (λ (ns : List Nature). natures_from ns defs) c.requires.natures ∙ sym (natures_append c.args.types.now defs)
    ∙ ap natures_of (sym c.in_ok-put_behind.ensures.ok)
