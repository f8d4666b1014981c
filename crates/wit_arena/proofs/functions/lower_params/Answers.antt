use Rattle.std.proofs.Common.{◌∙◌, List, Some, refl, sym, subst, map}
use Rattle.std.proofs.lemmas.Simd.{map-map}
use Rattle.wit_type_names.specs.Passed.wit_productions-TypeTree.{TypeOption, a_type}
use Rattle.wit_type_names.specs.Passed.wit_items-ItemTree.{ParamTree}
use Rattle.wit_type_names.specs.Passed.wit_syntax-AstView as view
use Rattle.wit_type_names.specs.TypeNames.{names_in_parts}
use Rattle.wit_arena.specs.Lower.{AreThere, LowersParts}
use Rattle.wit_arena.specs.LowerParams.{written_param}
use Rattle.wit_arena.proofs.functions.lower_params.Goals as goal

pub bring_all-requires : goal.bring_all-requires
bring_all-requires c κs = ((refl, tt), subst (λ (ps : List TypeOption). AreThere c.args.table.now (names_in_parts ps)) (map-map (λ (x : ParamTree). a_type x.ty) view.param c.args.params.now) c.requires)

pub returns : goal.returns
returns c = record {
  types = subst (λ (ps : List TypeOption). LowersParts c.args.table.now c.args.types.now ps c.bring_all.new.types (map (λ q. Some q.ty) c.in_ok-params.params.items))
      (sym (map-map (λ (x : ParamTree). a_type x.ty) view.param c.args.params.now)) c.in_ok-params.ensures.types;
  labels = c.in_ok-params.ensures.labels ∙ sym (map-map written_param view.param c.args.params.now);
}
