-- What types of an arena hold is what their trees hold.
use Rattle.std.proofs.Common.{◌≡◌, List, Some, ap, ◌∙◌}
use Rattle.wit_types.specs.declared.interface.TypeDef.{TypeDef}
use Rattle.wit_types.specs.declared.function.Param.{Param}
use Rattle.flat_types.specs.Passed.wit_arena-Tree.{Trees, resource_leaf}
use Rattle.flat_types.specs.Passed.wit_arena-Unfold.{Owners, trees}
use Rattle.flat_types.specs.Flats.{FlatValue, flats, params_flat, of_fields}
use Rattle.flat_types.proofs.Agreeing.{each_flat, each_holds_string, each_holds_list, part_is_flat, parts_are_flat, all_known}
use Rattle.canonical_options.specs.Contents.{contents_of, parts_contents, ContentsAreThoseOfTrees}

fields_hold : (ts : Trees) → contents_of (of_fields (each_flat ts)) ≡ parts_contents ts
fields_hold ts = λ i. record { string = each_holds_string ts i; needs_memory = each_holds_list ts i }

pub contents_are_those_of_trees : (owners : Owners) (a : List TypeDef) → ContentsAreThoseOfTrees owners a
contents_are_those_of_trees owners a = record {
  of_one = λ r t h. ap contents_of (part_is_flat (trees owners resource_leaf a) (flats a) (all_known owners a) r t h);
  of_params = λ ps ts h.
      let e : params_flat (flats a) ps ≡ each_flat ts = parts_are_flat (trees owners resource_leaf a) (flats a) (all_known owners a) (λ (p : Param). Some p.ty) ps ts h in
      ap (λ (vs : List FlatValue). contents_of (of_fields vs)) e ∙ fields_hold ts;
}
