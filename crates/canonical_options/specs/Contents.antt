-- What values hold that lies in memory (Component Model, Canonical ABI, Storing).
use Rattle.std.specs.Prelude.{◌≡◌, List, map, Option, Some, Bool}
use Rattle.wit_types.specs.declared.kind.«Type».{«Type» as Ref}
use Rattle.wit_types.specs.declared.interface.TypeDef.{TypeDef}
use Rattle.wit_types.specs.declared.function.Param.{Param}
use Rattle.flat_types.specs.Passed.wit_arena-Tree.{TreeOption, Trees, resource_leaf}
use Rattle.flat_types.specs.Passed.wit_arena-Unfold.{Owners, part_tree, part_trees, trees}
use Rattle.flat_types.specs.Contents.{part_holds_string, parts_hold_string, part_holds_list, parts_hold_list}
use Rattle.flat_types.specs.Flats.{FlatValue, flats, part_flat, params_flat, of_fields}

-- a string is in a value, and a list whose length isn't known is
pub record ContentsValue : Type 0 where
  pub string : Bool
  pub needs_memory : Bool

-- by what is known of types
abbrev pub contents_of : FlatValue → ContentsValue
contents_of v = record { string = v.holds_string; needs_memory = v.holds_list }

-- ---- the law: what is known of the types of an arena is what their trees hold

-- of one value, if there is one
abbrev pub part_contents : TreeOption → ContentsValue
part_contents t = record { string = part_holds_string t; needs_memory = part_holds_list t }

-- of values one after the other
abbrev pub parts_contents : Trees → ContentsValue
parts_contents ts = record { string = parts_hold_string ts; needs_memory = parts_hold_list ts }

pub record ContentsAreThoseOfTrees (owners : Owners) (a : List TypeDef) : Type 0 where
  pub of_one : (r : Option Ref) (t : TreeOption) → part_tree (trees owners resource_leaf a) r ≡ Some t → contents_of (part_flat (flats a) r) ≡ part_contents t
  pub of_params : (ps : List Param) (ts : Trees) → part_trees (trees owners resource_leaf a) (map (λ (p : Param). Some p.ty) ps) ≡ Some ts → contents_of (of_fields (params_flat (flats a) ps)) ≡ parts_contents ts
