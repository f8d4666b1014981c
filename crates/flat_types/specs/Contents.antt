-- What types hold of which values lie in memory: strings, and lists whose length isn't known (Component Model, Canonical ABI, Storing).
use Rattle.std.specs.Prelude.{Bool, true, false, ◌||◌}
use Rattle.wit_arena.specs.Tree.{Primitive, bool, u8, u16, u32, u64, s8, s16, s32, s64, f32, f64, char, string, error_context, Tree, TreeOption, Trees, primitive, list_tree, fixed_length_list_tree, option_tree, tuple_tree, result_tree, future_tree, stream_tree, own_tree, borrow_tree, record_tree, flags_tree, enum_tree, variant_tree, resource_leaf, named_tree, no_tree, a_tree, no_trees, trees_and}

abbrev pub is_string : Primitive → Bool
is_string bool = false
is_string u8 = false
is_string u16 = false
is_string u32 = false
is_string u64 = false
is_string s8 = false
is_string s16 = false
is_string s32 = false
is_string s64 = false
is_string f32 = false
is_string f64 = false
is_string char = false
is_string string = true
is_string error_context = false

abbrev mutual
  -- a string is in it; handles hold nothing
  pub holds_string : Tree → Bool
  holds_string (primitive p) = is_string p
  holds_string (list_tree t) = holds_string t
  holds_string (fixed_length_list_tree t n) = holds_string t
  holds_string (option_tree t) = holds_string t
  holds_string (tuple_tree ts) = parts_hold_string ts
  holds_string (result_tree ok err) = part_holds_string ok || part_holds_string err
  holds_string (future_tree t) = false
  holds_string (stream_tree t) = false
  holds_string (own_tree t) = false
  holds_string (borrow_tree t) = false
  holds_string (record_tree names ts) = parts_hold_string ts
  holds_string (flags_tree names) = false
  holds_string (enum_tree names) = false
  holds_string (variant_tree names ts) = parts_hold_string ts
  holds_string (resource_leaf o x) = false
  holds_string (named_tree o x t) = holds_string t

  pub part_holds_string : TreeOption → Bool
  part_holds_string no_tree = false
  part_holds_string (a_tree t) = holds_string t

  pub parts_hold_string : Trees → Bool
  parts_hold_string no_trees = false
  parts_hold_string (trees_and t ts) = part_holds_string t || parts_hold_string ts

abbrev mutual
  -- a list whose length isn't known is in it
  pub holds_list : Tree → Bool
  holds_list (primitive p) = false
  holds_list (list_tree t) = true
  holds_list (fixed_length_list_tree t n) = holds_list t
  holds_list (option_tree t) = holds_list t
  holds_list (tuple_tree ts) = parts_hold_list ts
  holds_list (result_tree ok err) = part_holds_list ok || part_holds_list err
  holds_list (future_tree t) = false
  holds_list (stream_tree t) = false
  holds_list (own_tree t) = false
  holds_list (borrow_tree t) = false
  holds_list (record_tree names ts) = parts_hold_list ts
  holds_list (flags_tree names) = false
  holds_list (enum_tree names) = false
  holds_list (variant_tree names ts) = parts_hold_list ts
  holds_list (resource_leaf o x) = false
  holds_list (named_tree o x t) = holds_list t

  pub part_holds_list : TreeOption → Bool
  part_holds_list no_tree = false
  part_holds_list (a_tree t) = holds_list t

  pub parts_hold_list : Trees → Bool
  parts_hold_list no_trees = false
  parts_hold_list (trees_and t ts) = part_holds_list t || parts_hold_list ts
