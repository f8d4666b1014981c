-- What a type holds, by its tree (WIT, Types: `borrow`, Item: `resource`; Canonical ABI, Loading).
use Rattle.std.specs.Prelude.{Bool, true, false, ◌||◌, ◌&&◌}
use Rattle.wit_arena.specs.Tree as tree
use Rattle.wit_arena.specs.Tree.{Primitive, Tree, TreeOption, Trees, no_tree, a_tree, no_trees, trees_and, primitive, list_tree, fixed_length_list_tree, option_tree, tuple_tree, result_tree, future_tree, stream_tree, own_tree, borrow_tree, record_tree, flags_tree, enum_tree, variant_tree, resource_leaf, named_tree}

-- a reference that is lent stands in it, by whatever names
abbrev mutual
  pub holds_borrow : Tree → Bool
  holds_borrow (primitive p) = false
  holds_borrow (list_tree t) = holds_borrow t
  holds_borrow (fixed_length_list_tree t n) = holds_borrow t
  holds_borrow (option_tree t) = holds_borrow t
  holds_borrow (tuple_tree ts) = parts_hold_borrow ts
  holds_borrow (result_tree ok err) = part_holds_borrow ok || part_holds_borrow err
  holds_borrow (future_tree t) = part_holds_borrow t
  holds_borrow (stream_tree t) = part_holds_borrow t
  holds_borrow (own_tree t) = false
  holds_borrow (borrow_tree t) = true
  holds_borrow (record_tree ns ts) = parts_hold_borrow ts
  holds_borrow (flags_tree ns) = false
  holds_borrow (enum_tree ns) = false
  holds_borrow (variant_tree ns ts) = parts_hold_borrow ts
  holds_borrow (resource_leaf o x) = false
  holds_borrow (named_tree o x t) = holds_borrow t

  pub part_holds_borrow : TreeOption → Bool
  part_holds_borrow no_tree = false
  part_holds_borrow (a_tree t) = holds_borrow t

  pub parts_hold_borrow : Trees → Bool
  parts_hold_borrow no_trees = false
  parts_hold_borrow (trees_and t ts) = part_holds_borrow t || parts_hold_borrow ts

-- integers and floating-point numbers: any bits are one
abbrev pub is_number : Primitive → Bool
is_number tree.bool = false
is_number tree.u8 = true
is_number tree.u16 = true
is_number tree.u32 = true
is_number tree.u64 = true
is_number tree.s8 = true
is_number tree.s16 = true
is_number tree.s32 = true
is_number tree.s64 = true
is_number tree.f32 = true
is_number tree.f64 = true
is_number tree.char = false
is_number tree.string = false
is_number tree.error_context = false

-- any bits in as much memory as a value takes are one as far as bits go: of numbers and of handles, and of what has these alone side by
-- side; a resource itself is no value
abbrev mutual
  pub all_bits_valid : Tree → Bool
  all_bits_valid (primitive p) = is_number p
  all_bits_valid (list_tree t) = false
  all_bits_valid (fixed_length_list_tree t n) = all_bits_valid t
  all_bits_valid (option_tree t) = false
  all_bits_valid (tuple_tree ts) = parts_all_bits_valid ts
  all_bits_valid (result_tree ok err) = false
  all_bits_valid (future_tree t) = false
  all_bits_valid (stream_tree t) = false
  all_bits_valid (own_tree t) = true
  all_bits_valid (borrow_tree t) = true
  all_bits_valid (record_tree ns ts) = parts_all_bits_valid ts
  all_bits_valid (flags_tree ns) = false
  all_bits_valid (enum_tree ns) = false
  all_bits_valid (variant_tree ns ts) = false
  all_bits_valid (resource_leaf o x) = false
  all_bits_valid (named_tree o x t) = all_bits_valid t

  -- a part that isn't there has no bits
  pub part_all_bits_valid : TreeOption → Bool
  part_all_bits_valid no_tree = true
  part_all_bits_valid (a_tree t) = all_bits_valid t

  pub parts_all_bits_valid : Trees → Bool
  parts_all_bits_valid no_trees = true
  parts_all_bits_valid (trees_and t ts) = part_all_bits_valid t && parts_all_bits_valid ts
