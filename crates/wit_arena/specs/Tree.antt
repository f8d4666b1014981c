-- What types mean: trees (WIT, Types).
use Rattle.std.specs.Prelude.{ℕ, Bool, true, false, List, Option, if◌then◌else◌}
use Rattle.wit_type_names.specs.Passed.wit_scopes-declared-worlds-Side.{Side}

abbrev pub Name : Type 0
Name = List ℕ

-- a package by the texts of its name
pub record PackageText : Type 0 where
  pub namespace : Name
  pub name : Name
  pub version : Option Name

-- where the names of a scope belong: to an interface, to a world, to an interface that stands in a world under a label
pub data Place : Type 0 where
  in_interface : Name → Place
  in_world : Name → Place
  in_listed : Name → Side → Name → Place

pub record Owner : Type 0 where
  pub package_text : PackageText
  pub place : Place

pub data Primitive : Type 0 where
  bool : Primitive
  u8 : Primitive
  u16 : Primitive
  u32 : Primitive
  u64 : Primitive
  s8 : Primitive
  s16 : Primitive
  s32 : Primitive
  s64 : Primitive
  f32 : Primitive
  f64 : Primitive
  char : Primitive
  string : Primitive
  error_context : Primitive

-- a type with all that it is made of; a name that is defined or used keeps whose it is and its spelling, so that a type has the chain of
-- names by which it is reached; a resource is a leaf
mutual
  pub data Tree : Type 0 where
    primitive : Primitive → Tree
    list_tree : Tree → Tree
    fixed_length_list_tree : Tree → ℕ → Tree
    option_tree : Tree → Tree
    tuple_tree : Trees → Tree
    result_tree : TreeOption → TreeOption → Tree
    future_tree : TreeOption → Tree
    stream_tree : TreeOption → Tree
    own_tree : Tree → Tree
    borrow_tree : Tree → Tree
    record_tree : List Name → Trees → Tree
    flags_tree : List Name → Tree
    enum_tree : List Name → Tree
    variant_tree : List Name → Trees → Tree
    resource_leaf : Owner → Name → Tree
    named_tree : Owner → Name → Tree → Tree

  pub data TreeOption : Type 0 where
    no_tree : TreeOption
    a_tree : Tree → TreeOption

  -- parts in order; a case may have none
  pub data Trees : Type 0 where
    no_trees : Trees
    trees_and : TreeOption → Trees → Trees

-- a resource, by whatever names
abbrev pub is_resource : Tree → Bool
is_resource (resource_leaf o x) = true
is_resource (named_tree o x t) = is_resource t
is_resource (primitive p) = false
is_resource (list_tree t) = false
is_resource (fixed_length_list_tree t n) = false
is_resource (option_tree t) = false
is_resource (tuple_tree ts) = false
is_resource (result_tree ok err) = false
is_resource (future_tree t) = false
is_resource (stream_tree t) = false
is_resource (own_tree t) = false
is_resource (borrow_tree t) = false
is_resource (record_tree ns ts) = false
is_resource (flags_tree ns) = false
is_resource (enum_tree ns) = false
is_resource (variant_tree ns ts) = false

-- a name of a resource stands for the reference that owns it, where a value is asked
abbrev pub value_of : Tree → Tree
value_of t = if is_resource t then own_tree t else t
