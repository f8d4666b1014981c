-- Trees in which the names of one world are another's (WIT, Item: `include`).
use Rattle.std.specs.Prelude.{◌≡◌, ℕ, List}
use Rattle.wit_arena.specs.Passed.wit_types-declared-world-IncludeName.{IncludeName}
use Rattle.wit_arena.specs.Tree as tree
use Rattle.wit_arena.specs.Tree.{Name, Owner, Tree, TreeOption, Trees}
use Rattle.wit_includes.specs.Passed.wit_sides-Renames.{IsRenamed}

-- what belongs to the one belongs to the other, under its changed name; what is reached by a name of another owner stays as it is
mutual
  pub data IsRenamedTree (names : List IncludeName) (from into : Owner) : Tree → Tree → Type 0 where
    same_primitive : (p : tree.Primitive) → IsRenamedTree names from into (tree.primitive p) (tree.primitive p)
    renamed_list : (t u : Tree) → IsRenamedTree names from into t u → IsRenamedTree names from into (tree.list_tree t) (tree.list_tree u)
    renamed_fixed_length_list : (t u : Tree) (n : ℕ) → IsRenamedTree names from into t u → IsRenamedTree names from into (tree.fixed_length_list_tree t n) (tree.fixed_length_list_tree u n)
    renamed_option : (t u : Tree) → IsRenamedTree names from into t u → IsRenamedTree names from into (tree.option_tree t) (tree.option_tree u)
    renamed_tuple : (ts us : Trees) → AreRenamedTrees names from into ts us → IsRenamedTree names from into (tree.tuple_tree ts) (tree.tuple_tree us)
    renamed_result : (t u v w : TreeOption) → IsRenamedPart names from into t u → IsRenamedPart names from into v w → IsRenamedTree names from into (tree.result_tree t v) (tree.result_tree u w)
    renamed_future : (t u : TreeOption) → IsRenamedPart names from into t u → IsRenamedTree names from into (tree.future_tree t) (tree.future_tree u)
    renamed_stream : (t u : TreeOption) → IsRenamedPart names from into t u → IsRenamedTree names from into (tree.stream_tree t) (tree.stream_tree u)
    renamed_own : (t u : Tree) → IsRenamedTree names from into t u → IsRenamedTree names from into (tree.own_tree t) (tree.own_tree u)
    renamed_borrow : (t u : Tree) → IsRenamedTree names from into t u → IsRenamedTree names from into (tree.borrow_tree t) (tree.borrow_tree u)
    renamed_record : (xs : List Name) (ts us : Trees) → AreRenamedTrees names from into ts us → IsRenamedTree names from into (tree.record_tree xs ts) (tree.record_tree xs us)
    same_flags : (xs : List Name) → IsRenamedTree names from into (tree.flags_tree xs) (tree.flags_tree xs)
    same_enum : (xs : List Name) → IsRenamedTree names from into (tree.enum_tree xs) (tree.enum_tree xs)
    renamed_variant : (xs : List Name) (ts us : Trees) → AreRenamedTrees names from into ts us → IsRenamedTree names from into (tree.variant_tree xs ts) (tree.variant_tree xs us)
    renamed_name : (x y : Name) (t u : Tree) → IsRenamed names x y → IsRenamedTree names from into t u → IsRenamedTree names from into (tree.named_tree from x t) (tree.named_tree into y u)
    renamed_leaf : (x y : Name) → IsRenamed names x y → IsRenamedTree names from into (tree.resource_leaf from x) (tree.resource_leaf into y)
    other_name : (o : Owner) (x : Name) (t : Tree) → (o ≡ from → ⊥) → IsRenamedTree names from into (tree.named_tree o x t) (tree.named_tree o x t)
    other_leaf : (o : Owner) (x : Name) → (o ≡ from → ⊥) → IsRenamedTree names from into (tree.resource_leaf o x) (tree.resource_leaf o x)

  pub data IsRenamedPart (names : List IncludeName) (from into : Owner) : TreeOption → TreeOption → Type 0 where
    no_part : IsRenamedPart names from into tree.no_tree tree.no_tree
    renamed_part : (t u : Tree) → IsRenamedTree names from into t u → IsRenamedPart names from into (tree.a_tree t) (tree.a_tree u)

  pub data AreRenamedTrees (names : List IncludeName) (from into : Owner) : Trees → Trees → Type 0 where
    no_parts : AreRenamedTrees names from into tree.no_trees tree.no_trees
    parts_and : (t u : TreeOption) (ts us : Trees) → IsRenamedPart names from into t u → AreRenamedTrees names from into ts us → AreRenamedTrees names from into (tree.trees_and t ts) (tree.trees_and u us)
