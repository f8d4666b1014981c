-- Arenas that grow, step by step.
use Rattle.std.proofs.Common.{◌≡◌, List, [], ◌∷◌, ◌++◌, length, Option, Some, refl, sym, subst, ap, ◌∙◌, append_assoc, map}
use Rattle.std.proofs.lemmas.Option.{same_Some}
use Rattle.std.proofs.lemmas.List.{append-nil}
use Rattle.std.specs.Prelude.{String, option_map, string_bytes}
use Rattle.std.specs.declared.alloc.Global.{Global}
use Rattle.wit_types.specs.Passed.wit_words-declared-source_map-Span.{Span}
use Rattle.wit_types.specs.declared.kind.«Type».{«Type» as Ref}
use Rattle.wit_types.specs.declared.kind.TypeDefKind.{TypeDefKind}
use Rattle.wit_types.specs.declared.kind.TypeDefKind.TheVariants as kind
use Rattle.wit_types.specs.declared.interface.TypeDef.{TypeDef}
use Rattle.wit_types.specs.declared.interface.TypeOwner.{TypeOwner}
use Rattle.wit_arena.specs.Tree.{Name, Owner, Tree, TreeOption, list_tree, fixed_length_list_tree, option_tree, tuple_tree, result_tree, future_tree, stream_tree}
use Rattle.wit_arena.specs.Shape as shape
use Rattle.wit_arena.specs.Shape.{ShapeTree, kind_shape}
use Rattle.wit_arena.specs.Arena.{IsUnnamed, Interns, there, fresh}
use Rattle.wit_arena.specs.Unfold.{Owners, and_then, ref_tree, value_tree, part_tree, part_trees, handle_tree, kind_tree, named_kind_tree, nameless_tree, def_tree_of, def_tree, trees, IsWhole}
use Rattle.wit_arena.specs.Standing.{HasTree, Grows, IsDefinedAs}
use Rattle.wit_arena.proofs.Unfolding.{option_map_some, ref_kept, part_kept, added, stands_at, whole_more}

-- ---- the trees of definitions

-- the tree of what is of a shape
abbrev pub shape_tree : List (Option Tree) → ShapeTree → Option Tree
shape_tree done (shape.handle h) = handle_tree done h
shape_tree done (shape.tuple rs) = option_map tuple_tree (part_trees done (map (λ r. Some r) rs))
shape_tree done (shape.option r) = option_map option_tree (value_tree done r)
shape_tree done (shape.result r q) = and_then (λ t. option_map (result_tree t) (part_tree done q)) (part_tree done r)
shape_tree done (shape.list r) = option_map list_tree (value_tree done r)
shape_tree done (shape.fixed_length_list r n) = option_map (λ t. fixed_length_list_tree t n) (value_tree done r)
shape_tree done (shape.future r) = option_map future_tree (part_tree done r)
shape_tree done (shape.stream r) = option_map stream_tree (part_tree done r)

-- what is of a shape has the tree of the shape
shaped_tree : (done : List (Option Tree)) (k : TypeDefKind) (s : ShapeTree) → kind_shape k ≡ Some s → kind_tree done k ≡ shape_tree done s
shaped_tree done (kind.Handle h) s e = ap (shape_tree done) (same_Some (shape.handle h) s e)
shaped_tree done (kind.Tuple t) s e = ap (shape_tree done) (same_Some (shape.tuple t.types.items) s e)
shaped_tree done (kind.Option t) s e = ap (shape_tree done) (same_Some (shape.option t) s e)
shaped_tree done (kind.Result r) s e = ap (shape_tree done) (same_Some (shape.result r.ok r.err) s e)
shaped_tree done (kind.List t) s e = ap (shape_tree done) (same_Some (shape.list t) s e)
shaped_tree done (kind.FixedLengthList t n) s e = ap (shape_tree done) (same_Some (shape.fixed_length_list t n) s e)
shaped_tree done (kind.Future t) s e = ap (shape_tree done) (same_Some (shape.future t) s e)
shaped_tree done (kind.Stream t) s e = ap (shape_tree done) (same_Some (shape.stream t) s e)
shaped_tree done _ s e = absurd cc

module _ (owners : Owners) (given : Owner → Name → Tree) where
  -- so has a type without a name
  unnamed_tree : (done : List (Option Tree)) (k : ShapeTree) (d : TypeDef) → IsUnnamed k d → def_tree owners given done d ≡ shape_tree done k
  unnamed_tree done k d u =
      ap (λ (n : Option (String Global)). def_tree_of owners given done n d.owner d.kind) u.nameless
      ∙ ap (λ (o : TypeOwner). nameless_tree done o d.kind) u.owner
      ∙ shaped_tree done d.kind k u.kind

  -- a type with a name has that of its name and kind
  pub defined_tree : (done : List (Option Tree)) (w : Owner) (x : Name) (k : TypeDefKind) (d : TypeDef) → IsDefinedAs owners w x k d → def_tree owners given done d ≡ named_kind_tree given done w x k
  defined_tree done w x k d is =
      let n = option_map_some string_bytes d.name x is.name in
      ap (λ (z : Option (String Global)). def_tree_of owners given done z d.owner d.kind) n.1
      ∙ ap (and_then (λ (v : Owner). named_kind_tree given done v (string_bytes n.0) d.kind)) is.owner
      ∙ ap (λ (z : Name). named_kind_tree given done w z d.kind) n.2
      ∙ ap (named_kind_tree given done w x) is.kind

  -- ---- arenas that grow

  pub grows_self : (a : List TypeDef) → IsWhole owners given a → Grows owners given a a
  grows_self a whole = record { more = []; grown = sym (append-nil a); whole = whole }

  pub grows_through : (a b c : List TypeDef) → Grows owners given a b → Grows owners given b c → Grows owners given a c
  grows_through a b c g h = record {
    more = g.more ++ h.more;
    grown = h.grown ∙ ap (λ (z : List TypeDef). z ++ h.more) g.grown ∙ append_assoc a g.more h.more;
    whole = h.whole;
  }

  pub ref_grown : (a b : List TypeDef) (r : Ref) (t : Tree) → Grows owners given a b → ref_tree (trees owners given a) r ≡ Some t → ref_tree (trees owners given b) r ≡ Some t
  ref_grown a b r t g h = subst (λ (z : List TypeDef). ref_tree (trees owners given z) r ≡ Some t) (sym g.grown) (ref_kept owners given a g.more r t h)

  pub part_grown : (a b : List TypeDef) (p : Option Ref) (t : TreeOption) → Grows owners given a b → part_tree (trees owners given a) p ≡ Some t → part_tree (trees owners given b) p ≡ Some t
  part_grown a b p t g h = subst (λ (z : List TypeDef). part_tree (trees owners given z) p ≡ Some t) (sym g.grown) (part_kept owners given a g.more p t h)

  -- a type that has a tree is put behind the others
  pub put : (a : List TypeDef) (d : TypeDef) (t : Tree) → IsWhole owners given a → def_tree owners given (trees owners given a) d ≡ Some t
      → Grows owners given a (a ++ d ∷ []) × HasTree owners given (a ++ d ∷ []) (length a) t
  put a d t whole e = (record { more = d ∷ []; grown = refl; whole = whole_more owners given a d t whole e }, added owners given a d t e)

  -- a type without a name stands for what its parts stand for
  pub interned : (a b : List TypeDef) (k : ShapeTree) (s : Span) (r : Ref) (t : Tree) → IsWhole owners given a → Interns a k s b r → shape_tree (trees owners given a) k ≡ Some t
      → Grows owners given a b × (ref_tree (trees owners given b) r ≡ Some t)
  interned a b k s r t whole (there i d at unnamed same) h = (
    record { more = []; grown = same ∙ sym (append-nil a); whole = subst (IsWhole owners given) (sym same) whole },
    subst (λ (z : List TypeDef). HasTree owners given z i t) (sym same) (stands_at owners given a i d t whole at (unnamed_tree (trees owners given a) k d unnamed ∙ h)),
  )
  interned a b k s r t whole (fresh d unnamed span last none) h =
      let p = put a d t whole (unnamed_tree (trees owners given a) k d unnamed ∙ h) in
      (subst (Grows owners given a) (sym last) p.0, subst (λ (z : List TypeDef). HasTree owners given z (length a) t) (sym last) p.1)
