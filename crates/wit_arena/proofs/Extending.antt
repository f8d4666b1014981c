-- What is brought into an arena comes behind what was there.
use Rattle.std.proofs.Common.{◌≡◌, List, [], ◌∷◌, ◌++◌, Option, append-nil, append_assoc, refl, sym, ap, subst, ◌∙◌}
use Rattle.wit_types.specs.Passed.wit_words-declared-source_map-Span.{Span}
use Rattle.wit_types.specs.declared.kind.«Type».{«Type» as Ref}
use Rattle.wit_types.specs.declared.kind.TypeDefKind.{TypeDefKind}
use Rattle.wit_types.specs.declared.interface.TypeDef.{TypeDef}
use Rattle.wit_type_names.specs.Passed.wit_productions-TypeTree.{TypeTree, TypeShape, TypeOption}
use Rattle.wit_type_names.specs.Passed.wit_items-ItemTree.{TypeDefKindTree}
use Rattle.wit_arena.specs.Table.{Entries}
use Rattle.wit_arena.specs.Shape.{ShapeTree}
use Rattle.wit_arena.specs.Arena.{Interns, there, fresh}
use Rattle.wit_arena.specs.Lower.{Lowers, lowers_primitive, lowers_name, lowers_composed, LowersShape, lowers_list, lowers_fixed_length_list, lowers_option, lowers_tuple, lowers_result, lowers_own, lowers_borrow, lowers_future, lowers_stream, LowersPart, lowers_nothing, lowers_a_type, LowersParts, lowers_none, lowers_more}
use Rattle.wit_arena.specs.LowerKind.{LowersKind, lowers_alias, lowers_record, lowers_flags, lowers_enum, lowers_variant, lowers_resource}

-- it begins with the other
abbrev pub Extends : List TypeDef → List TypeDef → Type 0
Extends a b = (more : List TypeDef) × (b ≡ a ++ more)

pub extends_self : (a : List TypeDef) → Extends a a
extends_self a = ([], sym (append-nil a))

pub extends_through : (a b c : List TypeDef) → Extends a b → Extends b c → Extends a c
extends_through a b c (m, e) (n, f) = (m ++ n, f ∙ ap (λ (x : List TypeDef). x ++ n) e ∙ append_assoc a m n)

pub interned_extends : (a b : List TypeDef) (k : ShapeTree) (s : Span) (r : Ref) → Interns a k s b r → Extends a b
interned_extends a b k s r (there i d at unn same) = subst (Extends a) (sym same) (extends_self a)
interned_extends a b k s r (fresh d unn stands last none) = (d ∷ [], last)

module _ (table : Entries) where
  mutual
    pub lowered_extends : (a b : List TypeDef) (e : TypeTree) (r : Ref) → Lowers table a e b r → Extends a b
    lowered_extends a b e r (lowers_primitive a2 s sh r2 h) = extends_self a2
    lowered_extends a b e r (lowers_name a2 s x i at) = extends_self a2
    lowered_extends a b e r (lowers_composed a2 b2 c2 s sh k r2 low int) = extends_through a2 b2 c2 (shape_extends a2 b2 sh k low) (interned_extends b2 c2 k s r2 int)

    shape_extends : (a b : List TypeDef) (sh : TypeShape) (k : ShapeTree) → LowersShape table a sh b k → Extends a b
    shape_extends a b sh k (lowers_list a2 b2 e r low) = lowered_extends a2 b2 e r low
    shape_extends a b sh k (lowers_fixed_length_list a2 b2 e n r low) = lowered_extends a2 b2 e r low
    shape_extends a b sh k (lowers_option a2 b2 e r low) = lowered_extends a2 b2 e r low
    shape_extends a b sh k (lowers_tuple a2 b2 es rs low) = parts_extend a2 b2 _ _ low
    shape_extends a b sh k (lowers_result a2 b2 c2 ok err r q low more) = extends_through a2 b2 c2 (part_extends a2 b2 ok r low) (part_extends b2 c2 err q more)
    shape_extends a b sh k (lowers_own a2 x i at) = extends_self a2
    shape_extends a b sh k (lowers_borrow a2 x i at) = extends_self a2
    shape_extends a b sh k (lowers_future a2 b2 e r low) = part_extends a2 b2 e r low
    shape_extends a b sh k (lowers_stream a2 b2 e r low) = part_extends a2 b2 e r low

    pub part_extends : (a b : List TypeDef) (e : TypeOption) (r : Option Ref) → LowersPart table a e b r → Extends a b
    part_extends a b e r (lowers_nothing a2) = extends_self a2
    part_extends a b e r (lowers_a_type a2 b2 f q low) = lowered_extends a2 b2 f q low

    pub parts_extend : (a b : List TypeDef) (es : List TypeOption) (rs : List (Option Ref)) → LowersParts table a es b rs → Extends a b
    parts_extend a b es rs (lowers_none a2) = extends_self a2
    parts_extend a b es rs (lowers_more a2 b2 c2 e es2 r rs2 low more) = extends_through a2 b2 c2 (part_extends a2 b2 e r low) (parts_extend b2 c2 es2 rs2 more)

  pub kind_extends : (a b : List TypeDef) (k : TypeDefKindTree) (n : TypeDefKind) → LowersKind table a k b n → Extends a b
  kind_extends a b k n (lowers_alias b2 e r low) = lowered_extends a b2 e r low
  kind_extends a b k n (lowers_record b2 fs r low names) = parts_extend a b2 _ _ low
  kind_extends a b k n (lowers_flags ls f names) = extends_self a
  kind_extends a b k n (lowers_enum ls e names) = extends_self a
  kind_extends a b k n (lowers_variant b2 cs v low names) = parts_extend a b2 _ _ low
  kind_extends a b k n (lowers_resource fs) = extends_self a
