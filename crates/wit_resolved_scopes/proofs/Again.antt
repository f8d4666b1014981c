-- What was brought into an arena adds nothing where it is brought into that again, or into one that begins with it.
use Rattle.std.proofs.Common.{◌≡◌, ℕ, List, length, Option, Some, map, refl, sym, subst}
use Rattle.std.specs.Prelude.{slice_get}
use Rattle.wit_words.specs.declared.source_map.Span.{Span}
use Rattle.wit_types.specs.declared.kind.«Type».{«Type» as Ref}
use Rattle.wit_types.specs.declared.kind.TypeDefKind.{TypeDefKind}
use Rattle.wit_types.specs.declared.interface.TypeDef.{TypeDef}
use Rattle.wit_lookups.specs.Passed.wit_productions-TypeTree.{TypeTree, TypeShape, TypeOption}
use Rattle.wit_lookups.specs.Passed.wit_items-ItemTree.{TypeDefKindTree}
use Rattle.wit_lookups.specs.Passed.wit_scopes-Members.{MemberKind}
use Rattle.wit_resources.specs.Passed.wit_arena-Tree.{Name}
use Rattle.wit_resources.specs.Passed.wit_arena-Table.{Entries}
use Rattle.wit_resources.specs.Passed.wit_arena-Meaning.{Has, parts}
use Rattle.wit_resources.specs.Passed.wit_arena-Shape.{ShapeTree}
use Rattle.wit_resources.specs.Passed.wit_arena-Arena.{Interns, there, fresh}
use Rattle.wit_resources.specs.Passed.wit_arena-Lower.{Lowers, lowers_primitive, lowers_name, lowers_composed, LowersShape, lowers_list, lowers_fixed_length_list, lowers_option, lowers_tuple, lowers_result, lowers_own, lowers_borrow, lowers_future, lowers_stream, LowersPart, lowers_nothing, lowers_a_type, LowersParts, lowers_none, lowers_more}
use Rattle.wit_resources.specs.Passed.wit_arena-LowerKind.{LowersKind, lowers_alias, lowers_record, lowers_flags, lowers_enum, lowers_variant, lowers_resource}
use Rattle.wit_resources.proofs.Passed.wit_arena-Lists.{get_kept, get_last}
use Rattle.wit_resources.proofs.Passed.wit_arena-Extending.{Extends, extends_through, interned_extends, part_extends, parts_extend}
use Rattle.wit_resolved_scopes.specs.Brought.{IsBroughtAs, brought, taken}

-- what stood at a place stands there
pub get_extended : (a b : List TypeDef) (i : ℕ) (d : TypeDef) → Extends a b → slice_get a i ≡ Some d → slice_get b i ≡ Some d
get_extended a b i d (more, e) at = subst (λ (z : List TypeDef). slice_get z i ≡ Some d) (sym e) (get_kept a more i d at)

interned_again : (a b z : List TypeDef) (k : ShapeTree) (s : Span) (r : Ref) → Extends b z → Interns a k s b r → Interns z k s z r
interned_again a b z k s r more (there i d at is same) = there i d (get_extended a z i d (subst (λ (x : List TypeDef). Extends x z) same more) at) is refl
interned_again a b z k s r more (fresh d is stands last none) = there (length a) d (get_extended b z (length a) d more (subst (λ (x : List TypeDef). slice_get x (length a) ≡ Some d) (sym last) (get_last a d))) is refl

-- by more names
module _ (table names : Entries) (among : (e : Name × ℕ) → Has table e → Has names e) (z : List TypeDef) where
  mutual
    pub lowered_again : (a b : List TypeDef) (e : TypeTree) (r : Ref) → Extends b z → Lowers table a e b r → Lowers names z e z r
    lowered_again a b e r more (lowers_primitive a2 s sh r2 h) = lowers_primitive z s sh r2 h
    lowered_again a b e r more (lowers_name a2 s x i at) = lowers_name z s x i (among (x.text, i) at)
    lowered_again a b e r more (lowers_composed a2 b2 c2 s sh k r2 low int) =
        lowers_composed z z z s sh k r2 (shape_again a2 b2 sh k (extends_through b2 c2 z (interned_extends b2 c2 k s r2 int) more) low) (interned_again b2 c2 z k s r2 more int)

    shape_again : (a b : List TypeDef) (sh : TypeShape) (k : ShapeTree) → Extends b z → LowersShape table a sh b k → LowersShape names z sh z k
    shape_again a b sh k more (lowers_list a2 b2 e r low) = lowers_list z z e r (lowered_again a2 b2 e r more low)
    shape_again a b sh k more (lowers_fixed_length_list a2 b2 e n r low) = lowers_fixed_length_list z z e n r (lowered_again a2 b2 e r more low)
    shape_again a b sh k more (lowers_option a2 b2 e r low) = lowers_option z z e r (lowered_again a2 b2 e r more low)
    shape_again a b sh k more (lowers_tuple a2 b2 es rs low) = lowers_tuple z z es rs (parts_again a2 b2 (parts es) (map (λ r. Some r) rs) more low)
    shape_again a b sh k more (lowers_result a2 b2 c2 ok err r q low later) =
        lowers_result z z z ok err r q (part_again a2 b2 ok r (extends_through b2 c2 z (part_extends table b2 c2 err q later) more) low) (part_again b2 c2 err q more later)
    shape_again a b sh k more (lowers_own a2 x i at) = lowers_own z x i (among (x.text, i) at)
    shape_again a b sh k more (lowers_borrow a2 x i at) = lowers_borrow z x i (among (x.text, i) at)
    shape_again a b sh k more (lowers_future a2 b2 p r low) = lowers_future z z p r (part_again a2 b2 p r more low)
    shape_again a b sh k more (lowers_stream a2 b2 p r low) = lowers_stream z z p r (part_again a2 b2 p r more low)

    part_again : (a b : List TypeDef) (p : TypeOption) (r : Option Ref) → Extends b z → LowersPart table a p b r → LowersPart names z p z r
    part_again a b p r more (lowers_nothing a2) = lowers_nothing z
    part_again a b p r more (lowers_a_type a2 b2 e q low) = lowers_a_type z z e q (lowered_again a2 b2 e q more low)

    pub parts_again : (a b : List TypeDef) (ps : List TypeOption) (rs : List (Option Ref)) → Extends b z → LowersParts table a ps b rs → LowersParts names z ps z rs
    parts_again a b ps rs more (lowers_none a2) = lowers_none z
    parts_again a b ps rs more (lowers_more a2 b2 c2 p ps2 r rs2 low later) =
        lowers_more z z z p ps2 r rs2 (part_again a2 b2 p r (extends_through b2 c2 z (parts_extend table b2 c2 ps2 rs2 later) more) low) (parts_again b2 c2 ps2 rs2 more later)

  pub kind_again : (a b : List TypeDef) (t : TypeDefKindTree) (n : TypeDefKind) → Extends b z → LowersKind table a t b n → LowersKind names z t z n
  kind_again a b t n more (lowers_alias b2 e r low) = lowers_alias z e r (lowered_again a b2 e r more low)
  kind_again a b t n more (lowers_record b2 fs r low same) = lowers_record z fs r (parts_again a b2 _ _ more low) same
  kind_again a b t n more (lowers_flags ls f same) = lowers_flags ls f same
  kind_again a b t n more (lowers_enum ls e same) = lowers_enum ls e same
  kind_again a b t n more (lowers_variant b2 cs v low same) = lowers_variant z cs v (parts_again a b2 _ _ more low) same
  kind_again a b t n more (lowers_resource fs) = lowers_resource fs

  pub brought_again : (a : List TypeDef) (k : MemberKind) (n : TypeDefKind) → Extends a z → IsBroughtAs table a k n → IsBroughtAs names z k n
  brought_again a k n more (brought t n2 low) = brought t n2 (kind_again a a t n2 more low)
  brought_again a k n more (taken from y j) = taken from y j
