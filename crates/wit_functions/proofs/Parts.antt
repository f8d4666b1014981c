-- Parameters and a result, one behind the other.
use Rattle.std.proofs.Common.{◌≡◌, List, [], ◌∷◌, ◌++◌, Option, Some, map, codes, Vec, sym, subst, ap, ◌∙◌}
use Rattle.std.specs.declared.alloc.Global.{Global}
use Rattle.wit_words.specs.Slice.{Slice}
use Rattle.wit_types.specs.declared.kind.«Type».{«Type» as Ref}
use Rattle.wit_types.specs.declared.function.Param.{Param}
use Rattle.wit_types.specs.declared.interface.TypeDef.{TypeDef}
use Rattle.wit_package_types.specs.Passed.wit_productions-TypeTree as written
use Rattle.wit_package_types.specs.Passed.wit_productions-TypeTree.{TypeTree, TypeOption, standing, opt, a_type}
use Rattle.wit_package_types.specs.Passed.wit_items-ItemTree.{ParamTree}
use Rattle.wit_package_types.specs.Passed.wit_type_names-TypeNames.{names_in_part, names_in_parts, param_parts, signature_parts}
use Rattle.wit_package_types.proofs.Passed.wit_scopes-Lists.{flat_map-push}
use Rattle.wit_package_types.specs.Passed.wit_arena-Table.{Entries}
use Rattle.wit_package_types.specs.Passed.wit_arena-Lower.{AreThere, Lowers, LowersPart, lowers_a_type, LowersParts, lowers_none, lowers_more}
use Rattle.wit_package_types.specs.Passed.wit_arena-LowerKind.{Label}
use Rattle.wit_package_types.specs.Passed.wit_arena-LowerParams.{written_param, param_label, LowersParams}
use Rattle.wit_package_types.proofs.Passed.wit_arena-Lists.{has_left, has_right, has_later}
use Rattle.wit_functions.specs.Signature.{with_self, behind, LowersSignature}

module _ (table : Entries) where
  there_left : (xs ys : List Slice) → AreThere table (xs ++ ys) → AreThere table xs
  there_left xs ys there x has = there x (has_left xs ys x has)

  there_right : (xs ys : List Slice) → AreThere table (xs ++ ys) → AreThere table ys
  there_right xs ys there x has = there x (has_right xs ys x has)

  pub there_first : (x : Slice) (xs : List Slice) → AreThere table (behind x xs) → AreThere table (x ∷ [])
  there_first x xs there = there_left (x ∷ []) xs there

  pub there_behind : (x : Slice) (xs : List Slice) → AreThere table (behind x xs) → AreThere table xs
  there_behind x xs there y has = there y (has_later x xs y has)

  signature_there : (ps : List ParamTree) (e : Option TypeTree) → AreThere table (names_in_parts (signature_parts ps e)) → AreThere table (names_in_parts (param_parts ps) ++ names_in_part (opt e))
  signature_there ps e there = subst (AreThere table) (flat_map-push names_in_part (param_parts ps) (opt e)) there

  pub params_there : (ps : List ParamTree) (e : Option TypeTree) → AreThere table (names_in_parts (signature_parts ps e)) → AreThere table (names_in_parts (param_parts ps))
  params_there ps e there = there_left (names_in_parts (param_parts ps)) (names_in_part (opt e)) (signature_there ps e there)

  pub result_there : (ps : List ParamTree) (e : Option TypeTree) → AreThere table (names_in_parts (signature_parts ps e)) → AreThere table (names_in_part (opt e))
  result_there ps e there = there_right (names_in_parts (param_parts ps)) (names_in_part (opt e)) (signature_there ps e there)

  -- parts, and one more behind them
  lowers_push : (a b c : List TypeDef) (ps : List TypeOption) (p : TypeOption) (rs : List (Option Ref)) (r : Option Ref) → LowersParts table a ps b rs → LowersPart table b p c r → LowersParts table a (ps ++ p ∷ []) c (rs ++ r ∷ [])
  lowers_push a b c ps p rs r (lowers_none a2) part = lowers_more a2 c c p [] r [] part (lowers_none c)
  lowers_push a b c ps p rs r (lowers_more a2 d b2 e es q qs first more) part = lowers_more a2 d c e (es ++ p ∷ []) q (qs ++ r ∷ []) first (lowers_push d b2 c es p qs r more part)

  pub signature_is : (a b c : List TypeDef) (ps : List ParamTree) (e : Option TypeTree) (qs : Vec Param Global) (r : Option Ref) → LowersParams table a ps b qs.items → LowersPart table b (opt e) c r
      → LowersSignature table a ps e c (record { params = qs; result = r })
  signature_is a b c ps e qs r params part = record { types = lowers_push a b c (param_parts ps) (opt e) (map (λ q. Some q.ty) qs.items) r params.types part; labels = params.labels }

  -- with the receiver in front
  pub method_is : (a b c d : List TypeDef) (x name : Slice) (ps : List ParamTree) (e : Option TypeTree) (s : Param) (qs : List Param) (all : Vec Param Global) (r : Option Ref) → all.items ≡ s ∷ qs
      → Lowers table a (standing name.span (written.borrow x)) b s.ty → LowersParams table b ps c qs → LowersPart table c (opt e) d r
      → param_label s ≡ written_param (record { name = record { text = codes "self"; span = name.span }; ty = standing name.span (written.borrow x) })
      → LowersSignature table a (with_self x name ps) e d (record { params = all; result = r })
  method_is a b c d x name ps e s qs all r is first params part label =
      let self : TypeOption = a_type (standing name.span (written.borrow x)) in
      record {
        types = subst (λ (zs : List Param). LowersParts table a (self ∷ signature_parts ps e) d (map (λ q. Some q.ty) zs ++ r ∷ [])) (sym is)
            (lowers_more a b d self (signature_parts ps e) (Some s.ty) (map (λ q. Some q.ty) qs ++ r ∷ []) (lowers_a_type a b (standing name.span (written.borrow x)) s.ty first)
            (lowers_push b c d (param_parts ps) (opt e) (map (λ q. Some q.ty) qs) r params.types part));
        labels = ap (map param_label) is ∙ ap (λ (l : Label). l ∷ map param_label qs) label
            ∙ ap (λ (ls : List Label). written_param (record { name = record { text = codes "self"; span = name.span }; ty = standing name.span (written.borrow x) }) ∷ ls) params.labels;
      }
