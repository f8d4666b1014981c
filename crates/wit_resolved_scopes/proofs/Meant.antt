-- What stands in an arena for a scope is what it means.
use Rattle.std.proofs.Common.{◌≡◌, List, [], ◌∷◌, ◌++◌, Option, Some, sym, subst, ap, ◌∙◌}
use Rattle.std.specs.Prelude.{option_map}
use Rattle.wit_types.specs.declared.kind.«Type».{«Type» as Ref}
use Rattle.wit_types.specs.declared.function.Function.{Function}
use Rattle.wit_types.specs.declared.interface.TypeDef.{TypeDef}
use Rattle.wit_lookups.specs.Passed.wit_scopes-Members.{MemberTree}
use Rattle.wit_lookups.specs.Passed.wit_scopes-Scopes.{ItemScope}
use Rattle.wit_resources.specs.Passed.wit_arena-Tree.{Name, PackageText, Place, Owner, Tree, Trees, trees_and}
use Rattle.wit_resources.specs.Passed.wit_arena-Table.{Entries}
use Rattle.wit_resources.specs.Passed.wit_arena-Unfold.{Owners, and_then, part_tree, part_trees, trees, IsWhole}
use Rattle.wit_resources.specs.Passed.wit_arena-Standing.{AreStanding, Grows}
use Rattle.wit_resources.proofs.Passed.wit_arena-Growing.{grows_self, grows_through, part_grown}
use Rattle.wit_resources.proofs.Passed.wit_arena-Meanings.{types_stand_for_their_meaning}
use Rattle.wit_functions.proofs.Passed.wit_package_types-Filled.{filled_types_stand_for_their_meaning}
use Rattle.wit_resolved_scopes.specs.Scope.{functions_among, AddsFunction, adds_function, passes_type, LowersFunctions, no_members, one_more}
use Rattle.wit_resolved_scopes.specs.Each.{Each}
use Rattle.wit_resolved_scopes.specs.Meaning.{written_parts, function_refs, StandsForFunction, StandForFunctions, ResolvedScopesStandForTheirMeaning}
use Rattle.wit_resolved_scopes.proofs.Among.{function_pushed, type_passed}
use Rattle.wit_resolved_scopes.proofs.Eaches.{each_push, each_to}
use Rattle.wit_resolved_scopes.proofs.Orders.{sorted_has}
use Rattle.wit_resolved_scopes.proofs.Results.{split}

module _ (me : PackageText) (scopes : List ItemScope) (given : Owner → Name → Tree) (owners : Owners) where
  parts_grown : (a b : List TypeDef) (rs : List (Option Ref)) (ts : Trees) → Grows owners given a b → part_trees (trees owners given a) rs ≡ Some ts → part_trees (trees owners given b) rs ≡ Some ts
  parts_grown a b [] ts g h = h
  parts_grown a b (r ∷ rs) ts g h =
      let s = split (trees owners given a) (part_tree (trees owners given a) r) (part_trees (trees owners given a) rs) ts h in
      ap (and_then (λ t. option_map (trees_and t) (part_trees (trees owners given b) rs))) (part_grown owners given a b r s.0 g s.2) ∙ ap (option_map (trees_and s.0)) (parts_grown a b rs s.1 g s.3) ∙ ap (λ (us : Trees). Some us) s.4

  module _ (o : Place) where
    pub function_grown : (a b : List TypeDef) → Grows owners given a b → (m : MemberTree) (f : Function) → StandsForFunction me scopes given owners o a m f → StandsForFunction me scopes given owners o b m f
    function_grown a b g m f one = record { parts = one.parts; unfolds = parts_grown a b (function_refs f) one.parts g one.unfolds; mean = one.mean }

    pub functions_grown : (a b : List TypeDef) (ms : List MemberTree) (fs : List Function) → Grows owners given a b → StandForFunctions me scopes given owners o a ms fs → StandForFunctions me scopes given owners o b ms fs
    functions_grown a b ms fs g =
        each_to (StandsForFunction me scopes given owners o a) (StandsForFunction me scopes given owners o b) (functions_among ms) fs (λ m f h k one. function_grown a b g m f one)

    module _ (table : Entries) where
      more_stand : (a b c : List TypeDef) (ms : List MemberTree) (m : MemberTree) (fs gs : List Function) → Grows owners given a b → AreStanding me scopes given owners o table b → StandForFunctions me scopes given owners o b ms fs
          → AddsFunction table b fs m c gs → Grows owners given a c × AreStanding me scopes given owners o table c × StandForFunctions me scopes given owners o c (ms ++ m ∷ []) gs
      more_stand a b c ms m fs gs g right stand (adds_function c2 f of l) =
          let law = types_stand_for_their_meaning me scopes given owners o table in
          let s = law.lowered_parts b c2 (written_parts m) (function_refs f) g.whole right l.signature.types in (
            grows_through owners given a b c2 g s.0,
            law.kept b c2 s.0 right,
            subst (λ (ns : List MemberTree). Each (StandsForFunction me scopes given owners o c2) ns (fs ++ f ∷ [])) (sym (function_pushed ms m of))
                (each_push (StandsForFunction me scopes given owners o c2) (functions_among ms) fs m f (functions_grown b c2 ms fs s.0 stand) (record { parts = s.1.0; unfolds = s.1.1; mean = s.1.2 })),
          )
      more_stand a b c ms m fs gs g right stand (passes_type of) = (g, right, subst (λ (ns : List MemberTree). Each (StandsForFunction me scopes given owners o b) ns fs) (sym (type_passed ms m of)) stand)

      functions_mean : (a b : List TypeDef) (ms : List MemberTree) (fs : List Function) → IsWhole owners given a → AreStanding me scopes given owners o table a → LowersFunctions table a ms b fs
          → Grows owners given a b × AreStanding me scopes given owners o table b × StandForFunctions me scopes given owners o b ms fs
      functions_mean a b ms fs whole right no_members = (grows_self owners given a whole, right, tt)
      functions_mean a b ms fs whole right (one_more ms2 m b2 c fs2 gs l adds) =
          let s = functions_mean a b2 ms2 fs2 whole right l in
          more_stand a b2 c ms2 m fs2 gs s.0 s.1 s.2 adds

pub resolved_scopes_stand : ResolvedScopesStandForTheirMeaning
resolved_scopes_stand me scopes given owners o whose k a b types ms table fs scope whole known r =
    let law = filled_types_stand_for_their_meaning me scopes given owners in
    let types_are = r.types_are in
    let s = law.filled o whose k a r.between types_are.sorted table (record { owner = scope.owner; declared = λ m has. scope.declared m (sorted_has types types_are.sorted types_are.are_sorted m has) }) whole known types_are.fills in
    let f = functions_mean me scopes given owners o table r.between b ms fs s.0.whole s.1 r.functions in
    (grows_through owners given a r.between b s.0 f.0, f.1, f.2)
